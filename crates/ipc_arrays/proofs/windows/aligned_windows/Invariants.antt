use Rattle.std.proofs.Common.{◌≡◌, ◌≤◌, length, take}
use Rattle.std.specs.Prelude.{vec_capacity}
use Rattle.nest_array.specs.Seen.{layouts_of}
use Rattle.ipc_arrays.specs.Encoding.{each_window}
use Rattle.ipc_arrays.proofs.windows.aligned_windows.Given as goal

abbrev pub invariant-loop-array : goal.invariant-loop-array
invariant-loop-array l = record {
  room : length l.arrays ≤ vec_capacity l.windows;
  long : length l.windows.items ≡ l.array-index;
  taken : l.windows.items ≡ each_window (layouts_of (take l.array-index l.arrays)) l.offset l.count;
}
