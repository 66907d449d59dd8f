use Rattle.std.proofs.Common.{◌≡◌, ◌+◌, ◌≤◌, length, map, take}
use Rattle.std.specs.Prelude.{vec_capacity}
use Rattle.nest_array.specs.Seen.{layout_of}
use Rattle.nest_concat.specs.Interleaved.{slot_windows}
use Rattle.nest_concat.specs.Joined.{AreArrays}
use Rattle.nest_concat.proofs.mixed.windows.Given as goal

abbrev pub invariant-loop-place : goal.invariant-loop-place
invariant-loop-place l =
    record {
      room : length l.indices + 1 ≤ vec_capacity l.windows;
      long : length l.windows.items ≡ l.place-index + 1;
      gathered : l.windows.items ≡ slot_windows (map layout_of l.arrays) (take l.place-index l.indices);
      fit : AreArrays l.windows.items;
    }
