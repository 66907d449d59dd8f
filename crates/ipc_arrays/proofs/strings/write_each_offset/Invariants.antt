use Rattle.std.proofs.Common.{◌≡◌, ◌+◌, ◌++◌, map, take}
use Rattle.std.specs.List.{AllByRecursion}
use Rattle.nest_memory.specs.Native.{unsigned}
use Rattle.ipc_arrays.specs.FixedWidth.{offset_format, values_bytes}
use Rattle.ipc_arrays.specs.FixedWidthLaws.{ValueRoundTrips}
use Rattle.ipc_arrays.specs.Encoding.{rebased}
use Rattle.ipc_arrays.proofs.strings.write_each_offset.Given as goal

abbrev pub invariant-loop-i : goal.invariant-loop-i
invariant-loop-i g l = record {
  written : l.out.items ≡ l.fn.out.items ++ values_bytes (offset_format g.O.Offset.IS_LARGE) (map unsigned (take (l.i + 1) (rebased l.offsets)));
  round_trips : AllByRecursion (ValueRoundTrips (offset_format g.O.Offset.IS_LARGE)) (map unsigned (take (l.i + 1) (rebased l.offsets)));
}
