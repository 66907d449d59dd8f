use Rattle.std.proofs.Common.{◌≡◌, ◌++◌, map, take}
use Rattle.std.specs.List.{AllByRecursion}
use Rattle.ipc_arrays.specs.FixedWidth.{values_bytes}
use Rattle.ipc_arrays.specs.FixedWidthLaws.{ValueRoundTrips}
use Rattle.ipc_arrays.proofs.native.write_each.Given as goal

abbrev pub invariant-loop-value : goal.invariant-loop-value
invariant-loop-value g l = record {
  written : l.out.items ≡ l.initial.out.items ++ values_bytes g.T.FixedWidth.format (map g.T.NativeType.numbers (take l.value-index l.values));
  round_trips : AllByRecursion (ValueRoundTrips g.T.FixedWidth.format) (map g.T.NativeType.numbers (take l.value-index l.values));
}
