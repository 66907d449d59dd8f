use Rattle.std.proofs.Common.{◌+◌, ◌*◌}
use Rattle.nest_model.specs.Layout.{weight, weight_all}
use Rattle.nest_array.specs.Seen.{layout_of, layouts_of}
use Rattle.ipc.proofs.UnionOffsets.{PastLeft}
use Rattle.ipc.proofs.union_offsets.+dense.Given as goal

abbrev pub decreases-union_offsets_overflow : goal.decreases-union_offsets_overflow
decreases-union_offsets_overflow l = 2 * weight (layout_of l.values.now) + 1

abbrev pub decreases-any_overflows : goal.decreases-any_overflows
decreases-any_overflows l = 2 * weight_all (layouts_of l.values.now)

abbrev pub invariant-any_overflows-loop-x : goal.invariant-any_overflows-loop-x
invariant-any_overflows-loop-x l = PastLeft l.values l.more l.x-iterator.a.rest.now l.x-iterator.b.rest.now
