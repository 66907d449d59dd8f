use Rattle.std.proofs.Common.{◌≡◌, ◌+◌, take}
use Rattle.nest_model.specs.BuilderAddRow.{items_of_lengths}
use Rattle.nest_build.proofs.list.mutable.end_there.Given as goal

abbrev pub invariant-loop-items : goal.invariant-loop-items
invariant-loop-items l = l.end ≡ l.from + items_of_lengths (take l.items-index l.lengths)
