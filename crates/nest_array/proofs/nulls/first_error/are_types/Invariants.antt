use Rattle.std.proofs.Common.{◌≡◌, drop}
use Rattle.nest_model.specs.Nulls.{are_ids}
use Rattle.nest_array.proofs.nulls.first_error.are_types.Given as goal

abbrev pub invariant-loop-i : goal.invariant-loop-i
invariant-loop-i l = are_ids l.ids ≡ are_ids (drop l.i l.ids)
