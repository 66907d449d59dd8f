use Rattle.std.proofs.Common.{◌≡◌, ℕ, ◌+◌, ◌*◌, ◌<◌, length, get_or}
use Rattle.nest_model.specs.Layout.{weight, weight_all}
use Rattle.nest_array.specs.declared.any.AnyArray.{AnyArray}
use Rattle.nest_array.specs.ScalarParts.{ScalarParts}
use Rattle.nest_array.specs.Seen.{layout_of, layouts_of}
use Rattle.nest_array.proofs.Scalars.{scalar_at}
use Rattle.nest_array.proofs.scalar.new.+new_scalar.Given as goal

abbrev pub decreases-new_scalar : goal.decreases-new_scalar
decreases-new_scalar l = 4 * weight (layout_of l.array.now) + 3

abbrev pub decreases-value_at : goal.decreases-value_at
decreases-value_at l = 4 * weight (layout_of l.array.now) + 2

abbrev pub decreases-record_at : goal.decreases-record_at
decreases-record_at l = 4 * weight l.records.now + 1

abbrev pub decreases-pick_at : goal.decreases-pick_at
decreases-pick_at l = 4 * weight l.picks.now + 1

abbrev pub decreases-keyed_at : goal.decreases-keyed_at
decreases-keyed_at l = 4 * weight l.keyed.now + 1

abbrev pub decreases-scalars_at : goal.decreases-scalars_at
decreases-scalars_at l = 4 * weight_all (layouts_of l.arrays.now)

abbrev pub invariant-scalars_at-loop-k : goal.invariant-scalars_at-loop-k
invariant-scalars_at-loop-k l =
    record {
      same_length : length l.scalars.items ≡ l.k;
      done : (j : ℕ) (d : ScalarParts) (e : AnyArray) → j < l.k → get_or l.scalars.items j d ≡ scalar_at (get_or l.arrays j e) l.i;
    }
