use Rattle.std.proofs.Common.{◌≡◌, ◌+◌, ◌*◌, ◌↔◌, drop}
use Rattle.nest_model.specs.Slot.{node_count, count_within}
use Rattle.nest_array.specs.ScalarParts.{slots_in}
use Rattle.nest_array.proofs.scalar.equality.+same.Given as goal

abbrev pub decreases-are_same : goal.decreases-are_same
decreases-are_same l = 3 * node_count l.a.now.slot + 2

abbrev pub decreases-same_value : goal.decreases-same_value
decreases-same_value l = 3 * node_count l.a.now.slot + 1

abbrev pub decreases-same_values : goal.decreases-same_values
decreases-same_values l = 3 * count_within (slots_in l.xs.now) + 2

abbrev pub invariant-same_values-loop-k : goal.invariant-same_values-loop-k
invariant-same_values-loop-k l = (slots_in l.xs ≡ slots_in l.ys) ↔ (slots_in (drop l.k l.xs) ≡ slots_in (drop l.k l.ys))
