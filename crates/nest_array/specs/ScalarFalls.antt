-- Size bounds of scalars: the parts of a scalar are smaller than it.
use Rattle.std.specs.Prelude.{◌+◌, ◌≤◌, List as Seq, [], ◌∷◌}
use Rattle.std.proofs.Common.{arith}
use denote.Param.Weighed.{most}
use Rattle.nest_array.specs.declared.scalar.AnyScalar.TheDeep.{deep-ScalarValue}
use Rattle.nest_array.specs.declared.scalar.ScalarValue.{ScalarValue}
use Rattle.nest_array.specs.declared.scalar.ScalarValue.TheVariants.{Null, Boolean, Native, Text, Bytes, List, Struct, Pick}
use Rattle.nest_model.specs.Slot.{node_count, count_within}
use Rattle.nest_array.specs.ScalarParts.{ScalarParts, slots_in}
use Rattle.nest_array.specs.SeenScalar.{slot_of_value}

most-nodes : (ps : Seq ScalarParts) → most (λ p. node_count p.slot + 1) ps ≤ count_within (slots_in ps) + 1
most-nodes [] = omega arith
most-nodes (p ∷ ps) = omega (arith, most-nodes ps)

pub deep-nodes : (v : ScalarValue) → deep-ScalarValue v ≤ node_count (slot_of_value v)
deep-nodes Null = omega arith
deep-nodes (Boolean b) = omega arith
deep-nodes (Native x) = omega arith
deep-nodes (Text s) = omega arith
deep-nodes (Bytes v) = omega arith
deep-nodes (List a) = omega arith
deep-nodes (Struct v) = omega (arith, most-nodes v.items)
deep-nodes (Pick f b) = omega arith
