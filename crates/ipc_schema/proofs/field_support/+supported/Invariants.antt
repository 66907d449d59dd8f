use Rattle.std.proofs.Common.{◌≡◌, ◌+◌, ◌*◌, map}
use Rattle.ipc_schema.specs.FieldVectors.{tables_in_turn, with_fields_done, fields_from}
use Rattle.ipc_schema.specs.FieldSupport.{field_support_of, spec_support_at}
use Rattle.ipc_schema.proofs.field_support.+supported.Given as goal

abbrev pub decreases-support_at : goal.decreases-support_at
decreases-support_at l = 3 * l.depth

abbrev pub decreases-support_of_items : goal.decreases-support_of_items
decreases-support_of_items l = 3 * l.depth + 1

abbrev pub decreases-support_over : goal.decreases-support_over
decreases-support_over l = 3 * l.depth + 2

abbrev pub invariant-support_of_items-loop-i : goal.invariant-support_of_items-loop-i
invariant-support_of_items-loop-i l =
    with_fields_done (map field_support_of l.fields.items) (fields_from (spec_support_at l.depth l.bytes) l.bytes l.items.count l.items.first l.i l.rest) ≡ tables_in_turn (spec_support_at l.depth l.bytes) l.bytes l.items.count l.items.first l.left
