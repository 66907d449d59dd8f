use Rattle.std.proofs.Common.{◌≡◌, ◌+◌, ◌*◌, map}
use Rattle.nest_memory.specs.TypeOf.{field_of}
use Rattle.ipc_schema.specs.Dictionaries.{progress}
use Rattle.ipc_schema.specs.DictionaryModels.{seen_of}
use Rattle.ipc_schema.specs.FieldVectors.{tables_in_turn, with_fields_done, fields_from}
use Rattle.ipc_schema.specs.Schemas.{spec_field_at}
use Rattle.ipc_schema.proofs.reading.+fields.Given as goal

abbrev pub decreases-field_at : goal.decreases-field_at
decreases-field_at l = 3 * l.depth

abbrev pub decreases-fields_at : goal.decreases-fields_at
decreases-fields_at l = 3 * l.depth + 1

abbrev pub decreases-field_over : goal.decreases-field_over
decreases-field_over l = 3 * l.depth + 2

abbrev pub invariant-fields_at-loop-i : goal.invariant-fields_at-loop-i
invariant-fields_at-loop-i l =
    with_fields_done (map field_of l.fields.items) (fields_from (spec_field_at l.depth l.bytes) l.bytes l.items.count l.items.first l.i (progress l.rest (seen_of l.seen))) ≡ tables_in_turn (spec_field_at l.depth l.bytes) l.bytes l.items.count l.items.first (progress l.left (seen_of l.initial.seen))
