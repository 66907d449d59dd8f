use Rattle.std.proofs.Common.{◌≡◌, ℕ, ◌<◌, length, slice_index_or}
use Rattle.nest_memory.specs.TypeOf.{field_of}
use Rattle.nest_memory.specs.declared.datatypes.field.Field.{Field}
use Rattle.ipc_schema.specs.StoredTypes.{read_field}
use Rattle.ipc_schema.proofs.stored_types.+reading.Given as goal

abbrev pub invariant-fields_read-loop-field : goal.invariant-fields_read-loop-field
invariant-fields_read-loop-field l = goal.unvisited-fields_read-loop-field l × ((k : ℕ) (d : Field) → k < l.field-index → k < length l.field-items → field_of (slice_index_or l.field-items k d) ≡ read_field (field_of (slice_index_or l.fn.fields.items k d)))
