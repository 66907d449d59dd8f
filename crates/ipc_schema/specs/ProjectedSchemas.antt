-- The projection of a schema: the fields that are read, and whether each field is read or skipped.
use Rattle.std.specs.Prelude.{ℕ, zero, suc, ◌+◌, pos, Bool, true, false, List, [], ◌∷◌, ◌++◌, map, Option, Result, Ok}
use Rattle.std.specs.List.{list_any}
use Rattle.std.specs.Int.{w16}
use Rattle.std.specs.Ordering.{int_eq}
use Rattle.nest_memory.specs.TypeTree.{FieldTree}
use Rattle.ipc_flatbuf.specs.ReadResults.{◌>>=◌, check}
use Rattle.ipc_flatbuf.specs.declared.error.IpcReadError.{IpcReadError}
use Rattle.ipc_flatbuf.specs.declared.error.IpcReadError.TheVariants.{Endianness}
use Rattle.ipc_flatbuf.specs.declared.projection.SkippedField.{SkippedField}
use Rattle.ipc_flatbuf.specs.declared.projection.FieldAction.{FieldAction}
use Rattle.ipc_flatbuf.specs.declared.projection.FieldAction.TheVariants.{Read, Skip}
use Rattle.ipc_flatbuf.specs.declared.projection.StoredArray.{StoredArray}
use Rattle.ipc_flatbuf.specs.declared.projection.StoredArray.TheVariants.{Skipped}
use Rattle.ipc_flatbuf.specs.Flatbuffers as words
use Rattle.ipc_flatbuf.specs.Flatbuffers.{signed_at, spec_offset_at, spec_offset_field, spec_read_table, spec_items_at}
use Rattle.ipc_flatbuf.specs.declared.vectors.VectorItems.{VectorItems}
use Rattle.ipc_flatbuf.specs.Messages.{MessageModel, message_at}
use Rattle.ipc_flatbuf.specs.declared.message.types.MetadataVersion as versions
use Rattle.nest_memory.specs.TypeOf.{field_of}
use Rattle.ipc_schema.specs.declared.projected.ProjectedSchema.{ProjectedSchema}
use Rattle.ipc_schema.specs.declared.projected.Parts.{Parts}
use Rattle.ipc_schema.specs.declared.projected.Item as declared
use Rattle.ipc_schema.specs.declared.projected.Item.TheVariants as items
use Rattle.ipc_schema.specs.Dictionaries.{DictionaryTypesModel, Progress, no_dictionaries, progress}
use Rattle.ipc_schema.specs.DictionaryModels.{seen_of}
use Rattle.ipc_schema.specs.Schemas.{SchemaModel, spec_metadata_at, spec_field_at, schema_of, schema_parts}
use Rattle.ipc_schema.specs.SkippedFields.{spec_skipped_field_at}
use Rattle.ipc_schema.specs.StoredTypes.{read_field}
use Rattle.ipc_schema.specs.StoredArrays.{field_arrays}
use Rattle.ipc_schema.specs.Projections.{ProjectionModel, spec_contains_field}
use Rattle.ipc_schema.specs.Unions.{have_union, spec_check_version}

-- ---- fields

-- a field of a schema that is read, as it is stored, or skipped
pub data ProjectedItem : Type 0 where
  read : FieldTree → ProjectedItem
  passed : SkippedField → ProjectedItem

-- whether each field is read or skipped, the fields that are read, and how the arrays of all are stored
pub record ProjectedFields : Type 0 where
  pub steps : List FieldAction
  pub fields : List FieldTree
  pub arrays : List StoredArray

abbrev pub no_fields : ProjectedFields
no_fields = record { steps = []; fields = []; arrays = [] }

abbrev pub with_item : ProjectedItem → ProjectedFields → ProjectedFields
with_item (read f) others = record { steps = Read ∷ others.steps; fields = read_field f ∷ others.fields; arrays = field_arrays f ++ others.arrays }
with_item (passed s) others = record { steps = Skip s ∷ others.steps; fields = others.fields; arrays = Skipped s ∷ others.arrays }

abbrev pub spec_item_by : Bool → List ℕ → ℕ → Progress → Result (ProjectedItem × Progress) IpcReadError
spec_item_by true bytes position so_far = spec_field_at 64 bytes position so_far >>= λ f. Ok (read f.0, f.1)
spec_item_by false bytes position so_far = spec_skipped_field_at 64 bytes position so_far.left >>= λ s. Ok (passed s.0, progress s.1 so_far.seen)

-- the field with index i
abbrev pub spec_item_at : ProjectionModel → List ℕ → ℕ → ℕ → Progress → Result (ProjectedItem × Progress) IpcReadError
spec_item_at picks bytes i position so_far = spec_contains_field picks bytes i position so_far.left >>= λ picked. spec_item_by picked bytes position so_far

-- the fields that n offsets refer to, the first of which has index i
unfoldable pub spec_projected_fields_at : ProjectionModel → List ℕ → ℕ → ℕ → ℕ → Progress → Result (ProjectedFields × Progress) IpcReadError
spec_projected_fields_at picks bytes i zero position so_far = Ok (no_fields, so_far)
spec_projected_fields_at picks bytes i (suc n) position so_far = do
  to ← spec_offset_at bytes position
  first ← spec_item_at picks bytes i to so_far
  others ← spec_projected_fields_at picks bytes (i + 1) n (position + 4) first.1
  Ok (with_item first.0 others.0, others.1)

-- the fields of a vector
abbrev pub spec_projected_fields_of_items : ProjectionModel → List ℕ → VectorItems → Progress → Result (ProjectedFields × Progress) IpcReadError
spec_projected_fields_of_items picks bytes vector so_far = spec_projected_fields_at picks bytes 0 vector.count vector.first so_far

-- the fields of the first, then of the second
abbrev pub joined_fields : ProjectedFields → ProjectedFields → ProjectedFields
joined_fields p q = record { steps = p.steps ++ q.steps; fields = p.fields ++ q.fields; arrays = p.arrays ++ q.arrays }

-- ---- schemas

-- the value of a ProjectedSchema
pub record ProjectedSchemaModel : Type 0 where
  pub schema : SchemaModel
  pub steps : List FieldAction
  pub arrays : List StoredArray
  pub seen : DictionaryTypesModel

abbrev pub spec_has_union : FieldAction → Bool
spec_has_union Read = false
spec_has_union (Skip s) = s.has_union

-- metadata of version V4 does not support unions, also in skipped fields
abbrev pub spec_check_projected_version : versions.MetadataVersion → List FieldTree → List FieldAction → Result (Unit {0}) IpcReadError
spec_check_projected_version version fields steps = spec_check_version version (have_union fields) >>= λ read. spec_check_version version (list_any spec_has_union steps)

unfoldable pub spec_projected_schema_at : ProjectionModel → List ℕ → ℕ → ℕ → Result (ProjectedSchemaModel × ℕ) IpcReadError
spec_projected_schema_at picks bytes position left = do
  table ← spec_read_table bytes position left
  endianness ← words.field (signed_at w16 bytes) (pos 0) bytes table.0 0
  little ← check (int_eq endianness (pos 0)) Endianness
  to ← spec_offset_field bytes table.0 1
  items ← spec_items_at 4 bytes to table.1
  picked ← spec_projected_fields_at picks bytes 0 items.0.count items.0.first (progress items.1 no_dictionaries)
  to ← spec_offset_field bytes table.0 2
  metadata ← spec_metadata_at bytes to picked.1.left
  Ok (record { schema = record { fields = picked.0.fields; metadata = metadata.0 }; steps = picked.0.steps; arrays = picked.0.arrays; seen = picked.1.seen }, metadata.1)

-- the projection of the schema of the first message of a stream
unfoldable pub spec_projected_schema_in_message : ProjectionModel → Option MessageModel → Result ProjectedSchemaModel IpcReadError
spec_projected_schema_in_message picks first = do
  parts ← schema_parts first
  picked ← spec_projected_schema_at picks parts.metadata parts.root.header parts.root.left
  allowed ← spec_check_projected_version parts.root.version picked.0.schema.fields picked.0.steps
  Ok picked.0

-- the projection of the schema of a stream, and the bytes after its message
unfoldable pub stream_projected_schema_at : ProjectionModel → List ℕ → Result (ProjectedSchemaModel × List ℕ) IpcReadError
stream_projected_schema_at picks bytes = do
  first ← message_at bytes
  picked ← spec_projected_schema_in_message picks first.0
  Ok (picked, first.1)

-- ---- values of Rust types

abbrev pub item_of : declared.Item → ProjectedItem
item_of (items.Read f) = read (field_of f)
item_of (items.Passed s) = passed s

abbrev pub fields_model_of : Parts → ProjectedFields
fields_model_of p = record { steps = p.steps.items; fields = map field_of p.fields.items; arrays = p.arrays.items }

abbrev pub projected_schema_of : ProjectedSchema → ProjectedSchemaModel
projected_schema_of s = record { schema = schema_of s.schema; steps = s.steps.items; arrays = s.arrays.items; seen = seen_of s.dictionaries }
