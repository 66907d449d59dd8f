-- The schema that metadata decodes to (Schema.fbs: tables Schema, Field, Int, KeyValue).
use Rattle.std.specs.Prelude.{ℕ, zero, suc, pos, Bool, true, false, ◌&&◌, not, List, [], ◌∷◌, map, length, Option, Some, None, is_some, Result, Ok, Err, nat_lt, ◌==◌, if◌then◌else◌}
use Rattle.std.specs.BTreeMap.{insert_entry}
use Rattle.std.specs.Cmp.Lexicographic.{slice_cmp}
use Rattle.std.specs.Ordering.{nat_cmp, int_eq}
use Rattle.std.specs.Int.{w8, w16}
use Rattle.nest_memory.specs.TypeOf.{entries_of, field_of}
use Rattle.nest_memory.specs.TypeTree.{Letters, Entries, TypeTree, FieldTree}
use Rattle.ipc_flatbuf.specs.ReadResults.{◌>>=◌, check}
use Rattle.ipc_flatbuf.specs.declared.error.IpcReadError.{IpcReadError}
use Rattle.ipc_flatbuf.specs.declared.error.IpcReadError.TheVariants.{MissingSchema, BodyLength, Endianness, Depth, ChildCount, UnsupportedType, Metadata}
use Rattle.ipc_flatbuf.specs.Flatbuffers as words
use Rattle.ipc_flatbuf.specs.Flatbuffers.{number_at, signed_at, spec_offset_field, spec_read_table, spec_str_at, spec_items_at, tables_at}
use Rattle.ipc_flatbuf.specs.declared.vectors.VectorItems.{VectorItems}
use Rattle.ipc_flatbuf.specs.Messages.{MessageModel, message_at}
use Rattle.ipc_flatbuf.specs.declared.message.types.MessageKind.{MessageKind}
use Rattle.ipc_flatbuf.specs.declared.message.types.MessageKind.TheVariants as kinds
use Rattle.ipc_schema.specs.declared.schema.Schema.{Schema}
use Rattle.ipc_schema.specs.declared.schema.SchemaWithDictionaries.{SchemaWithDictionaries}
use Rattle.ipc_schema.specs.declared.dictionaries.Encoding.{Encoding}
use Rattle.ipc_schema.specs.declared.reading.Keys.{Keys}
use Rattle.ipc_schema.specs.Dictionaries.{DictionaryTypesModel, Progress, no_dictionaries, progress, spec_record_id, spec_record_values, spec_with_encoding, spec_dictionary_at}
use Rattle.ipc_schema.specs.DictionaryModels.{seen_of}
use Rattle.ipc_schema.specs.FieldVectors.{tables_in_turn}
use Rattle.ipc_schema.specs.Extensions.{spec_names_reserved, field_with_metadata}
use Rattle.ipc_schema.specs.Types.{spec_type_position, spec_shape_at, spec_can_have, spec_with_children}
use Rattle.ipc_schema.specs.StoredTypes.{read_field}
use Rattle.ipc_schema.specs.Unions.{have_union, spec_check_version}
unfoldable pub use Rattle.ipc_schema.specs.Types.{spec_integer_at}

-- ---- custom metadata

-- a pair has a key and a value
unfoldable pub spec_pair_at : List ℕ → ℕ → ℕ → Result ((Letters × Letters) × ℕ) IpcReadError
spec_pair_at bytes position left = do
  table ← spec_read_table bytes position left
  to ← spec_offset_field bytes table.0 0
  key ← spec_str_at bytes to table.1
  to' ← spec_offset_field bytes table.0 1
  value ← spec_str_at bytes to' key.1
  both ← check (is_some to && is_some to') Metadata
  Ok ((key.0, value.0), value.1)

-- the pairs sorted by keys; the last of equal keys replaces the others
abbrev pub with_pairs : Entries → List (Letters × Letters) → Entries
with_pairs entries [] = entries
with_pairs entries (pair ∷ pairs) = with_pairs (insert_entry (slice_cmp nat_cmp) entries pair.0 pair.1) pairs

abbrev pub with_all : Result (List (Letters × Letters) × ℕ) IpcReadError → Result (Entries × ℕ) IpcReadError
with_all read = read >>= λ pairs. Ok (with_pairs [] pairs.0, pairs.1)

unfoldable pub spec_metadata_at : List ℕ → Option ℕ → ℕ → Result (Entries × ℕ) IpcReadError
spec_metadata_at bytes position left = do
  items ← spec_items_at 4 bytes position left
  with_all (tables_at (spec_pair_at bytes) bytes items.0.count items.0.first items.1)

-- ---- fields

-- the type of a field by its value type and its encoding; before ids precede its own
abbrev pub field_of_type : Letters → Bool → Entries → Option Encoding → ℕ → DictionaryTypesModel → Result TypeTree IpcReadError → Result (FieldTree × DictionaryTypesModel) IpcReadError
field_of_type name nullable entries dictionary before seen type = do
  values ← type
  named ← spec_record_values dictionary values before seen
  Ok (field_with_metadata name (spec_with_encoding dictionary values) nullable entries, named)

-- the same by the Keys of the reader
abbrev pub field_of_keys : Letters → Bool → Entries → Keys → DictionaryTypesModel → Result TypeTree IpcReadError → Result (FieldTree × DictionaryTypesModel) IpcReadError
field_of_keys name nullable entries keys seen type = field_of_type name nullable entries keys.dictionary keys.before seen type

-- a field, whose children are read by read; its metadata does not name the extension type of a floating-point type
abbrev pub spec_field_over : (ℕ → Progress → Result (FieldTree × Progress) IpcReadError) → List ℕ → ℕ → Progress → Result (FieldTree × Progress) IpcReadError
spec_field_over read bytes position so_far = do
  table ← spec_read_table bytes position so_far.left
  to ← spec_offset_field bytes table.0 0
  name ← spec_str_at bytes to table.1
  nullable ← words.field (number_at w8 bytes) 0 bytes table.0 1
  tag ← words.field (number_at w8 bytes) 0 bytes table.0 2
  to ← spec_offset_field bytes table.0 3
  kind ← spec_type_position tag to
  to ← spec_offset_field bytes table.0 5
  children ← spec_items_at 4 bytes to name.1
  shape ← spec_shape_at kind.0 children.0.count bytes kind.1 children.1
  to ← spec_offset_field bytes table.0 4
  dictionary ← spec_dictionary_at bytes to shape.1
  counted ← check (spec_can_have shape.0 children.0.count) ChildCount
  fields ← tables_in_turn read bytes children.0.count children.0.first (progress dictionary.1 (spec_record_id dictionary.0 so_far.seen))
  to ← spec_offset_field bytes table.0 6
  metadata ← spec_metadata_at bytes to fields.1.left
  own ← check (not (spec_names_reserved metadata.0)) UnsupportedType
  whole ← field_of_type name.0 (nat_lt 0 nullable) metadata.0 dictionary.0 (length so_far.seen.ids) fields.1.seen (spec_with_children shape.0 fields.0)
  Ok (whole.0, progress metadata.1 whole.1)

-- a field with its descendants, to a depth
unfoldable pub spec_field_at : ℕ → List ℕ → ℕ → Progress → Result (FieldTree × Progress) IpcReadError
spec_field_at zero bytes position so_far = Err Depth
spec_field_at (suc depth) bytes position so_far = spec_field_over (spec_field_at depth bytes) bytes position so_far

-- the fields of a vector
abbrev pub spec_fields_of_items : ℕ → List ℕ → VectorItems → Progress → Result (List FieldTree × Progress) IpcReadError
spec_fields_of_items depth bytes items so_far = tables_in_turn (spec_field_at depth bytes) bytes items.count items.first so_far

-- ---- schemas

-- the value of a Schema
pub record SchemaModel : Type 0 where
  pub fields : List FieldTree
  pub metadata : Entries

-- a schema as it is stored and its dictionaries: the ids in pre-order, and their value types
unfoldable pub spec_schema_at : List ℕ → ℕ → ℕ → Result ((SchemaModel × DictionaryTypesModel) × ℕ) IpcReadError
spec_schema_at bytes position left = do
  table ← spec_read_table bytes position left
  endianness ← words.field (signed_at w16 bytes) (pos 0) bytes table.0 0
  little ← check (int_eq endianness (pos 0)) Endianness
  to ← spec_offset_field bytes table.0 1
  items ← spec_items_at 4 bytes to table.1
  fields ← tables_in_turn (spec_field_at 64 bytes) bytes items.0.count items.0.first (progress items.1 no_dictionaries)
  to ← spec_offset_field bytes table.0 2
  metadata ← spec_metadata_at bytes to fields.1.left
  Ok ((record { fields = fields.0; metadata = metadata.0 }, fields.1.seen), metadata.1)

-- a schema message, which has no body
abbrev pub is_schema : MessageKind → Bool
is_schema kinds.Schema = true
is_schema kinds.DictionaryBatch = false
is_schema kinds.RecordBatch = false

abbrev pub schema_parts : Option MessageModel → Result MessageModel IpcReadError
schema_parts None = Err MissingSchema
schema_parts (Some parts) = if is_schema parts.root.kind then (if parts.root.body_length == 0 then Ok parts else Err BodyLength) else Err MissingSchema

-- a schema as it is read
abbrev pub spec_read_schema : SchemaModel → SchemaModel
spec_read_schema s = record { fields = map read_field s.fields; metadata = s.metadata }

-- the schema of a stream as it is stored, and the bytes after its message
unfoldable pub stored_schema_of_stream : List ℕ → Result ((SchemaModel × DictionaryTypesModel) × List ℕ) IpcReadError
stored_schema_of_stream bytes = do
  first ← message_at bytes
  parts ← schema_parts first.0
  schema ← spec_schema_at parts.metadata parts.root.header parts.root.left
  allowed ← spec_check_version parts.root.version (have_union (map read_field schema.0.0.fields))
  Ok (schema.0, first.1)

-- the schema of a stream as it is read, and the bytes after its message
unfoldable pub stream_schema_at : List ℕ → Result ((SchemaModel × DictionaryTypesModel) × List ℕ) IpcReadError
stream_schema_at bytes = stored_schema_of_stream bytes >>= λ x. Ok ((spec_read_schema x.0.0, x.0.1), x.1)

-- the value of a Rust Schema
abbrev pub schema_of : Schema → SchemaModel
schema_of s = record { fields = map field_of s.fields.items; metadata = entries_of s.metadata.entries }

abbrev pub schema_with_dictionaries_of : SchemaWithDictionaries → SchemaModel × DictionaryTypesModel
schema_with_dictionaries_of s = (schema_of s.schema, seen_of s.dictionaries)
