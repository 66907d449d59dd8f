-- Fields whose types are not supported (Schema.fbs, union Type: RunEndEncoded, ListView, LargeListView). Only names, types and children are read.
use Rattle.std.specs.Prelude.{ℕ, zero, suc, List, [], ◌∷◌, ◌++◌, length, map, codes, Option, Some, None, option_map, Result, Ok, Err, ◌==◌, if◌then◌else◌}
use Rattle.std.specs.Int.{w8}
use Rattle.ipc_flatbuf.specs.ReadResults.{◌>>=◌}
use Rattle.ipc_flatbuf.specs.declared.error.IpcReadError.{IpcReadError}
use Rattle.ipc_flatbuf.specs.declared.error.IpcReadError.TheVariants.{Depth}
use Rattle.ipc_flatbuf.specs.Flatbuffers as words
use Rattle.ipc_flatbuf.specs.Flatbuffers.{number_at, spec_offset_field, spec_read_table, spec_str_at, spec_items_at}
use Rattle.ipc_flatbuf.specs.declared.vectors.VectorItems.{VectorItems}
use Rattle.ipc_flatbuf.specs.Messages.{MessageModel}
use Rattle.ipc_schema.specs.FieldVectors.{tables_in_turn}
use Rattle.ipc_schema.specs.Schemas.{schema_parts}
use Rattle.ipc_schema.specs.declared.field_support.FieldSupport as declared
use Rattle.ipc_schema.specs.declared.field_support.UnsupportedField as fields
use Rattle.ipc_schema.specs.declared.field_support.UnsupportedType.{UnsupportedType}
use Rattle.ipc_schema.specs.declared.field_support.UnsupportedType.TheVariants.{RunEndEncoded, ListView, LargeListView}

-- an unsupported field: its name, then the names of the fields that it is in, and its type
pub record UnsupportedFieldModel : Type 0 where
  pub names : List (List ℕ)
  pub type : UnsupportedType

-- a field: its name, and the first unsupported field in pre-order among it and its descendants
pub record FieldSupportModel : Type 0 where
  pub name : List ℕ
  pub unsupported : Option UnsupportedFieldModel

-- the numbers of the union Type
abbrev pub spec_unsupported_type : ℕ → Option UnsupportedType
spec_unsupported_type n = if n == 22 then Some RunEndEncoded else (if n == 25 then Some ListView else (if n == 26 then Some LargeListView else None))

-- as pyarrow has it
abbrev pub spec_type_name : UnsupportedType → List ℕ
spec_type_name RunEndEncoded = codes "run_end_encoded"
spec_type_name ListView = codes "list_view"
spec_type_name LargeListView = codes "large_list_view"

abbrev pub or_else : Option UnsupportedFieldModel → Option UnsupportedFieldModel → Option UnsupportedFieldModel
or_else (Some field) other = Some field
or_else None other = other

abbrev pub first_unsupported : List FieldSupportModel → Option UnsupportedFieldModel
first_unsupported [] = None
first_unsupported (f ∷ fs) = or_else f.unsupported (first_unsupported fs)

-- a descendant of a field
abbrev pub in_field : List ℕ → UnsupportedFieldModel → UnsupportedFieldModel
in_field name field = record { names = field.names ++ name ∷ []; type = field.type }

-- a name after k others
abbrev pub name_after : ℕ → List ℕ → List ℕ
name_after zero name = name
name_after (suc k) name = 46 ∷ name

-- the names of a field and of the fields that it is in, joined by dots, that of the column first
abbrev pub path_of : List (List ℕ) → List ℕ
path_of [] = []
path_of (name ∷ names) = path_of names ++ name_after (length names) name

abbrev pub support_of : List ℕ → Option UnsupportedType → List FieldSupportModel → FieldSupportModel
support_of name (Some type) children = record { name = name; unsupported = Some (record { names = name ∷ []; type = type }) }
support_of name None children = record { name = name; unsupported = option_map (in_field name) (first_unsupported children) }

-- a field, whose children are read by read
abbrev pub spec_support_over : (ℕ → ℕ → Result (FieldSupportModel × ℕ) IpcReadError) → List ℕ → ℕ → ℕ → Result (FieldSupportModel × ℕ) IpcReadError
spec_support_over read bytes position left = do
  table ← spec_read_table bytes position left
  to ← spec_offset_field bytes table.0 0
  name ← spec_str_at bytes to table.1
  tag ← words.field (number_at w8 bytes) 0 bytes table.0 2
  to ← spec_offset_field bytes table.0 5
  children ← spec_items_at 4 bytes to name.1
  inside ← tables_in_turn read bytes children.0.count children.0.first children.1
  Ok (support_of name.0 (spec_unsupported_type tag) inside.0, inside.1)

-- a field with its descendants, to a depth
unfoldable pub spec_support_at : ℕ → List ℕ → ℕ → ℕ → Result (FieldSupportModel × ℕ) IpcReadError
spec_support_at zero bytes position left = Err Depth
spec_support_at (suc depth) bytes position left = spec_support_over (spec_support_at depth bytes) bytes position left

-- the fields of a vector
abbrev pub spec_support_of_items : ℕ → List ℕ → VectorItems → ℕ → Result (List FieldSupportModel × ℕ) IpcReadError
spec_support_of_items depth bytes items left = tables_in_turn (spec_support_at depth bytes) bytes items.count items.first left

-- the columns of the schema whose table is at a position
unfoldable pub spec_columns_support_at : List ℕ → ℕ → ℕ → Result (List FieldSupportModel) IpcReadError
spec_columns_support_at bytes position left = do
  table ← spec_read_table bytes position left
  to ← spec_offset_field bytes table.0 1
  items ← spec_items_at 4 bytes to table.1
  columns ← spec_support_of_items 64 bytes items.0 items.1
  Ok columns.0

-- the columns of the schema of a stream, by its first message
unfoldable pub spec_columns_support : Option MessageModel → Result (List FieldSupportModel) IpcReadError
spec_columns_support first = schema_parts first >>= λ parts. spec_columns_support_at parts.metadata parts.root.header parts.root.left

-- ---- the values of Rust types

abbrev pub unsupported_field_of : fields.UnsupportedField → UnsupportedFieldModel
unsupported_field_of field = record { names = map (λ name. name.now) field.names.items; type = field.data_type }

abbrev pub field_support_of : declared.FieldSupport → FieldSupportModel
field_support_of field = record { name = field.name.now; unsupported = option_map unsupported_field_of field.unsupported }
