-- The bytes of a schema. Each table follows its vtable, the parts that it refers to follow it, and each part is a multiple
-- of 8 bytes (Schema.fbs).
use Rattle.std.specs.Prelude.{ℕ, zero, suc, ◌+◌, ◌-◌, ◌*◌, ℤ, Bool, List, [], ◌∷◌, ◌++◌, map, length, Option, Some, None, if◌then◌else◌}
use Rattle.std.specs.Int.{from_bool}
use Rattle.nest_memory.specs.Physical.{integer_tree}
use Rattle.nest_memory.specs.TypeTree as types
use Rattle.nest_memory.specs.TypeTree.{Letters, Entries, TypeTree, FieldTree, field}
use Rattle.nest_memory.specs.declared.datatypes.TimeUnit.{TimeUnit}
use Rattle.nest_memory.specs.declared.datatypes.TimeUnit.TheVariants.{Second, Millisecond, Microsecond, Nanosecond}
use Rattle.nest_memory.specs.declared.datatypes.IntervalUnit.{IntervalUnit}
use Rattle.nest_memory.specs.declared.datatypes.IntervalUnit.TheVariants.{YearMonth, DayTime, MonthDayNano}
use Rattle.nest_memory.specs.declared.datatypes.UnionMode.{UnionMode}
use Rattle.nest_memory.specs.declared.datatypes.UnionMode.TheVariants.{Dense, Sparse}
use Rattle.ipc_flatbuf.specs.PartBytes.{u32_bytes, i32_bytes, i64_bytes, string_bytes, table_vector_bytes, vector_bytes, offsets_size, padding_zeros}
use Rattle.ipc_flatbuf.specs.MessageBytes.{message_bytes}
use Rattle.ipc_flatbuf.specs.declared.message.types.MessageKind.TheVariants as kinds
use Rattle.nest_memory.specs.Floats.{spec_precision_of, spec_is_float}
use Rattle.ipc_schema.specs.Floats.{spec_precision_number}
use Rattle.nest_memory.specs.declared.datatypes.floats.Precision.{Precision}
use Rattle.ipc_schema.specs.Types.{spec_children_of}
use Rattle.ipc_schema.specs.declared.dictionaries.Encoding.{Encoding}
use Rattle.ipc_schema.specs.Extensions.{spec_table_type, all_metadata_of}
use Rattle.ipc_schema.specs.DictionaryIds.{spec_encoding_of, next_after_own, count_dictionaries, each_from}
use Rattle.ipc_schema.specs.Schemas.{SchemaModel}

-- table KeyValue, at 8
unfoldable pub pair_bytes : Letters × Letters → List ℕ
pair_bytes pair =
    (8 ∷ 0 ∷ 12 ∷ 0 ∷ 4 ∷ 0 ∷ 8 ∷ 0 ∷ 8 ∷ 0 ∷ 0 ∷ 0 ∷ 12 ∷ 0 ∷ 0 ∷ 0 ∷ [])
    ++ (u32_bytes (8 + length (string_bytes pair.0)) ++ ((0 ∷ 0 ∷ 0 ∷ 0 ∷ []) ++ (string_bytes pair.0 ++ string_bytes pair.1)))

abbrev pub entries_bytes : Entries → List ℕ
entries_bytes entries = table_vector_bytes 8 (map pair_bytes entries)

-- ---- types

-- the tables of types are at 12: one without fields
unfoldable pub no_field : List ℕ
no_field = 4 ∷ 0 ∷ 4 ∷ 0 ∷ 0 ∷ 0 ∷ 0 ∷ 0 ∷ 0 ∷ 0 ∷ 0 ∷ 0 ∷ 12 ∷ 0 ∷ 0 ∷ 0 ∷ []

-- one with a number in its first field
unfoldable pub one_field : ℕ → List ℕ
one_field a = (6 ∷ 0 ∷ 8 ∷ 0 ∷ 4 ∷ 0 ∷ 0 ∷ 0 ∷ 0 ∷ 0 ∷ 0 ∷ 0 ∷ 12 ∷ 0 ∷ 0 ∷ 0 ∷ []) ++ (u32_bytes a ++ (0 ∷ 0 ∷ 0 ∷ 0 ∷ []))

-- one with numbers in its first two fields
unfoldable pub two_fields : ℕ → ℕ → List ℕ
two_fields a b = (8 ∷ 0 ∷ 12 ∷ 0 ∷ 4 ∷ 0 ∷ 8 ∷ 0 ∷ 0 ∷ 0 ∷ 0 ∷ 0 ∷ 12 ∷ 0 ∷ 0 ∷ 0 ∷ []) ++ (u32_bytes a ++ u32_bytes b)

-- one with numbers in its first three fields
unfoldable pub three_fields : ℕ → ℕ → ℕ → List ℕ
three_fields a b c =
    (10 ∷ 0 ∷ 16 ∷ 0 ∷ 4 ∷ 0 ∷ 8 ∷ 0 ∷ 12 ∷ 0 ∷ 0 ∷ 0 ∷ 12 ∷ 0 ∷ 0 ∷ 0 ∷ []) ++ (u32_bytes a ++ (u32_bytes b ++ (u32_bytes c ++ (0 ∷ 0 ∷ 0 ∷ 0 ∷ []))))

abbrev pub spec_unit_number : TimeUnit → ℕ
spec_unit_number Second = 0
spec_unit_number Millisecond = 1
spec_unit_number Microsecond = 2
spec_unit_number Nanosecond = 3

abbrev pub spec_interval_number : IntervalUnit → ℕ
spec_interval_number YearMonth = 0
spec_interval_number DayTime = 1
spec_interval_number MonthDayNano = 2

-- table Timestamp, followed by the time zone
unfoldable pub timestamp_bytes : TimeUnit → Option Letters → List ℕ
timestamp_bytes unit None = one_field (spec_unit_number unit)
timestamp_bytes unit (Some zone) = two_fields (spec_unit_number unit) 4 ++ string_bytes zone

abbrev pub spec_mode_number : UnionMode → ℕ
spec_mode_number Sparse = 0
spec_mode_number Dense = 1

-- a vector of type ids with its padding
unfoldable pub ids_bytes : List ℤ → List ℕ
ids_bytes ids = vector_bytes i32_bytes ids ++ padding_zeros (offsets_size (length ids) - (4 + 4 * length ids))

-- table Union, followed by its type ids
unfoldable pub union_bytes : Option (List ℤ) → UnionMode → List ℕ
union_bytes None mode = one_field (spec_mode_number mode)
union_bytes (Some ids) mode = two_fields (spec_mode_number mode) 4 ++ ids_bytes ids

-- table FloatingPoint
unfoldable pub float_bytes : Option Precision → List ℕ
float_bytes None = []
float_bytes (Some precision) = one_field (spec_precision_number precision)

-- the table of a type, without fields that have their defaults; empty for a type that cannot be written
unfoldable pub type_bytes : TypeTree → List ℕ
type_bytes types.null = no_field
type_bytes types.boolean = no_field
type_bytes types.int8 = two_fields 8 1
type_bytes types.int16 = two_fields 16 1
type_bytes types.int32 = two_fields 32 1
type_bytes types.int64 = two_fields 64 1
type_bytes types.uint8 = two_fields 8 0
type_bytes types.uint16 = two_fields 16 0
type_bytes types.uint32 = two_fields 32 0
type_bytes types.uint64 = two_fields 64 0
type_bytes (types.timestamp unit zone) = timestamp_bytes unit zone
type_bytes types.date32 = one_field 0
type_bytes types.date64 = one_field 1
type_bytes (types.time32 unit) = two_fields (spec_unit_number unit) 32
type_bytes (types.time64 unit) = two_fields (spec_unit_number unit) 64
type_bytes (types.duration unit) = one_field (spec_unit_number unit)
type_bytes (types.interval unit) = one_field (spec_interval_number unit)
type_bytes types.binary = no_field
type_bytes (types.fixed_size_binary size) = one_field size
type_bytes types.large_binary = no_field
type_bytes types.utf8 = no_field
type_bytes types.large_utf8 = no_field
type_bytes (types.list f) = no_field
type_bytes (types.fixed_size_list f size) = one_field size
type_bytes (types.large_list f) = no_field
type_bytes (types.struct fs) = no_field
type_bytes (types.union fs ids mode) = union_bytes ids mode
type_bytes (types.map f sorted) = one_field (from_bool sorted)
type_bytes (types.decimal digits after) = two_fields digits after
type_bytes (types.decimal256 digits after) = three_fields digits after 256
type_bytes (types.extension title type metadata) = float_bytes (spec_precision_of (types.extension title type metadata))
type_bytes t = []

-- the tag of a type (union Type)
unfoldable pub spec_type_number : TypeTree → ℕ
spec_type_number types.null = 1
spec_type_number types.boolean = 6
spec_type_number types.int8 = 2
spec_type_number types.int16 = 2
spec_type_number types.int32 = 2
spec_type_number types.int64 = 2
spec_type_number types.uint8 = 2
spec_type_number types.uint16 = 2
spec_type_number types.uint32 = 2
spec_type_number types.uint64 = 2
spec_type_number (types.timestamp _ _) = 10
spec_type_number types.date32 = 8
spec_type_number types.date64 = 8
spec_type_number (types.time32 unit) = 9
spec_type_number (types.time64 unit) = 9
spec_type_number (types.duration unit) = 18
spec_type_number (types.interval unit) = 11
spec_type_number types.binary = 4
spec_type_number (types.fixed_size_binary size) = 15
spec_type_number types.large_binary = 19
spec_type_number types.utf8 = 5
spec_type_number types.large_utf8 = 20
spec_type_number (types.list f) = 12
spec_type_number (types.fixed_size_list f size) = 16
spec_type_number (types.large_list f) = 21
spec_type_number (types.struct fs) = 13
spec_type_number (types.union fs ids mode) = 14
spec_type_number (types.map f sorted) = 17
spec_type_number (types.decimal digits after) = 7
spec_type_number (types.decimal256 digits after) = 7
spec_type_number (types.extension title type metadata) = if spec_is_float (types.extension title type metadata) then 3 else 0
spec_type_number t = 0

-- ---- fields

-- table DictionaryEncoding, at 16, the target of the first four bytes, followed by the type of the keys
unfoldable pub encoding_head : ℤ → Bool → List ℕ
encoding_head id ordered =
    (16 ∷ 0 ∷ 0 ∷ 0 ∷ 10 ∷ 0 ∷ 20 ∷ 0 ∷ 8 ∷ 0 ∷ 4 ∷ 0 ∷ 16 ∷ 0 ∷ 0 ∷ 0 ∷ 12 ∷ 0 ∷ 0 ∷ 0 ∷ 32 ∷ 0 ∷ 0 ∷ 0 ∷ []) ++ (i64_bytes id ++ (from_bool ordered ∷ 0 ∷ 0 ∷ 0 ∷ 0 ∷ 0 ∷ 0 ∷ 0 ∷ []))

unfoldable pub encoding_part : Encoding → List ℕ
encoding_part e = encoding_head e.id e.is_ordered ++ type_bytes (integer_tree e.key)

-- the encoding of a field, empty where it is not dictionary-encoded
abbrev pub encoding_bytes : Option Encoding → List ℕ
encoding_bytes None = []
encoding_bytes (Some e) = encoding_part e

-- the size of the table of a field, and the offset of the field dictionary in it
abbrev pub spec_table_len : Option Encoding → ℕ
spec_table_len None = 24
spec_table_len (Some e) = 28

abbrev pub spec_dictionary_slot : Option Encoding → ℕ
spec_dictionary_slot None = 0
spec_dictionary_slot (Some e) = 24

-- table Field, at 24, up to its first offset
unfoldable pub field_vtable : Option Encoding → List ℕ
field_vtable dictionary =
    18 ∷ 0 ∷ spec_table_len dictionary ∷ 0 ∷ 4 ∷ 0 ∷ 20 ∷ 0 ∷ 21 ∷ 0 ∷ 8 ∷ 0 ∷ spec_dictionary_slot dictionary ∷ 0 ∷ 12 ∷ 0 ∷ 16 ∷ 0 ∷ 0 ∷ 0 ∷ 0 ∷ 0 ∷ 0 ∷ 0 ∷ 24 ∷ 0 ∷ 0 ∷ 0 ∷ []

-- the parts of a field from 48: its dictionary, its type with the table 12 bytes into it, its children, name and metadata
unfoldable pub field_head : Bool → ℕ → Option Encoding → ℕ → ℕ → ℕ → ℕ → List ℕ
field_head nullable tag dictionary behind_dictionary behind_type behind_children behind_name =
    field_vtable dictionary ++ (u32_bytes (20 + behind_children) ++ (u32_bytes (28 + behind_dictionary) ++ (u32_bytes (12 + behind_type) ++ (u32_bytes (8 + behind_name) ++ (from_bool nullable ∷ tag ∷ 0 ∷ 0 ∷ [])))))

unfoldable pub field_parts : Bool → ℕ → Option Encoding → List ℕ → List ℕ → List ℕ → List ℕ → List ℕ
field_parts nullable tag dictionary type children name metadata =
    let d : ℕ = length (encoding_bytes dictionary) in
    field_head nullable tag dictionary d (d + length type) (d + length type + length children) (d + length type + length children + length name) ++ (encoding_bytes dictionary ++ (type ++ (children ++ (name ++ metadata))))

-- a field with its encoding, the type of its table, and the bytes of its children
abbrev pub parts_of_field : Bool → Option Encoding → TypeTree → List ℕ → Letters → Entries → List ℕ
parts_of_field nullable dictionary type children name entries = field_parts nullable (spec_type_number type) dictionary (type_bytes type) children (string_bytes name) (entries_bytes entries)

-- a field with its descendants, to a depth; its dictionaries have the ids from next on
unfoldable pub field_bytes : ℕ → ℕ → FieldTree → List ℕ
field_bytes zero next f = []
field_bytes (suc depth) next (field name type nullable entries) =
    parts_of_field nullable (spec_encoding_of next type) (spec_table_type type) (table_vector_bytes 24 (each_from (count_dictionaries depth) (field_bytes depth) (next_after_own type next) (spec_children_of (spec_table_type type)))) name (all_metadata_of type entries)

-- each field with its descendants, to a depth
abbrev pub each_bytes : ℕ → ℕ → List FieldTree → List (List ℕ)
each_bytes depth next fields = each_from (count_dictionaries depth) (field_bytes depth) next fields

abbrev pub fields_bytes : List FieldTree → List ℕ
fields_bytes fields = table_vector_bytes 24 (each_bytes 64 0 fields)

-- table Schema, at 16
unfoldable pub schema_bytes : List ℕ → List ℕ → List ℕ
schema_bytes fields metadata =
    (10 ∷ 0 ∷ 12 ∷ 0 ∷ 0 ∷ 0 ∷ 4 ∷ 0 ∷ 8 ∷ 0 ∷ 0 ∷ 0 ∷ 0 ∷ 0 ∷ 0 ∷ 0 ∷ 16 ∷ 0 ∷ 0 ∷ 0 ∷ 12 ∷ 0 ∷ 0 ∷ 0 ∷ [])
    ++ (u32_bytes (8 + length fields) ++ ((0 ∷ 0 ∷ 0 ∷ 0 ∷ []) ++ (fields ++ metadata)))

-- the schema message
unfoldable pub schema_message : SchemaModel → List ℕ
schema_message s = message_bytes kinds.Schema 0 16 (schema_bytes (fields_bytes s.fields) (entries_bytes s.metadata))
