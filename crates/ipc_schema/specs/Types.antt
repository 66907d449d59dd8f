-- The data type of a type tag and a type table (Schema.fbs, union Type and its tables).
use Rattle.std.specs.Prelude.{ℕ, ℤ, pos, negsuc, Bool, true, false, ◌&&◌, not, List, [], ◌∷◌, length, Option, Some, None, Result, Ok, Err, nat_le, nat_lt, ◌==◌, if◌then◌else◌}
use Rattle.std.specs.Int.{w8, w16, w32}
use Rattle.std.specs.List.{list_all}
use Rattle.nest_memory.specs.Physical.{integer_tree}
use Rattle.nest_memory.specs.TypeTree as types
use Rattle.nest_memory.specs.TypeOf.{field_trees}
use Rattle.nest_memory.specs.TypeTree.{Letters, TypeTree, FieldTree, FieldTrees, no_fields, more_fields, field_type, is_pair}
use Rattle.nest_memory.specs.declared.datatypes.IntegerType.{IntegerType}
use Rattle.nest_memory.specs.declared.datatypes.IntegerType.TheVariants.{Int8, Int16, Int32, Int64, UInt8, UInt16, UInt32, UInt64}
use Rattle.nest_memory.specs.declared.datatypes.TimeUnit.{TimeUnit}
use Rattle.nest_memory.specs.declared.datatypes.TimeUnit.TheVariants.{Second, Millisecond, Microsecond, Nanosecond}
use Rattle.nest_memory.specs.declared.datatypes.IntervalUnit.{IntervalUnit}
use Rattle.nest_memory.specs.declared.datatypes.IntervalUnit.TheVariants.{YearMonth, DayTime, MonthDayNano}
use Rattle.nest_memory.specs.declared.datatypes.UnionMode.{UnionMode}
use Rattle.nest_memory.specs.declared.datatypes.UnionMode.TheVariants.{Dense, Sparse}
use Rattle.ipc_flatbuf.specs.ReadResults.{◌>>=◌, check}
use Rattle.ipc_flatbuf.specs.declared.error.IpcReadError.{IpcReadError}
use Rattle.ipc_flatbuf.specs.declared.error.IpcReadError.TheVariants.{MissingType, UnknownType, UnsupportedType, TypeRange, UnionIds, ChildCount, MapEntries}
use Rattle.ipc_flatbuf.specs.Flatbuffers as words
use Rattle.ipc_flatbuf.specs.Flatbuffers.{spec_non_negative, number_at, signed_at, spec_offset_field, spec_read_table, spec_read_string, vector_at}
use Rattle.nest_memory.specs.Floats.{spec_float_type}
use Rattle.ipc_schema.specs.Floats.{spec_numbered_precision}
use Rattle.ipc_schema.specs.StoredTypes.{spec_binary_view, spec_utf8_view, spec_decimal32, spec_decimal64}
use Rattle.ipc_schema.specs.declared.type_tags.LeafTag.{LeafTag}
use Rattle.ipc_schema.specs.declared.type_tags.LeafTag.TheVariants as leaves
use Rattle.ipc_schema.specs.declared.type_tags.Tag.{Tag}
use Rattle.ipc_schema.specs.declared.type_tags.Tag.TheVariants as tags

-- ---- tags

-- the supported types of the union Type
abbrev pub spec_known_tag : ℕ → Result Tag IpcReadError
spec_known_tag n =
    if n == 1 then Ok (tags.Leaf leaves.Null)
    else (if n == 2 then Ok (tags.Leaf leaves.Int)
    else (if n == 3 then Ok (tags.Leaf leaves.FloatingPoint)
    else (if n == 4 then Ok (tags.Leaf leaves.Binary)
    else (if n == 5 then Ok (tags.Leaf leaves.Utf8)
    else (if n == 6 then Ok (tags.Leaf leaves.Bool)
    else (if n == 7 then Ok (tags.Leaf leaves.Decimal)
    else (if n == 8 then Ok (tags.Leaf leaves.Date)
    else (if n == 9 then Ok (tags.Leaf leaves.Time)
    else (if n == 10 then Ok (tags.Leaf leaves.Timestamp)
    else (if n == 11 then Ok (tags.Leaf leaves.Interval)
    else (if n == 12 then Ok tags.List
    else (if n == 13 then Ok tags.Struct
    else (if n == 14 then Ok tags.Union
    else (if n == 15 then Ok (tags.Leaf leaves.FixedSizeBinary)
    else (if n == 16 then Ok tags.FixedSizeList
    else (if n == 17 then Ok tags.Map
    else (if n == 18 then Ok (tags.Leaf leaves.Duration)
    else (if n == 19 then Ok (tags.Leaf leaves.LargeBinary)
    else (if n == 20 then Ok (tags.Leaf leaves.LargeUtf8)
    else (if n == 21 then Ok tags.LargeList
    else (if n == 23 then Ok (tags.Leaf leaves.BinaryView)
    else (if n == 24 then Ok (tags.Leaf leaves.Utf8View)
    else Err UnsupportedType))))))))))))))))))))))

-- the type of a tag: 0 is NONE, the last one is 26
abbrev pub spec_tag_of : ℕ → Result Tag IpcReadError
spec_tag_of n = if n == 0 then Err MissingType else (if nat_lt 26 n then Err UnknownType else spec_known_tag n)

-- the type of a field and the position of its table
abbrev pub spec_type_position : ℕ → Option ℕ → Result (Tag × ℕ) IpcReadError
spec_type_position n None = Err MissingType
spec_type_position n (Some position) = spec_tag_of n >>= λ tag. Ok (tag, position)

-- ---- tables

-- a type without its children
pub data Shape : Type 0 where
  -- a type without children
  leaf : TypeTree → Shape
  list : Shape
  large_list : Shape
  -- the size of the lists
  fixed_size_list : ℕ → Shape
  struct : Shape
  -- whether its keys are sorted
  map : Bool → Shape
  -- the type ids, where they are present, and the mode
  union : Option (List ℤ) → UnionMode → Shape

-- Null, Bool, Binary and other tables without fields
unfoldable pub spec_bare_at : {A : Type 0} → A → List ℕ → ℕ → ℕ → Result (A × ℕ) IpcReadError
spec_bare_at type bytes position left = spec_read_table bytes position left >>= λ table. Ok (type, table.1)

-- the integer type of a bit width
abbrev pub spec_integer_of : ℕ → Bool → Result IntegerType IpcReadError
spec_integer_of bits signed =
    if bits == 8 then Ok (if signed then Int8 else UInt8)
    else (if bits == 16 then Ok (if signed then Int16 else UInt16) else (if bits == 32 then Ok (if signed then Int32 else UInt32) else (if bits == 64 then Ok (if signed then Int64 else UInt64) else Err TypeRange)))

-- table Int
unfoldable pub spec_integer_at : List ℕ → ℕ → ℕ → Result (IntegerType × ℕ) IpcReadError
spec_integer_at bytes position left = do
  table ← spec_read_table bytes position left
  width ← words.field (signed_at w32 bytes) (pos 0) bytes table.0 0
  sign ← words.field (number_at w8 bytes) 0 bytes table.0 1
  bits ← spec_non_negative TypeRange width
  type ← spec_integer_of bits (nat_lt 0 sign)
  Ok (type, table.1)

-- table FloatingPoint
unfoldable pub spec_float_at : List ℕ → ℕ → ℕ → Result (TypeTree × ℕ) IpcReadError
spec_float_at bytes position left = do
  table ← spec_read_table bytes position left
  number ← words.field (signed_at w16 bytes) (pos 0) bytes table.0 0
  n ← spec_non_negative TypeRange number
  precision ← spec_numbered_precision n
  Ok (spec_float_type precision, table.1)

-- a precision from 1 to the number of digits that always fit in the width (Schema.fbs, table Decimal: two's complement)
abbrev pub spec_is_precision : ℕ → ℕ → Bool
spec_is_precision most digits = nat_le 1 digits && nat_le digits most

-- each number of 9 digits fits in 32 bits, of 18 digits in 64 bits, of 38 digits in 128 bits, of 76 digits in 256 bits
abbrev pub most_digits32 : ℕ
most_digits32 = 9

abbrev pub most_digits64 : ℕ
most_digits64 = 18

abbrev pub most_digits : ℕ
most_digits = 38

abbrev pub most_digits256 : ℕ
most_digits256 = 76

-- decimals of a precision and scale, in 32, 64, 128 or 256 bits
abbrev pub spec_decimal_of : ℕ → ℕ → ℕ → Result TypeTree IpcReadError
spec_decimal_of digits after bits =
    if bits == 128 then (if spec_is_precision most_digits digits then Ok (types.decimal digits after) else Err TypeRange)
    else (if bits == 256 then (if spec_is_precision most_digits256 digits then Ok (types.decimal256 digits after) else Err TypeRange)
    else (if bits == 32 then (if spec_is_precision most_digits32 digits then Ok (spec_decimal32 digits after) else Err TypeRange)
    else (if bits == 64 then (if spec_is_precision most_digits64 digits then Ok (spec_decimal64 digits after) else Err TypeRange) else Err TypeRange)))

-- table Decimal
unfoldable pub spec_decimal_at : List ℕ → ℕ → ℕ → Result (TypeTree × ℕ) IpcReadError
spec_decimal_at bytes position left = do
  table ← spec_read_table bytes position left
  precision ← words.field (signed_at w32 bytes) (pos 0) bytes table.0 0
  scale ← words.field (signed_at w32 bytes) (pos 0) bytes table.0 1
  width ← words.field (signed_at w32 bytes) (pos 128) bytes table.0 2
  digits ← spec_non_negative TypeRange precision
  after ← spec_non_negative TypeRange scale
  bits ← spec_non_negative TypeRange width
  type ← spec_decimal_of digits after bits
  Ok (type, table.1)

-- enum DateUnit: days in 32 bits, milliseconds in 64
abbrev pub spec_date_of : ℕ → Result TypeTree IpcReadError
spec_date_of n = if n == 0 then Ok types.date32 else (if n == 1 then Ok types.date64 else Err TypeRange)

-- table Date
unfoldable pub spec_date_at : List ℕ → ℕ → ℕ → Result (TypeTree × ℕ) IpcReadError
spec_date_at bytes position left = do
  table ← spec_read_table bytes position left
  unit ← words.field (signed_at w16 bytes) (pos 1) bytes table.0 0
  n ← spec_non_negative TypeRange unit
  type ← spec_date_of n
  Ok (type, table.1)

-- enum TimeUnit
abbrev pub spec_unit_of : ℕ → Result TimeUnit IpcReadError
spec_unit_of n = if n == 0 then Ok Second else (if n == 1 then Ok Millisecond else (if n == 2 then Ok Microsecond else (if n == 3 then Ok Nanosecond else Err TypeRange)))

-- 32-bit times are in seconds or milliseconds
abbrev pub spec_is_coarse : TimeUnit → Bool
spec_is_coarse Second = true
spec_is_coarse Millisecond = true
spec_is_coarse Microsecond = false
spec_is_coarse Nanosecond = false

-- times since midnight: 32 bits for seconds and milliseconds, 64 bits for the other units
abbrev pub spec_time_of : TimeUnit → ℕ → Result TypeTree IpcReadError
spec_time_of unit bits = if (bits == 32) && spec_is_coarse unit then Ok (types.time32 unit) else (if (bits == 64) && not (spec_is_coarse unit) then Ok (types.time64 unit) else Err TypeRange)

-- table Time
unfoldable pub spec_time_at : List ℕ → ℕ → ℕ → Result (TypeTree × ℕ) IpcReadError
spec_time_at bytes position left = do
  table ← spec_read_table bytes position left
  unit ← words.field (signed_at w16 bytes) (pos 1) bytes table.0 0
  width ← words.field (signed_at w32 bytes) (pos 32) bytes table.0 1
  n ← spec_non_negative TypeRange unit
  known ← spec_unit_of n
  bits ← spec_non_negative TypeRange width
  type ← spec_time_of known bits
  Ok (type, table.1)

-- the time zone, None where it is absent
unfoldable pub spec_zone_at : List ℕ → Option ℕ → ℕ → Result (Option Letters × ℕ) IpcReadError
spec_zone_at bytes None left = Ok (None, left)
spec_zone_at bytes (Some position) left = spec_read_string bytes position left >>= λ zone. Ok (Some zone.0, zone.1)

-- table Timestamp
unfoldable pub spec_timestamp_at : List ℕ → ℕ → ℕ → Result (TypeTree × ℕ) IpcReadError
spec_timestamp_at bytes position left = do
  table ← spec_read_table bytes position left
  unit ← words.field (signed_at w16 bytes) (pos 0) bytes table.0 0
  to ← spec_offset_field bytes table.0 1
  zone ← spec_zone_at bytes to table.1
  n ← spec_non_negative TypeRange unit
  known ← spec_unit_of n
  Ok (types.timestamp known zone.0, zone.1)

-- enum IntervalUnit
abbrev pub spec_interval_of : ℕ → Result IntervalUnit IpcReadError
spec_interval_of n = if n == 0 then Ok YearMonth else (if n == 1 then Ok DayTime else (if n == 2 then Ok MonthDayNano else Err TypeRange))

-- table Interval
unfoldable pub spec_interval_at : List ℕ → ℕ → ℕ → Result (TypeTree × ℕ) IpcReadError
spec_interval_at bytes position left = do
  table ← spec_read_table bytes position left
  unit ← words.field (signed_at w16 bytes) (pos 0) bytes table.0 0
  n ← spec_non_negative TypeRange unit
  known ← spec_interval_of n
  Ok (types.interval known, table.1)

-- table Duration
unfoldable pub spec_duration_at : List ℕ → ℕ → ℕ → Result (TypeTree × ℕ) IpcReadError
spec_duration_at bytes position left = do
  table ← spec_read_table bytes position left
  unit ← words.field (signed_at w16 bytes) (pos 1) bytes table.0 0
  n ← spec_non_negative TypeRange unit
  known ← spec_unit_of n
  Ok (types.duration known, table.1)

-- a positive size
abbrev pub spec_size_of : ℕ → Result ℕ IpcReadError
spec_size_of n = if n == 0 then Err TypeRange else Ok n

-- table FixedSizeBinary
unfoldable pub spec_fixed_size_binary_at : List ℕ → ℕ → ℕ → Result (TypeTree × ℕ) IpcReadError
spec_fixed_size_binary_at bytes position left = do
  table ← spec_read_table bytes position left
  width ← words.field (signed_at w32 bytes) (pos 0) bytes table.0 0
  n ← spec_non_negative TypeRange width
  size ← spec_size_of n
  Ok (types.fixed_size_binary size, table.1)

-- table FixedSizeList
unfoldable pub spec_fixed_size_list_at : List ℕ → ℕ → ℕ → Result (Shape × ℕ) IpcReadError
spec_fixed_size_list_at bytes position left = do
  table ← spec_read_table bytes position left
  width ← words.field (signed_at w32 bytes) (pos 0) bytes table.0 0
  n ← spec_non_negative TypeRange width
  size ← spec_size_of n
  Ok (fixed_size_list size, table.1)

-- table Map
unfoldable pub spec_map_at : List ℕ → ℕ → ℕ → Result (Shape × ℕ) IpcReadError
spec_map_at bytes position left = do
  table ← spec_read_table bytes position left
  sorted ← words.field (number_at w8 bytes) 0 bytes table.0 0
  Ok (map (nat_lt 0 sorted), table.1)

-- the type ids of a union, None where they are absent
unfoldable pub spec_ids_at : List ℕ → Option ℕ → ℕ → Result (Option (List ℤ) × ℕ) IpcReadError
spec_ids_at bytes None left = Ok (None, left)
spec_ids_at bytes (Some position) left = vector_at (signed_at w32 bytes) 4 bytes (Some position) left >>= λ ids. Ok (Some ids.0, ids.1)

-- enum UnionMode
abbrev pub spec_mode_of : ℕ → Result UnionMode IpcReadError
spec_mode_of n = if n == 0 then Ok Sparse else (if n == 1 then Ok Dense else Err TypeRange)

-- type ids are in an int8 buffer
abbrev pub spec_is_union_id : ℤ → Bool
spec_is_union_id (pos n) = nat_lt n 128
spec_is_union_id (negsuc n) = false

-- a type id for each of count fields, of which there are at most 127
abbrev pub spec_are_union_ids : Option (List ℤ) → ℕ → Bool
spec_are_union_ids None count = nat_lt count 128
spec_are_union_ids (Some ids) count = nat_lt count 128 && (length ids == count && list_all spec_is_union_id ids)

-- table Union, of count fields
unfoldable pub spec_union_at : ℕ → List ℕ → ℕ → ℕ → Result (Shape × ℕ) IpcReadError
spec_union_at count bytes position left = do
  table ← spec_read_table bytes position left
  number ← words.field (signed_at w16 bytes) (pos 0) bytes table.0 0
  to ← spec_offset_field bytes table.0 1
  ids ← spec_ids_at bytes to table.1
  n ← spec_non_negative TypeRange number
  mode ← spec_mode_of n
  fit ← check (spec_are_union_ids ids.0 count) UnionIds
  Ok (union ids.0 mode, ids.1)

-- ---- types

-- the type of a type table without children
abbrev pub spec_type_at : LeafTag → List ℕ → ℕ → ℕ → Result (TypeTree × ℕ) IpcReadError
spec_type_at leaves.Null bytes position left = spec_bare_at types.null bytes position left
spec_type_at leaves.Int bytes position left = spec_integer_at bytes position left >>= λ integer. Ok (integer_tree integer.0, integer.1)
spec_type_at leaves.FloatingPoint bytes position left = spec_float_at bytes position left
spec_type_at leaves.Binary bytes position left = spec_bare_at types.binary bytes position left
spec_type_at leaves.Utf8 bytes position left = spec_bare_at types.utf8 bytes position left
spec_type_at leaves.Bool bytes position left = spec_bare_at types.boolean bytes position left
spec_type_at leaves.Decimal bytes position left = spec_decimal_at bytes position left
spec_type_at leaves.Date bytes position left = spec_date_at bytes position left
spec_type_at leaves.Time bytes position left = spec_time_at bytes position left
spec_type_at leaves.Timestamp bytes position left = spec_timestamp_at bytes position left
spec_type_at leaves.Interval bytes position left = spec_interval_at bytes position left
spec_type_at leaves.FixedSizeBinary bytes position left = spec_fixed_size_binary_at bytes position left
spec_type_at leaves.Duration bytes position left = spec_duration_at bytes position left
spec_type_at leaves.LargeBinary bytes position left = spec_bare_at types.large_binary bytes position left
spec_type_at leaves.LargeUtf8 bytes position left = spec_bare_at types.large_utf8 bytes position left
spec_type_at leaves.BinaryView bytes position left = spec_bare_at spec_binary_view bytes position left
spec_type_at leaves.Utf8View bytes position left = spec_bare_at spec_utf8_view bytes position left

-- the type of a type table, without its children, of which there are count
abbrev pub spec_shape_at : Tag → ℕ → List ℕ → ℕ → ℕ → Result (Shape × ℕ) IpcReadError
spec_shape_at (tags.Leaf tag) count bytes position left = spec_type_at tag bytes position left >>= λ type. Ok (leaf type.0, type.1)
spec_shape_at tags.List count bytes position left = spec_bare_at list bytes position left
spec_shape_at tags.LargeList count bytes position left = spec_bare_at large_list bytes position left
spec_shape_at tags.FixedSizeList count bytes position left = spec_fixed_size_list_at bytes position left
spec_shape_at tags.Struct count bytes position left = spec_bare_at struct bytes position left
spec_shape_at tags.Map count bytes position left = spec_map_at bytes position left
spec_shape_at tags.Union count bytes position left = spec_union_at count bytes position left

-- ---- children

abbrev pub field_list : FieldTrees → List FieldTree
field_list no_fields = []
field_list (more_fields f fs) = f ∷ field_list fs

-- the child fields of a type
abbrev pub spec_children_of : TypeTree → List FieldTree
spec_children_of (types.list f) = f ∷ []
spec_children_of (types.large_list f) = f ∷ []
spec_children_of (types.fixed_size_list f size) = f ∷ []
spec_children_of (types.struct fs) = field_list fs
spec_children_of (types.map f sorted) = f ∷ []
spec_children_of (types.union fs ids mode) = field_list fs
spec_children_of type = []

-- whether a type can have this number of children
abbrev pub spec_can_have : Shape → ℕ → Bool
spec_can_have (leaf type) count = count == 0
spec_can_have list count = count == 1
spec_can_have large_list count = count == 1
spec_can_have (fixed_size_list size) count = count == 1
spec_can_have struct count = not (count == 0)
spec_can_have (map sorted) count = count == 1
spec_can_have (union ids mode) count = true

-- the only child
abbrev pub spec_only_child : List FieldTree → Result FieldTree IpcReadError
spec_only_child [] = Err ChildCount
spec_only_child (f ∷ []) = Ok f
spec_only_child (f ∷ g ∷ fs) = Err ChildCount

-- the entries of a map are a struct of two fields
abbrev pub map_of : Bool → FieldTree → Result TypeTree IpcReadError
map_of sorted f = if is_pair (field_type f) then Ok (types.map f sorted) else Err MapEntries

abbrev pub spec_map_with : Bool → List FieldTree → Result TypeTree IpcReadError
spec_map_with sorted fields = spec_only_child fields >>= map_of sorted

-- the type with its children
abbrev pub spec_with_children : Shape → List FieldTree → Result TypeTree IpcReadError
spec_with_children (leaf type) fields = Ok type
spec_with_children list fields = spec_only_child fields >>= λ f. Ok (types.list f)
spec_with_children large_list fields = spec_only_child fields >>= λ f. Ok (types.large_list f)
spec_with_children (fixed_size_list size) fields = spec_only_child fields >>= λ f. Ok (types.fixed_size_list f size)
spec_with_children struct fields = Ok (types.struct (field_trees fields))
spec_with_children (map sorted) fields = spec_map_with sorted fields
spec_with_children (union ids mode) fields = Ok (types.union (field_trees fields) ids mode)
