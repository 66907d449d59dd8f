-- Data types as text, in the format of pyarrow; this library's own. A field has its name, its type and whether it is
-- nullable; an extension type has its name and its storage type. Floating-point types have the text of those of Arrow.
use Rattle.std.specs.Prelude.{ℕ, ◌+◌, ℤ, pos, nat_lt, get_or, Bool, true, false, List, [], ◌++◌, Option, Some, None, codes, decimal, if◌then◌else◌}
use Rattle.std.specs.Fmt.{signed_decimal}
use Rattle.std.specs.Str.{bytes_eq}
use Rattle.nest_memory.specs.Floats.{spec_precision_of}
use Rattle.nest_memory.specs.TypeTree as types
use Rattle.nest_memory.specs.TypeTree.{TypeTree, FieldTree, field, FieldTrees, no_fields, more_fields, is_pair}
use Rattle.nest_memory.specs.declared.datatypes.IntegerType.{IntegerType}
use Rattle.nest_memory.specs.declared.datatypes.IntegerType.TheVariants as integers
use Rattle.nest_memory.specs.declared.datatypes.TimeUnit.{TimeUnit}
use Rattle.nest_memory.specs.declared.datatypes.TimeUnit.TheVariants.{Second, Millisecond, Microsecond, Nanosecond}
use Rattle.nest_memory.specs.declared.datatypes.IntervalUnit.TheVariants.{YearMonth, DayTime, MonthDayNano}
use Rattle.nest_memory.specs.declared.datatypes.UnionMode.{UnionMode}
use Rattle.nest_memory.specs.declared.datatypes.UnionMode.TheVariants.{Dense, Sparse}
use Rattle.nest_memory.specs.declared.datatypes.floats.Precision.{Precision}
use Rattle.nest_memory.specs.declared.datatypes.floats.Precision.TheVariants.{Half, Single, Double}

abbrev pub unit_text : TimeUnit → List ℕ
unit_text Second = codes "s"
unit_text Millisecond = codes "ms"
unit_text Microsecond = codes "us"
unit_text Nanosecond = codes "ns"

abbrev pub mode_text : UnionMode → List ℕ
mode_text Dense = codes "dense_union<"
mode_text Sparse = codes "sparse_union<"

abbrev pub order_text : Bool → List ℕ
order_text ordered = if ordered then codes ", ordered=1>" else codes ", ordered=0>"

abbrev pub nullable_text : Bool → List ℕ
nullable_text b = if b then [] else codes " not null"

-- the separator before every field but the first
abbrev pub separator_text : Bool → List ℕ
separator_text after = if after then codes ", " else []

-- a name that is not the usual one, in quotes
abbrev pub unusual : List ℕ → List ℕ → List ℕ
unusual usual name = if bytes_eq usual name then [] else codes " ('" ++ (name ++ codes "')")

abbrev pub sorted_text : Bool → List ℕ
sorted_text sorted = if sorted then codes ", keys_sorted" else []

abbrev pub entries_end : Bool → List ℕ → List ℕ
entries_end sorted name = sorted_text sorted ++ (unusual (codes "entries") name ++ codes ">")

abbrev pub integer_text : IntegerType → List ℕ
integer_text integers.Int8 = codes "int8"
integer_text integers.Int16 = codes "int16"
integer_text integers.Int32 = codes "int32"
integer_text integers.Int64 = codes "int64"
integer_text integers.UInt8 = codes "uint8"
integer_text integers.UInt16 = codes "uint16"
integer_text integers.UInt32 = codes "uint32"
integer_text integers.UInt64 = codes "uint64"

abbrev pub precision_text : Precision → List ℕ
precision_text Half = codes "halffloat"
precision_text Single = codes "float"
precision_text Double = codes "double"

-- the text of an extension type that is a floating-point type, or of another one
abbrev pub extension_text : Option Precision → List ℕ → List ℕ
extension_text (Some precision) text = precision_text precision
extension_text None text = text

-- the type id of field k, which is k if there are no ids
abbrev pub id_at : Option (List ℤ) → ℕ → ℤ
id_at None k = pos k
id_at (Some ids) k = get_or ids k (pos 0)

abbrev mutual
  pub text_of_type : TypeTree → List ℕ
  text_of_type types.null = codes "null"
  text_of_type types.boolean = codes "bool"
  text_of_type types.int8 = codes "int8"
  text_of_type types.int16 = codes "int16"
  text_of_type types.int32 = codes "int32"
  text_of_type types.int64 = codes "int64"
  text_of_type types.uint8 = codes "uint8"
  text_of_type types.uint16 = codes "uint16"
  text_of_type types.uint32 = codes "uint32"
  text_of_type types.uint64 = codes "uint64"
  text_of_type types.float16 = codes "halffloat"
  text_of_type types.float32 = codes "float"
  text_of_type types.float64 = codes "double"
  text_of_type (types.timestamp u None) = codes "timestamp[" ++ (unit_text u ++ codes "]")
  text_of_type (types.timestamp u (Some zone)) = codes "timestamp[" ++ (unit_text u ++ (codes ", tz=" ++ (zone ++ codes "]")))
  text_of_type types.date32 = codes "date32[day]"
  text_of_type types.date64 = codes "date64[ms]"
  text_of_type (types.time32 u) = codes "time32[" ++ (unit_text u ++ codes "]")
  text_of_type (types.time64 u) = codes "time64[" ++ (unit_text u ++ codes "]")
  text_of_type (types.duration u) = codes "duration[" ++ (unit_text u ++ codes "]")
  text_of_type (types.interval YearMonth) = codes "month_interval"
  text_of_type (types.interval DayTime) = codes "day_time_interval"
  text_of_type (types.interval MonthDayNano) = codes "month_day_nano_interval"
  text_of_type types.binary = codes "binary"
  text_of_type (types.fixed_size_binary n) = codes "fixed_size_binary[" ++ (decimal n ++ codes "]")
  text_of_type types.large_binary = codes "large_binary"
  text_of_type types.utf8 = codes "string"
  text_of_type types.large_utf8 = codes "large_string"
  text_of_type (types.list f) = codes "list<" ++ (text_of_field f ++ codes ">")
  text_of_type (types.fixed_size_list f n) = (codes "fixed_size_list<" ++ (text_of_field f ++ codes ">")) ++ (codes "[" ++ (decimal n ++ codes "]"))
  text_of_type (types.large_list f) = codes "large_list<" ++ (text_of_field f ++ codes ">")
  text_of_type (types.struct fs) = codes "struct<" ++ (text_of_fields false fs ++ codes ">")
  text_of_type (types.union fs ids mode) = mode_text mode ++ (text_of_picks ids 0 fs ++ codes ">")
  text_of_type (types.map f sorted) = codes "map<" ++ text_of_entries sorted f
  text_of_type (types.dictionary key values ordered) = codes "dictionary<values=" ++ (text_of_type values ++ (codes ", indices=" ++ (integer_text key ++ order_text ordered)))
  text_of_type (types.decimal digits after) = codes "decimal128(" ++ (decimal digits ++ (codes ", " ++ (decimal after ++ codes ")")))
  text_of_type (types.decimal256 digits after) = codes "decimal256(" ++ (decimal digits ++ (codes ", " ++ (decimal after ++ codes ")")))
  text_of_type (types.extension name t metadata) = extension_text (spec_precision_of (types.extension name t metadata)) (codes "extension<" ++ (name ++ (codes ", " ++ (text_of_type t ++ codes ">"))))

  -- The key and the value of a map, whether its keys are sorted, and the name of the entries. Entries that are not a
  -- struct of two fields, which the format does not allow, appear as one type.
  pub text_of_entries : Bool → FieldTree → List ℕ
  text_of_entries sorted (field name t nullable metadata) = (if is_pair t then text_of_pair t else text_of_type t) ++ entries_end sorted name

  pub text_of_pair : TypeTree → List ℕ
  text_of_pair (types.struct fs) = text_of_parts fs
  text_of_pair t = []

  pub text_of_parts : FieldTrees → List ℕ
  text_of_parts (more_fields k (more_fields v no_fields)) = text_of_part (codes "key") k ++ (codes ", " ++ text_of_part (codes "value") v)
  text_of_parts fs = []

  pub text_of_part : List ℕ → FieldTree → List ℕ
  text_of_part usual (field name t nullable metadata) = text_of_type t ++ unusual usual name

  -- `name: type`, and ` not null` if the field is not nullable
  pub text_of_field : FieldTree → List ℕ
  text_of_field (field name t nullable metadata) = name ++ (codes ": " ++ (text_of_type t ++ nullable_text nullable))

  pub text_of_fields : Bool → FieldTrees → List ℕ
  text_of_fields after no_fields = []
  text_of_fields after (more_fields f fs) = separator_text after ++ (text_of_field f ++ text_of_fields true fs)

  -- the fields of a union from field k on, each with its type id
  pub text_of_picks : Option (List ℤ) → ℕ → FieldTrees → List ℕ
  text_of_picks ids k no_fields = []
  text_of_picks ids k (more_fields f fs) = separator_text (nat_lt 0 k) ++ (text_of_field f ++ (codes "=" ++ (signed_decimal (id_at ids k) ++ text_of_picks ids (k + 1) fs)))
