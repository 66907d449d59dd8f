-- A parser of data types, from left to right. A part that is parsed returns the remaining bytes. An error is located by the number of
-- bytes that remain where the part begins.
use Rattle.std.specs.Prelude.{alloc_error, ◌≡◌, ℕ, zero, suc, ◌-◌, ◌≤◌, ◌^◌, nat_lt, ◌==◌, ℤ, pos, Bool, true, false, not, List, [], ◌∷◌, ◌++◌, length, take, drop, map, codes, Option, Some, None, Result, Ok, Err, if◌then◌else◌}
use Rattle.std.specs.Char.{is_ascii_digit}
use Rattle.std.specs.Global.{Vec}
use Rattle.std.specs.List.{prefix_len}
use Rattle.std.specs.Option.{option_to_list}
use Rattle.std.specs.Str.{bytes_eq}
use Rattle.std.specs.Str.Parse.{digits_value}
use Rattle.nest_memory.specs.Floats.{spec_float_type, spec_is_float}
use Rattle.nest_memory.specs.Physical.{integer_tree}
use Rattle.nest_memory.specs.TypeOf.{field_of, field_trees, type_of}
use Rattle.nest_memory.specs.TypeTree as types
use Rattle.nest_memory.specs.TypeTree.{TypeTree, FieldTree, field}
use Rattle.nest_memory.specs.declared.datatypes.DataType.{DataType}
use Rattle.nest_memory.specs.declared.datatypes.field.Field.{Field}
use Rattle.nest_memory.specs.declared.datatypes.floats.Precision.TheVariants.{Half, Single, Double}
use Rattle.nest_memory.specs.declared.datatypes.IntegerType.{IntegerType}
use Rattle.nest_memory.specs.declared.datatypes.IntegerType.TheVariants as integers
use Rattle.nest_memory.specs.declared.datatypes.TimeUnit.{TimeUnit}
use Rattle.nest_memory.specs.declared.datatypes.TimeUnit.TheVariants.{Second, Millisecond, Microsecond, Nanosecond}
use Rattle.nest_memory.specs.declared.datatypes.IntervalUnit.TheVariants.{YearMonth, DayTime, MonthDayNano}
use Rattle.nest_memory.specs.declared.datatypes.UnionMode.{UnionMode}
use Rattle.nest_memory.specs.declared.datatypes.UnionMode.TheVariants.{Dense, Sparse}
use Rattle.type_text.specs.Keywords.{keyword_text}
use Rattle.type_text.specs.declared.error.SyntaxError.{SyntaxError}
use Rattle.type_text.specs.declared.error.SyntaxError.TheVariants.{Unexpected, TooDeep}
use Rattle.type_text.specs.declared.error.PartError.{PartError}
use Rattle.type_text.specs.declared.error.PartError.TheVariants as part_errors
use Rattle.type_text.specs.declared.error.ParseTypeError.{ParseTypeError}
use Rattle.type_text.specs.declared.error.ParseTypeError.TheVariants as errors
use Rattle.type_text.specs.declared.keyword.PlainType.{PlainType}
use Rattle.type_text.specs.declared.keyword.PlainType.TheVariants as plains
use Rattle.type_text.specs.declared.keyword.ParametricType.{ParametricType}
use Rattle.type_text.specs.declared.keyword.ParametricType.TheVariants as parametrics
use Rattle.type_text.specs.declared.keyword.NestedType.{NestedType}
use Rattle.type_text.specs.declared.keyword.NestedType.TheVariants as nests
use Rattle.type_text.specs.declared.keyword.Keyword.{Keyword}
use Rattle.type_text.specs.declared.keyword.Keyword.TheVariants as keywords

-- ---- results

infixl 10 ◌>>=◌
abbrev pub ◌>>=◌ : {A B : Type 0} → Result A SyntaxError → (A → Result B SyntaxError) → Result B SyntaxError
(Ok x) >>= f = f x
(Err e) >>= f = Err e

abbrev pub FailsWith : {Y : Type 0} → PartError → Result Y SyntaxError → Type 0
FailsWith part_errors.Memory read = Unit {0}
FailsWith (part_errors.Syntax f) read = read ≡ Err f

-- `view` of a function's result is what is parsed, unless an allocation failed
abbrev pub ReadsAs : {X Y : Type 0} → (X → Y) → Result X PartError → Result Y SyntaxError → Type 0
ReadsAs view (Ok x) read = read ≡ Ok (view x)
ReadsAs view (Err e) read = FailsWith e read

-- ---- tokens

-- the bytes after a prefix
abbrev pub after_prefix : List ℕ → List ℕ → Option (List ℕ)
after_prefix [] bs = Some bs
after_prefix (h ∷ hs) [] = None
after_prefix (h ∷ hs) (b ∷ bs) = if h == b then after_prefix hs bs else None

abbrev pub required : List ℕ → Option (List ℕ) → Result (List ℕ) SyntaxError
required bs (Some rest) = Ok rest
required bs None = Err (Unexpected (length bs))

-- a required prefix
abbrev pub expected : List ℕ → List ℕ → Result (List ℕ) SyntaxError
expected prefix bs = required bs (after_prefix prefix bs)

-- an optional prefix
abbrev pub flag_of : List ℕ → Option (List ℕ) → Bool × List ℕ
flag_of bs (Some rest) = (true, rest)
flag_of bs None = (false, bs)

abbrev pub read_flag : List ℕ → List ℕ → Bool × List ℕ
read_flag prefix bs = flag_of bs (after_prefix prefix bs)

abbrev pub or_later : ℕ → List ℕ → Option (List ℕ) → Option (List ℕ × List ℕ) → Option (List ℕ × List ℕ)
or_later b bs (Some rest) later = Some ([], rest)
or_later b bs None (Some parts) = Some (b ∷ parts.0, parts.1)
or_later b bs None None = None

-- the parts before and after the first `end`
unfoldable pub split_first : List ℕ → List ℕ → Option (List ℕ × List ℕ)
split_first end [] = None
split_first end (b ∷ bs) = or_later b bs (after_prefix end (b ∷ bs)) (split_first end bs)

abbrev pub name_parts : List ℕ → Option (List ℕ × List ℕ) → Result (List ℕ × List ℕ) SyntaxError
name_parts bs (Some parts) = Ok parts
name_parts bs None = Err (Unexpected (length bs))

-- a name, which ends at the first `end`
abbrev pub read_name : List ℕ → List ℕ → Result (List ℕ × List ℕ) SyntaxError
read_name end bs = name_parts bs (split_first end bs)

-- ---- numbers

-- digits without a leading zero
abbrev pub is_decimal_numeral : List ℕ → Bool
is_decimal_numeral [] = false
is_decimal_numeral (d ∷ []) = true
is_decimal_numeral (d ∷ e ∷ ds) = not (d == 48)

-- a number below 2 ^ 64
abbrev pub read_number : List ℕ → Result (ℕ × List ℕ) SyntaxError
read_number bs =
    let n = prefix_len is_ascii_digit bs in
    let ds = take n bs in
    if is_decimal_numeral ds then (if nat_lt (digits_value 10 ds) (2 ^ 64) then Ok (digits_value 10 ds, drop n bs) else Err (Unexpected (length bs))) else Err (Unexpected (length bs))

-- ---- keywords and parametric types

abbrev pub or_keyword : Keyword → Option (List ℕ) → Result (Keyword × List ℕ) SyntaxError → Result (Keyword × List ℕ) SyntaxError
or_keyword h (Some rest) others = Ok (h, rest)
or_keyword h None others = others

abbrev pub first_keyword : List ℕ → List Keyword → Result (Keyword × List ℕ) SyntaxError
first_keyword bs [] = Err (Unexpected (length bs))
first_keyword bs (h ∷ hs) = or_keyword h (after_prefix (keyword_text h) bs) (first_keyword bs hs)

-- all keywords, in the order in which they are tried; none is a prefix of another, so the order does not matter
abbrev pub all_keywords : List Keyword
all_keywords = keywords.Integer integers.Int32 ∷ keywords.Integer integers.Int64 ∷ keywords.Plain plains.Utf8 ∷ keywords.Plain plains.Float64 ∷ keywords.Plain plains.Boolean ∷ keywords.Nested nests.List ∷ keywords.Nested nests.Struct ∷ keywords.Nested nests.Dictionary ∷ keywords.Nested nests.Map ∷ keywords.Parametric parametrics.Timestamp ∷ keywords.Integer integers.Int8 ∷ keywords.Integer integers.Int16 ∷ keywords.Integer integers.UInt8 ∷ keywords.Integer integers.UInt16 ∷ keywords.Integer integers.UInt32 ∷ keywords.Integer integers.UInt64 ∷ keywords.Plain plains.Null ∷ keywords.Plain plains.Float16 ∷ keywords.Plain plains.Float32 ∷ keywords.Plain plains.Date32 ∷ keywords.Plain plains.Date64 ∷ keywords.Plain plains.YearMonth ∷ keywords.Plain plains.DayTime ∷ keywords.Plain plains.MonthDayNano ∷ keywords.Plain plains.Binary ∷ keywords.Plain plains.LargeBinary ∷ keywords.Plain plains.LargeUtf8 ∷ keywords.Parametric parametrics.Time32 ∷ keywords.Parametric parametrics.Time64 ∷ keywords.Parametric parametrics.Duration ∷ keywords.Parametric parametrics.FixedSizeBinary ∷ keywords.Parametric parametrics.Decimal ∷ keywords.Parametric parametrics.Decimal256 ∷ keywords.Nested nests.FixedSizeList ∷ keywords.Nested nests.LargeList ∷ keywords.Nested nests.DenseUnion ∷ keywords.Nested nests.SparseUnion ∷ keywords.Nested nests.Extension ∷ []

-- the keyword that the text begins with
unfoldable pub read_keyword : List ℕ → Result (Keyword × List ℕ) SyntaxError
read_keyword bs = first_keyword bs all_keywords

abbrev pub plain_tree : PlainType → TypeTree
plain_tree plains.Null = types.null
plain_tree plains.Boolean = types.boolean
plain_tree plains.Float16 = spec_float_type Half
plain_tree plains.Float32 = spec_float_type Single
plain_tree plains.Float64 = spec_float_type Double
plain_tree plains.Date32 = types.date32
plain_tree plains.Date64 = types.date64
plain_tree plains.YearMonth = types.interval YearMonth
plain_tree plains.DayTime = types.interval DayTime
plain_tree plains.MonthDayNano = types.interval MonthDayNano
plain_tree plains.Binary = types.binary
plain_tree plains.LargeBinary = types.large_binary
plain_tree plains.Utf8 = types.utf8
plain_tree plains.LargeUtf8 = types.large_utf8

abbrev pub or_unit : TimeUnit → Option (List ℕ) → Result (TimeUnit × List ℕ) SyntaxError → Result (TimeUnit × List ℕ) SyntaxError
or_unit u (Some rest) others = Ok (u, rest)
or_unit u None others = others

-- the unit of a time
unfoldable pub read_unit : List ℕ → Result (TimeUnit × List ℕ) SyntaxError
read_unit bs =
    or_unit Second (after_prefix (codes "s") bs)
    (or_unit Millisecond (after_prefix (codes "ms") bs)
    (or_unit Microsecond (after_prefix (codes "us") bs)
    (or_unit Nanosecond (after_prefix (codes "ns") bs) (Err (Unexpected (length bs))))))

-- a type with a unit alone
unfoldable pub read_time : (TimeUnit → TypeTree) → List ℕ → Result (TypeTree × List ℕ) SyntaxError
read_time make bs = do
  u ← read_unit bs
  rest ← expected (codes "]") u.1
  Ok (make u.0, rest)

abbrev pub zone_of : TimeUnit → List ℕ → Option (List ℕ) → Result (TypeTree × List ℕ) SyntaxError
zone_of u bs (Some rest) = do
  zone ← read_name (codes "]") rest
  Ok (types.timestamp u (Some zone.0), zone.1)
zone_of u bs None = do
  rest ← expected (codes "]") bs
  Ok (types.timestamp u None, rest)

-- a time zone ends at the first `]`
unfoldable pub read_timestamp : List ℕ → Result (TypeTree × List ℕ) SyntaxError
read_timestamp bs = do
  u ← read_unit bs
  zone_of u.0 u.1 (after_prefix (codes ", tz=") u.1)

unfoldable pub read_size : List ℕ → Result (ℕ × List ℕ) SyntaxError
read_size bs = do
  n ← read_number bs
  rest ← expected (codes "]") n.1
  Ok (n.0, rest)

-- the precision and the scale of a decimal
unfoldable pub read_precision_and_scale : List ℕ → Result ((ℕ × ℕ) × List ℕ) SyntaxError
read_precision_and_scale bs = do
  digits ← read_number bs
  comma ← expected (codes ", ") digits.1
  scale ← read_number comma
  rest ← expected (codes ")") scale.1
  Ok ((digits.0, scale.0), rest)

unfoldable pub read_decimal : (ℕ → ℕ → TypeTree) → List ℕ → Result (TypeTree × List ℕ) SyntaxError
read_decimal make bs = do
  scale ← read_precision_and_scale bs
  Ok (make scale.0.0 scale.0.1, scale.1)

unfoldable pub read_fixed_size_binary : List ℕ → Result (TypeTree × List ℕ) SyntaxError
read_fixed_size_binary bs = do
  n ← read_size bs
  Ok (types.fixed_size_binary n.0, n.1)

abbrev pub read_parametric : ParametricType → List ℕ → Result (TypeTree × List ℕ) SyntaxError
read_parametric parametrics.Timestamp bs = read_timestamp bs
read_parametric parametrics.Time32 bs = read_time types.time32 bs
read_parametric parametrics.Time64 bs = read_time types.time64 bs
read_parametric parametrics.Duration bs = read_time types.duration bs
read_parametric parametrics.FixedSizeBinary bs = read_fixed_size_binary bs
read_parametric parametrics.Decimal bs = read_decimal types.decimal bs
read_parametric parametrics.Decimal256 bs = read_decimal types.decimal256 bs

-- ---- nested types, whose children `inner` parses

abbrev pub key_of : Keyword → Option IntegerType
key_of (keywords.Integer key) = Some key
key_of (keywords.Plain plain) = None
key_of (keywords.Parametric kind) = None
key_of (keywords.Nested kind) = None

abbrev pub index_type_at : List ℕ → List ℕ → Option IntegerType → Result (IntegerType × List ℕ) SyntaxError
index_type_at bs rest (Some key) = Ok (key, rest)
index_type_at bs rest None = Err (Unexpected (length bs))

-- the index type of a dictionary
unfoldable pub read_index_type : List ℕ → Result (IntegerType × List ℕ) SyntaxError
read_index_type bs = do
  keyword ← read_keyword bs
  index_type_at bs keyword.1 (key_of keyword.0)

abbrev pub ordered_of : List ℕ → Option (List ℕ) → Result (Bool × List ℕ) SyntaxError
ordered_of bs (Some rest) = Ok (true, rest)
ordered_of bs None = do
  rest ← expected (codes ", ordered=0>") bs
  Ok (false, rest)

abbrev pub read_ordered : List ℕ → Result (Bool × List ℕ) SyntaxError
read_ordered bs = ordered_of bs (after_prefix (codes ", ordered=1>") bs)

abbrev pub id_below : List ℕ → ℕ × List ℕ → Result (Option ℤ × List ℕ) SyntaxError
id_below bs n = if nat_lt n.0 (2 ^ 31) then Ok (Some (pos n.0), n.1) else Err (Unexpected (length bs))

-- the type id of a field, which only unions have
unfoldable pub read_type_id : Bool → List ℕ → Result (Option ℤ × List ℕ) SyntaxError
read_type_id false bs = Ok (None, bs)
read_type_id true bs = do
  rest ← expected (codes "=") bs
  n ← read_number rest
  id_below rest n

-- a name in quotes, other than the default
abbrev pub quoted_name : List ℕ → List ℕ → Option (List ℕ) → Result (List ℕ × List ℕ) SyntaxError
quoted_name default bs None = Ok (default, bs)
quoted_name default bs (Some rest) = do
  name ← read_name (codes "')") rest
  if bytes_eq default name.0 then Err (Unexpected (length bs)) else Ok name

unfoldable pub read_name_or_default : List ℕ → List ℕ → Result (List ℕ × List ℕ) SyntaxError
read_name_or_default default bs = quoted_name default bs (after_prefix (codes " ('") bs)

abbrev pub TypeReader : Type 0
TypeReader = List ℕ → Result (TypeTree × List ℕ) SyntaxError

-- a field: its name ends at the first `: `
unfoldable pub read_field : TypeReader → List ℕ → Result (FieldTree × List ℕ) SyntaxError
read_field inner bs = do
  name ← read_name (codes ": ") bs
  t ← inner name.1
  let marked = read_flag (codes " not null") t.1 in Ok (field name.0 t.0 (not marked.0) [], marked.1)

-- fields, and the type ids of those that have one
abbrev pub FieldsAndIds : Type 0
FieldsAndIds = List FieldTree × List ℤ

abbrev pub fields_and_ids : Vec Field × Vec ℤ → FieldsAndIds
fields_and_ids made = (map field_of made.0.items, made.1.items)

abbrev pub prepend_field : FieldTree → Option ℤ → FieldsAndIds × List ℕ → Result (FieldsAndIds × List ℕ) SyntaxError
prepend_field f id others = Ok ((f ∷ others.0.0, option_to_list id ++ others.0.1), others.1)

abbrev pub fields_after : FieldTree → Option ℤ → List ℕ → Option (List ℕ) → (List ℕ → Result (FieldsAndIds × List ℕ) SyntaxError) → Result (FieldsAndIds × List ℕ) SyntaxError
fields_after f id bs (Some rest) others = do
  more ← others rest
  prepend_field f id more
fields_after f id bs None others = do
  rest ← expected (codes ">") bs
  Ok ((f ∷ [], option_to_list id), rest)

-- one to n fields and the `>`, with type ids or without
unfoldable pub read_some_fields : Bool → TypeReader → ℕ → List ℕ → Result (FieldsAndIds × List ℕ) SyntaxError
read_some_fields ids inner zero bs = Err (Unexpected (length bs))
read_some_fields ids inner (suc n) bs = do
  f ← read_field inner bs
  id ← read_type_id ids f.1
  fields_after f.0 id.0 id.1 (after_prefix (codes ", ") id.1) (read_some_fields ids inner n)

abbrev pub fields_or_none : Bool → TypeReader → List ℕ → Option (List ℕ) → Result (FieldsAndIds × List ℕ) SyntaxError
fields_or_none ids inner bs (Some rest) = Ok (([], []), rest)
fields_or_none ids inner bs None = read_some_fields ids inner (length bs) bs

-- any number of fields: each takes at least one byte
unfoldable pub read_fields : Bool → TypeReader → List ℕ → Result (FieldsAndIds × List ℕ) SyntaxError
read_fields ids inner bs = fields_or_none ids inner bs (after_prefix (codes ">") bs)

-- the item field of a list
unfoldable pub read_item_field : TypeReader → List ℕ → Result (FieldTree × List ℕ) SyntaxError
read_item_field inner bs = do
  f ← read_field inner bs
  rest ← expected (codes ">") f.1
  Ok (f.0, rest)

unfoldable pub read_list : TypeReader → (FieldTree → TypeTree) → List ℕ → Result (TypeTree × List ℕ) SyntaxError
read_list inner make bs = do
  f ← read_item_field inner bs
  Ok (make f.0, f.1)

-- the size of a fixed-size list in brackets
unfoldable pub read_list_size : List ℕ → Result (ℕ × List ℕ) SyntaxError
read_list_size bs = do
  rest ← expected (codes "[") bs
  read_size rest

unfoldable pub read_fixed_size_list : TypeReader → List ℕ → Result (TypeTree × List ℕ) SyntaxError
read_fixed_size_list inner bs = do
  f ← read_item_field inner bs
  n ← read_list_size f.1
  Ok (types.fixed_size_list f.0 n.0, n.1)

unfoldable pub read_struct : TypeReader → List ℕ → Result (TypeTree × List ℕ) SyntaxError
read_struct inner bs = do
  fs ← read_fields false inner bs
  Ok (types.struct (field_trees fs.0.0), fs.1)

unfoldable pub read_union : TypeReader → UnionMode → List ℕ → Result (TypeTree × List ℕ) SyntaxError
read_union inner mode bs = do
  fs ← read_fields true inner bs
  Ok (types.union (field_trees fs.0.0) (Some fs.0.1) mode, fs.1)

-- the key field or the value field of a map
unfoldable pub read_entry_field : TypeReader → List ℕ → Bool → List ℕ → Result (FieldTree × List ℕ) SyntaxError
read_entry_field inner default nullable bs = do
  t ← inner bs
  name ← read_name_or_default default t.1
  Ok (field name.0 t.0 nullable [], name.1)

-- whether the keys of a map are sorted, and the name of its entries
unfoldable pub read_entries_end : List ℕ → Result ((Bool × List ℕ) × List ℕ) SyntaxError
read_entries_end bs =
    let sorted = read_flag (codes ", keys_sorted") bs in read_name_or_default (codes "entries") sorted.1 >>= λ name. expected (codes ">") name.1 >>= λ rest. Ok ((sorted.0, name.0), rest)

-- the key field and the value field of a map
unfoldable pub read_map_fields : TypeReader → List ℕ → Result ((FieldTree × FieldTree) × List ℕ) SyntaxError
read_map_fields inner bs = do
  key ← read_entry_field inner (codes "key") false bs
  comma ← expected (codes ", ") key.1
  value ← read_entry_field inner (codes "value") true comma
  Ok ((key.0, value.0), value.1)

-- the entries of a map
abbrev pub map_entries : List ℕ → FieldTree → FieldTree → FieldTree
map_entries name key value = field name (types.struct (field_trees (key ∷ value ∷ []))) false []

unfoldable pub read_map : TypeReader → List ℕ → Result (TypeTree × List ℕ) SyntaxError
read_map inner bs = do
  fs ← read_map_fields inner bs
  end ← read_entries_end fs.1
  Ok (types.map (map_entries end.0.1 fs.0.0 fs.0.1) end.0.0, end.1)

-- the index type of a dictionary, and whether its values are ordered
unfoldable pub read_dictionary_end : List ℕ → Result ((IntegerType × Bool) × List ℕ) SyntaxError
read_dictionary_end bs = do
  comma ← expected (codes ", indices=") bs
  key ← read_index_type comma
  ordered ← read_ordered key.1
  Ok ((key.0, ordered.0), ordered.1)

unfoldable pub read_dictionary : TypeReader → List ℕ → Result (TypeTree × List ℕ) SyntaxError
read_dictionary inner bs = do
  values ← inner bs
  end ← read_dictionary_end values.1
  Ok (types.dictionary end.0.0 values.0 end.0.1, end.1)

-- a floating-point type has the text of its precision, and no other
abbrev pub unless_float : List ℕ → TypeTree × List ℕ → Result (TypeTree × List ℕ) SyntaxError
unless_float bs read = if spec_is_float read.0 then Err (Unexpected (length bs)) else Ok read

-- the name of an extension ends at the first `, `
unfoldable pub read_extension : TypeReader → List ℕ → Result (TypeTree × List ℕ) SyntaxError
read_extension inner bs = do
  name ← read_name (codes ", ") bs
  t ← inner name.1
  rest ← expected (codes ">") t.1
  unless_float bs (types.extension name.0 t.0 None, rest)

abbrev pub read_nested : TypeReader → NestedType → List ℕ → Result (TypeTree × List ℕ) SyntaxError
read_nested inner nests.List bs = read_list inner types.list bs
read_nested inner nests.FixedSizeList bs = read_fixed_size_list inner bs
read_nested inner nests.LargeList bs = read_list inner types.large_list bs
read_nested inner nests.Struct bs = read_struct inner bs
read_nested inner nests.DenseUnion bs = read_union inner Dense bs
read_nested inner nests.SparseUnion bs = read_union inner Sparse bs
read_nested inner nests.Map bs = read_map inner bs
read_nested inner nests.Dictionary bs = read_dictionary inner bs
read_nested inner nests.Extension bs = read_extension inner bs

-- ---- all types

abbrev pub read_after_keyword : TypeReader → Keyword → List ℕ → Result (TypeTree × List ℕ) SyntaxError
read_after_keyword inner (keywords.Plain plain) bs = Ok (plain_tree plain, bs)
read_after_keyword inner (keywords.Integer key) bs = Ok (integer_tree key, bs)
read_after_keyword inner (keywords.Parametric kind) bs = read_parametric kind bs
read_after_keyword inner (keywords.Nested kind) bs = read_nested inner kind bs

-- a type of at most so many levels
unfoldable pub read_type : ℕ → List ℕ → Result (TypeTree × List ℕ) SyntaxError
read_type zero bs = Err (TooDeep (length bs))
read_type (suc levels) bs = do
  keyword ← read_keyword bs
  read_after_keyword (read_type levels) keyword.0 keyword.1

abbrev pub without_rest : TypeTree × List ℕ → Result TypeTree SyntaxError
without_rest read = if length read.1 == 0 then Ok read.0 else Err (Unexpected (length read.1))

-- a type of at most 64 levels that nothing follows
unfoldable pub read_complete_type : List ℕ → Result TypeTree SyntaxError
read_complete_type bs = read_type 64 bs >>= without_rest

-- the error at a byte offset of a text of that length
abbrev pub located_error : ℕ → SyntaxError → ParseTypeError
located_error len (Unexpected remaining) = errors.Syntax (len - remaining)
located_error len (TooDeep remaining) = errors.TooDeep (len - remaining)

-- the error for a parser's error
abbrev pub IsErrorOf : ℕ → PartError → ParseTypeError → Type 0
IsErrorOf len part_errors.Memory e = e ≡ errors.Memory alloc_error
IsErrorOf len (part_errors.Syntax f) e = e ≡ located_error len f

abbrev pub located : ℕ → Result TypeTree SyntaxError → Result TypeTree ParseTypeError
located len (Ok t) = Ok t
located len (Err f) = Err (located_error len f)

-- the result of `parse_type`, unless an allocation fails
abbrev pub parsed_type : List ℕ → Result TypeTree ParseTypeError
parsed_type bs = located (length bs) (read_complete_type bs)

-- the result is the parsed data type or its error, unless an allocation failed
abbrev pub ParsesAs : Result DataType ParseTypeError → Result TypeTree ParseTypeError → Type 0
ParsesAs (Ok t) read = read ≡ Ok (type_of t)
ParsesAs (Err (errors.Memory refused)) read = Unit {0}
ParsesAs (Err e) read = read ≡ Err e

-- the offset of an error is at most the length of the text
abbrev pub IsErrorWithin : ℕ → ParseTypeError → Type 0
IsErrorWithin len (errors.Syntax byte) = byte ≤ len
IsErrorWithin len (errors.TooDeep byte) = byte ≤ len
IsErrorWithin len (errors.Memory refused) = Unit {0}
