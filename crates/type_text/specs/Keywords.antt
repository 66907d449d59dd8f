-- The keywords of data types, as `DataType::ToString` of Arrow C++ prints them.
use Rattle.std.specs.Prelude.{ℕ, List, codes}
use Rattle.nest_memory.specs.TypeText.{integer_text}
use Rattle.type_text.specs.declared.keyword.PlainType.{PlainType}
use Rattle.type_text.specs.declared.keyword.PlainType.TheVariants as plains
use Rattle.type_text.specs.declared.keyword.ParametricType.{ParametricType}
use Rattle.type_text.specs.declared.keyword.ParametricType.TheVariants as parametrics
use Rattle.type_text.specs.declared.keyword.NestedType.{NestedType}
use Rattle.type_text.specs.declared.keyword.NestedType.TheVariants as nests
use Rattle.type_text.specs.declared.keyword.Keyword.{Keyword}
use Rattle.type_text.specs.declared.keyword.Keyword.TheVariants as keywords

abbrev pub plain_text : PlainType → List ℕ
plain_text plains.Null = codes "null"
plain_text plains.Boolean = codes "bool"
plain_text plains.Float16 = codes "halffloat"
plain_text plains.Float32 = codes "float"
plain_text plains.Float64 = codes "double"
plain_text plains.Date32 = codes "date32[day]"
plain_text plains.Date64 = codes "date64[ms]"
plain_text plains.YearMonth = codes "month_interval"
plain_text plains.DayTime = codes "day_time_interval"
plain_text plains.MonthDayNano = codes "month_day_nano_interval"
plain_text plains.Binary = codes "binary"
plain_text plains.LargeBinary = codes "large_binary"
plain_text plains.Utf8 = codes "string"
plain_text plains.LargeUtf8 = codes "large_string"

abbrev pub parametric_text : ParametricType → List ℕ
parametric_text parametrics.Timestamp = codes "timestamp["
parametric_text parametrics.Time32 = codes "time32["
parametric_text parametrics.Time64 = codes "time64["
parametric_text parametrics.Duration = codes "duration["
parametric_text parametrics.FixedSizeBinary = codes "fixed_size_binary["
parametric_text parametrics.Decimal = codes "decimal128("
parametric_text parametrics.Decimal256 = codes "decimal256("

abbrev pub nested_text : NestedType → List ℕ
nested_text nests.List = codes "list<"
nested_text nests.FixedSizeList = codes "fixed_size_list<"
nested_text nests.LargeList = codes "large_list<"
nested_text nests.Struct = codes "struct<"
nested_text nests.DenseUnion = codes "dense_union<"
nested_text nests.SparseUnion = codes "sparse_union<"
nested_text nests.Map = codes "map<"
nested_text nests.Dictionary = codes "dictionary<values="
nested_text nests.Extension = codes "extension<"

abbrev pub keyword_text : Keyword → List ℕ
keyword_text (keywords.Plain plain) = plain_text plain
keyword_text (keywords.Integer key) = integer_text key
keyword_text (keywords.Parametric kind) = parametric_text kind
keyword_text (keywords.Nested kind) = nested_text kind
