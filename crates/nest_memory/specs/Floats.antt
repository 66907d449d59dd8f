-- Floating-point types (Schema.fbs, table FloatingPoint, enum Precision). Their values are carried as bits: the type of
-- each precision is an extension type of this library, whose storage has the same bytes.
use Rattle.std.specs.Prelude.{Bool, ◌||◌, codes, Option, Some, None, is_some, if◌then◌else◌}
use Rattle.std.specs.Str.{bytes_eq}
use Rattle.nest_memory.specs.TypeTree as types
use Rattle.nest_memory.specs.TypeTree.{Letters, TypeTree}
use Rattle.nest_memory.specs.declared.datatypes.floats.Precision.{Precision}
use Rattle.nest_memory.specs.declared.datatypes.floats.Precision.TheVariants.{Half, Single, Double}

-- the name of the extension type
abbrev pub spec_float_name : Precision → Letters
spec_float_name Half = codes "tiekvorn.float16"
spec_float_name Single = codes "tiekvorn.float32"
spec_float_name Double = codes "tiekvorn.float64"

abbrev pub spec_is_float_name : Letters → Bool
spec_is_float_name name = bytes_eq name (spec_float_name Half) || (bytes_eq name (spec_float_name Single) || bytes_eq name (spec_float_name Double))

-- its storage: the unsigned integers of the width (IEEE 754, binary16, binary32 and binary64)
abbrev pub spec_bits_type : Precision → TypeTree
spec_bits_type Half = types.uint16
spec_bits_type Single = types.uint32
spec_bits_type Double = types.uint64

abbrev pub spec_float_type : Precision → TypeTree
spec_float_type precision = types.extension (spec_float_name precision) (spec_bits_type precision) None

-- ---- the precision of a type

abbrev pub bits_precision : TypeTree → Option Precision
bits_precision types.uint16 = Some Half
bits_precision types.uint32 = Some Single
bits_precision types.uint64 = Some Double
bits_precision type = None

-- the precision, where the name is its own
abbrev pub named_precision : Letters → Option Precision → Option Precision
named_precision name None = None
named_precision name (Some precision) = if bytes_eq (spec_float_name precision) name then Some precision else None

-- None for a type that is not floating-point
abbrev pub spec_precision_of : TypeTree → Option Precision
spec_precision_of (types.extension name bits None) = named_precision name (bits_precision bits)
spec_precision_of type = None

abbrev pub spec_is_float : TypeTree → Bool
spec_is_float type = is_some (spec_precision_of type)
