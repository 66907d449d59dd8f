-- Kinds of values that are compared with literals.
use Rattle.std.specs.Prelude.{Bool, true, false, is_some, unwrap_or, Option, Some, None, option_map}
use Rattle.nest_memory.specs.Floats.{spec_precision_of}
use Rattle.nest_memory.specs.TypeTree as types
use Rattle.nest_memory.specs.TypeTree.{TypeTree, value_type}
use Rattle.nest_memory.specs.declared.datatypes.TimeUnit.TheVariants.{Millisecond}
use Rattle.nest_memory.specs.declared.datatypes.floats.Precision.{Precision}
use Rattle.nest_memory.specs.declared.datatypes.floats.Precision.TheVariants.{Half, Single, Double}
use Rattle.nest_memory.specs.declared.datatypes.physical_type.PhysicalType.{PhysicalType}
use Rattle.nest_memory.specs.declared.datatypes.physical_type.PhysicalType.TheVariants as physical
use Rattle.nest_memory.specs.declared.datatypes.physical_type.PrimitiveType.TheVariants as primitives
use Rattle.cli_args.specs.Conditions as literals
use Rattle.cli_args.specs.Conditions.{LiteralTree}
use Rattle.cli_rows.specs.TimeLiterals.{spec_number_of_text}
use Rattle.cli_rows.specs.declared.select.time_literals.TemporalKind.TheVariants as temporal
use Rattle.cli_rows.specs.declared.select.kinds.ValueKind.{ValueKind}
use Rattle.cli_rows.specs.declared.select.kinds.ValueKind.TheVariants as kinds

-- the kind of floating-point numbers, for the types that represent them
abbrev pub float_kind_or : Option Precision → Option ValueKind → Option ValueKind
float_kind_or (Some p) kind = Some (kinds.Float p)
float_kind_or None kind = kind

-- Integers, durations and decimals of 128 bits are numbers; other kinds are floats, dates and times, strings and booleans. None for any
-- other type, also for a dictionary.
abbrev pub spec_value_kind : TypeTree → Option ValueKind
spec_value_kind types.boolean = Some kinds.Boolean
spec_value_kind types.int8 = Some (kinds.Number 0)
spec_value_kind types.int16 = Some (kinds.Number 0)
spec_value_kind types.int32 = Some (kinds.Number 0)
spec_value_kind types.int64 = Some (kinds.Number 0)
spec_value_kind types.uint8 = Some (kinds.Number 0)
spec_value_kind types.uint16 = Some (kinds.Number 0)
spec_value_kind types.uint32 = Some (kinds.Number 0)
spec_value_kind types.uint64 = Some (kinds.Number 0)
spec_value_kind (types.decimal p s) = Some (kinds.Number s)
spec_value_kind (types.duration u) = Some (kinds.Number 0)
spec_value_kind types.date32 = Some (kinds.Temporal temporal.Date)
spec_value_kind types.date64 = Some (kinds.Temporal (temporal.Timestamp Millisecond false))
spec_value_kind (types.time32 u) = Some (kinds.Temporal (temporal.Time u))
spec_value_kind (types.time64 u) = Some (kinds.Temporal (temporal.Time u))
spec_value_kind (types.timestamp u z) = Some (kinds.Temporal (temporal.Timestamp u (is_some z)))
spec_value_kind types.utf8 = Some kinds.String
spec_value_kind types.large_utf8 = Some kinds.String
spec_value_kind (types.extension n t m) = float_kind_or (spec_precision_of (types.extension n t m)) (spec_value_kind t)
spec_value_kind t = None

-- for a dictionary the kind of its values
abbrev pub spec_column_kind : TypeTree → Option ValueKind
spec_column_kind t = unwrap_or (option_map spec_value_kind (value_type t)) (spec_value_kind t)

-- whether arrays of a physical type have values of a kind
abbrev pub spec_has_kind : ValueKind → PhysicalType → Bool
spec_has_kind (kinds.Number s) (physical.Primitive k) = true
spec_has_kind (kinds.Temporal u) (physical.Primitive k) = true
spec_has_kind (kinds.Float Half) (physical.Primitive primitives.UInt16) = true
spec_has_kind (kinds.Float Single) (physical.Primitive primitives.UInt32) = true
spec_has_kind (kinds.Float Double) (physical.Primitive primitives.UInt64) = true
spec_has_kind kinds.String physical.Utf8 = true
spec_has_kind kinds.String physical.LargeUtf8 = true
spec_has_kind kinds.Boolean physical.Boolean = true
spec_has_kind kind p = false

-- whether values of a kind are compared with a literal
abbrev pub spec_accepts : ValueKind → LiteralTree → Bool
spec_accepts (kinds.Number s) (literals.number n) = true
spec_accepts (kinds.Float p) (literals.number n) = true
spec_accepts (kinds.Temporal u) (literals.number n) = true
spec_accepts (kinds.Temporal u) (literals.text bs) = is_some (spec_number_of_text u bs)
spec_accepts kinds.String (literals.text bs) = true
spec_accepts kinds.Boolean (literals.boolean b) = true
spec_accepts kind literal = false
