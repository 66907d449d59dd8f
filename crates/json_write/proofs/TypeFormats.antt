-- The native type of a data type has its format.
use Rattle.std.proofs.Common.{◌≡◌, true, Option, Some, None, refl, sym, ap, ◌∙◌, subst}
use Rattle.nest_array.specs.SeenScalar.{shown_type}
use Rattle.nest_memory.specs.FloatLaws.{float_is}
use Rattle.nest_memory.specs.Floats.{spec_bits_type, spec_precision_of}
use Rattle.nest_memory.specs.Physical.{physical_type}
use Rattle.nest_memory.specs.TypeTree as types
use Rattle.nest_memory.specs.TypeTree.{Letters, TypeTree}
use Rattle.nest_memory.specs.declared.datatypes.IntervalUnit.TheVariants as interval
use Rattle.nest_memory.specs.declared.datatypes.floats.Precision.{Precision}
use Rattle.nest_memory.specs.declared.datatypes.floats.Precision.TheVariants.{Half, Single, Double}
use Rattle.nest_memory.specs.declared.datatypes.physical_type.PhysicalType.{PhysicalType}
use Rattle.nest_memory.specs.declared.datatypes.physical_type.PhysicalType.TheVariants as physical
use Rattle.nest_memory.specs.declared.datatypes.physical_type.PrimitiveType.{PrimitiveType}
use Rattle.nest_memory.specs.declared.datatypes.physical_type.PrimitiveType.TheVariants as primitive
use Rattle.json_write.specs.Formats.{extension_format, format_of_type, has_format}
use Rattle.json_write.specs.declared.format.ValueFormat.{ValueFormat}
use Rattle.json_write.specs.declared.format.ValueFormat.TheVariants.{Float}

abbrev native_in : PhysicalType → PrimitiveType
native_in (physical.Primitive k) = k
native_in p = primitive.Int8

same-native : (v : ValueFormat) (j k : PrimitiveType) → has_format j v ≡ true → physical.Primitive j ≡ physical.Primitive k → has_format k v ≡ true
same-native v j k h e = subst (λ i. has_format i v ≡ true) (ap native_in e) h

-- the bits of a floating-point type
bits-fit : (p : Precision) (k : PrimitiveType) → physical_type (spec_bits_type p) ≡ physical.Primitive k → has_format k (Float p) ≡ true
bits-fit Half k e = same-native (Float Half) primitive.UInt16 k refl e
bits-fit Single k e = same-native (Float Single) primitive.UInt32 k refl e
bits-fit Double k e = same-native (Float Double) primitive.UInt64 k refl e

shown-bits : (p : Precision) → shown_type (spec_bits_type p) ≡ spec_bits_type p
shown-bits Half = refl
shown-bits Single = refl
shown-bits Double = refl

abbrev pub storage : TypeTree → TypeTree
storage (types.extension n t m) = t
storage t = t

-- an extension type has the format of floats, or that of its storage
extension-fits : (n : Letters) (t : TypeTree) (m : Option Letters) (k : PrimitiveType) (o : Option Precision) → spec_precision_of (types.extension n t m) ≡ o
    → physical_type (shown_type t) ≡ physical.Primitive k → has_format k (format_of_type t) ≡ true → has_format k (extension_format o (format_of_type t)) ≡ true
extension-fits n t m k None e h fits = fits
extension-fits n t m k (Some p) e h fits =
    let bits : t ≡ spec_bits_type p = ap storage (float_is (types.extension n t m) p e) in
    bits-fit p k (ap physical_type (sym (shown-bits p)) ∙ ap (λ u. physical_type (shown_type u)) (sym bits) ∙ h)

-- the values of a scalar or a dictionary have the format of their data type
pub shown-format-fits : (t : TypeTree) (k : PrimitiveType) → physical_type (shown_type t) ≡ physical.Primitive k → has_format k (format_of_type t) ≡ true
shown-format-fits (types.decimal p s) k e = same-native (format_of_type (types.decimal p s)) primitive.Int128 k refl e
shown-format-fits (types.decimal256 p s) k e = same-native (format_of_type (types.decimal256 p s)) primitive.Int256 k refl e
shown-format-fits types.date32 k e = same-native (format_of_type types.date32) primitive.Int32 k refl e
shown-format-fits types.date64 k e = same-native (format_of_type types.date64) primitive.Int64 k refl e
shown-format-fits (types.time32 u) k e = same-native (format_of_type (types.time32 u)) primitive.Int32 k refl e
shown-format-fits (types.time64 u) k e = same-native (format_of_type (types.time64 u)) primitive.Int64 k refl e
shown-format-fits (types.timestamp u z) k e = same-native (format_of_type (types.timestamp u z)) primitive.Int64 k refl e
shown-format-fits (types.duration u) k e = same-native (format_of_type (types.duration u)) primitive.Int64 k refl e
shown-format-fits (types.interval interval.YearMonth) k e = same-native (format_of_type (types.interval interval.YearMonth)) primitive.Int32 k refl e
shown-format-fits (types.interval interval.DayTime) k e = same-native (format_of_type (types.interval interval.DayTime)) primitive.DaysMs k refl e
shown-format-fits (types.interval interval.MonthDayNano) k e = same-native (format_of_type (types.interval interval.MonthDayNano)) primitive.MonthDayNano k refl e
shown-format-fits (types.dictionary j t b) k e = shown-format-fits t k e
shown-format-fits (types.extension n t m) k e = extension-fits n t m k (spec_precision_of (types.extension n t m)) refl e (shown-format-fits t k e)
shown-format-fits t k e = refl

-- the native type of an array is that of the values that are shown
pub shown-native : (t : TypeTree) (k : PrimitiveType) → physical_type t ≡ physical.Primitive k → physical_type (shown_type t) ≡ physical.Primitive k
shown-native (types.dictionary j t b) k e = absurd (let no : physical.Dictionary j ≡ physical.Primitive k = e in cc)
shown-native (types.extension n t m) k e = shown-native t k e
shown-native t k e = e

pub format-fits : (t : TypeTree) (k : PrimitiveType) → physical_type t ≡ physical.Primitive k → has_format k (format_of_type t) ≡ true
format-fits t k e = shown-format-fits t k (shown-native t k e)
