-- A type has a precision only if it is the floating-point type of that precision.
use Rattle.std.proofs.Common.{◌≡◌, Bool, true, false, cond, Option, Some, None, refl, sym, ◌∙◌}
use Rattle.std.specs.Cmp.Lexicographic.{bytes_decides}
use Rattle.std.specs.Str.{bytes_eq}
use Rattle.nest_memory.specs.TypeTree as types
use Rattle.nest_memory.specs.TypeTree.{Letters, TypeTree}
use Rattle.nest_memory.specs.declared.datatypes.floats.Precision.{Precision}
use Rattle.nest_memory.specs.declared.datatypes.floats.Precision.TheVariants.{Half, Single, Double}
use Rattle.nest_memory.specs.Floats.{spec_float_name, spec_bits_type, spec_float_type, bits_precision, named_precision, spec_precision_of}

some_is : (p q : Precision) → Some p ≡ Some q → p ≡ q
some_is p q h = cc h

bits_are : (type : TypeTree) (p : Precision) → bits_precision type ≡ Some p → type ≡ spec_bits_type p
bits_are types.uint16 Half h = refl
bits_are types.uint16 Single h = absurd (cc h)
bits_are types.uint16 Double h = absurd (cc h)
bits_are types.uint32 Half h = absurd (cc h)
bits_are types.uint32 Single h = refl
bits_are types.uint32 Double h = absurd (cc h)
bits_are types.uint64 Half h = absurd (cc h)
bits_are types.uint64 Single h = absurd (cc h)
bits_are types.uint64 Double h = refl
bits_are type p h = absurd (cc h)

kept_where : (b : Bool) (p q : Precision) → cond b (Some p) None ≡ Some q → (b ≡ true) × (p ≡ q)
kept_where true p q h = (refl, some_is p q h)
kept_where false p q h = absurd (cc h)

name_is : (name : Letters) (precision : Option Precision) (p : Precision) → named_precision name precision ≡ Some p → (precision ≡ Some p) × (name ≡ spec_float_name p)
name_is name None p h = absurd (cc h)
name_is name (Some q) p h =
    let k = kept_where (bytes_eq (spec_float_name q) name) q p h in
    (λ i. Some (k.1 i), sym ((bytes_decides (spec_float_name q) name).0 k.0) ∙ (λ i. spec_float_name (k.1 i)))

pub float_is : (type : TypeTree) (p : Precision) → spec_precision_of type ≡ Some p → type ≡ spec_float_type p
float_is (types.extension name bits None) p h =
    let n = name_is name (bits_precision bits) p h in
    let b = bits_are bits p n.0 in
    λ i. types.extension (n.1 i) (b i) None
float_is type p h = absurd (cc h)
