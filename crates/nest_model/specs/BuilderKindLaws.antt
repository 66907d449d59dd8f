-- The values that arrays of each physical type hold, in both directions.
use Rattle.std.specs.Prelude.{◌≡◌, ◌⊎◌, ℕ, ℤ, Bool, true, List, [], ◌∷◌, get_or}
use Rattle.std.proofs.Common.{refl, ap, sym, ◌∙◌, inl, inr}
use Rattle.std.proofs.lemmas.Bool.Decides.{Decides-eqb}
use Rattle.nest_memory.specs.declared.datatypes.physical_type.PhysicalType.{PhysicalType}
use Rattle.nest_memory.specs.declared.datatypes.physical_type.PhysicalType.TheVariants as physical
use Rattle.nest_memory.specs.declared.datatypes.physical_type.PrimitiveType.{PrimitiveType}
use Rattle.nest_memory.specs.declared.datatypes.physical_type.PrimitiveType.TheVariants as primitives
use Rattle.nest_model.specs.BuilderTree.{BuilderTree}
use Rattle.nest_model.specs.BuilderItem as items
use Rattle.nest_model.specs.BuilderItem.{native_number, holds_kind, takes}
use Rattle.nest_model.specs.BuilderTakesLaws.{takes-one_kind}

-- the native types by their numbers
abbrev kinds : List PrimitiveType
kinds =
    primitives.Int8 ∷ primitives.Int16 ∷ primitives.Int32 ∷ primitives.Int64 ∷ primitives.Int128 ∷ primitives.Int256 ∷ primitives.UInt8 ∷ primitives.UInt16
    ∷ primitives.UInt32 ∷ primitives.UInt64 ∷ primitives.Float16 ∷ primitives.Float32 ∷ primitives.Float64 ∷ primitives.DaysMs ∷ primitives.MonthDayNano ∷ []

abbrev kind_of : ℕ → PrimitiveType
kind_of n = get_or kinds n primitives.Int8

kind_back : (p : PrimitiveType) → kind_of (native_number p) ≡ p
kind_back primitives.Int8 = refl
kind_back primitives.Int16 = refl
kind_back primitives.Int32 = refl
kind_back primitives.Int64 = refl
kind_back primitives.Int128 = refl
kind_back primitives.Int256 = refl
kind_back primitives.UInt8 = refl
kind_back primitives.UInt16 = refl
kind_back primitives.UInt32 = refl
kind_back primitives.UInt64 = refl
kind_back primitives.Float16 = refl
kind_back primitives.Float32 = refl
kind_back primitives.Float64 = refl
kind_back primitives.DaysMs = refl
kind_back primitives.MonthDayNano = refl

-- native types with equal numbers are equal
pub native_one : (p q : PrimitiveType) → native_number p ≡ native_number q → p ≡ q
native_one p q h = sym (kind_back p) ∙ ap kind_of h ∙ kind_back q

pub takes-one : (t : BuilderTree) (p q : PrimitiveType) (zs ws : List ℤ) → takes t (items.native p zs) ≡ true → takes t (items.native q ws) ≡ true → p ≡ q
takes-one t p q zs ws a b = native_one p q (takes-one_kind t p q zs ws a b)

pub holds-truth : (k : PhysicalType) (b : Bool) → holds_kind k (items.boolean b) ≡ true → k ≡ physical.Boolean
holds-truth physical.Boolean b h = refl
holds-truth k b h = absurd cc

pub holds-native : (k : PhysicalType) (p : PrimitiveType) (zs : List ℤ) → holds_kind k (items.native p zs) ≡ true → k ≡ physical.Primitive p
holds-native (physical.Primitive r) p zs h = ap physical.Primitive (native_one r p ((Decides-eqb (native_number r) (native_number p)).0 h))
holds-native k p zs h = absurd cc

pub own-native : (p : PrimitiveType) (zs : List ℤ) → holds_kind (physical.Primitive p) (items.native p zs) ≡ true
own-native p zs = (Decides-eqb (native_number p) (native_number p)).1 refl

pub holds-text : (k : PhysicalType) (bs : List ℕ) → holds_kind k (items.utf8 bs) ≡ true → (k ≡ physical.Utf8) ⊎ (k ≡ physical.LargeUtf8)
holds-text physical.Utf8 bs h = inl refl
holds-text physical.LargeUtf8 bs h = inr refl
holds-text k bs h = absurd cc

pub holds-bytes : (k : PhysicalType) (bs : List ℕ) → holds_kind k (items.bytes bs) ≡ true → (k ≡ physical.Binary) ⊎ (k ≡ physical.LargeBinary) ⊎ (k ≡ physical.FixedSizeBinary)
holds-bytes physical.Binary bs h = inl refl
holds-bytes physical.LargeBinary bs h = inr (inl refl)
holds-bytes physical.FixedSizeBinary bs h = inr (inr refl)
holds-bytes k bs h = absurd cc
