-- Laws of functions that return an array of null slots or an empty array.
use Rattle.std.specs.Prelude.{◌≡◌, ℕ, zero, suc, ◌-◌, ◌<◌, ◌≤◌, ◌^◌, ℤ, pos, true, false, List, ◌∷◌, map, replicate, Option, Some, None}
use Rattle.std.proofs.Common.{refl, ap, sym, ◌∙◌, subst, arith}
use Rattle.nest_memory.specs.TypeTree.{TypeTree}
use Rattle.nest_memory.specs.Physical.{physical_type}
use Rattle.nest_memory.specs.declared.datatypes.physical_type.PhysicalType.TheVariants as physical
use Rattle.nest_memory.specs.declared.datatypes.physical_type.PrimitiveType.{PrimitiveType}
use Rattle.nest_memory.specs.declared.datatypes.physical_type.PrimitiveType.TheVariants as primitives
use Rattle.nest_memory.specs.Native.{parts_of}
use Rattle.nest_memory.specs.declared.error.Error.{Error}
use Rattle.nest_memory.specs.declared.error.Error.TheVariants.{Overflow}
use Rattle.nest_model.specs.declared.fill.Fill.{Fill}
use Rattle.nest_model.specs.declared.fill.Fill.TheVariants.{Nulls, Nothing}
use Rattle.nest_model.specs.Layout.{Layout, layout_type}
use Rattle.nest_model.specs.Meaning.{slots_of}
use Rattle.nest_model.specs.Nulls.{Fills, error_of, type_error, empty_error, float_error}
use Rattle.nest_model.specs.Array.{TopFits}
use Rattle.nest_model.specs.Checks.{refuse_if, is_past}
use Rattle.nest_model.specs.Decide.{refuse-none}
use Rattle.nest_model.specs.Fits.{Fits}
use Rattle.nest_model.specs.Layout as layouts
use Rattle.nest_model.specs.NullLayout.{zero_value, none_valid, null_array, null_layout, empty_layout}
use Rattle.nest_model.specs.NullLaws.{IsNullArray, is-array, not-above, native-null, null-array, null-layout, empty-layout, null-slots}
use Rattle.nest_model.specs.NullKinds.{is_plain, native-parts, native-slot, plain-first_error}
use Rattle.nest_model.specs.MadeNulls.{HasNulls, HasNone}

pub as-nulls : (t : TypeTree) (n : ℕ) (a : Layout) → IsNullArray t n (null_layout t n) → a ≡ null_layout t n → HasNulls t n a
as-nulls t n a r e = record { same_type = ap layout_type e ∙ r.typed; slots = ap slots_of e ∙ null-slots t n (null_layout t n) r; parts = e }

pub has-nulls : (t : TypeTree) (n : ℕ) (a : Layout) → type_error t n ≡ None → a ≡ null_layout t n → HasNulls t n a
has-nulls t n a h e = as-nulls t n a (null-layout t n h) e

pub as-none : (t : TypeTree) (a : Layout) → IsNullArray t 0 (empty_layout t) → a ≡ empty_layout t → HasNone t a
as-none t a r e = record { same_type = ap layout_type e ∙ r.typed; slots = ap slots_of e ∙ null-slots t 0 (empty_layout t) r; parts = e }

pub has-none : (t : TypeTree) (a : Layout) → empty_error t ≡ None → a ≡ empty_layout t → HasNone t a
has-none t a h e = as-none t a (empty-layout t h) e

-- Native values have an error only if they are floats.
native-array : (k : PrimitiveType) (t : TypeTree) (n : ℕ) (d : Fill) → Fills d n → physical_type t ≡ physical.Primitive k → IsNullArray t n (null_array t n d)
native-array k t n d p h = subst (IsNullArray t n) (sym (native-parts k t n d h)) (native-null k t n d p h (native-slot k t h))

pub native-nulls : (k : PrimitiveType) (t : TypeTree) (n : ℕ) (a : Layout) → physical_type t ≡ physical.Primitive k → a ≡ null_layout t n → HasNulls t n a
native-nulls k t n a h e = as-nulls t n a (native-array k t n Nulls tt h) e

pub native-none : (k : PrimitiveType) (t : TypeTree) (a : Layout) → physical_type t ≡ physical.Primitive k → a ≡ empty_layout t → HasNone t a
native-none k t a h e = as-none t a (native-array k t 0 Nothing refl h) e

zero-numbers : (k : PrimitiveType) → replicate (parts_of k) (pos 0) ≡ zero_value k
zero-numbers primitives.Int256 = refl
zero-numbers primitives.DaysMs = refl
zero-numbers primitives.MonthDayNano = refl
zero-numbers k = refl

pub native-zeros : {A : Type 0} (v : A → List ℤ) (k : PrimitiveType) (t : TypeTree) (n : ℕ) (d : Fill) (z : A) → physical_type t ≡ physical.Primitive k → v z ≡ replicate (parts_of k) (pos 0)
    → layouts.primitive k t (map v (replicate n z)) (none_valid d n) ≡ null_array t n d
native-zeros v k t n d z h e = ap (λ vs. layouts.primitive k t vs (none_valid d n)) (repeated n ∙ ap (replicate n) (e ∙ zero-numbers k)) ∙ sym (native-parts k t n d h)
  where
    repeated : (n : ℕ) → map v (replicate n z) ≡ replicate n (v z)
    repeated zero = refl
    repeated (suc n) = ap (λ vs. v z ∷ vs) (repeated n)

pub no-float : (t : TypeTree) (k : PrimitiveType) (n : ℕ) (d : Fill) → physical_type t ≡ physical.Primitive k → error_of t n d ≡ None → float_error (physical.Primitive k) ≡ None
no-float t k n d h e = ap float_error (sym h) ∙ sym (plain-first_error t n d (ap is_plain h)) ∙ e

-- Booleans have no error.
pub boolean-first_error : (t : TypeTree) (n : ℕ) (d : Fill) → physical_type t ≡ physical.Boolean → error_of t n d ≡ None
boolean-first_error t n d h = plain-first_error t n d (ap is_plain h) ∙ ap float_error h

-- An array of n slots has n + 1 offsets.
past : (n : ℕ) → 2 ^ 64 ≤ n → is_past n ≡ true
past n h = grind (arith)

pub not-past : (n : ℕ) (rest : Option Error) → refuse_if (is_past n) Overflow rest ≡ None → n < 2 ^ 64
not-past n rest h = let l = not-above (2 ^ 64 - 1) n (refuse-none (is_past n) Overflow rest h).0 in omega arith

pub refused-past : (n : ℕ) (rest : Option Error) → 2 ^ 64 ≤ n → refuse_if (is_past n) Overflow rest ≡ Some Overflow
refused-past n rest h = ap (λ b. refuse_if b Overflow rest) (past n h)

pub accepted-not-past : (n : ℕ) (rest : Option Error) → n < 2 ^ 64 → refuse_if (is_past n) Overflow rest ≡ rest
accepted-not-past n rest h = ap (λ b. refuse_if b Overflow rest) (let e : is_past n ≡ false = grind (arith) in e)

-- A null array is valid at its top level.
pub top-fits : (t : TypeTree) (n : ℕ) (d : Fill) (a : Layout) → Fills d n → error_of t n d ≡ None → a ≡ null_array t n d → TopFits a
top-fits t n d a p h e = subst TopFits (sym e) (is-array t n (null_array t n d) (null-array t n d p h)).0

pub fits : (t : TypeTree) (n : ℕ) (d : Fill) (a : Layout) → Fills d n → error_of t n d ≡ None → a ≡ null_array t n d → Fits a
fits t n d a p h e = let r = null-array t n d p h in subst Fits (sym e) r.fits
