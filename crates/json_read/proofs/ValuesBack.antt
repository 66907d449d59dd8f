-- The numbers of a native value are read back from their text.
use Rattle.std.specs.Prelude.{is_some, unwrap_or, if◌then◌else◌}
use Rattle.std.proofs.Common.{◌≡◌, ℕ, ◌≤◌, lit≤, ℤ, true, List, [], ◌∷◌, Option, Some, None, refl, sym, ap, ◌∙◌}
use Rattle.std.proofs.lemmas.Bool.{false≢true}
use Rattle.json.specs.Json.{string}
use Rattle.json_read.specs.FlatRoundTrip.{AreInRange, AreNumbersOf, NumbersRoundTrip}
use Rattle.json_read.specs.FlatValues.{Range, signed, unsigned, is_in, are_in, first_error, error_unless, ranges_of, text_error, value_error_of}
use Rattle.json_read.specs.NativeNumbers.{string_values, value_numbers}
use Rattle.json_read.specs.TextNumbers.{is_within_precision, numbers_of_text}
use Rattle.json_read.specs.declared.value_error.ValueError.TheVariants.{InvalidText, PrecisionExceeded}
use Rattle.json_read.proofs.FloatsBack.{HalvesReadBack, float-back}
use Rattle.json_read.proofs.ReadBack.{numbers-back, signed-mag, unsigned-mag}
use Rattle.json_read.proofs.TextBack.{text-back}
use Rattle.nest_memory.specs.TypeTree.{TypeTree}
use Rattle.nest_memory.specs.declared.datatypes.floats.Precision.{Precision}
use Rattle.nest_memory.specs.declared.datatypes.physical_type.PrimitiveType.{PrimitiveType}
use Rattle.nest_memory.specs.declared.datatypes.physical_type.PrimitiveType.TheVariants as primitive
use Rattle.json_write.specs.Decimals.{decimal_text}
use Rattle.json_write.specs.Integers256.{of_halves}
use Rattle.json_write.specs.Formats.{format_of_type, has_format, text_of_numbers}
use Rattle.json_write.specs.JsonTree.{tree_of_numbers, tree_of_text}
use Rattle.json_write.specs.TypedSlots.{IsNotNan, NumbersFitIn128Bits}
use Rattle.json_write.specs.declared.format.ValueFormat.{ValueFormat}
use Rattle.json_write.specs.declared.format.ValueFormat.TheVariants.{Number, Decimal, Decimal256, Float}

abbrev AreNarrow : List Range → Type 0
AreNarrow [] = Unit {0}
AreNarrow (signed bits ∷ rs) = (bits ≤ 128) × AreNarrow rs
AreNarrow (unsigned bits ∷ rs) = (bits ≤ 128) × AreNarrow rs

narrow : (p : PrimitiveType) → AreNarrow (ranges_of p)
narrow primitive.Float16 = tt
narrow primitive.Float32 = tt
narrow primitive.Float64 = tt
narrow primitive.Int256 = (lit≤ tt, (lit≤ tt, tt))
narrow primitive.DaysMs = (lit≤ tt, (lit≤ tt, tt))
narrow primitive.MonthDayNano = (lit≤ tt, (lit≤ tt, (lit≤ tt, tt)))
narrow p = (lit≤ tt, tt)

numbers-fit : (rs : List Range) (zs : List ℤ) → AreNarrow rs → AreInRange rs zs → NumbersFitIn128Bits zs
numbers-fit [] [] w h = tt
numbers-fit [] (z ∷ zs) w h = absurd h
numbers-fit (r ∷ rs) [] w h = tt
numbers-fit (signed bits ∷ rs) (z ∷ zs) w h = (signed-mag bits z w.0 h.0, numbers-fit rs zs w.1 h.1)
numbers-fit (unsigned bits ∷ rs) (z ∷ zs) w h = (unsigned-mag bits z w.0 h.0, numbers-fit rs zs w.1 h.1)

are-in : (rs : List Range) (zs : List ℤ) → AreInRange rs zs → are_in rs zs ≡ true
are-in [] [] h = refl
are-in [] (z ∷ zs) h = absurd h
are-in (r ∷ rs) [] h = absurd h
are-in (r ∷ rs) (z ∷ zs) h = rw (h.0, are-in rs zs h.1) refl

-- a value that has a text is no plain number and no float
no-number : (zs : List ℤ) (s : List ℕ) → text_of_numbers Number zs ≡ Some s → ⊥
no-number zs s e = false≢true (ap is_some e)

no-float : (q : Precision) (zs : List ℤ) (s : List ℕ) → text_of_numbers (Float q) zs ≡ Some s → ⊥
no-float q zs s e = false≢true (ap is_some e)

text-read : (p : PrimitiveType) (v : ValueFormat) (zs : List ℤ) (s : List ℕ) → text_of_numbers v zs ≡ Some s → value_error_of p v (string s) ≡ text_error v (ranges_of p) (numbers_of_text v s)
text-read p Number zs s e = absurd (no-number zs s e)
text-read p (Float q) zs s e = absurd (no-float q zs s e)
text-read p v zs s e = refl

pub text-values : (v : ValueFormat) (zs : List ℤ) (s q : List ℕ) → text_of_numbers v zs ≡ Some s → string_values v q ≡ unwrap_or (numbers_of_text v q) []
text-values (Float p) zs s q e = absurd (no-float p zs s e)
text-values v zs s q e = refl

pub text-valid : (v : ValueFormat) (rs : List Range) (zs : List ℤ) → are_in rs zs ≡ true → is_within_precision v zs ≡ true → text_error v rs (Some zs) ≡ None
text-valid v rs zs h l = ap (λ b. first_error (error_unless b InvalidText) (error_unless (is_within_precision v zs) PrecisionExceeded)) h ∙ ap (λ b. error_unless b PrecisionExceeded) l

-- a float is one number
one-float : (p : PrimitiveType) (q : Precision) (z y : ℤ) (zs : List ℤ) → has_format p (Float q) ≡ true → AreInRange (ranges_of p) (z ∷ y ∷ zs) → ⊥
one-float primitive.UInt16 q z y zs h i = i.1
one-float primitive.UInt32 q z y zs h i = i.1
one-float primitive.UInt64 q z y zs h i = i.1
one-float p q z y zs h i = false≢true h

-- the halves of an integer have a text
halves-some : (a b : ℕ) (z y : ℤ) → is_in (unsigned 128) y ≡ true → text_of_numbers (Decimal256 a b) (z ∷ y ∷ []) ≡ None → ⊥
halves-some a b z y h e = false≢true (sym (ap is_some (sym (ap (λ c. if c then Some (decimal_text b (of_halves z y)) else None) h) ∙ e)))

-- a value without text is read as numbers, and a float from its JSON
plain-back : HalvesReadBack → (p : PrimitiveType) (v : ValueFormat) (z : ℤ) (zs : List ℤ) → has_format p v ≡ true → AreInRange (ranges_of p) (z ∷ zs) → IsNotNan v (z ∷ zs) → text_of_numbers v (z ∷ zs) ≡ None
    → (value_error_of p v (tree_of_numbers v (z ∷ zs)) ≡ None) × (value_numbers v (tree_of_numbers v (z ∷ zs)) ≡ z ∷ zs)
plain-back back primitive.Int128 (Decimal a b) z [] h i r e = absurd (false≢true (sym (ap is_some e)))
plain-back back primitive.Int128 (Decimal a b) z (y ∷ ys) h i r e = absurd i.1
plain-back back p (Decimal a b) z zs h i r e = absurd (false≢true h)
plain-back back primitive.Int256 (Decimal256 a b) z [] h i r e = absurd i.1
plain-back back primitive.Int256 (Decimal256 a b) z (y ∷ []) h i r e = absurd (halves-some a b z y i.1.0 e)
plain-back back primitive.Int256 (Decimal256 a b) z (y ∷ x ∷ xs) h i r e = absurd i.1.1
plain-back back p (Decimal256 a b) z zs h i r e = absurd (false≢true h)
plain-back back p (Float q) z [] h i r e = float-back back q z r
plain-back back p (Float q) z (y ∷ ys) h i r e = absurd (one-float p q z y ys h i)
plain-back back p v z [] h i r e = numbers-back p z [] i
plain-back back p v z (y ∷ ys) h i r e = numbers-back p z (y ∷ ys) i

pub values-back : HalvesReadBack → (p : PrimitiveType) (t : TypeTree) (z : ℤ) (zs : List ℤ) → AreNumbersOf p t (z ∷ zs) → NumbersRoundTrip p t (z ∷ zs)
values-back back p t z zs h = go (text_of_numbers (format_of_type t) (z ∷ zs)) refl
  where
    go : (o : Option (List ℕ)) → text_of_numbers (format_of_type t) (z ∷ zs) ≡ o → NumbersRoundTrip p t (z ∷ zs)
    go (Some s) e =
        let v = format_of_type t in
        let plain = tree_of_numbers v (z ∷ zs) in
        let found = text-back v (z ∷ zs) s (numbers-fit (ranges_of p) (z ∷ zs) (narrow p) h.0) e in (
          ap (λ o. value_error_of p v (tree_of_text o plain)) e
              ∙ text-read p v (z ∷ zs) s e
              ∙ ap (text_error v (ranges_of p)) found
              ∙ text-valid v (ranges_of p) (z ∷ zs) (are-in (ranges_of p) (z ∷ zs) h.0) h.2,
          ap (λ o. value_numbers v (tree_of_text o plain)) e ∙ text-values v (z ∷ zs) s s e ∙ ap (λ o. unwrap_or o []) found,
        )
    go None e =
        let v = format_of_type t in
        let plain = tree_of_numbers v (z ∷ zs) in
        let both = plain-back back p v z zs h.1 h.0 h.3 e in (
          ap (λ o. value_error_of p v (tree_of_text o plain)) e ∙ both.0,
          ap (λ o. value_numbers v (tree_of_text o plain)) e ∙ both.1,
        )
