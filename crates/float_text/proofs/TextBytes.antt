-- The bytes of a finite number's text.
use Rattle.std.proofs.Common.{◌≡◌, ℕ, ◌*◌, ◌<◌, Bool, true, false, cond, if◌then◌else◌, List, [], ◌∷◌, ◌++◌, length, inl, inr, refl, sym, subst, arith}
use Rattle.std.specs.Prelude.{◌==◌, codes}
use Rattle.std.proofs.lemmas.Bool.{cases_eq, le-ltb, ltb-true, eq-eqb, ne_eqb}
use Rattle.std.proofs.lemmas.Fmt.{decimal_is_IsNumeral_wide, length-decimal-le}
use Rattle.std.proofs.lemmas.Str.Parse.{digit_from_value}
use Rattle.std.specs.Fmt.{decimal, sign_text}
use Rattle.std.specs.Str.Parse.{AllDigits}
use Rattle.fast_float.specs.Text.{Parts, exponent_text, text_of, IsWellFormed}
use lib.Ieee.{Format, ones, hid}
use Rattle.float_text.specs.Shortest.{shortest_decimal}
use Rattle.float_text.specs.Text.{AreNumberBytes, BeginsAsNumber, float_text, is_finite, is_negative, size_of, size_text}
use Rattle.float_text.proofs.Layouts.{IsNumeralOf, laid-out}
use Rattle.float_text.proofs.ReadBack.{shortest-reads}

-- ---- the bytes of a numeral

digits-then : (ds rest : List ℕ) → AllDigits 10 ds → AreNumberBytes rest → AreNumberBytes (ds ++ rest)
digits-then [] rest h a = a
digits-then (d ∷ ds) rest h a = let r = digit_from_value d h.0 in (inl (omega (arith, r)), digits-then ds rest h.1 a)

digits : (ds : List ℕ) → AllDigits 10 ds → AreNumberBytes ds
digits [] h = tt
digits (d ∷ ds) h = let r = digit_from_value d h.0 in (inl (omega (arith, r)), digits ds h.1)

signed : (negative : Bool) (rest : List ℕ) → AreNumberBytes rest → AreNumberBytes (sign_text negative ++ rest)
signed true rest a = (inr (inr (inr refl)), a)
signed false rest a = a

exponent-bytes : (negative : Bool) (exponent : List ℕ) → AllDigits 10 exponent → AreNumberBytes (exponent_text negative exponent)
exponent-bytes negative [] h = tt
exponent-bytes negative (d ∷ ds) h = (inr (inr (inl refl)), signed negative (d ∷ ds) (digits (d ∷ ds) h))

fraction-bytes : (point : Bool) (fraction rest : List ℕ) → AllDigits 10 fraction → AreNumberBytes rest → AreNumberBytes (cond point (46 ∷ fraction) [] ++ rest)
fraction-bytes true fraction rest h a = (inr (inl refl), digits-then fraction rest h a)
fraction-bytes false fraction rest h a = a

numeral-bytes : (p : Parts) → IsWellFormed p → AreNumberBytes (text_of p)
numeral-bytes p w = digits-then p.whole _ w.whole_digits (fraction-bytes p.point p.fraction _ w.fraction_digits (exponent-bytes p.exponent_negative p.exponent w.exponent_digits))

-- ---- the first byte

digit-first : (ds rest : List ℕ) → 0 < length ds → AllDigits 10 ds → BeginsAsNumber (ds ++ rest)
digit-first [] rest some h = absurd (omega (arith, some))
digit-first (d ∷ ds) rest some h = let r = digit_from_value d h.0 in (d, ds ++ rest, refl, inl (omega (arith, r)))

signed-first : (negative : Bool) (text : List ℕ) → BeginsAsNumber text → BeginsAsNumber (sign_text negative ++ text)
signed-first true text a = (45, text, refl, inr refl)
signed-first false text a = a

-- ---- the text of a finite number without its sign

abbrev finite-text : Format → ℕ → List ℕ
finite-text f size = if size == 0 then codes "0.0" else size_text f size

abbrev IsNumberText : List ℕ → Type 0
IsNumberText text = AreNumberBytes text × BeginsAsNumber text

numeral-is : (text : List ℕ) (q p : ℕ) → IsNumeralOf text q p → IsNumberText text
numeral-is text q p n = subst IsNumberText (sym n.text_is) (numeral-bytes n.numeral n.well_formed, digit-first n.numeral.whole _ n.some n.well_formed.whole_digits)

size-is : (f : Format) (size : ℕ) → 0 < size → size < ones f * hid f → IsNumberText (size_text f size)
size-is f size some finite =
    let d = shortest_decimal f size in
    let reads = shortest-reads f size some finite in
    let numeral = decimal_is_IsNumeral_wide d.0 (omega (arith, reads.1)) in
    numeral-is (size_text f size) d.0 d.1 (laid-out (decimal d.0) d.0 numeral.0.1 numeral.0.0 numeral.1 f d.1 (omega (arith, reads.2, length-decimal-le 18 d.0 (omega arith) (omega (arith, reads.1)) (omega (arith, reads.1)))))

zero-is : IsNumberText (codes "0.0")
zero-is = ((inl (omega arith), (inr (inl refl), (inl (omega arith), tt))), (48, 46 ∷ 48 ∷ [], refl, inl (omega arith)))

finite-is : (f : Format) (size : ℕ) → size < ones f * hid f → IsNumberText (finite-text f size)
finite-is f size finite = elim (cases_eq size 0) [
  | inl z ↦ rw (eq-eqb _ _ z) zero-is
  | inr p ↦ rw (ne_eqb _ _ p) (size-is f size (omega (arith, p)) finite)
]

text-is : (f : Format) (bits : ℕ) → size_of f bits < ones f * hid f → float_text f bits ≡ sign_text (is_negative f bits) ++ finite-text f (size_of f bits)
text-is f bits l = rw (le-ltb (ones f * hid f) (size_of f bits) (omega (arith, l)), ne_eqb (size_of f bits) (ones f * hid f) (omega (arith, l))) refl

-- every byte is one of a number's
pub number-bytes : (f : Format) (bits : ℕ) → is_finite f bits ≡ true → AreNumberBytes (float_text f bits)
number-bytes f bits h =
    let l = ltb-true _ _ h in
    subst AreNumberBytes (sym (text-is f bits l)) (signed (is_negative f bits) _ (finite-is f (size_of f bits) l).0)

-- the first is a digit or a minus sign
pub number-first : (f : Format) (bits : ℕ) → is_finite f bits ≡ true → BeginsAsNumber (float_text f bits)
number-first f bits h =
    let l = ltb-true _ _ h in
    subst BeginsAsNumber (sym (text-is f bits l)) (signed-first (is_negative f bits) _ (finite-is f (size_of f bits) l).1)
