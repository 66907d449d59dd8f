-- The text of a number reads back.
use Rattle.std.proofs.Common.{◌≡◌, ◌≢◌, T, ℕ, zero, suc, ◌+◌, ◌-◌, ◌*◌, ◌%◌, ◌^◌, ◌<◌, ◌≤◌, Bool, true, false, not, cond, eqb, if◌then◌else◌, List, ◌++◌, Some, inl, inr, refl, sym, ap, ◌∙◌, arith}
use Rattle.std.specs.Prelude.{◌==◌, codes}
use Rattle.std.proofs.lemmas.Bool.{cases_lt, cases_eq, lt-ltb, le-ltb, lt-leb, le-leb, eq-eqb, ne_eqb, false≢true}
use native.Mathlib.Nat.{mod-eq_of_lt}
use Rattle.std.proofs.lemmas.Fmt.{decimal_is_IsNumeral_wide, length-decimal-le}
use Rattle.std.specs.Fmt.{decimal, sign_text}
use lib.Ieee.{Float, Format, binary32, binary64, nan, inf, fin, prec, low, hid, ones, top, odd, round, neg, is_nan, of_bits, of_fields, to_bits}
use lib.Ieee.Bits.{nan_bits_is, nan_bits_above, to_bits-of_bits}
use Rattle.std.proofs.lemmas.Option.{same_Some}
use Rattle.fast_float.specs.Parse.{parse_float}
use Rattle.fast_float.specs.Text as numerals
use Rattle.fast_float.proofs.Extremes.{round_tens}
use Rattle.fast_float.proofs.Patterns.{infinite, neg-round}
use Rattle.fast_float.proofs.OnLiterals.{fast_float_on_literals}
use Rattle.fast_float.proofs.Writing.{parse_float-text_of}
use Rattle.float_text.specs.Shortest.{shortest_decimal, tens_down, tens_up}
use Rattle.float_text.specs.Text.{float_text, is_negative, size_of, size_text}
use Rattle.float_text.proofs.Layouts.{IsNumeralOf, laid-out}
use Rattle.float_text.proofs.ReadBack.{reads-as-number, shortest-reads}

signed-round : (f : Format) (negative : Bool) (a b c d : ℕ) → round f false a b ≡ round f false c d → round f negative a b ≡ round f negative c d
signed-round f false a b c d e = e
signed-round f true a b c d e = sym (neg-round f a b) ∙ ap neg e ∙ neg-round f c d

-- a numeral of this value reads as the rounded number
numeral-reads : (f : Format) (negative : Bool) (text : List ℕ) (q p : ℕ) → IsNumeralOf text q p → parse_float f (sign_text negative ++ text) ≡ Some (round f negative (q * tens_up p) (tens_down p))
numeral-reads f negative text q p n =
    ap (λ x. parse_float f (sign_text negative ++ x)) n.text_is
    ∙ parse_float-text_of f negative n.numeral n.well_formed n.some
    ∙ ap Some (signed-round f negative _ _ _ _ (ap (λ x. round f false x (10 ^ numerals.tens_down n.numeral)) n.digits ∙ round_tens f q n.up (numerals.tens_down n.numeral) (p - 342) (342 - p) n.place))

pub size-reads : (f : Format) (negative : Bool) (bits : ℕ) → 0 < bits → bits < ones f * hid f → parse_float f (sign_text negative ++ size_text f bits) ≡ Some (if negative then neg (of_bits f bits) else of_bits f bits)
size-reads f negative bits some finite =
    let d = shortest_decimal f bits in
    let reads = shortest-reads f bits some finite in
    let numeral = decimal_is_IsNumeral_wide d.0 (omega (arith, reads.1)) in
    numeral-reads f negative (size_text f bits) d.0 d.1 (laid-out (decimal d.0) d.0 numeral.0.1 numeral.0.0 numeral.1 f d.1 (omega (arith, reads.2, length-decimal-le 18 d.0 (omega arith) (omega (arith, reads.1)) (omega (arith, reads.1)))))
    ∙ ap Some (signed negative (reads-as-number f bits d.0 d.1 reads.0))
  where
    signed : (negative : Bool) → round f false ((shortest_decimal f bits).0 * tens_up (shortest_decimal f bits).1) (tens_down (shortest_decimal f bits).1) ≡ of_bits f bits
        → round f negative ((shortest_decimal f bits).0 * tens_up (shortest_decimal f bits).1) (tens_down (shortest_decimal f bits).1) ≡ (if negative then neg (of_bits f bits) else of_bits f bits)
    signed false e = e
    signed true e = sym (neg-round f _ _) ∙ ap neg e

-- ---- the sign

neg-odd : (d q k l : ℕ) → neg (odd d false q k l) ≡ odd d true q k l
unfolding neg odd
neg-odd d zero k l = refl
neg-odd d (suc q) k l = refl

neg-of_fields : (f : Format) (x t : ℕ) → neg (of_fields f false x t) ≡ of_fields f true x t
unfolding neg of_fields
neg-of_fields f zero t = neg-odd _ t 0 _
neg-of_fields f (suc x) t = go (eqb (suc x) (ones f)) (eqb t 0)
  where
    go : (a b : Bool) → neg (cond a (cond b (inf false) nan) (odd (prec f) false (hid f + t) x (low f))) ≡ cond a (cond b (inf true) nan) (odd (prec f) true (hid f + t) x (low f))
    go true true = refl
    go true false = refl
    go false b = neg-odd _ _ x _

same-fields : (f : Format) (n : ℕ) → top f ≤ n → n < 2 * top f → (n % top f % top f ≡ n % top f) × (n % top f % hid f ≡ n % hid f) × (n % top f < top f)
same-fields binary32 n p q = (omega arith, omega arith, omega arith)
same-fields binary64 n p q = (omega arith, omega arith, omega arith)

negative-bits : (f : Format) (n : ℕ) → top f ≤ n → n < 2 * top f → neg (of_bits f (n % top f)) ≡ of_bits f n
unfolding of_bits
negative-bits f n p q = let e = same-fields f n p q in rw (le-leb (top f) n p, lt-leb (top f) (n % top f) e.2, e.0, e.1) (neg-of_fields f _ _)

signed-bits : (f : Format) (bits : ℕ) → bits < 2 * top f → (if is_negative f bits then neg (of_bits f (size_of f bits)) else of_bits f (size_of f bits)) ≡ of_bits f bits
signed-bits f bits h = elim (cases_lt bits (top f)) [
  | inl l ↦ rw (lt-ltb _ _ l) (ap (of_bits f) (mod-eq_of_lt l))
  | inr g ↦ rw (le-ltb _ _ g) (negative-bits f bits g h)
]

-- ---- names and zeros

only-nan : (x : Float) → is_nan x ≡ true → x ≡ nan
unfolding is_nan
only-nan nan e = refl
only-nan (inf s) e = absurd (false≢true e)
only-nan (fin s m d) e = absurd (false≢true e)

nan-bits : (f : Format) (bits : ℕ) → ones f * hid f < size_of f bits → of_bits f bits ≡ nan
nan-bits f bits h = only-nan (of_bits f bits) (sym (nan_bits_is f bits) ∙ nan_bits_above f bits ∙ lt-ltb _ _ h)

nan-reads : (f : Format) → parse_float f (codes "NaN") ≡ Some nan
unfolding fast_float_on_literals
nan-reads binary32 = refl
nan-reads binary64 = refl

infinity-reads : (f : Format) (negative : Bool) → parse_float f (sign_text negative ++ codes "Infinity") ≡ Some (if negative then neg (inf false) else inf false)
unfolding fast_float_on_literals neg
infinity-reads binary32 true = refl
infinity-reads binary32 false = refl
infinity-reads binary64 true = refl
infinity-reads binary64 false = refl

zero-reads : (f : Format) (negative : Bool) → parse_float f (sign_text negative ++ codes "0.0") ≡ Some (if negative then neg (of_bits f 0) else of_bits f 0)
unfolding fast_float_on_literals neg of_bits
zero-reads binary32 true = refl
zero-reads binary32 false = refl
zero-reads binary64 true = refl
zero-reads binary64 false = refl

signed-same : (negative : Bool) (x y : Float) → x ≡ y → (if negative then neg x else x) ≡ (if negative then neg y else y)
signed-same negative x y e = ap (λ (z : Float). if negative then neg z else z) e

pub reads-back : (f : Format) (bits : ℕ) → bits < 2 * top f → parse_float f (float_text f bits) ≡ Some (of_bits f bits)
reads-back f bits h = elim (cases_lt (ones f * hid f) (size_of f bits)) [
  | inl l ↦ rw (lt-ltb _ _ l) (nan-reads f ∙ ap Some (sym (nan-bits f bits l)))
  | inr g ↦ rw (le-ltb _ _ g) (number g)
]
  where
    number : size_of f bits ≤ ones f * hid f
        → parse_float f (sign_text (is_negative f bits) ++ (if size_of f bits == ones f * hid f then codes "Infinity" else (if size_of f bits == 0 then codes "0.0" else size_text f (size_of f bits)))) ≡ Some (of_bits f bits)
    number g = elim (cases_eq (size_of f bits) (ones f * hid f)) [
      | inl e ↦ rw (eq-eqb _ _ e) (infinity-reads f (is_negative f bits) ∙ ap Some (signed-same (is_negative f bits) (inf false) (of_bits f (size_of f bits)) (sym (ap (of_bits f) e ∙ infinite f)) ∙ signed-bits f bits h))
      | inr n ↦ rw (ne_eqb _ _ n) (elim (cases_eq (size_of f bits) 0) [
        | inl z ↦ rw (eq-eqb _ _ z) (zero-reads f (is_negative f bits) ∙ ap Some (signed-same (is_negative f bits) (of_bits f 0) (of_bits f (size_of f bits)) (sym (ap (of_bits f) z)) ∙ signed-bits f bits h))
        | inr p ↦ rw (ne_eqb _ _ p) (size-reads f (is_negative f bits) (size_of f bits) (omega (arith, p)) (omega (arith, g, n)) ∙ ap Some (signed-bits f bits h))
      ])
    ]

not-nan : (x : Float) → x ≢ nan → T (not (is_nan x))
unfolding is_nan
not-nan nan h = absurd (h refl)
not-nan (inf s) h = tt
not-nan (fin s m d) h = tt

pub same-bits : (f : Format) (a b : ℕ) → a < 2 * top f → b < 2 * top f → of_bits f a ≢ nan → float_text f a ≡ float_text f b → a ≡ b
same-bits f a b h k n e =
    let same : of_bits f a ≡ of_bits f b = same_Some _ _ (sym (reads-back f a h) ∙ ap (parse_float f) e ∙ reads-back f b k) in
    sym (to_bits-of_bits f a h (not-nan (of_bits f a) n)) ∙ ap (to_bits f) same ∙ to_bits-of_bits f b k (not-nan (of_bits f b) (λ z. n (same ∙ z)))
