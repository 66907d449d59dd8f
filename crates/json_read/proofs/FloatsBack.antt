-- Floating-point numbers are read back from their JSON.
use Rattle.std.specs.Prelude.{codes, is_some}
use Rattle.std.proofs.Common.{◌≡◌, ◌≢◌, T, ℕ, ◌*◌, ◌/◌, ◌%◌, ◌<◌, ◌≤◌, ℤ, pos, negsuc, Bool, true, false, not, if◌then◌else◌, List, ◌++◌, [], ◌∷◌, Some, None, nat_lt, inl, inr, refl, sym, ap, subst, ◌∙◌, arith}
use Rattle.std.proofs.lemmas.Bool.{cases_eq, cases_lt, eq-eqb, ne_eqb, le-ltb, lt-ltb, ltb-false}
use Rattle.std.specs.Fmt.{sign_text}
use Rattle.std.specs.Option.{option_map}
use lib.Ieee.{Float as Number, Format, binary32, binary64, nan, inf, fin, hid, ones, is_nan, of_bits, to_bits}
use lib.Ieee.Bits.{to_bits-of_bits}
use lib.Ieee.Scale.{finite}
use Rattle.fast_float.proofs.OnLiterals.{fast_float_on_literals}
use Rattle.fast_float.specs.Parse.{parse_float}
use Rattle.std.proofs.lemmas.Option.{same_Some}
use Rattle.float_text.proofs.TextReads.{reads-back}
use Rattle.float_text.specs.Half.{half_of_fields, half_text, half_value, single_of_half}
use Rattle.float_text.specs.Text.{float_text, is_finite, is_negative, size_of}
use Rattle.json.specs.Json as json
use Rattle.json_read.specs.FlatValues.{error_unless, float_error}
use Rattle.json_read.specs.FloatValues.{bits_number, if_finite, name_bits, number_bits, spec_is_float_name, text_bits}
use Rattle.json_read.specs.HalfNumbers.{half_number_bits}
use Rattle.json_read.proofs.HalfBack.{half-finite, half-reads}
use Rattle.json_read.specs.NativeNumbers.{value_numbers}
use Rattle.json_read.specs.declared.value_error.ValueError.TheVariants.{InvalidText, OutOfRange}
use Rattle.json_write.specs.Floats.{tree_of_float}
use Rattle.json_write.specs.TypedSlots.{IsNotNan, IsBitsIn}
use Rattle.json_write.specs.declared.format.ValueFormat.TheVariants.{Float}
use Rattle.nest_memory.specs.declared.datatypes.floats.Precision.{Precision}
use Rattle.nest_memory.specs.declared.datatypes.floats.Precision.TheVariants.{Half, Single, Double}

not-nan : (x : Number) → x ≢ nan → T (not (is_nan x))
unfolding is_nan
not-nan nan h = absurd (h refl)
not-nan (inf s) h = tt
not-nan (fin s m d) h = tt

bits-back : (f : Format) (bits : ℕ) → IsBitsIn f bits → text_bits f (float_text f bits) ≡ Some bits
bits-back f bits h = ap (option_map (to_bits f)) (reads-back f bits h.0) ∙ ap Some (to_bits-of_bits f bits h.0 (not-nan (of_bits f bits) h.1))

number-back : (f : Format) (bits : ℕ) → IsBitsIn f bits → is_finite f bits ≡ true → number_bits f (float_text f bits) ≡ Some bits
number-back f bits h e = ap (if_finite f) (bits-back f bits h) ∙ ap (λ b. if b then Some bits else None) e

signed-name : (negative : Bool) → spec_is_float_name (sign_text negative ++ codes "Infinity") ≡ true
signed-name true = refl
signed-name false = refl

is-name : (f : Format) (bits : ℕ) → is_finite f bits ≡ false → spec_is_float_name (float_text f bits) ≡ true
is-name f bits e = elim (cases_lt (ones f * hid f) (size_of f bits)) [
  | inl l ↦ rw (lt-ltb (ones f * hid f) (size_of f bits) l) refl
  | inr g ↦ (
      let from : ones f * hid f ≤ size_of f bits = ltb-false (size_of f bits) (ones f * hid f) e in
      let same : size_of f bits ≡ ones f * hid f = omega (arith, from, g) in
      rw (le-ltb (ones f * hid f) (size_of f bits) g, eq-eqb (size_of f bits) (ones f * hid f) same) (signed-name (is_negative f bits))
      )
]

name-back : (f : Format) (bits : ℕ) → IsBitsIn f bits → is_finite f bits ≡ false → name_bits f (float_text f bits) ≡ Some bits
name-back f bits h e = ap (λ b. if b then text_bits f (float_text f bits) else None) (is-name f bits e) ∙ bits-back f bits h

abbrev tree_if : Format → ℕ → Bool → json.Json
tree_if f bits finite = if finite then json.number (float_text f bits) else json.string (float_text f bits)

abbrev ReadsBack : Precision → json.Json → ℤ → Type 0
ReadsBack p j z = (float_error p j ≡ None) × (value_numbers (Float p) j ≡ z ∷ [])

single-back : (bits : ℕ) (finite : Bool) → IsBitsIn binary32 bits → is_finite binary32 bits ≡ finite → ReadsBack Single (tree_if binary32 bits finite) (pos bits)
single-back bits true h e = let b = number-back binary32 bits h e in (ap (λ o. error_unless (is_some o) OutOfRange) b, ap bits_number b)
single-back bits false h e = let b = name-back binary32 bits h e in (ap (λ o. error_unless (is_some o) InvalidText) b, ap bits_number b)

double-back : (bits : ℕ) (finite : Bool) → IsBitsIn binary64 bits → is_finite binary64 bits ≡ finite → ReadsBack Double (tree_if binary64 bits finite) (pos bits)
double-back bits true h e = let b = number-back binary64 bits h e in (ap (λ o. error_unless (is_some o) OutOfRange) b, ap bits_number b)
double-back bits false h e = let b = name-back binary64 bits h e in (ap (λ o. error_unless (is_some o) InvalidText) b, ap bits_number b)

-- ---- halves

abbrev HalfReadsBack : ℕ → Type 0
HalfReadsBack bits = ReadsBack Half (tree_of_float Half (pos bits)) (pos bits)

-- the text of a half reads as the half's value, as a single
abbrev pub HalvesReadBack : Type 0
HalvesReadBack = (bits : ℕ) → bits < 65536 → parse_float binary32 (half_text bits) ≡ Some (half_value bits)

no-name : (text : List ℕ) (x y : Number) → parse_float binary32 text ≡ Some x → T (not (finite x)) → parse_float binary32 text ≡ Some y → T (finite y) → ⊥
no-name text x y p n q h = not-both (finite x) n (subst (λ v. T (finite v)) (sym (same_Some _ _ (sym p ∙ q))) h)
  where
    not-both : (b : Bool) → T (not b) → T b → ⊥
    not-both true n t = n
    not-both false n t = t

nan-reads : parse_float binary32 (codes "NaN") ≡ Some nan
unfolding fast_float_on_literals
nan-reads = refl

infinity-reads : (negative : Bool) → parse_float binary32 (sign_text negative ++ codes "Infinity") ≡ Some (inf negative)
unfolding fast_float_on_literals
infinity-reads true = refl
infinity-reads false = refl

-- a text that reads as a finite number is that of one
finite-text : (bits : ℕ) (v : Number) → parse_float binary32 (float_text binary32 bits) ≡ Some v → T (finite v) → is_finite binary32 bits ≡ true
finite-text bits v e h = elim (cases_lt (size_of binary32 bits) (ones binary32 * hid binary32)) [
  | inl l ↦ lt-ltb _ _ l
  | inr g ↦ elim (cases_lt (ones binary32 * hid binary32) (size_of binary32 bits)) [
    | inl m ↦ absurd (no-name (codes "NaN") nan v nan-reads tt (rw (lt-ltb _ _ m) at e) h)
    | inr k ↦ (
        let same : size_of binary32 bits ≡ ones binary32 * hid binary32 = omega (arith, g, k) in
        absurd (no-name (sign_text (is_negative binary32 bits) ++ codes "Infinity") (inf (is_negative binary32 bits)) v (infinity-reads (is_negative binary32 bits)) tt (rw (le-ltb _ _ k, eq-eqb _ _ same) at e) h)
        )
  ]
]

number-half : HalvesReadBack → (bits : ℕ) → bits < 65536 → bits % 32768 < 31744 → HalfReadsBack bits
number-half back bits h range =
    let found : half_number_bits (half_text bits) ≡ Some bits = half-reads bits (half_text bits) h range (back bits h) in
    let some = finite-text (single_of_half bits) (half_value bits) (back bits h) (half-finite bits range) in
    rw some (ap (λ o. error_unless (is_some o) OutOfRange) found, ap bits_number found)

positive-infinity : HalfReadsBack 31744
unfolding to_bits
positive-infinity = (refl, refl)

negative-infinity : HalfReadsBack 64512
unfolding to_bits
negative-infinity = (refl, refl)

no-nan : (negative : Bool) (x t : ℕ) → x ≡ 31 → half_of_fields negative x t ≢ nan → t ≡ 0
no-nan negative x t e h = elim (cases_eq t 0) [
  | inl z ↦ z
  | inr p ↦ absurd (h (rw (eq-eqb x 31 e, ne_eqb t 0 p) refl))
]

half-back : HalvesReadBack → (bits : ℕ) → (bits < 65536) × (half_value bits ≢ nan) → HalfReadsBack bits
half-back back bits h = elim (cases_lt (bits % 32768) 31744) [
  | inl l ↦ number-half back bits h.0 l
  | inr g ↦
      let digits : bits % 1024 ≡ 0 = no-nan (not (nat_lt bits 32768)) (bits % 32768 / 1024) (bits % 1024) (omega (arith, g)) h.1 in
      elim (cases_lt bits 32768) [
        | inl l ↦ (let e : bits ≡ 31744 = omega (arith, g, digits, l) in subst HalfReadsBack (sym e) positive-infinity)
        | inr m ↦ (let e : bits ≡ 64512 = omega (arith, g, digits, m, h.0) in subst HalfReadsBack (sym e) negative-infinity)
      ]
]

pub float-back : HalvesReadBack → (p : Precision) (z : ℤ) → IsNotNan (Float p) (z ∷ []) → ReadsBack p (tree_of_float p z) z
float-back back Half (pos bits) h = half-back back bits h
float-back back Half (negsuc n) h = absurd h
float-back back Single (pos bits) h = single-back bits (is_finite binary32 bits) h refl
float-back back Double (pos bits) h = double-back bits (is_finite binary64 bits) h refl
float-back back Single (negsuc n) h = absurd h
float-back back Double (negsuc n) h = absurd h
