-- How the bits of floating-point numbers are written.
use Rattle.std.proofs.Common.{◌≡◌, ℕ, ◌*◌, ◌≤◌, pos, Bool, true, false, if◌then◌else◌, [], ◌∷◌, ◌++◌, codes, inl, inr, refl, sym, ap, ◌∙◌, arith}
use Rattle.std.specs.Float.Ieee.{Format, binary32, binary64, hid, ones}
use Rattle.std.specs.Fmt.{sign_text}
use Rattle.std.proofs.lemmas.Bool.{cases_lt, eq-eqb, false≢true, le-ltb, lt-ltb, ltb-false}
use Rattle.float_text.specs.Half.{single_of_half}
use Rattle.float_text.specs.Text.{float_text, is_finite, is_negative, size_of}
use Rattle.json.specs.Print.{escape, escape_byte, quoted}
use Rattle.json_write.specs.Floats.{json_of_bits}
use Rattle.json_write.specs.Formats.{has_format}
use Rattle.json_write.specs.JsonText.{json_of_numbers}
use Rattle.json_write.specs.declared.format.ValueFormat.TheVariants.{Float}
use Rattle.nest_memory.specs.declared.datatypes.floats.Precision.{Precision}
use Rattle.nest_memory.specs.declared.datatypes.floats.Precision.TheVariants.{Half, Single, Double}
use Rattle.nest_memory.specs.declared.datatypes.physical_type.PrimitiveType.TheVariants as primitive

signed-infinity : (s : Bool) → escape (sign_text s ++ codes "Infinity") ≡ sign_text s ++ codes "Infinity"
unfolding escape_byte
signed-infinity true = refl
signed-infinity false = refl

-- the names of numbers that are not finite need no escapes
names-plain : (f : Format) (bits : ℕ) → is_finite f bits ≡ false → escape (float_text f bits) ≡ float_text f bits
unfolding escape_byte
names-plain f bits e = elim (cases_lt (ones f * hid f) (size_of f bits)) [
  | inl l ↦ rw (lt-ltb (ones f * hid f) (size_of f bits) l) refl
  | inr g ↦ (
      let from : ones f * hid f ≤ size_of f bits = ltb-false (size_of f bits) (ones f * hid f) e in
      let same : size_of f bits ≡ ones f * hid f = omega (arith, from, g) in
      rw (le-ltb (ones f * hid f) (size_of f bits) g, eq-eqb (size_of f bits) (ones f * hid f) same) (signed-infinity (is_negative f bits))
      )
]

pub name-text : (f : Format) (bits : ℕ) → is_finite f bits ≡ false → (34 ∷ [] ++ float_text f bits) ++ 34 ∷ [] ≡ json_of_bits f bits
name-text f bits e = ap (λ x. 34 ∷ (x ++ 34 ∷ [])) (sym (names-plain f bits e)) ∙ sym (ap (λ b. if b then float_text f bits else quoted (float_text f bits)) e)

pub number-text : (f : Format) (bits : ℕ) → is_finite f bits ≡ true → float_text f bits ≡ json_of_bits f bits
number-text f bits e = sym (ap (λ b. if b then float_text f bits else quoted (float_text f bits)) e)

-- the native type decides the precision
pub half-json : (p : Precision) (bits : ℕ) → has_format primitive.UInt16 (Float p) ≡ true → json_of_bits binary32 (single_of_half bits) ≡ json_of_numbers (Float p) (pos bits ∷ [])
half-json Half bits h = refl
half-json Single bits h = absurd (false≢true h)
half-json Double bits h = absurd (false≢true h)

pub single-json : (p : Precision) (bits : ℕ) → has_format primitive.UInt32 (Float p) ≡ true → json_of_bits binary32 bits ≡ json_of_numbers (Float p) (pos bits ∷ [])
single-json Half bits h = absurd (false≢true h)
single-json Single bits h = refl
single-json Double bits h = absurd (false≢true h)

pub double-json : (p : Precision) (bits : ℕ) → has_format primitive.UInt64 (Float p) ≡ true → json_of_bits binary64 bits ≡ json_of_numbers (Float p) (pos bits ∷ [])
double-json Half bits h = absurd (false≢true h)
double-json Single bits h = absurd (false≢true h)
double-json Double bits h = refl
