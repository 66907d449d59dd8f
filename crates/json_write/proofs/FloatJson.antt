-- The JSON of floating-point numbers: its first byte, and that it determines the number.
use Rattle.std.proofs.Common.{◌≡◌, ℕ, ◌<◌, ℤ, pos, negsuc, Bool, true, false, if◌then◌else◌, List, [], ◌∷◌, ◌++◌, refl, sym, ap, ap₂, subst, arith}
use Rattle.std.specs.Float.Ieee.{Format, binary32, binary64}
use Rattle.float_text.proofs.HalfTexts.{half-text-determines}
use Rattle.float_text.proofs.TextBytes.{number-bytes, number-first}
use Rattle.float_text.proofs.TextReads.{same-bits}
use Rattle.float_text.specs.Text.{AreNumberBytes, float_text, is_finite}
use Rattle.json.specs.Print.{quoted}
use Rattle.json_write.proofs.Stops.{Stops, first, quoted-told, tail}
use Rattle.json_write.specs.Floats.{float_bits, float_format, json_of_bits, json_of_float}
use Rattle.json_write.specs.TypedSlots.{IsFloat}
use Rattle.nest_memory.specs.declared.datatypes.floats.Precision.{Precision}
use Rattle.nest_memory.specs.declared.datatypes.floats.Precision.TheVariants.{Half, Single, Double}

-- numbers that something follows
numbers-told : (xs ys r q : List ℕ) → AreNumberBytes xs → AreNumberBytes ys → Stops r → Stops q → xs ++ r ≡ ys ++ q → (xs ≡ ys) × (r ≡ q)
numbers-told [] [] r q a b h l e = (refl, e)
numbers-told [] (y ∷ ys) r q a b h l e = let s : Stops (y ∷ (ys ++ q)) = subst Stops e h in absurd (omega (arith, s, b.0))
numbers-told (x ∷ xs) [] r q a b h l e = let s : Stops (x ∷ (xs ++ r)) = subst Stops (sym e) l in absurd (omega (arith, s, a.0))
numbers-told (x ∷ xs) (y ∷ ys) r q a b h l e =
    let more = numbers-told xs ys r q a.1 b.1 h l (ap tail e) in
    (ap₂ (λ z (zs : List ℕ). z ∷ zs) (ap first e) more.0, more.1)

abbrev json_if : Bool → List ℕ → List ℕ
json_if finite text = if finite then text else quoted text

-- the first byte of a finite number is no quote
finite-first : (f : Format) (bits : ℕ) (r : List ℕ) → is_finite f bits ≡ true → (44 < first (float_text f bits ++ r)) × (first (float_text f bits ++ r) < 58)
finite-first f bits r e =
    let (b, bs, t, k) = number-first f bits e in
    let one : first (float_text f bits ++ r) ≡ b = ap (λ x. first (x ++ r)) t in
    (omega (arith, one, k), omega (arith, one, k))

bits-first : (f : Format) (bits : ℕ) (r : List ℕ) (b : Bool) → is_finite f bits ≡ b → first (json_if b (float_text f bits) ++ r) < 58
bits-first f bits r true e = (finite-first f bits r e).1
bits-first f bits r false e = omega arith

pub float-first : (p : Precision) (z : ℤ) (r : List ℕ) → first (json_of_float p z ++ r) < 58
float-first p z r = bits-first (float_format p) (float_bits p z) r (is_finite (float_format p) (float_bits p z)) refl

bits-told : (f : Format) (a b : ℕ) (x y : Bool) (r q : List ℕ) → is_finite f a ≡ x → is_finite f b ≡ y → Stops r → Stops q
    → json_if x (float_text f a) ++ r ≡ json_if y (float_text f b) ++ q → (float_text f a ≡ float_text f b) × (r ≡ q)
bits-told f a b true true r q d e h l same = numbers-told (float_text f a) (float_text f b) r q (number-bytes f a d) (number-bytes f b e) h l same
bits-told f a b false false r q d e h l same = quoted-told (float_text f a) (float_text f b) r q same
bits-told f a b true false r q d e h l same = absurd (omega (arith, (finite-first f a r d).0, ap first same))
bits-told f a b false true r q d e h l same = absurd (omega (arith, (finite-first f b q e).0, ap first same))

-- the text of both numbers is the same
texts-told : (f : Format) (a b : ℕ) (r q : List ℕ) → Stops r → Stops q → json_of_bits f a ++ r ≡ json_of_bits f b ++ q → (float_text f a ≡ float_text f b) × (r ≡ q)
texts-told f a b r q h l same = bits-told f a b (is_finite f a) (is_finite f b) r q refl refl h l same

pub float-told : (p : Precision) (z y : ℤ) (r q : List ℕ) → IsFloat p z → IsFloat p y → Stops r → Stops q → json_of_float p z ++ r ≡ json_of_float p y ++ q → (z ≡ y) × (r ≡ q)
float-told Half (pos a) (pos b) r q m n h l e =
    let t = texts-told binary32 (float_bits Half (pos a)) (float_bits Half (pos b)) r q h l e in
    (ap pos (half-text-determines a b m.0 n.0 m.1 t.0), t.1)
float-told Single (pos a) (pos b) r q m n h l e =
    let t = texts-told binary32 a b r q h l e in
    (ap pos (same-bits binary32 a b m.0 n.0 m.1 t.0), t.1)
float-told Double (pos a) (pos b) r q m n h l e =
    let t = texts-told binary64 a b r q h l e in
    (ap pos (same-bits binary64 a b m.0 n.0 m.1 t.0), t.1)
float-told p (negsuc a) y r q m n h l e = absurd m
float-told p (pos a) (negsuc b) r q m n h l e = absurd n
