-- Raw keys are checked if some key is valid.
use Rattle.std.specs.Prelude.{◌↔◌, IsTrue, not, cond}
use Rattle.std.specs.List.{count_by, range_with_len}
use Rattle.std.proofs.Common.{◌≡◌, ℕ, zero, suc, ◌+◌, ◌<◌, ◌≤◌, Bool, true, false, refl, ap, sym, ◌∙◌, arith}
use Rattle.std.proofs.lemmas.List.FromFn.{length-range_with_len}
use Rattle.std.proofs.lemmas.List.Sums.{count_by-le-length, sum_by-cons}
use Rattle.nest_memory.specs.declared.datatypes.physical_type.PrimitiveType.{PrimitiveType}
use Rattle.nest_model.specs.Accessors.{validity_of, natives_of, raw_keys}
use Rattle.nest_model.specs.Fits.{EachNames, KeysInRange, SomeValid}
use Rattle.nest_model.specs.Layout.{Layout, primitive, layout_type}
use Rattle.nest_model.specs.Meaning.{len}
use Rattle.nest_model.specs.Nullness.{is_null_at, null_count}
use Rattle.nest_model.specs.Part.{valid_at}

abbrev IsNative : PrimitiveType → Layout → Type 0
IsNative k a = a ≡ primitive k (layout_type a) (natives_of a) (validity_of a)

-- if all indices are counted, each one is, otherwise one is not
first-counted : (b : Bool) (c n : ℕ) → cond b 1 0 + c ≡ suc n → c ≤ n → (b ≡ true) × (c ≡ n)
first-counted true c n h l = (refl, omega (arith, h))
first-counted false c n h l = absurd (omega (arith, h, l))

counted : (p : ℕ → Bool) (o n : ℕ) → count_by p (range_with_len o (suc n)) ≡ cond (p o) 1 0 + count_by p (range_with_len (o + 1) n)
counted p o n = sum_by-cons (λ j. cond (p j) 1 0) o (range_with_len (o + 1) n)

at-most : (p : ℕ → Bool) (o n : ℕ) → count_by p (range_with_len o n) ≤ n
at-most p o n =
    let l = count_by-le-length p (range_with_len o n) in
    let m = length-range_with_len o n in
    omega (arith, l, m)

all-counted : (p : ℕ → Bool) (o n i : ℕ) → count_by p (range_with_len o n) ≡ n → i < n → p (o + i) ≡ true
all-counted p o zero i h k = absurd (omega (arith, k))
all-counted p o (suc n) zero h k =
    let f = first-counted (p o) (count_by p (range_with_len (o + 1) n)) n (sym (counted p o n) ∙ h) (at-most p (o + 1) n) in
    ap p (let e : o + 0 ≡ o = omega arith in e) ∙ f.0
all-counted p o (suc n) (suc i) h k =
    let f = first-counted (p o) (count_by p (range_with_len (o + 1) n)) n (sym (counted p o n) ∙ h) (at-most p (o + 1) n) in
    ap p (let e : o + suc i ≡ o + 1 + i = omega arith in e) ∙ all-counted p (o + 1) n i f.1 (omega (arith, k))

one-left : (p : ℕ → Bool) (o n : ℕ) (b : Bool) → p o ≡ b
    → ((count_by p (range_with_len (o + 1) n) ≡ n → ⊥) → (i : ℕ) × (i < n) × (p (o + 1 + i) ≡ false))
    → (count_by p (range_with_len o (suc n)) ≡ suc n → ⊥) → (i : ℕ) × (i < suc n) × (p (o + i) ≡ false)
one-left p o n false e rest h = (0, omega arith, ap p (let f : o + 0 ≡ o = omega arith in f) ∙ e)
one-left p o n true e rest h =
    let c = counted p o n in
    let b : ◌≡◌ {A = ℕ} (cond (p o) 1 0) 1 = ap (λ x. cond {A = ℕ} x 1 0) e in
    let r = rest (λ g. h (omega (arith, c, b, g))) in
    (suc r.0, omega (arith, r.1), ap p (let f : o + suc r.0 ≡ o + 1 + r.0 = omega arith in f) ∙ r.2)

some-left : (p : ℕ → Bool) (o n : ℕ) → (count_by p (range_with_len o n) ≡ n → ⊥) → (i : ℕ) × (i < n) × (p (o + i) ≡ false)
some-left p o zero h = absurd (h refl)
some-left p o (suc n) h = one-left p o n (p o) refl (some-left p (o + 1) n) h

null-bit : (k : PrimitiveType) (a : Layout) (i : ℕ) → IsNative k a → is_null_at a i ≡ not (valid_at (validity_of a) i)
null-bit k a i e = ap (λ b. is_null_at b i) e

not-both : (b : Bool) → not b ≡ true → b ≡ true → ⊥
not-both true h k = cc
not-both false h k = cc

not-false : (b : Bool) → not b ≡ false → b ≡ true
not-false true h = refl
not-false false h = cc

-- if all keys are null no raw key is checked, otherwise each one is
pub none-looked_at : (k : PrimitiveType) (a : Layout) (n : ℕ) → IsNative k a → null_count a ≡ len a → KeysInRange a n
none-looked_at k a n e h s =
    let p = all-counted (is_null_at a) 0 (len a) s.0 h s.1 in
    let q : 0 + s.0 ≡ s.0 = omega arith in
    absurd (not-both (valid_at (validity_of a) s.0) (sym (null-bit k a s.0 e) ∙ ap (is_null_at a) (sym q) ∙ p) s.2)

pub some-looked_at : (k : PrimitiveType) (a : Layout) → IsNative k a → (null_count a ≡ len a → ⊥) → SomeValid (validity_of a) (len a)
some-looked_at k a e h =
    let s = some-left (is_null_at a) 0 (len a) h in
    let q : 0 + s.0 ≡ s.0 = omega arith in
    (s.0, s.1, not-false (valid_at (validity_of a) s.0) (sym (null-bit k a s.0 e) ∙ ap (is_null_at a) (sym q) ∙ s.2))

pub keys-looked_at : (k : PrimitiveType) (a : Layout) (n : ℕ) (r : Bool) → IsNative k a → (null_count a ≡ len a → ⊥) → (IsTrue r ↔ EachNames (raw_keys a) n) → IsTrue r ↔ KeysInRange a n
keys-looked_at k a n r e h d = (λ t. λ s. d.0 t, λ f. d.1 (f (some-looked_at k a e h)))
