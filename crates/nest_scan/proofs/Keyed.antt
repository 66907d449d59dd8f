-- The keys of dictionaries, and their strings.
use Rattle.std.specs.Prelude.{not, cond, if◌then◌else◌}
use Rattle.std.specs.List.{count_by, range_with_len}
use Rattle.std.proofs.Common.{◌≡◌, ℕ, zero, suc, ◌+◌, ◌<◌, ℤ, pos, negsuc, Bool, true, false, List, refl, ap, sym, ◌∙◌, subst, arith}
use Rattle.std.proofs.lemmas.List.Sums.{sum_by-cons}
use Rattle.nest_memory.specs.Rising.{below_zero}
use Rattle.nest_model.specs.Accessors.{bytes_of, child_of, key_at, keys_of, offsets_of, validity_of}
use Rattle.nest_model.specs.Array.{TopFits}
use Rattle.nest_model.specs.Fits.{Names}
use Rattle.nest_model.specs.Layout.{Layout, utf8, dictionary, layout_type}
use Rattle.nest_model.specs.Meaning.{len, slot, where_valid}
use Rattle.nest_model.specs.Nullness.{is_null_at}
use Rattle.nest_model.specs.Part.{Validity, valid_at}
use Rattle.nest_model.specs.Slot as slots
use Rattle.nest_model.specs.Slot.{Slot}
use Rattle.nest_scan.specs.Items.{HasNoNull}

abbrev pub IsDictionaryOf : Layout → Type 0
IsDictionaryOf a = a ≡ dictionary (layout_type a) (keys_of a) (child_of a)

abbrev pub AreTextsOf : Bool → Layout → Type 0
AreTextsOf l a = a ≡ utf8 l (layout_type a) (offsets_of a) (bytes_of a) (validity_of a)

not-false : (b : Bool) → not b ≡ false → b ≡ true
not-false true h = refl
not-false false h = cc

-- a valid key is the index of a value
pub named-valid : (a : Layout) (i : ℕ) → TopFits a → IsDictionaryOf a → i < len a → is_null_at a i ≡ false → Names (key_at (keys_of a) i) (len (child_of a))
named-valid a i h e l v =
    let f = subst TopFits e h in
    let k = ap len e in
    f.1.1.1.1 i (omega (arith, k, l)) (not-false (valid_at (validity_of (keys_of a)) i) (sym (ap (λ b. is_null_at b i) e) ∙ v))

pub not-negative : (z : ℤ) (n : ℕ) → Names z n → below_zero z ≡ false
not-negative (pos k) n h = refl
not-negative (negsuc k) n h = absurd h

pub key-below : (z : ℤ) (k n : ℕ) → pos k ≡ z → Names z n → k < n
key-below z k n e h = subst (λ y. Names y n) (sym e) h

-- so a valid key is in bounds of the values
pub text-place : (a c : Layout) (i k : ℕ) → TopFits a → IsDictionaryOf a → c ≡ child_of a → i < len a → is_null_at a i ≡ false → pos k ≡ key_at (keys_of a) i → k < len c
text-place a c i k h e s l v p =
    let b = key-below (key_at (keys_of a) i) k (len (child_of a)) p (named-valid a i h e l v) in
    omega (arith, b, ap len s)

-- where the null count is 0, no slot is null
first-left : (b : Bool) (c : ℕ) → cond b 1 0 + c ≡ 0 → (b ≡ false) × (c ≡ 0)
first-left true c h = absurd (omega (arith, h))
first-left false c h = (refl, omega (arith, h))

none-counted : (p : ℕ → Bool) (o n i : ℕ) → count_by p (range_with_len o n) ≡ 0 → i < n → p (o + i) ≡ false
none-counted p o zero i h k = absurd (omega (arith, k))
none-counted p o (suc n) zero h k =
    let f = first-left (p o) (count_by p (range_with_len (o + 1) n)) (sym (sum_by-cons (λ j. cond (p j) 1 0) o (range_with_len (o + 1) n)) ∙ h) in
    ap p (let e : o + 0 ≡ o = omega arith in e) ∙ f.0
none-counted p o (suc n) (suc i) h k =
    let f = first-left (p o) (count_by p (range_with_len (o + 1) n)) (sym (sum_by-cons (λ j. cond (p j) 1 0) o (range_with_len (o + 1) n)) ∙ h) in
    ap p (let e : o + suc i ≡ o + 1 + i = omega arith in e) ∙ none-counted p (o + 1) n i f.1 (omega (arith, k))

pub no-null : (a : Layout) (i : ℕ) → HasNoNull a → i < len a → is_null_at a i ≡ false
no-null a i h l = ap (is_null_at a) (let e : i ≡ 0 + i = omega arith in e) ∙ none-counted (is_null_at a) 0 (len a) i h l

-- a valid index has its slot
if-true : (b : Bool) (s : Slot) → b ≡ true → (if b then s else slots.null) ≡ s
if-true true s h = refl
if-true false s h = cc

valid-slot : (va : Validity) (i : ℕ) (s : Slot) → not (valid_at va i) ≡ false → where_valid va i s ≡ s
valid-slot va i s h = if-true (valid_at va i) s (not-false (valid_at va i) h)

keys-bit : (a : Layout) (i : ℕ) → IsDictionaryOf a → is_null_at a i ≡ not (valid_at (validity_of a) i)
keys-bit a i e = ap (λ b. is_null_at b i) e ∙ ap (λ va. not (valid_at va i)) (sym (ap validity_of e))

texts-bit : (l : Bool) (a : Layout) (i : ℕ) → AreTextsOf l a → is_null_at a i ≡ not (valid_at (validity_of a) i)
texts-bit l a i e = ap (λ b. is_null_at b i) e

-- so the slot of a valid key to a valid string is that string
pub named-text : (l : Bool) (a c : Layout) (i k : ℕ) (x : List ℕ) → IsDictionaryOf a → AreTextsOf l c → c ≡ child_of a
    → slot a i ≡ where_valid (validity_of a) i (slot (child_of a) k) → is_null_at a i ≡ false
    → slot c k ≡ where_valid (validity_of c) k (slots.utf8 x) → is_null_at c k ≡ false → slot a i ≡ slots.utf8 x
named-text l a c i k x e t s f v g w =
    f
    ∙ valid-slot (validity_of a) i (slot (child_of a) k) (sym (keys-bit a i e) ∙ v)
    ∙ ap (λ b. slot b k) (sym s)
    ∙ g
    ∙ valid-slot (validity_of c) k (slots.utf8 x) (sym (texts-bit l c k t) ∙ w)
