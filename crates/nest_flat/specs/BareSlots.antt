-- Arrays without their validity, whose slots are the raw values (this library's own).
use Rattle.std.specs.Prelude.{Bool, true, false, not, cond, ◌↔◌, IsTrue, None}
use Rattle.std.specs.List.{count_by, range_with_len}
use Rattle.std.proofs.Common.{◌≡◌, ℕ, zero, suc, ◌+◌, ◌<◌, refl, ap, sym, ◌∙◌, arith}
use Rattle.std.proofs.lemmas.List.Sums.{sum_by-cons}
use Rattle.nest_model.specs.Part.{valid_at}
use Rattle.nest_model.specs.Accessors.{validity_of, with_validity, key_at}
use Rattle.nest_model.specs.Layout.{Layout, null, boolean, primitive, binary, utf8, fixed_size_binary, fixed_size_list, list, map as entries, struct, union, dictionary}
use Rattle.nest_model.specs.Slot as slots
use Rattle.nest_model.specs.Slot.{Slot}
use Rattle.nest_model.specs.Meaning.{len, slot, slots_of}
use Rattle.nest_model.specs.Nullness.{is_null_at, null_count}
use Rattle.nest_model.specs.ValidityLaws.{len-with_validity}
use Rattle.nest_model.specs.SameArrayLaws.{slots-from_places}

-- the array without its validity
abbrev pub bare : Layout → Layout
bare a = with_validity a None

pub len_bare : (a : Layout) → len (bare a) ≡ len a
len_bare a = len-with_validity a None

valid-bare : (a : Layout) (i : ℕ) → valid_at (validity_of (bare a)) i ≡ true
valid-bare (dictionary t ks c) i = valid-bare ks i
valid-bare a i = refl

key-bare : (a : Layout) (i : ℕ) → key_at (bare a) i ≡ key_at a i
key-bare (primitive k t vs va) i = refl
key-bare a i = refl

-- a valid slot equals the slot of its raw value
pub slot-bare : (a : Layout) (i : ℕ) → valid_at (validity_of a) i ≡ true → slot (bare a) i ≡ slot a i
slot-bare (null t n) i h = refl
slot-bare (boolean t bs va) i h = cc
slot-bare (primitive k t vs va) i h = cc
slot-bare (binary l t os bs va) i h = cc
slot-bare (utf8 l t os bs va) i h = cc
slot-bare (fixed_size_binary t bs va) i h = cc
slot-bare (fixed_size_list t c va) i h = cc
slot-bare (list l t os c va) i h = cc
slot-bare (entries t os c va) i h = cc
slot-bare (struct t cs va) i h = cc
slot-bare (union t ks cs os start) i h = refl
slot-bare (dictionary t ks c) i h =
    let v = valid-bare ks i in
    let k = key-bare ks i in
    cc

true-unless : (b : Bool) → not b ≡ false → b ≡ true
true-unless true h = refl
true-unless false h = cc

valid-unless : (a : Layout) (i : ℕ) → is_null_at a i ≡ false → valid_at (validity_of a) i ≡ true
valid-unless (null t n) i h = cc
valid-unless a i h = true-unless (valid_at (validity_of a) i) h

-- a slot that tests as not null equals the slot of its raw value
pub slot-shown : (a : Layout) (i : ℕ) (r : Bool) → r ≡ is_null_at a i → r ≡ false → slot (bare a) i ≡ slot a i
slot-shown a i r e f = slot-bare a i (valid-unless a i (sym e ∙ f))

counted-head : (b : Bool) (m : ℕ) → cond b 1 0 + m ≡ 0 → (b ≡ false) × (m ≡ 0)
counted-head true m h = absurd (omega arith)
counted-head false m h = (refl, omega arith)

none-counted : (p : ℕ → Bool) (o n i : ℕ) → count_by p (range_with_len o n) ≡ 0 → i < n → p (o + i) ≡ false
none-counted p o zero i h k = absurd (omega arith)
none-counted p o (suc n) zero h k =
    let s = sum_by-cons (λ j. cond (p j) 1 0) o (range_with_len (o + 1) n) in
    ap p (let z : o + 0 ≡ o = omega arith in z) ∙ (counted-head (p o) (count_by p (range_with_len (o + 1) n)) (sym s ∙ h)).0
none-counted p o (suc n) (suc i) h k =
    let s = sum_by-cons (λ j. cond (p j) 1 0) o (range_with_len (o + 1) n) in
    let rest = (counted-head (p o) (count_by p (range_with_len (o + 1) n)) (sym s ∙ h)).1 in
    ap p (let z : o + suc i ≡ o + 1 + i = omega arith in z) ∙ none-counted p (o + 1) n i rest (omega arith)

-- the slots of an array without nulls are its raw values
pub slots-bare : (a : Layout) → null_count a ≡ 0 → slots_of (bare a) ≡ slots_of a
slots-bare a h =
    slots-from_places (bare a) a (len-with_validity a None) (λ i k.
    let l : i < len a = omega (arith, len-with_validity a None) in
    slot-bare a i (valid-unless a i (ap (is_null_at a) (let z : i ≡ 0 + i = omega arith in z) ∙ none-counted (is_null_at a) 0 (len a) i h l)))

-- a null differs from a slot that is not null
pub no-same : (x y : Slot) (m : Bool) → (IsTrue m ↔ (x ≡ slots.null)) → m ≡ true → (y ≡ slots.null → ⊥) → IsTrue false ↔ (x ≡ y)
no-same x y m e f n = (λ h. cc, λ h. absurd (n (sym h ∙ e.0 f)))

pub not-null : (y : Slot) (m : Bool) → (IsTrue m ↔ (y ≡ slots.null)) → m ≡ false → y ≡ slots.null → ⊥
not-null y m e f h = let t = e.1 h in cc

pub same-along : {A : Type 0} (x y x' y' : A) (r : Bool) → x ≡ x' → y ≡ y' → (IsTrue r ↔ (x ≡ y)) → IsTrue r ↔ (x' ≡ y')
same-along x y x' y' r p q e = (λ h. sym p ∙ e.0 h ∙ q, λ h. e.1 (p ∙ h ∙ sym q))
