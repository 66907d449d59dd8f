-- Validity bitmaps: a slot is null where its bit is 0, and in most kinds of array only there.
use Rattle.std.specs.Prelude.{Bool, true, false, not, IsTrue, if◌then◌else◌}
use Rattle.std.proofs.Common.{◌≡◌, ℕ, refl}
use Rattle.nest_model.specs.Part.{valid_at}
use Rattle.nest_model.specs.Accessors.{validity_of}
use Rattle.nest_model.specs.Layout.{Layout, null, boolean, primitive, binary, utf8, fixed_size_binary, fixed_size_list, list, map, struct, union, dictionary}
use Rattle.nest_model.specs.Slot as slots
use Rattle.nest_model.specs.Slot.{Slot}
use Rattle.nest_model.specs.Meaning.{slot}

-- its validity alone determines which slots are null
abbrev pub NullsByValidity : Layout → Type 0
NullsByValidity (null t n) = ⊥
NullsByValidity (union t ks cs os start) = ⊥
NullsByValidity (dictionary t ks c) = ⊥
NullsByValidity a = Unit {0}

pub slot-invalid : (a : Layout) (i : ℕ) → valid_at (validity_of a) i ≡ false → slot a i ≡ slots.null
slot-invalid (null t n) i h = refl
slot-invalid (boolean t bs va) i h = cc
slot-invalid (primitive k t vs va) i h = cc
slot-invalid (binary l t os bs va) i h = cc
slot-invalid (utf8 l t os bs va) i h = cc
slot-invalid (fixed_size_binary t bs va) i h = cc
slot-invalid (fixed_size_list t c va) i h = cc
slot-invalid (list l t os c va) i h = cc
slot-invalid (map t os c va) i h = cc
slot-invalid (struct t cs va) i h = cc
slot-invalid (union t ks cs os start) i h = cc
slot-invalid (dictionary t ks c) i h = cc

null-if : (b : Bool) (s : Slot) → (s ≡ slots.null → ⊥) → (if b then s else slots.null) ≡ slots.null → b ≡ false
null-if true s n e = absurd (n e)
null-if false s n e = refl

pub slot-null : (a : Layout) (i : ℕ) → NullsByValidity a → slot a i ≡ slots.null → valid_at (validity_of a) i ≡ false
slot-null (boolean t bs va) i k e = null-if (valid_at va i) _ (λ h. cc) e
slot-null (primitive k t vs va) i n e = null-if (valid_at va i) _ (λ h. cc) e
slot-null (binary l t os bs va) i k e = null-if (valid_at va i) _ (λ h. cc) e
slot-null (utf8 l t os bs va) i k e = null-if (valid_at va i) _ (λ h. cc) e
slot-null (fixed_size_binary t bs va) i k e = null-if (valid_at va i) _ (λ h. cc) e
slot-null (fixed_size_list t c va) i k e = null-if (valid_at va i) _ (λ h. cc) e
slot-null (list l t os c va) i k e = null-if (valid_at va i) _ (λ h. cc) e
slot-null (map t os c va) i k e = null-if (valid_at va i) _ (λ h. cc) e
slot-null (struct t cs va) i k e = null-if (valid_at va i) _ (λ h. cc) e
slot-null (null t n) i k e = absurd k
slot-null (union t ks cs os start) i k e = absurd k
slot-null (dictionary t ks c) i k e = absurd k

not-false : (b : Bool) → b ≡ false → IsTrue (not b)
not-false true h = cc
not-false false h = refl

not-true : (b : Bool) → IsTrue (not b) → b ≡ false
not-true true h = cc
not-true false h = refl

-- a slot is null exactly if its validity bit tests as 0
pub null-shown : (a : Layout) (i : ℕ) (b : Bool) → NullsByValidity a → b ≡ valid_at (validity_of a) i
    → (IsTrue (not b) → slot a i ≡ slots.null) × (slot a i ≡ slots.null → IsTrue (not b))
null-shown a i b k e =
    (λ h. let f = not-true b h in slot-invalid a i cc, λ h. let f = slot-null a i k h in not-false b cc)
