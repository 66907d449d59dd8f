-- Laws: an array with a new validity, and the null indices of an array.
use Rattle.std.specs.Prelude.{true, false, if◌then◌else◌}
use Rattle.std.proofs.Common.{◌≡◌, ℕ, Bool, refl, ap, sym, ◌∙◌, subst, arith}
use Rattle.nest_model.specs.Part.{Validity, valid_at, to_index}
use Rattle.nest_model.specs.Slot as slots
use Rattle.nest_model.specs.Slot.{Slot}
use Rattle.nest_model.specs.Layout.{Layout, null, boolean, primitive, binary, utf8, fixed_size_binary, fixed_size_list, list, map as map_of, struct, union, dictionary, layout_type}
use Rattle.nest_model.specs.Accessors.{validity_of, with_validity, key_at, key_type_of}
use Rattle.nest_model.specs.Meaning.{len, slot}
use Rattle.nest_model.specs.Checks.{Pass}
use Rattle.nest_model.specs.Fits.{Names, EachValidNames, ValidityFits, validity_checks}
use Rattle.nest_model.specs.Array.{AreKeys, PartsHold, TopFits, ChildrenFit, IsArray}

-- The length, the data type and the values of a dictionary's keys are unchanged.
pub len-with_validity : (a : Layout) (va : Validity) → len (with_validity a va) ≡ len a
len-with_validity (dictionary t ks c) va = len-with_validity ks va
len-with_validity a va = refl

pub type-with_validity : (a : Layout) (va : Validity) → layout_type (with_validity a va) ≡ layout_type a
type-with_validity (null t n) va = refl
type-with_validity a va = refl

key_at-with_validity : (a : Layout) (va : Validity) (i : ℕ) → key_at (with_validity a va) i ≡ key_at a i
key_at-with_validity (primitive k t vs old) va i = refl
key_at-with_validity a va i = refl

key_type-with_validity : (a : Layout) (va : Validity) → key_type_of (with_validity a va) ≡ key_type_of a
key_type-with_validity (primitive k t vs old) va = refl
key_type-with_validity a va = refl

-- The array has the new validity.
keys-validity : (ks : Layout) (va : Validity) → AreKeys ks → validity_of (with_validity ks va) ≡ va
keys-validity (primitive k t vs old) va h = refl
keys-validity ks va h = absurd h

pub validity-with_validity : (a : Layout) (va : Validity) → PartsHold a → Pass (validity_checks a va) → validity_of (with_validity a va) ≡ va
validity-with_validity (null t n) va h p = absurd p.0
validity-with_validity (union t ks cs os start) va h p = absurd p.0
validity-with_validity (dictionary t ks c) va h p = keys-validity ks va h
validity-with_validity a va h p = refl

keys-revalidated : (ks : Layout) (va : Validity) → AreKeys ks → ValidityFits va (len ks) → AreKeys (with_validity ks va)
keys-revalidated (primitive k t vs old) va h f = (h.0, (f, h.1.1))
keys-revalidated ks va h f = absurd h

names-revalidated : (ks : Layout) (va : Validity) (n : ℕ) → AreKeys ks → EachValidNames va ks n → EachValidNames (validity_of (with_validity ks va)) (with_validity ks va) n
names-revalidated ks va n h f i j v =
    let l = len-with_validity ks va in
    subst (λ z. Names z n) (sym (key_at-with_validity ks va i)) (f i (omega arith) (ap (λ w. valid_at w i) (sym (keys-validity ks va h)) ∙ v))

-- An array with a validity that passes the checks is an array.
pub taken-fits : (a : Layout) (va : Validity) → TopFits a → Pass (validity_checks a va) → TopFits (with_validity a va)
taken-fits (null t n) va h p = absurd p.0
taken-fits (boolean t bs old) va h p = (tt, (p.0, h.1.1))
taken-fits (primitive k t vs old) va h p = (tt, (p.0, h.1.1))
taken-fits (binary l t os bs old) va h p = let f = h.1 in (h.0, (f.0, (p.0, f.1.1)))
taken-fits (utf8 l t os bs old) va h p = let f = h.1 in (h.0, (f.0, (f.1.0, (p.0, f.1.1.1))))
taken-fits (fixed_size_binary t bs old) va h p = let f = h.1 in (tt, (f.0, (f.1.0, (f.1.1.0, (p.0, tt)))))
taken-fits (fixed_size_list t c old) va h p = let f = h.1 in (tt, (f.0, (f.1.0, (f.1.1.0, (f.1.1.1.0, (p.0, tt))))))
taken-fits (list l t os c old) va h p = let f = h.1 in (h.0, (f.0, (p.0, f.1.1)))
taken-fits (map_of t os c old) va h p = let f = h.1 in (h.0, (f.0, (f.1.0, (f.1.1.0, (f.1.1.1.0, (p.0, tt))))))
taken-fits (struct t cs old) va h p = let f = h.1 in (tt, (f.0, (f.1.0, (f.1.1.0, (f.1.1.1.0, (f.1.1.1.1.0, (p.0, tt)))))))
taken-fits (union t ks cs os start) va h p = absurd p.0
taken-fits (dictionary t ks c) va h p =
    let f = h.1 in (
      keys-revalidated ks va h.0 p.0,
      (f.0, (f.1.0 ∙ sym (key_type-with_validity ks va), (f.1.1.0, names-revalidated ks va (len c) h.0 p.1.0))),
    )

children-revalidated : (a : Layout) (va : Validity) → ChildrenFit a → ChildrenFit (with_validity a va)
children-revalidated (null t n) va h = h
children-revalidated a va h = h

pub taken-array : (a : Layout) (va : Validity) → IsArray a → Pass (validity_checks a va) → IsArray (with_validity a va)
taken-array a va h p = (taken-fits a va h.0 p, children-revalidated a va h.1)

-- A slot is `Null` where the new validity bit is unset. It is unchanged where the old and new bits are set.
by-bit : (b : Bool) (s r : Slot) → b ≡ false → (if b then s else r) ≡ r
by-bit true s r h = cc
by-bit false s r h = refl

by-bits : (b c : Bool) (s r : Slot) → b ≡ true → c ≡ true → (if b then s else r) ≡ (if c then s else r)
by-bits true true s r h k = refl
by-bits true false s r h k = cc
by-bits false c s r h k = cc

pub null-with_validity : (a : Layout) (va : Validity) (i : ℕ) → PartsHold a → Pass (validity_checks a va) → valid_at va i ≡ false → slot (with_validity a va) i ≡ slots.null
null-with_validity (null t n) va i h p e = refl
null-with_validity (union t ks cs os start) va i h p e = absurd p.0
null-with_validity (dictionary t ks c) va i h p e = by-bit (valid_at (validity_of (with_validity ks va)) i) _ slots.null (ap (λ w. valid_at w i) (keys-validity ks va h) ∙ e)
null-with_validity a va i h p e = by-bit (valid_at va i) _ slots.null e

pub slot-with_validity : (a : Layout) (va : Validity) (i : ℕ) → PartsHold a → Pass (validity_checks a va) → valid_at va i ≡ true → valid_at (validity_of a) i ≡ true → slot (with_validity a va) i ≡ slot a i
slot-with_validity (null t n) va i h p e f = refl
slot-with_validity (union t ks cs os start) va i h p e f = refl
slot-with_validity (dictionary t ks c) va i h p e f =
    let k = key_at-with_validity ks va i in
    let w = ap (λ v. valid_at v i) (keys-validity ks va h) ∙ e in
    by-bits (valid_at (validity_of (with_validity ks va)) i) (valid_at (validity_of ks) i) _ slots.null w f ∙ ap (λ z. if valid_at (validity_of ks) i then slot c (to_index z) else slots.null) k
slot-with_validity a va i h p e f = by-bits (valid_at va i) (valid_at (validity_of a) i) _ slots.null e f
