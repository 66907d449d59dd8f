-- An encoding of slots as trees, and tests of equality of slots and of lists of slots.
-- The definitions are this library's own.
use Rattle.std.specs.Prelude.{◌≡◌, ℕ, ℤ, Bool, true, false, ◌&&◌, List, [], ◌∷◌}
use Rattle.std.specs.Bool.{Decides}
use Rattle.std.specs.Cmp.{IsEquivalence, decided, first_so, second_so}
use Rattle.std.specs.Coded.{Coded, coded_ℕ, coded_ℤ, coded_bool, coded_list}
use Rattle.std.proofs.Common.{refl, ap, subst}
use Rattle.std.proofs.lemmas.Bool.Decides.{Decides-eqb}
use base.Stored.{Gv, gnil, gnum, gcons}
use Rattle.nest_memory.specs.TypeCode.{coded_type, head, tail, tag}
use Rattle.nest_memory.specs.TypeEq.{same_code}
use Rattle.nest_model.specs.Decide.{apart}
use Rattle.nest_model.specs.Slot.{Slot, Slots, null, boolean, number, utf8, bytes, list, record_of, pick, no_slots, more_slots}

abbrev letters : Coded (List ℕ)
letters = coded_list coded_ℕ

abbrev whole : Coded (List ℤ)
whole = coded_list coded_ℤ

abbrev mutual
  pub code_slot : Slot → Gv
  code_slot null = gcons (gnum 0) gnil
  code_slot (boolean b) = gcons (gnum 1) (coded_bool.code b)
  code_slot (number zs) = gcons (gnum 2) (whole.code zs)
  code_slot (utf8 t) = gcons (gnum 3) (letters.code t)
  code_slot (bytes b) = gcons (gnum 4) (letters.code b)
  code_slot (list ss) = gcons (gnum 5) (code_slots ss)
  code_slot (record_of ss) = gcons (gnum 6) (code_slots ss)
  code_slot (pick f t s) = gcons (gnum 7) (gcons (coded_ℕ.code f) (gcons (coded_type.code t) (code_slot s)))

  pub code_slots : Slots → Gv
  code_slots no_slots = gnil
  code_slots (more_slots s ss) = gcons (code_slot s) (code_slots ss)

mutual
  pub slot_one : (x y : Slot) → code_slot x ≡ code_slot y → x ≡ y
  slot_one null null h = refl
  slot_one (boolean b) (boolean c) h = ap boolean (coded_bool.inj b c (ap tail h))
  slot_one (number zs) (number ys) h = ap number (whole.inj zs ys (ap tail h))
  slot_one (utf8 t) (utf8 u) h = ap utf8 (letters.inj t u (ap tail h))
  slot_one (bytes b) (bytes c) h = ap bytes (letters.inj b c (ap tail h))
  slot_one (list ss) (list rs) h = ap list (slots_one ss rs (ap tail h))
  slot_one (record_of ss) (record_of rs) h = ap record_of (slots_one ss rs (ap tail h))
  slot_one (pick f t s) (pick g u r) h =
      let o = coded_ℕ.inj f g (ap (λ v. head (tail v)) h) in
      let p = coded_type.inj t u (ap (λ v. head (tail (tail v))) h) in
      let q = slot_one s r (ap (λ v. tail (tail (tail v))) h) in
      λ i. pick (o i) (p i) (q i)
  slot_one x y h = absurd (apart (tag (code_slot x)) (tag (code_slot y)) refl (ap tag h))

  pub slots_one : (x y : Slots) → code_slots x ≡ code_slots y → x ≡ y
  slots_one no_slots no_slots h = refl
  slots_one no_slots (more_slots r rs) h = cc
  slots_one (more_slots s ss) no_slots h = cc
  slots_one (more_slots s ss) (more_slots r rs) h =
      let p = slot_one s r (ap head h) in
      let q = slots_one ss rs (ap tail h) in
      λ i. more_slots (p i) (q i)

abbrev pub coded_slot : Coded Slot
coded_slot = record { code = code_slot; inj = slot_one }

code_found : (x y : Gv) → same_code x y ≡ true → x ≡ y
code_found gnil gnil h = refl
code_found gnil (gnum m) h = cc
code_found gnil (gcons c d) h = cc
code_found (gnum n) gnil h = cc
code_found (gnum n) (gnum m) h = ap gnum ((Decides-eqb n m).0 h)
code_found (gnum n) (gcons c d) h = cc
code_found (gcons a b) gnil h = cc
code_found (gcons a b) (gnum m) h = cc
code_found (gcons a b) (gcons c d) h =
    let p = code_found a c (first_so (same_code a c) (same_code b d) h) in
    let q = code_found b d (second_so (same_code a c) (same_code b d) h) in
    λ i. gcons (p i) (q i)

code_own : (x : Gv) → same_code x x ≡ true
code_own gnil = refl
code_own (gnum n) = (Decides-eqb n n).1 refl
code_own (gcons a b) = let p = code_own a in let q = code_own b in λ i. p i && q i

-- Whether two values have the same encoding.
abbrev pub same_by : {A : Type 0} → Coded A → A → A → Bool
same_by c x y = same_code (c.code x) (c.code y)

pub same_by-decides : {A : Type 0} (c : Coded A) (x y : A) → Decides (same_by c x y) (x ≡ y)
same_by-decides {A} c x y = (λ h. c.inj x y (code_found (c.code x) (c.code y) h), λ e. subst (λ (z : A). same_by c x z ≡ true) e (code_own (c.code x)))

-- Whether two slots are equal.
abbrev pub same_slot : Slot → Slot → Bool
same_slot = same_by coded_slot

-- Whether two lists of slots are equal.
abbrev pub same_slots : List Slot → List Slot → Bool
same_slots [] [] = true
same_slots (s ∷ ss) (r ∷ rs) = same_slot s r && same_slots ss rs
same_slots ss rs = false

pub same_slot-decides : (s r : Slot) → Decides (same_slot s r) (s ≡ r)
same_slot-decides s r = same_by-decides coded_slot s r

slots_found : (ss rs : List Slot) → same_slots ss rs ≡ true → ss ≡ rs
slots_found [] [] h = refl
slots_found [] (r ∷ rs) h = cc
slots_found (s ∷ ss) [] h = cc
slots_found (s ∷ ss) (r ∷ rs) h =
    let p = (same_slot-decides s r).0 (first_so (same_slot s r) (same_slots ss rs) h) in
    let q = slots_found ss rs (second_so (same_slot s r) (same_slots ss rs) h) in
    λ i. p i ∷ q i

slots_own : (ss : List Slot) → same_slots ss ss ≡ true
slots_own [] = refl
slots_own (s ∷ ss) = let p = (same_slot-decides s s).1 refl in let q = slots_own ss in λ i. p i && q i

pub same_slots-decides : (ss rs : List Slot) → Decides (same_slots ss rs) (ss ≡ rs)
same_slots-decides ss rs = (slots_found ss rs, λ e. subst (λ (z : List Slot). same_slots ss z ≡ true) e (slots_own ss))

pub same_slot-equiv : IsEquivalence same_slot
same_slot-equiv = decided same_slot same_slot-decides

pub same_slots-equiv : IsEquivalence same_slots
same_slots-equiv = decided same_slots same_slots-decides
