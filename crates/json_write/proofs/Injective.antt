-- Two slots of one data type are equal if their text is equal.
use Rattle.std.proofs.Common.{◌≡◌, ℕ, zero, suc, Bool, true, false, List, [], ◌∷◌, ◌++◌, drop, Option, Some, None, ◌⊎◌, inl, inr, refl, sym, ap, ap₂, ◌∙◌, subst, arith, append_assoc, append-nil}
use Rattle.std.proofs.lemmas.Bool.{false≢true}
use Rattle.std.proofs.lemmas.List.{append_cancel_left}
use Rattle.json.specs.Print.{quoted}
use Rattle.nest_memory.specs.TypeTree as types
use Rattle.nest_memory.specs.TypeTree.{Letters, TypeTree, FieldTree, field, FieldTrees, no_fields, more_fields, field_type}
use Rattle.nest_model.specs.Slot as slots
use Rattle.nest_model.specs.Slot.{Slot, Slots, no_slots, more_slots, seal, unseal}
use Rattle.json_write.specs.JsonText.{items_type, members_of, field_name, field_name_at, comma, json_of_slot, json_items, json_members, json_list}
use Rattle.json_write.specs.TypedSlots.{SlotKind, nulls, booleans, numbers, strings, binaries, lists, structs, unions, slot_kind, field_type_at, IsSlotOf, AreItems, AreMembers, EachMemberNumber, FitsIn128Bits, FitIn128Bits, HasOwnText, IsNotNan, LackNan, LacksNan, LacksField, HaveDistinctNames, HasDistinctUnionNames, FieldHasDistinctUnionNames, FieldsHaveDistinctUnionNames}
use Rattle.json_write.proofs.Literals.{bytes-told, value-first, value-told}
use Rattle.json_write.proofs.Stops.{Stops, first, quoted-told, some_or, tail}
use Rattle.json_write.specs.Formats.{format_of_type}

-- ---- the constructor of a slot

abbrev role : Slot → ℕ
role slots.null = 0
role (slots.boolean b) = 1
role (slots.number zs) = 2
role (slots.utf8 bs) = 3
role (slots.bytes bs) = 4
role (slots.list ss) = 5
role (slots.record_of ss) = 6
role (slots.pick f u s) = 7

abbrev role_of : SlotKind → ℕ
role_of nulls = 0
role_of booleans = 1
role_of numbers = 2
role_of strings = 3
role_of binaries = 4
role_of lists = 5
role_of structs = 6
role_of unions = 7

by-form : (t : TypeTree) (s : Slot) → IsSlotOf t s → (role s ≡ 0) ⊎ (role s ≡ role_of (slot_kind t))
by-form t slots.null i = inl refl
by-form t (slots.boolean b) i = inr (sym (ap role_of i))
by-form t (slots.number zs) i = inr (sym (ap role_of i))
by-form t (slots.utf8 bs) i = inr (sym (ap role_of i))
by-form t (slots.bytes bs) i = inr (sym (ap role_of i))
by-form t (slots.list ss) i = inr (sym (ap role_of i.0))
by-form t (slots.record_of ss) i = inr (sym (ap role_of i.0))
by-form t (slots.pick f u s) i = inr (sym (ap role_of i.0))

-- no text begins with a closing bracket, and only null begins as `null`
slot-first : (t : TypeTree) (s : Slot) (r : List ℕ) → FitsIn128Bits s → (first (json_of_slot t s ++ r) ≡ 93 → ⊥) × (first (json_of_slot t s ++ r) ≡ 110 → role s ≡ 0)
slot-first t slots.null r h = (λ e. omega arith, λ e. refl)
slot-first t (slots.boolean true) r h = (λ e. omega arith, λ e. absurd (omega arith))
slot-first t (slots.boolean false) r h = (λ e. omega arith, λ e. absurd (omega arith))
slot-first t (slots.number zs) r h = let k = value-first (format_of_type t) zs r h in (λ e. omega arith, λ e. absurd (omega arith))
slot-first t (slots.utf8 bs) r h = (λ e. omega arith, λ e. absurd (omega arith))
slot-first t (slots.bytes bs) r h = (λ e. omega arith, λ e. absurd (omega arith))
slot-first t (slots.list ss) r h = (λ e. omega arith, λ e. absurd (omega arith))
slot-first t (slots.record_of ss) r h = (λ e. omega arith, λ e. absurd (omega arith))
slot-first t (slots.pick f u s) r h = (λ e. omega arith, λ e. absurd (omega arith))

null-first : (t : TypeTree) (s : Slot) (r : List ℕ) → role s ≡ 0 → first (json_of_slot t s ++ r) ≡ 110
null-first t slots.null r e = refl
null-first t s r e = absurd (omega arith)

one-role : (t : TypeTree) (s z : Slot) (r q : List ℕ) → IsSlotOf t s → IsSlotOf t z → FitsIn128Bits s → FitsIn128Bits z → json_of_slot t s ++ r ≡ json_of_slot t z ++ q → role s ≡ role z
one-role t s z r q i j h l e = go (by-form t s i) (by-form t z j)
  where
    go : (role s ≡ 0) ⊎ (role s ≡ role_of (slot_kind t)) → (role z ≡ 0) ⊎ (role z ≡ role_of (slot_kind t)) → role s ≡ role z
    go (inl a) (inl b) = a ∙ sym b
    go (inr a) (inr b) = a ∙ sym b
    go (inl a) (inr b) = a ∙ sym ((slot-first t z q l).1 (sym (ap first e) ∙ null-first t s r a))
    go (inr a) (inl b) = (slot-first t s r h).1 (ap first e ∙ null-first t z q b) ∙ sym b

-- ---- the conditions on a data type hold of its children

field-names : (f : FieldTree) → FieldHasDistinctUnionNames f → HasDistinctUnionNames (field_type f)
field-names (field n t b es) h = h

items-name : (t : TypeTree) → HasDistinctUnionNames t → HasDistinctUnionNames (items_type t)
items-name (types.list f) h = field-names f h
items-name (types.fixed_size_list f s) h = field-names f h
items-name (types.large_list f) h = field-names f h
items-name (types.map f b) h = field-names f h
items-name (types.dictionary k t b) h = items-name t h
items-name (types.extension n t m) h = items-name t h
items-name t h = tt

members-name : (t : TypeTree) → HasDistinctUnionNames t → FieldsHaveDistinctUnionNames (members_of t)
members-name (types.struct fs) h = h
members-name (types.union fs ids mode) h = h.1
members-name (types.dictionary k t b) h = members-name t h
members-name (types.extension n t m) h = members-name t h
members-name t h = tt

picks-apart : (t : TypeTree) → HasDistinctUnionNames t → slot_kind t ≡ unions → HaveDistinctNames (members_of t)
picks-apart (types.struct fs) h e = absurd (omega (arith, ap role_of e))
picks-apart (types.union fs ids mode) h e = h.0
picks-apart (types.dictionary k t b) h e = picks-apart t h e
picks-apart (types.extension n t m) h e = picks-apart t h e
picks-apart t h e = tt

abbrev is_some : Option TypeTree → Bool
is_some None = false
is_some (Some u) = true

type-names : (fs : FieldTrees) (k : ℕ) (u : TypeTree) → FieldsHaveDistinctUnionNames fs → field_type_at fs k ≡ Some u → HasDistinctUnionNames u
type-names no_fields k u h e = absurd (false≢true (ap is_some e))
type-names (more_fields f fs) zero u h e = subst HasDistinctUnionNames (ap (some_or types.null) e) (field-names f h.0)
type-names (more_fields f fs) (suc k) u h e = type-names fs k u h.1 e

none-there : (n : Letters) (fs : FieldTrees) (k : ℕ) (u : TypeTree) → LacksField n fs → field_type_at fs k ≡ Some u → n ≡ field_name_at fs k → ⊥
none-there n no_fields k u h e same = false≢true (ap is_some e)
none-there n (more_fields f fs) zero u h e same = h.0 same
none-there n (more_fields f fs) (suc k) u h e same = none-there n fs k u h.1 e same

one-field : (fs : FieldTrees) (k j : ℕ) (u v : TypeTree) → HaveDistinctNames fs → field_type_at fs k ≡ Some u → field_type_at fs j ≡ Some v → field_name_at fs k ≡ field_name_at fs j → k ≡ j
one-field no_fields k j u v h d e same = absurd (false≢true (ap is_some d))
one-field (more_fields f fs) zero zero u v h d e same = refl
one-field (more_fields f fs) zero (suc j) u v h d e same = absurd (none-there (field_name f) fs j v h.0 e same)
one-field (more_fields f fs) (suc k) zero u v h d e same = absurd (none-there (field_name f) fs k u h.0 d (sym same))
one-field (more_fields f fs) (suc k) (suc j) u v h d e same = ap suc (one-field fs k j u v h.1 d e same)

-- ---- text with what follows it

first-item : (t : TypeTree) (after : Bool) (s : Slot) (ss : Slots) (r : List ℕ)
    → json_items t after (more_slots s ss) ++ 93 ∷ r ≡ comma after ++ (json_of_slot t s ++ (json_items t true ss ++ 93 ∷ r))
first-item t after s ss r =
    append_assoc (comma after) (json_of_slot t s ++ json_items t true ss) (93 ∷ r)
    ∙ ap (λ x. comma after ++ x) (append_assoc (json_of_slot t s) (json_items t true ss) (93 ∷ r))

first-member : (f : FieldTree) (fs : FieldTrees) (after : Bool) (s : Slot) (ss : Slots) (r : List ℕ)
    → json_members (more_fields f fs) after (more_slots s ss) ++ 125 ∷ r
    ≡ comma after ++ (quoted (field_name f) ++ 58 ∷ (json_of_slot (field_type f) s ++ (json_members fs true ss ++ 125 ∷ r)))
first-member f fs after s ss r =
    let text = json_of_slot (field_type f) s in
    let rest = json_members fs true ss in
    append_assoc (comma after) (quoted (field_name f) ++ 58 ∷ (text ++ rest)) (125 ∷ r)
    ∙ ap (λ x. comma after ++ x) (append_assoc (quoted (field_name f)) (58 ∷ (text ++ rest)) (125 ∷ r)
    ∙ ap (λ x. quoted (field_name f) ++ 58 ∷ x) (append_assoc text rest (125 ∷ r)))

pick-opened : (n text r : List ℕ) → (quoted n ++ 58 ∷ (text ++ 125 ∷ [])) ++ r ≡ quoted n ++ 58 ∷ (text ++ 125 ∷ r)
pick-opened n text r = append_assoc (quoted n) (58 ∷ (text ++ 125 ∷ [])) r ∙ ap (λ x. quoted n ++ 58 ∷ x) (append_assoc text (125 ∷ []) r)

items-stop : (t : TypeTree) (ss : Slots) (r : List ℕ) → Stops (json_items t true ss ++ 93 ∷ r)
items-stop t no_slots r = inr (inl refl)
items-stop t (more_slots s ss) r = inl refl

members-stop : (fs : FieldTrees) (ss : Slots) (r : List ℕ) → Stops (json_members fs true ss ++ 125 ∷ r)
members-stop fs no_slots r = inr (inr refl)
members-stop no_fields (more_slots s ss) r = inr (inr refl)
members-stop (more_fields f fs) (more_slots s ss) r = inl refl

-- an array without items
no-item : (t : TypeTree) (after : Bool) (s : Slot) (ss : Slots) (r q : List ℕ) → FitsIn128Bits s → 93 ∷ r ≡ json_items t after (more_slots s ss) ++ 93 ∷ q → ⊥
no-item t true s ss r q h e = omega (arith, ap first e)
no-item t false s ss r q h e = (slot-first t s (json_items t true ss ++ 93 ∷ q) h).0 (sym (ap first (e ∙ first-item t false s ss q)))

mutual
  pub slot-told : (t : TypeTree) (s z : Slot) (r q : List ℕ) → HasDistinctUnionNames t → IsSlotOf t s → IsSlotOf t z → FitsIn128Bits s → FitsIn128Bits z → LacksNan t s → LacksNan t z → Stops r → Stops q
      → json_of_slot t s ++ r ≡ json_of_slot t z ++ q → (s ≡ z) × (r ≡ q)
  slot-told t slots.null slots.null r q o i j h l m n a b e = (refl, ap (drop 4) e)
  slot-told t (slots.boolean true) (slots.boolean true) r q o i j h l m n a b e = (refl, ap (drop 4) e)
  slot-told t (slots.boolean false) (slots.boolean false) r q o i j h l m n a b e = (refl, ap (drop 5) e)
  slot-told t (slots.boolean true) (slots.boolean false) r q o i j h l m n a b e = absurd (omega (arith, ap first e))
  slot-told t (slots.boolean false) (slots.boolean true) r q o i j h l m n a b e = absurd (omega (arith, ap first e))
  slot-told t (slots.number zs) (slots.number ys) r q o i j h l m n a b e = let same = value-told (format_of_type t) zs ys r q h l m n a b e in (ap slots.number same.0, same.1)
  slot-told t (slots.utf8 bs) (slots.utf8 cs) r q o i j h l m n a b e = let same = quoted-told bs cs r q e in (ap slots.utf8 same.0, same.1)
  slot-told t (slots.bytes bs) (slots.bytes cs) r q o i j h l m n a b e = let same = bytes-told bs cs r q e in (ap slots.bytes same.0, same.1)
  slot-told t (slots.list ss) (slots.list zs) r q o i j h l m n a b e =
      let u = items_type t in
      let same = items-told u false ss zs r q (items-name t o) i.1 j.1 h l m n
      (sym (append_assoc (json_items u false ss) (93 ∷ []) r) ∙ ap tail e ∙ append_assoc (json_items u false zs) (93 ∷ []) q) in
      (ap slots.list same.0, same.1)
  slot-told t (slots.record_of ss) (slots.record_of zs) r q o i j h l m n a b e =
      let fs = members_of t in
      let same = members-told fs false ss zs r q (members-name t o) i.1 j.1 h l m n
      (sym (append_assoc (json_members fs false ss) (125 ∷ []) r) ∙ ap tail e ∙ append_assoc (json_members fs false zs) (125 ∷ []) q) in
      (ap slots.record_of same.0, same.1)
  slot-told t (slots.pick f u s) (slots.pick g v z) r q o i j h l m n a b e =
      let fs = members_of t in
      let named = quoted-told (field_name_at fs f) (field_name_at fs g) (58 ∷ (json_of_slot u s ++ 125 ∷ r)) (58 ∷ (json_of_slot v z ++ 125 ∷ q))
      (sym (pick-opened (field_name_at fs f) (json_of_slot u s) r) ∙ ap tail e ∙ pick-opened (field_name_at fs g) (json_of_slot v z) q) in
      let place : f ≡ g = one-field fs f g u v (picks-apart t o i.0) i.1 j.1 named.0 in
      let typed : u ≡ v = ap (some_or types.null) (sym i.1 ∙ ap (field_type_at fs) place ∙ j.1) in
      let same = slot-told u s z (125 ∷ r) (125 ∷ q) (type-names fs f u (members-name t o) i.1) i.2 (subst (λ w. IsSlotOf w z) (sym typed) j.2) h l m (subst (λ w. LacksNan w z) (sym typed) n) (inr (inr refl)) (inr (inr refl))
      (ap tail named.1 ∙ ap (λ w. json_of_slot w z ++ 125 ∷ q) (sym typed)) in
      ((λ k. slots.pick (place k) (typed k) (same.0 k)), ap tail same.1)
  slot-told t s z r q o i j h l m n a b e = let no = one-role t s z r q i j h l e in absurd (omega arith)

  pub items-told : (t : TypeTree) (after : Bool) (ss zs : Slots) (r q : List ℕ) → HasDistinctUnionNames t → AreItems t ss → AreItems t zs → FitIn128Bits ss → FitIn128Bits zs → LackNan t ss → LackNan t zs
      → json_items t after ss ++ 93 ∷ r ≡ json_items t after zs ++ 93 ∷ q → (ss ≡ zs) × (r ≡ q)
  items-told t after no_slots no_slots r q o i j h l m n e = (refl, ap tail e)
  items-told t after no_slots (more_slots z zs) r q o i j h l m n e = absurd (no-item t after z zs r q l.0 e)
  items-told t after (more_slots s ss) no_slots r q o i j h l m n e = absurd (no-item t after s ss q r h.0 (sym e))
  items-told t after (more_slots s ss) (more_slots z zs) r q o i j h l m n e =
      let one = slot-told t s z (json_items t true ss ++ 93 ∷ r) (json_items t true zs ++ 93 ∷ q) o i.0 j.0 h.0 l.0 m.0 n.0 (items-stop t ss r) (items-stop t zs q)
      (append_cancel_left (comma after) _ _ (sym (first-item t after s ss r) ∙ e ∙ first-item t after z zs q)) in
      let more = items-told t true ss zs r q o i.1 j.1 h.1 l.1 m.1 n.1 one.1 in
      (ap₂ more_slots one.0 more.0, more.1)

  pub members-told : (fs : FieldTrees) (after : Bool) (ss zs : Slots) (r q : List ℕ) → FieldsHaveDistinctUnionNames fs → AreMembers fs ss → AreMembers fs zs → FitIn128Bits ss → FitIn128Bits zs
      → EachMemberNumber IsNotNan fs ss → EachMemberNumber IsNotNan fs zs → json_members fs after ss ++ 125 ∷ r ≡ json_members fs after zs ++ 125 ∷ q → (ss ≡ zs) × (r ≡ q)
  members-told no_fields after no_slots no_slots r q o i j h l m n e = (refl, ap tail e)
  members-told no_fields after no_slots (more_slots z zs) r q o i j h l m n e = absurd j
  members-told no_fields after (more_slots s ss) zs r q o i j h l m n e = absurd i
  members-told (more_fields f fs) after no_slots zs r q o i j h l m n e = absurd i
  members-told (more_fields f fs) after (more_slots s ss) no_slots r q o i j h l m n e = absurd j
  members-told (more_fields f fs) after (more_slots s ss) (more_slots z zs) r q o i j h l m n e =
      let name = field_name f in
      let t = field_type f in
      let named = quoted-told name name _ _ (append_cancel_left (comma after) _ _ (sym (first-member f fs after s ss r) ∙ e ∙ first-member f fs after z zs q)) in
      let one = slot-told t s z (json_members fs true ss ++ 125 ∷ r) (json_members fs true zs ++ 125 ∷ q) (field-names f o.0) i.0 j.0 h.0 l.0 m.0 n.0 (members-stop fs ss r) (members-stop fs zs q)
      (ap tail named.1) in
      let more = members-told fs true ss zs r q o.1 i.1 j.1 h.1 l.1 m.1 n.1 one.1 in
      (ap₂ more_slots one.0 more.0, more.1)

pub one-text-one-slot : (t : TypeTree) (s z : Slot) → HasDistinctUnionNames t → HasOwnText t s → HasOwnText t z → json_of_slot t s ≡ json_of_slot t z → s ≡ z
one-text-one-slot t s z o h l e = (slot-told t s z [] [] o h.0 l.0 h.1 l.1 h.2 l.2 tt tt (append-nil (json_of_slot t s) ∙ e ∙ sym (append-nil (json_of_slot t z)))).0

unseal-seal : (ss : List Slot) → unseal (seal ss) ≡ ss
unseal-seal [] = refl
unseal-seal (s ∷ ss) = ap (λ x. s ∷ x) (unseal-seal ss)

pub one-text-one-list : (t : TypeTree) (ss zs : List Slot) → HasDistinctUnionNames t → AreItems t (seal ss) → AreItems t (seal zs) → FitIn128Bits (seal ss) → FitIn128Bits (seal zs) → LackNan t (seal ss) → LackNan t (seal zs)
    → json_list t ss ≡ json_list t zs → ss ≡ zs
one-text-one-list t ss zs o i j h l m n e = sym (unseal-seal ss) ∙ ap unseal (items-told t false (seal ss) (seal zs) [] [] o i j h l m n (ap tail e)).0 ∙ unseal-seal zs
