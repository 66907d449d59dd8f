-- Members that are pushed to the children of a record, one after another.
use Rattle.std.specs.Prelude.{◌==◌, ◌||◌, not, bytes_eq, Option, Some, None, ◌≢◌, if◌then◌else◌}
use Rattle.std.specs.List.{list_any}
use Rattle.std.proofs.Common.{◌≡◌, ℕ, zero, suc, ◌+◌, ◌<◌, ◌≤◌, Bool, true, false, List, [], ◌∷◌, ◌++◌, length, map, get_or, refl, sym, ap, ◌∙◌, subst, arith, inl, inr}
use Rattle.std.proofs.lemmas.Bool.Decides.{eqb_tells}
use Rattle.std.proofs.lemmas.List.{get_or_append_left}
use Rattle.std.proofs.lemmas.Slice.Eq.{bytes_eq-Decides}
use Rattle.json.specs.Json.{Json, Members, member}
use Rattle.nest_any.specs.Lent.{builder_at, set_builder}
use Rattle.json_read.specs.StructMembers.{has_member, AddedIf, MembersAddedTo, AllFieldsAdded, NullsAdded, field_name_at_index, child_named, child_error}
use Rattle.json_read.specs.FlatValues.{first_error, error_unless}
use Rattle.json_read.specs.JsonSlots.{value_error, slot_named, field_slots, is_named, type_named, name_error, members_error}
use Rattle.json_read.specs.SlotAdded.{SlotAdded}
use Rattle.json_read.specs.declared.value_error.ValueError.{ValueError}
use Rattle.json_read.specs.declared.value_error.ValueError.TheVariants.{UnknownField, DuplicateField}
use Rattle.nest_memory.specs.TypeTree.{Letters, FieldTrees, no_fields, more_fields, field_type, TypeTree}
use Rattle.nest_model.specs.BuilderLevels.{own_slots, own_slots_each, record_at, rows_of_records}
use Rattle.nest_model.specs.BuilderLevelLaws.{own-length, len-grown}
use Rattle.nest_model.specs.BuilderTree.{BuilderTree, BuilderTrees, struct, no_builders, more_builders, builder_len, builder_type, builder_types}
use Rattle.nest_model.specs.BuilderAddRow.{AreEachComplete, RowAdded}
use Rattle.nest_model.specs.BuilderComplete.{IsComplete, AreComplete}
use Rattle.nest_model.specs.Layout.{field_types}
use Rattle.nest_model.specs.Slot as slots
use Rattle.nest_model.specs.Slot.{Slot, Slots}
use Rattle.json_write.specs.JsonText.{field_name}
use Rattle.json_write.specs.TypedSlots.{LacksField, HaveDistinctNames}

-- ---- tests

pub eq-false : (a b : Letters) → a ≢ b → bytes_eq a b ≡ false
eq-false a b h = by (bytes_eq a b) (λ t. h ((bytes_eq-Decides a b).0 t))
  where
    by : (r : Bool) → (r ≡ true → ⊥) → r ≡ false
    by true f = absurd (f refl)
    by false f = refl

pub eq-same : (a b : Letters) → a ≡ b → bytes_eq a b ≡ true
eq-same a b h = (bytes_eq-Decides a b).1 h

or-false : (a b : Bool) → a || b ≡ false → (a ≡ false) × (b ≡ false)
or-false true b h = absurd cc
or-false false b h = (refl, h)

or-true : (a b : Bool) → b ≡ true → a || b ≡ true
or-true true b h = refl
or-true false b h = h

pub eqb-same : (m n : ℕ) → m ≡ n → (m == n) ≡ true
eqb-same m n h = elim (eqb_tells m n) [
  | inl p ↦ p.0
  | inr q ↦ absurd (q.1 h)
]

eqb-more : (m n : ℕ) → m ≡ n + 1 → (m == n) ≡ false
eqb-more m n h = elim (eqb_tells m n) [
  | inl p ↦ absurd (omega (arith, p.1, h))
  | inr q ↦ q.0
]

pub added-len : (s : Slot) (c d : BuilderTree) → SlotAdded s c d → builder_len d ≡ builder_len c + 1
added-len s c d h = len-grown (s ∷ []) c d h.last

-- ---- what a slot more changes

has-more : (n k : Letters) (z : Slot) (ps : List (Letters × Slot)) → bytes_eq k n ≡ false → has_member n (ps ++ (k, z) ∷ []) ≡ has_member n ps
has-more n k z [] h = ap (λ b. b || false) h
has-more n k z (p ∷ ps) h = ap (λ b. bytes_eq p.0 n || b) (has-more n k z ps h)

slot-more : (n k : Letters) (z : Slot) (ps : List (Letters × Slot)) → bytes_eq k n ≡ false → slot_named n (ps ++ (k, z) ∷ []) ≡ slot_named n ps
slot-more n k z [] h = ap (λ b. if b then z else slots.null) h
slot-more n k z (p ∷ ps) h = ap (λ s. if bytes_eq p.0 n then p.1 else s) (slot-more n k z ps h)

has-new : (n k : Letters) (z : Slot) (ps : List (Letters × Slot)) → bytes_eq k n ≡ true → has_member n (ps ++ (k, z) ∷ []) ≡ true
has-new n k z [] h = ap (λ b. b || false) h
has-new n k z (p ∷ ps) h = or-true (bytes_eq p.0 n) (has_member n (ps ++ (k, z) ∷ [])) (has-new n k z ps h)

slot-new : (n k : Letters) (z : Slot) (ps : List (Letters × Slot)) → bytes_eq k n ≡ true → has_member n ps ≡ false → slot_named n (ps ++ (k, z) ∷ []) ≡ z
slot-new n k z [] h e = ap (λ b. if b then z else slots.null) h
slot-new n k z (p ∷ ps) h e =
    let both = or-false (bytes_eq p.0 n) (has_member n ps) e in
    ap (λ b. if b then p.1 else slot_named n (ps ++ (k, z) ∷ [])) both.0 ∙ slot-new n k z ps h both.1

slot-none : (n : Letters) (ps : List (Letters × Slot)) → has_member n ps ≡ false → slot_named n ps ≡ slots.null
slot-none n [] e = refl
slot-none n (p ∷ ps) e =
    let both = or-false (bytes_eq p.0 n) (has_member n ps) e in
    ap (λ b. if b then p.1 else slot_named n ps) both.0 ∙ slot-none n ps both.1

-- ---- children

fed-one : (b b' : Bool) (s s' : Slot) (c d : BuilderTree) → b' ≡ b → s' ≡ s → AddedIf b s c d → AddedIf b' s' c d
fed-one b b' s s' c d e f h = rw (e, f) h

pub fed-others : (k : Letters) (z : Slot) (fs : FieldTrees) (ps : List (Letters × Slot)) (cs ds : BuilderTrees) → LacksField k fs → MembersAddedTo fs ps cs ds → MembersAddedTo fs (ps ++ (k, z) ∷ []) cs ds
fed-others k z no_fields ps no_builders no_builders h w = tt
fed-others k z no_fields ps no_builders (more_builders d ds) h w = absurd w
fed-others k z no_fields ps (more_builders c cs) ds h w = absurd w
fed-others k z (more_fields f fs) ps no_builders ds h w = absurd w
fed-others k z (more_fields f fs) ps (more_builders c cs) no_builders h w = absurd w
fed-others k z (more_fields f fs) ps (more_builders c cs) (more_builders d ds) h w =
    let e = eq-false k (field_name f) h.0 in
    (fed-one _ _ _ _ c d (has-more (field_name f) k z ps e) (slot-more (field_name f) k z ps e) w.0, fed-others k z fs ps cs ds h.1 w.1)

not-named : (k : Letters) (fs : FieldTrees) (i : ℕ) → LacksField k fs → field_name_at_index fs i ≡ Some k → ⊥
not-named k no_fields i h e = cc
not-named k (more_fields f fs) zero h e = h.0 (let p : field_name f ≡ k = cc in sym p)
not-named k (more_fields f fs) (suc i) h e = not-named k fs i h.1 e

pub head-apart : (n k : Letters) (fs : FieldTrees) (i : ℕ) → LacksField n fs → field_name_at_index fs i ≡ Some k → n ≡ k → ⊥
head-apart n k fs i h e q = not-named n fs i h (e ∙ ap Some (sym q))

-- the head's child added the slot
fed-head : (b : Bool) (k : Letters) (z : Slot) (n : Letters) (ps : List (Letters × Slot)) (rows : ℕ) (c d e : BuilderTree) → has_member n ps ≡ b → bytes_eq k n ≡ true → AddedIf b (slot_named n ps) c d → builder_len c ≡ rows → builder_len d ≡ rows
    → SlotAdded z d e → AddedIf (has_member n (ps ++ (k, z) ∷ [])) (slot_named n (ps ++ (k, z) ∷ [])) c e
fed-head true k z n ps rows c d e h q w l m tk = absurd (omega (arith, added-len (slot_named n ps) c d w, l, m))
fed-head false k z n ps rows c d e h q w l m tk = rw (has-new n k z ps q, slot-new n k z ps q h) (subst (λ x. SlotAdded z x e) w tk)

pub fed-put : (fs : FieldTrees) (ps : List (Letters × Slot)) (cs ds : BuilderTrees) (i : ℕ) (k : Letters) (z : Slot) (n : ℕ) (d e : BuilderTree) → HaveDistinctNames fs → AreComplete cs n → MembersAddedTo fs ps cs ds
    → field_name_at_index fs i ≡ Some k → builder_at ds i ≡ Some d → builder_len d ≡ n → SlotAdded z d e → MembersAddedTo fs (ps ++ (k, z) ∷ []) cs (set_builder ds i e)
fed-put no_fields ps cs ds i k z n d e a w h p q l t = absurd cc
fed-put (more_fields f fs) ps no_builders ds i k z n d e a w h p q l t = absurd h
fed-put (more_fields f fs) ps (more_builders c cs) no_builders i k z n d e a w h p q l t = absurd h
fed-put (more_fields f fs) ps (more_builders c cs) (more_builders x ds) zero k z n d e a w h p q l t =
    let named : field_name f ≡ k = cc in
    let stood : x ≡ d = cc in
    let len = ap builder_len stood ∙ l in
    let added = subst (λ y. SlotAdded z y e) (sym stood) t in (
      fed-head (has_member (field_name f) ps) k z (field_name f) ps n c x e refl (eq-same k (field_name f) (sym named)) h.0 w.1 len added,
      fed-others k z fs ps cs ds (subst (λ y. LacksField y fs) named a.0) h.1,
    )
fed-put (more_fields f fs) ps (more_builders c cs) (more_builders x ds) (suc i) k z n d e a w h p q l t =
    let other = eq-false k (field_name f) (λ same. head-apart (field_name f) k fs i a.0 p (sym same)) in (
      fed-one _ _ _ _ c x (has-more (field_name f) k z ps other) (slot-more (field_name f) k z ps other) h.0,
      fed-put fs ps cs ds i k z n d e a.1 w.2 h.1 p q l t,
    )

-- no member has_member come
pub fed-none : (fs : FieldTrees) (cs : BuilderTrees) → builder_types cs ≡ field_types fs → MembersAddedTo fs [] cs cs
fed-none no_fields no_builders e = tt
fed-none no_fields (more_builders c cs) e = absurd cc
fed-none (more_fields f fs) no_builders e = absurd cc
fed-none (more_fields f fs) (more_builders c cs) e = (refl, fed-none fs cs (let r : builder_types cs ≡ field_types fs = cc in r))

whole-by : (b : Bool) (s : Slot) (c d : BuilderTree) → AddedIf b s c d → IsComplete c → IsComplete d
whole-by true s c d h w = h.complete
whole-by false s c d h w = subst IsComplete (sym h) w

type-by : (b : Bool) (s : Slot) (c d : BuilderTree) → AddedIf b s c d → builder_type d ≡ builder_type c
type-by true s c d h = h.same_type
type-by false s c d h = ap builder_type h

pub fed-whole : (fs : FieldTrees) (ps : List (Letters × Slot)) (cs ds : BuilderTrees) (n : ℕ) → MembersAddedTo fs ps cs ds → AreComplete cs n → AreEachComplete ds
fed-whole no_fields ps no_builders no_builders n h w = tt
fed-whole no_fields ps no_builders (more_builders d ds) n h w = absurd h
fed-whole no_fields ps (more_builders c cs) ds n h w = absurd h
fed-whole (more_fields f fs) ps no_builders ds n h w = absurd h
fed-whole (more_fields f fs) ps (more_builders c cs) no_builders n h w = absurd h
fed-whole (more_fields f fs) ps (more_builders c cs) (more_builders d ds) n h w = (whole-by _ _ c d h.0 w.0, fed-whole fs ps cs ds n h.1 w.2)

pub fed-types : (fs : FieldTrees) (ps : List (Letters × Slot)) (cs ds : BuilderTrees) → MembersAddedTo fs ps cs ds → builder_types ds ≡ builder_types cs
fed-types no_fields ps no_builders no_builders h = refl
fed-types no_fields ps no_builders (more_builders d ds) h = absurd h
fed-types no_fields ps (more_builders c cs) ds h = absurd h
fed-types (more_fields f fs) ps no_builders ds h = absurd h
fed-types (more_fields f fs) ps (more_builders c cs) no_builders h = absurd h
fed-types (more_fields f fs) ps (more_builders c cs) (more_builders d ds) h = rw (type-by _ _ c d h.0, fed-types fs ps cs ds h.1) refl

-- ---- faults

any-names : (k : Letters) (ps : List (Letters × Slot)) → list_any (λ q. bytes_eq q k) (map (λ p. p.0) ps) ≡ has_member k ps
any-names k [] = refl
any-names k (p ∷ ps) = ap (λ b. bytes_eq p.0 k || b) (any-names k ps)

-- the reasons of a member: its name, then its value
member_fault : Bool → Bool → TypeTree → Json → Option ValueError
member_fault named any t j = first_error (first_error (error_unless named UnknownField) (error_unless (not any) DuplicateField)) (value_error t j)

error-head : (b : Bool) (j : Json) (t : TypeTree) (s : Slot) (rows : ℕ) (c d : BuilderTree) → AddedIf b s c d → builder_len c ≡ rows → builder_type c ≡ t → if builder_len d == rows then value_error (builder_type d) j else Some DuplicateField ≡ member_fault true b t j
unfolding member_fault
error-head true j t s rows c d w l u = rw (eqb-more (builder_len d) rows (omega (arith, added-len s c d w, l))) refl
error-head false j t s rows c d w l u = rw (eqb-same (builder_len d) rows (ap builder_len w ∙ l), ap builder_type w, u) refl

-- they are the same by the children
error-child : (fs : FieldTrees) (ps : List (Letters × Slot)) (cs ds : BuilderTrees) (k : Letters) (j : Json) (n : ℕ) → builder_types cs ≡ field_types fs → AreComplete cs n → MembersAddedTo fs ps cs ds
    → child_error (child_named k fs ds) n j ≡ member_fault (is_named k fs) (has_member k ps) (type_named k fs) j
unfolding member_fault
error-child no_fields ps cs ds k j n ty w h = refl
error-child (more_fields f fs) ps no_builders ds k j n ty w h = absurd h
error-child (more_fields f fs) ps (more_builders c cs) no_builders k j n ty w h = absurd h
error-child (more_fields f fs) ps (more_builders c cs) (more_builders d ds) k j n ty w h =
    by (bytes_eq (field_name f) k) refl (error-child fs ps cs ds k j n (let r : builder_types cs ≡ field_types fs = cc in r) w.2 h.1)
  where
    by : (b : Bool) → bytes_eq (field_name f) k ≡ b → child_error (child_named k fs ds) n j ≡ member_fault (is_named k fs) (has_member k ps) (type_named k fs) j
        → child_error (if b then Some d else child_named k fs ds) n j ≡ member_fault (b || is_named k fs) (has_member k ps) (if b then field_type f else type_named k fs) j
    by true q rest =
        let same : field_name f ≡ k = (bytes_eq-Decides (field_name f) k).0 q in
        let head : builder_type c ≡ field_type f = cc in
        error-head (has_member (field_name f) ps) j (field_type f) (slot_named (field_name f) ps) n c d h.0 w.1 head ∙ ap (λ x. member_fault true (has_member x ps) (field_type f) j) same
    by false q rest = rest

-- the members' reasons from one on: those of it, then the others'
pub members-error : (fs : FieldTrees) (ps : List (Letters × Slot)) (cs ds : BuilderTrees) (k : Letters) (j : Json) (ms : Members) (n : ℕ) → builder_types cs ≡ field_types fs → AreComplete cs n → MembersAddedTo fs ps cs ds
    → members_error fs (map (λ p. p.0) ps) (member k j ms) ≡ first_error (child_error (child_named k fs ds) n j) (members_error fs (map (λ p. p.0) ps ++ k ∷ []) ms)
unfolding member_fault
members-error fs ps cs ds k j ms n ty w h =
    let rest = members_error fs (map (λ p. p.0) ps ++ k ∷ []) ms in
    first-assoc (name_error fs (map (λ p. p.0) ps) k) (value_error (type_named k fs) j) rest
    ∙ ap (λ b. first_error (member_fault (is_named k fs) b (type_named k fs) j) rest) (any-names k ps)
    ∙ ap (λ e. first_error e rest) (sym (error-child fs ps cs ds k j n ty w h))
  where
    first-assoc : (a b c : Option ValueError) → first_error a (first_error b c) ≡ first_error (first_error a b) c
    first-assoc None b c = refl
    first-assoc (Some e) b c = refl

pub named-none : (k : Letters) (fs : FieldTrees) (cs : BuilderTrees) → LacksField k fs → child_named k fs cs ≡ None
named-none k no_fields cs h = refl
named-none k (more_fields f fs) no_builders h = refl
named-none k (more_fields f fs) (more_builders c cs) h = ap (λ b. if b then Some c else child_named k fs cs) (eq-false (field_name f) k (λ e. h.0 (sym e))) ∙ named-none k fs cs h.1

pub named-at : (k : Letters) (fs : FieldTrees) (cs : BuilderTrees) (i : ℕ) → builder_types cs ≡ field_types fs → HaveDistinctNames fs → field_name_at_index fs i ≡ Some k → child_named k fs cs ≡ builder_at cs i
named-at k no_fields cs i ty a e = absurd cc
named-at k (more_fields f fs) no_builders i ty a e = absurd cc
named-at k (more_fields f fs) (more_builders c cs) zero ty a e =
    let same : field_name f ≡ k = cc in
    ap (λ b. if b then Some c else child_named k fs cs) (eq-same (field_name f) k same)
named-at k (more_fields f fs) (more_builders c cs) (suc i) ty a e =
    ap (λ b. if b then Some c else child_named k fs cs) (eq-false (field_name f) k (λ q. head-apart (field_name f) k fs i a.0 e q))
    ∙ named-at k fs cs i (let r : builder_types cs ≡ field_types fs = cc in r) a.1 e

-- the type of the field of that name is its child's
pub type-at : (k : Letters) (fs : FieldTrees) (cs : BuilderTrees) (i : ℕ) (c : BuilderTree) → builder_types cs ≡ field_types fs → HaveDistinctNames fs → field_name_at_index fs i ≡ Some k → builder_at cs i ≡ Some c → type_named k fs ≡ builder_type c
type-at k no_fields cs i c ty a e q = absurd cc
type-at k (more_fields f fs) no_builders i c ty a e q = absurd cc
type-at k (more_fields f fs) (more_builders d cs) zero c ty a e q =
    let same : field_name f ≡ k = cc in
    let stood : d ≡ c = cc in
    let head : builder_type d ≡ field_type f = cc in
    ap (λ b. if b then field_type f else type_named k fs) (eq-same (field_name f) k same) ∙ sym head ∙ ap builder_type stood
type-at k (more_fields f fs) (more_builders d cs) (suc i) c ty a e q =
    ap (λ b. if b then field_type f else type_named k fs) (eq-false (field_name f) k (λ r. head-apart (field_name f) k fs i a.0 e r))
    ∙ type-at k fs cs i c (let r : builder_types cs ≡ field_types fs = cc in r) a.1 e q

-- ---- the record

filled-one : (b : Bool) (n : Letters) (ps : List (Letters × Slot)) (rows : ℕ) (c d e : BuilderTree) → has_member n ps ≡ b → AddedIf b (slot_named n ps) c d → builder_len c ≡ rows → AddedIf (builder_len d == rows) slots.null d e → SlotAdded (slot_named n ps) c e
filled-one true n ps rows c d e h w l f =
    let still : e ≡ d = subst (λ b. AddedIf b slots.null d e) (eqb-more (builder_len d) rows (omega (arith, added-len (slot_named n ps) c d w, l))) f in
    subst (SlotAdded (slot_named n ps) c) (sym still) w
filled-one false n ps rows c d e h w l f =
    let null = subst (λ b. AddedIf b slots.null d e) (eqb-same (builder_len d) rows (ap builder_len w ∙ l)) f in
    subst (λ s. SlotAdded s c e) (sym (slot-none n ps h)) (subst (λ x. SlotAdded slots.null x e) w null)

pub filled : (fs : FieldTrees) (ps : List (Letters × Slot)) (cs ds es : BuilderTrees) (n : ℕ) → MembersAddedTo fs ps cs ds → AreComplete cs n → NullsAdded n ds es → AllFieldsAdded fs ps cs es
filled no_fields ps no_builders no_builders no_builders n h w f = tt
filled no_fields ps no_builders no_builders (more_builders e es) n h w f = absurd f
filled no_fields ps no_builders (more_builders d ds) es n h w f = absurd h
filled no_fields ps (more_builders c cs) ds es n h w f = absurd h
filled (more_fields g fs) ps no_builders ds es n h w f = absurd h
filled (more_fields g fs) ps (more_builders c cs) no_builders es n h w f = absurd h
filled (more_fields g fs) ps (more_builders c cs) (more_builders d ds) no_builders n h w f = absurd f
filled (more_fields g fs) ps (more_builders c cs) (more_builders d ds) (more_builders e es) n h w f =
    (filled-one (has_member (field_name g) ps) (field_name g) ps n c d e refl h.0 w.1 f.0, filled fs ps cs ds es n h.1 w.2 f.1)

get-last : (xs : List Slot) (s d : Slot) (n : ℕ) → n ≡ length xs → get_or (xs ++ s ∷ []) n d ≡ s
get-last [] s d zero e = refl
get-last [] s d (suc n) e = absurd (omega (arith, e))
get-last (x ∷ xs) s d zero e = absurd (omega (arith, e))
get-last (x ∷ xs) s d (suc n) e = get-last xs s d n (omega (arith, e))

pub filled-whole : (fs : FieldTrees) (ps : List (Letters × Slot)) (cs es : BuilderTrees) → AllFieldsAdded fs ps cs es → AreEachComplete es
filled-whole no_fields ps no_builders no_builders h = tt
filled-whole no_fields ps no_builders (more_builders e es) h = absurd h
filled-whole no_fields ps (more_builders c cs) es h = absurd h
filled-whole (more_fields f fs) ps no_builders es h = absurd h
filled-whole (more_fields f fs) ps (more_builders c cs) no_builders h = absurd h
filled-whole (more_fields f fs) ps (more_builders c cs) (more_builders e es) h = (h.0.complete, filled-whole fs ps cs es h.1)

filled-last : (fs : FieldTrees) (ps : List (Letters × Slot)) (cs es : BuilderTrees) (n : ℕ) → AllFieldsAdded fs ps cs es → AreComplete cs n → record_at n (own_slots_each es) ≡ field_slots fs ps
filled-last no_fields ps no_builders no_builders n h w = refl
filled-last no_fields ps no_builders (more_builders e es) n h w = absurd h
filled-last no_fields ps (more_builders c cs) es n h w = absurd h
filled-last (more_fields f fs) ps no_builders es n h w = absurd h
filled-last (more_fields f fs) ps (more_builders c cs) no_builders n h w = absurd h
filled-last (more_fields f fs) ps (more_builders c cs) (more_builders e es) n h w =
    rw (h.0.last, get-last (own_slots c) (slot_named (field_name f) ps) slots.null n (omega (arith, own-length c, w.1)), filled-last fs ps cs es n h.1 w.2) refl

filled-record : (fs : FieldTrees) (ps : List (Letters × Slot)) (cs es : BuilderTrees) (n i : ℕ) → i < n → AllFieldsAdded fs ps cs es → AreComplete cs n → record_at i (own_slots_each es) ≡ record_at i (own_slots_each cs)
filled-record no_fields ps no_builders no_builders n i l h w = refl
filled-record no_fields ps no_builders (more_builders e es) n i l h w = absurd h
filled-record no_fields ps (more_builders c cs) es n i l h w = absurd h
filled-record (more_fields f fs) ps no_builders es n i l h w = absurd h
filled-record (more_fields f fs) ps (more_builders c cs) no_builders n i l h w = absurd h
filled-record (more_fields f fs) ps (more_builders c cs) (more_builders e es) n i l h w =
    rw (h.0.last, get_or_append_left (own_slots c) (slot_named (field_name f) ps ∷ []) slots.null i (omega (arith, own-length c, w.1)), filled-record fs ps cs es n i l h.1 w.2) refl

filled-records : (fs : FieldTrees) (ps : List (Letters × Slot)) (cs es : BuilderTrees) (n i : ℕ) (bits : List Bool) → i + length bits ≤ n → AllFieldsAdded fs ps cs es → AreComplete cs n → rows_of_records i bits (own_slots_each es) ≡ rows_of_records i bits (own_slots_each cs)
filled-records fs ps cs es n i [] l h w = refl
filled-records fs ps cs es n i (b ∷ bs) l h w = rw (filled-record fs ps cs es n i (omega arith) h w, filled-records fs ps cs es n (suc i) bs (omega arith) h w) refl

-- a record added over them
pub record-added : (t : TypeTree) (bits : List Bool) (fs : FieldTrees) (ps : List (Letters × Slot)) (cs es : BuilderTrees) (new : BuilderTree) → AllFieldsAdded fs ps cs es → AreComplete cs (length bits) → RowAdded true (struct t bits es) new
    → SlotAdded (slots.record_of (field_slots fs ps)) (struct t bits cs) new
record-added t bits fs ps cs es new h w k =
    record {
      last = rw (← filled-last fs ps cs es (length bits) h w, ← filled-records fs ps cs es (length bits) 0 bits (omega arith) h w) k.last;
      complete = k.complete;
      same_type = ap builder_type k.exact;
    }
