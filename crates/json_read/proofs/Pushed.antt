-- What each call of the cycle that pushes values owes, of builders as trees.
use Rattle.std.specs.Prelude.{◌==◌, ◌⊎◌, Option, Some, None, Result, Ok, Err, OnOk, IfErr}
use Rattle.std.proofs.Common.{◌≡◌, ℕ, zero, suc, ◌<◌, true, false, List, [], ◌∷◌, ◌++◌, length, map, get_or, refl, sym, ap, ◌∙◌, subst, arith, inl, inr}
use Rattle.std.proofs.lemmas.Bool.Decides.{eqb_tells}
use Rattle.json.specs.Json as json
use Rattle.json.specs.Json.{Json, Members, member, Items}
use Rattle.json.specs.Value.{value_view, items_view}
use Rattle.json.specs.declared.value.Value.{Value}
use Rattle.nest_any.specs.Lent.{builder_at, with_children}
use Rattle.nest_any.specs.Refusals.{IsOfLists, count_builders, struct_bits, struct_children}
use Rattle.nest_any.specs.Trees.{tree_of, trees_of}
use Rattle.nest_any.specs.declared.any.AnyMutableArray.{AnyMutableArray}
use Rattle.json_read.specs.DistinctNames.{HasDistinctFieldNames}
use Rattle.json_read.specs.StructMembers.{MembersAddedTo, MemberAdded, NullsAdded, child_error, child_named, over_children}
use Rattle.json_write.specs.Formats.{format_of_type}
use Rattle.json_write.specs.declared.format.ValueFormat.{ValueFormat}
use Rattle.json_read.specs.FlatValues.{first_error, item_numbers, flat_error}
use Rattle.json_read.specs.JsonSlots.{array_error, json_item_count, value_error, flat_value_error, field_slots, items_error, item_slots, values_physical_type, members_error, object_error, list_length_error, slot_of, type_named}
use Rattle.json_read.specs.SlotAdded.{SlotAdded, IsPushError, IsList}
use Rattle.json_read.specs.declared.value_error.ValueError.{ValueError}
use Rattle.json_read.specs.declared.value_error.ValueError.TheVariants.{DuplicateField, WrongLength}
use Rattle.json_read.specs.declared.value_error.PushError.{PushError}
use Rattle.json_read.proofs.Feeding.{fed-whole, fed-types}
use Rattle.json_read.proofs.Stepping.{completed-over, completed-added, completed-whole, error-step, error-stop, fed-step}
use Rattle.json_read.proofs.TypeParts.{list-error, list-slot, struct-lies, struct-members}
use Rattle.nest_array.specs.SeenScalar.{shown_type}
use Rattle.nest_memory.specs.Physical.{physical_type}
use Rattle.nest_memory.specs.TypeTree.{Letters, TypeTree, FieldTrees, no_fields, more_fields, count_fields, fields_of, fixed_size, size_of}
use Rattle.nest_memory.specs.declared.datatypes.physical_type.PhysicalType.{PhysicalType}
use Rattle.nest_memory.specs.declared.datatypes.physical_type.PhysicalType.TheVariants as physical
use Rattle.nest_model.specs.BuilderAddRow.{AreEachComplete, HasCompleteChildren, RowAdded}
use Rattle.nest_model.specs.BuilderTree.{BuilderTree, BuilderTrees, flat, list, fixed_size_list, dictionary, struct, no_builders, more_builders, builder_len, builder_type, builder_types}
use Rattle.nest_model.specs.BuilderComplete.{IsComplete}
use Rattle.nest_model.specs.Layout.{field_types}
use Rattle.nest_model.specs.Slot as slots
use Rattle.nest_model.specs.Slot.{Slot, seal}
use Rattle.json_write.specs.JsonText.{items_type, members_of}

pub on-ok : {A : Type 0} (r : Result A PushError) (P Q : Type 0) → (P → Q) → OnOk r P → OnOk r Q
on-ok (Ok x) P Q f h = f h
on-ok (Err e) P Q f h = tt

pub if-err : {A : Type 0} (r : Result A PushError) (P Q : PushError → Type 0) → ((e : PushError) → P e → Q e) → IfErr r P → IfErr r Q
if-err (Ok x) P Q f h = tt
if-err (Err e) P Q f h = f e h

-- ---- lists

pub items-sealed : {A : Type 0} (t : TypeTree) (vs : List (Value A)) → item_slots t (items_view vs) ≡ seal (map (λ v. slot_of t (value_view v)) vs)
items-sealed t [] = refl
items-sealed t (v ∷ vs) = ap (slots.more_slots (slot_of t (value_view v))) (items-sealed t vs)

pub items-count : {A : Type 0} (vs : List (Value A)) → length vs ≡ json_item_count (items_view vs)
items-count [] = refl
items-count (v ∷ vs) = ap suc (items-count vs)

pub value-list : {A : Type 0} (t : TypeTree) (vs : List (Value A)) → IsOfLists (physical_type t) → slot_of t (json.array (items_view vs)) ≡ slots.list (seal (map (λ v. slot_of (items_type t) (value_view v)) vs))
value-list t vs h = list-slot t (item_numbers (items_view vs)) (item_slots (items_type t) (items_view vs)) h ∙ ap slots.list (items-sealed (items_type t) vs)

pub error-list : {A : Type 0} (t : TypeTree) (vs : List (Value A)) → IsOfLists (physical_type t) → value_error t (json.array (items_view vs)) ≡ first_error (items_error (items_type t) (items_view vs)) (list_length_error (fixed_size t) (length vs))
error-list t vs h = list-error t (items_view vs) (items_error (items_type t) (items_view vs)) (length vs) h (items-count vs)

pub size-wrong : (o : Option ℕ) (s n : ℕ) → o ≡ Some s → (s ≡ n → ⊥) → list_length_error o n ≡ Some WrongLength
size-wrong o s n e h = ap (λ x. list_length_error x n) e ∙ go (eqb_tells s n)
  where
    go : ((s == n ≡ true) × (s ≡ n)) ⊎ ((s == n ≡ false) × (s ≡ n → ⊥)) → list_length_error (Some s) n ≡ Some WrongLength
    go (inl p) = absurd (h p.1)
    go (inr q) = rw q.0 refl

pub size-right : (o : Option ℕ) (s n : ℕ) → o ≡ Some s → s ≡ n → list_length_error o n ≡ None
size-right o s n e h = ap (λ x. list_length_error x n) e ∙ go (eqb_tells s n)
  where
    go : ((s == n ≡ true) × (s ≡ n)) ⊎ ((s == n ≡ false) × (s ≡ n → ⊥)) → list_length_error (Some s) n ≡ None
    go (inl p) = rw p.0 refl
    go (inr q) = absurd (q.1 h)

pub first-later : (a b : Option ValueError) → a ≡ None → first_error a b ≡ b
first-later a b e = ap (λ x. first_error x b) e

no-rows : (p : PhysicalType) (size : ℕ) (v : ValueFormat) (js : Items) (inside : Option ValueError) → (p ≡ physical.List → ⊥) → (p ≡ physical.LargeList → ⊥) → (p ≡ physical.FixedSizeList → ⊥) → array_error p size v js inside ≡ flat_error p size v (json.array js)
no-rows physical.List size v js inside a b c = absurd (a refl)
no-rows physical.LargeList size v js inside a b c = absurd (b refl)
no-rows physical.FixedSizeList size v js inside a b c = absurd (c refl)
no-rows p size v js inside a b c = refl

pub numbers-error : (t : TypeTree) (j : Json) → IsList j → (values_physical_type t ≡ physical.List → ⊥) → (values_physical_type t ≡ physical.LargeList → ⊥) → (values_physical_type t ≡ physical.FixedSizeList → ⊥) → flat_value_error t j ≡ value_error t j
numbers-error t (json.array js) h a b c = sym (no-rows (values_physical_type t) (size_of (shown_type t)) (format_of_type t) js (items_error (items_type t) js) a b c)
numbers-error t json.null h a b c = absurd h
numbers-error t (json.boolean x) h a b c = absurd h
numbers-error t (json.number x) h a b c = absurd h
numbers-error t (json.string x) h a b c = absurd h
numbers-error t (json.object x) h a b c = absurd h

-- ---- children

pub trees-count : (xs : List AnyMutableArray) → count_builders (trees_of xs) ≡ length xs
trees-count [] = refl
trees-count (x ∷ xs) = ap suc (trees-count xs)

pub types-count : (cs : BuilderTrees) (fs : FieldTrees) → builder_types cs ≡ field_types fs → count_builders cs ≡ count_fields fs
types-count no_builders no_fields e = refl
types-count no_builders (more_fields f fs) e = absurd cc
types-count (more_builders c cs) no_fields e = absurd cc
types-count (more_builders c cs) (more_fields f fs) e = ap suc (types-count cs fs (let r : builder_types cs ≡ field_types fs = cc in r))

pub tree-at : (xs : List AnyMutableArray) (i : ℕ) (d : AnyMutableArray) → i < length xs → builder_at (trees_of xs) i ≡ Some (tree_of (get_or xs i d))
tree-at [] i d h = absurd (omega (arith, h))
tree-at (x ∷ xs) zero d h = refl
tree-at (x ∷ xs) (suc i) d h = tree-at xs i d (omega (arith, h))

pub whole-child : (cs : BuilderTrees) (i : ℕ) (c : BuilderTree) → AreEachComplete cs → Some c ≡ builder_at cs i → IsComplete c
whole-child no_builders i c w e = absurd cc
whole-child (more_builders d cs) zero c w e = let p : c ≡ d = cc in subst IsComplete (sym p) w.0
whole-child (more_builders d cs) (suc i) c w e = whole-child cs i c w.1 e

pub child-repeated : (c : Option BuilderTree) (d : BuilderTree) (n : ℕ) (j : Json) → c ≡ Some d → (builder_len d ≡ n → ⊥) → child_error c n j ≡ Some DuplicateField
child-repeated c d n j e h = ap (λ x. child_error x n j) e ∙ go (eqb_tells (builder_len d) n)
  where
    go : ((builder_len d == n ≡ true) × (builder_len d ≡ n)) ⊎ ((builder_len d == n ≡ false) × (builder_len d ≡ n → ⊥)) → child_error (Some d) n j ≡ Some DuplicateField
    go (inl p) = absurd (h p.1)
    go (inr q) = rw q.0 refl

pub child-reason : (c : Option BuilderTree) (d : BuilderTree) (n : ℕ) (j : Json) → c ≡ Some d → builder_len d ≡ n → child_error c n j ≡ value_error (builder_type d) j
child-reason c d n j e h = ap (λ x. child_error x n j) e ∙ go (eqb_tells (builder_len d) n)
  where
    go : ((builder_len d == n ≡ true) × (builder_len d ≡ n)) ⊎ ((builder_len d == n ≡ false) × (builder_len d ≡ n → ⊥)) → child_error (Some d) n j ≡ value_error (builder_type d) j
    go (inl p) = rw p.0 refl
    go (inr q) = absurd (q.1 h)

-- ---- records

-- a builder of records
abbrev pub IsRecords : BuilderTree → Type 0
IsRecords b = b ≡ struct (builder_type b) (struct_bits b) (struct_children b)

pub children-whole : (b : BuilderTree) → IsRecords b → HasCompleteChildren b → AreEachComplete (struct_children b)
children-whole (flat t xs) k h = absurd cc
children-whole (list large t rows c) k h = absurd cc
children-whole (fixed_size_list t bits c) k h = absurd cc
children-whole (dictionary i t keys c) k h = absurd cc
children-whole (struct t bits cs) k h = h

pub records-typed : (b : BuilderTree) → IsRecords b → IsComplete b → builder_types (struct_children b) ≡ field_types (fields_of (builder_type b))
records-typed (flat t xs) k h = absurd cc
records-typed (list large t rows c) k h = absurd cc
records-typed (fixed_size_list t bits c) k h = absurd cc
records-typed (dictionary i t keys c) k h = absurd cc
records-typed (struct t bits cs) k h = h.1

pub over-same : (b : BuilderTree) → IsRecords b → b ≡ over_children b (struct_children b)
over-same (flat t xs) k = absurd cc
over-same (list large t rows c) k = absurd cc
over-same (fixed_size_list t bits c) k = absurd cc
over-same (dictionary i t keys c) k = absurd cc
over-same (struct t bits cs) k = refl

-- what holds while members come
pub record Coming (old now : BuilderTree) (ps : List (Letters × Slot)) : Type 0 where
  pub kind : IsRecords old
  pub records : physical_type (builder_type old) ≡ physical.Struct
  pub distinct : HasDistinctFieldNames (builder_type old)
  pub complete : IsComplete old
  pub fed : MembersAddedTo (fields_of (builder_type old)) ps (struct_children old) (struct_children now)
  pub set : now ≡ over_children old (struct_children now)

pub coming-ready : (old now : BuilderTree) (ps : List (Letters × Slot)) → Coming old now ps → HasCompleteChildren now × (builder_types (struct_children now) ≡ field_types (fields_of (builder_type now))) × HasDistinctFieldNames (builder_type now)
coming-ready (flat t xs) now ps h = absurd (let k = h.kind in cc)
coming-ready (list large t rows c) now ps h = absurd (let k = h.kind in cc)
coming-ready (fixed_size_list t bits c) now ps h = absurd (let k = h.kind in cc)
coming-ready (dictionary i t keys c) now ps h = absurd (let k = h.kind in cc)
coming-ready (struct t bits cs) now ps h =
    let ds = struct_children now in
    let w = h.complete in (
      subst HasCompleteChildren (sym h.set) (fed-whole (fields_of t) ps cs ds (length bits) h.fed w.0),
      subst (λ b. builder_types ds ≡ field_types (fields_of (builder_type b))) (sym h.set) (fed-types (fields_of t) ps cs ds h.fed ∙ w.1),
      subst (λ b. HasDistinctFieldNames (builder_type b)) (sym h.set) h.distinct,
    )

-- a member more
pub record Next (old new : BuilderTree) (ps : List (Letters × Slot)) (k : Letters) (j : Json) (rest : Members) : Type 0 where
  pub fed : MembersAddedTo (fields_of (builder_type old)) (ps ++ (k, slot_of (type_named k (fields_of (builder_type old))) j) ∷ []) (struct_children old) (struct_children new)
  pub set : new ≡ over_children old (struct_children new)
  pub faults : members_error (fields_of (builder_type old)) (map (λ p. p.0) ps) (member k j rest)
      ≡ members_error (fields_of (builder_type old)) (map (λ p. p.0) (ps ++ (k, slot_of (type_named k (fields_of (builder_type old))) j) ∷ [])) rest

pub coming-next : (old now new : BuilderTree) (ps : List (Letters × Slot)) (k : Letters) (j : Json) (rest : Members) (n : ℕ) → Coming old now ps → n ≡ builder_len old → MemberAdded k j n now new → Next old new ps k j rest
coming-next (flat t xs) now new ps k j rest n h e f = absurd (let k = h.kind in cc)
coming-next (list large t rows c) now new ps k j rest n h e f = absurd (let k = h.kind in cc)
coming-next (fixed_size_list t bits c) now new ps k j rest n h e f = absurd (let k = h.kind in cc)
coming-next (dictionary i t keys c) now new ps k j rest n h e f = absurd (let k = h.kind in cc)
coming-next (struct t bits cs) now new ps k j rest n h e f =
    let ds = struct_children now in
    let g = subst (λ b. MemberAdded k j (length bits) b new) h.set (subst (λ m. MemberAdded k j m now new) e f) in
    let s = fed-step t bits cs ds ps h.records h.distinct h.complete h.fed k j new g in
    record { fed = s.0; set = s.1; faults = error-step t bits cs ds ps h.records h.distinct h.complete h.fed k j rest new g }

pub coming-stop : (old now : BuilderTree) (ps : List (Letters × Slot)) (k : Letters) (j : Json) (rest : Members) (n : ℕ) (r : PushError) → Coming old now ps → n ≡ builder_len old
    → IsPushError r (child_error (child_named k (fields_of (builder_type now)) (struct_children now)) n j) → IsPushError r (members_error (fields_of (builder_type old)) (map (λ p. p.0) ps) (member k j rest))
coming-stop (flat t xs) now ps k j rest n r h e f = absurd (let k = h.kind in cc)
coming-stop (list large t rows c) now ps k j rest n r h e f = absurd (let k = h.kind in cc)
coming-stop (fixed_size_list t bits c) now ps k j rest n r h e f = absurd (let k = h.kind in cc)
coming-stop (dictionary i t keys c) now ps k j rest n r h e f = absurd (let k = h.kind in cc)
coming-stop (struct t bits cs) now ps k j rest n r h e f =
    let ds = struct_children now in
    let g = subst (λ b. IsPushError r (child_error (child_named k (fields_of (builder_type b)) ds) n j)) h.set f in
    error-stop t bits cs ds ps h.records h.distinct h.complete h.fed k j rest r (subst (λ m. IsPushError r (child_error (child_named k (fields_of t) ds) m j)) e g)

pub coming-with_row : (old now : BuilderTree) (ps : List (Letters × Slot)) (es : BuilderTrees) (n : ℕ) → Coming old now ps → n ≡ builder_len old → NullsAdded n (struct_children now) es
    → HasCompleteChildren (with_children now es) × ((new : BuilderTree) → RowAdded true (with_children now es) new → SlotAdded (slots.record_of (field_slots (fields_of (builder_type old)) ps)) old new)
coming-with_row (flat t xs) now ps es n h e f = absurd (let k = h.kind in cc)
coming-with_row (list large t rows c) now ps es n h e f = absurd (let k = h.kind in cc)
coming-with_row (fixed_size_list t bits c) now ps es n h e f = absurd (let k = h.kind in cc)
coming-with_row (dictionary i t keys c) now ps es n h e f = absurd (let k = h.kind in cc)
coming-with_row (struct t bits cs) now ps es n h e f =
    let ds = struct_children now in
    let g = subst (λ m. NullsAdded m ds es) e f in
    let over : with_children now es ≡ struct t bits es = ap (λ b. with_children b es) h.set ∙ ap (struct t bits) (completed-over (length bits) ds es g) in (
      subst HasCompleteChildren (sym over) (completed-whole t bits cs ds ps h.records h.distinct h.complete h.fed es g),
      λ new with_row. completed-added t bits cs ds ps h.records h.distinct h.complete h.fed es new g (subst (λ b. RowAdded true b new) over with_row),
    )

pub coming-children : (old now : BuilderTree) (ps : List (Letters × Slot)) → Coming old now ps → AreEachComplete (struct_children now)
coming-children (flat t xs) now ps h = absurd (let k = h.kind in cc)
coming-children (list large t rows c) now ps h = absurd (let k = h.kind in cc)
coming-children (fixed_size_list t bits c) now ps h = absurd (let k = h.kind in cc)
coming-children (dictionary i t keys c) now ps h = absurd (let k = h.kind in cc)
coming-children (struct t bits cs) now ps h = let w = h.complete in fed-whole (fields_of t) ps cs (struct_children now) (length bits) h.fed w.0

pub some-len : (c d : BuilderTree) → Some c ≡ Some d → builder_len c ≡ builder_len d
some-len c d e = let p : c ≡ d = cc in ap builder_len p

pub error-object : (t : TypeTree) (ms : Members) → physical_type t ≡ physical.Struct → value_error t (json.object ms) ≡ members_error (fields_of t) [] ms
error-object t ms h = ap (λ p. object_error p (members_error (members_of t) [] ms)) (struct-lies t h) ∙ ap (λ fs. members_error fs [] ms) (struct-members t h)
