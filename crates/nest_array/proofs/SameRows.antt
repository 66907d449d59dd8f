-- Equality of rows and of structs.
use Rattle.std.specs.Prelude.{◌↔◌, ◌⊎◌, IsTrue, Some, not, if◌then◌else◌, List as Seq, [], ◌∷◌}
use Rattle.std.proofs.Common.{◌≡◌, ℕ, zero, suc, ◌+◌, ◌<◌, ◌≤◌, Bool, true, false, length, refl, ap, sym, ◌∙◌, subst, inl, inr, arith}
use Rattle.nest_memory.specs.TypeTree.{TypeTree, FieldTrees, no_fields, more_fields, fields_of, logical_type}
use Rattle.nest_model.specs.Accessors.{children_of, validity_of}
use Rattle.nest_model.specs.Array.{TopFits}
use Rattle.nest_model.specs.Facts.{IsStruct}
use Rattle.nest_model.specs.FactLaws.{struct-facts}
use Rattle.nest_model.specs.Fits.{EachType, EachCovers}
use Rattle.nest_model.specs.Layout.{Layout, Layouts, struct, no_layouts, more_layouts, layout_type, weight_all}
use Rattle.nest_model.specs.Meaning.{run, len, first_len, slot, each, slots_of}
use Rattle.nest_model.specs.Nullness.{is_null_at}
use Rattle.nest_model.specs.Part.{Validity, valid_at}
use Rattle.nest_model.specs.Reads.{slots-length, items-cut}
use Rattle.nest_model.specs.Runs.{length-run, length-cut, run-ext}
use Rattle.nest_model.specs.Slot as slots
use Rattle.nest_model.specs.Slot.{Slot, Slots, seal, node_count, node_counts, count_within}
use Rattle.nest_model.specs.SlotLaws.{seal-one, count_within-seal}
use Rattle.nest_flat.specs.SameRuns.{same-at}
use Rattle.nest_array.specs.declared.any.AnyArray.{AnyArray}
use Rattle.nest_array.specs.RowSlots.{SameTypes, SameChildren, EachValid, children_nodes, row_slot}
use Rattle.nest_array.specs.Seen.{layout_of, layouts_of}
use Rattle.nest_array.specs.WindowParts.{WindowParts, window_slots}
use Rattle.nest_array.proofs.Children.{covers}
use Rattle.nest_array.proofs.Counts.{nodes-more}
use Rattle.nest_array.proofs.LogicalTypes.{same-fields}

-- equal lists have equal items
list-one : (xs ys : Slots) → slots.list xs ≡ slots.list ys → xs ≡ ys
list-one xs ys e = cc

pub lists-same : (xs ys : Seq Slot) (r : Bool) → (IsTrue r ↔ (xs ≡ ys)) → IsTrue r ↔ (slots.list (seal xs) ≡ slots.list (seal ys))
lists-same xs ys r h = (λ t. ap (λ ss. slots.list (seal ss)) (h.0 t), λ e. h.1 (seal-one xs ys (list-one (seal xs) (seal ys) e)))

-- and equally many
pub lists-differ : (f g : ℕ → Slot) (o n p m : ℕ) → (n ≡ m → ⊥) → IsTrue false ↔ (slots.list (seal (run f o n)) ≡ slots.list (seal (run g p m)))
lists-differ f g o n p m d =
    (λ t. cc, λ e. absurd (d (sym (length-run f o n) ∙ ap length (seal-one (run f o n) (run g p m) (list-one _ _ e)) ∙ length-run g p m)))

pub row-nodes : (c : Layout) (o n : ℕ) → node_count (row_slot c (Some (o, n))) ≡ 1 + node_counts (run (slot c) o n)
row-nodes c o n = ap (λ m. 1 + m) (count_within-seal (run (slot c) o n))

-- children of the same fields have the same data types
pub types-same : (fs : FieldTrees) (cs ds : Layouts) → EachType fs cs → EachType fs ds → SameTypes cs ds
types-same no_fields no_layouts no_layouts a b = tt
types-same no_fields (more_layouts c cs) ds a b = absurd a
types-same no_fields no_layouts (more_layouts d ds) a b = absurd b
types-same (more_fields f fs) no_layouts ds a b = absurd a
types-same (more_fields f fs) (more_layouts c cs) no_layouts a b = absurd b
types-same (more_fields f fs) (more_layouts c cs) (more_layouts d ds) a b = (a.0 ∙ sym b.0, types-same fs cs ds a.1 b.1)

-- structs of children with equal runs are equal at each index
first-one : (s t : Slot) (x y : Slots) → slots.more_slots s x ≡ slots.more_slots t y → s ≡ t
first-one s t x y e = cc

rest-one : (s t : Slot) (x y : Slots) → slots.more_slots s x ≡ slots.more_slots t y → x ≡ y
rest-one s t x y e = cc

pub same-each : (cs ds : Layouts) (o p n i : ℕ) → SameChildren cs o ds p n → i < n → each cs (o + i) ≡ each ds (p + i)
same-each no_layouts no_layouts o p n i h k = refl
same-each no_layouts (more_layouts d ds) o p n i h k = absurd h
same-each (more_layouts c cs) no_layouts o p n i h k = absurd h
same-each (more_layouts c cs) (more_layouts d ds) o p n i h k =
    let a = same-at (slot c) (slot d) o p n i h.0 k in
    let b = same-each cs ds o p n i h.1 k in
    λ w. slots.more_slots (a w) (b w)

pub each-same : (cs ds : Layouts) (o p n : ℕ) → SameTypes cs ds → ((i : ℕ) → i < n → each cs (o + i) ≡ each ds (p + i)) → SameChildren cs o ds p n
each-same no_layouts no_layouts o p n t h = tt
each-same no_layouts (more_layouts d ds) o p n t h = absurd t
each-same (more_layouts c cs) no_layouts o p n t h = absurd t
each-same (more_layouts c cs) (more_layouts d ds) o p n t h = (
  run-ext (slot c) (slot d) o p n (λ i k. first-one _ _ _ _ (h i k)),
  each-same cs ds o p n t.1 (λ i k. rest-one _ _ _ _ (h i k)),
)

record-one : (x y : Slots) → slots.record_of x ≡ slots.record_of y → x ≡ y
record-one x y e = cc

-- runs of valid structs are equal exactly if those of their children are
pub records-same : (f g : ℕ → Slot) (cs ds : Layouts) (o p n : ℕ) (r : Bool) → ((i : ℕ) → i < n → f (o + i) ≡ slots.record_of (each cs (o + i))) → ((i : ℕ) → i < n → g (p + i) ≡ slots.record_of (each ds (p + i)))
    → SameTypes cs ds → (IsTrue r ↔ SameChildren cs o ds p n) → IsTrue r ↔ (run f o n ≡ run g p n)
records-same f g cs ds o p n r a b t h = (
  λ u. run-ext f g o p n (λ i k. a i k ∙ ap slots.record_of (same-each cs ds o p n i (h.0 u) k) ∙ sym (b i k)),
  λ e. h.1 (each-same cs ds o p n t (λ i k. record-one _ _ (sym (a i k) ∙ same-at f g o p n i e k ∙ b i k))),
)

-- the same for one struct
pub record-same : (s q : Slot) (cs ds : Layouts) (i j : ℕ) (r : Bool) → s ≡ slots.record_of (each cs i) → q ≡ slots.record_of (each ds j)
    → SameTypes cs ds → (IsTrue r ↔ SameChildren cs i ds j 1) → IsTrue r ↔ (s ≡ q)
record-same s q cs ds i j r a b t h =
    let x : i ≡ i + 0 = omega arith in
    let y : j ≡ j + 0 = omega arith in (
      λ u. a ∙ ap (λ m. slots.record_of (each cs m)) x ∙ ap slots.record_of (same-each cs ds i j 1 0 (h.0 u) (omega arith)) ∙ sym (ap (λ m. slots.record_of (each ds m)) y) ∙ sym b,
      λ e. h.1 (each-same cs ds i j 1 t (λ k l.
          let z : k ≡ 0 = omega arith in
          ap (λ m. each cs (i + m)) z ∙ sym (ap (each cs) x) ∙ record-one _ _ (sym a ∙ e ∙ b) ∙ ap (each ds) y ∙ sym (ap (λ m. each ds (j + m)) z))),
    )

-- properties of the children of a struct array
pub struct-known : (a : Layout) (cs : Layouts) → TopFits a → a ≡ struct (layout_type a) (children_of a) (validity_of a) → cs ≡ children_of a → IsStruct (layout_type a) cs (validity_of a)
struct-known a cs h e f = subst (λ ds. IsStruct (layout_type a) ds (validity_of a)) (sym f) (struct-facts (layout_type a) (children_of a) (validity_of a) (subst TopFits e h))

pub children-typed : (t u : TypeTree) (cs ds : Layouts) (va wa : Validity) → IsStruct t cs va → IsStruct u ds wa → logical_type t ≡ logical_type u → SameTypes cs ds
children-typed t u cs ds va wa f g e = types-same (fields_of u) cs ds (subst (λ fs. EachType fs cs) (same-fields t u e) f.each_type) g.each_type

pub children-cover : (a : Layout) (cs : Layouts) (k : ℕ) → IsStruct (layout_type a) cs (validity_of a) → a ≡ struct (layout_type a) (children_of a) (validity_of a) → cs ≡ children_of a → k ≤ len a → EachCovers cs k
children-cover a cs k f e g h = covers cs (first_len cs) k f.each_len (omega (arith, h, ap len e, ap first_len g))

-- a valid struct has the slots of its children
shown : (b : Bool) (s : Slot) → not b ≡ false → (if b then s else slots.null) ≡ s
shown true s h = refl
shown false s h = cc

pub record-shown : (a : Layout) (cs : Layouts) (i : ℕ) (r : Bool) → a ≡ struct (layout_type a) (children_of a) (validity_of a) → cs ≡ children_of a → r ≡ is_null_at a i → r ≡ false → slot a i ≡ slots.record_of (each cs i)
record-shown a cs i r e f p q =
    ap (λ b. slot b i) e
    ∙ shown (valid_at (validity_of a) i) (slots.record_of (each (children_of a) i)) (sym (ap (λ b. is_null_at b i) e) ∙ sym p ∙ q)
    ∙ ap (λ ds. slots.record_of (each ds i)) (sym f)

shown-valid : (b : Bool) (s : Slot) → b ≡ true → (if b then s else slots.null) ≡ s
shown-valid true s h = refl
shown-valid false s h = cc

pub records-shown : (a : Layout) (cs : Layouts) (o n i : ℕ) → a ≡ struct (layout_type a) (children_of a) (validity_of a) → cs ≡ children_of a → EachValid (validity_of a) o n → i < n → slot a (o + i) ≡ slots.record_of (each cs (o + i))
records-shown a cs o n i e f v h =
    ap (λ b. slot b (o + i)) e
    ∙ shown-valid (valid_at (validity_of a) (o + i)) (slots.record_of (each (children_of a) (o + i))) (v i h)
    ∙ ap (λ ds. slots.record_of (each ds (o + i))) (sym f)

-- the node count of structs is one each and that of the children
children-more : (cs : Layouts) (o k : ℕ) → children_nodes cs o (k + 1) ≡ children_nodes cs o k + count_within (each cs (o + k))
children-more no_layouts o k = refl
children-more (more_layouts c cs) o k = let a = nodes-more (slot c) o k in let b = children-more cs o k in omega arith

children-none : (cs : Layouts) (o : ℕ) → children_nodes cs o 0 ≡ 0
children-none no_layouts o = refl
children-none (more_layouts c cs) o = let a = children-none cs o in omega arith

pub records-nodes : (f : ℕ → Slot) (cs : Layouts) (o n k : ℕ) → ((i : ℕ) → i < n → f (o + i) ≡ slots.record_of (each cs (o + i))) → k ≤ n → node_counts (run f o k) ≡ k + children_nodes cs o k
records-nodes f cs o n zero h l = let a = children-none cs o in omega arith
records-nodes f cs o n (suc k) h l =
    let i = records-nodes f cs o n k h (omega arith) in
    let a = nodes-more f o k in
    let b = children-more cs o k in
    let d = ap node_count (h k (omega arith)) in
    let z : k + 1 ≡ suc k = omega arith in
    let x = ap (λ m. node_counts (run f o m)) z in
    let y = ap (λ m. children_nodes cs o m) z in
    omega arith

pub record-nodes : (s : Slot) (cs : Layouts) (i : ℕ) → s ≡ slots.record_of (each cs i) → node_count s ≡ 1 + children_nodes cs i 1
record-nodes s cs i e =
    let a = children-more cs i 0 in
    let b = children-none cs i in
    let z : i + 0 ≡ i = omega arith in
    let y = ap (λ m. count_within (each cs m)) z in
    let x = ap node_count e in
    let w : 0 + 1 ≡ 1 = omega arith in
    let v = ap (children_nodes cs i) w in
    omega arith

-- children left to compare, where those before are equal
pub record Left (xs ys zs ws : Seq AnyArray) (o p n : ℕ) : Type 0 where
  pub same_types : SameTypes (layouts_of zs) (layouts_of ws)
  pub within : EachCovers (layouts_of zs) (o + n)
  pub other_within : EachCovers (layouts_of ws) (p + n)
  pub fewer : weight_all (layouts_of zs) ≤ weight_all (layouts_of xs)
  pub same : SameChildren (layouts_of xs) o (layouts_of ys) p n ↔ SameChildren (layouts_of zs) o (layouts_of ws) p n

pub left-all : (xs ys zs ws : Seq AnyArray) (o p n : ℕ) → zs ≡ xs → ws ≡ ys → SameTypes (layouts_of xs) (layouts_of ys) → EachCovers (layouts_of xs) (o + n) → EachCovers (layouts_of ys) (p + n) → Left xs ys zs ws o p n
left-all xs ys zs ws o p n e f t h k =
    let all : Left xs ys xs ys o p n = record { same_types = t; within = h; other_within = k; fewer = omega arith; same = (λ s. s, λ s. s) } in
    subst (λ us. Left xs ys us ws o p n) (sym e) (subst (λ us. Left xs ys xs us o p n) (sym f) all)

pub left-first : (xs ys zs ws us vs : Seq AnyArray) (x y : AnyArray) (o p n : ℕ) → zs ≡ x ∷ us → ws ≡ y ∷ vs → Left xs ys zs ws o p n → Left xs ys (x ∷ us) (y ∷ vs) o p n
left-first xs ys zs ws us vs x y o p n e f h = subst (λ ts. Left xs ys ts (y ∷ vs) o p n) e (subst (λ ts. Left xs ys zs ts o p n) f h)

pub left-rest : (xs ys us vs : Seq AnyArray) (x y : AnyArray) (o p n : ℕ) → run (slot (layout_of x)) o n ≡ run (slot (layout_of y)) p n → Left xs ys (x ∷ us) (y ∷ vs) o p n → Left xs ys us vs o p n
left-rest xs ys us vs x y o p n e h =
    record {
      same_types = h.same_types.1;
      within = h.within.1;
      other_within = h.other_within.1;
      fewer = omega (arith, h.fewer);
      same = (λ s. (h.same.0 s).1, λ s. h.same.1 (e, s));
    }

pub none-left : (zs ws : Seq AnyArray) (o p n : ℕ) → SameTypes (layouts_of zs) (layouts_of ws) → (length zs ≡ 0) ⊎ (length ws ≡ 0) → SameChildren (layouts_of zs) o (layouts_of ws) p n
none-left [] [] o p n t e = tt
none-left [] (w ∷ ws) o p n t e = absurd t
none-left (z ∷ zs) [] o p n t e = absurd t
none-left (z ∷ zs) (w ∷ ws) o p n t (inl e) = absurd (omega arith)
none-left (z ∷ zs) (w ∷ ws) o p n t (inr e) = absurd (omega arith)

-- the slots of a window as a run of its array
pub window-run : (w : WindowParts) (a : Layout) (o n : ℕ) → a ≡ w.array → o ≡ w.offset → n ≡ w.count → w.offset + w.count ≤ len w.array → run (slot a) o n ≡ window_slots w
window-run w a o n e f g h = (λ i. run (slot (e i)) (f i) (g i)) ∙ items-cut w.array w.offset w.count h

pub windows-length : (v w : WindowParts) → v.offset + v.count ≤ len v.array → w.offset + w.count ≤ len w.array → window_slots v ≡ window_slots w → v.count ≡ w.count
windows-length v w h k e =
    let a = length-cut (slots_of v.array) v.offset v.count (omega (arith, h, slots-length v.array)) in
    let b = length-cut (slots_of w.array) w.offset w.count (omega (arith, k, slots-length w.array)) in
    sym a ∙ ap length e ∙ b
