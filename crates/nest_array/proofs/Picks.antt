-- The slots that a union selects.
use Rattle.std.specs.Prelude.{◌↔◌, IsTrue, Option, Some, List as Seq, [], ◌∷◌}
use Rattle.std.proofs.Common.{◌≡◌, ℕ, zero, suc, ◌+◌, ◌<◌, ◌≤◌, ℤ, pos, Bool, false, length, get_or, refl, ap, sym, ◌∙◌, subst, arith}
use Rattle.nest_memory.specs.TypeTree.{TypeTree, fields_of, ids_of}
use Rattle.nest_model.specs.Accessors.{child_at, children_of, start_of, types_of, union_offsets_of}
use Rattle.nest_model.specs.Array.{TopFits}
use Rattle.nest_model.specs.Facts.{IsUnion}
use Rattle.nest_model.specs.FactLaws.{union-facts}
use Rattle.nest_model.specs.Fits.{EachType}
use Rattle.nest_model.specs.Layout.{Layout, Layouts, no_layouts, more_layouts, union, layout_type, count_layouts, weight, weight_all}
use Rattle.nest_model.specs.Meaning.{len, run, slot, union_index}
use Rattle.nest_model.specs.Nullness.{has_keys, is_null_at}
use Rattle.nest_model.specs.NullnessLaws.{slot-null_at}
use Rattle.nest_model.specs.Part.{field_named}
use Rattle.nest_model.specs.Reads.{union-slot, slot-place}
use Rattle.nest_model.specs.Slot as slots
use Rattle.nest_model.specs.Slot.{Slot, node_count, node_counts}
use Rattle.nest_flat.specs.SameRuns.{same-at}
use Rattle.nest_array.specs.declared.any.AnyArray.{AnyArray}
use Rattle.nest_array.specs.RowSlots.{Alike, SameTypes}
use Rattle.nest_array.specs.Seen.{layout_of, layouts_of}
use Rattle.nest_array.proofs.Children.{layouts-count, weight-at}
use Rattle.nest_array.proofs.Counts.{nodes-one}
use Rattle.nest_array.proofs.LogicalTypes.{same-fields}
use Rattle.nest_array.proofs.SameRows.{types-same}

-- a union, by its parts
abbrev pub IsUnionOf : Layout → Type 0
IsUnionOf a = a ≡ union (layout_type a) (types_of a) (children_of a) (union_offsets_of a) (start_of a)

-- one of several fields
pub child_at-layouts : (xs : Seq AnyArray) (f : ℕ) (d : AnyArray) → f < length xs → child_at (layouts_of xs) f ≡ layout_of (get_or xs f d)
child_at-layouts [] f d h = absurd (omega arith)
child_at-layouts (x ∷ xs) zero d h = refl
child_at-layouts (x ∷ xs) (suc f) d h = child_at-layouts xs f d (omega arith)

pub child-there : (xs : Seq AnyArray) (cs : Layouts) (f : ℕ) (x : AnyArray) → layouts_of xs ≡ cs → f < count_layouts cs → x ≡ get_or xs f x → child_at cs f ≡ layout_of x
child-there xs cs f x e h i =
    let n = layouts-count xs in
    let m = ap count_layouts e in
    ap (λ ds. child_at ds f) (sym e) ∙ child_at-layouts xs f x (omega (arith, n, m, h)) ∙ ap layout_of (sym i)

pub child-lighter : (a : Layout) (xs : Seq AnyArray) (f : ℕ) (x : AnyArray) → IsUnionOf a → layouts_of xs ≡ children_of a → f < count_layouts (children_of a) → x ≡ get_or xs f x
    → weight (layout_of x) + 2 ≤ weight a
child-lighter a xs f x u e h i =
    let n = layouts-count xs in
    let m = ap count_layouts e in
    let v = ap weight_all e in
    let w = ap weight u in
    let k = ap (λ b. weight (layout_of b)) i in
    let l = weight-at xs f x (omega (arith, n, m, h)) in
    omega (arith, v, w, k, l)

-- slot i selects field f
pub record PicksField (a : Layout) (i f : ℕ) : Type 0 where
  pub field_there : f < count_layouts (children_of a)
  pub slot_there : union_index (union_offsets_of a) (start_of a) i < len (child_at (children_of a) f)
  pub picks : slot a i ≡ slots.pick f (layout_type (child_at (children_of a) f)) (slot (child_at (children_of a) f) (union_index (union_offsets_of a) (start_of a) i))

some-one : (f g : ℕ) → Some f ≡ Some g → f ≡ g
some-one f g e = cc

union-picks : (t : TypeTree) (ks : Seq ℤ) (cs : Layouts) (os : Option (Seq ℤ)) (start i f : ℕ) → TopFits (union t ks cs os start) → i < length ks
    → field_named (ids_of t) (get_or ks i (pos 0)) ≡ Some f → PicksField (union t ks cs os start) i f
union-picks t ks cs os start i f h k e =
    let p = union-slot t ks cs os start i h k in
    let q : p.0 ≡ f = some-one p.0 f (sym p.1.means ∙ e) in
    let c = child_at cs p.0 in
    let there = slot-place c (union_index os start i) slots.null p.1.slot_there in
    let x : PicksField (union t ks cs os start) i p.0 = record { field_there = p.1.field_there; slot_there = p.1.slot_there; picks = p.1.picks ∙ ap (slots.pick p.0 (layout_type c)) there } in
    subst (PicksField (union t ks cs os start) i) q x

pub picks-field : (a : Layout) (i f : ℕ) → TopFits a → IsUnionOf a → i < len a → field_named (ids_of (layout_type a)) (get_or (types_of a) i (pos 0)) ≡ Some f → PicksField a i f
picks-field a i f h u k e =
    let l = ap len u in
    subst (λ b. PicksField b i f) (sym u) (union-picks (layout_type a) (types_of a) (children_of a) (union_offsets_of a) (start_of a) i f (subst TopFits u h) (omega (arith, l, k)) e)

-- so none of its slots is null
pub never-null : (a : Layout) (i : ℕ) → TopFits a → IsUnionOf a → i < len a → slot a i ≡ slots.null → ⊥
never-null a i h u k e =
    let n = slot-null_at a i h k (ap has_keys u) e in
    let m : is_null_at a i ≡ false = ap (λ b. is_null_at b i) u in
    cc

-- the fields of unions of one data type have the same types
type-at : (cs ds : Layouts) (f : ℕ) → SameTypes cs ds → f < count_layouts cs → layout_type (child_at cs f) ≡ layout_type (child_at ds f)
type-at no_layouts ds f h k = absurd (omega arith)
type-at (more_layouts c cs) no_layouts f h k = absurd h
type-at (more_layouts c cs) (more_layouts d ds) zero h k = h.0
type-at (more_layouts c cs) (more_layouts d ds) (suc f) h k = type-at cs ds f h.1 (omega arith)

facts-of : (a : Layout) → TopFits a → IsUnionOf a → IsUnion (layout_type a) (types_of a) (children_of a) (union_offsets_of a) (start_of a)
facts-of a h u = union-facts (layout_type a) (types_of a) (children_of a) (union_offsets_of a) (start_of a) (subst TopFits u h)

pub field-types : (a b : Layout) (f : ℕ) → TopFits a → IsUnionOf a → TopFits b → IsUnionOf b → Alike a b → f < count_layouts (children_of a)
    → layout_type (child_at (children_of a) f) ≡ layout_type (child_at (children_of b) f)
field-types a b f h u k v e g =
    let x = facts-of a h u in
    let y = facts-of b k v in
    let s = types-same (fields_of (layout_type b)) (children_of a) (children_of b) (subst (λ fs. EachType fs (children_of a)) (same-fields (layout_type a) (layout_type b) e) x.each_type) y.each_type in
    type-at (children_of a) (children_of b) f s g

-- picks of different fields differ
pick-field : (f g : ℕ) (t u : TypeTree) (s q : Slot) → slots.pick f t s ≡ slots.pick g u q → f ≡ g
pick-field f g t u s q e = cc

pick-slot : (f g : ℕ) (t u : TypeTree) (s q : Slot) → slots.pick f t s ≡ slots.pick g u q → s ≡ q
pick-slot f g t u s q e = cc

pub picks-differ : (a b : Layout) (i j f g : ℕ) → PicksField a i f → PicksField b j g → (f ≡ g → ⊥) → IsTrue false ↔ (slot a i ≡ slot b j)
picks-differ a b i j f g p q n = (λ t. cc, λ e. absurd (n (pick-field f g _ _ _ _ (sym p.picks ∙ e ∙ q.picks))))

-- picks of one field are equal if their slots are
run-one : (s q : ℕ → Slot) (i j : ℕ) (r : Bool) → (IsTrue r ↔ (run s i 1 ≡ run q j 1)) → IsTrue r ↔ (s i ≡ q j)
run-one s q i j r h =
    let x : i + 0 ≡ i = omega arith in
    let y : j + 0 ≡ j = omega arith in (
      λ t. sym (ap s x) ∙ same-at s q i j 1 0 (h.0 t) (omega arith) ∙ ap q y,
      λ e. h.1 (ap (λ (z : Slot). z ∷ []) e),
    )

pub picks-same : (a b : Layout) (i j f g : ℕ) (c d : Layout) (m n : ℕ) (r : Bool) → PicksField a i f → PicksField b j g → f ≡ g → layout_type (child_at (children_of a) f) ≡ layout_type (child_at (children_of b) g)
    → child_at (children_of a) f ≡ c → child_at (children_of b) g ≡ d → m ≡ union_index (union_offsets_of a) (start_of a) i → n ≡ union_index (union_offsets_of b) (start_of b) j
    → (IsTrue r ↔ (run (slot c) m 1 ≡ run (slot d) n 1)) → IsTrue r ↔ (slot a i ≡ slot b j)
picks-same a b i j f g c d m n r p q e t x y u v h =
    let k = run-one (slot c) (slot d) m n r h in
    let left : slot (child_at (children_of a) f) (union_index (union_offsets_of a) (start_of a) i) ≡ slot c m = λ w. slot (x w) (sym u w) in
    let right : slot (child_at (children_of b) g) (union_index (union_offsets_of b) (start_of b) j) ≡ slot d n = λ w. slot (y w) (sym v w) in (
      λ s. p.picks ∙ (λ w. slots.pick (e w) (t w) ((left ∙ k.0 s ∙ sym right) w)) ∙ sym q.picks,
      λ s. k.1 (sym left ∙ pick-slot f g _ _ _ _ (sym p.picks ∙ s ∙ q.picks) ∙ right),
    )

-- the node count of a pick is one more than that of its slot
pub pick-nodes : (a : Layout) (i f : ℕ) (c : Layout) (m : ℕ) → PicksField a i f → child_at (children_of a) f ≡ c → m ≡ union_index (union_offsets_of a) (start_of a) i → node_count (slot a i) ≡ 1 + node_counts (run (slot c) m 1)
pick-nodes a i f c m p x u =
    let e : slot (child_at (children_of a) f) (union_index (union_offsets_of a) (start_of a) i) ≡ slot c m = λ w. slot (x w) (sym u w) in
    let n = ap node_count e in
    let o = nodes-one (slot c) m in
    let q = ap node_count p.picks in
    omega (arith, n, o, q)
