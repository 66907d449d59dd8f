-- Scalars of arrays, built one after another and part by part.
use Rattle.std.specs.Prelude.{List as Seq, [], ◌∷◌, Some, if◌then◌else◌}
use Rattle.std.proofs.Common.{◌≡◌, ℕ, suc, ◌+◌, ◌<◌, ◌≤◌, Bool, true, false, length, get_or, refl, ap, sym, ◌∙◌, subst, arith}
use Rattle.nest_memory.specs.Sublist.{sublist}
use Rattle.nest_memory.specs.Physical.{physical_type}
use Rattle.nest_memory.specs.TypeTree.{TypeTree, item_type, fields_of}
use Rattle.nest_memory.specs.declared.datatypes.physical_type.PhysicalType.TheVariants as physical
use Rattle.nest_memory.specs.declared.datatypes.physical_type.PrimitiveType.{PrimitiveType}
use Rattle.nest_model.specs.Accessors.{validity_of}
use Rattle.nest_model.specs.Facts.{IsStruct}
use Rattle.nest_model.specs.Layout.{Layout, Layouts, layout_type, field_types}
use Rattle.nest_model.specs.Meaning.{run, len, slot, each, slots_of}
use Rattle.nest_model.specs.Reads.{items-cut}
use Rattle.nest_model.specs.Slot as slots
use Rattle.nest_model.specs.Slot.{Slot, seal}
use Rattle.nest_array.specs.declared.any.AnyArray.{AnyArray}
use Rattle.nest_array.specs.ScalarParts.{IsPickOf, ScalarParts, scalar_parts, slots_in, types_in, child_types}
use Rattle.nest_array.specs.Seen.{layout_of, layouts_of}
use Rattle.nest_array.specs.SeenScalar.{shown_type}
use Rattle.nest_array.proofs.ShownTypes.{shown-native, shown-items, shown-fields, each-typed}

-- the scalar of slot i
abbrev pub scalar_at : AnyArray → ℕ → ScalarParts
scalar_at a i = scalar_parts (layout_type (layout_of a)) (slot (layout_of a) i)

pub made-slots : (ps : Seq ScalarParts) (xs : Seq AnyArray) (i : ℕ) → length ps ≡ length xs
    → ((k : ℕ) (d : ScalarParts) (e : AnyArray) → k < length xs → get_or ps k d ≡ scalar_at (get_or xs k e) i) → slots_in ps ≡ each (layouts_of xs) i
made-slots [] [] i l h = refl
made-slots [] (x ∷ xs) i l h = absurd (omega arith)
made-slots (p ∷ ps) [] i l h = absurd (omega arith)
made-slots (p ∷ ps) (x ∷ xs) i l h =
    let a : p ≡ scalar_at x i = h 0 p x (omega arith) in
    let b = made-slots ps xs i (omega arith) (λ k d e n. h (suc k) d e (omega arith)) in
    cc

pub made-types : (ps : Seq ScalarParts) (xs : Seq AnyArray) (i : ℕ) → length ps ≡ length xs
    → ((k : ℕ) (d : ScalarParts) (e : AnyArray) → k < length xs → get_or ps k d ≡ scalar_at (get_or xs k e) i) → types_in ps ≡ child_types (layouts_of xs)
made-types [] [] i l h = refl
made-types [] (x ∷ xs) i l h = absurd (omega arith)
made-types (p ∷ ps) [] i l h = absurd (omega arith)
made-types (p ∷ ps) (x ∷ xs) i l h =
    let a : p ≡ scalar_at x i = h 0 p x (omega arith) in
    let b = made-types ps xs i (omega arith) (λ k d e n. h (suc k) d e (omega arith)) in
    cc

-- a valid value is the slot
pub valid-shown : (b : Bool) (s t : Slot) → s ≡ (if b then t else slots.null) → (s ≡ slots.null → ⊥) → t ≡ s
valid-shown true s t e h = sym e
valid-shown false s t e h = absurd (h e)

-- a native value has the primitive type of its array
pub native-typed : (t : TypeTree) (k l : PrimitiveType) → physical_type t ≡ physical.Primitive k → l ≡ k → physical_type (shown_type t) ≡ physical.Primitive l
native-typed t k l h e = shown-native t k h ∙ ap physical.Primitive (sym e)

-- the items of a row, sliced from a copy of all items, represent the row's slot
pub items-spell : (c d e : Layout) (o n : ℕ) (s : Slot) → d ≡ c → slots_of e ≡ sublist (slots_of d) o n → o + n ≤ len c → slots.list (seal (run (slot c) o n)) ≡ s → slots.list (seal (slots_of e)) ≡ s
items-spell c d e o n s f g h k = ap (λ ss. slots.list (seal ss)) (g ∙ ap (λ x. sublist (slots_of x) o n) f ∙ sym (items-cut c o n h)) ∙ k

-- and have the item type of the lists
pub items-typed : (t : TypeTree) (c d e : Layout) → item_type t ≡ Some (layout_type c) → d ≡ c → layout_type e ≡ layout_type d → item_type (shown_type t) ≡ Some (layout_type e)
items-typed t c d e h f g = shown-items t (layout_type e) (h ∙ ap (λ x. Some x) (sym (g ∙ ap layout_type f)))

-- the scalars of a struct have the types of its fields
pub fields-typed : (a : Layout) (cs : Layouts) (ts : Seq TypeTree) → IsStruct (layout_type a) cs (validity_of a) → ts ≡ child_types cs → field_types (fields_of (shown_type (layout_type a))) ≡ ts
fields-typed a cs ts f e = ap field_types (shown-fields (layout_type a) f.typed) ∙ each-typed (fields_of (layout_type a)) cs f.each_type ∙ sym e

-- the scalar of a pick
pub pick-held : (f i : ℕ) (s : Slot) (c d : Layout) (p : ScalarParts) → s ≡ slots.pick f (layout_type c) (slot c i) → d ≡ c → p ≡ scalar_parts (layout_type d) (slot d i) → IsPickOf s p
pick-held f i s c d p e g h = subst (λ z. IsPickOf z p) (sym e) (h ∙ ap (λ x. scalar_parts (layout_type x) (slot x i)) g)

pub pick-spells : (f i : ℕ) (s : Slot) (c d : Layout) (p : ScalarParts) → s ≡ slots.pick f (layout_type c) (slot c i) → d ≡ c → p ≡ scalar_parts (layout_type d) (slot d i) → slots.pick f p.data_type p.slot ≡ s
pick-spells f i s c d p e g h = ap (λ q. slots.pick f q.data_type q.slot) h ∙ ap (λ x. slots.pick f (layout_type x) (slot x i)) g ∙ sym e
