-- A scalar: a data type and one slot (this library's own).
use Rattle.std.specs.Prelude.{◌≡◌, Bool, true, false, ◌&&◌, List as Seq, [], ◌∷◌, refl}
use Rattle.std.specs.Bool.{Decides}
use Rattle.std.specs.Cmp.{IsEquivalence, and_equiv, on_equiv, first_so, second_so}
use Rattle.std.specs.Coded.{Coded, code_by, coded×}
use Rattle.nest_memory.specs.TypeCode.{coded_type}
use Rattle.nest_memory.specs.TypeEq.{same_type, same_type-decides, same_type-equiv}
use Rattle.nest_memory.specs.TypeTree.{TypeTree}
use Rattle.nest_model.specs.Layout.{Layouts, no_layouts, more_layouts, layout_type}
use Rattle.nest_model.specs.Slot.{Slot, Slots, pick, no_slots, more_slots}
use Rattle.nest_model.specs.SlotCode.{coded_slot, same_slot, same_slot-decides, same_slot-equiv}

pub record ScalarParts : Type 0 where
  pub data_type : TypeTree
  pub slot : Slot

abbrev pub scalar_parts : TypeTree → Slot → ScalarParts
scalar_parts t s = record { data_type = t; slot = s }

abbrev pub coded_scalar : Coded ScalarParts
coded_scalar =
    code_by (TypeTree × Slot) (coded× coded_type coded_slot) (λ p. (p.data_type, p.slot))
    (λ p. record { data_type = p.0; slot = p.1 }) (λ _. refl)

-- the slot is a pick of the scalar's data type and slot
abbrev pub IsPickOf : Slot → ScalarParts → Type 0
IsPickOf (pick f t s) p = p ≡ scalar_parts t s
IsPickOf s p = ⊥

-- two scalars are the same, and the test of it
abbrev pub IsSameScalar : ScalarParts → ScalarParts → Type 0
IsSameScalar p q = (p.data_type ≡ q.data_type) × (p.slot ≡ q.slot)

abbrev pub same_scalar : ScalarParts → ScalarParts → Bool
same_scalar p q = same_type p.data_type q.data_type && same_slot p.slot q.slot

both-true : (a b : Bool) → a ≡ true → b ≡ true → (a && b) ≡ true
both-true true b h k = k
both-true false b h k = h

pub same_scalar-decides : (p q : ScalarParts) → Decides (same_scalar p q) (IsSameScalar p q)
same_scalar-decides p q =
    let t = same_type p.data_type q.data_type in
    let s = same_slot p.slot q.slot in
    let ts = same_type-decides p.data_type q.data_type in
    let ss = same_slot-decides p.slot q.slot in
    (λ h. (ts.0 (first_so t s h), ss.0 (second_so t s h)), λ h. both-true t s (ts.1 h.0) (ss.1 h.1))

pub same_scalar-equiv : IsEquivalence same_scalar
same_scalar-equiv = and_equiv (on_equiv (λ p. p.data_type) same_type-equiv) (on_equiv (λ p. p.slot) same_slot-equiv)

-- the slots of several scalars, and their data types
abbrev pub slots_in : Seq ScalarParts → Slots
slots_in [] = no_slots
slots_in (p ∷ ps) = more_slots p.slot (slots_in ps)

abbrev pub types_in : Seq ScalarParts → Seq TypeTree
types_in [] = []
types_in (p ∷ ps) = p.data_type ∷ types_in ps

-- the data types of several arrays
abbrev pub child_types : Layouts → Seq TypeTree
child_types no_layouts = []
child_types (more_layouts c cs) = layout_type c ∷ child_types cs
