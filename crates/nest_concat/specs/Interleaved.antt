-- Slots of several arrays in any order.
use Rattle.std.specs.Prelude.{◌≡◌, ◌⊎◌, ℕ, ◌<◌, List, ◌∷◌, get_or, length, map}
use Rattle.std.specs.List.{All}
use Rattle.nest_memory.specs.TypeTree as types
use Rattle.nest_memory.specs.declared.error.Error.{Error}
use Rattle.nest_memory.specs.declared.error.Error.TheVariants.{InvalidArgumentError}
use Rattle.nest_memory.specs.declared.error.ArgumentError.TheVariants.{ItemType}
use Rattle.nest_model.specs.Layout as layouts
use Rattle.nest_model.specs.Layout.{Layout, layout_type}
use Rattle.nest_model.specs.Meaning.{len, slot, slots_of}
use Rattle.nest_model.specs.Slot.{Slot}
use Rattle.nest_array.specs.WindowParts.{WindowParts, window_parts}
use Rattle.nest_concat.specs.Joined.{AreOfOneType, RefusesJoin, first_type}

abbrev pub array_at : List Layout → ℕ → Layout
array_at as_ k = get_or as_ k (layouts.null types.null 0)

-- p is the index of an array and the index of a slot in it
abbrev pub IsIndexOf : List Layout → ℕ × ℕ → Type 0
IsIndexOf as_ p = (p.0 < length as_) × (p.1 < len (array_at as_ p.0))

abbrev pub AreIndicesOf : List Layout → List (ℕ × ℕ) → Type 0
AreIndicesOf as_ ps = All (IsIndexOf as_) ps

abbrev pub slot_of : List Layout → ℕ × ℕ → Slot
slot_of as_ p = slot (array_at as_ p.0) p.1

-- b has the slots at these indices, in that order, and the data type of the first array
pub record IsInterleaved (as_ : List Layout) (ps : List (ℕ × ℕ)) (b : Layout) : Type 0 where
  pub slots : slots_of b ≡ map (slot_of as_) ps
  pub same_type : layout_type b ≡ first_type as_

-- the window over the slot at p; an empty window over the first array, followed by the windows over the slots
abbrev pub slot_window : List Layout → ℕ × ℕ → WindowParts
slot_window as_ p = window_parts (array_at as_ p.0) p.1 1

abbrev pub slot_windows : List Layout → List (ℕ × ℕ) → List WindowParts
slot_windows as_ ps = window_parts (array_at as_ 0) 0 0 ∷ map (slot_window as_) ps

-- there is no array or the data types differ, or those windows cannot be concatenated
abbrev pub RefusesInterleave : Error → List Layout → List (ℕ × ℕ) → Type 0
RefusesInterleave e as_ ps = ((e ≡ InvalidArgumentError ItemType) × (AreOfOneType as_ → ⊥)) ⊎ RefusesJoin e (array_at as_ 0) (slot_windows as_ ps)
