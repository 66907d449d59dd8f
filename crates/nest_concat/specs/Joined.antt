-- The result of concatenating windows over arrays, and its errors.
use Rattle.std.specs.Prelude.{◌≡◌, ◌⊎◌, ◌+◌, ◌≤◌, ℕ, suc, Bool, IsTrue, List, [], ◌∷◌, map, alloc_error}
use Rattle.std.specs.List.{All, flat_map}
use Rattle.nest_memory.specs.TypeTree as types
use Rattle.nest_memory.specs.TypeTree.{TypeTree, logical_type}
use Rattle.nest_memory.specs.declared.error.Error.{Error}
use Rattle.nest_memory.specs.declared.error.Error.TheVariants.{InvalidArgumentError, Memory, Overflow}
use Rattle.nest_memory.specs.declared.error.ArgumentError.TheVariants.{ItemType}
use Rattle.nest_memory.specs.Physical.{physical_type}
use Rattle.nest_memory.specs.declared.datatypes.physical_type.PhysicalType.{PhysicalType}
use Rattle.nest_memory.specs.declared.datatypes.physical_type.PhysicalType.TheVariants as physical
use Rattle.nest_model.specs.Array.{TopFits}
use Rattle.nest_model.specs.Layout as layouts
use Rattle.nest_model.specs.Layout.{Layout, Layouts, no_layouts, more_layouts, layout_type}
use Rattle.nest_model.specs.Meaning.{len, slots_of}
use Rattle.nest_array.specs.Kinds.{IsKeyed}
use Rattle.nest_array.specs.WindowParts.{WindowParts, window_parts, window_slots}
use Rattle.nest_concat.specs.Limits.{PassesLength, PassesLimits, SomePasses}
use Rattle.nest_concat.specs.Lookups.{KeysPass, values_in}
use Rattle.nest_concat.specs.Windows.{field_window}

-- b has the slots of the windows, one window after another, and this data type
pub record IsJoined (t : TypeTree) (ws : List WindowParts) (b : Layout) : Type 0 where
  pub slots : slots_of b ≡ flat_map window_slots ws
  pub same_type : layout_type b ≡ t

-- the window is within an array of this data type, but for outer extension types
pub record IsWithin (t : TypeTree) (w : WindowParts) : Type 0 where
  pub is_array : TopFits w.array
  pub within : w.offset + w.count ≤ len w.array
  pub same_type : logical_type (layout_type w.array) ≡ logical_type t

-- each window is within such an array
abbrev pub AreWithin : TypeTree → List WindowParts → Type 0
AreWithin t ws = All (IsWithin t) ws

-- each window is over an array
abbrev pub AreArrays : List WindowParts → Type 0
AreArrays ws = All (λ w. TopFits w.array) ws

-- the array of the first window
abbrev pub first_array : List WindowParts → Layout
first_array [] = layouts.null types.null 0
first_array (w ∷ ws) = w.array

-- an allocation fails, or some array of the tree passes a limit
abbrev pub RefusesJoin : Error → Layout → List WindowParts → Type 0
RefusesJoin e a ws = (e ≡ Memory alloc_error) ⊎ ((e ≡ Overflow) × PassesLimits a ws)

-- ds are the children from field f on, each the concatenation of that field's windows
-- cs are the children of the first array
abbrev pub EachJoined : Layouts → ℕ → List WindowParts → Layouts → Type 0
EachJoined no_layouts f ws no_layouts = Unit {0}
EachJoined no_layouts f ws (more_layouts d ds) = ⊥
EachJoined (more_layouts c cs) f ws no_layouts = ⊥
EachJoined (more_layouts c cs) f ws (more_layouts d ds) = IsJoined (layout_type c) (map (field_window f) ws) d × EachJoined cs (suc f) ws ds

-- the same errors, for the children of the first array
abbrev pub RefusesEach : Error → Layouts → List WindowParts → Type 0
RefusesEach e cs ws = (e ≡ Memory alloc_error) ⊎ ((e ≡ Overflow) × SomePasses cs 0 ws)

-- the children are fields: a struct or union type
abbrev pub HasFields : TypeTree → Type 0
HasFields t = (physical_type t ≡ physical.Struct) ⊎ (physical_type t ≡ physical.Union)

-- each array has a data type of this physical type
abbrev pub AreOfKind : PhysicalType → List WindowParts → Type 0
AreOfKind p ws = All (λ w. physical_type (layout_type w.array) ≡ p) ws

-- each array is a dictionary
abbrev pub HaveKeys : List WindowParts → Type 0
HaveKeys ws = All (λ w. IsKeyed (physical_type (layout_type w.array))) ws

-- errors for keys: an allocation fails or, where keys move, a key is n or more or the values pass the largest length
abbrev pub RefusesKeys : Bool → Error → ℕ → List WindowParts → Type 0
RefusesKeys moved e n ws = (e ≡ Memory alloc_error) ⊎ ((e ≡ Overflow) × (IsTrue moved × (KeysPass n 0 ws ⊎ PassesLength (map values_in ws))))

-- the window over all slots of an array
abbrev pub whole : Layout → WindowParts
whole a = window_parts a 0 (len a)

-- there is an array, and all have the data type of the first
abbrev pub AreOfOneType : List Layout → Type 0
AreOfOneType [] = ⊥
AreOfOneType (a ∷ as_) = All (λ b. layout_type b ≡ layout_type a) as_

-- the data type of the first array
abbrev pub first_type : List Layout → TypeTree
first_type [] = types.null
first_type (a ∷ as_) = layout_type a

-- b has the slots of the arrays, one array after another, and the data type of the first
pub record IsConcatenated (as_ : List Layout) (b : Layout) : Type 0 where
  pub slots : slots_of b ≡ flat_map slots_of as_
  pub same_type : layout_type b ≡ first_type as_

-- there is no array or the data types differ, or the windows cannot be concatenated
abbrev pub RefusesConcatenate : Error → List Layout → Type 0
RefusesConcatenate e as_ = ((e ≡ InvalidArgumentError ItemType) × (AreOfOneType as_ → ⊥)) ⊎ RefusesJoin e (first_array (map whole as_)) (map whole as_)
