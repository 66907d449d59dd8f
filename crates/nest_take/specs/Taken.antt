-- The result of `take` and its errors.
use Rattle.std.specs.Prelude.{◌≡◌, ◌⊎◌, ◌++◌, ℕ, suc, ℤ, pos, List, [], ◌∷◌, Option, Some, alloc_error, get_or, length, unwrap_or}
use Rattle.nest_memory.specs.declared.error.Error.{Error}
use Rattle.nest_memory.specs.declared.error.Error.TheVariants.{Memory, Overflow}
use Rattle.nest_model.specs.Selected.{selected}
use Rattle.nest_memory.specs.TypeTree.{ids_of}
use Rattle.nest_model.specs.Accessors.{types_of}
use Rattle.nest_model.specs.Layout.{Layout, Layouts, union, no_layouts, more_layouts, layout_type}
use Rattle.nest_model.specs.Meaning.{len, slots_of}
use Rattle.nest_model.specs.Part.{field_named}
use Rattle.nest_take.specs.Limits.{PassesLimits, picks_of}
use Rattle.nest_take.specs.Indices.{AreBelow}

-- b has the slots of a at these indices, in that order, and the data type of a
pub record IsTaken (a : Layout) (is : List ℕ) (b : Layout) : Type 0 where
  pub slots : slots_of b ≡ selected (slots_of a) is
  pub same_type : layout_type b ≡ layout_type a

-- an allocation fails, or some array of the tree passes a limit
abbrev pub RefusesTake : Error → Layout → List ℕ → Type 0
RefusesTake e a is = (e ≡ Memory alloc_error) ⊎ ((e ≡ Overflow) × PassesLimits a is)

-- each child has a slot at each of these indices
abbrev pub EachReaches : Layouts → List ℕ → Type 0
EachReaches no_layouts is = Unit {0}
EachReaches (more_layouts c cs) is = AreBelow is (len c) × EachReaches cs is

-- ds are the children, each taken at these indices
abbrev pub EachTaken : Layouts → List ℕ → Layouts → Type 0
EachTaken no_layouts is no_layouts = Unit {0}
EachTaken no_layouts is (more_layouts d ds) = ⊥
EachTaken (more_layouts c cs) is no_layouts = ⊥
EachTaken (more_layouts c cs) is (more_layouts d ds) = IsTaken c is d × EachTaken cs is ds

-- ds are the children from field f on, each taken at the offsets that pick it
abbrev pub EachPicked : (ℕ → List ℕ) → ℕ → Layouts → Layouts → Type 0
EachPicked picks f no_layouts no_layouts = Unit {0}
EachPicked picks f no_layouts (more_layouts d ds) = ⊥
EachPicked picks f (more_layouts c cs) no_layouts = ⊥
EachPicked picks f (more_layouts c cs) (more_layouts d ds) = IsTaken c (picks f) d × EachPicked picks (suc f) cs ds

-- the offsets at which the slots of a dense union at these indices pick field f
abbrev pub pick_indices : Layout → ℕ → List ℕ → List ℕ
pick_indices (union t ks cs (Some os) start) f is = picks_of (ids_of t) ks os f is
pick_indices a f is = []

-- Union Layout: the field of slot i, from its type id
abbrev pub field_at : Layout → ℕ → Option ℕ
field_at a i = field_named (ids_of (layout_type a)) (get_or (types_of a) i (pos 0))

-- the new offset of each pick, after the picks at indices `before`: the number of earlier picks of its field
abbrev pub offsets_after : Layout → List ℕ → List ℕ → List ℤ
offsets_after a before [] = []
offsets_after a before (i ∷ is) = pos (length (pick_indices a (unwrap_or (field_at a i) 0) before)) ∷ offsets_after a (before ++ i ∷ []) is

abbrev pub offsets_in : Layout → List ℕ → List ℤ
offsets_in a is = offsets_after a [] is
