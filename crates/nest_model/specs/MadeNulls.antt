-- Results of functions that return an array of null slots or an empty array. The definitions are this library's own.
use Rattle.std.specs.Prelude.{◌≡◌, ◌⊎◌, ℕ, [], Option, Some, None, alloc_error}
use Rattle.nest_memory.specs.TypeTree.{TypeTree}
use Rattle.nest_memory.specs.Physical.{physical_type}
use Rattle.nest_memory.specs.declared.datatypes.physical_type.PhysicalType.{PhysicalType}
use Rattle.nest_memory.specs.declared.error.Error.{Error}
use Rattle.nest_memory.specs.declared.error.Error.TheVariants.{OutOfSpec, Memory}
use Rattle.nest_memory.specs.declared.error.SpecError.TheVariants as spec
use Rattle.nest_model.specs.Layout.{Layout, layout_type}
use Rattle.nest_model.specs.Meaning.{slots_of}
use Rattle.nest_model.specs.Nulls.{null_slots}
use Rattle.nest_model.specs.NullLayout.{null_layout, empty_layout}

-- The array has data type t, n null slots and exactly the parts of `null_layout`.
pub record HasNulls (t : TypeTree) (n : ℕ) (a : Layout) : Type 0 where
  pub same_type : layout_type a ≡ t
  pub slots : slots_of a ≡ null_slots t n
  pub parts : a ≡ null_layout t n

-- The array has data type t, no slots and exactly the parts of `empty_layout`.
pub record HasNone (t : TypeTree) (a : Layout) : Type 0 where
  pub same_type : layout_type a ≡ t
  pub slots : slots_of a ≡ []
  pub parts : a ≡ empty_layout t

-- The error e is that of the data type. If the data type has none, an allocation failed.
abbrev pub RefusesType : Error → Option Error → Type 0
RefusesType e first_error = (first_error ≡ Some e) ⊎ ((e ≡ Memory alloc_error) × (first_error ≡ None))

-- The data type is of this kind and has no error.
abbrev pub AcceptsKind : PhysicalType → TypeTree → Option Error → Type 0
AcceptsKind p t first_error = (physical_type t ≡ p) × (first_error ≡ None)

-- The error e is `WrongType` if the data type is of another kind.
-- Otherwise it is the data type's error. If the data type has none, an allocation failed.
abbrev pub RefusesKind : Error → PhysicalType → TypeTree → Option Error → Type 0
RefusesKind e p t first_error = ((e ≡ OutOfSpec spec.WrongType) × ¬ (physical_type t ≡ p)) ⊎ ((physical_type t ≡ p) × RefusesType e first_error)
