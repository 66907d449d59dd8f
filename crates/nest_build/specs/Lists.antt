-- The data types of list builders, and the errors of their constructors.
use Rattle.std.specs.Prelude.{List as Seq, ◌≡◌, ◌≢◌, ◌⊎◌, ℕ, ◌<◌, Bool, [], Some, alloc_error, if◌then◌else◌}
use Rattle.nest_memory.specs.TypeTree as types
use Rattle.nest_memory.specs.TypeTree.{TypeTree, FieldTree, item_type, size_of}
use Rattle.nest_memory.specs.Physical.{list_of_width, physical_type}
use Rattle.nest_memory.specs.declared.datatypes.physical_type.PhysicalType.TheVariants as physical
use Rattle.nest_memory.specs.declared.error.ArgumentError.TheVariants.{ChildNotEmpty}
use Rattle.nest_memory.specs.declared.error.Error.{Error}
use Rattle.nest_memory.specs.declared.error.Error.TheVariants.{InvalidArgumentError, Memory, OutOfSpec}
use Rattle.nest_memory.specs.declared.error.SpecError.TheVariants.{ChildType, WrongType, ZeroSize}
use Rattle.nest_model.specs.Checks.{Checks, done, check}
use Rattle.nest_array.specs.Types.{default_field}
use Rattle.nest_model.specs.BuilderRow.{Row}
use Rattle.nest_model.specs.BuilderTree.{BuilderTree, list, fixed_size_list, builder_len, builder_type}

-- the type of lists of such items, with 64-bit offsets if large
abbrev pub list_type : Bool → FieldTree → TypeTree
list_type large f = if large then types.large_list f else types.list f

-- no rows of such lists over a child
abbrev pub no_lists : Bool → FieldTree → BuilderTree → BuilderTree
no_lists large f c = list large (list_type large f) [] c

-- the builder of these rows over a child, of the default list type
abbrev pub default_lists : Bool → Seq Row → BuilderTree → BuilderTree
default_lists large rows c = list large (list_type large (default_field (builder_type c))) rows c

abbrev pub no_fixed_lists : FieldTree → ℕ → BuilderTree → BuilderTree
no_fixed_lists f size c = fixed_size_list (types.fixed_size_list f size) [] c

-- the error is ChildNotEmpty and the child has rows, or Memory; for fixed-size lists also ZeroSize and the size is 0
abbrev pub RefusesChild : BuilderTree → Error → Type 0
RefusesChild c e = (e ≡ Memory alloc_error) ⊎ ((e ≡ InvalidArgumentError ChildNotEmpty) × (builder_len c ≢ 0))

abbrev pub RefusesFixed : ℕ → BuilderTree → Error → Type 0
RefusesFixed size c e = (e ≡ Memory alloc_error) ⊎ (((e ≡ InvalidArgumentError ChildNotEmpty) × (builder_len c ≢ 0)) ⊎ ((e ≡ OutOfSpec ZeroSize) × (builder_len c ≡ 0) × (size ≡ 0)))

-- the data type is a list type of this width, with items of this type
abbrev pub list_type_checks : Bool → TypeTree → TypeTree → Checks
list_type_checks large t items =
    check (OutOfSpec WrongType) (physical_type t ≡ list_of_width large)
    (check (OutOfSpec ChildType) (item_type t ≡ Some items) done)

-- The checks of a new list builder: the child has no rows, and the data type is a list type for it.
abbrev pub new_list_checks : Bool → TypeTree → BuilderTree → Checks
new_list_checks large t c = check (InvalidArgumentError ChildNotEmpty) (builder_len c ≡ 0) (list_type_checks large t (builder_type c))

-- the same for fixed-size lists
abbrev pub fixed_type_checks : ℕ → TypeTree → TypeTree → Checks
fixed_type_checks size t items =
    check (OutOfSpec WrongType) ((physical_type t ≡ physical.FixedSizeList) × (size_of t ≡ size))
    (check (OutOfSpec ZeroSize) (0 < size)
    (check (OutOfSpec ChildType) (item_type t ≡ Some items) done))

abbrev pub new_fixed_checks : ℕ → TypeTree → BuilderTree → Checks
new_fixed_checks size t c = check (InvalidArgumentError ChildNotEmpty) (builder_len c ≡ 0) (fixed_type_checks size t (builder_type c))
