-- The errors of the constructors of list, dictionary and struct builders, and the parts of these builders.
use Rattle.std.specs.Prelude.{◌≡◌, ◌⊎◌, ◌<◌, ◌≤◌, ℕ, suc, Bool, true, false, IsTrue, List as Seq, [], Option, None, Some}
use Rattle.nest_memory.specs.TypeTree.{TypeTree, count_fields, fields_of, item_type, key_type, size_of, value_type}
use Rattle.nest_memory.specs.declared.datatypes.IntegerType.{IntegerType}
use Rattle.nest_memory.specs.Physical.{list_of_width, physical_type}
use Rattle.nest_memory.specs.declared.datatypes.physical_type.PhysicalType.{PhysicalType}
use Rattle.nest_memory.specs.declared.datatypes.physical_type.PhysicalType.TheVariants as physical
use Rattle.nest_memory.specs.declared.error.ArgumentError.TheVariants.{ChildNotEmpty}
use Rattle.nest_memory.specs.declared.error.Error.TheVariants.{InvalidArgumentError, OutOfSpec}
use Rattle.nest_memory.specs.declared.error.SpecError.TheVariants.{ChildLength, ChildType, FieldCount, NoFields, ValidityLength, WrongType, ZeroSize}
use Rattle.nest_model.specs.Checks.{Checks, done, check}
use Rattle.nest_model.specs.Part.{Validity}
use Rattle.nest_model.specs.Fits.{IsLogically, ValidityFits}
use Rattle.nest_model.specs.Layout.{Layouts, no_layouts, more_layouts, layout_type, field_types}
use Rattle.nest_model.specs.Meaning.{slots_of}
use Rattle.nest_model.specs.BuilderFreeze.{EncodesBits}
use Rattle.nest_model.specs.BuilderLevels.{own_slots}
use Rattle.nest_model.specs.BuilderTree.{BuilderTree, BuilderTrees, flat, list, fixed_size_list, dictionary, struct, no_builders, more_builders, builder_len, builder_type, builder_types}
use Rattle.nest_model.specs.BuilderComplete.{IsComplete}
use Rattle.nest_model.specs.BuilderAddRow.{HaveRows}
use Rattle.nest_build.specs.Rows.{encoded_bits}
use Rattle.nest_any.specs.declared.rows.TypedRows.{TypedRows}
use Rattle.nest_any.specs.TypedRows.{lists_over}

-- a physical type of lists
abbrev pub IsOfLists : PhysicalType → Type 0
IsOfLists p = (p ≡ physical.List) ⊎ ((p ≡ physical.LargeList) ⊎ (p ≡ physical.FixedSizeList))

-- a list builder whose data type is of its kind
abbrev pub IsListBuilder : BuilderTree → Type 0
IsListBuilder (flat t xs) = ⊥
IsListBuilder (list large t rows c) = physical_type t ≡ list_of_width large
IsListBuilder (fixed_size_list t bits c) = physical_type t ≡ physical.FixedSizeList
IsListBuilder (dictionary k t keys c) = ⊥
IsListBuilder (struct t bits cs) = ⊥

-- a physical type of values without children, except nulls
abbrev pub is_flat : PhysicalType → Bool
is_flat physical.Boolean = true
is_flat (physical.Primitive p) = true
is_flat physical.Binary = true
is_flat physical.FixedSizeBinary = true
is_flat physical.LargeBinary = true
is_flat physical.Utf8 = true
is_flat physical.LargeUtf8 = true
is_flat _ = false

-- the value type of a dictionary is such a type
abbrev pub AreFlat : Option TypeTree → Type 0
AreFlat None = ⊥
AreFlat (Some t) = IsTrue (is_flat (physical_type t))

-- The checks of a new list builder of a data type over a child.
abbrev pub lists_checks : TypeTree → BuilderTree → Checks
lists_checks t c =
    check (OutOfSpec WrongType) (IsOfLists (physical_type t))
    (check (OutOfSpec ZeroSize) (physical_type t ≡ physical.FixedSizeList → 0 < size_of t)
    (check (InvalidArgumentError ChildNotEmpty) (builder_len c ≡ 0)
    (check (OutOfSpec ChildType) (item_type t ≡ Some (builder_type c)) done)))

-- The checks of a new dictionary builder of a data type over a child.
abbrev pub keyed_checks : TypeTree → BuilderTree → Checks
keyed_checks t c =
    check (OutOfSpec WrongType) (AreFlat (value_type t))
    (check (InvalidArgumentError ChildNotEmpty) (builder_len c ≡ 0)
    (check (OutOfSpec ChildType) (IsLogically (value_type t) (builder_type c)) done))

-- the list builder without rows of a data type over a child, by its physical type
abbrev pub empty_lists : PhysicalType → TypeTree → BuilderTree → BuilderTree
empty_lists physical.LargeList t c = list true t [] c
empty_lists physical.FixedSizeList t c = fixed_size_list t [] c
empty_lists _ t c = list false t [] c

-- both by the key type, which only dictionaries have
abbrev checks_by : Option IntegerType → TypeTree → BuilderTree → Checks
checks_by (Some k) t c = keyed_checks t c
checks_by None t c = lists_checks t c

abbrev over_by : Option IntegerType → TypeTree → BuilderTree → BuilderTree
over_by (Some k) t c = dictionary k t [] c
over_by None t c = empty_lists (physical_type t) t c

-- The checks of a new builder of a data type over a child, and the builder.
abbrev pub nested_checks : TypeTree → BuilderTree → Checks
nested_checks t c = checks_by (key_type t) t c

abbrev pub nested_over : TypeTree → BuilderTree → BuilderTree
nested_over t c = over_by (key_type t) t c

-- the parts of a struct builder; other builders have none
abbrev pub struct_bits : BuilderTree → Seq Bool
struct_bits (struct t bits cs) = bits
struct_bits _ = []

abbrev pub struct_children : BuilderTree → BuilderTrees
struct_children (struct t bits cs) = cs
struct_children _ = no_builders

abbrev pub count_builders : BuilderTrees → ℕ
count_builders no_builders = 0
count_builders (more_builders c cs) = suc (count_builders cs)

-- the number of rows of the first child
abbrev pub first_rows : BuilderTrees → ℕ
first_rows no_builders = 0
first_rows (more_builders c cs) = builder_len c

-- The checks of a new struct builder of these parts.
abbrev pub struct_checks : TypeTree → BuilderTrees → Validity → Checks
struct_checks t cs va =
    check (OutOfSpec WrongType) (physical_type t ≡ physical.Struct)
    (check (OutOfSpec NoFields) (0 < count_fields (fields_of t))
    (check (OutOfSpec FieldCount) (count_builders cs ≡ count_fields (fields_of t))
    (check (OutOfSpec ChildType) (builder_types cs ≡ field_types (fields_of t))
    (check (OutOfSpec ChildLength) (HaveRows cs (first_rows cs))
    (check (OutOfSpec ValidityLength) (ValidityFits va (first_rows cs)) done)))))

-- the rows are none, of this list type, over a child
abbrev pub IsEmptyOver : TypeTree → TypedRows → BuilderTree → Type 0
IsEmptyOver t rows c = lists_over rows c ≡ empty_lists (physical_type t) t c

-- the builder of structs over these children and their rows
abbrev pub struct_over : TypeTree → BuilderTrees → Validity → BuilderTree
struct_over t cs va = struct t (encoded_bits (first_rows cs) va) cs

-- each child is complete and has at least n rows
abbrev pub AreEachLong : BuilderTrees → ℕ → Type 0
AreEachLong no_builders n = Unit {0}
AreEachLong (more_builders c cs) n = IsComplete c × (n ≤ builder_len c) × AreEachLong cs n

-- each array has the slots and the data type of its child
abbrev pub AreFrozen : Layouts → BuilderTrees → Type 0
AreFrozen no_layouts no_builders = Unit {0}
AreFrozen no_layouts (more_builders c cs) = ⊥
AreFrozen (more_layouts a rest) no_builders = ⊥
AreFrozen (more_layouts a rest) (more_builders c cs) = (slots_of a ≡ own_slots c) × (layout_type a ≡ builder_type c) × AreFrozen rest cs

-- the parts of the frozen array of a struct builder
pub record IsFrozenAs (t : TypeTree) (ls : Layouts) (va : Validity) (b : BuilderTree) : Type 0 where
  pub same_type : t ≡ builder_type b
  pub children : AreFrozen ls (struct_children b)
  pub bits : EncodesBits va (struct_bits b)
  pub fits : ValidityFits va (builder_len b)
