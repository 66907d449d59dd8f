-- Struct builders of people: a name and an age.
use Rattle.std.specs.Prelude.{◌≡◌, Bool, true, false, ◌&&◌, if◌then◌else◌, Option, None, Some, List, [], ◌∷◌, ◌++◌, codes}
use Rattle.nest_any.specs.Refusals.{struct_bits}
use Rattle.nest_flat.specs.Plain.{plain_value}
use Rattle.nest_flat.specs.declared.plain.Plain.{Plain}
use Rattle.nest_memory.specs.TypeTree as types
use Rattle.nest_memory.specs.TypeTree.{TypeTree, field, more_fields, no_fields}
use Rattle.nest_memory.specs.declared.datatypes.physical_type.PhysicalType.{PhysicalType}
use Rattle.nest_memory.specs.declared.datatypes.physical_type.PhysicalType.TheVariants as physical
use Rattle.nest_memory.specs.declared.datatypes.physical_type.PrimitiveType.TheVariants as primitives
use Rattle.nest_model.specs.BuilderItem.{holds_kind, slot_of_plain}
use Rattle.nest_model.specs.BuilderTree as builders
use Rattle.nest_model.specs.BuilderTree.{BuilderTree, BuilderTrees, more_builders, no_builders}
use Rattle.nest_model.specs.BuilderComplete.{IsComplete}
use Rattle.nest_model.specs.Slot as slots
use Rattle.nest_model.specs.Slot.{Slot}

abbrev pub person_type : TypeTree
person_type = types.struct (more_fields (field (codes "name") types.utf8 true []) (more_fields (field (codes "age") types.int32 true []) no_fields))

-- the child builders: names and ages
abbrev pub columns : List Slot → List Slot → BuilderTrees
columns names ages = more_builders (builders.flat types.utf8 names) (more_builders (builders.flat types.int32 ages) no_builders)

-- a struct builder of these rows, valid or null, over names and ages
abbrev pub people : List Bool → List Slot → List Slot → BuilderTree
people rows names ages = builders.struct person_type rows (columns names ages)

abbrev pub no_people : BuilderTree
no_people = people [] [] []

-- the names and the ages of such a builder
abbrev pub names_in : BuilderTree → List Slot
names_in (builders.struct t rows (more_builders (builders.flat u names) cs)) = names
names_in b = []

abbrev pub ages_in : BuilderTree → List Slot
ages_in (builders.struct t rows (more_builders c (more_builders (builders.flat u ages) cs))) = ages
ages_in b = []

-- a complete builder of people
abbrev pub ArePeople : BuilderTree → Type 0
ArePeople b = IsComplete b × (b ≡ people (struct_bits b) (names_in b) (ages_in b))

-- the two cells of a row, each a value of any kind or missing
abbrev pub Cells : Type 0
Cells = Option Plain × Option Plain

-- the slot of a cell
abbrev pub cell_slot : Option Plain → Slot
cell_slot None = slots.null
cell_slot (Some p) = slot_of_plain (plain_value p)

-- a builder with one more person
abbrev pub with_person : Cells → BuilderTree → BuilderTree
with_person c b = people (struct_bits b ++ true ∷ []) (names_in b ++ cell_slot c.0 ∷ []) (ages_in b ++ cell_slot c.1 ∷ [])

-- whether a cell is missing or of this type
abbrev pub is_cell : PhysicalType → Option Plain → Bool
is_cell kind None = true
is_cell kind (Some p) = holds_kind kind (plain_value p)

-- whether the cells are a string and a 32-bit integer
abbrev pub is_person : Cells → Bool
is_person c = is_cell physical.Utf8 c.0 && is_cell (physical.Primitive primitives.Int32) c.1

-- a builder with each row of cells that is a person
abbrev pub with_people : List Cells → BuilderTree → BuilderTree
with_people [] b = b
with_people (c ∷ cs) b = with_people cs (if is_person c then with_person c b else b)
