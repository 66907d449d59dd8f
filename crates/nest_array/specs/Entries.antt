-- The map array of keys and values, and the checks of its parts: `Map` of `Schema.fbs` of the Arrow columnar format,
-- "Variable-size List Layout" over the "Struct Layout" of the entries.
use Rattle.std.specs.Prelude.{◌≡◌, ◌⊎◌, ◌≤◌, ℕ, true, false, List, [], alloc_error, codes, None}
use Rattle.nest_memory.specs.Rising.{last_of}
use Rattle.nest_memory.specs.TypeTree as types
use Rattle.nest_memory.specs.TypeTree.{FieldTrees, TypeTree, field, more_fields, no_fields}
use Rattle.nest_memory.specs.declared.error.Error.{Error}
use Rattle.nest_memory.specs.declared.error.Error.TheVariants.{Memory, OutOfSpec}
use Rattle.nest_memory.specs.declared.error.SpecError.TheVariants as spec
use Rattle.nest_model.specs.Checks.{Checks, FailFirst, Pass, check, done}
use Rattle.nest_model.specs.Layout as layouts
use Rattle.nest_model.specs.Layout.{Layout, Layouts, layout_type, more_layouts, no_layouts}
use Rattle.nest_model.specs.Meaning.{len}

-- `Map` of `Schema.fbs`: the fields of an entry, for keys and values of these data types. The key is not nullable.
abbrev pub entry_fields : TypeTree → TypeTree → FieldTrees
entry_fields k v = more_fields (field (codes "key") k false []) (more_fields (field (codes "value") v true []) no_fields)

-- "Struct Layout": two children.
abbrev pub two_children : Layout → Layout → Layouts
two_children ks vs = more_layouts ks (more_layouts vs no_layouts)

-- "Struct Layout": the array of the entries, without validity.
abbrev pub entries_struct : Layout → Layout → Layout
entries_struct ks vs = layouts.struct (types.struct (entry_fields (layout_type ks) (layout_type vs))) (two_children ks vs) None

-- `Map` of `Schema.fbs`: maps of entries of this data type. The entries are not nullable, and the keys are not sorted.
abbrev pub map_type : TypeTree → TypeTree
map_type t = types.map (field (codes "entries") t false []) false

-- "Variable-size List Layout": the array of maps with these offsets into these entries, without validity.
abbrev pub maps_over : List ℕ → Layout → Layout
maps_over os es = layouts.map (map_type (layout_type es)) os es None

-- "Variable-size List Layout": the array of maps with these offsets, keys and values.
abbrev pub entries_map : List ℕ → Layout → Layout → Layout
entries_map os ks vs = maps_over os (entries_struct ks vs)

-- "Struct Layout": as many values as keys. "Variable-size List Layout": the last offset is at most their number.
abbrev pub entries_checks : List ℕ → Layout → Layout → Checks
entries_checks os ks vs =
    check (OutOfSpec spec.ChildLength) (len vs ≡ len ks)
    (check (OutOfSpec spec.OffsetPastChild) (last_of os ≤ len ks) done)

-- The offsets, keys and values pass every check (this library's own).
abbrev pub EntriesFit : List ℕ → Layout → Layout → Type 0
EntriesFit os ks vs = Pass (entries_checks os ks vs)

-- The first check that fails has this error (this library's own).
abbrev pub EntriesError : Error → List ℕ → Layout → Layout → Type 0
EntriesError e os ks vs = FailFirst e (entries_checks os ks vs)

-- The first check that fails has this error, or all pass and an allocation fails (this library's own).
abbrev pub RefusesEntries : Error → List ℕ → Layout → Layout → Type 0
RefusesEntries e os ks vs = EntriesError e os ks vs ⊎ ((e ≡ Memory alloc_error) × EntriesFit os ks vs)
