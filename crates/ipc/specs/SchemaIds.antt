-- The values that the ids of a written schema name.
use Rattle.std.specs.Prelude.{◌≡◌, ℕ, suc, ℤ, pos, true, List, map, Some}
use Rattle.std.specs.BTreeMap.{is_at}
use Rattle.std.specs.List.{AllByRecursion}
use Rattle.std.specs.Map.{lookup}
use Rattle.std.specs.Ordering.{int_cmp}
use Rattle.nest_memory.specs.TypeTree.{FieldTree, logical_type}
use Rattle.nest_model.specs.Layout.{Layout, layout_type}
use Rattle.ipc_schema.specs.Dictionaries.{ValueTypeModel, DictionaryTypesModel, no_dictionaries}
use Rattle.ipc_schema.specs.DictionaryIds.{ids_from, types_after_all}
use Rattle.ipc_schema.specs.OutermostIds.{ValueTypes, spec_outermost_ids}
use Rattle.ipc_schema.specs.StoredArrays.{stored_arrays}
use Rattle.ipc_flatbuf.specs.StoredArrays.{reads_as_stored}
use Rattle.ipc.specs.DictionaryEntries.{DictionaryEntries, count_dictionaries, own_entries, columns_own, columns_entries}

abbrev pub entry_ids : DictionaryEntries → List ℤ
entry_ids entries = map (λ e. e.0) entries

-- the values of an id: their data type, and the ids nested in them
abbrev pub values_of : ℕ → Layout → ValueTypeModel
values_of id c = record { values = logical_type (layout_type c); inside = ids_from (suc id) (count_dictionaries c) }

-- an id is a natural number that names such values, which are read as they are stored; the ids nested in them include those of their own dictionaries
pub record IsNamed (named : ValueTypes) (e : ℤ × Layout) : Type 0 where
  pub id : ℕ
  pub number : e.0 ≡ pos id
  pub values : lookup (is_at (int_cmp e.0)) named ≡ Some (values_of id e.1)
  pub outer : spec_outermost_ids named (values_of id e.1).inside ≡ entry_ids (own_entries (suc id) e.1)
  pub stored : reads_as_stored (stored_arrays (values_of id e.1).values) ≡ true

-- the dictionaries that are found in written fields
abbrev pub seen_of_fields : List FieldTree → DictionaryTypesModel
seen_of_fields fields = types_after_all 64 0 fields no_dictionaries

-- so does the id of each dictionary of columns; those nested in no other are the ids of the columns
pub record AreNamed (fields : List FieldTree) (columns : List Layout) : Type 0 where
  pub each : AllByRecursion (IsNamed (seen_of_fields fields).named) (columns_entries 0 columns)
  pub outer : spec_outermost_ids (seen_of_fields fields).named (seen_of_fields fields).ids ≡ entry_ids (columns_own 0 columns)
