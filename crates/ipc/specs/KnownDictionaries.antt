-- The dictionaries that a reader has of those written, and the arrays that it reads over them.
use Rattle.std.specs.Prelude.{◌≡◌, ℕ, suc, ◌+◌, ℤ, pos, negsuc, List, [], ◌∷◌, map, Option, Some, None}
use Rattle.std.specs.BTreeMap.{insert_entry}
use Rattle.std.specs.List.{AllByRecursion}
use Rattle.std.specs.Ordering.{int_cmp}
use Rattle.nest_memory.specs.TypeTree.{logical_type}
use Rattle.nest_model.specs.Accessors.{with_type}
use Rattle.nest_model.specs.Layout.{Layout, Layouts, fixed_size_list, list as list_of, map as map_of, struct, union, dictionary, no_layouts, more_layouts, layout_type}
use Rattle.ipc_arrays.specs.ReplacedValues.{AreSameValues, IsExtendedBy}
use Rattle.ipc_arrays.specs.Encoding.{normalized}
use Rattle.ipc.specs.DictionaryEntries.{DictionaryEntries, count_dictionaries, own_entries, columns_own}
use Rattle.ipc.specs.PendingDictionaries.{entry_at, with_entries, pending}

-- an id has known values with the same slots
abbrev pub IsKnown : DictionaryEntries → ℤ × Layout → Type 0
IsKnown known e = (d : Layout) × (entry_at known e.0 ≡ Some d) × AreSameValues e.1 d

-- so has every dictionary of columns
abbrev pub AreKnown : DictionaryEntries → List Layout → Type 0
AreKnown known columns = AllByRecursion (IsKnown known) (columns_own 0 columns)

-- an id has known values that begin with the same slots
abbrev pub Covers : DictionaryEntries → ℤ × Layout → Type 0
Covers known e = (d : Layout) × (entry_at known e.0 ≡ Some d) × IsExtendedBy e.1 d

-- those that all keys of columns name
abbrev pub CoversColumns : DictionaryEntries → List Layout → Type 0
CoversColumns known columns = AllByRecursion (Covers known) (columns_own 0 columns)

-- the values emitted last are known
abbrev pub Follows : DictionaryEntries → DictionaryEntries → Type 0
Follows known emitted = (id : ℤ) (c : Layout) → entry_at emitted id ≡ Some c → IsKnown known (id, c)

-- ---- arrays over known dictionaries

abbrev pub values_or : Option Layout → Layout → Layout
values_or None c = c
values_or (Some d) c = d

-- an array whose dictionaries have the known values
abbrev mutual
  pub over_known : DictionaryEntries → ℕ → Layout → Layout
  over_known known id (fixed_size_list t c va) = fixed_size_list t (over_known known id c) va
  over_known known id (list_of large t os c va) = list_of large t os (over_known known id c) va
  over_known known id (map_of t os c va) = map_of t os (over_known known id c) va
  over_known known id (struct t cs va) = struct t (each_over known id cs) va
  over_known known id (union t ks cs os start) = union t ks (each_over known id cs) os start
  over_known known id (dictionary t ks c) = dictionary t ks (values_or (entry_at known (pos id)) c)
  over_known known id a = a

  pub each_over : DictionaryEntries → ℕ → Layouts → Layouts
  each_over known id no_layouts = no_layouts
  each_over known id (more_layouts c cs) = more_layouts (over_known known id c) (each_over known (id + count_dictionaries c) cs)

abbrev pub columns_over : DictionaryEntries → ℕ → List Layout → List Layout
columns_over known id [] = []
columns_over known id (a ∷ columns) = over_known known id a ∷ columns_over known (id + count_dictionaries a) columns

-- columns as they are read over known dictionaries
abbrev pub read_columns : DictionaryEntries → List Layout → List Layout
read_columns known columns = map normalized (columns_over known 0 columns)

-- ---- values

-- dictionary values have the storage type, as a field names no extension of its dictionary's values
abbrev pub stored_values : Layout → Layout
stored_values c = with_type c (logical_type (layout_type c))

-- the values of an id, as they are read
abbrev pub read_values : DictionaryEntries → ℕ → Layout → Layout
read_values known id c = stored_values (normalized (over_known known (suc id) c))

abbrev pub number_of : ℤ → ℕ
number_of (pos n) = n
number_of (negsuc n) = 0

-- the known dictionaries after the dictionary batches of these entries
abbrev pub known_with : DictionaryEntries → DictionaryEntries → DictionaryEntries
known_with known [] = known
known_with known (e ∷ new) = known_with (insert_entry int_cmp known e.0 (read_values known (number_of e.0) e.1)) new

-- the dictionaries nested in each are known before it
abbrev pub AreInOrder : DictionaryEntries → DictionaryEntries → Type 0
AreInOrder known [] = Unit {0}
AreInOrder known (e ∷ new) = AllByRecursion (IsKnown known) (own_entries (suc (number_of e.0)) e.1) × AreInOrder (insert_entry int_cmp known e.0 (read_values known (number_of e.0) e.1)) new

-- all dictionaries that columns name are known after their pending ones
pub record AreAllKnown (known emitted : DictionaryEntries) (columns : List Layout) : Type 0 where
  pub order : AreInOrder known (pending emitted columns)
  pub own : AreKnown (known_with known (pending emitted columns)) columns
  pub follows : Follows (known_with known (pending emitted columns)) (with_entries emitted (pending emitted columns))
