-- The pending dictionaries of a record batch: those that are new, or replace the values emitted last, nested ones first. Source: Columnar format, "Dictionary Messages".
use Rattle.std.specs.Prelude.{ℕ, suc, ◌+◌, ℤ, pos, Bool, true, false, ◌&&◌, if◌then◌else◌, List, [], ◌∷◌, ◌++◌, Option, Some, None}
use Rattle.std.specs.BTreeMap.{insert_entry, is_at}
use Rattle.std.specs.Map.{lookup}
use Rattle.std.specs.Ordering.{int_cmp}
use Rattle.nest_model.specs.Layout.{Layout, Layouts, fixed_size_list, list as list_of, map as map_of, struct, union, dictionary, no_layouts, more_layouts}
use Rattle.nest_model.specs.SameArray.{same_array}
use Rattle.ipc.specs.DictionaryEntries.{DictionaryEntries, count_dictionaries}

-- the values of an id
abbrev pub entry_at : DictionaryEntries → ℤ → Option Layout
entry_at entries id = lookup (is_at (int_cmp id)) entries

-- entries with these set, one after another
abbrev pub with_entries : DictionaryEntries → DictionaryEntries → DictionaryEntries
with_entries entries [] = entries
with_entries entries (e ∷ new) = with_entries (insert_entry int_cmp entries e.0 e.1) new

abbrev pub is_same : Option Layout → Layout → Bool
is_same None c = false
is_same (Some d) c = same_array d c

abbrev pub is_none : DictionaryEntries → Bool
is_none [] = true
is_none (e ∷ es) = false

-- values are pending after those nested in them, unless the same were emitted last and nothing nested is pending
abbrev pub own_pending : DictionaryEntries → ℕ → Layout → DictionaryEntries → DictionaryEntries
own_pending emitted id c inside = if is_none inside && is_same (entry_at emitted (pos id)) c then [] else inside ++ (pos id, c) ∷ []

-- the pending dictionaries of an array, where these were emitted last
abbrev mutual
  pub pending_in : DictionaryEntries → ℕ → Layout → DictionaryEntries
  pending_in emitted id (fixed_size_list t c va) = pending_in emitted id c
  pending_in emitted id (list_of large t os c va) = pending_in emitted id c
  pending_in emitted id (map_of t os c va) = pending_in emitted id c
  pending_in emitted id (struct t cs va) = each_pending emitted id cs
  pending_in emitted id (union t ks cs os start) = each_pending emitted id cs
  pending_in emitted id (dictionary t ks c) = own_pending emitted id c (pending_in emitted (suc id) c)
  pending_in emitted id a = []

  pub each_pending : DictionaryEntries → ℕ → Layouts → DictionaryEntries
  each_pending emitted id no_layouts = []
  each_pending emitted id (more_layouts c cs) = pending_in emitted id c ++ each_pending emitted (id + count_dictionaries c) cs

-- those of columns
abbrev pub columns_pending : DictionaryEntries → ℕ → List Layout → DictionaryEntries
columns_pending emitted id [] = []
columns_pending emitted id (a ∷ columns) = pending_in emitted id a ++ columns_pending emitted (id + count_dictionaries a) columns

abbrev pub pending : DictionaryEntries → List Layout → DictionaryEntries
pending emitted columns = columns_pending emitted 0 columns
