-- The dictionaries of columns and their ids: 0, 1, 2 and so on in pre-order, a dictionary before those nested in its values, as the ids of fields are. Source: Columnar
-- format, "Dictionary Messages".
use Rattle.std.specs.Prelude.{ℕ, suc, ◌+◌, ℤ, pos, List, [], ◌∷◌, ◌++◌}
use Rattle.nest_model.specs.Layout.{Layout, Layouts, fixed_size_list, list as list_of, map as map_of, struct, union, dictionary, no_layouts, more_layouts}

-- dictionary values by id
abbrev pub DictionaryEntries : Type 0
DictionaryEntries = List (ℤ × Layout)

-- the number of dictionaries of an array, with the nested ones
abbrev mutual
  pub count_dictionaries : Layout → ℕ
  count_dictionaries (fixed_size_list t c va) = count_dictionaries c
  count_dictionaries (list_of large t os c va) = count_dictionaries c
  count_dictionaries (map_of t os c va) = count_dictionaries c
  count_dictionaries (struct t cs va) = count_each_dictionaries cs
  count_dictionaries (union t ks cs os start) = count_each_dictionaries cs
  count_dictionaries (dictionary t ks c) = suc (count_dictionaries c)
  count_dictionaries a = 0

  pub count_each_dictionaries : Layouts → ℕ
  count_each_dictionaries no_layouts = 0
  count_each_dictionaries (more_layouts c cs) = count_dictionaries c + count_each_dictionaries cs

-- the dictionaries of an array that are nested in no other, numbered from an id on
abbrev mutual
  pub own_entries : ℕ → Layout → DictionaryEntries
  own_entries id (fixed_size_list t c va) = own_entries id c
  own_entries id (list_of large t os c va) = own_entries id c
  own_entries id (map_of t os c va) = own_entries id c
  own_entries id (struct t cs va) = each_own id cs
  own_entries id (union t ks cs os start) = each_own id cs
  own_entries id (dictionary t ks c) = (pos id, c) ∷ []
  own_entries id a = []

  pub each_own : ℕ → Layouts → DictionaryEntries
  each_own id no_layouts = []
  each_own id (more_layouts c cs) = own_entries id c ++ each_own (id + count_dictionaries c) cs

-- those of columns
abbrev pub columns_own : ℕ → List Layout → DictionaryEntries
columns_own id [] = []
columns_own id (a ∷ columns) = own_entries id a ++ columns_own (id + count_dictionaries a) columns

-- all dictionaries of an array, nested ones first
abbrev mutual
  pub entries_in : ℕ → Layout → DictionaryEntries
  entries_in id (fixed_size_list t c va) = entries_in id c
  entries_in id (list_of large t os c va) = entries_in id c
  entries_in id (map_of t os c va) = entries_in id c
  entries_in id (struct t cs va) = each_entries id cs
  entries_in id (union t ks cs os start) = each_entries id cs
  entries_in id (dictionary t ks c) = entries_in (suc id) c ++ (pos id, c) ∷ []
  entries_in id a = []

  pub each_entries : ℕ → Layouts → DictionaryEntries
  each_entries id no_layouts = []
  each_entries id (more_layouts c cs) = entries_in id c ++ each_entries (id + count_dictionaries c) cs

abbrev pub columns_entries : ℕ → List Layout → DictionaryEntries
columns_entries id [] = []
columns_entries id (a ∷ columns) = entries_in id a ++ columns_entries (id + count_dictionaries a) columns
