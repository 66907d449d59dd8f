-- What a visit of arrays finds.
use Rattle.std.specs.Prelude.{◌≡◌, ℕ, ◌+◌, Bool, true, false, ◌++◌}
use Rattle.nest_model.specs.Array.{IsArray, AreArrays}
use Rattle.nest_model.specs.Layout.{Layout, Layouts, fixed_size_list, list as list_of, map as map_of, struct, union, dictionary}
use Rattle.ipc.specs.DictionaryEntries.{DictionaryEntries, count_dictionaries, count_each_dictionaries}
use Rattle.ipc.specs.PendingDictionaries.{pending_in, each_pending}

-- it has no child arrays
abbrev pub is_leaf : Layout → Bool
is_leaf (fixed_size_list t c va) = false
is_leaf (list_of large t os c va) = false
is_leaf (map_of t os c va) = false
is_leaf (struct t cs va) = false
is_leaf (union t ks cs os start) = false
is_leaf (dictionary t ks c) = false
is_leaf a = true

-- an array was visited from an id on: its pending dictionaries were appended, the next id follows, and it is an array at every level
pub record IsVisited (emitted : DictionaryEntries) (id : ℕ) (a : Layout) (old new : DictionaryEntries) (next : ℕ) : Type 0 where
  pub behind : next ≡ id + count_dictionaries a
  pub found : new ≡ old ++ pending_in emitted id a
  pub fit : IsArray a

-- so were arrays in order
pub record AreVisited (emitted : DictionaryEntries) (id : ℕ) (arrays : Layouts) (old new : DictionaryEntries) (next : ℕ) : Type 0 where
  pub behind : next ≡ id + count_each_dictionaries arrays
  pub found : new ≡ old ++ each_pending emitted id arrays
  pub fit : AreArrays arrays
