-- Dictionary values by id, of the values that the code holds.
use Rattle.std.specs.Prelude.{ℤ, List, map}
use Rattle.std.specs.Borrow.{Bor}
use Rattle.nest_array.specs.Seen.{layout_of}
use Rattle.nest_array.specs.declared.any.AnyArray.{AnyArray}
use Rattle.nest_model.specs.Layout.{Layout}
use Rattle.ipc.specs.DictionaryEntries.{DictionaryEntries}

-- the layout of the values of each dictionary, by its id
abbrev pub by_id : List (ℤ × AnyArray) → DictionaryEntries
by_id entries = map (λ e. (e.0, layout_of e.1)) entries

abbrev pub entry_of : ℤ × Bor AnyArray → ℤ × Layout
entry_of e = (e.0, layout_of e.1.now)

abbrev pub borrowed_entries_of : List (ℤ × Bor AnyArray) → DictionaryEntries
borrowed_entries_of found = map entry_of found
