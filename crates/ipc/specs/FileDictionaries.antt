-- The dictionary batches of a file, which has no replacement dictionaries: the first values of an id, then deltas. Source: Columnar format, "IPC File Format" and
-- "Dictionary Messages".
use Rattle.std.specs.Prelude.{ℕ, ◌-◌, ℤ, Bool, true, false, not, ◌&&◌, ◌==◌, nat_le, if◌then◌else◌, List, [], ◌∷◌, ◌++◌, Option, Some, None}
use Rattle.std.specs.List.{list_any}
use Rattle.nest_array.specs.Seen.{layout_of}
use Rattle.nest_model.specs.Slice.{slice_layout}
use Rattle.nest_model.specs.Layout.{Layout}
use Rattle.nest_model.specs.Meaning.{len}
use Rattle.nest_model.specs.SameArray.{same_array}
use Rattle.ipc.specs.DictionaryEntries.{DictionaryEntries}
use Rattle.ipc.specs.PendingDictionaries.{entry_at}
use Rattle.ipc.specs.declared.dictionaries.batches.DictionaryBatch as declared

-- a dictionary batch: whether it is a delta, the id, the values
abbrev pub DictionaryBatchTree : Type 0
DictionaryBatchTree = Bool × (ℤ × Layout)

-- the same of the value that the code holds
abbrev pub dictionary_batch_of : declared.DictionaryBatch → DictionaryBatchTree
dictionary_batch_of p = (p.delta, (p.id, layout_of p.values))

-- a batch of all values of an id, as streams have it
abbrev pub whole : ℤ × Layout → DictionaryBatchTree
whole e = (false, e)

-- the values after the first n
abbrev pub spec_delta_values : Layout → ℕ → Layout
spec_delta_values c n = slice_layout c n (len c - n)

-- values c begin with d: the data type is the same, and the first slots are those of d
abbrev pub spec_begins_with : Layout → Layout → Bool
spec_begins_with d c = nat_le (len d) (len c) && same_array d (slice_layout c 0 (len d))

-- the batches of values that begin with those of their id: a delta of the values after these, if there are some
abbrev pub batches_for : Option Layout → ℤ × Layout → List DictionaryBatchTree
batches_for None e = whole e ∷ []
batches_for (Some d) e = if len e.1 == len d then [] else (true, (e.0, spec_delta_values e.1 (len d))) ∷ []

-- the batches of all pending dictionaries, where these were emitted
abbrev pub spec_dictionary_batches : DictionaryEntries → DictionaryEntries → List DictionaryBatchTree
spec_dictionary_batches emitted [] = []
spec_dictionary_batches emitted (e ∷ es) = batches_for (entry_at emitted e.0) e ++ spec_dictionary_batches emitted es

-- values that replace those of an id
abbrev pub spec_is_replaced : Option Layout → Layout → Bool
spec_is_replaced None c = false
spec_is_replaced (Some d) c = not (spec_begins_with d c)

abbrev pub spec_any_replaced : DictionaryEntries → DictionaryEntries → Bool
spec_any_replaced emitted new = list_any (λ e. spec_is_replaced (entry_at emitted e.0) e.1) new
