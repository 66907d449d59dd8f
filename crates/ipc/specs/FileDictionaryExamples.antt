-- The dictionary batches of words and numbers in a file, by the dictionaries emitted last.
use Rattle.std.specs.Prelude.{◌≡◌, pos, Bool, true, false, not, ◌||◌, [], ◌∷◌, None, refl}
use Rattle.std.proofs.Common.{ap}
use Rattle.nest_memory.specs.TypeTree as types
use Rattle.nest_model.specs.Slice.{slice_layout}
use Rattle.nest_model.specs.Layout.{Layout, utf8}
use Rattle.nest_model.specs.Meaning.{slots_of}
use Rattle.nest_model.specs.Slot as slots
use Rattle.nest_model.specs.SameArrayLaws.{same_array-decides}
use Rattle.ipc.specs.DictionaryEntries.{DictionaryEntries}
use Rattle.ipc.specs.PendingExamples.{nines, other}
use Rattle.ipc.specs.FileDictionaries.{spec_dictionary_batches, spec_any_replaced}

-- "a", "bc"
abbrev pub words : Layout
words = utf8 false types.utf8 (0 ∷ 1 ∷ 3 ∷ []) (97 ∷ 98 ∷ 99 ∷ []) None

-- and "d" after them
abbrev pub more_words : Layout
more_words = utf8 false types.utf8 (0 ∷ 1 ∷ 3 ∷ 4 ∷ []) (97 ∷ 98 ∷ 99 ∷ 100 ∷ []) None

-- which is the slice of a delta
abbrev pub last_word : Layout
last_word = utf8 false types.utf8 (3 ∷ 4 ∷ []) (97 ∷ 98 ∷ 99 ∷ 100 ∷ []) None

-- "bc", "a"
abbrev pub turned_words : Layout
turned_words = utf8 false types.utf8 (0 ∷ 2 ∷ 3 ∷ []) (98 ∷ 99 ∷ 97 ∷ []) None

-- "a", "bc", "d" of another data type
abbrev pub large_words : Layout
large_words = utf8 true types.large_utf8 (0 ∷ 1 ∷ 3 ∷ 4 ∷ []) (97 ∷ 98 ∷ 99 ∷ 100 ∷ []) None

-- values of the id 0
abbrev pub first : Layout → DictionaryEntries
first c = (pos 0, c) ∷ []

pub new_known : spec_any_replaced [] (first words) ≡ false
new_known = refl

pub new_put : spec_dictionary_batches [] (first words) ≡ (false, (pos 0, words)) ∷ []
new_put = refl

pub grown_known : spec_any_replaced (first words) (first more_words) ≡ false
grown_known = ap (λ (b : Bool). not b || false) ((same_array-decides words (slice_layout more_words 0 2)).1 (refl, refl))

pub grown_put : spec_dictionary_batches (first words) (first more_words) ≡ (true, (pos 0, last_word)) ∷ []
grown_put = refl

pub last_slots : slots_of last_word ≡ slots.utf8 (100 ∷ []) ∷ []
last_slots = refl

pub two_put : spec_dictionary_batches (first words) ((pos 3, nines) ∷ (pos 0, more_words) ∷ []) ≡ (false, (pos 3, nines)) ∷ (true, (pos 0, last_word)) ∷ []
two_put = refl

pub same_known : spec_any_replaced (first words) (first words) ≡ false
same_known = ap (λ (b : Bool). not b || false) ((same_array-decides words (slice_layout words 0 2)).1 (refl, refl))

pub same_put : spec_dictionary_batches (first words) (first words) ≡ []
same_put = refl

pub turned_anew : spec_any_replaced (first words) (first turned_words) ≡ true
turned_anew = ap (λ (b : Bool). not b || false) (other words (slice_layout turned_words 0 2) (λ h. absurd (cc h.1)))

pub large_anew : spec_any_replaced (first words) (first large_words) ≡ true
large_anew = ap (λ (b : Bool). not b || false) (other words (slice_layout large_words 0 2) (λ h. absurd (cc h.0)))

pub fewer_anew : spec_any_replaced (first more_words) (first words) ≡ true
fewer_anew = refl

-- whichever come before
pub later_anew : spec_any_replaced (first more_words) ((pos 3, nines) ∷ (pos 0, words) ∷ []) ≡ true
later_anew = refl
