-- The pending dictionaries of two columns. One has records of two fields, each with a dictionary; the other has numbers.
use Rattle.std.specs.Prelude.{◌≡◌, ℤ, pos, Bool, true, false, List, [], ◌∷◌, map, None, refl}
use Rattle.nest_memory.specs.TypeTree as types
use Rattle.nest_memory.specs.TypeTree.{FieldTree, no_fields, more_fields}
use Rattle.nest_memory.specs.declared.datatypes.IntegerType.TheVariants.{Int8 as Keys8}
use Rattle.nest_memory.specs.declared.datatypes.physical_type.PrimitiveType.TheVariants.{Int8}
use Rattle.nest_model.specs.Layout.{Layout, primitive, struct, dictionary, no_layouts, more_layouts, layout_type}
use Rattle.nest_model.specs.SameArray.{IsSameArray, same_array}
use Rattle.nest_model.specs.SameArrayLaws.{same_array-decides, same-refl}
use Rattle.ipc.specs.DictionaryEntries.{DictionaryEntries, own_entries, columns_own, columns_entries}
use Rattle.ipc.specs.PendingDictionaries.{with_entries, pending}

abbrev numbers : List ℤ → Layout
numbers zs = primitive Int8 types.int8 (map (λ z. z ∷ []) zs) None

abbrev keys_to : Layout → List ℤ → Layout
keys_to values keys = dictionary (types.dictionary Keys8 (layout_type values) false) (numbers keys) values

abbrev keyed_field : FieldTree
keyed_field = types.field [] (types.dictionary Keys8 types.int8 false) true []

-- records over the values of their two fields; only the first value of the second is named
abbrev of_two : Layout → Layout → Layout
of_two first second = struct (types.struct (more_fields keyed_field (more_fields keyed_field no_fields))) (more_layouts first (more_layouts second no_layouts)) None

abbrev pub records : Layout → Layout → Layout
records first second = of_two (keys_to first (pos 0 ∷ pos 1 ∷ [])) (keys_to second (pos 0 ∷ pos 0 ∷ []))

abbrev pub more_records : Layout → Layout → Layout
more_records first second = of_two (keys_to first (pos 0 ∷ pos 1 ∷ pos 1 ∷ [])) (keys_to second (pos 0 ∷ pos 0 ∷ pos 0 ∷ []))

abbrev pub two_columns : Layout → Layout → List Layout
two_columns values others = keys_to values (pos 1 ∷ pos 0 ∷ []) ∷ keys_to others (pos 0 ∷ pos 0 ∷ []) ∷ []

abbrev pub sevens : Layout
sevens = numbers (pos 7 ∷ pos 1 ∷ [])

abbrev pub eights : Layout
eights = numbers (pos 8 ∷ pos 0 ∷ [])

-- another value in the place that is not named
abbrev pub other_eights : Layout
other_eights = numbers (pos 8 ∷ pos 1 ∷ [])

abbrev pub nines : Layout
nines = numbers (pos 9 ∷ [])

abbrev pub tens : Layout
tens = numbers (pos 10 ∷ [])

abbrev pub columns : List Layout
columns = two_columns (records sevens eights) nines

-- the emitted dictionaries, by id
abbrev pub emitted : DictionaryEntries
emitted = (pos 0, records sevens eights) ∷ (pos 1, sevens) ∷ (pos 2, eights) ∷ (pos 3, nines) ∷ []

-- ---- ids

pub own_ids : columns_own 0 columns ≡ (pos 0, records sevens eights) ∷ (pos 3, nines) ∷ []
own_ids = refl

pub ids_inside : own_entries 1 (records sevens eights) ≡ (pos 1, sevens) ∷ (pos 2, eights) ∷ []
ids_inside = refl

pub all_ids : columns_entries 0 columns ≡ (pos 1, sevens) ∷ (pos 2, eights) ∷ (pos 0, records sevens eights) ∷ (pos 3, nines) ∷ []
all_ids = refl

-- ---- pending dictionaries

same : (c : Layout) → same_array c c ≡ true
same c = (same_array-decides c c).1 (same-refl c)

is_false : (b : Bool) → (b ≡ true → ⊥) → b ≡ false
is_false true not-true = absurd (not-true refl)
is_false false not-true = refl

pub other : (c d : Layout) → (IsSameArray c d → ⊥) → same_array c d ≡ false
other c d differ = is_false (same_array c d) (λ h. differ ((same_array-decides c d).0 h))

pub first_needed : pending [] columns ≡ (pos 1, sevens) ∷ (pos 2, eights) ∷ (pos 0, records sevens eights) ∷ (pos 3, nines) ∷ []
first_needed = refl

pub all_sent : with_entries [] (pending [] columns) ≡ emitted
all_sent = refl

pub none_again : pending emitted columns ≡ []
none_again = rw (same sevens, same eights, same (records sevens eights), same nines) refl

pub same_records : IsSameArray (records sevens eights) (records sevens other_eights)
same_records = (refl, refl)

pub inner_again : pending emitted (two_columns (records sevens other_eights) nines) ≡ (pos 2, other_eights) ∷ (pos 0, records sevens other_eights) ∷ []
inner_again = rw (same sevens, other eights other_eights (λ h. absurd (cc h.1)), same nines) refl

pub outer_again : pending emitted (two_columns (more_records sevens eights) nines) ≡ (pos 0, more_records sevens eights) ∷ []
outer_again = rw (same sevens, same eights, other (records sevens eights) (more_records sevens eights) (λ h. absurd (cc h.1)), same nines) refl

pub others_again : pending emitted (two_columns (records sevens eights) tens) ≡ (pos 3, tens) ∷ []
others_again = rw (same sevens, same eights, same (records sevens eights), other nines tens (λ h. absurd (cc h.1))) refl
