-- Builders of the worked examples.
use Rattle.std.specs.Prelude.{◌≡◌, ℕ, zero, suc, pos, Bool, true, false, List, [], ◌∷◌, map, Option, Some, None, ◌++◌}
use Rattle.nest_memory.specs.TypeTree as types
use Rattle.nest_memory.specs.TypeTree.{TypeTree, no_fields, more_fields}
use Rattle.nest_memory.specs.declared.datatypes.IntegerType.{IntegerType}
use Rattle.nest_memory.specs.declared.datatypes.IntegerType.TheVariants as integers
use Rattle.nest_memory.specs.declared.datatypes.physical_type.PrimitiveType.TheVariants as primitives
use Rattle.nest_model.specs.Slot as slots
use Rattle.nest_model.specs.Slot.{Slot}
use Rattle.nest_model.specs.Examples.{a_field, list_type, record_slot}
use Rattle.nest_model.specs.BuilderRow.{Row}
use Rattle.nest_model.specs.BuilderTree as builders
use Rattle.nest_model.specs.BuilderTree.{BuilderTree, no_builders, more_builders}
use Rattle.nest_model.specs.BuilderItem as items
use Rattle.nest_model.specs.BuilderItem.{Item, seal_items}
use Rattle.nest_model.specs.BuilderAddRow.{with_row, with_rows}
use Rattle.nest_model.specs.BuilderAppend.{appended, all_appended}
use Rattle.nest_model.specs.BuilderReading.{ReadsValue, Reading}
use Rattle.nest_model.specs.BuilderJoin.{join_checks}
use Rattle.nest_model.specs.Checks.{Checks}
use Rattle.nest_model.specs.BuilderInput.{value_item, Begins}
use Rattle.nest_model.specs.BuilderRefusals.{items_refusal}
use Rattle.nest_memory.specs.declared.error.Error.{Error}

-- items
abbrev pub an_int : ℕ → Item
an_int n = items.plain (items.native primitives.Int32 (pos n ∷ []))

abbrev pub some_ints : List ℕ → List Item
some_ints ns = map an_int ns

abbrev pub items_of : List Item → Item
items_of xs = items.list_of (seal_items xs)

abbrev pub a_text : ℕ → Item
a_text letter = items.plain (items.utf8 (letter ∷ []))

-- the slot of a one-letter string, and a struct of one
abbrev pub text_slot : ℕ → Slot
text_slot letter = slots.utf8 (letter ∷ [])

-- builders without rows
abbrev pub no_ints : BuilderTree
no_ints = builders.flat types.int32 []

abbrev pub no_lists : BuilderTree → BuilderTree
no_lists c = builders.list false (list_type (builders.builder_type c)) [] c

abbrev pub pair_type : TypeTree → TypeTree
pair_type t = types.fixed_size_list (a_field t) 2

abbrev pub no_pairs : BuilderTree
no_pairs = builders.fixed_size_list (pair_type types.int32) [] no_ints

abbrev pub short_keys : TypeTree
short_keys = types.dictionary integers.Int8 types.utf8 false

abbrev pub no_texts : BuilderTree
no_texts = builders.dictionary integers.Int8 short_keys [] (builders.flat types.utf8 [])

abbrev pub record_type : TypeTree → TypeTree
record_type t = types.struct (more_fields (a_field t) no_fields)

abbrev pub no_records : BuilderTree → BuilderTree
no_records c = builders.struct (record_type (builders.builder_type c)) [] (more_builders c no_builders)

-- a change of the child of a list or of the first child of a struct
abbrev pub in_child : (BuilderTree → BuilderTree) → BuilderTree → BuilderTree
in_child f (builders.flat t xs) = builders.flat t xs
in_child f (builders.list large t rows c) = builders.list large t rows (f c)
in_child f (builders.fixed_size_list t bits c) = builders.fixed_size_list t bits (f c)
in_child f (builders.dictionary k t keys c) = builders.dictionary k t keys c
in_child f (builders.struct t bits no_builders) = builders.struct t bits no_builders
in_child f (builders.struct t bits (more_builders c cs)) = builders.struct t bits (more_builders (f c) cs)

-- a struct of one child: the child accepts the item, then the row is added
abbrev pub with_record : Bool → Item → BuilderTree → BuilderTree
with_record valid x t = with_row valid (in_child (appended x) t)

-- lists of structs of strings: {"x"} twice in one row, and a null row
abbrev pub lists_of_records : BuilderTree
lists_of_records = appended items.null (with_row true (in_child (λ t. with_record true (a_text 120) (with_record true (a_text 120) t)) (no_lists (no_records no_texts))))

-- a list with the pending items 1, 2 and 3
abbrev pub three_pending : BuilderTree
three_pending = in_child (all_appended (some_ints (1 ∷ 2 ∷ 3 ∷ []))) (no_lists no_ints)

-- structs of 1, null and 2
abbrev pub records_with_a_null : BuilderTree
records_with_a_null = with_record true (an_int 2) (with_record false items.null (with_record true (an_int 1) (no_records no_ints)))

-- "A", "B", null, "C"
abbrev pub letters : BuilderTree
letters = all_appended (a_text 65 ∷ a_text 66 ∷ items.null ∷ a_text 67 ∷ []) no_texts

-- n consecutive numbers
abbrev pub counted : ℕ → ℕ → List ℕ
counted n zero = []
counted n (suc m) = n ∷ counted (suc n) m

-- binary items, and string items
abbrev pub some_bytes : List ℕ → Item
some_bytes ns = items.plain (items.bytes ns)

abbrev pub some_text : List ℕ → Item
some_text bs = items.plain (items.utf8 bs)

-- a list, a fixed-size list and a struct builder of this type over that child, without rows
abbrev pub list_of : TypeTree → BuilderTree → BuilderTree
list_of t c = builders.list false (list_type t) [] c

abbrev pub pairs_of : TypeTree → BuilderTree → BuilderTree
pairs_of t c = builders.fixed_size_list (pair_type t) [] c

abbrev pub records_of : TypeTree → BuilderTree → BuilderTree
records_of t c = builders.struct (record_type t) [] (more_builders c no_builders)

-- an empty builder of fixed-size binary values of two bytes
abbrev pub no_bytes : BuilderTree
no_bytes = builders.flat (types.fixed_size_binary 2) []

-- a dictionary with n distinct values, one key for each
abbrev pub dictionary_of : IntegerType → TypeTree → (ℕ → Slot) → ℕ → BuilderTree
dictionary_of k t value n = builders.dictionary k (types.dictionary k t false) (map (λ m. Some m) (counted 0 n)) (builders.flat t (map value (counted 0 n)))

-- dictionaries of numbers, and of fixed-size binary values of two bytes
abbrev pub numbers_by : IntegerType → ℕ → BuilderTree
numbers_by k n = dictionary_of k types.int32 (λ m. slots.number (pos m ∷ [])) n

abbrev pub bytes_by : IntegerType → ℕ → BuilderTree
bytes_by k n = dictionary_of k (types.fixed_size_binary 2) (λ m. slots.bytes (0 ∷ m ∷ [])) n

-- a dictionary with 8-bit keys and 128 values
abbrev pub full_dictionary : BuilderTree
full_dictionary = numbers_by integers.Int8 128

-- the row [1], and the pending items 2 and 3
abbrev pub two_pending : BuilderTree
two_pending = in_child (all_appended (some_ints (2 ∷ 3 ∷ []))) (appended (items_of (some_ints (1 ∷ []))) (no_lists no_ints))

-- a list without rows over pending nulls
abbrev pub over_nulls : Bool → List Slot → BuilderTree
over_nulls large xs = builders.list large (list_type types.null) [] (builders.flat types.null xs)

-- the iterator over a list of optional strings
abbrev pub OptionalStrings : Type 0
OptionalStrings = List (Option (List ℕ))

abbrev pub IsIterator : OptionalStrings → OptionalStrings → Type 0
IsIterator given rest = given ≡ rest

abbrev pub StepsOf : OptionalStrings → Option (Option (List ℕ)) → OptionalStrings → Type 0
StepsOf [] given rest = (given ≡ None) × (rest ≡ [])
StepsOf (x ∷ xs) given rest = (given ≡ Some x) × (rest ≡ xs)

abbrev pub strings_input : Reading OptionalStrings OptionalStrings (Option (List ℕ))
strings_input = record { becomes = IsIterator; steps = StepsOf; reads = ReadsValue items.utf8 }

-- rows of a list of nulls whose child is empty
abbrev pub rows_over_nothing : Bool → List Row → BuilderTree
rows_over_nothing large rows = builders.list large (list_type types.null) rows (builders.flat types.null [])

-- a dictionary without rows: 8-bit keys, `int32` values, and the value type t in its data type
abbrev pub keyed_ints : TypeTree → List Slot → BuilderTree
keyed_ints t xs = builders.dictionary integers.Int8 (types.dictionary integers.Int8 t false) [] (builders.flat types.int32 xs)

-- a struct of the string "x"
abbrev pub x_struct : Slot
x_struct = record_slot (text_slot 120 ∷ [])

-- rows of 2 items, null and of 1 item, over the three items
abbrev pub three_rows : BuilderTree
three_rows = with_rows (Some 2 ∷ None ∷ Some 1 ∷ []) three_pending

-- rows with these keys over the value 7
abbrev pub keyed_seven : List (Option ℕ) → BuilderTree
keyed_seven keys = builders.dictionary integers.Int8 (types.dictionary integers.Int8 types.int32 false) keys (builders.flat types.int32 (slots.number (pos 7 ∷ []) ∷ []))

-- pairs by their bits, over no number
abbrev pub pair_rows : List Bool → BuilderTree
pair_rows bits = builders.fixed_size_list (pair_type types.int32) bits no_ints

-- lists by their rows, and structs by their bits, over no number
abbrev pub int_rows : List Row → BuilderTree
int_rows rows = builders.list false (list_type types.int32) rows no_ints

abbrev pub int_records : TypeTree → List Bool → BuilderTree
int_records t bits = builders.struct t bits (more_builders no_ints no_builders)

-- a builder of nulls
abbrev pub nulls : List Slot → BuilderTree
nulls xs = builders.flat types.null xs

-- the checks of appending rows to rows of lists, both over no item
abbrev pub append_checks : Bool → List Row → List Row → Checks
append_checks large rows more = join_checks (rows_over_nothing large rows) (rows_over_nothing large more)

-- the checks of appending strings to strings
abbrev pub text_checks : List Slot → List Slot → Checks
text_checks xs ys = join_checks (builders.flat types.utf8 xs) (builders.flat types.utf8 ys)

-- the items of optional strings
abbrev pub string_item : Option (List ℕ) → Item
string_item given = value_item items.utf8 given

abbrev pub string_items : OptionalStrings → List Item
string_items given = map string_item given

-- of the strings that u yields, some are accepted and the next one is refused with e
abbrev pub RefusesAString : OptionalStrings → BuilderTree → Error → Type 0
RefusesAString u old e =
    (front : OptionalStrings) × (next : Option (List ℕ)) × Begins IsIterator StepsOf u (front ++ next ∷ [])
    × (items_refusal (seal_items (string_items (front ++ next ∷ []))) old ≡ Some e)
