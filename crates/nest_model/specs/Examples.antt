-- Arrays of the worked examples.
use Rattle.nest_memory.specs.declared.datatypes.IntegerType.{IntegerType}
use Rattle.nest_memory.specs.declared.datatypes.IntegerType.TheVariants as integers
use Rattle.nest_memory.specs.declared.datatypes.IntervalUnit.TheVariants as intervals
use Rattle.nest_memory.specs.declared.datatypes.TimeUnit.TheVariants as times
use Rattle.nest_memory.specs.declared.datatypes.UnionMode.{UnionMode}
use Rattle.nest_memory.specs.declared.datatypes.UnionMode.TheVariants as modes
use Rattle.std.specs.Prelude.{ℕ, zero, suc, ℤ, pos, Bool, true, false, List, [], ◌∷◌, map, replicate, Option, Some, None}
use Rattle.nest_memory.specs.TypeTree as types
use Rattle.nest_memory.specs.TypeTree.{TypeTree, FieldTree, field, FieldTrees, no_fields, more_fields}
use Rattle.nest_memory.specs.declared.datatypes.physical_type.PrimitiveType.{PrimitiveType}
use Rattle.nest_memory.specs.declared.datatypes.physical_type.PrimitiveType.TheVariants as primitives
use Rattle.nest_model.specs.Part.{Validity}
use Rattle.nest_model.specs.Layout as layouts
use Rattle.nest_model.specs.Layout.{Layout, Layouts, no_layouts, more_layouts, layout_type}
use Rattle.nest_model.specs.Slot as slots
use Rattle.nest_model.specs.Slot.{Slot, Slots, seal}

-- Data types.
abbrev pub a_field : TypeTree → FieldTree
a_field t = field [] t true []

abbrev pub two_fields : TypeTree → TypeTree → FieldTrees
two_fields s t = more_fields (a_field s) (more_fields (a_field t) no_fields)

abbrev pub list_type : TypeTree → TypeTree
list_type t = types.list (a_field t)

abbrev pub text_dictionary : TypeTree
text_dictionary = types.dictionary integers.Int32 types.utf8 false

abbrev pub one_field : TypeTree → FieldTrees
one_field t = more_fields (a_field t) no_fields

abbrev pub extended : TypeTree → TypeTree
extended t = types.extension (120 ∷ []) t None

-- Every data type whose arrays have neither offsets nor children, except floats.
abbrev pub plain_types : List TypeTree
plain_types =
    types.null ∷ types.boolean ∷ types.int8 ∷ types.int16 ∷ types.int32 ∷ types.int64 ∷ types.uint8 ∷ types.uint16 ∷ types.uint32 ∷ types.uint64
    ∷ types.timestamp times.Second None ∷ types.date32 ∷ types.date64 ∷ types.time32 times.Second ∷ types.time64 times.Nanosecond
    ∷ types.duration times.Second ∷ types.interval intervals.DayTime ∷ types.decimal 38 2 ∷ types.decimal256 76 2 ∷ extended types.date64 ∷ []

-- Arrays.
abbrev pub ints : List ℕ → Layout
ints ns = layouts.primitive primitives.Int32 types.int32 (map (λ n. pos n ∷ []) ns) None

abbrev pub booleans : List Bool → Layout
booleans bs = layouts.boolean types.boolean bs None

abbrev pub texts : List ℕ → List ℕ → Layout
texts os bs = layouts.utf8 false types.utf8 os bs None

abbrev pub lists : TypeTree → List ℕ → Layout → Layout
lists t os c = layouts.list false (list_type t) os c None

abbrev pub dictionaries : List ℕ → Validity → Layout → Layout
dictionaries ks va c = layouts.dictionary text_dictionary (layouts.primitive primitives.Int32 types.int32 (map (λ k. pos k ∷ []) ks) va) c

abbrev pub both : Layout → Layout → Layouts
both c d = more_layouts c (more_layouts d no_layouts)

-- A sparse union of two fields.
abbrev pub sparse_union : TypeTree → TypeTree → Option (List ℤ) → TypeTree
sparse_union s t ids = types.union (two_fields s t) ids modes.Sparse

-- A dense union of two fields, whose type ids are their numbers.
abbrev pub dense_union : TypeTree → TypeTree → TypeTree
dense_union s t = types.union (two_fields s t) None modes.Dense

-- Slots.
abbrev pub number : ℕ → Slot
number n = slots.number (pos n ∷ [])

abbrev pub list_slot : List Slot → Slot
list_slot ss = slots.list (seal ss)

abbrev pub record_slot : List Slot → Slot
record_slot ss = slots.record_of (seal ss)

-- A struct of a Boolean and a number.
abbrev pub flag_and_number : Bool → ℕ → Slot
flag_and_number b n = record_slot (slots.boolean b ∷ number n ∷ [])

abbrev pub numbers : List ℕ → Slot
numbers ns = list_slot (map number ns)

-- [[1,2],[],[3],[4,5]]
abbrev pub small_lists : Layout
small_lists = lists types.int32 (0 ∷ 2 ∷ 2 ∷ 3 ∷ 5 ∷ []) (ints (1 ∷ 2 ∷ 3 ∷ 4 ∷ 5 ∷ []))

-- [[[1,2],[3,4]],[[5,6,7],[],[8]],[[9,10]]]
abbrev pub deep_lists : Layout
deep_lists = lists (list_type types.int32) (0 ∷ 2 ∷ 5 ∷ 6 ∷ [])
    (lists types.int32 (0 ∷ 2 ∷ 4 ∷ 7 ∷ 7 ∷ 8 ∷ 10 ∷ []) (ints (1 ∷ 2 ∷ 3 ∷ 4 ∷ 5 ∷ 6 ∷ 7 ∷ 8 ∷ 9 ∷ 10 ∷ [])))

-- A map of two entries with the strings "a", "aa", "aaa" and "b", "bb", "bbb".
abbrev pub entries : Layout
entries = layouts.struct (types.struct (two_fields types.utf8 types.utf8))
    (both (texts (0 ∷ 1 ∷ 3 ∷ 6 ∷ []) (97 ∷ 97 ∷ 97 ∷ 97 ∷ 97 ∷ 97 ∷ [])) (texts (0 ∷ 1 ∷ 3 ∷ 6 ∷ []) (98 ∷ 98 ∷ 98 ∷ 98 ∷ 98 ∷ 98 ∷ []))) None

abbrev pub small_map : Layout
small_map = layouts.map (types.map (a_field (types.struct (two_fields types.utf8 types.utf8))) false) (0 ∷ 1 ∷ 2 ∷ []) entries None

-- A struct whose slot 2 is null, with this number below the null.
abbrev pub structs : ℕ → Layout
structs third = layouts.struct (types.struct (two_fields types.boolean types.int32))
    (both (booleans (false ∷ false ∷ true ∷ true ∷ [])) (ints (42 ∷ 28 ∷ third ∷ 31 ∷ []))) (Some (true ∷ true ∷ false ∷ true ∷ []))

abbrev pub eleven : Layout
eleven = ints (0 ∷ 1 ∷ 2 ∷ 3 ∷ 4 ∷ 5 ∷ 6 ∷ 7 ∷ 8 ∷ 9 ∷ 10 ∷ [])

abbrev pub eleven_types : List ℤ
eleven_types = pos 5 ∷ pos 7 ∷ pos 5 ∷ pos 7 ∷ pos 7 ∷ pos 7 ∷ pos 5 ∷ pos 7 ∷ pos 7 ∷ pos 5 ∷ pos 5 ∷ []

abbrev pub with_ids : List ℤ → List ℤ → Layout
with_ids ids ks = layouts.union (sparse_union types.int32 types.int32 (Some ids)) ks (both eleven eleven) None 0

-- A union that alternates between numbers and strings.
abbrev pub in_turn : Layout
in_turn = layouts.union (sparse_union types.int32 types.utf8 None) (pos 0 ∷ pos 1 ∷ pos 0 ∷ pos 1 ∷ [])
    (both (ints (10 ∷ 11 ∷ 12 ∷ 13 ∷ [])) (texts (0 ∷ 1 ∷ 2 ∷ 3 ∷ 4 ∷ []) (97 ∷ 98 ∷ 99 ∷ 100 ∷ []))) None 0

-- A dictionary with null keys only, whose integers are out of range.
abbrev pub null_keys : Layout
null_keys = dictionaries (9 ∷ 9 ∷ []) (Some (false ∷ false ∷ [])) (texts (0 ∷ 1 ∷ []) (120 ∷ []))

-- A dense union of one field and one slot.
abbrev pub dense_of : ℕ → Layout
dense_of o = layouts.union (types.union (more_fields (a_field types.int32) no_fields) None modes.Dense) (pos 0 ∷ []) (more_layouts (ints (7 ∷ [])) no_layouts) (Some (pos o ∷ [])) 0

-- A union of one slot, with two fields of the same data type that each have the slot 7, and this type id.
abbrev pub seven_of : ℕ → Layout
seven_of k = layouts.union (sparse_union types.int32 types.int32 None) (pos k ∷ []) (both (ints (7 ∷ [])) (ints (7 ∷ []))) None 0

-- A list of one row with one item, valid or null.
abbrev pub one_row : Bool → Layout → Layout
one_row valid c = layouts.list false (list_type (layout_type c)) (0 ∷ 1 ∷ []) c (Some (valid ∷ []))

-- A dense union of two slots, which both select slot 0 of field 0.
abbrev pub first_twice : Layout → Layout → Layout
first_twice c d = layouts.union (types.union (two_fields types.int32 types.int32) None modes.Dense) (pos 0 ∷ pos 0 ∷ []) (both c d) (Some (pos 0 ∷ pos 0 ∷ [])) 0

-- A union of n fields and no slots.
abbrev pub int_fields : ℕ → FieldTrees
int_fields zero = no_fields
int_fields (suc n) = more_fields (a_field types.int32) (int_fields n)

abbrev pub int_children : ℕ → Layouts
int_children zero = no_layouts
int_children (suc n) = more_layouts (ints []) (int_children n)

abbrev pub fields_type : ℕ → TypeTree
fields_type n = types.union (int_fields n) None modes.Sparse

abbrev pub of_fields : ℕ → Layout
of_fields n = layouts.union (fields_type n) [] (int_children n) None 0

-- A dictionary with the keys [0,0], whose values are a dictionary with the keys [0] and the value "x".
abbrev pub keys_of_keys : Layout
keys_of_keys = layouts.dictionary (types.dictionary integers.Int8 text_dictionary false) (layouts.primitive primitives.Int8 types.int8 ((pos 0 ∷ []) ∷ (pos 0 ∷ []) ∷ []) None)
    (dictionaries (0 ∷ []) None (texts (0 ∷ 1 ∷ []) (120 ∷ [])))

-- A union with two fields of the same type id.
abbrev pub one_id : Layout
one_id = layouts.union (sparse_union types.int32 types.utf8 (Some (pos 5 ∷ pos 5 ∷ []))) (pos 5 ∷ []) (both (ints (1 ∷ [])) (texts (0 ∷ 1 ∷ []) (97 ∷ []))) None 0

abbrev pub null_text : Layout
null_text = layouts.utf8 false types.utf8 (0 ∷ 0 ∷ []) [] (Some (false ∷ []))

-- The numbers 1 and null, and a null row that covers the item 5.
abbrev pub one_and_null : Layout
one_and_null = layouts.primitive primitives.Int32 types.int32 ((pos 1 ∷ []) ∷ (pos 0 ∷ []) ∷ []) (Some (true ∷ false ∷ []))

abbrev pub null_over_items : Layout
null_over_items = layouts.list false (list_type types.int32) (0 ∷ 2 ∷ 3 ∷ 3 ∷ [])
    (layouts.primitive primitives.Int32 types.int32 ((pos 1 ∷ []) ∷ (pos 0 ∷ []) ∷ (pos 5 ∷ []) ∷ []) (Some (true ∷ false ∷ true ∷ []))) (Some (true ∷ false ∷ true ∷ []))

abbrev pub null_over_nothing : Layout
null_over_nothing = layouts.list false (list_type types.int32) (0 ∷ 2 ∷ 2 ∷ 2 ∷ []) one_and_null (Some (true ∷ false ∷ true ∷ []))

-- Lists of the items 1 to 5 with these offsets.
abbrev pub five_by : List ℕ → Layout
five_by os = lists types.int32 os (ints (1 ∷ 2 ∷ 3 ∷ 4 ∷ 5 ∷ []))

-- The numbers 1 to 6, and fixed-size lists of them.
abbrev pub six : Layout
six = ints (1 ∷ 2 ∷ 3 ∷ 4 ∷ 5 ∷ 6 ∷ [])

abbrev pub pairs_type : ℕ → TypeTree
pairs_type s = types.fixed_size_list (a_field types.int32) s

abbrev pub pairs : ℕ → Validity → Layout
pairs s va = layouts.fixed_size_list (pairs_type s) six va

-- The bytes "ab" and "cd".
abbrev pub two_bytes : Layout
two_bytes = layouts.fixed_size_binary (types.fixed_size_binary 2) (97 ∷ 98 ∷ 99 ∷ 100 ∷ []) None

-- The bytes "hello" and three more bytes. Row 1 is null and covers those bytes or none.
abbrev pub greetings : List ℕ → Validity → Layout
greetings os va = layouts.binary false types.binary os (104 ∷ 101 ∷ 108 ∷ 108 ∷ 111 ∷ 102 ∷ 111 ∷ 111 ∷ []) va

-- The string "aéb".
abbrev pub accented : List ℕ → Layout
accented os = texts os (97 ∷ 195 ∷ 169 ∷ 98 ∷ [])

-- Structs of a number and a string, or of a string and a number.
abbrev pub three_ints : Layout
three_ints = ints (1 ∷ 2 ∷ 3 ∷ [])

abbrev pub two_texts : Layout
two_texts = texts (0 ∷ 1 ∷ 2 ∷ []) (97 ∷ 98 ∷ [])

abbrev pub number_and_text : Layouts → Validity → Layout
number_and_text cs va = layouts.struct (types.struct (two_fields types.int32 types.utf8)) cs va

-- A map whose entries have another data type.
abbrev pub map_over : TypeTree → Layout → Validity → Layout
map_over t c va = layouts.map (types.map (a_field t) false) (0 ∷ 1 ∷ []) c va

abbrev pub one_entry : Layout
one_entry = layouts.struct (types.struct (two_fields types.utf8 types.utf8)) (both (texts (0 ∷ 1 ∷ []) (97 ∷ [])) (texts (0 ∷ 1 ∷ []) (98 ∷ []))) None

-- A dictionary with 8-bit keys and the value "x".
abbrev pub x_by : PrimitiveType → TypeTree → IntegerType → List ℤ → Validity → Layout
x_by k t key zs va = layouts.dictionary (types.dictionary key types.utf8 false) (layouts.primitive k t (map (λ z. z ∷ []) zs) va) (texts (0 ∷ 1 ∷ []) (120 ∷ []))

abbrev pub short_keys : List ℤ → Validity → Layout
short_keys zs va = x_by primitives.Int8 types.int8 integers.Int8 zs va

-- A union over two numbers and one string, which selects only numbers.
abbrev pub short_child : Layout
short_child = layouts.union (sparse_union types.int32 types.utf8 None) (pos 0 ∷ pos 0 ∷ []) (both (ints (1 ∷ 2 ∷ [])) (texts (0 ∷ 1 ∷ []) (97 ∷ []))) None 0

-- A union of one number with these types and offsets, and this mode and ids.
abbrev pub one_number : UnionMode → Option (List ℤ) → List ℤ → Option (List ℤ) → Layout
one_number mode ids ks os = layouts.union (types.union (more_fields (a_field types.int32) no_fields) ids mode) ks (more_layouts (ints (7 ∷ [])) no_layouts) os 0

-- One Boolean with this data type.
abbrev pub bits_of_type : TypeTree → Validity → Layout
bits_of_type t va = layouts.boolean t (true ∷ []) va

-- Two bytes, as binary or as UTF-8, with these offsets. The first byte is a UTF-8 continuation byte.
abbrev pub bytes_by : Bool → TypeTree → List ℕ → Validity → Layout
bytes_by large t os va = layouts.binary large t os (169 ∷ 97 ∷ []) va

abbrev pub text_by : Bool → TypeTree → List ℕ → Validity → Layout
text_by large t os va = layouts.utf8 large t os (169 ∷ 97 ∷ []) va

-- The bytes "abc" with this data type.
abbrev pub fixed_bytes : TypeTree → Validity → Layout
fixed_bytes t va = layouts.fixed_size_binary t (97 ∷ 98 ∷ 99 ∷ []) va

-- A sparse union of n fields with these ids and children.
abbrev pub union_by : ℕ → List ℤ → List ℤ → Layouts → Option (List ℤ) → Layout
union_by n ids ks cs os = layouts.union (types.union (int_fields n) (Some ids) modes.Sparse) ks cs os 0

-- A dictionary with the 8-bit key 9 and these values.
abbrev pub keyed_by_bytes : TypeTree → Layout → Layout
keyed_by_bytes t c = layouts.dictionary t (layouts.primitive primitives.Int8 types.int8 ((pos 9 ∷ []) ∷ []) None) c

-- Two null slots, null 32-bit dates, no numbers.
abbrev pub two_nulls : Validity
two_nulls = Some (false ∷ false ∷ [])

abbrev pub null_dates : ℕ → Layout
null_dates n = layouts.primitive primitives.Int32 types.date32 (replicate n (pos 0 ∷ [])) (Some (replicate n false))

abbrev pub empty_ints : Layout
empty_ints = ints []

-- A data type that has no slots.
abbrev pub no_slot_type : TypeTree
no_slot_type = types.union no_fields None modes.Sparse

-- a list of lists of numbers
abbrev pub lists_slot : List (List ℕ) → Slot
lists_slot rows = list_slot (map numbers rows)

-- an array of each kind that has no keys
abbrev pub keyless : List Layout
keyless =
    layouts.null types.null 1 ∷ structs 19 ∷ small_lists ∷ small_map ∷ in_turn ∷ two_bytes ∷ null_text
    ∷ ints [] ∷ booleans [] ∷ pairs 2 None ∷ greetings (0 ∷ []) None ∷ []

-- data types of null arrays
abbrev pub int_entry_type : TypeTree
int_entry_type = types.struct (two_fields types.int32 types.int32)

abbrev pub int_map_type : TypeTree
int_map_type = types.map (a_field int_entry_type) true

abbrev pub date_union_type : TypeTree
date_union_type = types.union (one_field types.date32) (Some (pos 7 ∷ [])) modes.Dense

abbrev pub date_keys_type : TypeTree
date_keys_type = types.dictionary integers.Int8 types.date32 true

abbrev pub large_date_keys_type : TypeTree
large_date_keys_type = types.dictionary integers.UInt64 types.date32 false

abbrev pub int_keys_type : TypeTree
int_keys_type = types.dictionary integers.Int8 types.int32 false

abbrev pub string_keys_type : TypeTree
string_keys_type = types.dictionary integers.Int8 types.utf8 false
