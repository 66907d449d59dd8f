-- The arrays of the guide, slot by slot.
use Rattle.std.specs.Prelude.{◌≡◌, ◌-◌, ℕ, suc, ℤ, pos, ◌+ℤ◌, max, true, false, None, Some, List, [], ◌∷◌, codes}
use Rattle.nest_memory.specs.Sublist.{sublist}
use Rattle.nest_memory.specs.TypeTree as types
use Rattle.nest_memory.specs.TypeTree.{TypeTree, FieldTrees, field, more_fields, no_fields}
use Rattle.nest_memory.specs.declared.datatypes.physical_type.PrimitiveType.TheVariants as primitives
use Rattle.nest_model.specs.BuilderTree as builders
use Rattle.nest_model.specs.BuilderTree.{BuilderTree}
use Rattle.nest_model.specs.Layout as layouts
use Rattle.nest_model.specs.Layout.{Layout, Layouts, layout_type}
use Rattle.nest_model.specs.Meaning.{len, slots_of}
use Rattle.nest_model.specs.Slot as slots
use Rattle.nest_model.specs.Slot.{Slot, Slots, seal}

abbrev pub number : ℕ → Slot
number n = slots.number (pos n ∷ [])

abbrev pub list_slot : List Slot → Slot
list_slot items = slots.list (seal items)

abbrev pub struct_slot : List Slot → Slot
struct_slot parts = slots.record_of (seal parts)

-- 1, null, 3, 4
abbrev pub four_numbers : List Slot
four_numbers = number 1 ∷ slots.null ∷ number 3 ∷ number 4 ∷ []

-- its layout: the value under the null is 2
abbrev pub numbers_layout : Layout
numbers_layout = layouts.primitive primitives.Int64 types.int64 ((pos 1 ∷ []) ∷ (pos 2 ∷ []) ∷ (pos 3 ∷ []) ∷ (pos 4 ∷ []) ∷ []) (Some (true ∷ false ∷ true ∷ true ∷ []))

-- 1, null, 3
abbrev pub three_numbers : List Slot
three_numbers = number 1 ∷ slots.null ∷ number 3 ∷ []

-- true, null, false, true
abbrev pub four_booleans : List Slot
four_booleans = slots.boolean true ∷ slots.null ∷ slots.boolean false ∷ slots.boolean true ∷ []

-- "ab", "", null, "c"
abbrev pub four_strings : List Slot
four_strings = slots.utf8 (97 ∷ 98 ∷ []) ∷ slots.utf8 [] ∷ slots.null ∷ slots.utf8 (99 ∷ []) ∷ []

-- its layout
abbrev pub strings_layout : Layout
strings_layout = layouts.utf8 false types.utf8 (0 ∷ 2 ∷ 2 ∷ 2 ∷ 3 ∷ []) (97 ∷ 98 ∷ 99 ∷ []) (Some (true ∷ true ∷ false ∷ true ∷ []))

-- the bytes 1 2, the byte 3
abbrev pub two_binaries : List Slot
two_binaries = slots.bytes (1 ∷ 2 ∷ []) ∷ slots.bytes (3 ∷ []) ∷ []

-- null, null, null
abbrev pub three_nulls : List Slot
three_nulls = slots.null ∷ slots.null ∷ slots.null ∷ []

-- "ab", "cd", as bytes
abbrev pub two_fixed_binaries : List Slot
two_fixed_binaries = slots.bytes (97 ∷ 98 ∷ []) ∷ slots.bytes (99 ∷ 100 ∷ []) ∷ []

-- [1, null], null, [3, 4]
abbrev pub three_lists : List Slot
three_lists = list_slot (number 1 ∷ slots.null ∷ []) ∷ slots.null ∷ list_slot (number 3 ∷ number 4 ∷ []) ∷ []

-- [1, null], [3, 4]
abbrev pub two_pairs : List Slot
two_pairs = list_slot (number 1 ∷ slots.null ∷ []) ∷ list_slot (number 3 ∷ number 4 ∷ []) ∷ []

-- {1, "ab"}
abbrev pub first_struct : Slot
first_struct = struct_slot (number 1 ∷ slots.utf8 (97 ∷ 98 ∷ []) ∷ [])

-- {null, ""}
abbrev pub second_struct : Slot
second_struct = struct_slot (slots.null ∷ slots.utf8 [] ∷ [])

-- {3, null}
abbrev pub third_struct : Slot
third_struct = struct_slot (number 3 ∷ slots.null ∷ [])

-- {4, "c"}
abbrev pub fourth_struct : Slot
fourth_struct = struct_slot (number 4 ∷ slots.utf8 (99 ∷ []) ∷ [])

abbrev pub four_structs : List Slot
four_structs = first_struct ∷ second_struct ∷ third_struct ∷ fourth_struct ∷ []

-- their fields, children and layout
abbrev pub struct_fields : FieldTrees
struct_fields = more_fields (field (codes "number") types.int64 true []) (more_fields (field (codes "text") types.utf8 true []) no_fields)

abbrev pub child_layouts : Layouts
child_layouts = layouts.more_layouts numbers_layout (layouts.more_layouts strings_layout layouts.no_layouts)

abbrev pub structs_layout : Layout
structs_layout = layouts.struct (types.struct struct_fields) child_layouts None

-- the data types of lists of these structs, and of maps of them
abbrev pub struct_list_type : TypeTree
struct_list_type = types.list (field (codes "item") (types.struct struct_fields) true [])

abbrev pub map_type : TypeTree
map_type = types.map (field (codes "entries") (types.struct struct_fields) false []) false

-- the first struct, the other three
abbrev pub two_struct_lists : List Slot
two_struct_lists = list_slot (first_struct ∷ []) ∷ list_slot (second_struct ∷ third_struct ∷ fourth_struct ∷ []) ∷ []

-- the first two structs, the last two
abbrev pub two_maps : List Slot
two_maps = list_slot (first_struct ∷ second_struct ∷ []) ∷ list_slot (third_struct ∷ fourth_struct ∷ []) ∷ []

-- the number 1, the string "", a null string, the number 4
abbrev pub four_union_values : List Slot
four_union_values = slots.pick 0 types.int64 (number 1) ∷ slots.pick 1 types.utf8 (slots.utf8 []) ∷ slots.pick 1 types.utf8 slots.null ∷ slots.pick 0 types.int64 (number 4) ∷ []

-- "c", null, "ab", "c"
abbrev pub four_dictionary_values : List Slot
four_dictionary_values = slots.utf8 (99 ∷ []) ∷ slots.null ∷ slots.utf8 (97 ∷ 98 ∷ []) ∷ slots.utf8 (99 ∷ []) ∷ []

-- [1, 2], null, [], [3, null]
abbrev pub four_lists : List Slot
four_lists = list_slot (number 1 ∷ number 2 ∷ []) ∷ slots.null ∷ list_slot [] ∷ list_slot (number 3 ∷ slots.null ∷ []) ∷ []

-- [], [3, null]
abbrev pub last_two_lists : List Slot
last_two_lists = list_slot [] ∷ list_slot (number 3 ∷ slots.null ∷ []) ∷ []

-- true, null
abbrev pub pushed_booleans : List Slot
pushed_booleans = slots.boolean true ∷ slots.null ∷ []

-- "ab", null
abbrev pub pushed_strings : List Slot
pushed_strings = slots.utf8 (97 ∷ 98 ∷ []) ∷ slots.null ∷ []

-- "ab", null, as bytes
abbrev pub pushed_binaries : List Slot
pushed_binaries = slots.bytes (97 ∷ 98 ∷ []) ∷ slots.null ∷ []

-- "ab", "cd", as bytes
abbrev pub pushed_fixed_binaries : List Slot
pushed_fixed_binaries = two_fixed_binaries

-- [1, null], null, [3, 4]
abbrev pub three_pairs : List Slot
three_pairs = three_lists

-- "ab", "c", null, "ab"
abbrev pub pushed_dictionary_values : List Slot
pushed_dictionary_values = slots.utf8 (97 ∷ 98 ∷ []) ∷ slots.utf8 (99 ∷ []) ∷ slots.null ∷ slots.utf8 (97 ∷ 98 ∷ []) ∷ []

-- an array ends with the slots of another of its data type
abbrev pub EndsWith : Layout → Layout → Type 0
EndsWith column tail = (layout_type column ≡ layout_type tail) × (sublist (slots_of column) (len column - len tail) (len tail) ≡ slots_of tail)

-- the sum of the slots that are numbers
abbrev pub total : List Slot → ℤ
total [] = pos 0
total (slots.number (z ∷ []) ∷ xs) = z +ℤ total xs
total (x ∷ xs) = total xs

-- the number of slots
abbrev pub item_count : Slots → ℕ
item_count slots.no_slots = 0
item_count (slots.more_slots x xs) = suc (item_count xs)

-- the length of the longest list
abbrev pub max_list_length : List Slot → ℕ
max_list_length [] = 0
max_list_length (slots.list xs ∷ rest) = max (item_count xs) (max_list_length rest)
max_list_length (x ∷ rest) = max_list_length rest

-- an empty builder of fixed-size lists of two 64-bit integers
abbrev pub empty_pair_builder : BuilderTree
empty_pair_builder = builders.fixed_size_list (types.fixed_size_list (field (codes "item") types.int64 true []) 2) [] (builders.flat types.int64 [])
