-- Slots as JSON (RFC 8259). A boolean is a literal, and an integer or a finite floating-point number a number. UTF-8 is a string with the shortest escapes, and binary data
-- a string of hexadecimal digits. A decimal, a date, a time, a timestamp, a duration and an interval are strings too. A list is an array,
-- a struct an object of its fields, and a union an object of the selected field. Another native value of several numbers is an array of
-- them. Names come from the data type.
use Rattle.std.specs.Prelude.{◌≡◌, ℕ, zero, suc, ◌/◌, ◌%◌, ◌==◌, nat_lt, ℤ, Bool, true, false, ◌||◌, List, [], ◌∷◌, ◌++◌, map, flat_map, codes, Option, Some, None, if◌then◌else◌}
use Rattle.std.specs.Char.{digit_char}
use Rattle.std.specs.Fmt.{signed_decimal}
use Rattle.std.specs.List.{join_with_byte}
use Rattle.json.specs.Print.{quoted}
use Rattle.nest_array.specs.WindowParts.{WindowParts, window_slots}
use Rattle.nest_memory.specs.TypeTree as types
use Rattle.nest_memory.specs.TypeTree.{Letters, TypeTree, FieldTree, field, FieldTrees, no_fields, more_fields, field_type}
use Rattle.nest_model.specs.Fits.{EachType}
use Rattle.nest_model.specs.Layout.{Layout, Layouts, layout_type}
use Rattle.nest_model.specs.Meaning.{each, run, slot, slots_of}
use Rattle.nest_model.specs.Slot as slots
use Rattle.nest_model.specs.Slot.{Slot, Slots, no_slots, more_slots, seal}
use Rattle.json_write.specs.Floats.{json_of_float}
use Rattle.json_write.specs.Formats.{format_of_type, text_of_numbers}
use Rattle.json_write.specs.declared.format.ValueFormat.{ValueFormat}
use Rattle.json_write.specs.declared.format.ValueFormat.TheVariants.{Float}

-- the data type of a list's items; for a dictionary that of its values, for an extension that of its storage
abbrev pub items_type : TypeTree → TypeTree
items_type (types.list f) = field_type f
items_type (types.fixed_size_list f s) = field_type f
items_type (types.large_list f) = field_type f
items_type (types.map f b) = field_type f
items_type (types.dictionary k t b) = items_type t
items_type (types.extension n t m) = items_type t
items_type t = types.null

-- the fields of a struct or a union
abbrev pub members_of : TypeTree → FieldTrees
members_of (types.struct fs) = fs
members_of (types.union fs ids mode) = fs
members_of (types.dictionary k t b) = members_of t
members_of (types.extension n t m) = members_of t
members_of t = no_fields

abbrev pub field_name : FieldTree → Letters
field_name (field n t b es) = n

abbrev pub field_name_at : FieldTrees → ℕ → Letters
field_name_at no_fields k = []
field_name_at (more_fields f fs) zero = field_name f
field_name_at (more_fields f fs) (suc k) = field_name_at fs k

-- RFC 8259, section 7: the quote, the backslash and control characters must be escaped
abbrev pub must_escape : ℕ → Bool
must_escape b = nat_lt b 32 || (b == 34) || (b == 92)

-- the two lower-case hexadecimal digits of a byte
abbrev pub hex_byte : ℕ → List ℕ
hex_byte b = digit_char (b / 16) ∷ digit_char (b % 16) ∷ []

abbrev pub hex_quoted : List ℕ → List ℕ
hex_quoted bs = quoted (flat_map hex_byte bs)

-- a native value of one number is that number; any other is the array of its numbers
abbrev pub json_of_number : List ℤ → List ℕ
json_of_number (z ∷ []) = signed_decimal z
json_of_number zs = 91 ∷ (join_with_byte 44 (map signed_decimal zs) ++ 93 ∷ [])

-- a value without a text
abbrev pub json_of_numbers : ValueFormat → List ℤ → List ℕ
json_of_numbers (Float precision) (z ∷ []) = json_of_float precision z
json_of_numbers v zs = json_of_number zs

-- the string of a text, or other JSON where there is none
abbrev pub string_or : Option (List ℕ) → List ℕ → List ℕ
string_or (Some text) json = quoted text
string_or None json = json

abbrev pub json_of_value : ValueFormat → List ℤ → List ℕ
json_of_value v zs = string_or (text_of_numbers v zs) (json_of_numbers v zs)

-- a slot of a native type in a format
abbrev pub json_of_native : ValueFormat → Slot → List ℕ
json_of_native v (slots.number zs) = json_of_value v zs
json_of_native v s = codes "null"

-- the separator before an item or a member that follows another
abbrev pub comma : Bool → List ℕ
comma after = if after then 44 ∷ [] else []

abbrev mutual
  pub json_of_slot : TypeTree → Slot → List ℕ
  json_of_slot t slots.null = codes "null"
  json_of_slot t (slots.boolean b) = if b then codes "true" else codes "false"
  json_of_slot t (slots.number zs) = json_of_value (format_of_type t) zs
  json_of_slot t (slots.utf8 bs) = quoted bs
  json_of_slot t (slots.bytes bs) = hex_quoted bs
  json_of_slot t (slots.list ss) = 91 ∷ (json_items (items_type t) false ss ++ 93 ∷ [])
  json_of_slot t (slots.record_of ss) = 123 ∷ (json_members (members_of t) false ss ++ 125 ∷ [])
  json_of_slot t (slots.pick f u s) = 123 ∷ (quoted (field_name_at (members_of t) f) ++ 58 ∷ (json_of_slot u s ++ 125 ∷ []))

  -- the items, separated by commas
  pub json_items : TypeTree → Bool → Slots → List ℕ
  json_items t after no_slots = []
  json_items t after (more_slots s ss) = comma after ++ (json_of_slot t s ++ json_items t true ss)

  -- the members, each named after its field, separated by commas
  pub json_members : FieldTrees → Bool → Slots → List ℕ
  json_members fs after no_slots = []
  json_members no_fields after (more_slots s ss) = []
  json_members (more_fields f fs) after (more_slots s ss) = comma after ++ (quoted (field_name f) ++ 58 ∷ (json_of_slot (field_type f) s ++ json_members fs true ss))

-- what precedes the value of each member
abbrev pub prefix_of : Bool → Letters → List ℕ
prefix_of after name = comma after ++ (quoted name ++ 58 ∷ [])

abbrev pub prefixes_of : FieldTrees → Bool → List (List ℕ)
prefixes_of no_fields after = []
prefixes_of (more_fields f fs) after = prefix_of after (field_name f) ∷ prefixes_of fs true

-- `P` holds of the fields that have these member prefixes and the types of these children
abbrev pub ForFields : List (List ℕ) → Layouts → (FieldTrees → Type 0) → Type 0
ForFields prefixes children P = (fs : FieldTrees) → EachType fs children → prefixes ≡ prefixes_of fs false → P fs

-- slots of a data type, as a JSON array
abbrev pub json_list : TypeTree → List Slot → List ℕ
json_list t ss = 91 ∷ (json_items t false (seal ss) ++ 93 ∷ [])

-- slot `i` of an array
abbrev pub slot_json : Layout → ℕ → List ℕ
slot_json a i = json_of_slot (layout_type a) (slot a i)

-- `count` slots of an array from index `start`, separated by commas
abbrev pub slots_json : Layout → ℕ → ℕ → List ℕ
slots_json a start count = json_items (layout_type a) false (seal (run (slot a) start count))

-- slot `i` of each child array, as the members of an object
abbrev pub members_json : FieldTrees → Layouts → ℕ → List ℕ
members_json fs children i = json_members fs false (each children i)

abbrev pub json_of_array : Layout → List ℕ
json_of_array a = json_list (layout_type a) (slots_of a)

abbrev pub json_of_window : WindowParts → List ℕ
json_of_window w = json_list (layout_type w.array) (window_slots w)
