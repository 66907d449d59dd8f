-- The slot of a JSON value under a data type, or its error. Null is a null of any type. An array is a list slot of its items. An object is
-- a struct slot of its members, in any order; a field without a member is null.
use Rattle.std.specs.Prelude.{ℕ, suc, ℤ, List, [], ◌∷◌, ◌++◌, Bool, false, ◌||◌, not, bytes_eq, ◌==◌, Option, Some, None, if◌then◌else◌}
use Rattle.std.specs.List.{list_any}
use Rattle.json.specs.Json as json
use Rattle.json.specs.Json.{Json, Items, no_items, item, Members, no_members, member}
use Rattle.nest_array.specs.SeenScalar.{shown_type}
use Rattle.json_read.specs.NativeNumbers.{number_values, string_values}
use Rattle.json_read.specs.FlatValues.{first_error, error_unless, item_numbers, bytes_of_hex, flat_error}
use Rattle.json_read.specs.declared.value_error.ValueError.{ValueError}
use Rattle.json_read.specs.declared.value_error.ValueError.TheVariants.{WrongType, WrongLength, UnknownField, DuplicateField}
use Rattle.nest_memory.specs.Physical.{physical_type}
use Rattle.nest_memory.specs.TypeTree as types
use Rattle.nest_memory.specs.TypeTree.{Letters, TypeTree, FieldTrees, no_fields, more_fields, field_type, size_of}
use Rattle.nest_memory.specs.declared.datatypes.physical_type.PhysicalType.{PhysicalType}
use Rattle.nest_memory.specs.declared.datatypes.physical_type.PhysicalType.TheVariants as physical
use Rattle.nest_model.specs.Slot as slots
use Rattle.nest_model.specs.Slot.{Slot, Slots, no_slots, more_slots}
use Rattle.json_write.specs.Formats.{format_of_type}
use Rattle.json_write.specs.declared.format.ValueFormat.{ValueFormat}
use Rattle.json_write.specs.JsonText.{items_type, members_of, field_name}
use Rattle.json_write.specs.TypedSlots.{SlotKind, slot_kind, numbers, binaries}

-- a string is UTF-8, or for binary types the bytes that its digits encode, or for native values the value with this text
abbrev pub string_slot : SlotKind → ValueFormat → List ℕ → Slot
string_slot numbers v s = slots.number (string_values v s)
string_slot binaries v s = slots.bytes (bytes_of_hex s)
string_slot _ v s = slots.utf8 s

-- an array is a list slot of its items, or for native values the value of its numbers
abbrev pub array_slot : SlotKind → List ℤ → Slots → Slot
array_slot numbers zs ss = slots.number zs
array_slot _ zs ss = slots.list ss

-- whether a field has that name
abbrev pub is_named : Letters → FieldTrees → Bool
is_named n no_fields = false
is_named n (more_fields f fs) = bytes_eq (field_name f) n || is_named n fs

-- the data type of the first field of that name
abbrev pub type_named : Letters → FieldTrees → TypeTree
type_named n no_fields = types.null
type_named n (more_fields f fs) = if bytes_eq (field_name f) n then field_type f else type_named n fs

-- the slot of the first member of that name, or null if there is none
abbrev pub slot_named : Letters → List (Letters × Slot) → Slot
slot_named n [] = slots.null
slot_named n (p ∷ ps) = if bytes_eq p.0 n then p.1 else slot_named n ps

-- the slots of members in the order of the fields
abbrev pub field_slots : FieldTrees → List (Letters × Slot) → Slots
field_slots no_fields ps = no_slots
field_slots (more_fields f fs) ps = more_slots (slot_named (field_name f) ps) (field_slots fs ps)

abbrev mutual
  pub slot_of : TypeTree → Json → Slot
  slot_of t json.null = slots.null
  slot_of t (json.boolean b) = slots.boolean b
  slot_of t (json.number s) = slots.number (number_values (format_of_type t) s)
  slot_of t (json.string s) = string_slot (slot_kind t) (format_of_type t) s
  slot_of t (json.array js) = array_slot (slot_kind t) (item_numbers js) (item_slots (items_type t) js)
  slot_of t (json.object ms) = slots.record_of (field_slots (members_of t) (member_slots (members_of t) ms))

  pub item_slots : TypeTree → Items → Slots
  item_slots t no_items = no_slots
  item_slots t (item j js) = more_slots (slot_of t j) (item_slots t js)

  -- the name and the slot of each member
  pub member_slots : FieldTrees → Members → List (Letters × Slot)
  member_slots fs no_members = []
  member_slots fs (member k j ms) = (k, slot_of (type_named k fs) j) ∷ member_slots fs ms

-- the slot of an object under these fields
abbrev pub struct_slot : FieldTrees → Members → Slot
struct_slot fs ms = slots.record_of (field_slots fs (member_slots fs ms))

abbrev pub json_item_count : Items → ℕ
json_item_count no_items = 0
json_item_count (item j js) = suc (json_item_count js)

-- the number of items of a fixed-size list
abbrev pub list_length_error : Option ℕ → ℕ → Option ValueError
list_length_error None n = None
list_length_error (Some size) n = error_unless (size == n) WrongLength

-- the error of an array for a physical type
abbrev pub array_error : PhysicalType → ℕ → ValueFormat → Items → Option ValueError → Option ValueError
array_error physical.List size v js inside = inside
array_error physical.LargeList size v js inside = inside
array_error physical.FixedSizeList size v js inside = first_error inside (list_length_error (Some size) (json_item_count js))
array_error p size v js inside = flat_error p size v (json.array js)

abbrev pub object_error : PhysicalType → Option ValueError → Option ValueError
object_error physical.Struct inside = inside
object_error p inside = Some WrongType

-- the physical type of the values: for a dictionary that of its values, for an extension that of its storage
abbrev pub values_physical_type : TypeTree → PhysicalType
values_physical_type t = physical_type (shown_type t)

-- a name that no field has, or that a member before has
abbrev pub name_error : FieldTrees → List Letters → Letters → Option ValueError
name_error fs before k = first_error (error_unless (is_named k fs) UnknownField) (error_unless (not (list_any (λ q. bytes_eq q k) before)) DuplicateField)

-- the first error in the order of the text
abbrev mutual
  pub value_error : TypeTree → Json → Option ValueError
  value_error t json.null = None
  value_error t (json.boolean b) = flat_error (values_physical_type t) (size_of (shown_type t)) (format_of_type t) (json.boolean b)
  value_error t (json.number s) = flat_error (values_physical_type t) (size_of (shown_type t)) (format_of_type t) (json.number s)
  value_error t (json.string s) = flat_error (values_physical_type t) (size_of (shown_type t)) (format_of_type t) (json.string s)
  value_error t (json.array js) = array_error (values_physical_type t) (size_of (shown_type t)) (format_of_type t) js (items_error (items_type t) js)
  value_error t (json.object ms) = object_error (values_physical_type t) (members_error (members_of t) [] ms)

  pub items_error : TypeTree → Items → Option ValueError
  items_error t no_items = None
  items_error t (item j js) = first_error (value_error t j) (items_error t js)

  -- `before` are the names of the members before
  pub members_error : FieldTrees → List Letters → Members → Option ValueError
  members_error fs before no_members = None
  members_error fs before (member k j ms) = first_error (name_error fs before k) (first_error (value_error (type_named k fs) j) (members_error fs (before ++ k ∷ []) ms))

-- the same for a type without children
abbrev pub flat_value_error : TypeTree → Json → Option ValueError
flat_value_error t json.null = None
flat_value_error t j = flat_error (values_physical_type t) (size_of (shown_type t)) (format_of_type t) j
