-- The slot that a scalar's value represents, and the values that fit a data type (this library's own).
use Rattle.std.specs.Prelude.{◌≡◌, ℕ, Some, string_bytes}
use Rattle.nest_memory.specs.Physical.{physical_type}
use Rattle.nest_memory.specs.TypeTree as types
use Rattle.nest_memory.specs.TypeTree.{TypeTree, item_type, fields_of}
use Rattle.nest_memory.specs.declared.datatypes.physical_type.PhysicalType.TheVariants as physical
use Rattle.nest_model.specs.Layout.{Layout, layout_type, field_types}
use Rattle.nest_model.specs.Meaning.{slot, slots_of}
use Rattle.nest_model.specs.Slot as slots
use Rattle.nest_model.specs.Slot.{Slot, seal}
use Rattle.nest_flat.specs.AnyNative.{native_kind, native_numbers}
use Rattle.nest_array.specs.ScalarParts.{slots_in, types_in}
use Rattle.nest_array.specs.Seen.{layout_of}
use Rattle.nest_array.specs.declared.scalar.ScalarValue.{ScalarValue}
use Rattle.nest_array.specs.declared.scalar.ScalarValue.TheVariants.{Null, Boolean, Native, Text, Bytes, List, Struct, Pick}

-- the slot, part by part
abbrev pub slot_of_value : ScalarValue → Slot
slot_of_value Null = slots.null
slot_of_value (Boolean b) = slots.boolean b
slot_of_value (Native x) = slots.number (native_numbers x)
slot_of_value (Text s) = slots.utf8 (string_bytes s)
slot_of_value (Bytes v) = slots.bytes v.items
slot_of_value (List a) = slots.list (seal (slots_of (layout_of a)))
slot_of_value (Struct v) = slots.record_of (slots_in v.items)
slot_of_value (Pick f b) = slots.pick f b.value.data_type b.value.slot

-- the type of the values in the slots: without extensions, and of a dictionary its value type
abbrev pub shown_type : TypeTree → TypeTree
shown_type (types.dictionary k t b) = shown_type t
shown_type (types.extension n t m) = shown_type t
shown_type t = t

-- the parts of a value have the types in the data type
abbrev pub ValueFits : TypeTree → ScalarValue → Type 0
ValueFits t (Native x) = physical_type (shown_type t) ≡ physical.Primitive (native_kind x)
ValueFits t (List a) = item_type (shown_type t) ≡ Some (layout_type (layout_of a))
ValueFits t (Struct v) = field_types (fields_of (shown_type t)) ≡ types_in v.items
ValueFits t v = Unit {0}

-- the value of slot i of an array
pub record IsValue (a : Layout) (i : ℕ) (v : ScalarValue) : Type 0 where
  pub spells : slot_of_value v ≡ slot a i
  pub fits : ValueFits (layout_type a) v
