-- An item to push into a builder: null, a plain value, or a list of items.
use Rattle.std.specs.Prelude.{◌≡◌, ℕ, suc, ◌+◌, ◌<◌, ℤ, Bool, true, false, nat_eq, ◌==◌, cond, List, [], ◌∷◌, length, get_or, Option, Some, None}
use Rattle.std.specs.Bool.{beq}
use Rattle.std.specs.Option.{option_map}
use Rattle.std.specs.Ordering.{int_eq}
use Rattle.std.specs.Cmp.Lexicographic.{pointwise}
use Rattle.nest_memory.specs.Physical.{physical_type}
use Rattle.nest_memory.specs.declared.datatypes.physical_type.PhysicalType.{PhysicalType}
use Rattle.nest_memory.specs.declared.datatypes.physical_type.PhysicalType.TheVariants as physical
use Rattle.nest_memory.specs.declared.datatypes.physical_type.PrimitiveType.{PrimitiveType}
use Rattle.nest_memory.specs.declared.datatypes.physical_type.PrimitiveType.TheVariants as primitives
use Rattle.nest_model.specs.Slot as slots
use Rattle.nest_model.specs.Slot.{Slot, Slots, seal}
use Rattle.nest_model.specs.BuilderTree.{BuilderTree, flat, list, fixed_size_list, dictionary, struct, builder_len}
use Rattle.nest_model.specs.BuilderLevels.{own_slots}

-- a value of a flat builder; a native value has a kind and the integers of its parts
pub data PlainValue : Type 0 where
  boolean : Bool → PlainValue
  native : PrimitiveType → List ℤ → PlainValue
  utf8 : List ℕ → PlainValue
  bytes : List ℕ → PlainValue

mutual
  pub data Item : Type 0 where
    null : Item
    plain : PlainValue → Item
    list_of : Items → Item

  pub data Items : Type 0 where
    no_items : Items
    more_items : Item → Items → Items

-- a list of items inside an item, and back
abbrev pub seal_items : List Item → Items
seal_items [] = no_items
seal_items (x ∷ xs) = more_items x (seal_items xs)

abbrev pub unseal_items : Items → List Item
unseal_items no_items = []
unseal_items (more_items x xs) = x ∷ unseal_items xs

abbrev pub count_items : Items → ℕ
count_items no_items = 0
count_items (more_items x xs) = suc (count_items xs)

-- the slot of a value
abbrev pub slot_of_plain : PlainValue → Slot
slot_of_plain (boolean b) = slots.boolean b
slot_of_plain (native p zs) = slots.number zs
slot_of_plain (utf8 t) = slots.utf8 t
slot_of_plain (bytes b) = slots.bytes b

-- the slot of an item; a list of items is the list of their slots
abbrev mutual
  pub slot_of_item : Item → Slot
  slot_of_item null = slots.null
  slot_of_item (plain v) = slot_of_plain v
  slot_of_item (list_of xs) = slots.list (slots_of_items xs)

  pub slots_of_items : Items → Slots
  slots_of_items no_items = slots.no_slots
  slots_of_items (more_items x xs) = slots.more_slots (slot_of_item x) (slots_of_items xs)

abbrev pub native_number : PrimitiveType → ℕ
native_number primitives.Int8 = 0
native_number primitives.Int16 = 1
native_number primitives.Int32 = 2
native_number primitives.Int64 = 3
native_number primitives.Int128 = 4
native_number primitives.Int256 = 5
native_number primitives.UInt8 = 6
native_number primitives.UInt16 = 7
native_number primitives.UInt32 = 8
native_number primitives.UInt64 = 9
native_number primitives.Float16 = 10
native_number primitives.Float32 = 11
native_number primitives.Float64 = 12
native_number primitives.DaysMs = 13
native_number primitives.MonthDayNano = 14

-- whether arrays of a physical type hold values of that kind
abbrev pub holds_kind : PhysicalType → PlainValue → Bool
holds_kind physical.Boolean (boolean b) = true
holds_kind (physical.Primitive p) (native q zs) = nat_eq (native_number p) (native_number q)
holds_kind physical.Utf8 (utf8 t) = true
holds_kind physical.LargeUtf8 (utf8 t) = true
holds_kind physical.Binary (bytes b) = true
holds_kind physical.LargeBinary (bytes b) = true
holds_kind physical.FixedSizeBinary (bytes b) = true
holds_kind _ _ = false

-- whether a builder accepts values of that kind: a flat builder its own kind, a dictionary the kind of its values,
-- other builders none
abbrev pub takes : BuilderTree → PlainValue → Bool
takes (flat t xs) v = holds_kind (physical_type t) v
takes (list large t rows c) v = false
takes (fixed_size_list t bits c) v = false
takes (dictionary k t keys c) v = takes c v
takes (struct t bits cs) v = false

-- whether a slot equals that value
abbrev pub is_value : PlainValue → Slot → Bool
is_value (boolean a) (slots.boolean b) = beq a b
is_value (native p zs) (slots.number ws) = pointwise int_eq zs ws
is_value (utf8 s) (slots.utf8 t) = pointwise ◌==◌ s t
is_value (bytes a) (slots.bytes b) = pointwise ◌==◌ a b
is_value _ _ = false

-- the builder accepts that kind, and its slot i equals the value
abbrev pub Holds : BuilderTree → ℕ → PlainValue → Type 0
Holds t i v = (takes t v ≡ true) × (get_or (own_slots t) i slots.null ≡ slot_of_plain v)

-- the value is slot k of the builder, and no slot of the builder is the value
abbrev pub IsValueAt : BuilderTree → PlainValue → ℕ → Type 0
IsValueAt t v k = (k < builder_len t) × Holds t k v

abbrev pub Lacks : BuilderTree → PlainValue → Type 0
Lacks t v = (k : ℕ) → ¬ IsValueAt t v k

-- the first index of the value
abbrev pub position_of : PlainValue → List Slot → Option ℕ
position_of v [] = None
position_of v (x ∷ xs) = cond (is_value v x) (Some 0) (option_map suc (position_of v xs))

-- the number of bytes of a value, and of the values in a list of slots
abbrev pub byte_count : Slot → ℕ
byte_count (slots.utf8 t) = length t
byte_count (slots.bytes b) = length b
byte_count _ = 0

abbrev pub bytes_held : List Slot → ℕ
bytes_held [] = 0
bytes_held (x ∷ xs) = byte_count x + bytes_held xs
