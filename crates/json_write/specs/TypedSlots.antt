-- The slots of a data type, and the data types whose slots are determined by their JSON text.
use Rattle.std.specs.Prelude.{◌≡◌, ◌≢◌, ℕ, zero, suc, ◌*◌, ◌^◌, ◌<◌, ℤ, pos, negsuc, true, from_bits, List, [], ◌∷◌, Option, Some, None, refl}
use Rattle.std.specs.Float.Ieee.{Format, binary32, binary64, nan, top}
use Rattle.std.specs.Int.Signed.{mag}
use Rattle.float_text.specs.Half.{half_value}
use Rattle.nest_array.specs.SeenScalar.{shown_type}
use Rattle.nest_memory.specs.Physical.{physical_type}
use Rattle.nest_memory.specs.TypeTree as types
use Rattle.nest_memory.specs.TypeTree.{Letters, TypeTree, FieldTree, field, FieldTrees, no_fields, more_fields, field_type}
use Rattle.nest_memory.specs.declared.datatypes.floats.Precision.{Precision}
use Rattle.nest_memory.specs.declared.datatypes.floats.Precision.TheVariants.{Half, Single, Double}
use Rattle.nest_memory.specs.declared.datatypes.physical_type.PhysicalType.{PhysicalType}
use Rattle.nest_memory.specs.declared.datatypes.physical_type.PhysicalType.TheVariants as physical
use Rattle.nest_memory.specs.declared.datatypes.UnionMode.TheVariants.{Sparse}
use Rattle.nest_model.specs.Slot as slots
use Rattle.nest_model.specs.Slot.{Slot, Slots, no_slots, more_slots}
use Rattle.json_write.specs.Formats.{format_of_type}
use Rattle.json_write.specs.JsonText.{items_type, members_of, field_name, json_of_slot}
use Rattle.json_write.specs.declared.format.ValueFormat.{ValueFormat}
use Rattle.json_write.specs.declared.format.ValueFormat.TheVariants.{Float}

-- the kind of the non-null slots of a data type
pub data SlotKind : Type 0 where
  nulls : SlotKind
  booleans : SlotKind
  numbers : SlotKind
  strings : SlotKind
  binaries : SlotKind
  lists : SlotKind
  structs : SlotKind
  unions : SlotKind

abbrev pub kind_of : PhysicalType → SlotKind
kind_of physical.Null = nulls
kind_of physical.Boolean = booleans
kind_of (physical.Primitive k) = numbers
kind_of physical.Binary = binaries
kind_of physical.FixedSizeBinary = binaries
kind_of physical.LargeBinary = binaries
kind_of physical.Utf8 = strings
kind_of physical.LargeUtf8 = strings
kind_of physical.List = lists
kind_of physical.FixedSizeList = lists
kind_of physical.LargeList = lists
kind_of physical.Map = lists
kind_of physical.Struct = structs
kind_of physical.Union = unions
kind_of (physical.Dictionary k) = nulls

-- for a dictionary that of its values, for an extension that of its storage
abbrev pub slot_kind : TypeTree → SlotKind
slot_kind t = kind_of (physical_type (shown_type t))

abbrev pub field_type_at : FieldTrees → ℕ → Option TypeTree
field_type_at no_fields k = None
field_type_at (more_fields f fs) zero = Some (field_type f)
field_type_at (more_fields f fs) (suc k) = field_type_at fs k

-- An array of the data type can have the slot. Null is a slot of any type. The items of a list are slots of its item type. A struct has a
-- slot for each field, and a union has a slot of the selected field.
abbrev mutual
  pub IsSlotOf : TypeTree → Slot → Type 0
  IsSlotOf t slots.null = Unit {0}
  IsSlotOf t (slots.boolean b) = slot_kind t ≡ booleans
  IsSlotOf t (slots.number zs) = slot_kind t ≡ numbers
  IsSlotOf t (slots.utf8 bs) = slot_kind t ≡ strings
  IsSlotOf t (slots.bytes bs) = slot_kind t ≡ binaries
  IsSlotOf t (slots.list ss) = (slot_kind t ≡ lists) × AreItems (items_type t) ss
  IsSlotOf t (slots.record_of ss) = (slot_kind t ≡ structs) × AreMembers (members_of t) ss
  IsSlotOf t (slots.pick f u s) = (slot_kind t ≡ unions) × (field_type_at (members_of t) f ≡ Some u) × IsSlotOf u s

  pub AreItems : TypeTree → Slots → Type 0
  AreItems t no_slots = Unit {0}
  AreItems t (more_slots s ss) = IsSlotOf t s × AreItems t ss

  pub AreMembers : FieldTrees → Slots → Type 0
  AreMembers no_fields no_slots = Unit {0}
  AreMembers no_fields (more_slots s ss) = ⊥
  AreMembers (more_fields f fs) no_slots = ⊥
  AreMembers (more_fields f fs) (more_slots s ss) = IsSlotOf (field_type f) s × AreMembers fs ss

-- integers of at most 128 bits, as those of all native values are
abbrev pub NumbersFitIn128Bits : List ℤ → Type 0
NumbersFitIn128Bits [] = Unit {0}
NumbersFitIn128Bits (z ∷ zs) = (mag z < 2 ^ 128) × NumbersFitIn128Bits zs

-- all integers of the slot have at most 128 bits
abbrev mutual
  pub FitsIn128Bits : Slot → Type 0
  FitsIn128Bits slots.null = Unit {0}
  FitsIn128Bits (slots.boolean b) = Unit {0}
  FitsIn128Bits (slots.number zs) = NumbersFitIn128Bits zs
  FitsIn128Bits (slots.utf8 bs) = Unit {0}
  FitsIn128Bits (slots.bytes bs) = Unit {0}
  FitsIn128Bits (slots.list ss) = FitIn128Bits ss
  FitsIn128Bits (slots.record_of ss) = FitIn128Bits ss
  FitsIn128Bits (slots.pick f u s) = FitsIn128Bits s

  pub FitIn128Bits : Slots → Type 0
  FitIn128Bits no_slots = Unit {0}
  FitIn128Bits (more_slots s ss) = FitsIn128Bits s × FitIn128Bits ss

-- the native values of a slot, at any depth, pass a test
abbrev mutual
  pub EachNumber : (ValueFormat → List ℤ → Type 0) → TypeTree → Slot → Type 0
  EachNumber P t slots.null = Unit {0}
  EachNumber P t (slots.boolean b) = Unit {0}
  EachNumber P t (slots.number zs) = P (format_of_type t) zs
  EachNumber P t (slots.utf8 bs) = Unit {0}
  EachNumber P t (slots.bytes bs) = Unit {0}
  EachNumber P t (slots.list ss) = EachItemNumber P (items_type t) ss
  EachNumber P t (slots.record_of ss) = EachMemberNumber P (members_of t) ss
  EachNumber P t (slots.pick f u s) = EachNumber P u s

  pub EachItemNumber : (ValueFormat → List ℤ → Type 0) → TypeTree → Slots → Type 0
  EachItemNumber P t no_slots = Unit {0}
  EachItemNumber P t (more_slots s ss) = EachNumber P t s × EachItemNumber P t ss

  pub EachMemberNumber : (ValueFormat → List ℤ → Type 0) → FieldTrees → Slots → Type 0
  EachMemberNumber P fs no_slots = Unit {0}
  EachMemberNumber P no_fields (more_slots s ss) = Unit {0}
  EachMemberNumber P (more_fields f fs) (more_slots s ss) = EachNumber P (field_type f) s × EachMemberNumber P fs ss

-- the bits of a floating-point number that is not NaN
abbrev pub IsBitsIn : Format → ℕ → Type 0
IsBitsIn f bits = (bits < 2 * top f) × (from_bits f bits ≢ nan)

abbrev pub IsFloat : Precision → ℤ → Type 0
IsFloat Half (pos bits) = (bits < 65_536) × (half_value bits ≢ nan)
IsFloat Single (pos bits) = IsBitsIn binary32 bits
IsFloat Double (pos bits) = IsBitsIn binary64 bits
IsFloat p (negsuc n) = ⊥

abbrev pub IsNotNan : ValueFormat → List ℤ → Type 0
IsNotNan (Float p) (z ∷ []) = IsFloat p z
IsNotNan v zs = Unit {0}

-- no floating-point number of the slot is NaN, whose text is the same for all payloads
abbrev pub LacksNan : TypeTree → Slot → Type 0
LacksNan t s = EachNumber IsNotNan t s

-- a slot of the data type that no other slot shares its text with
abbrev pub HasOwnText : TypeTree → Slot → Type 0
HasOwnText t s = IsSlotOf t s × FitsIn128Bits s × LacksNan t s

abbrev pub LackNan : TypeTree → Slots → Type 0
LackNan t ss = EachItemNumber IsNotNan t ss

-- no field has this name
abbrev pub LacksField : Letters → FieldTrees → Type 0
LacksField n no_fields = Unit {0}
LacksField n (more_fields f fs) = (n ≢ field_name f) × LacksField n fs

-- no two fields have one name
abbrev pub HaveDistinctNames : FieldTrees → Type 0
HaveDistinctNames no_fields = Unit {0}
HaveDistinctNames (more_fields f fs) = LacksField (field_name f) fs × HaveDistinctNames fs

-- The fields of each union have distinct names, at any depth: a union slot is written with the name of its field alone.
abbrev mutual
  pub HasDistinctUnionNames : TypeTree → Type 0
  HasDistinctUnionNames (types.list f) = FieldHasDistinctUnionNames f
  HasDistinctUnionNames (types.fixed_size_list f s) = FieldHasDistinctUnionNames f
  HasDistinctUnionNames (types.large_list f) = FieldHasDistinctUnionNames f
  HasDistinctUnionNames (types.map f b) = FieldHasDistinctUnionNames f
  HasDistinctUnionNames (types.struct fs) = FieldsHaveDistinctUnionNames fs
  HasDistinctUnionNames (types.union fs ids mode) = HaveDistinctNames fs × FieldsHaveDistinctUnionNames fs
  HasDistinctUnionNames (types.dictionary k t b) = HasDistinctUnionNames t
  HasDistinctUnionNames (types.extension n t m) = HasDistinctUnionNames t
  HasDistinctUnionNames t = Unit {0}

  pub FieldHasDistinctUnionNames : FieldTree → Type 0
  FieldHasDistinctUnionNames (field n t b es) = HasDistinctUnionNames t

  pub FieldsHaveDistinctUnionNames : FieldTrees → Type 0
  FieldsHaveDistinctUnionNames no_fields = Unit {0}
  FieldsHaveDistinctUnionNames (more_fields f fs) = FieldHasDistinctUnionNames f × FieldsHaveDistinctUnionNames fs

-- a union of two fields of one name: two of its slots have the same text
abbrev duplicate_names : TypeTree
duplicate_names = types.union (more_fields (field (97 ∷ []) types.boolean true []) (more_fields (field (97 ∷ []) types.boolean true []) no_fields)) None Sparse

abbrev duplicate : ℕ → Slot
duplicate f = slots.pick f types.boolean slots.null

duplicates-are-slots : IsSlotOf duplicate_names (duplicate 0) × IsSlotOf duplicate_names (duplicate 1)
duplicates-are-slots = ((refl, refl, tt), (refl, refl, tt))

duplicates-share-a-text : json_of_slot duplicate_names (duplicate 0) ≡ json_of_slot duplicate_names (duplicate 1)
duplicates-share-a-text = refl

duplicates-are-excluded : HasDistinctUnionNames duplicate_names → ⊥
duplicates-are-excluded h = h.0.0.0 refl
