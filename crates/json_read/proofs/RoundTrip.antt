-- The tree that a slot is printed as is read as that slot.
use Rattle.std.specs.Prelude.{flat_map, unwrap_or, pos, ◌^◌, Option, Some, None, if◌then◌else◌}
use Rattle.std.proofs.Common.{◌≡◌, ℕ, ◌<◌, Bool, true, false, List, [], ◌∷◌, ℤ, refl, ap, ◌∙◌}
use Rattle.std.specs.Fmt.{signed_decimal}
use Rattle.std.specs.Int.Signed.{mag}
use Rattle.json.specs.Json as json
use Rattle.json.specs.Json.{Json}
use Rattle.json_read.specs.DistinctNames.{HasDistinctFieldNames, FieldsHaveDistinctFieldNames}
use Rattle.json_read.specs.FlatValues.{number_in, item_numbers, bytes_of_hex}
use Rattle.json_read.specs.NativeNumbers.{numbers_in, value_numbers}
use Rattle.json_read.specs.JsonSlots.{slot_of, item_slots, member_slots, field_slots, type_named, array_slot, string_slot}
use Rattle.json_read.specs.RoundTrip.{AreBytes, CanRoundTrip, CanAllRoundTrip}
use Rattle.json_read.proofs.FloatsBack.{HalvesReadBack, float-back}
use Rattle.json_read.proofs.ReadBack.{bytes-back, decimal-back}
use Rattle.json_read.proofs.TextBack.{text-back}
use Rattle.json_read.proofs.ValuesBack.{text-values}
use Rattle.json_read.proofs.Feeding.{eq-false, eq-same}
use Rattle.nest_memory.specs.TypeTree as types
use Rattle.nest_memory.specs.TypeTree.{Letters, TypeTree, FieldTree, field, FieldTrees, no_fields, more_fields, field_type}
use Rattle.nest_model.specs.Slot as slots
use Rattle.nest_model.specs.Slot.{Slot, Slots, no_slots, more_slots}
use Rattle.json_write.specs.Floats.{float_bits, float_format}
use Rattle.json_write.specs.Formats.{format_of_type, text_of_numbers}
use Rattle.json_write.specs.declared.format.ValueFormat.{ValueFormat}
use Rattle.json_write.specs.declared.format.ValueFormat.TheVariants.{Float}
use Rattle.float_text.specs.Text.{float_text, is_finite}
use Rattle.json_write.specs.JsonText.{items_type, members_of, field_name, hex_byte}
use Rattle.json_write.specs.TypedSlots.{IsNotNan, EachItemNumber, EachMemberNumber, EachNumber, NumbersFitIn128Bits, IsSlotOf, AreItems, AreMembers, LacksField, HaveDistinctNames, slot_kind, numbers, lists, structs}
use Rattle.json_write.specs.JsonTree.{tree_of_number, tree_of_numbers, tree_of_text, tree_of_value, tree_of_slot, tree_items, tree_members}

-- ---- types

items-apart : (t : TypeTree) → HasDistinctFieldNames t → slot_kind t ≡ lists → HasDistinctFieldNames (items_type t)
items-apart (types.list (field n t b es)) a e = a
items-apart (types.fixed_size_list (field n t b es) s) a e = a
items-apart (types.large_list (field n t b es)) a e = a
items-apart (types.map (field n t b es) s) a e = a
items-apart (types.dictionary k t b) a e = items-apart t a e
items-apart (types.extension n t m) a e = items-apart t a e
items-apart t a e = absurd cc

members-apart : (t : TypeTree) → HasDistinctFieldNames t → slot_kind t ≡ structs → HaveDistinctNames (members_of t) × FieldsHaveDistinctFieldNames (members_of t)
members-apart (types.struct fs) a e = a
members-apart (types.dictionary k t b) a e = members-apart t a e
members-apart (types.extension n t m) a e = members-apart t a e
members-apart t a e = absurd cc

-- ---- fields by their names

-- each of these fields is the first of its name among those
AllTyped : FieldTrees → FieldTrees → Type 0
AllTyped all no_fields = Unit {0}
AllTyped all (more_fields f fs) = (type_named (field_name f) all ≡ field_type f) × AllTyped all fs

one-before : (g : FieldTree) (all fs : FieldTrees) → LacksField (field_name g) fs → AllTyped all fs → AllTyped (more_fields g all) fs
unfolding AllTyped
one-before g all no_fields h t = tt
one-before g all (more_fields f fs) h t =
    (ap (λ b. if b then field_type g else type_named (field_name f) all) (eq-false (field_name g) (field_name f) h.0) ∙ t.0, one-before g all fs h.1 t.1)

all-typed : (fs : FieldTrees) → HaveDistinctNames fs → AllTyped fs fs
unfolding AllTyped
all-typed no_fields a = tt
all-typed (more_fields f fs) a =
    (ap (λ b. if b then field_type f else type_named (field_name f) fs) (eq-same (field_name f) (field_name f) refl), one-before f fs fs a.0 (all-typed fs a.1))

-- slots under the names of their fields
named_slots : FieldTrees → Slots → List (Letters × Slot)
named_slots fs no_slots = []
named_slots no_fields (more_slots s ss) = []
named_slots (more_fields f fs) (more_slots s ss) = (field_name f, s) ∷ named_slots fs ss

one-more : (n : Letters) (s : Slot) (ps : List (Letters × Slot)) (fs : FieldTrees) → LacksField n fs → field_slots fs ((n, s) ∷ ps) ≡ field_slots fs ps
one-more n s ps no_fields h = refl
one-more n s ps (more_fields f fs) h = rw (eq-false n (field_name f) h.0, one-more n s ps fs h.1) refl

slots-named : (fs : FieldTrees) (ss : Slots) → HaveDistinctNames fs → AreMembers fs ss → field_slots fs (named_slots fs ss) ≡ ss
unfolding named_slots
slots-named no_fields no_slots a h = refl
slots-named no_fields (more_slots s ss) a h = absurd h
slots-named (more_fields f fs) no_slots a h = absurd h
slots-named (more_fields f fs) (more_slots s ss) a h =
    rw (eq-same (field_name f) (field_name f) refl, one-more (field_name f) s (named_slots fs ss) fs a.0, slots-named fs ss a.1 h.1) refl

-- ---- numbers and bytes

decimal : (z : ℤ) → mag z < 2 ^ 128 → number_in (json.number (signed_decimal z)) ≡ z
decimal z h = ap (λ o. unwrap_or o (pos 0)) (decimal-back z h)

hex : (bs : List ℕ) → AreBytes bs → bytes_of_hex (flat_map hex_byte bs) ≡ bs
hex bs h = (bytes-back bs h).1

numbers-back : (z y : ℤ) (zs : List ℤ) → NumbersFitIn128Bits (z ∷ y ∷ zs) → numbers_in (tree_of_number (z ∷ y ∷ zs)) ≡ z ∷ y ∷ zs
numbers-back z y [] h = rw (decimal z h.0, decimal y h.1.0) refl
numbers-back z y (w ∷ zs) h = rw (decimal z h.0, numbers-back y w zs h.1) refl

-- a value that is written as numbers, and one that is written as text
plain-back : HalvesReadBack → (v : ValueFormat) (zs : List ℤ) → NumbersFitIn128Bits zs → IsNotNan v zs → value_numbers v (tree_of_numbers v zs) ≡ zs
plain-back back (Float p) [] b r = refl
plain-back back (Float p) (z ∷ []) b r = (float-back back p z r).1
plain-back back (Float p) (z ∷ y ∷ zs) b r = numbers-back z y zs b
plain-back back v [] b r = refl
plain-back back v (z ∷ []) b r = ap (λ y. y ∷ []) (decimal z b.0)
plain-back back v (z ∷ y ∷ zs) b r = numbers-back z y zs b

values-back : HalvesReadBack → (v : ValueFormat) (zs : List ℤ) → NumbersFitIn128Bits zs → IsNotNan v zs → value_numbers v (tree_of_value v zs) ≡ zs
values-back back v zs b r = go (text_of_numbers v zs) refl
  where
    go : (o : Option (List ℕ)) → text_of_numbers v zs ≡ o → value_numbers v (tree_of_value v zs) ≡ zs
    go (Some s) e = ap (λ o. value_numbers v (tree_of_text o (tree_of_numbers v zs))) e ∙ text-values v zs s s e ∙ ap (λ o. unwrap_or o []) (text-back v zs s b e)
    go None e = ap (λ o. value_numbers v (tree_of_text o (tree_of_numbers v zs))) e ∙ plain-back back v zs b r

-- the JSON of native values
abbrev IsNative : Json → Type 0
IsNative (json.number s) = Unit {0}
IsNative (json.string s) = Unit {0}
IsNative (json.array js) = Unit {0}
IsNative j = ⊥

bits-native : (finite : Bool) (text : List ℕ) → IsNative (if finite then json.number text else json.string text)
bits-native true text = tt
bits-native false text = tt

plain-native : (v : ValueFormat) (zs : List ℤ) → IsNative (tree_of_numbers v zs)
plain-native (Float p) [] = tt
plain-native (Float p) (z ∷ y ∷ zs) = tt
plain-native (Float p) (z ∷ []) = bits-native (is_finite (float_format p) (float_bits p z)) (float_text (float_format p) (float_bits p z))
plain-native v [] = tt
plain-native v (z ∷ []) = tt
plain-native v (z ∷ y ∷ zs) = tt

text-native : (o : Option (List ℕ)) (j : Json) → IsNative j → IsNative (tree_of_text o j)
text-native (Some s) j h = tt
text-native None j h = h

native-slot : (t : TypeTree) (j : Json) → slot_kind t ≡ numbers → IsNative j → slot_of t j ≡ slots.number (value_numbers (format_of_type t) j)
native-slot t (json.number s) h n = refl
native-slot t (json.string s) h n = ap (λ k. string_slot k (format_of_type t) s) h
native-slot t (json.array js) h n = ap (λ k. array_slot k (item_numbers js) (item_slots (items_type t) js)) h
native-slot t j h n = absurd n

value-back : HalvesReadBack → (t : TypeTree) (zs : List ℤ) → slot_kind t ≡ numbers → NumbersFitIn128Bits zs → IsNotNan (format_of_type t) zs → slot_of t (tree_of_slot t (slots.number zs)) ≡ slots.number zs
value-back back t zs h b r =
    let v = format_of_type t in
    native-slot t (tree_of_value v zs) h (text-native (text_of_numbers v zs) (tree_of_numbers v zs) (plain-native v zs)) ∙ ap slots.number (values-back back v zs b r)

mutual
  unfolding AllTyped named_slots

  pub slot-back : HalvesReadBack → (t : TypeTree) (s : Slot) → HasDistinctFieldNames t → IsSlotOf t s → CanRoundTrip s → EachNumber IsNotNan t s → slot_of t (tree_of_slot t s) ≡ s
  slot-back back t slots.null a h b r = refl
  slot-back back t (slots.boolean x) a h b r = refl
  slot-back back t (slots.number zs) a h b r = value-back back t zs h b r
  slot-back back t (slots.utf8 bs) a h b r = rw h refl
  slot-back back t (slots.bytes bs) a h b r = rw (h, hex bs b) refl
  slot-back back t (slots.list ss) a h b r = rw (h.0, items-back back (items_type t) ss (items-apart t a h.0) h.1 b r) refl
  slot-back back t (slots.record_of ss) a h b r =
      let p = members-apart t a h.0 in
      rw (members-back back (members_of t) (members_of t) ss (all-typed (members_of t) p.0) p.1 h.1 b r, slots-named (members_of t) ss p.0 h.1) refl
  slot-back back t (slots.pick f u s) a h b r = absurd b

  items-back : HalvesReadBack → (t : TypeTree) (ss : Slots) → HasDistinctFieldNames t → AreItems t ss → CanAllRoundTrip ss → EachItemNumber IsNotNan t ss → item_slots t (tree_items t ss) ≡ ss
  items-back back t no_slots a h b r = refl
  items-back back t (more_slots s ss) a h b r = rw (slot-back back t s a h.0 b.0 r.0, items-back back t ss a h.1 b.1 r.1) refl

  members-back : HalvesReadBack → (all fs : FieldTrees) (ss : Slots) → AllTyped all fs → FieldsHaveDistinctFieldNames fs → AreMembers fs ss → CanAllRoundTrip ss → EachMemberNumber IsNotNan fs ss → member_slots all (tree_members fs ss) ≡ named_slots fs ss
  members-back back all no_fields no_slots k a h b r = refl
  members-back back all no_fields (more_slots s ss) k a h b r = absurd h
  members-back back all (more_fields f fs) no_slots k a h b r = absurd h
  members-back back all (more_fields (field n t x es) fs) (more_slots s ss) k a h b r =
      rw (k.0, slot-back back t s a.0 h.0 b.0 r.0, members-back back all fs ss k.1 a.1 h.1 b.1 r.1) refl
