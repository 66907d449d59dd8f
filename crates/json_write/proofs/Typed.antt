-- The slots of an array are slots of its data type.
use Rattle.std.proofs.Common.{◌≡◌, ℕ, zero, suc, ◌*◌, Bool, true, false, List, [], ◌∷◌, take, drop, get_or, pos, Option, Some, None, if◌then◌else◌, refl, sym, ap, ◌∙◌, subst}
use Rattle.std.proofs.lemmas.Bool.{false≢true}
use Rattle.nest_array.specs.WindowParts.{WindowParts, window_slots}
use Rattle.nest_memory.specs.Physical.{physical_type, list_of_width, binary_of_width, utf8_of_width}
use Rattle.nest_memory.specs.TypeTree as types
use Rattle.nest_memory.specs.TypeTree.{TypeTree, FieldTrees, no_fields, more_fields, field_type, fields_of, ids_of, item_type, size_of, logical_type, value_type}
use Rattle.nest_memory.specs.declared.datatypes.physical_type.PhysicalType.{PhysicalType}
use Rattle.nest_memory.specs.declared.datatypes.physical_type.PhysicalType.TheVariants as physical
use Rattle.nest_model.specs.Accessors.{validity_of, key_at}
use Rattle.nest_model.specs.Array.{AreArrays, IsArray}
use Rattle.nest_model.specs.FactLaws.{binary-facts, text-facts, fixed_size_binary-facts, fixed_size_list-facts, list-facts, map-facts, struct-facts, union-facts, dictionary-facts}
use Rattle.nest_model.specs.Fits.{EachType, IsLogically}
use Rattle.nest_model.specs.Layout.{Layout, Layouts, null, boolean, primitive, binary, utf8, fixed_size_binary, fixed_size_list, list, map, struct, union, dictionary, no_layouts, more_layouts, layout_type}
use Rattle.nest_model.specs.Meaning.{run, slot, each, picked, of_field, union_index, len, slots_of}
use Rattle.nest_model.specs.Part.{valid_at, begin, extent, to_index, field_named}
use Rattle.nest_model.specs.Slot as slots
use Rattle.nest_model.specs.Slot.{Slot, Slots, seal}
use Rattle.json_write.specs.JsonText.{items_type, members_of}
use Rattle.json_write.specs.TypedSlots.{SlotKind, booleans, numbers, strings, binaries, lists, structs, unions, kind_of, slot_kind, field_type_at, IsSlotOf, AreItems, AreMembers}
use Rattle.json_write.proofs.Nesting.{items-type-of}

-- ---- the kind of slots, by the physical type

abbrev is_keyed : PhysicalType → Bool
is_keyed (physical.Dictionary k) = true
is_keyed p = false

form-stored : (t : TypeTree) → is_keyed (physical_type t) ≡ false → slot_kind t ≡ kind_of (physical_type t)
form-stored (types.dictionary k t b) h = absurd (false≢true (sym h))
form-stored (types.extension n t m) h = form-stored t h
form-stored t h = refl

form-is : (t : TypeTree) (p : PhysicalType) (g : SlotKind) → is_keyed p ≡ false → kind_of p ≡ g → physical_type t ≡ p → slot_kind t ≡ g
form-is t p g k f e = form-stored t (ap is_keyed e ∙ k) ∙ ap kind_of e ∙ f

list-form : (t : TypeTree) (l : Bool) → physical_type t ≡ list_of_width l → slot_kind t ≡ lists
list-form t true e = form-is t physical.LargeList lists refl refl e
list-form t false e = form-is t physical.List lists refl refl e

binary-form : (t : TypeTree) (l : Bool) → physical_type t ≡ binary_of_width l → slot_kind t ≡ binaries
binary-form t true e = form-is t physical.LargeBinary binaries refl refl e
binary-form t false e = form-is t physical.Binary binaries refl refl e

text-form : (t : TypeTree) (l : Bool) → physical_type t ≡ utf8_of_width l → slot_kind t ≡ strings
text-form t true e = form-is t physical.LargeUtf8 strings refl refl e
text-form t false e = form-is t physical.Utf8 strings refl refl e

members-are : (t : TypeTree) → is_keyed (physical_type t) ≡ false → fields_of t ≡ members_of t
members-are (types.dictionary k t b) h = absurd (false≢true (sym h))
members-are (types.extension n t m) h = members-are t h
members-are t h = refl

-- ---- the slots of a data type

abbrev said : TypeTree → SlotKind × TypeTree × FieldTrees
said t = (slot_kind t, items_type t, members_of t)

said-logically : (t : TypeTree) → said t ≡ said (logical_type t)
said-logically (types.extension n t m) = said-logically t
said-logically t = refl

said-keyed : (t u : TypeTree) → IsLogically (value_type t) u → said u ≡ said t
said-keyed (types.dictionary k t b) u h = said-logically u ∙ ap said h ∙ sym (said-logically t)
said-keyed (types.extension n t m) u h = said-keyed t u h
said-keyed t u h = absurd h

same-slots : (t u : TypeTree) (s : Slot) → said u ≡ said t → IsSlotOf u s → IsSlotOf t s
same-slots t u slots.null e h = tt
same-slots t u (slots.boolean b) e h = subst (λ p. p.0 ≡ booleans) e h
same-slots t u (slots.number zs) e h = subst (λ p. p.0 ≡ numbers) e h
same-slots t u (slots.utf8 bs) e h = subst (λ p. p.0 ≡ strings) e h
same-slots t u (slots.bytes bs) e h = subst (λ p. p.0 ≡ binaries) e h
same-slots t u (slots.list ss) e h = subst (λ p. (p.0 ≡ lists) × AreItems p.1 ss) e h
same-slots t u (slots.record_of ss) e h = subst (λ p. (p.0 ≡ structs) × AreMembers p.2 ss) e h
same-slots t u (slots.pick f v s) e h = subst (λ p. (p.0 ≡ unions) × (field_type_at p.2 f ≡ Some v) × IsSlotOf v s) e h

-- ---- adjacent slots

null-or : (t : TypeTree) (s : Slot) (b : Bool) → IsSlotOf t s → IsSlotOf t (if b then s else slots.null)
null-or t s true h = h
null-or t s false h = tt

of-field : (t : TypeTree) (o : Option ℕ) (s : ℕ → Slot) → ((f : ℕ) → IsSlotOf t (s f)) → IsSlotOf t (of_field o s)
of-field t None s h = tt
of-field t (Some f) s h = h f

run-typed : (t : TypeTree) (f : ℕ → Slot) (o n : ℕ) → ((i : ℕ) → IsSlotOf t (f i)) → AreItems t (seal (run f o n))
run-typed t f o zero h = tt
run-typed t f o (suc n) h = (h o, run-typed t f (suc o) n h)

drop-typed : (t : TypeTree) (ss : List Slot) (o : ℕ) → AreItems t (seal ss) → AreItems t (seal (drop o ss))
drop-typed t ss zero h = h
drop-typed t [] (suc o) h = tt
drop-typed t (s ∷ ss) (suc o) h = drop-typed t ss o h.1

take-typed : (t : TypeTree) (ss : List Slot) (n : ℕ) → AreItems t (seal ss) → AreItems t (seal (take n ss))
take-typed t ss zero h = tt
take-typed t [] (suc n) h = tt
take-typed t (s ∷ ss) (suc n) h = (h.0, take-typed t ss n h.1)

row-typed : (t u : TypeTree) (f : ℕ → Slot) (o n : ℕ) → slot_kind t ≡ lists → item_type t ≡ Some u → ((i : ℕ) → IsSlotOf u (f i)) → IsSlotOf t (slots.list (seal (run f o n)))
row-typed t u f o n e i h = (e, subst (λ v. AreItems v (seal (run f o n))) (sym (items-type-of t u i)) (run-typed u f o n h))

mutual
  pub slot-typed : (a : Layout) (i : ℕ) → IsArray a → IsSlotOf (layout_type a) (slot a i)
  slot-typed (null t n) i h = tt
  slot-typed (boolean t bs va) i h = null-or t (slots.boolean (get_or bs i false)) (valid_at va i) (form-is t physical.Boolean booleans refl refl h.0.1.1.0)
  slot-typed (primitive k t vs va) i h = null-or t (slots.number (get_or vs i [])) (valid_at va i) (form-is t (physical.Primitive k) numbers refl refl h.0.1.1.0)
  slot-typed (binary l t os bs va) i h = null-or t (slots.bytes (take (extent os i) (drop (begin os i) bs))) (valid_at va i) (binary-form t l (binary-facts l t os bs va h.0).typed)
  slot-typed (utf8 l t os bs va) i h = null-or t (slots.utf8 (take (extent os i) (drop (begin os i) bs))) (valid_at va i) (text-form t l (text-facts l t os bs va h.0).typed)
  slot-typed (fixed_size_binary t bs va) i h =
      null-or t (slots.bytes (take (size_of t) (drop (i * size_of t) bs))) (valid_at va i) (form-is t physical.FixedSizeBinary binaries refl refl (fixed_size_binary-facts t bs va h.0).typed)
  slot-typed (fixed_size_list t c va) i h =
      let f = fixed_size_list-facts t c va h.0 in
      null-or t (slots.list (seal (run (slot c) (i * size_of t) (size_of t)))) (valid_at va i)
      (row-typed t (layout_type c) (slot c) (i * size_of t) (size_of t) (form-is t physical.FixedSizeList lists refl refl f.typed) f.items (λ j. slot-typed c j h.1))
  slot-typed (list l t os c va) i h =
      let f = list-facts l t os c va h.0 in
      null-or t (slots.list (seal (run (slot c) (begin os i) (extent os i)))) (valid_at va i)
      (row-typed t (layout_type c) (slot c) (begin os i) (extent os i) (list-form t l f.typed) f.items (λ j. slot-typed c j h.1))
  slot-typed (map t os c va) i h =
      let f = map-facts t os c va h.0 in
      null-or t (slots.list (seal (run (slot c) (begin os i) (extent os i)))) (valid_at va i)
      (row-typed t (layout_type c) (slot c) (begin os i) (extent os i) (form-is t physical.Map lists refl refl f.typed) f.entries (λ j. slot-typed c j h.1))
  slot-typed (struct t cs va) i h =
      let f = struct-facts t cs va h.0 in
      null-or t (slots.record_of (each cs i)) (valid_at va i)
      (form-is t physical.Struct structs refl refl f.typed, subst (λ fs. AreMembers fs (each cs i)) (members-are t (ap is_keyed f.typed)) (each-typed (fields_of t) cs i f.each_type h.1))
  slot-typed (union t ks cs os start) i h =
      let u = union-facts t ks cs os start h.0 in
      of-field t (field_named (ids_of t) (get_or ks i (pos 0))) (λ f. picked f cs f (union_index os start i))
      (λ f. picked-typed t (fields_of t) cs f f (union_index os start i) (form-is t physical.Union unions refl refl u.typed) u.each_type h.1
      (ap (λ fs. field_type_at fs f) (members-are t (ap is_keyed u.typed))))
  slot-typed (dictionary t ks c) i h =
      null-or t (slot c (to_index (key_at ks i))) (valid_at (validity_of ks) i)
      (same-slots t (layout_type c) (slot c (to_index (key_at ks i))) (said-keyed t (layout_type c) (dictionary-facts t ks c h.0).value_typed) (slot-typed c (to_index (key_at ks i)) h.1))

  each-typed : (fs : FieldTrees) (cs : Layouts) (i : ℕ) → EachType fs cs → AreArrays cs → AreMembers fs (each cs i)
  each-typed no_fields no_layouts i e h = tt
  each-typed no_fields (more_layouts c cs) i e h = absurd e
  each-typed (more_fields f fs) no_layouts i e h = absurd e
  each-typed (more_fields f fs) (more_layouts c cs) i e h = (subst (λ u. IsSlotOf u (slot c i)) e.0 (slot-typed c i h.0), each-typed fs cs i e.1 h.1)

  picked-typed : (t : TypeTree) (fs : FieldTrees) (cs : Layouts) (f k i : ℕ) → slot_kind t ≡ unions → EachType fs cs → AreArrays cs → field_type_at fs k ≡ field_type_at (members_of t) f → IsSlotOf t (picked f cs k i)
  picked-typed t fs no_layouts f k i p e h w = tt
  picked-typed t no_fields (more_layouts c cs) f k i p e h w = absurd e
  picked-typed t (more_fields g fs) (more_layouts c cs) f zero i p e h w = (p, sym w ∙ ap (λ u. Some u) (sym e.0), slot-typed c i h.0)
  picked-typed t (more_fields g fs) (more_layouts c cs) f (suc k) i p e h w = picked-typed t fs cs f k i p e.1 h.1 w

pub window-typed : (w : WindowParts) → IsArray w.array → AreItems (layout_type w.array) (seal (window_slots w))
window-typed w h =
    let t = layout_type w.array in
    let every = run-typed t (slot w.array) 0 (len w.array) (λ i. slot-typed w.array i h) in
    take-typed t (drop w.offset (slots_of w.array)) w.count (drop-typed t (slots_of w.array) w.offset every)
