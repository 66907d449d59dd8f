-- The slots that an array represents: the meaning of each layout of the Arrow columnar format.
use Rattle.std.specs.Prelude.{ℕ, zero, suc, ◌+◌, ◌*◌, ◌/◌, ℤ, pos, false, List, [], ◌∷◌, Option, Some, None, length, get_or, if◌then◌else◌, ◌≡◌, ◌<◌}
use Rattle.nest_memory.specs.TypeTree.{size_of, ids_of, TypeTree}
use Rattle.nest_memory.specs.Sublist.{sublist}
use Rattle.nest_model.specs.Part.{valid_at, begin, extent, count_rows, to_index, field_named, Validity}
use Rattle.nest_model.specs.Layout.{Layout, Layouts, null, boolean, primitive, binary, utf8, fixed_size_binary, fixed_size_list, list, map, struct, union, dictionary, no_layouts, more_layouts, layout_type, count_layouts}
use Rattle.nest_model.specs.Accessors.{validity_of, key_at, child_at}
use Rattle.nest_model.specs.Slot as slots
use Rattle.nest_model.specs.Slot.{Slot, Slots, seal}

-- The slots of f at the n indices from o.
abbrev pub run : (ℕ → Slot) → ℕ → ℕ → List Slot
run f o zero = []
run f o (suc n) = f o ∷ run f (suc o) n

-- Array lengths: the number of values, types or keys, one less than the number of offsets,
-- or the number of items or bytes divided by the size. A struct has the length of its first child.
abbrev mutual
  pub len : Layout → ℕ
  len (null t n) = n
  len (boolean t bs va) = length bs
  len (primitive k t vs va) = length vs
  len (binary l t os bs va) = count_rows os
  len (utf8 l t os bs va) = count_rows os
  len (fixed_size_binary t bs va) = length bs / size_of t
  len (fixed_size_list t c va) = len c / size_of t
  len (list l t os c va) = count_rows os
  len (map t os c va) = count_rows os
  len (struct t cs va) = first_len cs
  len (union t ks cs os start) = length ks
  len (dictionary t ks c) = len ks

  pub first_len : Layouts → ℕ
  first_len no_layouts = 0
  first_len (more_layouts c cs) = len c

-- Union Layout: the index of slot i in its field's child: `start + i` if sparse, its offset if dense.
abbrev pub union_index : Option (List ℤ) → ℕ → ℕ → ℕ
union_index None start i = start + i
union_index (Some os) start i = to_index (get_or os i (pos 0))

-- The slot of the field, or `Null` if there is no field.
abbrev pub of_field : Option ℕ → (ℕ → Slot) → Slot
of_field None s = slots.null
of_field (Some f) s = s f

-- The slot at index i. It is `Null` if the validity bit is unset. Unions have no validity. Otherwise it is:
-- - Fixed-size Primitive Layout: the value.
-- - Variable-size Binary Layout: the bytes from its offset to the next one.
-- - Variable-size List Layout: the items, or the entries of a map, from its offset to the next one.
-- - Fixed-Size List Layout, fixed-size binary: `size` items or bytes from index `i * size`.
-- - Struct Layout: the slot of each child at index i.
-- - Union Layout: the field that its type id names, and the slot of that field's child.
-- - Dictionary-encoded Layout: the value at its key. A null key and a key of a null value represent the same slot.
abbrev mutual
  pub slot : Layout → ℕ → Slot
  slot (null t n) i = slots.null
  slot (boolean t bs va) i = if valid_at va i then slots.boolean (get_or bs i false) else slots.null
  slot (primitive k t vs va) i = if valid_at va i then slots.number (get_or vs i []) else slots.null
  slot (binary l t os bs va) i = if valid_at va i then slots.bytes (sublist bs (begin os i) (extent os i)) else slots.null
  slot (utf8 l t os bs va) i = if valid_at va i then slots.utf8 (sublist bs (begin os i) (extent os i)) else slots.null
  slot (fixed_size_binary t bs va) i = if valid_at va i then slots.bytes (sublist bs (i * size_of t) (size_of t)) else slots.null
  slot (fixed_size_list t c va) i = if valid_at va i then slots.list (seal (run (slot c) (i * size_of t) (size_of t))) else slots.null
  slot (list l t os c va) i = if valid_at va i then slots.list (seal (run (slot c) (begin os i) (extent os i))) else slots.null
  slot (map t os c va) i = if valid_at va i then slots.list (seal (run (slot c) (begin os i) (extent os i))) else slots.null
  slot (struct t cs va) i = if valid_at va i then slots.record_of (each cs i) else slots.null
  slot (union t ks cs os start) i = of_field (field_named (ids_of t) (get_or ks i (pos 0))) (λ f. picked f cs f (union_index os start i))
  slot (dictionary t ks c) i = if valid_at (validity_of ks) i then slot c (to_index (key_at ks i)) else slots.null

  -- The children's slots at index i.
  pub each : Layouts → ℕ → Slots
  each no_layouts i = slots.no_slots
  each (more_layouts c cs) i = slots.more_slots (slot c i) (each cs i)

  -- The pick of field f with slot i of child k, or `Null` if there is no such child.
  pub picked : ℕ → Layouts → ℕ → ℕ → Slot
  picked f no_layouts k i = slots.null
  picked f (more_layouts c cs) zero i = slots.pick f (layout_type c) (slot c i)
  picked f (more_layouts c cs) (suc k) i = picked f cs k i

-- The list of slots that an array represents.
abbrev pub slots_of : Layout → List Slot
slots_of a = run (slot a) 0 (len a)

-- Validity bitmaps: the slots, with `Null` where the validity bit is unset.
abbrev pub masked : Validity → List Slot → List Slot
masked None ss = ss
masked (Some []) ss = ss
masked (Some (b ∷ bits)) [] = []
masked (Some (b ∷ bits)) (s ∷ ss) = (if b then s else slots.null) ∷ masked (Some bits) ss

-- The slot, or `Null` if the validity bit is unset.
abbrev pub where_valid : Validity → ℕ → Slot → Slot
where_valid va i s = if valid_at va i then s else slots.null

-- The children's slots at index i.
abbrev pub fields_at : Layouts → ℕ → Slots
fields_at no_layouts i = slots.no_slots
fields_at (more_layouts c cs) i = slots.more_slots (get_or (slots_of c) i slots.null) (fields_at cs i)

-- Slot i of a union is the pick of field f: its type id names f, and the slot is that of the field's child.
pub record IsPick (t : TypeTree) (ks : List ℤ) (cs : Layouts) (os : Option (List ℤ)) (start i f : ℕ) : Type 0 where
  pub means : field_named (ids_of t) (get_or ks i (pos 0)) ≡ Some f
  pub field_there : f < count_layouts cs
  pub slot_there : union_index os start i < len (child_at cs f)
  pub picks : slot (union t ks cs os start) i ≡ slots.pick f (layout_type (child_at cs f)) (get_or (slots_of (child_at cs f)) (union_index os start i) slots.null)
