-- The item of a slot, for each kind of array.
use Rattle.std.specs.Prelude.{◌≡◌, ℕ, ◌*◌, pos, Bool, List as Seq}
use Rattle.nest_memory.specs.Sublist.{sublist}
use Rattle.nest_memory.specs.Physical.{physical_type, utf8_of_width}
use Rattle.nest_memory.specs.TypeTree.{size_of}
use Rattle.nest_model.specs.Accessors.{bytes_of, child_of, children_of, key_at, keys_of, offsets_of, raw_keys, validity_of}
use Rattle.nest_model.specs.Slice.{slice_layout}
use Rattle.nest_model.specs.Fits.{EachNames}
use Rattle.nest_model.specs.Layout.{Layout, layout_type}
use Rattle.nest_model.specs.Meaning.{each, len, slot, slots_of, where_valid}
use Rattle.nest_model.specs.Nullness.{null_count}
use Rattle.nest_model.specs.Part.{begin, extent, to_index}
use Rattle.nest_model.specs.Slot as slots
use Rattle.nest_model.specs.Slot.{seal}
use Rattle.nest_array.specs.declared.any.AnyArray.{AnyArray}
use Rattle.nest_array.specs.ScalarParts.{ScalarParts, IsPickOf, child_types, scalar_parts, slots_in, types_in}
use Rattle.nest_array.specs.Seen.{layout_of}

-- Fixed-Size Primitive Layout: the bytes from i times the size, as many as the size; they are slot i unless it is null
pub record IsBytes (a : Layout) (i : ℕ) (x : Seq ℕ) : Type 0 where
  pub raw : x ≡ sublist (bytes_of a) (i * size_of (layout_type a)) (size_of (layout_type a))
  pub slot_is : slot a i ≡ where_valid (validity_of a) i (slots.bytes x)

-- the n items of the child from o on; they are slot i unless it is null
pub record AreItems (a : Layout) (i o n : ℕ) (x : AnyArray) : Type 0 where
  pub parts : layout_of x ≡ slice_layout (child_of a) o n
  pub slot_is : slot a i ≡ where_valid (validity_of a) i (slots.list (seal (slots_of (layout_of x))))

-- Variable-size List Layout: the items from offset i to the next offset; also the entries of a map
abbrev pub IsList : Layout → ℕ → AnyArray → Type 0
IsList a i x = AreItems a i (begin (offsets_of a) i) (extent (offsets_of a) i) x

-- Fixed-Size List Layout: the items from i times the size on, as many as the size
abbrev pub IsFixedSizeList : Layout → ℕ → AnyArray → Type 0
IsFixedSizeList a i x = AreItems a i (i * size_of (layout_type a)) (size_of (layout_type a)) x

-- Struct Layout: a scalar for each child, of its data type and its slot i; their struct is slot i unless it is null
pub record IsRecord (a : Layout) (i : ℕ) (xs : Seq ScalarParts) : Type 0 where
  pub types : types_in xs ≡ child_types (children_of a)
  pub fields : slots_in xs ≡ each (children_of a) i
  pub slot_is : slot a i ≡ where_valid (validity_of a) i (slots.record_of (slots_in xs))

-- Union Layout: the scalar that slot i picks
abbrev pub IsPicked : Layout → ℕ → ScalarParts → Type 0
IsPicked a i x = IsPickOf (slot a i) x

-- each raw key of a dictionary is the index of a value, also under a null
abbrev pub EachKeyNames : Layout → Type 0
EachKeyNames a = EachNames (raw_keys (keys_of a)) (len (child_of a))

-- Dictionary-encoded Layout: the value of raw key i, with the data type of the values; it is slot i unless it is null
pub record IsKeyed (a : Layout) (i : ℕ) (x : ScalarParts) : Type 0 where
  pub value : x ≡ scalar_parts (layout_type (child_of a)) (slot (child_of a) (to_index (key_at (keys_of a) i)))
  pub slot_is : slot a i ≡ where_valid (validity_of a) i x.slot

-- raw key i, which is not negative
abbrev pub IsKey : Layout → ℕ → ℕ → Type 0
IsKey a i k = pos k ≡ key_at (keys_of a) i

-- x is the string of slot i
abbrev pub IsText : Layout → ℕ → Seq ℕ → Type 0
IsText a i x = slot a i ≡ slots.utf8 x

-- no slot is null
abbrev pub HasNoNull : Layout → Type 0
HasNoNull a = null_count a ≡ 0

-- UTF-8 arrays with offsets of this width
abbrev pub AreTexts : Bool → Layout → Type 0
AreTexts large a = physical_type (layout_type a) ≡ utf8_of_width large
