-- The parts of an array. A part that the layout does not have is empty.
use Rattle.std.specs.Prelude.{ℕ, zero, suc, ℤ, pos, Bool, List, [], ◌∷◌, map, get_or, Option, Some, None}
use Rattle.nest_memory.specs.declared.datatypes.IntegerType.{IntegerType}
use Rattle.nest_memory.specs.declared.datatypes.IntegerType.TheVariants as integers
use Rattle.nest_memory.specs.declared.datatypes.physical_type.PrimitiveType.{PrimitiveType}
use Rattle.nest_memory.specs.declared.datatypes.physical_type.PrimitiveType.TheVariants as primitives
use Rattle.nest_memory.specs.TypeTree as types
use Rattle.nest_memory.specs.TypeTree.{TypeTree}
use Rattle.nest_model.specs.Part.{Validity}
use Rattle.nest_model.specs.Layout as layouts
use Rattle.nest_model.specs.Layout.{Layout, Layouts, no_layouts, more_layouts}

-- Validity bitmaps: the validity. Null and union arrays have none; a dictionary has that of its keys.
abbrev pub validity_of : Layout → Validity
validity_of (layouts.null t n) = None
validity_of (layouts.boolean t bs va) = va
validity_of (layouts.primitive k t vs va) = va
validity_of (layouts.binary l t os bs va) = va
validity_of (layouts.utf8 l t os bs va) = va
validity_of (layouts.fixed_size_binary t bs va) = va
validity_of (layouts.fixed_size_list t c va) = va
validity_of (layouts.list l t os c va) = va
validity_of (layouts.map t os c va) = va
validity_of (layouts.struct t cs va) = va
validity_of (layouts.union t ks cs os start) = None
validity_of (layouts.dictionary t ks c) = validity_of ks

-- The array with this validity.
abbrev pub with_validity : Layout → Validity → Layout
with_validity (layouts.null t n) new = layouts.null t n
with_validity (layouts.boolean t bs va) new = layouts.boolean t bs new
with_validity (layouts.primitive k t vs va) new = layouts.primitive k t vs new
with_validity (layouts.binary l t os bs va) new = layouts.binary l t os bs new
with_validity (layouts.utf8 l t os bs va) new = layouts.utf8 l t os bs new
with_validity (layouts.fixed_size_binary t bs va) new = layouts.fixed_size_binary t bs new
with_validity (layouts.fixed_size_list t c va) new = layouts.fixed_size_list t c new
with_validity (layouts.list l t os c va) new = layouts.list l t os c new
with_validity (layouts.map t os c va) new = layouts.map t os c new
with_validity (layouts.struct t cs va) new = layouts.struct t cs new
with_validity (layouts.union t ks cs os start) new = layouts.union t ks cs os start
with_validity (layouts.dictionary t ks c) new = layouts.dictionary t (with_validity ks new) c

-- The array with this data type.
abbrev pub with_type : Layout → TypeTree → Layout
with_type (layouts.null t n) new = layouts.null new n
with_type (layouts.boolean t bs va) new = layouts.boolean new bs va
with_type (layouts.primitive k t vs va) new = layouts.primitive k new vs va
with_type (layouts.binary l t os bs va) new = layouts.binary l new os bs va
with_type (layouts.utf8 l t os bs va) new = layouts.utf8 l new os bs va
with_type (layouts.fixed_size_binary t bs va) new = layouts.fixed_size_binary new bs va
with_type (layouts.fixed_size_list t c va) new = layouts.fixed_size_list new c va
with_type (layouts.list l t os c va) new = layouts.list l new os c va
with_type (layouts.map t os c va) new = layouts.map new os c va
with_type (layouts.struct t cs va) new = layouts.struct new cs va
with_type (layouts.union t ks cs os start) new = layouts.union new ks cs os start
with_type (layouts.dictionary t ks c) new = layouts.dictionary new ks c

-- The values of a boolean array.
abbrev pub bits_of : Layout → List Bool
bits_of (layouts.boolean t bs va) = bs
bits_of a = []

-- The values of a primitive array, each as a list of integers.
abbrev pub natives_of : Layout → List (List ℤ)
natives_of (layouts.primitive k t vs va) = vs
natives_of a = []

-- The bytes of a binary, UTF-8 or fixed-size binary array.
abbrev pub bytes_of : Layout → List ℕ
bytes_of (layouts.binary l t os bs va) = bs
bytes_of (layouts.utf8 l t os bs va) = bs
bytes_of (layouts.fixed_size_binary t bs va) = bs
bytes_of a = []

-- The offsets of a binary, UTF-8, list or map array.
abbrev pub offsets_of : Layout → List ℕ
offsets_of (layouts.binary l t os bs va) = os
offsets_of (layouts.utf8 l t os bs va) = os
offsets_of (layouts.list l t os c va) = os
offsets_of (layouts.map t os c va) = os
offsets_of a = []

-- The items of a list, the entries of a map or the values of a dictionary.
abbrev pub child_of : Layout → Layout
child_of (layouts.fixed_size_list t c va) = c
child_of (layouts.list l t os c va) = c
child_of (layouts.map t os c va) = c
child_of (layouts.dictionary t ks c) = c
child_of a = layouts.null types.null 0

-- The children of a struct or union array.
abbrev pub children_of : Layout → Layouts
children_of (layouts.struct t cs va) = cs
children_of (layouts.union t ks cs os start) = cs
children_of a = no_layouts

-- The child at this index.
abbrev pub child_at : Layouts → ℕ → Layout
child_at no_layouts f = layouts.null types.null 0
child_at (more_layouts c cs) zero = c
child_at (more_layouts c cs) (suc f) = child_at cs f

-- The types buffer of a union.
abbrev pub types_of : Layout → List ℤ
types_of (layouts.union t ks cs os start) = ks
types_of a = []

-- The offsets buffer of a dense union.
abbrev pub union_offsets_of : Layout → Option (List ℤ)
union_offsets_of (layouts.union t ks cs os start) = os
union_offsets_of a = None

-- The index in the children where a sparse union begins.
abbrev pub start_of : Layout → ℕ
start_of (layouts.union t ks cs os start) = start
start_of a = 0

-- The keys of a dictionary.
abbrev pub keys_of : Layout → Layout
keys_of (layouts.dictionary t ks c) = ks
keys_of a = layouts.null types.null 0

-- The integer of a native value that has one.
abbrev pub as_integer : List ℤ → ℤ
as_integer [] = pos 0
as_integer (z ∷ zs) = z

-- The values of an array of keys, including those at null slots.
abbrev pub raw_keys : Layout → List ℤ
raw_keys ks = map as_integer (natives_of ks)

-- The key of slot i, whether or not the slot is null.
abbrev pub key_at : Layout → ℕ → ℤ
key_at ks i = get_or (raw_keys ks) i (pos 0)

-- The key type whose native values are of this primitive type.
abbrev pub key_kind : PrimitiveType → Option IntegerType
key_kind primitives.Int8 = Some integers.Int8
key_kind primitives.Int16 = Some integers.Int16
key_kind primitives.Int32 = Some integers.Int32
key_kind primitives.Int64 = Some integers.Int64
key_kind primitives.UInt8 = Some integers.UInt8
key_kind primitives.UInt16 = Some integers.UInt16
key_kind primitives.UInt32 = Some integers.UInt32
key_kind primitives.UInt64 = Some integers.UInt64
key_kind k = None

-- The key type of an array of keys.
abbrev pub key_type_of : Layout → Option IntegerType
key_type_of (layouts.primitive k t vs va) = key_kind k
key_type_of a = None
