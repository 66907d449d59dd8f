-- A layout: an array as a tree of its kind and its parts, as the accessors return them after slicing.
-- Each constructor is a layout of the Arrow columnar format and begins with the data type.
use Rattle.std.specs.Prelude.{ℕ, suc, ℤ, Bool, List, Option, ◌+◌, [], ◌∷◌}
use Rattle.nest_memory.specs.TypeTree.{TypeTree, FieldTrees, no_fields, more_fields, field_type}
use Rattle.nest_memory.specs.declared.datatypes.physical_type.PrimitiveType.{PrimitiveType}
use Rattle.nest_model.specs.Part.{Validity}

mutual
  pub data Layout : Type 0 where
    -- Null Layout: the length.
    null : TypeTree → ℕ → Layout
    -- Fixed-size Primitive Layout of Booleans: the bits and the validity.
    boolean : TypeTree → List Bool → Validity → Layout
    -- Fixed-size Primitive Layout: the primitive type and the values, each as a list of integers.
    primitive : PrimitiveType → TypeTree → List (List ℤ) → Validity → Layout
    -- Variable-size Binary Layout: whether offsets have 64 bits, the offsets and the bytes.
    binary : Bool → TypeTree → List ℕ → List ℕ → Validity → Layout
    -- Variable-size Binary Layout of UTF-8 bytes.
    utf8 : Bool → TypeTree → List ℕ → List ℕ → Validity → Layout
    -- Fixed-size Primitive Layout of fixed-size binary: the bytes. The size is in the data type.
    fixed_size_binary : TypeTree → List ℕ → Validity → Layout
    -- Fixed-Size List Layout: the items. The size is in the data type.
    fixed_size_list : TypeTree → Layout → Validity → Layout
    -- Variable-size List Layout: whether offsets have 64 bits, the offsets and the items.
    list : Bool → TypeTree → List ℕ → Layout → Validity → Layout
    -- Variable-size List Layout of a map: 32-bit offsets and the entries.
    map : TypeTree → List ℕ → Layout → Validity → Layout
    -- Struct Layout: one child for each field.
    struct : TypeTree → Layouts → Validity → Layout
    -- Union Layout: the type ids, one child for each field, and the offsets of a dense union.
    -- The last part is the index in the children where a sparse union begins.
    union : TypeTree → List ℤ → Layouts → Option (List ℤ) → ℕ → Layout
    -- Dictionary-encoded Layout: an array of integer keys and the values.
    dictionary : TypeTree → Layout → Layout → Layout

  pub data Layouts : Type 0 where
    no_layouts : Layouts
    more_layouts : Layout → Layouts → Layouts

-- The data type of an array.
abbrev pub layout_type : Layout → TypeTree
layout_type (null t n) = t
layout_type (boolean t bs va) = t
layout_type (primitive k t vs va) = t
layout_type (binary l t os bs va) = t
layout_type (utf8 l t os bs va) = t
layout_type (fixed_size_binary t bs va) = t
layout_type (fixed_size_list t c va) = t
layout_type (list l t os c va) = t
layout_type (map t os c va) = t
layout_type (struct t cs va) = t
layout_type (union t ks cs os start) = t
layout_type (dictionary t ks c) = t

-- The data types of fields, in order.
abbrev pub field_types : FieldTrees → List TypeTree
field_types no_fields = []
field_types (more_fields f fs) = field_type f ∷ field_types fs

abbrev pub count_layouts : Layouts → ℕ
count_layouts no_layouts = 0
count_layouts (more_layouts c cs) = suc (count_layouts cs)

-- The number of arrays below this one that have its values. Keys are flat and not counted.
abbrev mutual
  pub weight : Layout → ℕ
  weight (fixed_size_list t c va) = weight c + 1
  weight (list l t os c va) = weight c + 1
  weight (map t os c va) = weight c + 1
  weight (struct t cs va) = weight_all cs + 1
  weight (union t ks cs os start) = weight_all cs + 1
  weight (dictionary t ks c) = weight c + 1
  weight a = 0

  pub weight_all : Layouts → ℕ
  weight_all no_layouts = 0
  weight_all (more_layouts c cs) = weight c + weight_all cs + 1
