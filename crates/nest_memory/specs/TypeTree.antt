-- Data types as trees without memory, which contracts compare: `Field` and the union `Type` of `Schema.fbs`
-- of the Arrow columnar format, with "Extension Types" as a constructor.
use Rattle.std.specs.Prelude.{ℕ, suc, ℤ, Bool, true, false, List, Option, Some, None}
use Rattle.nest_memory.specs.declared.datatypes.TimeUnit.{TimeUnit}
use Rattle.nest_memory.specs.declared.datatypes.IntervalUnit.{IntervalUnit}
use Rattle.nest_memory.specs.declared.datatypes.IntegerType.{IntegerType}
use Rattle.nest_memory.specs.declared.datatypes.UnionMode.{UnionMode}
use Rattle.nest_memory.specs.declared.datatypes.UnionMode.TheVariants.{Dense, Sparse}

-- A string as the list of its bytes; this library's own.
abbrev pub Letters : Type 0
Letters = List ℕ

-- "Custom Application Metadata": the pairs of key and value of a field, in ascending order of keys.
abbrev pub Entries : Type 0
Entries = List (Letters × Letters)

mutual
  pub data TypeTree : Type 0 where
    null : TypeTree
    boolean : TypeTree
    int8 : TypeTree
    int16 : TypeTree
    int32 : TypeTree
    int64 : TypeTree
    uint8 : TypeTree
    uint16 : TypeTree
    uint32 : TypeTree
    uint64 : TypeTree
    float16 : TypeTree
    float32 : TypeTree
    float64 : TypeTree
    timestamp : TimeUnit → Option Letters → TypeTree
    date32 : TypeTree
    date64 : TypeTree
    time32 : TimeUnit → TypeTree
    time64 : TimeUnit → TypeTree
    duration : TimeUnit → TypeTree
    interval : IntervalUnit → TypeTree
    binary : TypeTree
    fixed_size_binary : ℕ → TypeTree
    large_binary : TypeTree
    utf8 : TypeTree
    large_utf8 : TypeTree
    list : FieldTree → TypeTree
    fixed_size_list : FieldTree → ℕ → TypeTree
    large_list : FieldTree → TypeTree
    struct : FieldTrees → TypeTree
    -- fields, optional type ids, mode
    union : FieldTrees → Option (List ℤ) → UnionMode → TypeTree
    -- field of the entries, whether the keys are sorted
    map : FieldTree → Bool → TypeTree
    -- type of the keys, type of the values, whether the values are ordered
    dictionary : IntegerType → TypeTree → Bool → TypeTree
    -- precision, scale
    decimal : ℕ → ℕ → TypeTree
    decimal256 : ℕ → ℕ → TypeTree
    -- name, storage type, metadata
    extension : Letters → TypeTree → Option Letters → TypeTree

  pub data FieldTree : Type 0 where
    -- name, type, whether it is nullable, metadata
    field : Letters → TypeTree → Bool → Entries → FieldTree

  pub data FieldTrees : Type 0 where
    no_fields : FieldTrees
    more_fields : FieldTree → FieldTrees → FieldTrees

-- "Extension Types": the storage type, without outer extension types.
abbrev pub logical_type : TypeTree → TypeTree
logical_type (extension n t m) = logical_type t
logical_type t = t

-- `Field.type` of `Schema.fbs`.
abbrev pub field_type : FieldTree → TypeTree
field_type (field n t b es) = t

-- The number of fields.
abbrev pub count_fields : FieldTrees → ℕ
count_fields no_fields = 0
count_fields (more_fields f fs) = suc (count_fields fs)

-- "Variable-size List Layout", "Fixed-Size List Layout": the field of the items, or of the entries of a map.
abbrev pub item_field : TypeTree → Option FieldTree
item_field (list f) = Some f
item_field (fixed_size_list f s) = Some f
item_field (large_list f) = Some f
item_field (map f b) = Some f
item_field (extension n t m) = item_field t
item_field t = None

-- The type of that field.
abbrev pub item_type : TypeTree → Option TypeTree
item_type (list f) = Some (field_type f)
item_type (fixed_size_list f s) = Some (field_type f)
item_type (large_list f) = Some (field_type f)
item_type (map f b) = Some (field_type f)
item_type (extension n t m) = item_type t
item_type t = None

-- "Fixed-Size List Layout": the number of bytes or items in each slot; 0 of any other type.
abbrev pub size_of : TypeTree → ℕ
size_of (fixed_size_binary s) = s
size_of (fixed_size_list f s) = s
size_of (extension n t m) = size_of t
size_of t = 0

-- The size of a fixed-size type; `None` of any other type.
abbrev pub fixed_size : TypeTree → Option ℕ
fixed_size (fixed_size_binary s) = Some s
fixed_size (fixed_size_list f s) = Some s
fixed_size (extension n t m) = fixed_size t
fixed_size t = None

-- "Struct Layout", "Union Layout": the fields; none of any other type.
abbrev pub fields_of : TypeTree → FieldTrees
fields_of (struct fs) = fs
fields_of (union fs ids mode) = fs
fields_of (extension n t m) = fields_of t
fields_of t = no_fields

-- The fields of a struct or a union; `None` of any other type.
abbrev pub own_fields : TypeTree → Option FieldTrees
own_fields (struct fs) = Some fs
own_fields (union fs ids mode) = Some fs
own_fields (extension n t m) = own_fields t
own_fields t = None

-- "Union Layout": the type ids of a union, if it has any.
abbrev pub ids_of : TypeTree → Option (List ℤ)
ids_of (union fs ids mode) = ids
ids_of (extension n t m) = ids_of t
ids_of t = None

-- "Union Layout": dense or sparse.
abbrev pub mode_of : TypeTree → Option UnionMode
mode_of (union fs ids mode) = Some mode
mode_of (extension n t m) = mode_of t
mode_of t = None

-- "Dense Union": whether the mode is dense.
abbrev pub is_dense_mode : UnionMode → Bool
is_dense_mode Dense = true
is_dense_mode Sparse = false

-- Whether the type is a dense union.
abbrev pub is_dense : TypeTree → Bool
is_dense (union fs ids mode) = is_dense_mode mode
is_dense (extension n t m) = is_dense t
is_dense t = false

-- "Dictionary-encoded Layout": the type of the keys.
abbrev pub key_type : TypeTree → Option IntegerType
key_type (dictionary k t b) = Some k
key_type (extension n t m) = key_type t
key_type t = None

-- "Dictionary-encoded Layout": the type of the values.
abbrev pub value_type : TypeTree → Option TypeTree
value_type (dictionary k t b) = Some t
value_type (extension n t m) = value_type t
value_type t = None

-- `DictionaryEncoding.isOrdered` of `Schema.fbs`; false of any other type.
abbrev pub is_ordered : TypeTree → Bool
is_ordered (dictionary k t b) = b
is_ordered (extension n t m) = is_ordered t
is_ordered t = false

-- Whether there are exactly two fields.
abbrev pub are_two : FieldTrees → Bool
are_two (more_fields a (more_fields b no_fields)) = true
are_two fs = false

-- Whether the type is a struct of two fields, and not an extension type.
abbrev pub is_pair : TypeTree → Bool
is_pair (struct fs) = are_two fs
is_pair t = false

-- `Map` of `Schema.fbs`: whether the entries are a struct of a key and a value.
abbrev pub has_pairs : TypeTree → Bool
has_pairs (map f b) = is_pair (field_type f)
has_pairs (extension n t m) = has_pairs t
has_pairs t = false
