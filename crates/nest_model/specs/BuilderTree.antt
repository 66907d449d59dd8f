-- A builder as a tree: its kind, data type, rows and children.
use Rattle.std.specs.Prelude.{ℕ, ◌^◌, ◌<◌, Bool, List, [], ◌∷◌, length, Option}
use Rattle.nest_memory.specs.TypeTree.{TypeTree}
use Rattle.nest_memory.specs.declared.datatypes.IntegerType.{IntegerType}
use Rattle.nest_memory.specs.declared.datatypes.IntegerType.TheVariants as integers
use Rattle.nest_model.specs.Slot.{Slot}
use Rattle.nest_model.specs.Checks.{largest_length}
use Rattle.nest_model.specs.BuilderRow.{Row}

mutual
  pub data BuilderTree : Type 0 where
    -- a builder without children: null, Boolean, native, binary, UTF-8 or fixed-size binary slots
    flat : TypeTree → List Slot → BuilderTree
    -- Variable-size List Layout: whether offsets have 64 bits, data type, rows, items
    list : Bool → TypeTree → List Row → BuilderTree → BuilderTree
    -- Fixed-Size List Layout: data type (with the size), whether each row is valid, items
    fixed_size_list : TypeTree → List Bool → BuilderTree → BuilderTree
    -- Dictionary-encoded Layout: key type, data type, an optional key for each row, values
    dictionary : IntegerType → TypeTree → List (Option ℕ) → BuilderTree → BuilderTree
    -- Struct Layout: data type, whether each row is valid, one child for each field
    struct : TypeTree → List Bool → BuilderTrees → BuilderTree

  pub data BuilderTrees : Type 0 where
    no_builders : BuilderTrees
    more_builders : BuilderTree → BuilderTrees → BuilderTrees

-- the data type of a builder
abbrev pub builder_type : BuilderTree → TypeTree
builder_type (flat t xs) = t
builder_type (list large t rows c) = t
builder_type (fixed_size_list t bits c) = t
builder_type (dictionary k t keys c) = t
builder_type (struct t bits cs) = t

-- the number of rows
abbrev pub builder_len : BuilderTree → ℕ
builder_len (flat t xs) = length xs
builder_len (list large t rows c) = length rows
builder_len (fixed_size_list t bits c) = length bits
builder_len (dictionary k t keys c) = length keys
builder_len (struct t bits cs) = length bits

-- children in order, and back
abbrev pub join_builders : List BuilderTree → BuilderTrees
join_builders [] = no_builders
join_builders (c ∷ cs) = more_builders c (join_builders cs)

abbrev pub split_builders : BuilderTrees → List BuilderTree
split_builders no_builders = []
split_builders (more_builders c cs) = c ∷ split_builders cs

-- the data types of the children
abbrev pub builder_types : BuilderTrees → List TypeTree
builder_types no_builders = []
builder_types (more_builders c cs) = builder_type c ∷ builder_types cs

-- greater than the largest length
abbrev pub IsPast : ℕ → Type 0
IsPast n = largest_length < n

-- Dictionary-encoded Layout: the number of values that keys of a type can index
abbrev pub key_count : IntegerType → ℕ
key_count integers.Int8 = 2 ^ 7
key_count integers.Int16 = 2 ^ 15
key_count integers.Int32 = 2 ^ 31
key_count integers.Int64 = 2 ^ 63
key_count integers.UInt8 = 2 ^ 8
key_count integers.UInt16 = 2 ^ 16
key_count integers.UInt32 = 2 ^ 32
key_count integers.UInt64 = 2 ^ 64
