-- Why a pushed item is refused: the first check that fails, at this level or below. Also when a level is past a limit.
use Rattle.std.specs.Prelude.{ℕ, ◌+◌, ◌*◌, Bool, true, false, not, ◌&&◌, ◌||◌, nat_eq, leb, ltb, is_some, if◌then◌else◌, length, Option, Some, None}
use Rattle.nest_memory.specs.TypeTree.{TypeTree, size_of}
use Rattle.nest_memory.specs.Physical.{physical_type}
use Rattle.nest_memory.specs.declared.error.Error.{Error}
use Rattle.nest_memory.specs.declared.error.Error.TheVariants.{InvalidArgumentError, Overflow}
use Rattle.nest_memory.specs.declared.error.ArgumentError.TheVariants.{ItemSize, ItemType}
use Rattle.nest_memory.specs.declared.datatypes.physical_type.PhysicalType.{PhysicalType}
use Rattle.nest_memory.specs.declared.datatypes.physical_type.PhysicalType.TheVariants as physical
use Rattle.nest_memory.specs.Rising.{largest_offset}
use Rattle.nest_model.specs.Checks.{refuse_if, first_of, is_past}
use Rattle.nest_model.specs.BuilderTree.{BuilderTree, BuilderTrees, flat, list, fixed_size_list, dictionary, struct, no_builders, more_builders, builder_len, key_count}
use Rattle.nest_model.specs.BuilderLevels.{own_slots}
use Rattle.nest_model.specs.BuilderItem as items
use Rattle.nest_model.specs.BuilderItem.{PlainValue, Item, Items, no_items, more_items, count_items, slot_of_plain, takes, position_of, byte_count, bytes_held}
use Rattle.nest_model.specs.BuilderAppend.{appended, items_appended}
use Rattle.nest_model.specs.BuilderRow.{end_from}

-- Variable-size Binary Layout: the byte count exceeds the largest offset; for fixed-size binary, the largest length
abbrev pub bytes_pass : PhysicalType → ℕ → ℕ → Bool
bytes_pass physical.FixedSizeBinary fixed n = is_past fixed
bytes_pass physical.Binary fixed n = ltb (largest_offset false) n
bytes_pass physical.Utf8 fixed n = ltb (largest_offset false) n
bytes_pass physical.LargeBinary fixed n = ltb (largest_offset true) n
bytes_pass physical.LargeUtf8 fixed n = ltb (largest_offset true) n
bytes_pass _ fixed n = false

-- `count` slots, or n bytes in them, exceed a limit of a flat builder
abbrev pub flat_passes : TypeTree → ℕ → ℕ → Bool
flat_passes t count n = is_past count || bytes_pass (physical_type t) (count * size_of t) n

-- a fixed-size binary value of another size
abbrev pub has_other_size : PhysicalType → ℕ → ℕ → Bool
has_other_size physical.FixedSizeBinary size n = not (nat_eq n size)
has_other_size _ size n = false

-- n more nulls pass a limit, at this level or below
abbrev mutual
  pub nulls_pass : ℕ → BuilderTree → Bool
  nulls_pass n (flat t xs) = flat_passes t (length xs + n) 0
  nulls_pass n (list large t rows c) = is_past (length rows + n)
  nulls_pass n (fixed_size_list t bits c) = (is_past (length bits + n) || is_past ((length bits + n) * size_of t)) || nulls_pass (n * size_of t) c
  nulls_pass n (dictionary k t keys c) = is_past (length keys + n)
  nulls_pass n (struct t bits cs) = is_past (length bits + n) || nulls_pass_each n cs

  pub nulls_pass_each : ℕ → BuilderTrees → Bool
  nulls_pass_each n no_builders = false
  nulls_pass_each n (more_builders c cs) = nulls_pass n c || nulls_pass_each n cs

-- the value is one of the dictionary's values
abbrev pub is_known : BuilderTree → PlainValue → Bool
is_known c v = takes c v && is_some (position_of v (own_slots c))

-- The checks of a value: kind, size, limits. A dictionary has a key for a known value.
-- A new value needs a free key and passes the checks of the values. Lists and structs accept no value.
abbrev pub value_refusal : PlainValue → BuilderTree → Option Error
value_refusal v (flat t xs) =
    refuse_if (not (takes (flat t xs) v)) (InvalidArgumentError ItemType)
    (refuse_if (has_other_size (physical_type t) (size_of t) (byte_count (slot_of_plain v))) (InvalidArgumentError ItemSize)
    (refuse_if (flat_passes t (length xs + 1) (bytes_held xs + byte_count (slot_of_plain v))) Overflow None))
value_refusal v (list large t rows c) = Some (InvalidArgumentError ItemType)
value_refusal v (fixed_size_list t bits c) = Some (InvalidArgumentError ItemType)
value_refusal v (dictionary k t keys c) =
    first_of (if is_known c v then None else refuse_if (leb (key_count k) (builder_len c)) Overflow (refuse_if (not (takes c v)) (InvalidArgumentError ItemType) (value_refusal v c)))
    (refuse_if (is_past (length keys + 1)) Overflow None)
value_refusal v (struct t bits cs) = Some (InvalidArgumentError ItemType)

-- the same if the kind is checked first
abbrev pub plain_refusal : PlainValue → BuilderTree → Option Error
plain_refusal v t = refuse_if (not (takes t v)) (InvalidArgumentError ItemType) (value_refusal v t)

-- The checks of an item: null, a value, or a list. A list checks its items in order, their number, then its limits.
abbrev mutual
  pub item_refusal : Item → BuilderTree → Option Error
  item_refusal items.null t = refuse_if (nulls_pass 1 t) Overflow None
  item_refusal (items.plain v) t = value_refusal v t
  item_refusal (items.list_of xs) (flat t ss) = Some (InvalidArgumentError ItemType)
  item_refusal (items.list_of xs) (list large t rows c) =
      first_of (items_refusal xs c)
      (refuse_if (is_past (length rows + 1) || ltb (largest_offset large) (builder_len (items_appended xs c))) Overflow None)
  item_refusal (items.list_of xs) (fixed_size_list t bits c) =
      first_of (items_refusal xs c)
      (refuse_if (not (nat_eq (count_items xs) (size_of t))) (InvalidArgumentError ItemSize)
      (refuse_if (is_past (length bits + 1) || is_past ((length bits + 1) * size_of t)) Overflow None))
  item_refusal (items.list_of xs) (dictionary k t keys c) = Some (InvalidArgumentError ItemType)
  item_refusal (items.list_of xs) (struct t bits cs) = Some (InvalidArgumentError ItemType)

  -- items pushed in order, up to the first refused item
  pub items_refusal : Items → BuilderTree → Option Error
  items_refusal no_items t = None
  items_refusal (more_items x xs) t = first_of (item_refusal x t) (items_refusal xs (appended x t))

-- the same for `try_push_plain`: None is null
abbrev pub required_item : Option PlainValue → Item
required_item None = items.null
required_item (Some v) = items.plain v

abbrev pub requirement_refusal : Option PlainValue → BuilderTree → Option Error
requirement_refusal None t = item_refusal items.null t
requirement_refusal (Some v) t = plain_refusal v t

-- a level is past a limit
abbrev mutual
  pub over_limits : BuilderTree → Bool
  over_limits (flat t xs) = flat_passes t (length xs) (bytes_held xs)
  over_limits (list large t rows c) = (is_past (length rows) || ltb (largest_offset large) (end_from 0 rows)) || over_limits c
  over_limits (fixed_size_list t bits c) = (is_past (length bits) || is_past (length bits * size_of t)) || over_limits c
  over_limits (dictionary k t keys c) = (is_past (length keys) || ltb (key_count k) (builder_len c)) || over_limits c
  over_limits (struct t bits cs) = is_past (length bits) || over_limits_each cs

  pub over_limits_each : BuilderTrees → Bool
  over_limits_each no_builders = false
  over_limits_each (more_builders c cs) = over_limits c || over_limits_each cs
