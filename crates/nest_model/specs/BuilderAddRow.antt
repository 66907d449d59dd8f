-- Rows added over the pending items of the children: when the items make a row, why a row is refused, and the result.
use Rattle.std.specs.Prelude.{◌≡◌, ℕ, ◌+◌, ◌*◌, ◌≤◌, Bool, true, false, List, [], ◌∷◌, ◌++◌, drop, length, Option, Some, None}
use Rattle.nest_memory.specs.TypeTree.{item_type, fields_of, size_of, TypeTree}
use Rattle.nest_model.specs.Slot as slots
use Rattle.nest_model.specs.Slot.{Slot, seal}
use Rattle.nest_model.specs.BuilderRow.{Row, row_ending, end_from, RisesFrom}
use Rattle.nest_model.specs.BuilderTree.{BuilderTree, flat, list, fixed_size_list, dictionary, struct, builder_type, builder_types, builder_len, BuilderTrees, no_builders, more_builders}
use Rattle.nest_model.specs.Layout.{field_types}
use Rattle.nest_model.specs.BuilderLevels.{own_slots, own_slots_each, levels_below, valid_or_null, record_at, rows_of_items}
use Rattle.nest_model.specs.BuilderComplete.{IsComplete, AreComplete, ValuesDiffer}
use Rattle.nest_memory.specs.declared.error.Error.TheVariants.{InvalidArgumentError, Overflow}
use Rattle.nest_memory.specs.declared.error.ArgumentError.TheVariants.{ItemSize, ItemType, Incomplete, LengthsSum}
use Rattle.nest_memory.specs.Rising.{largest_offset}
use Rattle.nest_model.specs.Checks.{Checks, done, check, largest_length}

-- each child is complete
abbrev pub AreEachComplete : BuilderTrees → Type 0
AreEachComplete no_builders = Unit {0}
AreEachComplete (more_builders c cs) = IsComplete c × AreEachComplete cs

-- the precondition of adding a row: complete children, and offsets that never decrease
abbrev pub HasCompleteChildren : BuilderTree → Type 0
HasCompleteChildren (flat t xs) = Unit {0}
HasCompleteChildren (list large t rows c) = IsComplete c × RisesFrom 0 rows
HasCompleteChildren (fixed_size_list t bits c) = IsComplete c
HasCompleteChildren (dictionary k t keys c) = IsComplete c
HasCompleteChildren (struct t bits cs) = AreEachComplete cs

-- each child has n rows
abbrev pub HaveRows : BuilderTrees → ℕ → Type 0
HaveRows no_builders n = Unit {0}
HaveRows (more_builders c cs) n = (builder_len c ≡ n) × HaveRows cs n

-- the child has the list's item type and at least the items that the rows need
abbrev pub CoversRows : TypeTree → List Row → BuilderTree → Type 0
CoversRows t rows c = (item_type t ≡ Some (builder_type c)) × (end_from 0 rows ≤ builder_len c)

-- the pending items of the children make one row
abbrev pub IsReady : BuilderTree → Type 0
IsReady (flat t xs) = ⊥
IsReady (list large t rows c) = IsComplete c × (item_type t ≡ Some (builder_type c)) × (end_from 0 rows ≤ builder_len c) × RisesFrom 0 rows
IsReady (fixed_size_list t bits c) = IsComplete c × (item_type t ≡ Some (builder_type c)) × (builder_len c ≡ (length bits + 1) * size_of t)
IsReady (dictionary k t keys c) = ⊥
IsReady (struct t bits cs) = AreComplete cs (length bits + 1) × (builder_types cs ≡ field_types (fields_of t))

-- n more rows over the pending items stay within the limits of the builder's own offsets; other ready rows pass none
abbrev pub FitsLimits : ℕ → BuilderTree → Type 0
FitsLimits n (list large t rows c) = (length rows + n ≤ largest_length) × (builder_len c ≤ largest_offset large)
FitsLimits n _ = Unit {0}

-- The checks of a row, valid or null: children of other types or with too few items, a fixed-size list with too many,
-- a row past a limit. Other kinds have no such rows.
abbrev pub row_checks : BuilderTree → Checks
row_checks (flat t xs) = check (InvalidArgumentError ItemType) ⊥ done
row_checks (list large t rows c) =
    check (InvalidArgumentError Incomplete) (CoversRows t rows c)
    (check Overflow (FitsLimits 1 (list large t rows c)) done)
row_checks (fixed_size_list t bits c) =
    check (InvalidArgumentError Incomplete) ((item_type t ≡ Some (builder_type c)) × ((length bits + 1) * size_of t ≤ builder_len c))
    (check (InvalidArgumentError ItemSize) (builder_len c ≤ (length bits + 1) * size_of t) done)
row_checks (dictionary k t keys c) = check (InvalidArgumentError ItemType) ⊥ done
row_checks (struct t bits cs) =
    check (InvalidArgumentError Incomplete) ((builder_types cs ≡ field_types (fields_of t)) × HaveRows cs (length bits + 1)) done

-- one more row over the pending items of the children, which do not change
abbrev pub with_row : Bool → BuilderTree → BuilderTree
with_row valid (flat t xs) = flat t xs
with_row valid (list large t rows c) = list large t (rows ++ row_ending valid (builder_len c) ∷ []) c
with_row valid (fixed_size_list t bits c) = fixed_size_list t (bits ++ valid ∷ []) c
with_row valid (dictionary k t keys c) = dictionary k t keys c
with_row valid (struct t bits cs) = struct t (bits ++ valid ∷ []) cs

-- the slot of the pending items: a list of the items after the last row, or a struct of the children's next row
abbrev pub pending_slot : Bool → BuilderTree → Slot
pending_slot valid (flat t xs) = slots.null
pending_slot valid (list large t rows c) = valid_or_null valid (slots.list (seal (drop (end_from 0 rows) (own_slots c))))
pending_slot valid (fixed_size_list t bits c) = valid_or_null valid (slots.list (seal (drop (length bits * size_of t) (own_slots c))))
pending_slot valid (dictionary k t keys c) = slots.null
pending_slot valid (struct t bits cs) = valid_or_null valid (slots.record_of (record_at (length bits) (own_slots_each cs)))

-- A row was added: the pending items are its slot, no item is pending, and the levels below did not change.
pub record RowAdded (valid : Bool) (old new : BuilderTree) : Type 0 where
  pub exact : new ≡ with_row valid old
  pub last : own_slots new ≡ own_slots old ++ pending_slot valid old ∷ []
  pub below : levels_below new ≡ levels_below old
  pub complete : IsComplete new
  pub differ : ValuesDiffer old → ValuesDiffer new

-- the rows of a list with these lengths, starting at offset s; None is a null row without items
abbrev pub rows_of_lengths : ℕ → List (Option ℕ) → List Row
rows_of_lengths s [] = []
rows_of_lengths s (None ∷ ns) = row_ending false s ∷ rows_of_lengths s ns
rows_of_lengths s (Some n ∷ ns) = row_ending true (s + n) ∷ rows_of_lengths (s + n) ns

abbrev pub with_rows : List (Option ℕ) → BuilderTree → BuilderTree
with_rows ns (flat t xs) = flat t xs
with_rows ns (list large t rows c) = list large t (rows ++ rows_of_lengths (end_from 0 rows) ns) c
with_rows ns (fixed_size_list t bits c) = fixed_size_list t bits c
with_rows ns (dictionary k t keys c) = dictionary k t keys c
with_rows ns (struct t bits cs) = struct t bits cs

-- the sum of the lengths; a null row has no items
abbrev pub items_of_lengths : List (Option ℕ) → ℕ
items_of_lengths [] = 0
items_of_lengths (None ∷ ns) = items_of_lengths ns
items_of_lengths (Some n ∷ ns) = n + items_of_lengths ns

-- the slots of rows added by their lengths
abbrev pub pending_slots : List (Option ℕ) → BuilderTree → List Slot
pending_slots ns (flat t xs) = []
pending_slots ns (list large t rows c) = rows_of_items (end_from 0 rows) (rows_of_lengths (end_from 0 rows) ns) (own_slots c)
pending_slots ns (fixed_size_list t bits c) = []
pending_slots ns (dictionary k t keys c) = []
pending_slots ns (struct t bits cs) = []

-- the pending items are exactly the items of rows with these lengths
abbrev pub AreReady : List (Option ℕ) → BuilderTree → Type 0
AreReady ns (list large t rows c) = IsReady (list large t rows c) × (end_from 0 rows + items_of_lengths ns ≡ builder_len c)
AreReady ns _ = ⊥

-- The checks of rows added by their lengths: the child has the item type of the list and covers its rows,
-- the rows end where the items end, and they pass no limit.
abbrev pub lengths_checks : List (Option ℕ) → BuilderTree → Checks
lengths_checks ns (list large t rows c) =
    check (InvalidArgumentError Incomplete) (CoversRows t rows c)
    (check (InvalidArgumentError LengthsSum) (end_from 0 rows + items_of_lengths ns ≡ builder_len c)
    (check Overflow (FitsLimits (length ns) (list large t rows c)) done))
lengths_checks ns _ = check (InvalidArgumentError ItemType) ⊥ done

-- the same as `RowAdded` for rows added by their lengths
pub record RowsAdded (ns : List (Option ℕ)) (old new : BuilderTree) : Type 0 where
  pub exact : new ≡ with_rows ns old
  pub last : own_slots new ≡ own_slots old ++ pending_slots ns old
  pub below : levels_below new ≡ levels_below old
  pub complete : IsComplete new
  pub differ : ValuesDiffer old → ValuesDiffer new
