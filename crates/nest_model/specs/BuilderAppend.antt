-- The result of an accepted item at each level of a builder.
use Rattle.std.specs.Prelude.{◌≡◌, ℕ, ◌*◌, true, false, List, [], ◌∷◌, ◌++◌, map, replicate, Option, Some, None}
use Rattle.nest_memory.specs.TypeTree.{TypeTree, size_of}
use Rattle.nest_memory.specs.declared.datatypes.IntegerType.{IntegerType}
use Rattle.nest_model.specs.Slot as slots
use Rattle.nest_model.specs.BuilderRow.{row_ending, end_from}
use Rattle.nest_model.specs.BuilderTree.{BuilderTree, BuilderTrees, flat, list, fixed_size_list, dictionary, struct, no_builders, more_builders, builder_len}
use Rattle.nest_model.specs.BuilderLevels.{own_slots}
use Rattle.nest_model.specs.BuilderComplete.{IsComplete, truncate_builder, ValuesDiffer}
use Rattle.nest_model.specs.BuilderItem as items
use Rattle.nest_model.specs.BuilderItem.{PlainValue, Item, Items, no_items, more_items, slot_of_plain, slot_of_item, position_of}
use Rattle.nest_model.specs.BuilderAddRow.{with_row}

-- n more nulls. A null list adds no item, a null list of size s adds s null items, a null struct adds a null to each
-- child, a null key adds no value.
abbrev mutual
  pub nulls_appended : ℕ → BuilderTree → BuilderTree
  nulls_appended n (flat t xs) = flat t (xs ++ replicate n slots.null)
  nulls_appended n (list large t rows c) = list large t (rows ++ replicate n (row_ending false (end_from 0 rows))) c
  nulls_appended n (fixed_size_list t bits c) = fixed_size_list t (bits ++ replicate n false) (nulls_appended (n * size_of t) c)
  nulls_appended n (dictionary k t keys c) = dictionary k t (keys ++ replicate n None) c
  nulls_appended n (struct t bits cs) = struct t (bits ++ replicate n false) (nulls_appended_each n cs)

  pub nulls_appended_each : ℕ → BuilderTrees → BuilderTrees
  nulls_appended_each n no_builders = no_builders
  nulls_appended_each n (more_builders c cs) = more_builders (nulls_appended n c) (nulls_appended_each n cs)

-- the key of a value: its index if known; otherwise the value is added and its key is the number of values before
abbrev pub keyed : IntegerType → TypeTree → List (Option ℕ) → BuilderTree → BuilderTree → Option ℕ → BuilderTree
keyed k t keys c with_value (Some place) = dictionary k t (keys ++ Some place ∷ []) c
keyed k t keys c with_value None = dictionary k t (keys ++ Some (builder_len c) ∷ []) with_value

-- one more value; a dictionary adds it to its values only if no value equals it
abbrev pub value_appended : PlainValue → BuilderTree → BuilderTree
value_appended v (flat t xs) = flat t (xs ++ slot_of_plain v ∷ [])
value_appended v (list large t rows c) = list large t rows c
value_appended v (fixed_size_list t bits c) = fixed_size_list t bits c
value_appended v (dictionary k t keys c) = keyed k t keys c (value_appended v c) (position_of v (own_slots c))
value_appended v (struct t bits cs) = struct t bits cs

-- one more item; a list appends its items to its child and then adds a row
abbrev mutual
  pub appended : Item → BuilderTree → BuilderTree
  appended items.null t = nulls_appended 1 t
  appended (items.plain v) t = value_appended v t
  appended (items.list_of xs) (flat t ss) = flat t ss
  appended (items.list_of xs) (list large t rows c) = with_row true (list large t rows (items_appended xs c))
  appended (items.list_of xs) (fixed_size_list t bits c) = with_row true (fixed_size_list t bits (items_appended xs c))
  appended (items.list_of xs) (dictionary k t keys c) = dictionary k t keys c
  appended (items.list_of xs) (struct t bits cs) = struct t bits cs

  pub items_appended : Items → BuilderTree → BuilderTree
  items_appended no_items t = t
  items_appended (more_items x xs) t = items_appended xs (appended x t)

-- items appended in order
abbrev pub all_appended : List Item → BuilderTree → BuilderTree
all_appended [] t = t
all_appended (x ∷ xs) t = all_appended xs (appended x t)

-- An item was accepted: each level gained the slots of the item, the item's slot is last, and no item is pending.
-- Truncating to the former length undoes it. Dictionaries with distinct values still have distinct values.
pub record Accepted (x : Item) (old new : BuilderTree) : Type 0 where
  pub exact : new ≡ appended x old
  pub last : own_slots new ≡ own_slots old ++ slot_of_item x ∷ []
  pub complete : IsComplete new
  pub undo : truncate_builder new (builder_len old) ≡ old
  pub differ : ValuesDiffer old → ValuesDiffer new

-- the same for several items, in order
pub record AcceptedAll (xs : List Item) (old new : BuilderTree) : Type 0 where
  pub exact : new ≡ all_appended xs old
  pub last : own_slots new ≡ own_slots old ++ map slot_of_item xs
  pub complete : IsComplete new
  pub undo : truncate_builder new (builder_len old) ≡ old
  pub differ : ValuesDiffer old → ValuesDiffer new

-- each child accepted the item
abbrev pub EachAccepted : Item → BuilderTrees → BuilderTrees → Type 0
EachAccepted x no_builders no_builders = Unit {0}
EachAccepted x no_builders (more_builders d ds) = ⊥
EachAccepted x (more_builders c cs) no_builders = ⊥
EachAccepted x (more_builders c cs) (more_builders d ds) = Accepted x c d × EachAccepted x cs ds
