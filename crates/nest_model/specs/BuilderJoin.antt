-- Appending the rows of another builder of the same kinds, and why they are refused.
use Rattle.std.specs.Prelude.{◌≡◌, ℕ, ◌+◌, List, [], ◌∷◌, ◌++◌, map, ◌*◌, ◌||◌, Bool, false, ltb, length}
use Rattle.nest_model.specs.Slot.{Slot}
use Rattle.nest_model.specs.BuilderRow.{Row, row_ending, end_from}
use Rattle.nest_model.specs.BuilderTree.{BuilderTree, flat, list, fixed_size_list, builder_len, builder_type}
use Rattle.nest_model.specs.BuilderLevels.{own_slots, levels}
use Rattle.nest_model.specs.BuilderComplete.{IsComplete, truncate_builder, ValuesDiffer}
use Rattle.nest_memory.specs.TypeTree.{size_of}
use Rattle.nest_memory.specs.declared.error.Error.TheVariants.{InvalidArgumentError, Overflow}
use Rattle.nest_memory.specs.declared.error.ArgumentError.TheVariants.{ItemType}
use Rattle.nest_memory.specs.Rising.{largest_offset}
use Rattle.nest_model.specs.Checks.{Checks, done, check, is_past}
use Rattle.nest_model.specs.BuilderItem.{bytes_held}
use Rattle.nest_model.specs.BuilderRefusals.{flat_passes}

-- Variable-size List Layout: rows with s added to each offset
abbrev pub moved : ℕ → List Row → List Row
moved s rows = map (λ (r : Row). row_ending r.valid (s + r.end)) rows

-- the same kinds and data types at every level; dictionaries and structs cannot be joined
abbrev pub CanJoin : BuilderTree → BuilderTree → Type 0
CanJoin (flat t xs) (flat u ys) = t ≡ u
CanJoin (list large t rows c) (list wide u more d) = (large ≡ wide) × (t ≡ u) × CanJoin c d
CanJoin (fixed_size_list t bits c) (fixed_size_list u more d) = (t ≡ u) × CanJoin c d
CanJoin _ _ = ⊥

abbrev pub joined_builder : BuilderTree → BuilderTree → BuilderTree
joined_builder (flat t xs) (flat u ys) = flat t (xs ++ ys)
joined_builder (list large t rows c) (list wide u more d) = list large t (rows ++ moved (end_from 0 rows) more) (joined_builder c d)
joined_builder (fixed_size_list t bits c) (fixed_size_list u more d) = fixed_size_list t (bits ++ more) (joined_builder c d)
joined_builder t _ = t

-- each level followed by the other builder's level
abbrev pub joined_levels : List (List Slot) → List (List Slot) → List (List Slot)
joined_levels (xs ∷ xss) (ys ∷ yss) = (xs ++ ys) ∷ joined_levels xss yss
joined_levels _ _ = []

-- The rows of other were appended to old: each level gained other's level, and no item is pending.
-- Truncating to the former length undoes it.
pub record Joined (other old new : BuilderTree) : Type 0 where
  pub exact : new ≡ joined_builder old other
  pub every : levels new ≡ joined_levels (levels old) (levels other)
  pub last : own_slots new ≡ own_slots old ++ own_slots other
  pub complete : IsComplete new
  pub undo : truncate_builder new (builder_len old) ≡ old
  pub differ : ValuesDiffer old → ValuesDiffer new

-- the rows of both pass a limit, here or at a level below
abbrev pub join_passes : BuilderTree → BuilderTree → Bool
join_passes (flat t xs) (flat u ys) = flat_passes t (length xs + length ys) (bytes_held xs + bytes_held ys)
join_passes (list large t rows c) (list wide u more d) = (is_past (length rows + length more) || ltb (largest_offset large) (end_from 0 rows + end_from 0 more)) || join_passes c d
join_passes (fixed_size_list t bits c) (fixed_size_list u more d) = (is_past (length bits + length more) || is_past ((length bits + length more) * size_of t)) || join_passes c d
join_passes _ _ = false

-- The checks of a join: the data types are equal, and the rows of both pass no limit.
abbrev pub join_checks : BuilderTree → BuilderTree → Checks
join_checks old other =
    check (InvalidArgumentError ItemType) (builder_type old ≡ builder_type other)
    (check Overflow (join_passes old other ≡ false) done)
