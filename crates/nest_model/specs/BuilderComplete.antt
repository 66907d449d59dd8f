-- Complete builders, truncation to the first rows, and emptied builders.
use Rattle.std.specs.Prelude.{◌≡◌, ℕ, ◌*◌, ◌<◌, List, [], take, length, get_or, Some}
use Rattle.nest_memory.specs.TypeTree.{item_type, value_type, fields_of, size_of}
use Rattle.nest_model.specs.Slot as slots
use Rattle.nest_model.specs.Slot.{Slot}
use Rattle.nest_model.specs.Fits.{IsLogically}
use Rattle.nest_model.specs.BuilderRow.{end_from, RisesFrom, values_needed}
use Rattle.nest_model.specs.BuilderTree.{BuilderTree, BuilderTrees, flat, list, fixed_size_list, dictionary, struct, no_builders, more_builders, builder_type, builder_len, builder_types}
use Rattle.nest_model.specs.Layout.{field_types}
use Rattle.nest_model.specs.BuilderLevels.{own_slots}

-- complete: children are complete, have the types of their fields and exactly the items that the rows need;
-- for a dictionary the logical types are compared
abbrev mutual
  pub IsComplete : BuilderTree → Type 0
  IsComplete (flat t xs) = Unit {0}
  IsComplete (list large t rows c) = IsComplete c × (item_type t ≡ Some (builder_type c)) × (builder_len c ≡ end_from 0 rows) × RisesFrom 0 rows
  IsComplete (fixed_size_list t bits c) = IsComplete c × (item_type t ≡ Some (builder_type c)) × (builder_len c ≡ length bits * size_of t)
  IsComplete (dictionary k t keys c) = IsComplete c × IsLogically (value_type t) (builder_type c) × (builder_len c ≡ values_needed keys)
  IsComplete (struct t bits cs) = AreComplete cs (length bits) × (builder_types cs ≡ field_types (fields_of t))

  -- each child is complete and has n rows
  pub AreComplete : BuilderTrees → ℕ → Type 0
  AreComplete no_builders n = Unit {0}
  AreComplete (more_builders c cs) n = IsComplete c × (builder_len c ≡ n) × AreComplete cs n

-- the first n rows, and at each level below the items that they need
abbrev mutual
  pub truncate_builder : BuilderTree → ℕ → BuilderTree
  truncate_builder (flat t xs) n = flat t (take n xs)
  truncate_builder (list large t rows c) n = list large t (take n rows) (truncate_builder c (end_from 0 (take n rows)))
  truncate_builder (fixed_size_list t bits c) n = fixed_size_list t (take n bits) (truncate_builder c (n * size_of t))
  truncate_builder (dictionary k t keys c) n = dictionary k t (take n keys) (truncate_builder c (values_needed (take n keys)))
  truncate_builder (struct t bits cs) n = struct t (take n bits) (truncate_builders cs n)

  pub truncate_builders : BuilderTrees → ℕ → BuilderTrees
  truncate_builders no_builders n = no_builders
  truncate_builders (more_builders c cs) n = more_builders (truncate_builder c n) (truncate_builders cs n)

-- no rows at any level
abbrev mutual
  pub emptied : BuilderTree → BuilderTree
  emptied (flat t xs) = flat t []
  emptied (list large t rows c) = list large t [] (emptied c)
  emptied (fixed_size_list t bits c) = fixed_size_list t [] (emptied c)
  emptied (dictionary k t keys c) = dictionary k t [] (emptied c)
  emptied (struct t bits cs) = struct t [] (emptied_each cs)

  pub emptied_each : BuilderTrees → BuilderTrees
  emptied_each no_builders = no_builders
  emptied_each (more_builders c cs) = more_builders (emptied c) (emptied_each cs)

-- no two indices have equal slots
abbrev pub AreDifferent : List Slot → Type 0
AreDifferent xs = (i j : ℕ) → i < length xs → j < length xs → get_or xs i slots.null ≡ get_or xs j slots.null → i ≡ j

-- Dictionary-encoded Layout (stricter than the format): at every level the values of a dictionary are pairwise distinct
abbrev mutual
  pub ValuesDiffer : BuilderTree → Type 0
  ValuesDiffer (flat t xs) = Unit {0}
  ValuesDiffer (list large t rows c) = ValuesDiffer c
  ValuesDiffer (fixed_size_list t bits c) = ValuesDiffer c
  ValuesDiffer (dictionary k t keys c) = AreDifferent (own_slots c) × ValuesDiffer c
  ValuesDiffer (struct t bits cs) = ValuesDifferEach cs

  pub ValuesDifferEach : BuilderTrees → Type 0
  ValuesDifferEach no_builders = Unit {0}
  ValuesDifferEach (more_builders c cs) = ValuesDiffer c × ValuesDifferEach cs
