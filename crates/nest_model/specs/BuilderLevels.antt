-- The slots that a builder represents, at each of its levels.
use Rattle.std.specs.Prelude.{ℕ, suc, ◌+◌, ◌-◌, ◌*◌, Bool, true, false, List, [], ◌∷◌, ◌++◌, map, take, get_or, Option, Some, None}
use Rattle.nest_memory.specs.TypeTree.{size_of}
use Rattle.nest_memory.specs.Sublist.{sublist}
use Rattle.nest_model.specs.Slot as slots
use Rattle.nest_model.specs.Slot.{Slot, Slots, seal}
use Rattle.nest_model.specs.BuilderRow.{Row, end_from, values_needed}
use Rattle.nest_model.specs.BuilderTree.{BuilderTree, BuilderTrees, flat, list, fixed_size_list, dictionary, struct, no_builders, more_builders}

-- Validity bitmaps: the slot if valid, null otherwise
abbrev pub valid_or_null : Bool → Slot → Slot
valid_or_null true s = s
valid_or_null false s = slots.null

-- Variable-size List Layout: the slots of the rows over the child's slots xs, with items starting at offset s
abbrev pub rows_of_items : ℕ → List Row → List Slot → List Slot
rows_of_items s [] xs = []
rows_of_items s (r ∷ rs) xs = valid_or_null r.valid (slots.list (seal (sublist xs s (r.end - s)))) ∷ rows_of_items r.end rs xs

-- Fixed-Size List Layout: the same for rows of n items each
abbrev pub rows_of_size : ℕ → ℕ → List Bool → List Slot → List Slot
rows_of_size s n [] xs = []
rows_of_size s n (b ∷ bs) xs = valid_or_null b (slots.list (seal (sublist xs s n))) ∷ rows_of_size (s + n) n bs xs

-- Dictionary-encoded Layout: null, or the value at the key
abbrev pub value_at : List Slot → Option ℕ → Slot
value_at xs None = slots.null
value_at xs (Some k) = get_or xs k slots.null

-- Struct Layout: the children's slots at index i
abbrev pub record_at : ℕ → List (List Slot) → Slots
record_at i [] = slots.no_slots
record_at i (xs ∷ xss) = slots.more_slots (get_or xs i slots.null) (record_at i xss)

-- Struct Layout: the slots of the rows from index i
abbrev pub rows_of_records : ℕ → List Bool → List (List Slot) → List Slot
rows_of_records i [] xss = []
rows_of_records i (b ∷ bs) xss = valid_or_null b (slots.record_of (record_at i xss)) ∷ rows_of_records (suc i) bs xss

-- the slots of the builder's rows
abbrev mutual
  pub own_slots : BuilderTree → List Slot
  own_slots (flat t xs) = xs
  own_slots (list large t rows c) = rows_of_items 0 rows (own_slots c)
  own_slots (fixed_size_list t bits c) = rows_of_size 0 (size_of t) bits (own_slots c)
  own_slots (dictionary k t keys c) = map (value_at (own_slots c)) keys
  own_slots (struct t bits cs) = rows_of_records 0 bits (own_slots_each cs)

  pub own_slots_each : BuilderTrees → List (List Slot)
  own_slots_each no_builders = []
  own_slots_each (more_builders c cs) = own_slots c ∷ own_slots_each cs

-- the builder's own slots, then the levels of its children in order; a child's level includes its pending items
abbrev mutual
  pub levels : BuilderTree → List (List Slot)
  levels (flat t xs) = own_slots (flat t xs) ∷ []
  levels (list large t rows c) = own_slots (list large t rows c) ∷ levels c
  levels (fixed_size_list t bits c) = own_slots (fixed_size_list t bits c) ∷ levels c
  levels (dictionary k t keys c) = own_slots (dictionary k t keys c) ∷ levels c
  levels (struct t bits cs) = own_slots (struct t bits cs) ∷ levels_each cs

  pub levels_each : BuilderTrees → List (List Slot)
  levels_each no_builders = []
  levels_each (more_builders c cs) = levels c ++ levels_each cs

-- the levels of its children
abbrev pub levels_below : BuilderTree → List (List Slot)
levels_below (flat t xs) = []
levels_below (list large t rows c) = levels c
levels_below (fixed_size_list t bits c) = levels c
levels_below (dictionary k t keys c) = levels c
levels_below (struct t bits cs) = levels_each cs

-- the length that the first n rows need at each level
abbrev mutual
  pub rows_needed : BuilderTree → ℕ → List ℕ
  rows_needed (flat t xs) n = n ∷ []
  rows_needed (list large t rows c) n = n ∷ rows_needed c (end_from 0 (take n rows))
  rows_needed (fixed_size_list t bits c) n = n ∷ rows_needed c (n * size_of t)
  rows_needed (dictionary k t keys c) n = n ∷ rows_needed c (values_needed (take n keys))
  rows_needed (struct t bits cs) n = n ∷ rows_needed_each cs n

  pub rows_needed_each : BuilderTrees → ℕ → List ℕ
  rows_needed_each no_builders n = []
  rows_needed_each (more_builders c cs) n = rows_needed c n ++ rows_needed_each cs n

-- this library's own: each level truncated to its length
abbrev pub truncate_levels : List ℕ → List (List Slot) → List (List Slot)
truncate_levels (n ∷ ns) (xs ∷ xss) = take n xs ∷ truncate_levels ns xss
truncate_levels _ _ = []
