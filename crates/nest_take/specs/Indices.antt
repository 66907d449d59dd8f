-- The values, bits and items of the rows at given indices.
use Rattle.std.specs.Prelude.{◌≡◌, ℕ, ◌*◌, ◌<◌, ◌≤◌, true, List, Some, None, map, get_or, length, slice_get, if◌then◌else◌}
use Rattle.std.specs.List.{All, flat_map, range_with_len, sum_by}
use Rattle.nest_memory.specs.Sublist.{sublist}
use Rattle.nest_model.specs.Part.{Validity, valid_at, begin, extent}

-- each index is less than n
abbrev pub AreBelow : List ℕ → ℕ → Type 0
AreBelow is n = All (λ i. i < n) is

-- ys are the values of xs at these indices, in that order
abbrev pub AreAt : {A : Type 0} → List A → List ℕ → List A → Type 0
AreAt xs is ys = map Some ys ≡ map (slice_get xs) is

-- Validity bitmaps: the bits of the rows at these indices; None without a bitmap
abbrev pub taken_validity : Validity → List ℕ → Validity
taken_validity None is = None
taken_validity (Some bits) is = Some (map (λ i. get_or bits i true) is)

-- each index has a bit
abbrev pub ReachesBits : Validity → List ℕ → Type 0
ReachesBits None is = Unit {0}
ReachesBits (Some bits) is = AreBelow is (length bits)

-- Variable-size layouts: the number of items of row i, 0 for a null
abbrev pub count_at : List ℕ → Validity → ℕ → ℕ
count_at os va i = if valid_at va i then extent os i else 0

-- the items of the rows at these indices, one row after another, and the indices of those items
abbrev pub items_at : {A : Type 0} → List A → List ℕ → Validity → List ℕ → List A
items_at xs os va is = flat_map (λ i. sublist xs (begin os i) (count_at os va i)) is

abbrev pub item_indices : List ℕ → Validity → List ℕ → List ℕ
item_indices os va is = flat_map (λ i. range_with_len (begin os i) (count_at os va i)) is

-- Fixed-size layouts: the items of rows of n items each, also under a null, and the indices of those items
abbrev pub blocks_at : {A : Type 0} → List A → ℕ → List ℕ → List A
blocks_at xs n is = flat_map (λ i. sublist xs (i * n) n) is

abbrev pub block_indices : ℕ → List ℕ → List ℕ
block_indices n is = flat_map (λ i. range_with_len (i * n) n) is

-- n is the number of items of the rows at these indices, and at most the largest offset
abbrev pub IsItemCount : ℕ → List ℕ → Validity → List ℕ → ℕ → Type 0
IsItemCount largest os va is n = (n ≡ sum_by (count_at os va) is) × (n ≤ largest)
