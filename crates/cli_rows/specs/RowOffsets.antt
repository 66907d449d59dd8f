-- The array and the offset of a row index.
use Rattle.std.specs.Prelude.{◌≡◌, ◌≤◌, ◌<◌, ◌+◌, ◌^◌, ℕ, List, length, map, take, get_or, Option, Some, None}
use Rattle.std.specs.List.{sum_by}
use Rattle.nest_model.specs.Meaning.{len}
use Rattle.nest_array.specs.Seen.{layout_of}
use Rattle.nest_array.specs.declared.any.AnyArray.{AnyArray}

abbrev pub row_count : AnyArray → ℕ
row_count a = len (layout_of a)

-- the number of rows of the first arrays
abbrev pub rows_before : List AnyArray → ℕ → ℕ
rows_before arrays k = sum_by row_count (take k arrays)

-- the length of an array, or 0
abbrev pub length_at : List AnyArray → ℕ → ℕ
length_at arrays k = get_or (map row_count arrays) k 0

-- the number of rows before each array, if 64 bits count it
pub record AreRowOffsets (starts : List ℕ) (arrays : List AnyArray) : Type 0 where
  pub at_most : length starts ≤ length arrays
  pub each : (k : ℕ) → k < length starts → get_or starts k 0 ≡ rows_before arrays k
  pub past : length starts < length arrays → 2 ^ 64 ≤ rows_before arrays (length starts)

-- the array, and the offset in it
pub record IsLocated (arrays : List AnyArray) (place : ℕ) (p : ℕ × ℕ) : Type 0 where
  pub array : p.0 < length arrays
  pub within : p.1 < length_at arrays p.0
  pub place_is : place ≡ rows_before arrays p.0 + p.1

-- that, or the index is out of range
abbrev pub IsLocation : List AnyArray → ℕ → Option (ℕ × ℕ) → Type 0
IsLocation arrays place (Some p) = IsLocated arrays place p
IsLocation arrays place None = sum_by row_count arrays ≤ place
