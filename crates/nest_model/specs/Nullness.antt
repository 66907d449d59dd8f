-- Validity bitmaps, Null count: the null indices of an array and their number.
use Rattle.std.specs.Prelude.{ℕ, Bool, true, false, not}
use Rattle.std.specs.List.{count_by, range_with_len}
use Rattle.nest_model.specs.Part.{valid_at}
use Rattle.nest_model.specs.Layout.{Layout, null, dictionary}
use Rattle.nest_model.specs.Accessors.{validity_of}
use Rattle.nest_model.specs.Meaning.{len}

-- Whether index i is null. A null array is null at every index, any other array where its validity bit is unset.
-- A dictionary has the validity of its keys.
abbrev pub is_null_at : Layout → ℕ → Bool
is_null_at (null t n) i = true
is_null_at a i = not (valid_at (validity_of a) i)

abbrev pub null_count : Layout → ℕ
null_count a = count_by (is_null_at a) (range_with_len 0 (len a))

-- Whether the array is a dictionary.
abbrev pub has_keys : Layout → Bool
has_keys (dictionary t ks c) = true
has_keys a = false
