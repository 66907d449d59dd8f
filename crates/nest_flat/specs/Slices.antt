-- The validity of an array made from a slice of options.
use Rattle.std.specs.Prelude.{Bool, true, false, List, [], ◌∷◌, map, Option, Some, None, is_some, if◌then◌else◌}
use Rattle.nest_model.specs.Part.{Validity}

-- whether an option is `None`
abbrev pub has_null : {A : Type 0} → List (Option A) → Bool
has_null [] = false
has_null (None ∷ xs) = true
has_null (Some x ∷ xs) = has_null xs

-- Validity bitmaps: a bit for each option if one is `None`, otherwise no validity
abbrev pub option_bits : {A : Type 0} → List (Option A) → Validity
option_bits xs = if has_null xs then Some (map is_some xs) else None
