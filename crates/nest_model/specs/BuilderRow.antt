-- The rows of a builder: the ends of a list's items, the keys of a dictionary.
use Rattle.std.specs.Prelude.{ℕ, suc, ◌≤◌, Bool, List, [], ◌∷◌, max, Option, Some, None}

-- Variable-size List Layout: whether the row is valid, and the offset where its items end and the next row's start
pub record Row : Type 0 where
  pub valid : Bool
  pub end : ℕ

abbrev pub row_ending : Bool → ℕ → Row
row_ending v e = record { valid = v; end = e }

-- the last offset of rows whose items start at offset s
abbrev pub end_from : ℕ → List Row → ℕ
end_from s [] = s
end_from s (r ∷ rs) = end_from r.end rs

-- offsets starting at s never decrease
abbrev pub RisesFrom : ℕ → List Row → Type 0
RisesFrom s [] = Unit {0}
RisesFrom s (r ∷ rs) = (s ≤ r.end) × RisesFrom r.end rs

-- Dictionary-encoded Layout: the number of values that the keys need, the largest key plus one
abbrev pub values_needed : List (Option ℕ) → ℕ
values_needed [] = 0
values_needed (None ∷ ks) = values_needed ks
values_needed (Some k ∷ ks) = max (suc k) (values_needed ks)
