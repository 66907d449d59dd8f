-- Lists that differ.
use Rattle.std.specs.Prelude.{ℕ, List, [], ◌∷◌}

abbrev pub three_numbers : List ℕ
three_numbers = 5 ∷ 6 ∷ 7 ∷ []

abbrev pub other_numbers : List ℕ
other_numbers = 5 ∷ 8 ∷ 7 ∷ []

abbrev pub two_numbers : List ℕ
two_numbers = 5 ∷ 6 ∷ []
