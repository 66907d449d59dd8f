-- The first bytes of a reader.
use Rattle.std.specs.Prelude.{◌≡◌, ◌⊎◌, ◌<◌, ℕ, List, length, Option}
use Rattle.std.specs.Io.KnownBytes.{Consumes, IsAtEnd}

-- the first six bytes, or all if there are fewer
abbrev pub AreFirstBytes : Option (List ℕ) → Option (List ℕ) → List ℕ → Type 0
AreFirstBytes old new head = Consumes old new head × ((length head ≡ 6) ⊎ ((length head < 6) × IsAtEnd new))
