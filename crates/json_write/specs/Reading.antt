-- Text read as values.
use Rattle.std.specs.Prelude.{◌≡◌, ℕ, ℤ, List, Option, None, Some, FitsSigned}
use Rattle.std.specs.Int.{w64}
use Rattle.json_write.specs.Times.{whole_seconds, subseconds}

-- the text is that of the value; or it is that of no value that fits
abbrev pub IsParsed : {A : Type 0} → (A → List ℕ) → (A → Type 0) → List ℕ → Option A → Type 0
IsParsed {A} text Fits bs None = (a : A) → Fits a → ¬ (bs ≡ text a)
IsParsed {A} text Fits bs (Some a) = Fits a × (bs ≡ text a)

-- the units of these seconds and this fraction, if 64 bits hold them
abbrev pub IsTimeOf : ℕ → ℤ → ℕ → Option ℤ → Type 0
IsTimeOf k second fraction None = (n : ℤ) → FitsSigned w64 n → whole_seconds k n ≡ second → ¬ (subseconds k n ≡ fraction)
IsTimeOf k second fraction (Some n) = FitsSigned w64 n × (whole_seconds k n ≡ second) × (subseconds k n ≡ fraction)
