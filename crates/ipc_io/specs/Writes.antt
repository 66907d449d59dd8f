-- The contents of a writer after bytes were written.
use Rattle.std.specs.Prelude.{◌≡◌, ◌++◌, ℕ, ⊤, List, Option, Result, Ok, Err}
use Rattle.std.specs.Io.KnownBytes.{Appends}

-- a prefix of the bytes was written
abbrev pub WritesPrefix : Option (List ℕ) → Option (List ℕ) → List ℕ → Type 0
WritesPrefix old new bytes = (front : List ℕ) × (rest : List ℕ) × (bytes ≡ front ++ rest) × Appends old new front

-- all of the bytes were written, or a prefix, where the writer failed
abbrev pub WritesAll : {E : Type 0} → Result ⊤ E → Option (List ℕ) → Option (List ℕ) → List ℕ → Type 0
WritesAll (Ok done) old new bytes = Appends old new bytes
WritesAll (Err e) old new bytes = WritesPrefix old new bytes
