-- Sublists.
use Rattle.std.specs.Prelude.{ℕ, List, take, drop}

-- the n items from index o
abbrev pub sublist : {A : Type 0} → List A → ℕ → ℕ → List A
sublist xs o n = take n (drop o xs)
