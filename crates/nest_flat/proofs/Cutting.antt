-- The parts of a slice.
use Rattle.std.specs.Prelude.{map}
use Rattle.std.proofs.Common.{◌≡◌, ℕ, List, take, drop, ap, sym, ◌∙◌}
use Rattle.std.proofs.lemmas.List.{take-map}
use Rattle.std.specs.List.{drop-map}
use Rattle.nest_memory.specs.Sublist.{sublist}

pub map-cut : {A B : Type 0} (f : A → B) (xs : List A) (o n : ℕ) → map f (sublist xs o n) ≡ sublist (map f xs) o n
map-cut f xs o n = sym (ap (take n) (drop-map f o xs) ∙ take-map f n (drop o xs))
