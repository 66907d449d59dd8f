-- Indices that are all below a number.
use Rattle.std.proofs.Common.{◌≡◌, ℕ, ◌<◌, true, ltb, List, [], ◌∷◌}
use Rattle.std.specs.List.{list_all}
use Rattle.std.proofs.lemmas.Bool.{and_parts, ltb-true}
use Rattle.std.proofs.lemmas.List.Elements.{All-nil, All-cons}
use Rattle.nest_take.specs.Indices.{AreBelow}

pub all-below : (n : ℕ) (places : List ℕ) → list_all (λ place. ltb place n) places ≡ true → AreBelow places n
all-below n [] e = All-nil (λ place. place < n)
all-below n (p ∷ ps) e =
    let parts = and_parts (ltb p n) (list_all (λ place. ltb place n) ps) e in
    All-cons (λ place. place < n) p ps (ltb-true p n parts.0) (all-below n ps parts.1)
