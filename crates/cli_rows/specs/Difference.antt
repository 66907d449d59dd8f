-- The first difference of two lists.
use Rattle.std.specs.Prelude.{◌≡◌, ◌≤◌, ℕ, List, take, length, Option, Some, None}
use Rattle.nest_memory.specs.Sublist.{sublist}

-- they are equal; or they are equal up to this index, where the items differ or one list ends
abbrev pub IsDifference : {A : Type 0} → List A → List A → Option ℕ → Type 0
IsDifference xs ys None = xs ≡ ys
IsDifference xs ys (Some k) = (take k xs ≡ take k ys) × (sublist xs k 1 ≡ sublist ys k 1 → ⊥)

-- both have so many items, and these are equal
abbrev pub AreEqualUpTo : {A : Type 0} → ℕ → List A → List A → Type 0
AreEqualUpTo n xs ys = (n ≤ length xs) × (n ≤ length ys) × (take n xs ≡ take n ys)
