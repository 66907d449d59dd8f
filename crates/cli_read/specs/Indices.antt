-- Sorted indices, and the positions of indices among them.
use Rattle.std.specs.Prelude.{◌≡◌, ◌+◌, ◌<◌, ◌≤◌, ℕ, List, length, get_or, map, take}
use Rattle.std.specs.List.{All, AllByRecursion, Contains}
use Rattle.std.specs.List.Sorted.{IsNonDecreasing}

-- they are sorted, and k or more
abbrev pub AreSortedFrom : ℕ → List ℕ → Type 0
AreSortedFrom k wanted = IsNonDecreasing wanted × (0 < length wanted → k ≤ get_or wanted 0 0)

-- an index is at a position
abbrev pub IsElementAt : List ℕ → ℕ → ℕ → Type 0
IsElementAt wanted i p = (i < length wanted) × (get_or wanted i 0 ≡ p)

-- each index is one of the sorted indices
abbrev pub AreElementsOf : List ℕ → List ℕ → Type 0
AreElementsOf wanted ps = All (Contains wanted) ps

-- each position is that of its index
abbrev pub HaveRanks : List ℕ → List ℕ → List ℕ → Type 0
HaveRanks wanted ps ranks = (map (λ i. get_or wanted i 0) ranks ≡ ps) × AllByRecursion (λ i. i < length wanted) ranks

-- these are the first of the wanted indices, in n rows after k others, relative to them
pub record AreIndicesInBatch (wanted : List ℕ) (k n : ℕ) (found : List ℕ) : Type 0 where
  pub count : length found ≤ length wanted
  pub are : map (λ i. k + i) found ≡ take (length found) wanted
  pub within : AllByRecursion (λ i. i < n) found
  pub behind : length found < length wanted → k + n ≤ get_or wanted (length found) 0
