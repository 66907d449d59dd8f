-- Two readers of equal bytes.
use Rattle.std.specs.Prelude.{◌≡◌, ◌≤◌, ◌+◌, ℕ, List, length, take, drop, Option, None, Some}
use Rattle.ipc_io.specs.Seeks.{position_and_bytes}

-- if the bytes of both are known, they are equal
abbrev pub HaveEqualBytes : Option (List ℕ) → Option (List ℕ) → Type 0
HaveEqualBytes None ys = Unit {0}
HaveEqualBytes (Some xs) None = Unit {0}
HaveEqualBytes (Some xs) (Some ys) = xs ≡ ys

-- so many further bytes after n were read of both, and they are equal; none only at the end of both
abbrev pub ReadsEqualBytes : List ℕ → List ℕ → ℕ → Option ℕ → Option (ℕ × List ℕ) → Option (ℕ × List ℕ) → Type 0
ReadsEqualBytes xs ys n None left right = Unit {0}
ReadsEqualBytes xs ys n (Some m) left right = (left ≡ Some (n + m, xs)) × (right ≡ Some (n + m, ys)) × (take m (drop n xs) ≡ take m (drop n ys)) × (m ≡ 0 → (length xs ≤ n) × (length ys ≤ n))

module _ {R S : Type 0} (position : R → Option ℕ) (bytes : R → Option (List ℕ)) (position_s : S → Option ℕ) (bytes_s : S → Option (List ℕ)) where
  -- the same of two readers at one position
  abbrev pub ReadsBothEqually : R → S → Option ℕ → R → S → Type 0
  ReadsBothEqually left right result new_left new_right =
      (n : ℕ) (xs ys : List ℕ) → position_and_bytes (position left) (bytes left) ≡ Some (n, xs) → position_and_bytes (position_s right) (bytes_s right) ≡ Some (n, ys)
      → ReadsEqualBytes xs ys n result (position_and_bytes (position new_left) (bytes new_left)) (position_and_bytes (position_s new_right) (bytes_s new_right))
