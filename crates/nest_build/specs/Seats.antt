-- The hash table of dictionary values: open addressing, linear probing. An entry is an index plus one, or 0 if it is
-- free.
use Rattle.std.specs.Prelude.{◌≡◌, ℕ, zero, suc, ◌+◌, ◌-◌, ◌<◌, ◌≤◌, List, [], ◌∷◌, length, get_or, cond, ltb}
use Rattle.std.specs.Int.Bits.{bit_and}

-- the position a number of steps after another, modulo the length
unfoldable pub around : ℕ → ℕ → ℕ → ℕ
around home step places = cond (ltb (home + step) places) (home + step) (home + step - places)

-- the position that a probe for a hash visits at a step
unfoldable pub place_on : ℕ → ℕ → ℕ → ℕ
place_on hash step places = around (bit_and hash (places - 1)) step places

-- the entry at that position
abbrev pub seat_at : List ℕ → ℕ → ℕ → ℕ
seat_at places hash step = get_or places (place_on hash step (length places)) 0

-- the number of free entries
abbrev pub free_places : List ℕ → ℕ
free_places [] = 0
free_places (zero ∷ xs) = suc (free_places xs)
free_places (suc k ∷ xs) = free_places xs

-- p is the first free entry on the probe sequence of the hash
pub record IsFree (places : List ℕ) (hash p : ℕ) : Type 0 where
  pub inside : p < length places
  pub free : get_or places p 0 ≡ 0
  pub step : ℕ
  pub within : step < length places
  pub there : place_on hash step (length places) ≡ p
  pub taken : (d : ℕ) → d < step → 0 < seat_at places hash d

-- index k is on the probe sequence of its hash, after smaller indices only
pub record IsSeated (places : List ℕ) (hash k : ℕ) : Type 0 where
  pub step : ℕ
  pub within : step < length places
  pub there : seat_at places hash step ≡ suc k
  pub taken : (d : ℕ) → d < step → 0 < seat_at places hash d
  pub older : (d : ℕ) → d < step → seat_at places hash d ≤ k

-- each index is in exactly one entry
pub record AreSeats (hashes places : List ℕ) : Type 0 where
  pub room : free_places places + length hashes ≡ length places
  pub below : (p : ℕ) → p < length places → get_or places p 0 ≤ length hashes
  pub single : (p q : ℕ) → p < length places → q < length places → 0 < get_or places p 0 → get_or places p 0 ≡ get_or places q 0 → p ≡ q
  pub seated : (k : ℕ) → k < length hashes → IsSeated places (get_or hashes k 0) k
