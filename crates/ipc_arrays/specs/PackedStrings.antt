-- Strings one after the other, as the offsets and the bytes of a variable-size layout (Arrow: "Variable-size Binary Layout").
use Rattle.std.specs.Prelude.{◌≡◌, ℕ, List, ◌∷◌, length, map}
use Rattle.std.specs.List.{concat}
use Rattle.nest_memory.specs.Rising.{ends_from}

-- 0, then the end of each string
abbrev pub packed_offsets : List (List ℕ) → List ℕ
packed_offsets strings = 0 ∷ ends_from 0 (map length strings)

abbrev pub packed_bytes : List (List ℕ) → List ℕ
packed_bytes strings = concat strings

-- offsets and bytes are those of these strings
abbrev pub ArePacked : List ℕ → List ℕ → List (List ℕ) → Type 0
ArePacked offsets bytes strings = (offsets ≡ packed_offsets strings) × (bytes ≡ packed_bytes strings)
