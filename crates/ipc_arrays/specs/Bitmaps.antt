-- The bytes of a bitmap: least significant bit first, unused bits 0 (Arrow: "Validity bitmaps").
use Rattle.std.specs.Prelude.{ℕ, ◌+◌, ◌*◌, Bool, if◌then◌else◌, List, [], ◌∷◌, length, map}
use Rattle.std.specs.Int.{div_ceil}
use Rattle.std.specs.List.{range_with_len}
use Rattle.nest_memory.specs.Sublist.{sublist}

-- the number that bits encode, least significant first
unfoldable pub byte_value : List Bool → ℕ
byte_value [] = 0
byte_value (b ∷ bits) = (if b then 1 else 0) + 2 * byte_value bits

-- byte j encodes the eight bits from index 8 * j on
abbrev pub byte_from : List Bool → ℕ → ℕ
byte_from bits j = byte_value (sublist bits (8 * j) 8)

unfoldable pub bitmap_bytes : List Bool → List ℕ
bitmap_bytes bits = map (byte_from bits) (range_with_len 0 (div_ceil (length bits) 8))
