-- The bytes of the parts of a flatbuffer. Offsets are relative and go forward, so a part decodes to the same value at any position.
use Rattle.std.specs.Prelude.{ℕ, ◌+◌, ◌-◌, ◌*◌, ◌/◌, ◌%◌, ℤ, List, [], ◌∷◌, ◌++◌, length, take, map}
use Rattle.std.specs.Global.{Vec}
use Rattle.std.specs.List.{flat_map}
use Rattle.std.specs.Int.{w32, w64, to_le_bytes, cast_unsigned}

-- little-endian integers; unfoldable, so that a goal does not list their bytes
unfoldable pub i32_bytes : ℤ → List ℕ
i32_bytes z = to_le_bytes w32 (cast_unsigned w32 z)

unfoldable pub i64_bytes : ℤ → List ℕ
i64_bytes z = to_le_bytes w64 (cast_unsigned w64 z)

unfoldable pub u32_bytes : ℕ → List ℕ
u32_bytes n = to_le_bytes w32 n

-- n padding_zeros, at most 8
abbrev pub padding_zeros : ℕ → List ℕ
padding_zeros n = take n (0 ∷ 0 ∷ 0 ∷ 0 ∷ 0 ∷ 0 ∷ 0 ∷ 0 ∷ [])

-- a string, and 1 to 8 padding_zeros up to a multiple of 8 bytes
unfoldable pub string_bytes : List ℕ → List ℕ
string_bytes text = u32_bytes (length text) ++ (text ++ padding_zeros (8 - (length text + 4) % 8))

-- the number of bytes of a vector of n offsets with its padding
abbrev pub offsets_size : ℕ → ℕ
offsets_size n = 8 * (n / 2 + 1)

-- the offsets of the tables head bytes into each body; the first body begins distance bytes after the first offset
unfoldable pub offsets : ℕ → ℕ → List (List ℕ) → List ℕ
offsets head distance [] = []
offsets head distance (body ∷ bodies) = u32_bytes (distance + head) ++ offsets head (distance + length body - 4) bodies

unfoldable pub concatenated : List (List ℕ) → List ℕ
concatenated [] = []
concatenated (body ∷ bodies) = body ++ concatenated bodies

-- a vector of tables, followed by the bodies that hold them
unfoldable pub table_vector_bytes : ℕ → List (List ℕ) → List ℕ
table_vector_bytes head bodies = u32_bytes (length bodies) ++ (offsets head (offsets_size (length bodies) - 4) bodies ++ (padding_zeros (offsets_size (length bodies) - (4 + 4 * length bodies)) ++ concatenated bodies))

-- a vector of structs, inline
unfoldable pub vector_bytes : {A : Type 0} → (A → List ℕ) → List A → List ℕ
vector_bytes bytes xs = u32_bytes (length xs) ++ flat_map bytes xs

-- the bytes of each Vec
abbrev pub bytes_of_each : List (Vec ℕ) → List (List ℕ)
bytes_of_each parts = map (λ part. part.items) parts
