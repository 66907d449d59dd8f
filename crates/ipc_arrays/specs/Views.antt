-- The slots of view arrays (Arrow: "Variable-size Binary View Layout").
use Rattle.std.specs.Prelude.{ℕ, ◌+◌, ◌*◌, true, if◌then◌else◌, ◌==◌, nat_le, nat_lt, List, [], length, get_or, drop, Result, Ok}
use Rattle.std.specs.Int.{w32, from_le_bytes, cast_signed}
use Rattle.ipc_flatbuf.specs.ReadResults.{◌>>=◌, check}
use Rattle.ipc_flatbuf.specs.Flatbuffers.{spec_non_negative}
use Rattle.ipc_flatbuf.specs.declared.error.IpcReadError.{IpcReadError}
use Rattle.ipc_flatbuf.specs.declared.error.IpcReadError.TheVariants.{BufferTooShort, View}
use Rattle.nest_memory.specs.Sublist.{sublist}
use Rattle.nest_model.specs.Part.{Validity, valid_at}
use Rattle.ipc_arrays.specs.EachSlot.{each_slot}
use Rattle.ipc_arrays.specs.Encoding.{offset_bytes}
use Rattle.ipc_arrays.specs.PackedStrings.{packed_offsets, packed_bytes}

-- a number of a view: four bytes, little-endian, signed, not negative
unfoldable pub view_number : List ℕ → ℕ → Result ℕ IpcReadError
view_number view position = spec_non_negative View (cast_signed w32 (from_le_bytes w32 (drop position view)))

-- `size` bytes from an offset of a variadic buffer on
unfoldable pub variadic_slice : List (List ℕ) → ℕ → ℕ → ℕ → Result (List ℕ) IpcReadError
variadic_slice variadic index offset size = do
  known ← check (nat_lt index (length variadic)) View
  within ← check (nat_le (offset + size) (length (get_or variadic index []))) View
  Ok (sublist (get_or variadic index []) offset size)

-- the value of a view longer than 12 bytes: its first four bytes, the index of a variadic buffer, and an offset in it
unfoldable pub long_value : List (List ℕ) → ℕ → List ℕ → Result (List ℕ) IpcReadError
long_value variadic size view = do
  index ← view_number view 8
  offset ← view_number view 12
  value ← variadic_slice variadic index offset size
  same ← check (from_le_bytes w32 value == from_le_bytes w32 (drop 4 view)) View
  Ok value

-- the value of a view of 16 bytes: its length, then up to 12 bytes of it
unfoldable pub spec_view_value : List (List ℕ) → List ℕ → Result (List ℕ) IpcReadError
spec_view_value variadic view = view_number view 0 >>= λ size. if nat_le size 12 then Ok (sublist view 4 size) else long_value variadic size view

-- the string of a slot; that of a null is empty, and its view is not read
unfoldable pub viewed_string : Validity → List ℕ → List (List ℕ) → ℕ → Result (List ℕ) IpcReadError
viewed_string validity views variadic i = if valid_at validity i then spec_view_value variadic (sublist views (16 * i) 16) else Ok []

-- the strings of the slots
unfoldable pub viewed_strings : Validity → ℕ → List ℕ → List (List ℕ) → Result (List (List ℕ)) IpcReadError
viewed_strings validity slots views variadic = check (nat_le (slots * 16) (length views)) BufferTooShort >>= λ enough. each_slot (viewed_string validity views variadic) slots

-- the offsets, of 64 bits, and the data of strings one after the other ("Variable-size Binary Layout")
unfoldable pub packed_strings : List (List ℕ) → List ℕ × List ℕ
packed_strings strings = (offset_bytes true (packed_offsets strings), packed_bytes strings)

-- the strings of the slots, one after the other
unfoldable pub spec_packed_views : Validity → ℕ → List ℕ → List (List ℕ) → Result (List ℕ × List ℕ) IpcReadError
spec_packed_views validity slots views variadic = viewed_strings validity slots views variadic >>= λ strings. Ok (packed_strings strings)
