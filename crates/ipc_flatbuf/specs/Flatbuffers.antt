-- The values that bytes decode to as flatbuffers (FlatBuffers internals; Columnar format, Serialization and Interprocess
-- Communication). Each function returns the value or the error. Positions count from the first byte; left is the budget.
use Rattle.std.specs.Prelude.{ℕ, zero, suc, ◌+◌, ◌-◌, ◌*◌, ◌^◌, ◌%◌, ◌&&◌, ℤ, pos, negsuc, List, [], ◌∷◌, length, take, drop, Option, Some, None, Result, Ok, Err, nat_lt, nat_le, ◌==◌, if◌then◌else◌}
use Rattle.std.specs.Int.{Width, w16, w32, byte_len, from_le_bytes, cast_signed}
use Rattle.std.specs.Str.{is_utf8}
use Rattle.ipc_flatbuf.specs.ReadResults.{◌>>=◌}
use Rattle.ipc_flatbuf.specs.declared.error.IpcReadError.{IpcReadError}
use Rattle.ipc_flatbuf.specs.declared.error.IpcReadError.TheVariants.{Flatbuffer, ApparentSize, MetadataUtf8}
use Rattle.ipc_flatbuf.specs.declared.tables.FlatbufferTable.{FlatbufferTable}
use Rattle.ipc_flatbuf.specs.declared.vectors.VectorItems.{VectorItems}

-- the little-endian number of width w at a position
abbrev pub number_at : Width → List ℕ → ℕ → Result ℕ IpcReadError
number_at w bytes position = if nat_le (position + byte_len w) (length bytes) then Ok (from_le_bytes w (drop position bytes)) else Err Flatbuffer

abbrev pub signed_at : Width → List ℕ → ℕ → Result ℤ IpcReadError
signed_at w bytes position = number_at w bytes position >>= λ n. Ok (cast_signed w n)

-- the number, or the error where it is negative
abbrev pub spec_non_negative : IpcReadError → ℤ → Result ℕ IpcReadError
spec_non_negative error (pos n) = Ok n
spec_non_negative error (negsuc n) = Err error

-- the target of the offset at a position
unfoldable pub spec_offset_at : List ℕ → ℕ → Result ℕ IpcReadError
spec_offset_at bytes position = number_at w32 bytes position >>= λ n. Ok (position + n)

-- the position n bytes before a position; n is in two's complement
unfoldable pub spec_back_from : ℕ → ℕ → Result ℕ IpcReadError
spec_back_from position n =
    if nat_lt n (2 ^ 31) then (if nat_le n position then Ok (position - n) else Err Flatbuffer)
    else Ok (position + (2 ^ 32 - n))

-- the table at a position, with its vtable
unfoldable pub spec_table_at : List ℕ → ℕ → Result FlatbufferTable IpcReadError
spec_table_at bytes position = do
  back ← number_at w32 bytes position
  vtable ← spec_back_from position back
  size ← number_at w16 bytes vtable
  if nat_le 4 size && size % 2 == 0 && nat_le (vtable + size) (length bytes) then Ok (record { at = position; vtable = vtable; size = size }) else Err Flatbuffer

-- the position of a field of a table, None where it is absent
unfoldable pub spec_field_position : List ℕ → FlatbufferTable → ℕ → Result (Option ℕ) IpcReadError
spec_field_position bytes table id =
    if nat_lt (2 * id + 4) table.size then (number_at w16 bytes (table.vtable + (2 * id + 4)) >>= λ n. if n == 0 then Ok None else (if nat_lt n 4 then Err Flatbuffer else Ok (Some (table.at + n)))) else Ok None

-- the value at the position of a field, or the default where it is absent
abbrev pub or_default : {A : Type 0} → A → (ℕ → Result A IpcReadError) → Option ℕ → Result A IpcReadError
or_default default read None = Ok default
or_default default read (Some position) = read position

abbrev pub field : {A : Type 0} → (ℕ → Result A IpcReadError) → A → List ℕ → FlatbufferTable → ℕ → Result A IpcReadError
field read default bytes table id = spec_field_position bytes table id >>= or_default default read

-- the target of the offset in a field
abbrev pub spec_offset_field : List ℕ → FlatbufferTable → ℕ → Result (Option ℕ) IpcReadError
spec_offset_field bytes table id = field (λ position. spec_offset_at bytes position >>= λ to. Ok (Some to)) None bytes table id

-- the budget after a cost
unfoldable pub spec_charge_budget : ℕ → ℕ → Result ℕ IpcReadError
spec_charge_budget left cost = if nat_le cost left then Ok (left - cost) else Err ApparentSize

-- the table at a position, and the budget left
unfoldable pub spec_read_table : List ℕ → ℕ → ℕ → Result (FlatbufferTable × ℕ) IpcReadError
spec_read_table bytes position left = do
  table ← spec_table_at bytes position
  rest ← spec_charge_budget left 8
  Ok (table, rest)

-- the vector at a position, whose items have size bytes each, and the budget left
unfoldable pub spec_read_vector : ℕ → List ℕ → ℕ → ℕ → Result (VectorItems × ℕ) IpcReadError
spec_read_vector size bytes position left = do
  count ← number_at w32 bytes position
  if nat_le (position + 4 + count * size) (length bytes) then (spec_charge_budget left (4 + count * size) >>= λ rest. Ok (record { first = position + 4; count = count }, rest)) else Err Flatbuffer

-- the bytes, where they are UTF-8
abbrev pub spec_utf8_of : List ℕ → ℕ → Result (List ℕ × ℕ) IpcReadError
spec_utf8_of text left = if is_utf8 text then Ok (text, left) else Err MetadataUtf8

-- the string at a position, and the budget left
unfoldable pub spec_read_string : List ℕ → ℕ → ℕ → Result (List ℕ × ℕ) IpcReadError
spec_read_string bytes position left = do
  items ← spec_read_vector 1 bytes position left
  spec_utf8_of (take items.0.count (drop items.0.first bytes)) items.1

-- the values of the tables that n offsets refer to, each read by read
unfoldable pub tables_at : {A : Type 0} → (ℕ → ℕ → Result (A × ℕ) IpcReadError) → List ℕ → ℕ → ℕ → ℕ → Result (List A × ℕ) IpcReadError
tables_at read bytes zero position left = Ok ([], left)
tables_at read bytes (suc n) position left = do
  to ← spec_offset_at bytes position
  first ← read to left
  others ← tables_at read bytes n (position + 4) first.1
  Ok (first.0 ∷ others.0, others.1)

-- an absent vector is empty
unfoldable pub spec_items_at : ℕ → List ℕ → Option ℕ → ℕ → Result (VectorItems × ℕ) IpcReadError
spec_items_at size bytes None left = Ok (record { first = 0; count = 0 }, left)
spec_items_at size bytes (Some position) left = spec_read_vector size bytes position left

-- an absent string is empty
unfoldable pub spec_str_at : List ℕ → Option ℕ → ℕ → Result (List ℕ × ℕ) IpcReadError
spec_str_at bytes None left = Ok ([], left)
spec_str_at bytes (Some position) left = spec_read_string bytes position left

-- n structs in a row, of size bytes each
unfoldable pub structs_at : {A : Type 0} → (ℕ → Result A IpcReadError) → ℕ → ℕ → ℕ → Result (List A) IpcReadError
structs_at read size zero position = Ok []
structs_at read size (suc n) position = do
  first ← read position
  others ← structs_at read size n (position + size)
  Ok (first ∷ others)

-- the structs of a vector, and the budget left
unfoldable pub vector_at : {A : Type 0} → (ℕ → Result A IpcReadError) → ℕ → List ℕ → Option ℕ → ℕ → Result (List A × ℕ) IpcReadError
vector_at read size bytes position left = do
  items ← spec_items_at size bytes position left
  structs ← structs_at read size items.0.count items.0.first
  Ok (structs, items.1)
