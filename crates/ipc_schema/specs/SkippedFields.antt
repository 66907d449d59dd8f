-- The nodes and buffers of skipped fields (Columnar format, Buffer Listing for Each Layout; Schema.fbs, union Type).
-- Only what skipping needs is read and checked.
use Rattle.std.specs.Prelude.{ℕ, zero, suc, ◌+◌, ◌≤◌, pos, Bool, true, false, ◌||◌, List, Option, Some, None, is_some, Result, Ok, Err, nat_lt, ◌==◌, if◌then◌else◌}
use Rattle.std.specs.Int.{w8, w16}
use Rattle.nest_memory.specs.declared.datatypes.UnionMode.{UnionMode}
use Rattle.nest_memory.specs.declared.datatypes.UnionMode.TheVariants.{Dense, Sparse}
use Rattle.ipc_flatbuf.specs.ReadResults.{◌>>=◌}
use Rattle.ipc_flatbuf.specs.declared.error.IpcReadError.{IpcReadError}
use Rattle.ipc_flatbuf.specs.declared.error.IpcReadError.TheVariants.{MissingType, UnknownType, TypeRange, Depth}
use Rattle.ipc_flatbuf.specs.declared.projection.SkippedField.{SkippedField}
use Rattle.ipc_flatbuf.specs.Flatbuffers as words
use Rattle.ipc_flatbuf.specs.Flatbuffers.{spec_non_negative, number_at, signed_at, spec_offset_at, spec_offset_field, spec_read_table, spec_items_at}
use Rattle.ipc_schema.specs.Types.{spec_mode_of}

-- ---- sums

abbrev pub spec_nothing_skipped : SkippedField
spec_nothing_skipped = record { nodes = 0; buffers = 0; views = 0; has_union = false; has_dictionary = false }

-- the sum of two fields
abbrev pub spec_plus : SkippedField → SkippedField → SkippedField
spec_plus a b =
    record { nodes = a.nodes + b.nodes; buffers = a.buffers + b.buffers; views = a.views + b.views; has_union = a.has_union || b.has_union; has_dictionary = a.has_dictionary || b.has_dictionary }

-- each count is at most the budget that was spent
abbrev pub IsWithinBudget : ℕ → SkippedField → ℕ → Type 0
IsWithinBudget before s after = (s.nodes + after ≤ before) × (s.buffers + after ≤ before) × (s.views + after ≤ before)

-- ---- types

-- the position of a type table, which is present and has a tag
abbrev pub spec_table_position : ℕ → Option ℕ → Result ℕ IpcReadError
spec_table_position tag None = Err MissingType
spec_table_position tag (Some position) = if tag == 0 then Err MissingType else (if nat_lt 26 tag then Err UnknownType else Ok position)

abbrev pub spec_is_union_tag : ℕ → Bool
spec_is_union_tag tag = tag == 14

-- BinaryView, Utf8View
abbrev pub spec_is_view_tag : ℕ → Bool
spec_is_view_tag tag = (tag == 23) || (tag == 24)

-- The number of buffers of an array without its children, except a union. Null and RunEndEncoded have none; Struct_ and
-- FixedSizeList have a validity bitmap; Binary, Utf8 and the large ones have validity, offsets and data; ListView and
-- LargeListView have validity, offsets and sizes. All others have a validity bitmap and one more; variadic buffers
-- are not counted.
abbrev pub spec_plain_buffers : ℕ → ℕ
spec_plain_buffers tag =
    if (tag == 1) || (tag == 22) then 0
    else (if (tag == 13) || (tag == 16) then 1 else (if (tag == 4) || ((tag == 5) || ((tag == 19) || ((tag == 20) || ((tag == 25) || (tag == 26))))) then 3 else 2))

-- a union has type ids, a dense one also offsets
abbrev pub spec_mode_buffers : UnionMode → ℕ
spec_mode_buffers Sparse = 1
spec_mode_buffers Dense = 2

-- only the mode of the table Union
unfoldable pub spec_union_buffers : List ℕ → ℕ → ℕ → Result (ℕ × ℕ) IpcReadError
spec_union_buffers bytes position left = do
  table ← spec_read_table bytes position left
  number ← words.field (signed_at w16 bytes) (pos 0) bytes table.0 0
  n ← spec_non_negative TypeRange number
  mode ← spec_mode_of n
  Ok (spec_mode_buffers mode, table.1)

-- the number of buffers of an array without its children
abbrev pub spec_own_buffers : ℕ → List ℕ → ℕ → ℕ → Result (ℕ × ℕ) IpcReadError
spec_own_buffers tag bytes position left = if spec_is_union_tag tag then spec_union_buffers bytes position left else Ok (spec_plain_buffers tag, left)

-- ---- fields

-- a field with its descendants; dictionary-encoded it has a validity bitmap and keys, and its values are not in the batch
abbrev pub spec_skipped_with : Bool → ℕ → ℕ → SkippedField → SkippedField
spec_skipped_with true tag buffers inside = record { nodes = 1; buffers = 2; views = 0; has_union = spec_is_union_tag tag || inside.has_union; has_dictionary = true }
spec_skipped_with false tag buffers inside =
    record { nodes = 1 + inside.nodes; buffers = buffers + inside.buffers; views = (if spec_is_view_tag tag then 1 else 0) + inside.views; has_union = spec_is_union_tag tag || inside.has_union; has_dictionary = inside.has_dictionary }

-- the sum of the fields that n offsets refer to
unfoldable pub spec_skipped_fields_at : (ℕ → ℕ → Result (SkippedField × ℕ) IpcReadError) → List ℕ → ℕ → ℕ → ℕ → Result (SkippedField × ℕ) IpcReadError
spec_skipped_fields_at read bytes zero position left = Ok (spec_nothing_skipped, left)
spec_skipped_fields_at read bytes (suc n) position left = do
  to ← spec_offset_at bytes position
  first ← read to left
  others ← spec_skipped_fields_at read bytes n (position + 4) first.1
  Ok (spec_plus first.0 others.0, others.1)

-- a skipped field; its name, its metadata and whether it is nullable are not read
abbrev pub spec_skipped_over : (ℕ → ℕ → Result (SkippedField × ℕ) IpcReadError) → List ℕ → ℕ → ℕ → Result (SkippedField × ℕ) IpcReadError
spec_skipped_over read bytes position left = do
  table ← spec_read_table bytes position left
  tag ← words.field (number_at w8 bytes) 0 bytes table.0 2
  to ← spec_offset_field bytes table.0 3
  type ← spec_table_position tag to
  to ← spec_offset_field bytes table.0 5
  children ← spec_items_at 4 bytes to table.1
  buffers ← spec_own_buffers tag bytes type children.1
  dictionary ← spec_offset_field bytes table.0 4
  inside ← spec_skipped_fields_at read bytes children.0.count children.0.first buffers.1
  Ok (spec_skipped_with (is_some dictionary) tag buffers.0 inside.0, inside.1)

-- a field with its descendants, to a depth
unfoldable pub spec_skipped_field_at : ℕ → List ℕ → ℕ → ℕ → Result (SkippedField × ℕ) IpcReadError
spec_skipped_field_at zero bytes position left = Err Depth
spec_skipped_field_at (suc depth) bytes position left = spec_skipped_over (spec_skipped_field_at depth bytes) bytes position left
