-- Decodes arrays from field nodes, buffers and a body (Arrow: "RecordBatch message", "Physical Memory Layout"). Each function returns a
-- value and the nodes and buffers that remain, or the first error in the order of reading.
use Rattle.std.specs.Prelude.{ℕ, ◌+◌, ◌*◌, ℤ, pos, negsuc, Bool, true, false, ◌&&◌, ◌||◌, ◌==◌, not, if◌then◌else◌, nat_le, nat_lt, count_by, List, [], ◌∷◌, length, map, take, Option, Some, None, Result, Ok, Err}
use Rattle.std.specs.List.{list_all, range_with_len}
use Rattle.std.specs.Str.{is_utf8}
use Rattle.ipc_flatbuf.specs.ReadResults.{◌>>=◌, check}
use Rattle.ipc_flatbuf.specs.declared.error.IpcReadError.{IpcReadError}
use Rattle.ipc_flatbuf.specs.declared.error.IpcReadError.TheVariants.{TypeRange, RowCount, ChildLength, NodeCount, NodeRange, BufferCount, BufferRange, BufferTooShort, NullCount, Offsets, OffsetPastChild, Utf8, UnionType, UnionOffset, MissingDictionary, KeyRange, UnsupportedType}
use Rattle.ipc_flatbuf.specs.declared.batch.parts.FieldNode.{FieldNode}
use Rattle.ipc_flatbuf.specs.declared.batch.parts.BufferSpec.{BufferSpec}
use Rattle.nest_memory.specs.Bits.{bits_from}
use Rattle.nest_memory.specs.Sublist.{sublist}
use Rattle.nest_memory.specs.Physical.{physical_type, primitive_tree}
use Rattle.nest_memory.specs.Rising.{are_offsets, last_of, to_nat}
use Rattle.nest_memory.specs.TypeTree as types
use Rattle.nest_memory.specs.TypeTree.{TypeTree, FieldTree, FieldTrees, field, no_fields, more_fields, field_type, count_fields, ids_of, size_of, is_pair, value_type}
use Rattle.nest_memory.specs.declared.datatypes.IntegerType.{IntegerType}
use Rattle.nest_memory.specs.declared.datatypes.UnionMode.{UnionMode}
use Rattle.nest_memory.specs.declared.datatypes.UnionMode.TheVariants.{Dense, Sparse}
use Rattle.nest_memory.specs.declared.datatypes.physical_type.PhysicalType.{PhysicalType}
use Rattle.nest_memory.specs.declared.datatypes.physical_type.PhysicalType.TheVariants as physical
use Rattle.nest_memory.specs.declared.datatypes.physical_type.PrimitiveType.{PrimitiveType}
use Rattle.nest_model.specs.Accessors.{validity_of, key_at}
use Rattle.nest_model.specs.Checks.{most_fields, type_count}
use Rattle.nest_model.specs.Fits.{child_len}
use Rattle.nest_model.specs.Layout.{Layout, Layouts, null, boolean, primitive, binary, utf8, fixed_size_binary, fixed_size_list, list as list_of, map as map_of, struct, union, dictionary, no_layouts, more_layouts, layout_type}
use Rattle.nest_model.specs.Meaning.{len}
use Rattle.nest_model.specs.Part.{Validity, begin, extent, count_rows, field_named, valid_at}
use Rattle.ipc_arrays.specs.DictionaryKeys.{key_format, key_primitive, zero_at_nulls, is_same_logical_type, dictionary_of}
use Rattle.ipc_arrays.specs.EachSlot.{each_slot}
use Rattle.ipc_arrays.specs.PackedStrings.{packed_offsets, packed_bytes}
use Rattle.ipc_arrays.specs.FixedWidth.{ByteFormat, format_of, offset_format, type_format, only, decoded_natives}
use Rattle.ipc_arrays.specs.declared.cursor.NodeCounts.{NodeCounts}
use Rattle.ipc_arrays.specs.declared.cursor.BatchCursor.{BatchCursor}
use Rattle.ipc_arrays.specs.declared.cursor.ExpectedLength.{ExpectedLength}
use Rattle.ipc_arrays.specs.declared.cursor.ExpectedLength.TheVariants.{Rows, Exactly, AtLeast, Any}

-- The field nodes and buffers that have not been read, and the values of each dictionary-encoded array that has not: `None` if they are missing.
pub record Rest : Type 0 where
  pub nodes : List FieldNode
  pub buffers : List BufferSpec
  pub dictionaries : List (Option Layout)

abbrev pub rest_of : BatchCursor → Rest
rest_of l = record { nodes = l.nodes.now; buffers = l.buffers.now; dictionaries = map dictionary_of l.dictionaries.now }

-- the same nodes and dictionaries with other buffers
abbrev pub with_buffers : Rest → List BufferSpec → Rest
with_buffers rest buffers = record { nodes = rest.nodes; buffers = buffers; dictionaries = rest.dictionaries }

-- the counts of a field node: neither is negative, and there are no more nulls than slots
abbrev pub checked_counts : ℤ → ℤ → Result NodeCounts IpcReadError
checked_counts (pos slots) (pos nulls) = if nat_le nulls slots then Ok (record { slots = slots; nulls = nulls }) else Err NodeRange
checked_counts (negsuc slots) nulls = Err NodeRange
checked_counts slots (negsuc nulls) = Err NodeRange

-- the counts of the next array
unfoldable pub first_counts : List FieldNode → Result (NodeCounts × List FieldNode) IpcReadError
first_counts [] = Err NodeCount
first_counts (node ∷ nodes) = checked_counts node.length node.null_count >>= λ counts. Ok (counts, nodes)

-- the bytes from an offset on, of a length, which must be within the body
unfoldable pub buffer_slice : List ℕ → ℤ → ℤ → Result (List ℕ) IpcReadError
buffer_slice body (pos offset) (pos size) = if nat_le (offset + size) (length body) then Ok (sublist body offset size) else Err BufferRange
buffer_slice body (negsuc offset) size = Err BufferRange
buffer_slice body offset (negsuc size) = Err BufferRange

-- the bytes of the next buffer
unfoldable pub first_buffer : List ℕ → List BufferSpec → Result (List ℕ × List BufferSpec) IpcReadError
first_buffer body [] = Err BufferCount
first_buffer body (region ∷ buffers) = buffer_slice body region.offset region.length >>= λ bytes. Ok (bytes, buffers)

-- an array without nulls has no validity bitmap in memory
abbrev pub validity_if_nulls : ℕ → List Bool → Validity
validity_if_nulls nulls bits = if nulls == 0 then None else Some bits

-- a bitmap of `slots` bits; unused bits may have any value
unfoldable pub decoded_bits : ℕ → List ℕ → Result (List Bool) IpcReadError
decoded_bits slots bytes = check (nat_le slots (8 * length bytes)) BufferTooShort >>= λ enough. Ok (bits_from bytes 0 slots)

-- A validity buffer: it may be empty if there are no nulls; else it has as many bits of 0 as the field node has nulls.
unfoldable pub decoded_validity : NodeCounts → List ℕ → Result Validity IpcReadError
decoded_validity counts bytes =
    if length bytes == 0 && counts.nulls == 0 then Ok None else (do
      bits ← decoded_bits counts.slots bytes
      agreed ← check (count_by not bits == counts.nulls) NullCount
      Ok (validity_if_nulls counts.nulls bits))

-- `slots` values of a fixed width
unfoldable pub decoded_values : ByteFormat → ℕ → List ℕ → Result (List (List ℤ)) IpcReadError
decoded_values format slots bytes = check (nat_le (slots * format.size) (length bytes)) BufferTooShort >>= λ enough. Ok (decoded_natives format slots bytes)

-- the first `size` bytes
unfoldable pub decoded_bytes : ℕ → List ℕ → Result (List ℕ) IpcReadError
decoded_bytes size bytes = check (nat_le size (length bytes)) BufferTooShort >>= λ enough. Ok (take size bytes)

-- offsets: there is at least one, none is negative, and none is less than the one before it
unfoldable pub checked_offsets : List (List ℤ) → Result (List ℕ) IpcReadError
checked_offsets values = check (are_offsets (map only values)) Offsets >>= λ rising. Ok (map to_nat (map only values))

-- The offsets of `slots` values, one more than slots ("Variable-size Binary Layout"). An array of length 0 has no slot that uses them: its
-- offset is 0, and the buffer is not read, since writers leave it empty or anything in it.
unfoldable pub decoded_offsets : Bool → ℕ → List ℕ → Result (List ℕ) IpcReadError
decoded_offsets large slots bytes = if slots == 0 then Ok (0 ∷ []) else decoded_values (offset_format large) (slots + 1) bytes >>= λ values. checked_offsets values

-- the data up to the last offset
unfoldable pub decoded_data : ℕ → List ℕ → Result (List ℕ) IpcReadError
decoded_data last bytes = check (nat_le last (length bytes)) OffsetPastChild >>= λ within. Ok (take last bytes)

-- the parts of a binary or UTF-8 array
pub record BinaryParts : Type 0 where
  pub offsets : List ℕ
  pub bytes : List ℕ
  pub validity : Validity

abbrev pub binary_parts : List ℕ → List ℕ → Validity → BinaryParts
binary_parts offsets bytes validity = record { offsets = offsets; bytes = bytes; validity = validity }

-- the bytes of each slot are UTF-8
unfoldable pub are_utf8 : List ℕ → List ℕ → Bool
are_utf8 offsets bytes = list_all (λ i. is_utf8 (sublist bytes (begin offsets i) (extent offsets i))) (range_with_len 0 (count_rows offsets))

-- checks the length of an array: the number of rows for a column; equal, at least, or any for a child
abbrev pub checked_length : ExpectedLength → ℕ → Result (Unit {0}) IpcReadError
checked_length (Rows n) slots = check (slots == n) RowCount
checked_length (Exactly n) slots = check (slots == n) ChildLength
checked_length (AtLeast n) slots = check (nat_le n slots) ChildLength
checked_length Any slots = Ok tt

-- the counts of the next array
unfoldable pub decoded_node : ExpectedLength → Rest → Result (NodeCounts × Rest) IpcReadError
decoded_node expected rest = do
  node ← first_counts rest.nodes
  same ← checked_length expected node.0.slots
  Ok (node.0, record { nodes = node.1; buffers = rest.buffers; dictionaries = rest.dictionaries })

-- the bytes of the next buffer
unfoldable pub decoded_buffer : List ℕ → Rest → Result (List ℕ × Rest) IpcReadError
decoded_buffer body rest = first_buffer body rest.buffers >>= λ bytes. Ok (bytes.0, record { nodes = rest.nodes; buffers = bytes.1; dictionaries = rest.dictionaries })

-- the validity buffer of an array with these counts
unfoldable pub decoded_validity_buffer : NodeCounts → List ℕ → Rest → Result (Validity × Rest) IpcReadError
decoded_validity_buffer counts body rest = do
  bits ← decoded_buffer body rest
  validity ← decoded_validity counts bits.0
  Ok (validity, bits.1)

-- ---- arrays without children

-- "Fixed-size Primitive Layout", of booleans: a bit each
unfoldable pub decoded_boolean : TypeTree → NodeCounts → List ℕ → Rest → Result (Layout × Rest) IpcReadError
decoded_boolean t counts body rest = do
  head ← decoded_validity_buffer counts body rest
  bytes ← decoded_buffer body head.1
  bits ← decoded_bits counts.slots bytes.0
  Ok (boolean t bits head.0, bytes.1)

-- "Fixed-size Primitive Layout", of values of one native type
unfoldable pub decoded_primitive : ByteFormat → PrimitiveType → TypeTree → NodeCounts → List ℕ → Rest → Result (Layout × Rest) IpcReadError
decoded_primitive format k t counts body rest = do
  head ← decoded_validity_buffer counts body rest
  bytes ← decoded_buffer body head.1
  values ← decoded_values format counts.slots bytes.0
  Ok (primitive k t values head.0, bytes.1)

-- "Fixed-size Primitive Layout", of values of `size` bytes, which is not 0
unfoldable pub decoded_fixed_size_binary : TypeTree → NodeCounts → List ℕ → Rest → Result (Layout × Rest) IpcReadError
decoded_fixed_size_binary t counts body rest = do
  some ← check (nat_lt 0 (size_of t)) TypeRange
  head ← decoded_validity_buffer counts body rest
  bytes ← decoded_buffer body head.1
  values ← decoded_bytes (counts.slots * size_of t) bytes.0
  Ok (fixed_size_binary t values head.0, bytes.1)

-- the validity and offsets that variable-size layouts begin with
pub record VariableSizeHead : Type 0 where
  pub offsets : List ℕ
  pub validity : Validity

abbrev pub variable_size_head : List ℕ → Validity → VariableSizeHead
variable_size_head offsets validity = record { offsets = offsets; validity = validity }

unfoldable pub decoded_variable_size_head : Bool → NodeCounts → List ℕ → Rest → Result (VariableSizeHead × Rest) IpcReadError
decoded_variable_size_head large counts body rest = do
  head ← decoded_validity_buffer counts body rest
  first ← decoded_buffer body head.1
  offsets ← decoded_offsets large counts.slots first.0
  Ok (record { offsets = offsets; validity = head.0 }, first.1)

-- "Variable-size Binary Layout"
unfoldable pub decoded_binary_parts : Bool → NodeCounts → List ℕ → Rest → Result (BinaryParts × Rest) IpcReadError
decoded_binary_parts large counts body rest = do
  head ← decoded_variable_size_head large counts body rest
  second ← decoded_buffer body head.1
  bytes ← decoded_data (last_of head.0.offsets) second.0
  Ok (record { offsets = head.0.offsets; bytes = bytes; validity = head.0.validity }, second.1)

unfoldable pub decoded_binary : Bool → TypeTree → NodeCounts → List ℕ → Rest → Result (Layout × Rest) IpcReadError
decoded_binary large t counts body rest = decoded_binary_parts large counts body rest >>= λ s. Ok (binary large t s.0.offsets s.0.bytes s.0.validity, s.1)

-- the bytes of a slot
abbrev pub bytes_of_slot : BinaryParts → ℕ → List ℕ
bytes_of_slot s i = sublist s.bytes (begin s.offsets i) (extent s.offsets i)

-- bytes that must be UTF-8
abbrev pub checked_string : List ℕ → Result (List ℕ) IpcReadError
checked_string bytes = check (is_utf8 bytes) Utf8 >>= λ text. Ok bytes

-- the string of a slot: its bytes, which must be UTF-8, if it is valid; empty if it is null, whatever its bytes are
abbrev pub string_of_slot : BinaryParts → ℕ → Result (List ℕ) IpcReadError
string_of_slot s i = if valid_at s.validity i then checked_string (bytes_of_slot s i) else Ok []

-- the strings of the slots, one after the other
abbrev pub packed_slots : BinaryParts → Result BinaryParts IpcReadError
packed_slots s = each_slot (string_of_slot s) (count_rows s.offsets) >>= λ strings. Ok (binary_parts (packed_offsets strings) (packed_bytes strings) s.validity)

-- The parts of a UTF-8 array. They are kept if the bytes of every slot are UTF-8, those under nulls too.
abbrev pub utf8_parts : BinaryParts → Result BinaryParts IpcReadError
utf8_parts s = if are_utf8 s.offsets s.bytes then Ok s else packed_slots s

-- the UTF-8 array of parts
abbrev pub utf8_array : Bool → TypeTree → Result BinaryParts IpcReadError → Result Layout IpcReadError
utf8_array large t parts = parts >>= λ p. Ok (utf8 large t p.offsets p.bytes p.validity)

abbrev pub checked_utf8 : Bool → TypeTree → BinaryParts → Result Layout IpcReadError
checked_utf8 large t s = utf8_array large t (utf8_parts s)

unfoldable pub decoded_utf8 : Bool → TypeTree → NodeCounts → List ℕ → Rest → Result (Layout × Rest) IpcReadError
decoded_utf8 large t counts body rest = do
  s ← decoded_binary_parts large counts body rest
  a ← checked_utf8 large t s.0
  Ok (a, s.1)

-- ---- dictionary-encoded arrays: keys, whose values come from dictionary batches

-- a number is an index into n values
abbrev pub is_index_below : ℤ → ℕ → Bool
is_index_below (pos k) n = nat_lt k n
is_index_below (negsuc k) n = false

-- keys of one integer type; the key of a null slot is 0
unfoldable pub decoded_keys_as : ByteFormat → PrimitiveType → NodeCounts → List ℕ → Rest → Result (Layout × Rest) IpcReadError
decoded_keys_as format k counts body rest = do
  head ← decoded_validity_buffer counts body rest
  bytes ← decoded_buffer body head.1
  values ← decoded_values format counts.slots bytes.0
  Ok (primitive k (primitive_tree k) (zero_at_nulls head.0 values) head.0, bytes.1)

abbrev pub decoded_keys : IntegerType → NodeCounts → List ℕ → Rest → Result (Layout × Rest) IpcReadError
decoded_keys k counts body rest = decoded_keys_as (key_format k) (key_primitive k) counts body rest

-- each valid key is the index of a value
abbrev pub is_key_in_range : Layout → ℕ → ℕ → Bool
is_key_in_range ks n i = not (valid_at (validity_of ks) i) || is_index_below (key_at ks i) n

abbrev pub are_keys_in_range : Layout → ℕ → Bool
are_keys_in_range ks n = list_all (is_key_in_range ks n) (range_with_len 0 (len ks))

-- A dictionary-encoded array of keys and values. Both must have the same value type once extensions are resolved.
abbrev pub dictionary_over : TypeTree → Layout → Layout → Result Layout IpcReadError
dictionary_over t ks values =
    check (is_same_logical_type (value_type t) (layout_type values)) MissingDictionary >>= λ same. check (are_keys_in_range ks (len values)) KeyRange >>= λ named. Ok (dictionary t ks values)

-- the values of the next dictionary-encoded array, if they are known
unfoldable pub first_values : List (Option Layout) → Result (Layout × List (Option Layout)) IpcReadError
first_values [] = Err MissingDictionary
first_values (None ∷ others) = Err MissingDictionary
first_values (Some values ∷ others) = Ok (values, others)

unfoldable pub decoded_dictionary_values : Rest → Result (Layout × Rest) IpcReadError
decoded_dictionary_values rest = first_values rest.dictionaries >>= λ values. Ok (values.0, record { nodes = rest.nodes; buffers = rest.buffers; dictionaries = values.1 })

unfoldable pub decoded_dictionary : IntegerType → TypeTree → NodeCounts → List ℕ → Rest → Result (Layout × Rest) IpcReadError
decoded_dictionary k t counts body rest = do
  keys ← decoded_keys k counts body rest
  values ← decoded_dictionary_values keys.1
  a ← dictionary_over t keys.0 values.0
  Ok (a, values.1)

-- a primitive array, if its type has a byte format
abbrev pub decoded_fixed_width : Option ByteFormat → PrimitiveType → TypeTree → NodeCounts → List ℕ → Rest → Result (Layout × Rest) IpcReadError
decoded_fixed_width None k t counts body rest = Err UnsupportedType
decoded_fixed_width (Some format) k t counts body rest = decoded_primitive format k t counts body rest

-- an array without children, by its physical type; a null array has no buffers
abbrev pub decoded_flat : PhysicalType → TypeTree → NodeCounts → List ℕ → Rest → Result (Layout × Rest) IpcReadError
decoded_flat physical.Null t counts body rest = Ok (null t counts.slots, rest)
decoded_flat physical.Boolean t counts body rest = decoded_boolean t counts body rest
decoded_flat (physical.Primitive k) t counts body rest = decoded_fixed_width (format_of k) k t counts body rest
decoded_flat physical.FixedSizeBinary t counts body rest = decoded_fixed_size_binary t counts body rest
decoded_flat physical.Binary t counts body rest = decoded_binary false t counts body rest
decoded_flat physical.LargeBinary t counts body rest = decoded_binary true t counts body rest
decoded_flat physical.Utf8 t counts body rest = decoded_utf8 false t counts body rest
decoded_flat physical.LargeUtf8 t counts body rest = decoded_utf8 true t counts body rest
decoded_flat (physical.Dictionary k) t counts body rest = decoded_dictionary k t counts body rest
decoded_flat p t counts body rest = Err UnsupportedType

-- ---- nested arrays: their own buffers, then their children in order, then the checks of both

-- a list or a map: no offset is greater than the length of the child
abbrev pub list_over : Bool → TypeTree → VariableSizeHead → Layout × Rest → Result (Layout × Rest) IpcReadError
list_over large t head items = check (nat_le (last_of head.offsets) (len items.0)) OffsetPastChild >>= λ within. Ok (list_of large t head.offsets items.0 head.validity, items.1)

abbrev pub map_over : TypeTree → VariableSizeHead → Layout × Rest → Result (Layout × Rest) IpcReadError
map_over t head entries = check (nat_le (last_of head.offsets) (len entries.0)) OffsetPastChild >>= λ within. Ok (map_of t head.offsets entries.0 head.validity, entries.1)

-- an index of a field, if it is below n
abbrev pub is_field_below : Option ℕ → ℕ → Bool
is_field_below None n = false
is_field_below (Some f) n = nat_lt f n

-- the type ids of a union: one for each field, from 0 to 127
abbrev pub are_type_ids : Option (List ℤ) → ℕ → Bool
are_type_ids None fields = true
are_type_ids (Some ids) fields = (length ids == fields) && list_all (λ id. is_index_below id type_count) ids

-- each type is that of a field
abbrev pub are_known_types : Option (List ℤ) → ℕ → List ℤ → Bool
are_known_types ids fields types = list_all (λ z. is_field_below (field_named ids z) fields) types

-- the types buffer of a union, and its offsets buffer if it is dense
pub record UnionParts : Type 0 where
  pub types : List ℤ
  pub offsets : Option (List ℤ)

abbrev pub union_parts : List ℤ → Option (List ℤ) → UnionParts
union_parts types offsets = record { types = types; offsets = offsets }

unfoldable pub decoded_types : Option (List ℤ) → ℕ → ℕ → List ℕ → Result (List ℤ) IpcReadError
decoded_types ids fields slots bytes = do
  values ← decoded_values type_format slots bytes
  meant ← check (are_known_types ids fields (map only values)) UnionType
  Ok (map only values)

unfoldable pub decoded_union_parts : UnionMode → Option (List ℤ) → ℕ → NodeCounts → List ℕ → Rest → Result (UnionParts × Rest) IpcReadError
decoded_union_parts Sparse ids fields counts body rest = do
  first ← decoded_buffer body rest
  types ← decoded_types ids fields counts.slots first.0
  Ok (record { types = types; offsets = None }, first.1)
decoded_union_parts Dense ids fields counts body rest = do
  first ← decoded_buffer body rest
  types ← decoded_types ids fields counts.slots first.0
  second ← decoded_buffer body first.1
  offsets ← decoded_values (offset_format false) counts.slots second.0
  Ok (record { types = types; offsets = Some (map only offsets) }, second.1)

-- the length of a child: at least that of the union if it is sparse, any if it is dense
abbrev pub union_child_length : UnionMode → ℕ → ExpectedLength
union_child_length Sparse slots = AtLeast slots
union_child_length Dense slots = Any

-- each offset of a dense union is an index into the child of its type
abbrev pub are_offsets_in_children : Option (List ℤ) → Layouts → List ℤ → List ℤ → Bool
are_offsets_in_children ids cs [] offsets = true
are_offsets_in_children ids cs (z ∷ types) [] = true
are_offsets_in_children ids cs (z ∷ types) (o ∷ offsets) = is_index_below o (child_len cs (field_named ids z)) && are_offsets_in_children ids cs types offsets

abbrev pub are_union_offsets_valid : Option (List ℤ) → Layouts → List ℤ → Option (List ℤ) → Bool
are_union_offsets_valid ids cs types None = true
are_union_offsets_valid ids cs types (Some offsets) = are_offsets_in_children ids cs types offsets

abbrev pub union_over : TypeTree → Option (List ℤ) → UnionParts → Layouts × Rest → Result (Layout × Rest) IpcReadError
union_over t ids parts children = check (are_union_offsets_valid ids children.0 parts.types parts.offsets) UnionOffset >>= λ there. Ok (union t parts.types children.0 parts.offsets 0, children.1)

-- the same, with the type ids of the data type
abbrev pub union_of : TypeTree → UnionParts → Layouts × Rest → Result (Layout × Rest) IpcReadError
union_of t parts children = union_over t (ids_of t) parts children

-- The array of a data type whose storage type is the second one; they differ for extensions. `TypeRange` if no array has the type: a size
-- of 0, a struct without fields, a map whose entries are not a key and a value, invalid type ids.
abbrev mutual
  pub decoded_array : TypeTree → TypeTree → NodeCounts → List ℕ → Rest → Result (Layout × Rest) IpcReadError
  decoded_array t (types.extension x s m) counts body rest = decoded_array t s counts body rest
  decoded_array t (types.list f) counts body rest = decoded_variable_size_head false counts body rest >>= λ head. decoded_child f Any body head.1 >>= λ items. list_over false t head.0 items
  decoded_array t (types.large_list f) counts body rest = decoded_variable_size_head true counts body rest >>= λ head. decoded_child f Any body head.1 >>= λ items. list_over true t head.0 items
  decoded_array t (types.map f b) counts body rest =
      check (is_pair (field_type f)) TypeRange >>= λ pairs. decoded_variable_size_head false counts body rest >>= λ head. decoded_child f Any body head.1 >>= λ entries. map_over t head.0 entries
  decoded_array t (types.fixed_size_list f n) counts body rest =
      check (nat_lt 0 n) TypeRange >>= λ some. decoded_validity_buffer counts body rest >>= λ head. decoded_child f (Exactly (counts.slots * n)) body head.1 >>= λ items. Ok (fixed_size_list t items.0 head.0, items.1)
  decoded_array t (types.struct fs) counts body rest =
      check (nat_lt 0 (count_fields fs)) TypeRange >>= λ some. decoded_validity_buffer counts body rest >>= λ head. decoded_children fs (Exactly counts.slots) body head.1 >>= λ children. Ok (struct t children.0 head.0, children.1)
  decoded_array t (types.union fs ids mode) counts body rest =
      check (nat_le (count_fields fs) most_fields && are_type_ids ids (count_fields fs)) TypeRange >>= λ formed. decoded_union_parts mode ids (count_fields fs) counts body rest >>= λ parts. decoded_children fs (union_child_length mode counts.slots) body parts.1 >>= λ children. union_over t ids parts.0 children
  decoded_array t s counts body rest = decoded_flat (physical_type s) t counts body rest

  -- the array of a field, of the expected length
  pub decoded_child : FieldTree → ExpectedLength → List ℕ → Rest → Result (Layout × Rest) IpcReadError
  decoded_child (field x s b es) expected body rest = decoded_node expected rest >>= λ node. decoded_array s s node.0 body node.1

  -- the arrays of fields in order, each of the expected length
  pub decoded_children : FieldTrees → ExpectedLength → List ℕ → Rest → Result (Layouts × Rest) IpcReadError
  decoded_children no_fields expected body rest = Ok (no_layouts, rest)
  decoded_children (more_fields f fs) expected body rest = decoded_child f expected body rest >>= λ first. decoded_children fs expected body first.1 >>= λ others. Ok (more_layouts first.0 others.0, others.1)

-- the array of a data type, of the expected length
abbrev pub decoded_column : TypeTree → ExpectedLength → List ℕ → Rest → Result (Layout × Rest) IpcReadError
decoded_column t expected body rest = decoded_node expected rest >>= λ node. decoded_array t t node.0 body node.1

-- the arrays of data types in order
unfoldable pub decoded_each : List TypeTree → ℕ → List ℕ → Rest → Result (List Layout × Rest) IpcReadError
decoded_each [] rows body rest = Ok ([], rest)
decoded_each (t ∷ types) rows body rest = do
  first ← decoded_column t (Rows rows) body rest
  others ← decoded_each types rows body first.1
  Ok (first.0 ∷ others.0, others.1)

-- every field node and every buffer has been read
abbrev pub checked_exhausted : Rest → Result (Unit {0}) IpcReadError
checked_exhausted rest = check (length rest.nodes == 0) NodeCount >>= λ nodes. check (length rest.buffers == 0) BufferCount

-- the columns of a record batch, one for each data type
unfoldable pub decoded_columns : List TypeTree → ℕ → List ℕ → Rest → Result (List Layout) IpcReadError
decoded_columns types rows body rest = do
  columns ← decoded_each types rows body rest
  all ← checked_exhausted columns.1
  Ok columns.0
