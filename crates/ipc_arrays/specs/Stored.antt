-- Arrays that are stored otherwise than they are read: a record batch of them is converted before its columns are decoded.
use Rattle.std.specs.Prelude.{ℕ, ◌+◌, ◌-◌, ℤ, Bool, true, false, ◌==◌, List, [], ◌∷◌, ◌++◌, length, replicate, take, Option, Some, None, Result, Ok, Err}
use Rattle.std.specs.Int.{w32, w64, w128}
use Rattle.std.specs.List.{list_all, list_any}
use Rattle.ipc_flatbuf.specs.ReadResults.{◌>>=◌, check}
use Rattle.ipc_flatbuf.specs.Compression.{read_error_of}
use Rattle.ipc_flatbuf.specs.Flatbuffers.{spec_non_negative}
use Rattle.ipc_flatbuf.specs.declared.batch.parts.FieldNode.{FieldNode}
use Rattle.ipc_flatbuf.specs.declared.batch.parts.BufferSpec.{BufferSpec}
use Rattle.ipc_flatbuf.specs.declared.compression.codec.CompressionCodec.{CompressionCodec}
use Rattle.ipc_flatbuf.specs.declared.compression.error.CompressionError.{CompressionError}
use Rattle.ipc_flatbuf.specs.declared.error.IpcReadError.{IpcReadError}
use Rattle.ipc_flatbuf.specs.declared.error.IpcReadError.TheVariants.{NodeCount, BufferCount}
use Rattle.ipc_flatbuf.specs.declared.projection.SkippedField.{SkippedField}
use Rattle.ipc_flatbuf.specs.declared.projection.StoredArray.{StoredArray}
use Rattle.ipc_flatbuf.specs.declared.projection.StoredArray.TheVariants.{Plain, View, Decimal32, Decimal64, Skipped}
use Rattle.ipc_arrays.specs.BodyBuffers.{body_of, buffer_specs}
use Rattle.ipc_arrays.specs.CompressedBuffers.{decompressed}
use Rattle.ipc_arrays.specs.Decoding.{buffer_slice, first_counts, decoded_validity, decoded_values}
use Rattle.ipc_arrays.specs.FixedWidth.{ByteFormat, signed_format, values_bytes}
use Rattle.ipc_arrays.specs.Projection.{ProjectionState, skip_first, skipped_column}
use Rattle.ipc_arrays.specs.Views.{spec_packed_views}
use Rattle.ipc_arrays.specs.declared.cursor.NodeCounts.{NodeCounts}
use Rattle.ipc_arrays.specs.declared.stored.contents.PlainBuffers.{PlainBuffers}
use Rattle.ipc_arrays.specs.declared.stored.arrays.Conversion.{Conversion}
use Rattle.ipc_arrays.specs.declared.stored.batch.ConvertedBatch.{ConvertedBatch}

-- ---- the contents of buffers

-- a result of decompression, with an error of reading
abbrev pub with_read_error : {A : Type 0} → Result A CompressionError → Result A IpcReadError
with_read_error (Ok x) = Ok x
with_read_error (Err e) = Err (read_error_of e)

-- the bytes of a buffer, decompressed if there is a codec
unfoldable pub plain_content : Option CompressionCodec → List ℕ → Result (List ℕ) IpcReadError
plain_content None bytes = Ok bytes
plain_content (Some codec) bytes = with_read_error (decompressed codec bytes)

-- the content of a buffer, which must be within the body
unfoldable pub stored_content : Option CompressionCodec → List ℕ → BufferSpec → Result (List ℕ) IpcReadError
stored_content codec body buffer = buffer_slice body buffer.offset buffer.length >>= plain_content codec

unfoldable pub stored_contents : Option CompressionCodec → List ℕ → List BufferSpec → Result (List (List ℕ)) IpcReadError
stored_contents codec body [] = Ok []
stored_contents codec body (buffer ∷ buffers) = do
  first ← stored_content codec body buffer
  others ← stored_contents codec body buffers
  Ok (first ∷ others)

-- ---- the buffers that an array is read from: their contents, given the counts of its field node and its buffers as they are stored

-- "Variable-size Binary Layout" with 64-bit offsets: the validity buffer as it is, the offsets and the data
unfoldable pub string_contents : List ℕ → List ℕ × List ℕ → List (List ℕ)
string_contents bits packed = bits ∷ packed.0 ∷ packed.1 ∷ []

-- a view array: a validity buffer, the views, and the variadic buffers
unfoldable pub view_contents : NodeCounts → List (List ℕ) → Result (List (List ℕ)) IpcReadError
view_contents counts (bits ∷ views ∷ variadic) = do
  validity ← decoded_validity counts bits
  packed ← spec_packed_views validity counts.slots views variadic
  Ok (string_contents bits packed)
view_contents counts buffers = Err BufferCount

-- values of this format as integers of 128 bits
unfoldable pub widened : ByteFormat → ℕ → List ℕ → Result (List ℕ) IpcReadError
widened format slots bytes = decoded_values format slots bytes >>= λ numbers. Ok (values_bytes (signed_format w128) numbers)

-- decimals of this format: a validity buffer as it is, and the values
unfoldable pub decimal_contents : ByteFormat → NodeCounts → List (List ℕ) → Result (List (List ℕ)) IpcReadError
decimal_contents format counts (bits ∷ values ∷ []) = widened format counts.slots values >>= λ wide. Ok (bits ∷ wide ∷ [])
decimal_contents format counts buffers = Err BufferCount

-- the same for buffers of a body
unfoldable pub stored_views : Option CompressionCodec → List ℕ → NodeCounts → List BufferSpec → Result (List (List ℕ)) IpcReadError
stored_views codec body counts buffers = stored_contents codec body buffers >>= view_contents counts

unfoldable pub stored_decimals : ByteFormat → Option CompressionCodec → List ℕ → NodeCounts → List BufferSpec → Result (List (List ℕ)) IpcReadError
stored_decimals format codec body counts buffers = stored_contents codec body buffers >>= decimal_contents format counts

-- ---- the nodes, buffers and variadic counts of an array

-- the same dictionaries and variadic counts, with other nodes or buffers
abbrev pub with_nodes : ProjectionState → List FieldNode → ProjectionState
with_nodes ahead nodes = record { rest = record { nodes = nodes; buffers = ahead.rest.buffers; dictionaries = ahead.rest.dictionaries }; more = ahead.more }

abbrev pub with_rest : ProjectionState → List BufferSpec → List ℤ → ProjectionState
with_rest ahead buffers more = record { rest = record { nodes = ahead.rest.nodes; buffers = buffers; dictionaries = ahead.rest.dictionaries }; more = more }

-- the next n buffers
unfoldable pub taken_buffers : ℕ → ProjectionState → Result (List BufferSpec × ProjectionState) IpcReadError
taken_buffers n ahead = skip_first BufferCount n ahead.rest.buffers >>= λ rest. Ok (take n ahead.rest.buffers, with_rest ahead rest ahead.more)

-- the counts of the next array
unfoldable pub taken_node : ProjectionState → Result (NodeCounts × ProjectionState) IpcReadError
taken_node ahead = first_counts ahead.rest.nodes >>= λ node. Ok (node.0, with_nodes ahead node.1)

-- the next of the variadic counts
unfoldable pub first_variadic_count : List ℤ → Result (ℕ × List ℤ) IpcReadError
first_variadic_count [] = Err BufferCount
first_variadic_count (count ∷ more) = spec_non_negative BufferCount count >>= λ n. Ok (n, more)

-- the buffers of a view array: two, and as many variadic ones as its count states
unfoldable pub taken_view_buffers : ProjectionState → Result (List BufferSpec × ProjectionState) IpcReadError
taken_view_buffers ahead = first_variadic_count ahead.more >>= λ count. taken_buffers (count.0 + 2) (with_rest ahead ahead.rest.buffers count.1)

-- ---- arrays: the contents of their buffers after conversion, and what remains

-- an array whose buffers are kept; its field node is not looked at
unfoldable pub plain_array : Option CompressionCodec → List ℕ → ℕ → ProjectionState → Result (List (List ℕ) × ProjectionState) IpcReadError
plain_array codec body n ahead = do
  nodes ← skip_first NodeCount 1 ahead.rest.nodes
  own ← taken_buffers n (with_nodes ahead nodes)
  contents ← stored_contents codec body own.0
  Ok (contents, own.1)

unfoldable pub view_array : Option CompressionCodec → List ℕ → ProjectionState → Result (List (List ℕ) × ProjectionState) IpcReadError
view_array codec body ahead = do
  node ← taken_node ahead
  own ← taken_view_buffers node.1
  contents ← stored_views codec body node.0 own.0
  Ok (contents, own.1)

unfoldable pub decimal_array : ByteFormat → Option CompressionCodec → List ℕ → ProjectionState → Result (List (List ℕ) × ProjectionState) IpcReadError
decimal_array format codec body ahead = do
  node ← taken_node ahead
  own ← taken_buffers 2 node.1
  contents ← stored_decimals format codec body node.0 own.0
  Ok (contents, own.1)

-- the contents of the buffers after conversion, and the variadic counts of skipped arrays
pub record ConvertedArrays : Type 0 where
  pub contents : List (List ℕ)
  pub more : List ℤ

abbrev pub converted_arrays : List (List ℕ) → List ℤ → ConvertedArrays
converted_arrays contents more = record { contents = contents; more = more }

-- an array that is read has no variadic counts after conversion
abbrev pub without_counts : Result (List (List ℕ) × ProjectionState) IpcReadError → Result (ConvertedArrays × ProjectionState) IpcReadError
without_counts array = array >>= λ x. Ok (converted_arrays x.0 [], x.1)

-- the arrays of a skipped column: each of its buffers is empty, its variadic counts are kept
unfoldable pub skipped_arrays : SkippedField → ProjectionState → Result (ConvertedArrays × ProjectionState) IpcReadError
skipped_arrays span ahead = skipped_column span ahead >>= λ after.
    Ok (converted_arrays (replicate (length ahead.rest.buffers - length after.rest.buffers) []) (take (length ahead.more - length after.more) ahead.more), after)

abbrev pub converted_array : Option CompressionCodec → List ℕ → StoredArray → ProjectionState → Result (ConvertedArrays × ProjectionState) IpcReadError
converted_array codec body (Plain n) ahead = without_counts (plain_array codec body n ahead)
converted_array codec body View ahead = without_counts (view_array codec body ahead)
converted_array codec body Decimal32 ahead = without_counts (decimal_array (signed_format w32) codec body ahead)
converted_array codec body Decimal64 ahead = without_counts (decimal_array (signed_format w64) codec body ahead)
converted_array codec body (Skipped span) ahead = skipped_arrays span ahead

-- all arrays of a record batch in pre-order
unfoldable pub converted_each : Option CompressionCodec → List ℕ → List StoredArray → ProjectionState → Result (ConvertedArrays × ProjectionState) IpcReadError
converted_each codec body [] ahead = Ok (converted_arrays [] [], ahead)
converted_each codec body (array ∷ arrays) ahead = do
  first ← converted_array codec body array ahead
  others ← converted_each codec body arrays first.1
  Ok (converted_arrays (first.0.contents ++ others.0.contents) (first.0.more ++ others.0.more), others.1)

-- the buffers and the body of a record batch after conversion, and its variadic counts
pub record ConvertedParts : Type 0 where
  pub buffers : List BufferSpec
  pub body : List ℕ
  pub more : List ℤ

abbrev pub parts_of_arrays : ConvertedArrays → ConvertedParts
parts_of_arrays arrays = record { buffers = buffer_specs 0 arrays.contents; body = body_of arrays.contents; more = arrays.more }

-- The record batch after conversion. No buffer may be left; the field nodes are checked when the columns are decoded.
unfoldable pub converted_batch : Option CompressionCodec → List StoredArray → List ℕ → ProjectionState → Result ConvertedParts IpcReadError
converted_batch codec arrays body ahead = do
  all ← converted_each codec body arrays ahead
  none ← check (length all.1.rest.buffers == 0) BufferCount
  Ok (parts_of_arrays all.0)

-- ---- the parts of the code

-- buffers and a body with more contents at their end
abbrev pub with_contents : List BufferSpec × List ℕ → List (List ℕ) → List BufferSpec × List ℕ
with_contents laid contents = (laid.0 ++ buffer_specs (length laid.1) contents, laid.1 ++ body_of contents)

abbrev pub with_buffer : List BufferSpec × List ℕ → Result (List ℕ) IpcReadError → Result (List BufferSpec × List ℕ) IpcReadError
with_buffer laid content = content >>= λ bytes. Ok (with_contents laid (bytes ∷ []))

abbrev pub with_bytes : List ℕ → Result (List ℕ) IpcReadError → Result (List ℕ) IpcReadError
with_bytes out content = content >>= λ bytes. Ok (out ++ bytes)

abbrev pub with_stored : List BufferSpec × List ℕ → Result (List (List ℕ)) IpcReadError → Result (List BufferSpec × List ℕ) IpcReadError
with_stored laid stored = stored >>= λ contents. Ok (with_contents laid contents)

abbrev pub with_array : List BufferSpec × List ℕ → Result (List (List ℕ) × ProjectionState) IpcReadError → Result ((List BufferSpec × List ℕ) × ProjectionState) IpcReadError
with_array laid array = array >>= λ x. Ok (with_contents laid x.0, x.1)

abbrev pub laid_of : PlainBuffers → List BufferSpec × List ℕ
laid_of plain = (plain.specs.items, plain.bytes.items)

-- the same with the variadic counts that are kept
abbrev pub Converted : Type 0
Converted = (List BufferSpec × List ℕ) × List ℤ

abbrev pub with_arrays : Converted → Result (ConvertedArrays × ProjectionState) IpcReadError → Result (Converted × ProjectionState) IpcReadError
with_arrays before arrays = arrays >>= λ x. Ok ((with_contents before.0 x.0.contents, before.1 ++ x.0.more), x.1)

abbrev pub converted_of : Conversion → Converted
converted_of conversion = (laid_of conversion.plain, conversion.more.items)

abbrev pub parts_of : ConvertedBatch → ConvertedParts
parts_of batch = record { buffers = batch.buffers.items; body = batch.body.items; more = batch.more.items }
