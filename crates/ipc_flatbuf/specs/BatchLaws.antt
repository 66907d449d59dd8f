-- Record batches round-trip.
use Rattle.std.proofs.Common.{◌≡◌, ℕ, ◌+◌, ◌-◌, ◌*◌, ◌^◌, ◌<◌, ◌≤◌, List, [], ◌∷◌, ◌++◌, length, drop, Option, Some, None, Result, Ok, refl, ap, ◌∙◌, inl, inr, sym, append_assoc, subst, arith}
use Rattle.std.specs.Prelude.{pos}
use Rattle.std.specs.Int.{w8, w64}
use Rattle.std.specs.Int.RustNames.{FitsSigned}
use Rattle.std.specs.List.{AllByRecursion, flat_map}
use Rattle.std.proofs.lemmas.Int.{ints}
use Rattle.std.proofs.lemmas.List.{length-append}
use Rattle.std.proofs.lemmas.List.Concat.{flat_map-cons}
use Rattle.ipc_flatbuf.specs.declared.error.IpcReadError.{IpcReadError}
use Rattle.ipc_flatbuf.specs.declared.error.IpcWriteError.{IpcWriteError}
use Rattle.ipc_flatbuf.specs.declared.batch.parts.FieldNode.{FieldNode}
use Rattle.ipc_flatbuf.specs.declared.batch.parts.BufferSpec.{BufferSpec}
use Rattle.ipc_flatbuf.specs.Flatbuffers.{number_at, signed_at, field, spec_offset_at, spec_offset_field, spec_field_position, spec_read_table, vector_at}
use Rattle.ipc_flatbuf.specs.PartBytes.{u32_bytes, i64_bytes, vector_bytes}
use Rattle.ipc_flatbuf.specs.FlatbufferLaws.{From, From-length, From_next, number_in, field_is_past}
use Rattle.ipc_flatbuf.specs.TemplateLaws.{From_at, i64_in, offset_in, table_in, visit_in, field_in}
use Rattle.ipc_flatbuf.specs.VectorLaws.{IsStruct, vector_round_trips}
use Rattle.ipc_flatbuf.specs.Messages.{MessageModel, message_at}
use Rattle.ipc_flatbuf.specs.MessageBytes.{root_bytes, message_bytes, metadata_size, framed_bytes, padding}
use Rattle.ipc_flatbuf.specs.MessageLaws.{padded, padded_long, padding_long, framed_long, root_long, written_parts, message_round_trips, written_part}
use Rattle.ipc_flatbuf.specs.declared.message.types.MessageKind.TheVariants.{RecordBatch}
use Rattle.ipc_flatbuf.specs.declared.message.types.MetadataVersion.TheVariants.{V5}
use Rattle.ipc_flatbuf.specs.declared.tables.FlatbufferTable.{FlatbufferTable}
use Rattle.ipc_flatbuf.specs.declared.compression.codec.CompressionCodec.{CompressionCodec}
use Rattle.ipc_flatbuf.specs.declared.compression.codec.CompressionCodec.TheVariants.{Lz4Frame, Zstd}
use Rattle.ipc_flatbuf.specs.Compression.{codec_number, spec_codec_of, compression_at}
use Rattle.ipc_flatbuf.specs.Batches.{BatchModel, spec_node_at, spec_buffer_at, spec_all_within, batch_at}
use Rattle.ipc_flatbuf.specs.BatchBytes.{node_bytes, buffer_bytes, plain_head, compression_bytes, compressed_head, batch_part_head, batch_part_bytes, batch_message, IsBatchWriteError}

pub record NodeFits (n : FieldNode) : Type 0 where
  pub length : FitsSigned w64 n.length
  pub nulls : FitsSigned w64 n.null_count

pub record BufferFits (r : BufferSpec) : Type 0 where
  pub offset : FitsSigned w64 r.offset
  pub length : FitsSigned w64 r.length

-- the numbers of a Rust BatchMetadata are within their types
pub record BatchFits (b : BatchModel) : Type 0 where
  pub rows : b.rows < 2 ^ 63
  pub nodes : AllByRecursion NodeFits b.nodes
  pub buffers : AllByRecursion BufferFits b.buffers

node_round_trips : (n : FieldNode) → NodeFits n → IsStruct spec_node_at 16 node_bytes n
unfolding node_bytes i64_bytes
node_round_trips n fits = record {
  law = λ whole p after h.
      let part : List ℕ = node_bytes n ++ after in
      let a : signed_at w64 whole p ≡ Ok n.length = i64_in whole p part 0 p n.length h (omega arith) (omega arith) fits.length refl in
      let b : signed_at w64 whole (p + 8) ≡ Ok n.null_count = i64_in whole p part 8 (p + 8) n.null_count h (omega arith) refl fits.nulls refl in
      rw (a, b) refl;
  long = refl;
}

buffer_round_trips : (r : BufferSpec) → BufferFits r → IsStruct spec_buffer_at 16 buffer_bytes r
unfolding buffer_bytes i64_bytes
buffer_round_trips r fits = record {
  law = λ whole p after h.
      let part : List ℕ = buffer_bytes r ++ after in
      let a : signed_at w64 whole p ≡ Ok r.offset = i64_in whole p part 0 p r.offset h (omega arith) (omega arith) fits.offset refl in
      let b : signed_at w64 whole (p + 8) ≡ Ok r.length = i64_in whole p part 8 (p + 8) r.length h (omega arith) refl fits.length refl in
      rw (a, b) refl;
  long = refl;
}

nodes_round_trip : (ns : List FieldNode) → AllByRecursion NodeFits ns → AllByRecursion (IsStruct spec_node_at 16 node_bytes) ns
nodes_round_trip [] fits = tt
nodes_round_trip (n ∷ ns) fits = (node_round_trips n fits.0, nodes_round_trip ns fits.1)

buffers_round_trip : (rs : List BufferSpec) → AllByRecursion BufferFits rs → AllByRecursion (IsStruct spec_buffer_at 16 buffer_bytes) rs
buffers_round_trip [] fits = tt
buffers_round_trip (r ∷ rs) fits = (buffer_round_trips r fits.0, buffers_round_trip rs fits.1)

node_long : (n : FieldNode) → length (node_bytes n) ≡ 16
unfolding node_bytes i64_bytes
node_long n = refl

buffer_long : (r : BufferSpec) → length (buffer_bytes r) ≡ 16
unfolding buffer_bytes i64_bytes
buffer_long r = refl

nodes_long : (xs : List FieldNode) → length (flat_map node_bytes xs) ≡ 16 * length xs
nodes_long [] = refl
nodes_long (x ∷ xs) = rw (flat_map-cons node_bytes x xs) (omega (arith, nodes_long xs, node_long x, length-append (node_bytes x) (flat_map node_bytes xs)))

buffers_long : (xs : List BufferSpec) → length (flat_map buffer_bytes xs) ≡ 16 * length xs
buffers_long [] = refl
buffers_long (x ∷ xs) = rw (flat_map-cons buffer_bytes x xs) (omega (arith, buffers_long xs, buffer_long x, length-append (buffer_bytes x) (flat_map buffer_bytes xs)))

node_vector_long : (ns : List FieldNode) → length (vector_bytes node_bytes ns) ≡ 4 + 16 * length ns
unfolding vector_bytes u32_bytes
node_vector_long ns = omega (arith, nodes_long ns)

region_vector_long : (rs : List BufferSpec) → length (vector_bytes buffer_bytes rs) ≡ 4 + 16 * length rs
unfolding vector_bytes u32_bytes
region_vector_long rs = omega (arith, buffers_long rs)

-- the number of bytes before the vector of nodes
abbrev pub head_size : Option CompressionCodec → ℕ
head_size None = 36
head_size (Some codec) = 60

head_long : (compression : Option CompressionCodec) (rows count : ℕ) → length (batch_part_head compression rows count) ≡ head_size compression
unfolding plain_head compressed_head u32_bytes i64_bytes
head_long None rows count = refl
head_long (Some codec) rows count = refl

pub least_head : (compression : Option CompressionCodec) → 36 ≤ head_size compression
least_head None = omega arith
least_head (Some codec) = omega arith

pub batch_long : (b : BatchModel) → length (batch_part_bytes b) ≡ 12 + head_size b.compression + 16 * length b.nodes + 16 * length b.buffers
unfolding batch_part_bytes
batch_long b =
    let head : List ℕ = batch_part_head b.compression b.rows (length b.nodes) in
    let nodes : List ℕ = vector_bytes node_bytes b.nodes in
    let buffers : List ℕ = vector_bytes buffer_bytes b.buffers in
    omega (arith, head_long b.compression b.rows (length b.nodes), node_vector_long b.nodes, region_vector_long b.buffers, length-append head (nodes ++ ((0 ∷ 0 ∷ 0 ∷ 0 ∷ []) ++ buffers)), length-append nodes ((0 ∷ 0 ∷ 0 ∷ 0 ∷ []) ++ buffers))

-- the metadata of the message is at least as long as the part of its batch
pub batch_part_is_shorter : (b : BatchModel) (body : ℕ) → length (batch_part_bytes b) ≤ metadata_size (batch_message b body)
unfolding batch_message
batch_part_is_shorter b body =
    let metadata : List ℕ = root_bytes RecordBatch body 16 (batch_part_bytes b) in
    let framed : length (message_bytes RecordBatch body 16 (batch_part_bytes b)) ≡ length (framed_bytes metadata) = unfold message_bytes in refl in
    omega (arith, framed, framed_long metadata, root_long RecordBatch body 16 (batch_part_bytes b))

-- an error of a part is an error of what contains it
pub write_error_of_whole : (b : BatchModel) (why : IpcWriteError) (part whole : ℕ) → part ≤ whole → IsBatchWriteError b part why → IsBatchWriteError b whole why
write_error_of_whole b why part whole le (inl memory) = inl memory
write_error_of_whole b why part whole le (inr (size, inl rows)) = inr (size, inl rows)
write_error_of_whole b why part whole le (inr (size, inr long)) = inr (size, inr (omega arith))

-- ---- what precedes the vectors, at any position: the table, the rows, the compression, and where the vectors are

record HeadRoundTrips (compression : Option CompressionCodec) (rows count : ℕ) (whole : List ℕ) (p left : ℕ) : Type 0 where
  pub table : FlatbufferTable
  pub to : Option ℕ
  pub after : ℕ
  pub visited : spec_read_table whole (p + 16) left ≡ Ok (table, left - 8)
  pub same_rows : field (signed_at w64 whole) (pos 0) whole table 0 ≡ Ok (pos rows)
  pub place : spec_offset_field whole table 3 ≡ Ok to
  pub same_compression : compression_at whole to (left - 8) ≡ Ok (compression, after)
  pub enough : left ≤ after + 16
  pub nodes : spec_offset_field whole table 1 ≡ Ok (Some (p + head_size compression))
  pub buffers : spec_offset_field whole table 2 ≡ Ok (Some (p + head_size compression + (8 + 16 * count)))

plain_head_round_trips : (rows count : ℕ) (whole : List ℕ) (p left : ℕ) (rest : List ℕ) → rows < 2 ^ 63 → 36 + 16 * count < 2 ^ 32 → 16 ≤ left → From whole p (plain_head rows count ++ rest) → HeadRoundTrips None rows count whole p left
unfolding plain_head u32_bytes i64_bytes compression_at
plain_head_round_trips rows count whole p left rest few small le h =
    let part : List ℕ = plain_head rows count ++ rest in
    let f0 : spec_field_position whole (table_in p 16 10) 0 ≡ Ok (Some (p + 16 + 8)) = field_in whole p part 16 10 0 8 h (omega arith) (omega arith) (omega arith) refl in
    let f1 : spec_field_position whole (table_in p 16 10) 1 ≡ Ok (Some (p + 16 + 4)) = field_in whole p part 16 10 1 4 h (omega arith) (omega arith) (omega arith) refl in
    let f2 : spec_field_position whole (table_in p 16 10) 2 ≡ Ok (Some (p + 16 + 16)) = field_in whole p part 16 10 2 16 h (omega arith) (omega arith) (omega arith) refl in
    let f3 : spec_field_position whole (table_in p 16 10) 3 ≡ Ok None = field_is_past whole (table_in p 16 10) 3 (omega arith) in
    let long : signed_at w64 whole (p + 16 + 8) ≡ Ok (pos rows) = i64_in whole p part 24 (p + 16 + 8) (pos rows) h (omega arith) (omega arith) (omega (arith, ints, few)) refl in
    let o1 : spec_offset_at whole (p + 16 + 4) ≡ Ok (p + 16 + 4 + 16) = offset_in whole p part 20 (p + 16 + 4) 16 h (omega arith) (omega arith) (omega arith) refl in
    let o2 : spec_offset_at whole (p + 16 + 16) ≡ Ok (p + 16 + 16 + (12 + 16 * count)) = offset_in whole p part 32 (p + 16 + 16) (12 + 16 * count) h (omega arith) (omega arith) (omega arith) refl in
    let first : p + 16 + 4 + 16 ≡ p + 36 = omega arith in
    let second : p + 16 + 16 + (12 + 16 * count) ≡ p + 36 + (8 + 16 * count) = omega arith in
    record {
      table = table_in p 16 10;
      to = None;
      after = left - 8;
      visited = visit_in whole p part 16 10 left h (omega arith) (omega arith) (omega arith) (omega arith) refl refl refl (omega arith);
      same_rows = rw (f0, long) refl;
      place = rw f3 refl;
      same_compression = refl;
      enough = omega arith;
      nodes = rw (f1, o1, first) refl;
      buffers = rw (f2, o2, second) refl;
    }

-- the table BodyCompression
compression_round_trips : (codec : CompressionCodec) (whole : List ℕ) (p q left : ℕ) (rest : List ℕ) → q ≡ p + 12 → 8 ≤ left → From whole p (compression_bytes codec ++ rest) → compression_at whole (Some q) left ≡ Ok (Some codec, left - 8)
unfolding compression_at
compression_round_trips codec whole p q left rest at le h =
    let part : List ℕ = drop 4 (compression_bytes codec) ++ rest in
    let k : From whole (p + 4) part = From_at whole p (p + 4) 4 (compression_bytes codec ++ rest) part h (omega arith) refl refl in
    let there : q ≡ p + 4 + 8 = omega (arith, at) in
    let v : spec_read_table whole (p + 4 + 8) left ≡ Ok (table_in (p + 4) 8 8, left - 8) = visit_in whole (p + 4) part 8 8 left k (omega arith) (omega arith) (omega arith) (omega arith) refl refl refl le in
    let f0 : spec_field_position whole (table_in (p + 4) 8 8) 0 ≡ Ok (Some (p + 4 + 8 + 4)) = field_in whole (p + 4) part 8 8 0 4 k (omega arith) (omega arith) (omega arith) refl in
    let f1 : spec_field_position whole (table_in (p + 4) 8 8) 1 ≡ Ok (Some (p + 4 + 8 + 5)) = field_in whole (p + 4) part 8 8 1 5 k (omega arith) (omega arith) (omega arith) refl in
    let number : number_at w8 whole (p + 4 + 8 + 4) ≡ Ok (codec_number codec) = number_in w8 whole (p + 4) part 12 (p + 4 + 8 + 4) k (omega arith) (omega arith) in
    let method : number_at w8 whole (p + 4 + 8 + 5) ≡ Ok 0 = number_in w8 whole (p + 4) part 13 (p + 4 + 8 + 5) k (omega arith) (omega arith) in
    rw (there, v, f0, number, codec_again codec, f1, method) refl
  where
    codec_again : (c : CompressionCodec) → spec_codec_of (codec_number c) ≡ Ok c
    codec_again Lz4Frame = refl
    codec_again Zstd = refl

compressed_head_round_trips : (codec : CompressionCodec) (rows count : ℕ) (whole : List ℕ) (p left : ℕ) (rest : List ℕ) → rows < 2 ^ 63 → 36 + 16 * count < 2 ^ 32 → 16 ≤ left → From whole p (compressed_head codec rows count ++ rest) → HeadRoundTrips (Some codec) rows count whole p left
unfolding compressed_head u32_bytes i64_bytes
compressed_head_round_trips codec rows count whole p left rest few small le h =
    let part : List ℕ = compressed_head codec rows count ++ rest in
    let f0 : spec_field_position whole (table_in p 16 12) 0 ≡ Ok (Some (p + 16 + 8)) = field_in whole p part 16 12 0 8 h (omega arith) (omega arith) (omega arith) refl in
    let f1 : spec_field_position whole (table_in p 16 12) 1 ≡ Ok (Some (p + 16 + 4)) = field_in whole p part 16 12 1 4 h (omega arith) (omega arith) (omega arith) refl in
    let f2 : spec_field_position whole (table_in p 16 12) 2 ≡ Ok (Some (p + 16 + 16)) = field_in whole p part 16 12 2 16 h (omega arith) (omega arith) (omega arith) refl in
    let f3 : spec_field_position whole (table_in p 16 12) 3 ≡ Ok (Some (p + 16 + 20)) = field_in whole p part 16 12 3 20 h (omega arith) (omega arith) (omega arith) refl in
    let long : signed_at w64 whole (p + 16 + 8) ≡ Ok (pos rows) = i64_in whole p part 24 (p + 16 + 8) (pos rows) h (omega arith) (omega arith) (omega (arith, ints, few)) refl in
    let o1 : spec_offset_at whole (p + 16 + 4) ≡ Ok (p + 16 + 4 + 40) = offset_in whole p part 20 (p + 16 + 4) 40 h (omega arith) (omega arith) (omega arith) refl in
    let o2 : spec_offset_at whole (p + 16 + 16) ≡ Ok (p + 16 + 16 + (36 + 16 * count)) = offset_in whole p part 32 (p + 16 + 16) (36 + 16 * count) h (omega arith) (omega arith) (omega arith) refl in
    let o3 : spec_offset_at whole (p + 16 + 20) ≡ Ok (p + 16 + 20 + 12) = offset_in whole p part 36 (p + 16 + 20) 12 h (omega arith) (omega arith) (omega arith) refl in
    let inner : From whole (p + 36) (compression_bytes codec ++ rest) = From_at whole p (p + 36) 36 part (compression_bytes codec ++ rest) h (omega arith) refl refl in
    let first : p + 16 + 4 + 40 ≡ p + 60 = omega arith in
    let second : p + 16 + 16 + (36 + 16 * count) ≡ p + 60 + (8 + 16 * count) = omega arith in
    record {
      table = table_in p 16 12;
      to = Some (p + 16 + 20 + 12);
      after = left - 8 - 8;
      visited = visit_in whole p part 16 12 left h (omega arith) (omega arith) (omega arith) (omega arith) refl refl refl (omega arith);
      same_rows = rw (f0, long) refl;
      place = rw (f3, o3) refl;
      same_compression = compression_round_trips codec whole (p + 36) (p + 16 + 20 + 12) (left - 8) rest (omega arith) (omega arith) inner;
      enough = omega arith;
      nodes = rw (f1, o1, first) refl;
      buffers = rw (f2, o2, second) refl;
    }

head_round_trips : (compression : Option CompressionCodec) (rows count : ℕ) (whole : List ℕ) (p left : ℕ) (rest : List ℕ) → rows < 2 ^ 63 → 36 + 16 * count < 2 ^ 32 → 16 ≤ left → From whole p (batch_part_head compression rows count ++ rest) → HeadRoundTrips compression rows count whole p left
head_round_trips None rows count whole p left rest few small le h = plain_head_round_trips rows count whole p left rest few small le h
head_round_trips (Some codec) rows count whole p left rest few small le h = compressed_head_round_trips codec rows count whole p left rest few small le h

-- ---- the vectors, and the batch

pub batch_part_round_trips : (b : BatchModel) (whole : List ℕ) (p q left body : ℕ) (after : List ℕ) → BatchFits b → spec_all_within body b.buffers ≡ Ok tt → From whole p (batch_part_bytes b ++ after) → q ≡ p + 16 → length whole < 2 ^ 32 → 24 + 16 * length b.nodes + 16 * length b.buffers ≤ left
    → batch_at whole q left body ≡ Ok b
unfolding batch_at batch_part_bytes
batch_part_round_trips b whole p q left body after fits inside h at small le =
    let n : ℕ = length b.nodes in
    let m : ℕ = length b.buffers in
    let head : List ℕ = batch_part_head b.compression b.rows n in
    let nodes : List ℕ = vector_bytes node_bytes b.nodes in
    let buffers : List ℕ = vector_bytes buffer_bytes b.buffers in
    let gap : List ℕ = 0 ∷ 0 ∷ 0 ∷ 0 ∷ [] in
    let size : ℕ = head_size b.compression in
    let part : List ℕ = batch_part_bytes b ++ after in
    let behind_head : List ℕ = nodes ++ ((gap ++ buffers) ++ after) in
    let split : part ≡ head ++ behind_head = append_assoc head (nodes ++ (gap ++ buffers)) after ∙ ap (λ (x : List ℕ). head ++ x) (append_assoc nodes (gap ++ buffers) after) in
    let start : From whole p (head ++ behind_head) = subst (From whole p) split h in
    let long : p + (12 + size + 16 * n + 16 * m) ≤ length whole = omega (arith, batch_long b, length-append (batch_part_bytes b) after, From-length whole p part h) in
    let t : HeadRoundTrips b.compression b.rows n whole p left = head_round_trips b.compression b.rows n whole p left behind_head fits.rows (omega (arith, long, least_head b.compression)) (omega arith) start in
    let first : From whole (p + size) behind_head = subst (λ (k : ℕ). From whole (p + k) behind_head) (head_long b.compression b.rows n) (From_next whole p head behind_head start) in
    let behind : From whole (p + size + length nodes) ((gap ++ buffers) ++ after) = From_next whole (p + size) nodes ((gap ++ buffers) ++ after) first in
    let second : From whole (p + size + (8 + 16 * n)) (buffers ++ after) = From_at whole (p + size + length nodes) (p + size + (8 + 16 * n)) 4 ((gap ++ buffers) ++ after) (buffers ++ after) behind (omega arith) (omega (arith, node_vector_long b.nodes)) refl in
    let ns : vector_at (spec_node_at whole) 16 whole (Some (p + size)) t.after ≡ Ok (b.nodes, t.after - (4 + n * 16)) =
    vector_round_trips spec_node_at 16 node_bytes b.nodes whole (p + size) t.after ((gap ++ buffers) ++ after) (nodes_round_trip b.nodes fits.nodes) first (omega arith) (omega arith) (omega (arith, t.enough)) in
    let rs : vector_at (spec_buffer_at whole) 16 whole (Some (p + size + (8 + 16 * n))) (t.after - (4 + n * 16)) ≡ Ok (b.buffers, t.after - (4 + n * 16) - (4 + m * 16)) =
    vector_round_trips spec_buffer_at 16 buffer_bytes b.buffers whole (p + size + (8 + 16 * n)) (t.after - (4 + n * 16)) after (buffers_round_trip b.buffers fits.buffers) second (omega arith) (omega arith) (omega (arith, t.enough)) in
    rw (at, t.visited, t.same_rows, t.place, t.same_compression, t.nodes, ns, t.buffers, rs, inside) refl

-- the record batch of a message
abbrev pub batch_in : MessageModel → Result BatchModel IpcReadError
batch_in parts = batch_at parts.metadata parts.root.header parts.root.left parts.root.body_length

-- the message is read as the record batch with its body, and the bytes after them are left
pub record BatchRoundTrips (b : BatchModel) (message body : List ℕ) : Type 0 where
  pub parts : MessageModel
  pub again : (rest : List ℕ) → message_at (message ++ (body ++ rest)) ≡ Ok (Some parts, rest)
  pub kind : parts.root.kind ≡ RecordBatch
  pub version : parts.root.version ≡ V5
  pub long : 8 + length parts.metadata ≡ length message
  pub same_body : parts.body ≡ body
  pub same_batch : batch_in parts ≡ Ok b

pub batch_round_trips : (b : BatchModel) (body : List ℕ) → BatchFits b → length body < 2 ^ 63 → spec_all_within (length body) b.buffers ≡ Ok tt → metadata_size (batch_message b (length body)) < 2 ^ 31 → BatchRoundTrips b (batch_message b (length body)) body
unfolding batch_message
batch_round_trips b body fits short inside small =
    let part : List ℕ = batch_part_bytes b in
    let metadata : List ℕ = root_bytes RecordBatch (length body) 16 part in
    let whole : List ℕ = padded metadata in
    let framed : length (message_bytes RecordBatch (length body) 16 part) ≡ length (framed_bytes metadata) = unfold message_bytes in refl in
    let few : length whole < 2 ^ 31 = omega (arith, framed, framed_long metadata, padding_long (length metadata), padded_long metadata) in
    let h : From whole 48 (part ++ padding (length metadata)) = written_part RecordBatch (length body) 16 part in
    let enough : 24 + 16 * length b.nodes + 16 * length b.buffers ≤ 64 * length whole - 8 = omega (arith, batch_long b, root_long RecordBatch (length body) 16 part, padded_long metadata) in
    let r : batch_at whole 64 (64 * length whole - 8) (length body) ≡ Ok b = batch_part_round_trips b whole 48 64 (64 * length whole - 8) (length body) (padding (length metadata)) fits inside h (omega arith) (omega arith) enough in
    record {
      parts = written_parts RecordBatch 16 part body;
      again = λ rest. message_round_trips RecordBatch 16 part body rest short (omega arith) small;
      kind = refl;
      version = refl;
      long = omega (arith, framed, framed_long metadata, padding_long (length metadata), padded_long metadata);
      same_body = refl;
      same_batch = r;
    }

-- for each body of that length which contains all buffers
abbrev pub BatchRoundTripsWithBodies : BatchModel → ℕ → Type 0
BatchRoundTripsWithBodies b long = (body : List ℕ) → length body ≡ long → spec_all_within long b.buffers ≡ Ok tt → metadata_size (batch_message b long) < 2 ^ 31 → BatchRoundTrips b (batch_message b long) body

pub batch_round_trips_with_bodies : (b : BatchModel) (long : ℕ) → BatchFits b → long < 2 ^ 63 → BatchRoundTripsWithBodies b long
batch_round_trips_with_bodies b long fits short = λ body e inside small.
    subst (λ (n : ℕ). BatchRoundTrips b (batch_message b n) body) e
    (batch_round_trips b body fits (omega (arith, e, short)) (subst (λ (n : ℕ). spec_all_within n b.buffers ≡ Ok tt) (sym e) inside) (subst (λ (n : ℕ). metadata_size (batch_message b n) < 2 ^ 31) (sym e) small))
