-- A compressed message is read as the message without compression.
use Rattle.std.proofs.Common.{◌≡◌, ℕ, zero, suc, ◌+◌, ◌-◌, ◌^◌, ◌<◌, ◌≤◌, Bool, true, false, leb, List, [], ◌∷◌, ◌++◌, length, map, replicate, Option, Some, None, Result, Ok, Err, refl, sym, ap, subst, ◌∙◌, append_assoc, arith}
use Rattle.std.specs.Prelude.{ℤ, pos, ◌&&◌, nat_lt, if◌then◌else◌, is_some}
use Rattle.std.specs.Int.{w64}
use Rattle.std.specs.Int.RustNames.{FitsSigned}
use Rattle.std.specs.List.{AllByRecursion, flat_map, list_all, list_any, range_with_len}
use Rattle.std.proofs.lemmas.Bool.{leb-false, ltb-true}
use Rattle.std.proofs.lemmas.Int.{ints}
use Rattle.std.proofs.lemmas.List.{length-append, append-nil}
use Rattle.std.proofs.lemmas.List.Concat.{flat_map-cons}
use Rattle.std.proofs.lemmas.List.FromFn.{length-range_with_len}
use Rattle.std.proofs.lemmas.List.Sums.{count_by-le-length}
use Rattle.ipc_flatbuf.specs.ReadResults.{◌>>=◌}
use Rattle.ipc_flatbuf.specs.declared.error.IpcReadError.{IpcReadError}
use Rattle.ipc_flatbuf.specs.declared.error.IpcWriteError.{IpcWriteError}
use Rattle.ipc_flatbuf.specs.declared.error.IpcWriteError.TheVariants.{Size}
use Rattle.ipc_flatbuf.specs.declared.batch.parts.BufferSpec.{BufferSpec}
use Rattle.ipc_flatbuf.specs.declared.compression.codec.CompressionCodec.TheVariants.{Lz4Frame}
use Rattle.ipc_flatbuf.specs.declared.message.types.MessageKind.{MessageKind}
use Rattle.ipc_flatbuf.specs.declared.message.types.MessageKind.TheVariants.{DictionaryBatch, RecordBatch}
use Rattle.ipc_flatbuf.specs.declared.message.types.MetadataVersion.{MetadataVersion}
use Rattle.ipc_flatbuf.specs.declared.message.types.MetadataVersion.TheVariants.{V5}
use Rattle.ipc_flatbuf.specs.declared.tables.FlatbufferTable.{FlatbufferTable}
use Rattle.ipc_flatbuf.specs.declared.projection.FieldAction.{FieldAction}
use Rattle.ipc_flatbuf.specs.declared.projection.FieldAction.TheVariants.{Read}
use Rattle.ipc_flatbuf.specs.Flatbuffers.{signed_at, field, spec_read_table}
use Rattle.ipc_flatbuf.specs.Messages.{MessageModel, message_at}
use Rattle.ipc_flatbuf.specs.MessageBytes.{metadata_size, padding}
use Rattle.ipc_flatbuf.specs.BatchLaws.{batch_in, NodeFits, BufferFits, BatchFits, BatchRoundTrips, batch_round_trips}
use Rattle.ipc_flatbuf.specs.DictionaryBytes.{delta_byte}
use Rattle.ipc_flatbuf.specs.DictionaryLaws.{DictionaryRoundTrips, dictionary_round_trips}
use Rattle.ipc_flatbuf.specs.StoredArrays.{reads_as_stored}
use Rattle.nest_memory.specs.TypeTree.{TypeTree, FieldTree, field_type}
use Rattle.nest_model.specs.Array.{IsArray}
use Rattle.nest_model.specs.Layout.{Layout, layout_type}
use Rattle.nest_model.specs.Meaning.{len}
use Rattle.nest_model.specs.Nullness.{null_count, is_null_at}
use Rattle.ipc_schema.specs.Dictionaries.{ValueTypeModel}
use Rattle.ipc_schema.specs.ProjectionLaws.{read_actions}
use Rattle.ipc_schema.specs.ProjectedSchemas.{ProjectedSchemaModel, spec_check_projected_version}
use Rattle.ipc_schema.specs.StoredArrays.{stored_arrays}
use Rattle.ipc_schema.specs.StoredArrayLaws.{no_views}
use Rattle.ipc_arrays.specs.BodyBuffers.{padded, body_of, buffer_specs}
use Rattle.ipc_arrays.specs.BodyBufferLaws.{all_in_body, body_more}
use Rattle.ipc_arrays.specs.CompressedBodies.{AreDecodedTo, needed_contents}
use Rattle.ipc_arrays.specs.PlainBodies.{is_needed_at, spec_plain_body}
use Rattle.ipc_arrays.specs.PlainBodyLaws.{reads_as_contents}
use Rattle.ipc_arrays.specs.Projection.{every_column}
use Rattle.ipc_arrays.specs.NeededBuffers.{spec_needed_buffers}
use Rattle.ipc_arrays.specs.Encoding.{field_node_of, written_arrays, buffers_of, columns_body, is_countable, fits_in_i64, size_error}
use Rattle.ipc.specs.PlainBuffers.{all_needed}
use Rattle.ipc.specs.SchemaIds.{IsNamed, values_of}
use Rattle.ipc.specs.FileDictionaries.{DictionaryBatchTree}
use Rattle.ipc.specs.Streams.{RecordBatchTree, StateTree, spec_has_views, spec_check_order, column_types, known_at, record_batch_in, dictionary_in, data_in, found_in, with_found, spec_with_values, message_in, message_by_kind, next_in, or_next, with_new, with_delta, spec_joined_values}
use Rattle.ipc.specs.StreamLaws.{by_message}
use Rattle.ipc.specs.EncodedStreams.{batch_tree, batch_head, batch_bytes, one_column, dictionary_head, dictionary_bytes, spec_are_columns, or_error, size_error_if, metadata_error, message_error, record_batch_error, dictionary_error, each_error}
use Rattle.ipc.specs.EncodedStreamLaws.{types_are}
use Rattle.ipc.specs.EncodedBatches.{first_accepts, others_accept}
use Rattle.ipc.specs.CompressedBodies.{AreWrittenBuffers}
use Rattle.ipc.specs.CompressedMessages.{plain_bytes, metadata_with, header_by_kind, dictionary_header_in, IsReadable, ArePlainMessages, IsCompressedMessage, AreCompressedMessages}
use Rattle.ipc.specs.CompressedStreams.{batch_message_of, dictionary_message_of, messages_of, ReadsColumns}
use Rattle.ipc.specs.WrittenBufferCounts.{all_are_needed}

-- ---- messages without an error are read as they were written

fits_if : (fits : Bool) → ◌≡◌ {A = Option IpcWriteError} (if fits then None else Some Size) None → fits ≡ true
fits_if true h = refl
fits_if false h = cc

not_past : (past : Bool) → size_error_if past ≡ None → past ≡ false
not_past true h = cc
not_past false h = refl

first_is : (a b : Bool) → (a && b) ≡ true → a ≡ true
first_is true b h = refl
first_is false b h = h

second_is : (a b : Bool) → (a && b) ≡ true → b ≡ true
second_is true b h = h
second_is false b h = cc

number_fits : (n : ℕ) → n < 2 ^ 63 → FitsSigned w64 (pos n)
number_fits n few = omega (arith, ints, few)

nodes_fit : (arrays : List Layout) → list_all is_countable arrays ≡ true → AllByRecursion NodeFits (map field_node_of arrays)
nodes_fit [] h = tt
nodes_fit (a ∷ arrays) h =
    let few : len a < 2 ^ 63 = ltb-true (len a) (2 ^ 63) (first_is (is_countable a) (list_all is_countable arrays) h) in
    let nulls : null_count a ≤ len a = omega (arith, count_by-le-length (is_null_at a) (range_with_len 0 (len a)), length-range_with_len 0 (len a)) in
    (record { length = number_fits (len a) few; nulls = number_fits (null_count a) (omega (arith, few, nulls)) }, nodes_fit arrays (second_is (is_countable a) (list_all is_countable arrays) h))

buffers_fit : (offset : ℕ) (buffers : List (List ℕ)) → offset + length (body_of buffers) < 2 ^ 63 → AllByRecursion BufferFits (buffer_specs offset buffers)
unfolding buffer_specs padded
buffers_fit offset [] small = tt
buffers_fit offset (b ∷ buffers) small =
    let long : length (body_of (b ∷ buffers)) ≡ length (padded b) + length (body_of buffers) = ap length (body_more b buffers) ∙ length-append (padded b) (body_of buffers) in
    let own : length (padded b) ≡ length b + length (padding (length b)) = length-append b (padding (length b)) in
    (record { offset = number_fits offset (omega (arith, small, long)); length = number_fits (length b) (omega (arith, small, long, own)) }, buffers_fit (offset + length (padded b)) buffers (omega (arith, small, long)))

-- what a message without an error keeps
record IsSmall (columns : List Layout) (rows : ℕ) (head : List ℕ) : Type 0 where
  fits : list_all is_countable (written_arrays columns) ≡ true
  body : length (columns_body columns) < 2 ^ 63
  few : rows < 2 ^ 63
  size : metadata_size head < 2 ^ 31

is_small : (columns : List Layout) (rows : ℕ) (head : List ℕ) → message_error columns rows head ≡ None → IsSmall columns rows head
unfolding size_error fits_in_i64
is_small columns rows head none =
    let sized : size_error columns ≡ None = first_accepts (size_error columns) (or_error (size_error_if (leb (2 ^ 63) rows)) (metadata_error head)) none in
    let others = others_accept (size_error columns) (or_error (size_error_if (leb (2 ^ 63) rows)) (metadata_error head)) none in
    let both = fits_if (fits_in_i64 columns) sized in
    record {
      fits = first_is (list_all is_countable (written_arrays columns)) (nat_lt (length (columns_body columns)) (2 ^ 63)) both;
      body = ltb-true (length (columns_body columns)) (2 ^ 63) (second_is (list_all is_countable (written_arrays columns)) (nat_lt (length (columns_body columns)) (2 ^ 63)) both);
      few = leb-false (2 ^ 63) rows (not_past (leb (2 ^ 63) rows) (first_accepts (size_error_if (leb (2 ^ 63) rows)) (metadata_error head) others));
      size = leb-false (2 ^ 31) (metadata_size head) (not_past (leb (2 ^ 31) (metadata_size head)) (others_accept (size_error_if (leb (2 ^ 63) rows)) (metadata_error head) others));
    }

tree_fits : (b : RecordBatchTree) (head : List ℕ) → IsSmall b.columns b.rows head → BatchFits (batch_tree b)
tree_fits b head small = record { rows = small.few; nodes = nodes_fit (written_arrays b.columns) small.fits; buffers = buffers_fit 0 (buffers_of (written_arrays b.columns)) (omega (arith, small.body)) }

abbrev pub BatchIsBack : RecordBatchTree → Type 0
BatchIsBack b = BatchRoundTrips (batch_tree b) (batch_head b) (columns_body b.columns)

abbrev pub DictionaryIsBack : DictionaryBatchTree → Type 0
DictionaryIsBack p = DictionaryRoundTrips p.0 p.1.0 (batch_tree (one_column p.1.1)) (dictionary_head p) (columns_body (p.1.1 ∷ []))

pub batch_is_back : (b : RecordBatchTree) → record_batch_error b ≡ None → BatchIsBack b
unfolding record_batch_error
batch_is_back b none =
    let small = is_small b.columns b.rows (batch_head b) none in
    batch_round_trips (batch_tree b) (columns_body b.columns) (tree_fits b (batch_head b) small) small.body (all_in_body (buffers_of (written_arrays b.columns))) small.size

pub dictionary_is_back : (p : DictionaryBatchTree) → FitsSigned w64 p.1.0 → dictionary_error p ≡ None → DictionaryIsBack p
unfolding dictionary_error
dictionary_is_back p id none =
    let small = is_small (p.1.1 ∷ []) (len p.1.1) (dictionary_head p) none in
    dictionary_round_trips p.0 p.1.0 (batch_tree (one_column p.1.1)) (columns_body (p.1.1 ∷ [])) id (tree_fits (one_column p.1.1) (dictionary_head p) small) small.body (all_in_body (buffers_of (written_arrays (p.1.1 ∷ [])))) small.size

pub each_is_back : (ps : List DictionaryBatchTree) → AllByRecursion (λ p. FitsSigned w64 p.1.0) ps → each_error dictionary_error ps ≡ None → AllByRecursion DictionaryIsBack ps
each_is_back [] ids none = tt
each_is_back (p ∷ ps) ids none =
    (dictionary_is_back p ids.0 (first_accepts (dictionary_error p) (each_error dictionary_error ps) none), each_is_back ps ids.1 (others_accept (dictionary_error p) (each_error dictionary_error ps) none))

-- ---- so they can be compressed

said : (delta : Bool) → nat_lt 0 (delta_byte delta) ≡ delta
said true = refl
said false = refl

batch_readable : (b : RecordBatchTree) → BatchIsBack b → IsReadable (batch_message_of b)
batch_readable b back = record {
  parts = back.parts;
  again = λ rest. ap message_at (append_assoc (batch_head b) (columns_body b.columns) rest) ∙ back.again rest;
  says = record { header = ap (λ (kind : MessageKind). header_by_kind kind back.parts) back.kind ∙ rw back.same_batch refl; body = back.same_body };
}

dictionary_readable : (p : DictionaryBatchTree) → DictionaryIsBack p → IsReadable (dictionary_message_of p)
unfolding dictionary_header_in
dictionary_readable p back = record {
  parts = back.parts;
  again = λ rest. ap message_at (append_assoc (dictionary_head p) (columns_body (p.1.1 ∷ [])) rest) ∙ back.again rest;
  says = record { header = ap (λ (kind : MessageKind). header_by_kind kind back.parts) back.kind ∙ rw (back.visited, back.same_id, back.batch_place, back.same_delta, back.same_batch, said p.0) refl; body = back.same_body };
}

pub plain_messages : (ps : List DictionaryBatchTree) (b : RecordBatchTree) → AllByRecursion DictionaryIsBack ps → BatchIsBack b → ArePlainMessages (messages_of ps b) (flat_map dictionary_bytes ps ++ batch_bytes b)
unfolding batch_bytes dictionary_bytes
plain_messages [] b back last = record { bytes_are = bytes; readable = (batch_readable b last, tt) }
  where
    bytes : batch_bytes b ≡ flat_map plain_bytes (batch_message_of b ∷ [])
    bytes = sym (flat_map-cons plain_bytes (batch_message_of b) [] ∙ append-nil (batch_bytes b))
plain_messages (p ∷ ps) b back last =
    let others = plain_messages ps b back.1 last in
    record {
      bytes_are =
          ap (λ (x : List ℕ). x ++ batch_bytes b) (flat_map-cons dictionary_bytes p ps) ∙ append_assoc (dictionary_bytes p) (flat_map dictionary_bytes ps) (batch_bytes b) ∙ ap (λ (x : List ℕ). dictionary_bytes p ++ x) others.bytes_are
          ∙ sym (flat_map-cons plain_bytes (dictionary_message_of p) (messages_of ps b));
      readable = (dictionary_readable p back.0, others.readable);
    }

-- ---- compressed buffers decode to their contents

decoded : (buffers contents : List (List ℕ)) → AreWrittenBuffers buffers contents → AreDecodedTo Lz4Frame buffers contents
decoded [] [] are = tt
decoded [] (c ∷ contents) are = absurd are
decoded (b ∷ buffers) [] are = absurd are
decoded (b ∷ buffers) (c ∷ contents) are = (are.0.decodes, decoded buffers contents are.1)

is_flagged : (n i : ℕ) → i < n → is_needed_at (replicate n true) i ≡ true
is_flagged zero i lt = absurd (omega (arith, lt))
is_flagged (suc n) zero lt = refl
is_flagged (suc n) (suc i) lt = is_flagged n i (omega (arith, lt))

all_contents : (n i : ℕ) (contents : List (List ℕ)) → i + length contents ≤ n → needed_contents (replicate n true) i contents ≡ contents
unfolding needed_contents
all_contents n i [] le = refl
all_contents n i (c ∷ contents) le = rw (is_flagged n i (omega (arith, le)), all_contents n (i + 1) contents (omega (arith, le))) refl

as_long : (buffers contents : List (List ℕ)) → AreWrittenBuffers buffers contents → length buffers ≡ length contents
as_long [] [] are = refl
as_long [] (c ∷ contents) are = absurd are
as_long (b ∷ buffers) [] are = absurd are
as_long (b ∷ buffers) (c ∷ contents) are = ap suc (as_long buffers contents are.1)

specs_long : (offset : ℕ) (buffers : List (List ℕ)) → length (buffer_specs offset buffers) ≡ length buffers
unfolding buffer_specs
specs_long offset [] = refl
specs_long offset (b ∷ buffers) = ap suc (specs_long (offset + length (padded b)) buffers)

flagged : (buffers : List BufferSpec) → all_needed buffers ≡ replicate (length buffers) true
flagged [] = refl
flagged (b ∷ buffers) = ap (λ (fs : List Bool). true ∷ fs) (flagged buffers)

-- the plain body of compressed buffers is the body without compression
plain_is : (buffers contents : List (List ℕ)) → AreWrittenBuffers buffers contents → spec_plain_body Lz4Frame (body_of buffers) (buffer_specs 0 buffers) (replicate (length (buffer_specs 0 buffers)) true) ≡ Ok (buffer_specs 0 contents, body_of contents)
plain_is buffers contents are =
    let n : ℕ = length (buffer_specs 0 buffers) in
    let long : n ≡ length contents = specs_long 0 buffers ∙ as_long buffers contents are in
    let all : needed_contents (replicate n true) 0 contents ≡ contents = all_contents n 0 contents (omega (arith, long)) in
    reads_as_contents Lz4Frame buffers contents (replicate n true) (decoded buffers contents are) ∙ ap (λ (cs : List (List ℕ)). Ok (buffer_specs 0 cs, body_of cs)) all

-- ---- a message is read by its kind

by_kind : (s : StateTree) (m : MessageModel) (kind : MessageKind) → m.root.version ≡ V5 → m.root.kind ≡ kind → message_in s m ≡ message_by_kind kind s m
unfolding message_in
by_kind s m kind version is = ap (λ (v : MetadataVersion). allowed v) version ∙ ap (λ (k : MessageKind). message_by_kind k s m) is
  where
    allowed : MetadataVersion → Result (Option RecordBatchTree × StateTree) IpcReadError
    allowed v = spec_check_projected_version v s.picked.schema.fields s.picked.steps >>= λ read. message_by_kind m.root.kind s m

message_read : (s : StateTree) (bytes rest : List ℕ) (m : MessageModel) → message_at bytes ≡ Ok (Some m, rest) → next_in s bytes ≡ (message_in s m >>= λ x. or_next next_in x.0 x.1 rest)
message_read s bytes rest m found = by_message s bytes ∙ rw found refl

-- ---- record batches

none_viewed : (fields : List FieldTree) → list_any spec_has_views (read_actions fields) ≡ false
none_viewed [] = refl
none_viewed (f ∷ fields) = none_viewed fields

steps_same : (fields : List FieldTree) → read_actions fields ≡ every_column (map field_type fields)
steps_same [] = refl
steps_same (f ∷ fields) = ap (λ (steps : List FieldAction). Read ∷ steps) (steps_same fields)

pub batch_alike : (b : RecordBatchTree) (buffers : List (List ℕ)) (plain m : MessageModel) (s : StateTree) → AreWrittenBuffers buffers (buffers_of (written_arrays b.columns)) → AllByRecursion IsArray b.columns
    → batch_in plain ≡ Ok (batch_tree b) → plain.body ≡ columns_body b.columns → batch_in m ≡ Ok (metadata_with (batch_message_of b) (Some Lz4Frame) buffers) → m.body ≡ body_of buffers
    → s.picked.steps ≡ read_actions s.picked.schema.fields → reads_as_stored s.picked.arrays ≡ true → spec_are_columns (column_types s.picked.schema) b.rows b.columns ≡ true → record_batch_in s m ≡ record_batch_in s plain
unfolding record_batch_in
batch_alike b buffers plain m s written arrays plain_batch plain_body batch body steps stored columns =
    let contents : List (List ℕ) = buffers_of (written_arrays b.columns) in
    let fields : List FieldTree = s.picked.schema.fields in
    let types : List TypeTree = column_types s.picked.schema in
    let specs : List BufferSpec = buffer_specs 0 buffers in
    let long : length specs ≡ length contents = specs_long 0 buffers ∙ as_long buffers contents written in
    let same : types ≡ map layout_type b.columns = types_are types b.rows b.columns columns in
    let needed : spec_needed_buffers (read_actions fields) types [] specs ≡ Ok (replicate (length specs) true) =
    ap (λ (steps : List FieldAction). spec_needed_buffers steps types [] specs) (steps_same fields) ∙ ap (λ (ts : List TypeTree). spec_needed_buffers (every_column ts) ts [] specs) same ∙ all_are_needed b.columns specs [] arrays long in
    rw (batch, plain_batch, steps, none_viewed fields, no_views s.picked.arrays stored, stored, body, plain_body, needed, plain_is buffers contents written) refl

abbrev ReadsBatch : StateTree → RecordBatchTree → Type 0
ReadsBatch s b = ReadsColumns s.picked [] b

pub next_batch_alike : (b : RecordBatchTree) (bytes rest : List ℕ) (s : StateTree) → BatchIsBack b → IsCompressedMessage (batch_message_of b) bytes → AllByRecursion IsArray b.columns → s.picked.steps ≡ read_actions s.picked.schema.fields → reads_as_stored s.picked.arrays ≡ true
    → spec_are_columns (column_types s.picked.schema) b.rows b.columns ≡ true → next_in s (bytes ++ rest) ≡ next_in s (batch_bytes b ++ rest)
unfolding batch_bytes
next_batch_alike b bytes rest s back compressed arrays steps stored columns =
    let again = compressed.again in
    let found : message_at (bytes ++ rest) ≡ Ok (Some again.parts, rest) = ap (λ (x : List ℕ). message_at (x ++ rest)) compressed.bytes_are ∙ ap message_at (append_assoc _ (body_of compressed.buffers) rest) ∙ again.again rest in
    let plain : message_at (batch_bytes b ++ rest) ≡ Ok (Some back.parts, rest) = ap message_at (append_assoc (batch_head b) (columns_body b.columns) rest) ∙ back.again rest in
    let alike : record_batch_in s again.parts ≡ record_batch_in s back.parts = batch_alike b compressed.buffers back.parts again.parts s compressed.written arrays back.same_batch back.same_body again.same_batch again.same_body steps stored columns in
    let read : message_in s again.parts ≡ message_in s back.parts =
    by_kind s again.parts RecordBatch again.version again.kind ∙ ap (λ (r : Result RecordBatchTree IpcReadError). r >>= λ batch. Ok (Some batch, s)) alike ∙ sym (by_kind s back.parts RecordBatch back.version back.kind) in
    message_read s (bytes ++ rest) rest again.parts found ∙ ap (λ (r : Result (Option RecordBatchTree × StateTree) IpcReadError). r >>= λ x. or_next next_in x.0 x.1 rest) read ∙ sym (message_read s (batch_bytes b ++ rest) rest back.parts plain)

-- ---- dictionary batches

dictionary_alike : (p : DictionaryBatchTree) (buffers : List (List ℕ)) (head : List ℕ) (once : Bool) (s : StateTree) → AreWrittenBuffers buffers (buffers_of (written_arrays (p.1.1 ∷ []))) → (back : DictionaryIsBack p) → (again : DictionaryRoundTrips p.0 p.1.0 (metadata_with (dictionary_message_of p) (Some Lz4Frame) buffers) head (body_of buffers))
    → IsNamed s.picked.seen.named p.1 → spec_check_order once p.0 (is_some (known_at s.known p.1.0)) ≡ Ok tt → dictionary_in once s again.parts ≡ dictionary_in once s back.parts
unfolding dictionary_in data_in
dictionary_alike p buffers head once s written back again named comes =
    let contents : List (List ℕ) = buffers_of (written_arrays (p.1.1 ∷ [])) in
    let v : ValueTypeModel = values_of named.id p.1.1 in
    let there : Bool = is_some (known_at s.known p.1.0) in
    let first : data_in once there again.parts.metadata again.table ≡ Ok (again.position, p.0) = rw (again.batch_place, again.same_delta, said p.0, comes) refl in
    let other : data_in once there back.parts.metadata back.table ≡ Ok (back.position, p.0) = rw (back.batch_place, back.same_delta, said p.0, comes) refl in
    rw (again.visited, back.visited, again.same_id, back.same_id, named.values, first, other, again.same_batch, back.same_batch, no_views (stored_arrays v.values) named.stored, named.stored, again.same_body, back.same_body, flagged (buffer_specs 0 buffers), plain_is buffers contents written) refl

-- also if its order is an error
refused_alike : (p : DictionaryBatchTree) (buffers : List (List ℕ)) (head : List ℕ) (once : Bool) (s : StateTree) (f : IpcReadError) → (back : DictionaryIsBack p) → (again : DictionaryRoundTrips p.0 p.1.0 (metadata_with (dictionary_message_of p) (Some Lz4Frame) buffers) head (body_of buffers)) → IsNamed s.picked.seen.named p.1
    → spec_check_order once p.0 (is_some (known_at s.known p.1.0)) ≡ Err f → dictionary_in once s again.parts ≡ dictionary_in once s back.parts
unfolding dictionary_in data_in
refused_alike p buffers head once s f back again named comes =
    let there : Bool = is_some (known_at s.known p.1.0) in
    let first : data_in once there again.parts.metadata again.table ≡ Err f = rw (again.batch_place, again.same_delta, said p.0, comes) refl in
    let other : data_in once there back.parts.metadata back.table ≡ Err f = rw (back.batch_place, back.same_delta, said p.0, comes) refl in
    rw (again.visited, back.visited, again.same_id, back.same_id, named.values, first, other) refl

pub dictionary_same : (p : DictionaryBatchTree) (buffers : List (List ℕ)) (head : List ℕ) (once : Bool) (s : StateTree) → AreWrittenBuffers buffers (buffers_of (written_arrays (p.1.1 ∷ []))) → (back : DictionaryIsBack p) → (again : DictionaryRoundTrips p.0 p.1.0 (metadata_with (dictionary_message_of p) (Some Lz4Frame) buffers) head (body_of buffers))
    → IsNamed s.picked.seen.named p.1 → dictionary_in once s again.parts ≡ dictionary_in once s back.parts
dictionary_same p buffers head once s written back again named = by (spec_check_order once p.0 (is_some (known_at s.known p.1.0))) refl
  where
    by : (order : Result (Unit {0}) IpcReadError) → spec_check_order once p.0 (is_some (known_at s.known p.1.0)) ≡ order → dictionary_in once s again.parts ≡ dictionary_in once s back.parts
    by (Ok tt) comes = dictionary_alike p buffers head once s written back again named comes
    by (Err f) comes = refused_alike p buffers head once s f back again named comes

-- a dictionary batch leaves the projection as it is
passed : {A B : Type 0} (r : Result A IpcReadError) (f : A → Result B IpcReadError) (y : B) → (r >>= f) ≡ Ok y → (x : A) × (r ≡ Ok x) × (f x ≡ Ok y)
passed (Ok x) f y h = (x, refl, h)
passed (Err e) f y h = cc

state_is : (s t : StateTree) → ◌≡◌ {A = Result StateTree IpcReadError} (Ok s) (Ok t) → s ≡ t
state_is s t h = cc

values_keep : (delta : Bool) (s t : StateTree) (id : ℤ) (values : Layout) → spec_with_values delta s id values ≡ Ok t → t.picked ≡ s.picked
values_keep false s t id values h = ap (λ (x : StateTree). x.picked) (sym (state_is (with_new s id values) t h))
values_keep true s t id values h =
    let fresh = passed _ (λ is_fresh. spec_joined_values (known_at s.known id) values >>= λ joined. Ok (with_delta s id joined)) t h in
    let joined = passed (spec_joined_values (known_at s.known id) values) (λ all. Ok (with_delta s id all)) t fresh.2 in
    ap (λ (x : StateTree). x.picked) (sym (state_is (with_delta s id joined.0) t joined.2))

found_keeps : (s t : StateTree) (id : ℤ) (found : Option (Bool × Layout)) → with_found s id found ≡ Ok t → t.picked ≡ s.picked
found_keeps s t id None h = ap (λ (x : StateTree). x.picked) (sym (state_is s t h))
found_keeps s t id (Some new) h = values_keep new.0 s t id new.1 h

pub dictionary_keeps : (once : Bool) (s t : StateTree) (m : MessageModel) → dictionary_in once s m ≡ Ok t → t.picked ≡ s.picked
unfolding dictionary_in
dictionary_keeps once s t m h =
    let table = passed {A = FlatbufferTable × ℕ} (spec_read_table m.metadata m.root.header m.root.left) (λ x. field (signed_at w64 m.metadata) (pos 0) m.metadata x.0 0 >>= λ id. found_in once s m x.0 x.1 id >>= with_found s id) t h in
    let id = passed {A = ℤ} (field (signed_at w64 m.metadata) (pos 0) m.metadata table.0.0 0) (λ id. found_in once s m table.0.0 table.0.1 id >>= with_found s id) t table.2 in
    let found = passed {A = Option (Bool × Layout)} (found_in once s m table.0.0 table.0.1 id.0) (with_found s id.0) t id.2 in
    found_keeps s t id.0 found.0 found.2

then_alike : {A : Type 0} (r : Result StateTree IpcReadError) (f g : StateTree → Result A IpcReadError) → ((t : StateTree) → r ≡ Ok t → f t ≡ g t) → (r >>= f) ≡ (r >>= g)
then_alike (Ok t) f g same = same t refl
then_alike (Err e) f g same = refl

-- a dictionary batch is no record batch
abbrev no_batch : StateTree → Result (Option RecordBatchTree × StateTree) IpcReadError
no_batch t = Ok (None, t)

next_dictionary_alike : (p : DictionaryBatchTree) (bytes first other : List ℕ) (s : StateTree) → (back : DictionaryIsBack p) → IsCompressedMessage (dictionary_message_of p) bytes → IsNamed s.picked.seen.named p.1 → p.0 ≡ false → ((t : StateTree) → t.picked ≡ s.picked → next_in t first ≡ next_in t other)
    → next_in s (bytes ++ first) ≡ next_in s (dictionary_bytes p ++ other)
unfolding dictionary_bytes
next_dictionary_alike p bytes first other s back compressed named whole behind =
    let again = compressed.again in
    let found : message_at (bytes ++ first) ≡ Ok (Some again.parts, first) = ap (λ (x : List ℕ). message_at (x ++ first)) compressed.bytes_are ∙ ap message_at (append_assoc _ (body_of compressed.buffers) first) ∙ again.again first in
    let plain : message_at (dictionary_bytes p ++ other) ≡ Ok (Some back.parts, other) = ap message_at (append_assoc (dictionary_head p) (columns_body (p.1.1 ∷ [])) other) ∙ back.again other in
    let comes : spec_check_order false p.0 (is_some (known_at s.known p.1.0)) ≡ Ok tt = rw whole refl in
    let alike : dictionary_in false s again.parts ≡ dictionary_in false s back.parts = dictionary_alike p compressed.buffers _ false s compressed.written back again named comes in
    let read : (rest : List ℕ) (m : MessageModel) → m.root.version ≡ V5 → m.root.kind ≡ DictionaryBatch → (message_in s m >>= λ x. or_next next_in x.0 x.1 rest) ≡ (dictionary_in false s m >>= λ t. next_in t rest) =
    λ rest m version kind. ap (λ (r : Result (Option RecordBatchTree × StateTree) IpcReadError). r >>= λ x. or_next next_in x.0 x.1 rest) (by_kind s m DictionaryBatch version kind) ∙ known_then (dictionary_in false s m) rest in
    message_read s (bytes ++ first) first again.parts found ∙ read first again.parts again.version again.kind ∙ ap (λ (r : Result StateTree IpcReadError). r >>= λ t. next_in t first) alike
    ∙ then_alike (dictionary_in false s back.parts) (λ t. next_in t first) (λ t. next_in t other) (λ t is. behind t (dictionary_keeps false s t back.parts is))
    ∙ sym (read other back.parts back.version back.kind) ∙ sym (message_read s (dictionary_bytes p ++ other) other back.parts plain)
  where
    known_then : (r : Result StateTree IpcReadError) (rest : List ℕ) → ((r >>= no_batch) >>= λ x. or_next next_in x.0 x.1 rest) ≡ (r >>= λ t. next_in t rest)
    known_then (Ok t) rest = refl
    known_then (Err e) rest = refl

-- ---- a record batch after its dictionary batches

reads_others : (q : ProjectedSchemaModel) (p : DictionaryBatchTree) (ps : List DictionaryBatchTree) (b : RecordBatchTree) → ReadsColumns q (p ∷ ps) b → ReadsColumns q ps b
reads_others q p ps b reads = record { steps = reads.steps; arrays = reads.arrays; columns = reads.columns; named = reads.named.1 }

pub part_alike : (ps : List DictionaryBatchTree) (b : RecordBatchTree) (bytes rest : List ℕ) (s : StateTree) → AreCompressedMessages (messages_of ps b) bytes → AllByRecursion DictionaryIsBack ps → AllByRecursion (λ p. p.0 ≡ false) ps → BatchIsBack b → AllByRecursion IsArray b.columns → ReadsColumns s.picked ps b
    → next_in s (bytes ++ rest) ≡ next_in s ((flat_map dictionary_bytes ps ++ batch_bytes b) ++ rest)
part_alike [] b bytes rest s are back whole last arrays reads =
    let only : bytes ≡ are.0 = are.4 ∙ ap (λ (x : List ℕ). are.0 ++ x) are.3 ∙ append-nil are.0 in
    ap (λ (x : List ℕ). next_in s (x ++ rest)) only ∙ next_batch_alike b are.0 rest s last are.2 arrays reads.steps reads.arrays reads.columns
part_alike (p ∷ ps) b bytes rest s are back whole last arrays reads =
    let others : List ℕ = flat_map dictionary_bytes ps ++ batch_bytes b in
    let split : bytes ++ rest ≡ are.0 ++ (are.1 ++ rest) = ap (λ (x : List ℕ). x ++ rest) are.4 ∙ append_assoc are.0 are.1 rest in
    let plain : (flat_map dictionary_bytes (p ∷ ps) ++ batch_bytes b) ++ rest ≡ dictionary_bytes p ++ (others ++ rest) =
    ap (λ (x : List ℕ). (x ++ batch_bytes b) ++ rest) (flat_map-cons dictionary_bytes p ps) ∙ ap (λ (x : List ℕ). x ++ rest) (append_assoc (dictionary_bytes p) (flat_map dictionary_bytes ps) (batch_bytes b)) ∙ append_assoc (dictionary_bytes p) others rest in
    ap (next_in s) split
    ∙ next_dictionary_alike p are.0 (are.1 ++ rest) (others ++ rest) s back.0 are.2 reads.named.0 whole.0
    (λ t same. part_alike ps b are.1 rest t are.3 back.1 whole.1 last arrays (subst (λ (q : ProjectedSchemaModel). ReadsColumns q ps b) (sym same) (reads_others s.picked p ps b reads)))
    ∙ ap (next_in s) (sym plain)
