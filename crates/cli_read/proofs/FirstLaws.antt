-- The first record batches, and all.
use Rattle.std.proofs.Common.{◌≡◌, Bool, ℕ, zero, suc, ◌-◌, List, [], ◌∷◌, length, take, drop, Option, Some, None, Result, Ok, Err, true, false, refl, sym, ap, subst, ◌∙◌, arith, take-append-drop}
use Rattle.std.specs.Prelude.{if◌then◌else◌}
use Rattle.ipc_flatbuf.specs.ReadResults.{◌>>=◌}
use Rattle.ipc_flatbuf.specs.declared.error.IpcReadError.{IpcReadError}
use Rattle.ipc_schema.specs.Projections.{ProjectionModel}
use Rattle.ipc_schema.specs.ProjectedSchemas.{ProjectedSchemaModel, stream_projected_schema_at}
use Rattle.ipc_schema.specs.Schemas.{SchemaModel}
use Rattle.ipc_schema.specs.declared.footer.types.Block.{Block}
use Rattle.ipc.specs.Streams.{RecordBatchTree, StateTree, batches_in, projected_stream_in, start}
use Rattle.ipc.specs.SliceStreamReaders.{SliceStreamReaderTree, batches_of, before, next_of, reader_in}
use Rattle.ipc.specs.ReaderLaws.{reader_step}
use Rattle.ipc.specs.Files.{SliceFileReaderTree, batches_at, batches_of_file, block_batch_in, file_reader_in, projected_file_in}
use Rattle.cli_args.specs.Requests.{RequestTree}
use Rattle.cli_rows.specs.Tables.{TableTree, decoded_table, table_of_file, table_of_stream, is_file_prefix}
use Rattle.cli_rows.specs.Output.{printed_text}
use Rattle.cli_read.specs.Decoded.{first_of_file, first_of_stream, table_with, file_contents, stream_contents}
use Rattle.cli_read.specs.Printed.{HasRowsToPrint}
use Rattle.cli_read.specs.RowBuffers.{table_of_batches}
use Rattle.cli_read.proofs.SelectedRows.{enough-is-all}

record AreFirst (k : ℕ) (first whole : Result (List RecordBatchTree) IpcReadError) : Type 0 where
  pub error : (error : IpcReadError) → first ≡ Err error → whole ≡ Err error
  pub some : (bs : List RecordBatchTree) → whole ≡ Ok bs → first ≡ Ok (take k bs)

none-first : (whole : Result (List RecordBatchTree) IpcReadError) → AreFirst 0 (Ok []) whole
none-first whole = record {
  error = λ error e. absurd cc;
  some = λ bs e. refl;
}

no-batch : (k : ℕ) → AreFirst k (Ok []) (Ok [])
no-batch zero = none-first (Ok [])
no-batch (suc k) = record {
  error = λ error e. absurd cc;
  some = λ bs e. grind (arith, e);
}

failed-first : (k : ℕ) (error : IpcReadError) → AreFirst k (Err error) (Err error)
failed-first k error = record {
  error = λ other e. e;
  some = λ bs e. absurd cc;
}

one-more : (k : ℕ) (b : RecordBatchTree) (first whole : Result (List RecordBatchTree) IpcReadError) → AreFirst k first whole → AreFirst (suc k) (before (Some b) first) (before (Some b) whole)
one-more k b (Ok bs) (Ok cs) h = record {
  error = λ error e. absurd cc;
  some = λ ds e. let same : bs ≡ take k cs = grind (arith, h.some cs refl) in let is : b ∷ cs ≡ ds = grind (arith, e) in ap (λ (l : List RecordBatchTree). Ok (b ∷ l)) same ∙ ap (λ (l : List RecordBatchTree). Ok (take (suc k) l)) is;
}
one-more k b (Ok bs) (Err error) h = record {
  error = λ other e. absurd cc;
  some = λ ds e. absurd cc;
}
one-more k b (Err error) whole h = record {
  error = λ other e. ap (before (Some b)) (h.error error refl) ∙ e;
  some = λ ds e. absurd (grind (arith, ap (before (Some b)) (h.error error refl), e));
}

first-of-all : (k : ℕ) (next : Result (Option RecordBatchTree × SliceStreamReaderTree) IpcReadError) → ((r : SliceStreamReaderTree) → AreFirst k (first_of_stream k r) (batches_of r))
    → AreFirst (suc k) (next >>= λ n. before n.0 (first_of_stream k n.1)) (next >>= λ n. before n.0 (batches_of n.1))
first-of-all k (Err error) others = failed-first (suc k) error
first-of-all k (Ok (None, r)) others = no-batch (suc k)
first-of-all k (Ok (Some b, r)) others = one-more k b (first_of_stream k r) (batches_of r) (others r)

of-stream : (k : ℕ) (r : SliceStreamReaderTree) → AreFirst k (first_of_stream k r) (batches_of r)
unfolding first_of_stream
of-stream zero r = none-first (batches_of r)
of-stream (suc k) r = subst (AreFirst (suc k) (first_of_stream (suc k) r)) (sym (reader_step r)) (first-of-all k (next_of r) (of-stream k))

first-of-file : (k : ℕ) (one : Result RecordBatchTree IpcReadError) (first whole : Result (List RecordBatchTree) IpcReadError) → AreFirst k first whole
    → AreFirst (suc k) (one >>= λ b. first >>= λ others. Ok (b ∷ others)) (one >>= λ b. whole >>= λ others. Ok (b ∷ others))
first-of-file k (Err error) first whole h = failed-first (suc k) error
first-of-file k (Ok b) first whole h = one-more k b first whole h

of-file : (k : ℕ) (s : StateTree) (bytes : List ℕ) (blocks : List Block) → AreFirst k (batches_at s bytes (take k blocks)) (batches_at s bytes blocks)
unfolding batches_at
of-file zero s bytes blocks = none-first (batches_at s bytes blocks)
of-file (suc k) s bytes [] = no-batch (suc k)
of-file (suc k) s bytes (b ∷ blocks) = first-of-file k (block_batch_in s bytes b) (batches_at s bytes (take k blocks)) (batches_at s bytes blocks) (of-file k s bytes blocks)

pub record AreFirstHeld (k : ℕ) (first whole : Result TableTree IpcReadError) : Type 0 where
  pub error : (error : IpcReadError) → first ≡ Err error → whole ≡ Err error
  pub some : (h : TableTree) → whole ≡ Ok h → first ≡ Ok (table_of_batches h.schema (take k h.batches))

held-first : (k : ℕ) (s : SchemaModel) (first whole : Result (List RecordBatchTree) IpcReadError) → AreFirst k first whole → AreFirstHeld k (table_with s first) (table_with s whole)
held-first k s (Ok bs) (Ok cs) h = record {
  error = λ error e. absurd cc;
  some = λ held e. let same : bs ≡ take k cs = grind (arith, h.some cs refl) in let is : table_of_batches s cs ≡ held = grind (arith, e) in ap (λ (l : List RecordBatchTree). Ok (table_of_batches s l)) same ∙ ap (λ (x : TableTree). Ok (table_of_batches x.schema (take k x.batches))) is;
}
held-first k s (Ok bs) (Err error) h = record {
  error = λ other e. absurd cc;
  some = λ held e. absurd cc;
}
held-first k s (Err error) whole h = record {
  error = λ other e. ap (table_with s) (h.error error refl) ∙ e;
  some = λ held e. absurd (grind (arith, ap (table_with s) (h.error error refl), e));
}

failed-held : (k : ℕ) (error : IpcReadError) → AreFirstHeld k (Err error) (Err error)
failed-held k error = record {
  error = λ other e. e;
  some = λ held e. absurd cc;
}

abbrev stream_of : SchemaModel → ℕ → Result (List RecordBatchTree × List ℕ) IpcReadError → Result TableTree IpcReadError
stream_of s size read = (read >>= λ x. Ok (record { schema = s; batches = x.0; read = size - length x.1 })) >>= λ stream. Ok (table_of_stream stream)

stream-held : (s : SchemaModel) (size : ℕ) (read : Result (List RecordBatchTree × List ℕ) IpcReadError) → stream_of s size read ≡ table_with s (read >>= λ x. Ok x.0)
stream-held s size (Ok x) = refl
stream-held s size (Err error) = refl

abbrev stream_behind : List ℕ → Result (ProjectedSchemaModel × List ℕ) IpcReadError → Result TableTree IpcReadError
stream_behind bytes read = (read >>= λ p. batches_in (start p.0) p.1 >>= λ x. Ok (record { schema = p.0.schema; batches = x.0; read = length bytes - length x.1 })) >>= λ stream. Ok (table_of_stream stream)

abbrev readers : Result (ProjectedSchemaModel × List ℕ) IpcReadError → Result SliceStreamReaderTree IpcReadError
readers read = read >>= λ p. Ok (record { state = start p.0; left = p.1 })

behind-schema : (bytes : List ℕ) (read : Result (ProjectedSchemaModel × List ℕ) IpcReadError) → stream_behind bytes read ≡ (readers read >>= λ r. table_with r.state.picked.schema (batches_of r))
behind-schema bytes (Ok p) = stream-held p.0.schema (length bytes) (batches_in (start p.0) p.1)
behind-schema bytes (Err error) = refl

pub stream-whole : (picks : ProjectionModel) (bytes : List ℕ) → (stream_contents picks bytes).whole ≡ (reader_in picks bytes >>= λ r. table_with r.state.picked.schema (batches_of r))
unfolding projected_stream_in reader_in
stream-whole picks bytes = behind-schema bytes (stream_projected_schema_at picks bytes)

file-held : (s : SchemaModel) (read : Result (List RecordBatchTree) IpcReadError) → ((read >>= λ bs. Ok (record { schema = s; batches = bs })) >>= λ f. Ok (table_of_file f)) ≡ table_with s read
file-held s (Ok bs) = refl
file-held s (Err error) = refl

file-behind : (read : Result SliceFileReaderTree IpcReadError)
    → ((read >>= λ r. batches_of_file r >>= λ bs. Ok (record { schema = r.state.picked.schema; batches = bs })) >>= λ f. Ok (table_of_file f)) ≡ (read >>= λ r. table_with r.state.picked.schema (batches_of_file r))
file-behind (Ok r) = file-held r.state.picked.schema (batches_of_file r)
file-behind (Err error) = refl

pub file-whole : (picks : ProjectionModel) (bytes : List ℕ) → (file_contents picks bytes).whole ≡ (file_reader_in picks bytes >>= λ r. table_with r.state.picked.schema (batches_of_file r))
unfolding projected_file_in
file-whole picks bytes = file-behind (file_reader_in picks bytes)

then-first : {A : Type 0} (b : Bool) (x y : A) → b ≡ true → x ≡ (if b then x else y)
then-first true x y e = refl
then-first false x y e = absurd cc

else-second : {A : Type 0} (b : Bool) (x y : A) → b ≡ false → y ≡ (if b then x else y)
else-second true x y e = absurd cc
else-second false x y e = refl

pub file-is-held : (picks : ProjectionModel) (bytes : List ℕ) → is_file_prefix bytes ≡ true → (file_contents picks bytes).whole ≡ decoded_table picks bytes
file-is-held picks bytes e = then-first (is_file_prefix bytes) (file_contents picks bytes).whole (stream_contents picks bytes).whole e

pub stream-is-held : (picks : ProjectionModel) (bytes : List ℕ) → is_file_prefix bytes ≡ false → (stream_contents picks bytes).whole ≡ decoded_table picks bytes
stream-is-held picks bytes e = else-second (is_file_prefix bytes) (file_contents picks bytes).whole (stream_contents picks bytes).whole e

stream-by : (k : ℕ) (read : Result SliceStreamReaderTree IpcReadError) → AreFirstHeld k (read >>= λ r. table_with r.state.picked.schema (first_of_stream k r)) (read >>= λ r. table_with r.state.picked.schema (batches_of r))
stream-by k (Ok r) = held-first k r.state.picked.schema (first_of_stream k r) (batches_of r) (of-stream k r)
stream-by k (Err error) = failed-held k error

file-by : (k : ℕ) (read : Result SliceFileReaderTree IpcReadError) → AreFirstHeld k (read >>= λ r. table_with r.state.picked.schema (first_of_file k r)) (read >>= λ r. table_with r.state.picked.schema (batches_of_file r))
file-by k (Ok r) = held-first k r.state.picked.schema (first_of_file k r) (batches_of_file r) (of-file k r.state r.bytes r.blocks)
file-by k (Err error) = failed-held k error

pub in-stream : (picks : ProjectionModel) (bytes : List ℕ) (k : ℕ) → AreFirstHeld k ((stream_contents picks bytes).first k) (stream_contents picks bytes).whole
in-stream picks bytes k = subst (AreFirstHeld k ((stream_contents picks bytes).first k)) (sym (stream-whole picks bytes)) (stream-by k (reader_in picks bytes))

pub in-file : (picks : ProjectionModel) (bytes : List ℕ) (k : ℕ) → AreFirstHeld k ((file_contents picks bytes).first k) (file_contents picks bytes).whole
in-file picks bytes k = subst (AreFirstHeld k ((file_contents picks bytes).first k)) (sym (file-whole picks bytes)) (file-by k (file_reader_in picks bytes))

pub enough-held : (q : RequestTree) (k : ℕ) (first whole : Result TableTree IpcReadError) (h : TableTree) → AreFirstHeld k first whole → whole ≡ Ok h → HasRowsToPrint q first → printed_text q first ≡ printed_text q (Ok h)
enough-held q k first whole h are is has =
    let e = are.some h is in
    let same = take-append-drop k h.batches in
    ap (printed_text q) e
    ∙ enough-is-all q h.schema (take k h.batches) (drop k h.batches) (subst (HasRowsToPrint q) e has)
    ∙ ap (λ (bs : List RecordBatchTree). printed_text q (Ok (table_of_batches h.schema bs))) same
