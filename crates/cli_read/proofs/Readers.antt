-- Remaining record batches of readers.
use Rattle.std.proofs.Common.{◌≡◌, ◌<◌, ◌≤◌, ℕ, suc, ◌+◌, List, [], ◌∷◌, length, take, drop, get_or, Option, Some, None, Result, Ok, Err, refl, sym, ap, subst, ◌∙◌, arith}
use Rattle.std.specs.Prelude.{if◌then◌else◌}
use Rattle.std.specs.Option.{option_map}
use Rattle.std.specs.Io.KnownBytes.{Keeps}
use Rattle.std.proofs.lemmas.List.{drop_all, drop_more}
use Rattle.ipc_flatbuf.specs.ReadResults.{◌>>=◌}
use Rattle.ipc_flatbuf.specs.declared.error.IpcReadError as formats
use Rattle.ipc_schema.specs.Projections.{ProjectionModel}
use Rattle.ipc_schema.specs.Schemas.{SchemaModel}
use Rattle.ipc_schema.specs.declared.footer.types.Block.{Block}
use Rattle.ipc.specs.declared.batch.Batch.{Batch}
use Rattle.ipc.specs.Streams.{RecordBatchTree, StateTree, record_batch_of}
use Rattle.ipc.specs.SliceStreamReaders.{SliceStreamReaderTree, before, next_of}
use Rattle.ipc.specs.Files.{batch_of_file, batches_at, block_batch_in, file_reader_in, no_block}
use Rattle.ipc_io.specs.declared.error.ReadError.{ReadError}
use Rattle.ipc_io.specs.declared.error.ReadError.TheVariants.{Ipc as Unread, Io}
use Rattle.ipc_io.specs.FileReaders.{DecodesAs as Read, FileReaderTree, as_batch, bytes_of, of_bytes}
use Rattle.ipc_io.specs.StreamReaders.{StreamReaderTree, FailsNext as FailsReaderNext, ReadsNext, Opens, DecodesNext, DecodesReader, as_slice_reader}
use Rattle.cli_read.specs.Decoded.{first_of_stream, file_contents, stream_contents}
use Rattle.cli_rows.specs.Errors.{read_error}
use Rattle.cli_read.proofs.FileBatches as files
use Rattle.cli_read.proofs.StreamBatches as streams
use Rattle.cli_read.specs.Remaining.{FailsToReadNext, ReturnsNext, StartsEmpty, IsOpened, Advances, remaining_in_file, remaining_in_stream, with_schema}
use Rattle.cli_read.specs.Readers.{remaining_batches}
use Rattle.cli_read.specs.declared.reader.BatchReader.{BatchReader}
use Rattle.cli_read.specs.declared.reader.BatchReader.TheVariants.{File, Stream}

step-of : (u v : SliceStreamReaderTree) (next : Option RecordBatchTree) → next_of u ≡ Ok (next, v) → Advances (remaining_in_stream u) (remaining_in_stream v) next
step-of u v None is = streams.whole-step u v None is
step-of u v (Some b) is = (
  streams.first-zero v,
  λ k. let e : k + 1 ≡ suc k = omega arith in ap (λ n. first_of_stream n u) e ∙ streams.first-step k u v (Some b) is,
  streams.whole-step u v (Some b) is,
)

pub stream-next : (u v : Option SliceStreamReaderTree) (next : Option RecordBatchTree) → DecodesNext u v next → ReturnsNext (option_map remaining_in_stream u) (option_map remaining_in_stream v) next
stream-next None v next h = tt
stream-next (Some u) None next h = absurd h
stream-next (Some u) (Some v) next h = step-of u v next h

stream-error : (error : formats.IpcReadError) (u : Option SliceStreamReaderTree) → FailsReaderNext error u → FailsToReadNext (read_error (Unread error)) (option_map remaining_in_stream u)
stream-error error None h = tt
stream-error error (Some u) h = λ real. streams.first-fails 0 u error (h real)

module _ {R : Type 0} (remaining : R → Option (List ℕ)) where
  pub stream-fails : (old new : StreamReaderTree R) (e : ReadError) → ReadsNext remaining old new (Err e) → FailsToReadNext (read_error e) (option_map remaining_in_stream (as_slice_reader remaining old))
  stream-fails old new (Unread error) goes = stream-error error (as_slice_reader remaining old) goes.0
  stream-fails old new (Io e) goes = no-error (as_slice_reader remaining old)
    where
      no-error : (u : Option SliceStreamReaderTree) → FailsToReadNext (read_error (Io e)) (option_map remaining_in_stream u)
      no-error None = tt
      no-error (Some u) = tt

opened : (picks : ProjectionModel) (known : Option (List ℕ)) (u : Option SliceStreamReaderTree) (s : SchemaModel) → DecodesReader picks known u → ((t : SliceStreamReaderTree) → u ≡ Some t → s ≡ t.state.picked.schema) → IsOpened (option_map (stream_contents picks) known) s (option_map remaining_in_stream u)
opened picks None u s h same = tt
opened picks (Some bytes) None s h same = absurd h
opened picks (Some bytes) (Some t) s h same = streams.spelled-is picks bytes t h ∙ ap (λ (x : SchemaModel). with_schema x (remaining_in_stream t)) (sym (same t refl))

module _ {R : Type 0} (remaining : R → Option (List ℕ)) where
  pub stream-opened : (picks : ProjectionModel) (device : R) (r : StreamReaderTree R) → Opens remaining picks device (Ok r) → IsOpened (option_map (stream_contents picks) (remaining device)) r.state.picked.schema (option_map remaining_in_stream (as_slice_reader remaining r))
  stream-opened picks device r h =
      opened picks (remaining device) (as_slice_reader remaining r) r.state.picked.schema h
      (λ t e. ap (λ (x : StateTree). x.picked.schema) (streams.state-of r.state (if r.over then Some [] else remaining r.inner) t e))

none-at : (s : StateTree) (xs : List ℕ) (blocks : List Block) → batches_at s xs (take 0 blocks) ≡ Ok []
unfolding batches_at
none-at s xs blocks = refl

no-blocks : (s : StateTree) (xs : List ℕ) → batches_at s xs [] ≡ Ok []
unfolding batches_at
no-blocks s xs = refl

fails-first : (s : StateTree) (xs : List ℕ) (x : Block) (blocks : List Block) (k : ℕ) (error : formats.IpcReadError) → block_batch_in s xs x ≡ Err error → batches_at s xs (take (k + 1) (x ∷ blocks)) ≡ Err error
unfolding batches_at
fails-first s xs x blocks k error e =
    let more : k + 1 ≡ suc k = omega arith in
    ap (λ n. batches_at s xs (take n (x ∷ blocks))) more ∙ ap (λ (one : Result RecordBatchTree formats.IpcReadError). one >>= λ b. batches_at s xs (take k blocks) >>= λ others. Ok (b ∷ others)) e

first-at-step : (s : StateTree) (xs : List ℕ) (x : Block) (blocks : List Block) (k : ℕ) (b : RecordBatchTree) → block_batch_in s xs x ≡ Ok b → batches_at s xs (take (k + 1) (x ∷ blocks)) ≡ before (Some b) (batches_at s xs (take k blocks))
unfolding batches_at
first-at-step s xs x blocks k b e =
    let more : k + 1 ≡ suc k = omega arith in
    ap (λ n. batches_at s xs (take n (x ∷ blocks))) more ∙ ap (λ (one : Result RecordBatchTree formats.IpcReadError). one >>= λ c. batches_at s xs (take k blocks) >>= λ others. Ok (c ∷ others)) e

whole-at-step : (s : StateTree) (xs : List ℕ) (x : Block) (blocks : List Block) (b : RecordBatchTree) → block_batch_in s xs x ≡ Ok b → batches_at s xs (x ∷ blocks) ≡ before (Some b) (batches_at s xs blocks)
unfolding batches_at
whole-at-step s xs x blocks b e = ap (λ (one : Result RecordBatchTree formats.IpcReadError). one >>= λ c. batches_at s xs blocks >>= λ others. Ok (c ∷ others)) e

step-at : (s : StateTree) (xs : List ℕ) (blocks : List Block) (k : ℕ) (b : RecordBatchTree) → k < length blocks → block_batch_in s xs (get_or blocks k no_block) ≡ Ok b → Advances (remaining_in_file s (drop k blocks) xs) (remaining_in_file s (drop (k + 1) blocks) xs) (Some b)
step-at s xs blocks k b h is =
    let front : drop k blocks ≡ get_or blocks k no_block ∷ drop (k + 1) blocks = drop_more blocks k no_block h in (
      none-at s xs (drop (k + 1) blocks),
      λ m. ap (λ (l : List Block). batches_at s xs (take (m + 1) l)) front ∙ first-at-step s xs (get_or blocks k no_block) (drop (k + 1) blocks) m b is,
      ap (λ (l : List Block). batches_at s xs l) front ∙ whole-at-step s xs (get_or blocks k no_block) (drop (k + 1) blocks) b is,
    )

abbrev Gave : StateTree → List Block → ℕ → Option (List ℕ) → Result Batch ReadError → Type 0
Gave s blocks k known result = Read as_batch (λ ys. batch_of_file (record { state = s; bytes = ys; blocks = blocks }) k) known result

same-steps : (s r : StateTree) (blocks others : List Block) (k : ℕ) (xs ys : List ℕ) (b : RecordBatchTree) → r ≡ s → others ≡ blocks → ys ≡ xs → Advances (remaining_in_file s (drop k blocks) xs) (remaining_in_file s (drop (k + 1) blocks) xs) (Some b)
    → Advances (remaining_in_file s (drop k blocks) xs) (remaining_in_file r (drop (k + 1) others) ys) (Some b)
same-steps s r blocks others k xs ys b is bs same h =
    subst (λ (z : StateTree). Advances (remaining_in_file s (drop k blocks) xs) (remaining_in_file z (drop (k + 1) others) ys) (Some b)) (sym is)
    (subst (λ (z : List Block). Advances (remaining_in_file s (drop k blocks) xs) (remaining_in_file s (drop (k + 1) z) ys) (Some b)) (sym bs)
    (subst (λ (z : List ℕ). Advances (remaining_in_file s (drop k blocks) xs) (remaining_in_file s (drop (k + 1) blocks) z) (Some b)) (sym same) h))

pub file-next : (s r : StateTree) (blocks others : List Block) (k : ℕ) (known now : Option (List ℕ)) (batch : Batch) → k < length blocks → r ≡ s → others ≡ blocks → Keeps known now → Gave s blocks k known (Ok batch)
    → ReturnsNext (option_map (remaining_in_file s (drop k blocks)) known) (option_map (remaining_in_file r (drop (k + 1) others)) now) (Some (record_batch_of batch))
file-next s r blocks others k None now batch h is bs kept gave = tt
file-next s r blocks others k (Some xs) None batch h is bs kept gave = absurd kept
file-next s r blocks others k (Some xs) (Some ys) batch h is bs kept gave = same-steps s r blocks others k xs ys (record_batch_of batch) is bs kept (step-at s xs blocks k (record_batch_of batch) h gave)

pub file-end : (s : StateTree) (blocks : List Block) (k : ℕ) (known : Option (List ℕ)) → length blocks ≤ k → ReturnsNext (option_map (remaining_in_file s (drop k blocks)) known) (option_map (remaining_in_file s (drop k blocks)) known) None
file-end s blocks k None h = tt
file-end s blocks k (Some xs) h = ap (λ (l : List Block). batches_at s xs l) (drop_all k blocks h) ∙ no-blocks s xs

pub file-fails : (s : StateTree) (blocks : List Block) (k : ℕ) (known : Option (List ℕ)) (e : ReadError) → k < length blocks → Gave s blocks k known (Err e) → FailsToReadNext (read_error e) (option_map (remaining_in_file s (drop k blocks)) known)
file-fails s blocks k None e h gave = tt
file-fails s blocks k (Some xs) (Unread error) h gave = λ real.
    ap (λ (l : List Block). batches_at s xs (take 1 l)) (drop_more blocks k no_block h) ∙ fails-first s xs (get_or blocks k no_block) (drop (k + 1) blocks) 0 error (gave real)
file-fails s blocks k (Some xs) (Io e) h gave = tt

pub file-opened : {R : Type 0} (picks : ProjectionModel) (known now : Option (List ℕ)) (r : FileReaderTree R) → Read of_bytes (file_reader_in picks) known (Ok r) → Keeps known now
    → IsOpened (option_map (file_contents picks) known) r.state.picked.schema (option_map (remaining_in_file r.state r.blocks) now)
file-opened picks None now r h kept = tt
file-opened picks (Some xs) None r h kept = absurd kept
file-opened picks (Some xs) (Some ys) r h kept = files.spelled-is picks xs (of_bytes xs r) h ∙ ap (λ (z : List ℕ). with_schema r.state.picked.schema (remaining_in_file r.state r.blocks z)) (sym kept)

fresh-reader : (u : Option SliceStreamReaderTree) → StartsEmpty (option_map remaining_in_stream u)
fresh-reader None = tt
fresh-reader (Some u) = streams.first-zero u

fresh-blocks : (s : StateTree) (blocks : List Block) (known : Option (List ℕ)) → StartsEmpty (option_map (remaining_in_file s blocks) known)
fresh-blocks s blocks None = tt
fresh-blocks s blocks (Some xs) = none-at s xs blocks

pub fresh : {R : Type 0} (remaining : R → Option (List ℕ)) (place : R → Option ℕ) (bytes : R → Option (List ℕ)) (s : BatchReader R) → StartsEmpty (remaining_batches remaining place bytes s)
fresh remaining place bytes (Stream reader) = fresh-reader (as_slice_reader remaining reader)
fresh remaining place bytes (File reader k) = fresh-blocks reader.state (drop k reader.blocks) (bytes_of place bytes reader.inner)
