-- A reader of a file returns the record batches of the file in its bytes.
use Rattle.std.specs.Prelude.{◌≡◌, ◌<◌, ◌≤◌, ◌+◌, ◌++◌, ℕ, List, [], ◌∷◌, length, get_or, drop, Option, None, Some, Result, Ok, Err, refl}
use Rattle.std.proofs.Common.{ap, sym, ◌∙◌, subst, arith}
use Rattle.std.proofs.lemmas.List.{append-nil, drop_more, drop_all}
use Rattle.std.specs.Io.KnownBytes.{Keeps}
use Rattle.ipc_flatbuf.specs.ReadResults.{◌>>=◌, FailsOrRunsOut}
use Rattle.ipc_flatbuf.specs.declared.error.IpcReadError as read_errors
use Rattle.ipc_flatbuf.specs.declared.error.IpcReadError.TheVariants.{Memory}
use Rattle.ipc_schema.specs.Projections.{ProjectionModel}
use Rattle.ipc_schema.specs.declared.footer.types.Block.{Block}
use Rattle.ipc.specs.declared.batch.Batch.{Batch}
use Rattle.ipc.specs.Streams.{RecordBatchTree, StateTree, record_batch_of}
use Rattle.ipc.specs.Files.{SliceFileReaderTree, batch_of_file, block_batch_in, batches_of_file, batches_at, file_reader_in, projected_file_in, no_block}
use Rattle.ipc_io.specs.declared.error.ReadError.TheVariants.{Ipc}
use Rattle.ipc_io.specs.FileReaders.{DecodesAs, FileReaderTree, as_batch, of_bytes, bytes_of, OpensFile, ReadsBatch, IsUnchanged}

-- other record batches after these
abbrev before : List RecordBatchTree → Result (List RecordBatchTree) read_errors.IpcReadError → Result (List RecordBatchTree) read_errors.IpcReadError
before bs others = others >>= λ more. Ok (bs ++ more)

none_before : (others : Result (List RecordBatchTree) read_errors.IpcReadError) → before [] others ≡ others
none_before (Ok more) = refl
none_before (Err error) = refl

one_before : (b : RecordBatchTree) (bs : List RecordBatchTree) (others : Result (List RecordBatchTree) read_errors.IpcReadError) → (before bs others >>= λ more. Ok (b ∷ more)) ≡ before (b ∷ bs) others
one_before b bs (Ok more) = refl
one_before b bs (Err error) = refl

-- the record batch of the block at an index, and those after it
one_block : (s : StateTree) (xs : List ℕ) (blocks : List Block) (i : ℕ) (batch : RecordBatchTree) (others : Result (List RecordBatchTree) read_errors.IpcReadError) → i < length blocks → block_batch_in s xs (get_or blocks i no_block) ≡ Ok batch → batches_at s xs (drop (i + 1) blocks) ≡ others
    → batches_at s xs (drop i blocks) ≡ (others >>= λ more. Ok (batch ∷ more))
unfolding batches_at
one_block s xs blocks i batch others lt read rest = rw (drop_more blocks i no_block lt, read, rest) refl

no_block_left : (s : StateTree) (xs : List ℕ) (blocks : List Block) (i : ℕ) → length blocks ≤ i → batches_at s xs (drop i blocks) ≡ Ok []
unfolding batches_at
no_block_left s xs blocks i le = rw (drop_all i blocks le) refl

failing_block : (s : StateTree) (xs : List ℕ) (blocks : List Block) (i : ℕ) (error : read_errors.IpcReadError) → i < length blocks → block_batch_in s xs (get_or blocks i no_block) ≡ Err error → batches_at s xs (drop i blocks) ≡ Err error
unfolding batches_at
failing_block s xs blocks i error lt read = rw (drop_more blocks i no_block lt, read) refl

file_of_reader : (picks : ProjectionModel) (xs : List ℕ) (r : SliceFileReaderTree) (batches : List RecordBatchTree) → file_reader_in picks xs ≡ Ok r → batches_of_file r ≡ Ok batches → projected_file_in picks xs ≡ Ok (record { schema = r.state.picked.schema; batches = batches })
unfolding projected_file_in
file_of_reader picks xs r batches reader all = rw (reader, all) refl

file_fails : (picks : ProjectionModel) (xs : List ℕ) (r : SliceFileReaderTree) (error : read_errors.IpcReadError) → file_reader_in picks xs ≡ Ok r → batches_of_file r ≡ Err error → projected_file_in picks xs ≡ Err error
unfolding projected_file_in
file_fails picks xs r error reader fails = rw (reader, fails) refl

kept_is : (o new : Option (List ℕ)) (xs : List ℕ) → o ≡ Some xs → Keeps o new → new ≡ Some xs
kept_is None new xs e h = cc
kept_is (Some ys) None xs e h = absurd h
kept_is (Some ys) (Some zs) xs e h = ap (λ (x : List ℕ). Some x) h ∙ e

module _ {R : Type 0} (position : R → Option ℕ) (bytes : R → Option (List ℕ)) where
  -- from an index on these record batches were read in order
  abbrev pub ReadsInOrder : ℕ → List RecordBatchTree → FileReaderTree R → FileReaderTree R → Type 0
  ReadsInOrder i [] old new = new ≡ old
  ReadsInOrder i (b ∷ bs) old new = (batch : Batch) × (next : FileReaderTree R) × (record_batch_of batch ≡ b) × ReadsBatch position bytes i old (Ok batch) × IsUnchanged position bytes old next × ReadsInOrder (i + 1) bs next new

  -- a reader of known bytes, with this state and these blocks
  abbrev IsReader : StateTree → List Block → List ℕ → FileReaderTree R → Type 0
  IsReader s blocks xs r = (r.state ≡ s) × (r.blocks ≡ blocks) × (bytes_of position bytes r.inner ≡ Some xs)

  is_still : (s : StateTree) (blocks : List Block) (xs : List ℕ) (old new : FileReaderTree R) → IsReader s blocks xs old → IsUnchanged position bytes old new → IsReader s blocks xs new
  is_still s blocks xs old new is still = (still.0 ∙ is.0, still.1 ∙ is.1, kept_is (bytes_of position bytes old.inner) (bytes_of position bytes new.inner) xs is.2 still.2)

  -- the record batch of the block at an index
  given : (s : StateTree) (blocks : List Block) (xs : List ℕ) (i : ℕ) (r : FileReaderTree R) (batch : Batch) → IsReader s blocks xs r → ReadsBatch position bytes i r (Ok batch) → block_batch_in s xs (get_or blocks i no_block) ≡ Ok (record_batch_of batch)
  given s blocks xs i r batch is gives =
      let read : batch_of_file (of_bytes xs r) i ≡ Ok (record_batch_of batch) = subst (λ (o : Option (List ℕ)). DecodesAs as_batch (λ ys. batch_of_file (of_bytes ys r) i) o (Ok batch)) is.2 gives in
      ap (λ (t : StateTree). block_batch_in t xs (get_or blocks i no_block)) (sym is.0)
      ∙ ap (λ (bs : List Block). block_batch_in r.state xs (get_or bs i no_block)) (sym is.1)
      ∙ read

  refused : (s : StateTree) (blocks : List Block) (xs : List ℕ) (i : ℕ) (r : FileReaderTree R) (error : read_errors.IpcReadError) → (error ≡ Memory → ⊥) → IsReader s blocks xs r → ReadsBatch position bytes i r (Err (Ipc error)) → block_batch_in s xs (get_or blocks i no_block) ≡ Err error
  refused s blocks xs i r error real is gives =
      let fails : FailsOrRunsOut error (batch_of_file (of_bytes xs r) i) = subst (λ (o : Option (List ℕ)). DecodesAs as_batch (λ ys. batch_of_file (of_bytes ys r) i) o (Err (Ipc error))) is.2 gives in
      ap (λ (t : StateTree). block_batch_in t xs (get_or blocks i no_block)) (sym is.0)
      ∙ ap (λ (bs : List Block). block_batch_in r.state xs (get_or bs i no_block)) (sym is.1)
      ∙ fails real

  through : (s : StateTree) (blocks : List Block) (xs : List ℕ) (i : ℕ) (bs : List RecordBatchTree) (old new : FileReaderTree R) (others : Result (List RecordBatchTree) read_errors.IpcReadError) → IsReader s blocks xs old → i + length bs ≤ length blocks → ReadsInOrder i bs old new
      → (IsReader s blocks xs new → batches_at s xs (drop (i + length bs) blocks) ≡ others) → batches_at s xs (drop i blocks) ≡ before bs others
  through s blocks xs i [] old new others is le goes rest =
      let none : i ≡ i + 0 = omega arith in
      ap (λ (n : ℕ). batches_at s xs (drop n blocks)) none
      ∙ rest (subst (λ (r : FileReaderTree R). IsReader s blocks xs r) (sym goes) is)
      ∙ sym (none_before others)
  through s blocks xs i (b ∷ bs) old new others is le (batch, next, same, gives, still, goes) rest =
      let on : i + 1 + length bs ≡ i + length (b ∷ bs) = omega arith in
      let behind = through s blocks xs (i + 1) bs next new others (is_still s blocks xs old next is still) (omega (arith, le)) goes (λ r. ap (λ (n : ℕ). batches_at s xs (drop n blocks)) on ∙ rest r) in
      one_block s xs blocks i b (before bs others) (omega (arith, le)) (given s blocks xs i old batch is gives ∙ ap (λ (x : RecordBatchTree). Ok x) same) behind
      ∙ one_before b bs others

  opened : (picks : ProjectionModel) (xs : List ℕ) (reader : R) (first : FileReaderTree R) → bytes_of position bytes reader ≡ Some xs → OpensFile position bytes picks reader (Ok first) → (file_reader_in picks xs ≡ Ok (of_bytes xs first)) × IsReader first.state first.blocks xs first
  opened picks xs reader first known opens =
      (subst (λ (o : Option (List ℕ)). DecodesAs of_bytes (file_reader_in picks) o (Ok first)) known opens.0, (refl, refl, kept_is (bytes_of position bytes reader) (bytes_of position bytes first.inner) xs known opens.1))

  -- all record batches in order are those of the file
  abbrev pub ReadsFile : Type 0
  ReadsFile = (picks : ProjectionModel) (xs : List ℕ) (bs : List RecordBatchTree) (reader : R) (first last : FileReaderTree R) → bytes_of position bytes reader ≡ Some xs → OpensFile position bytes picks reader (Ok first) → ReadsInOrder 0 bs first last → length bs ≡ length first.blocks
      → projected_file_in picks xs ≡ Ok (record { schema = first.state.picked.schema; batches = bs })

  pub file_comes : ReadsFile
  file_comes picks xs bs reader first last known opens goes all =
      let open_ = opened picks xs reader first known opens in
      let read : batches_of_file (of_bytes xs first) ≡ Ok bs =
      through first.state first.blocks xs 0 bs first last (Ok []) open_.1 (omega (arith, all)) goes (λ r. no_block_left first.state xs first.blocks (0 + length bs) (omega (arith, all)))
      ∙ ap (λ (x : List RecordBatchTree). Ok x) (append-nil bs) in
      file_of_reader picks xs (of_bytes xs first) bs open_.0 read

  -- the error after any of them is that of the file
  abbrev pub ReadsFileError : Type 0
  ReadsFileError = (picks : ProjectionModel) (xs : List ℕ) (bs : List RecordBatchTree) (error : read_errors.IpcReadError) (reader : R) (first last : FileReaderTree R) → (error ≡ Memory → ⊥) → bytes_of position bytes reader ≡ Some xs → OpensFile position bytes picks reader (Ok first) → ReadsInOrder 0 bs first last
      → length bs < length first.blocks → ReadsBatch position bytes (length bs) last (Err (Ipc error)) → projected_file_in picks xs ≡ Err error

  pub file_fault_comes : ReadsFileError
  file_fault_comes picks xs bs error reader first last real known opens goes more gives =
      let open_ = opened picks xs reader first known opens in
      let none : length bs ≡ 0 + length bs = omega arith in
      let fails = λ (r : IsReader first.state first.blocks xs last).
      failing_block first.state xs first.blocks (0 + length bs) error (omega (arith, more)) (ap (λ (n : ℕ). block_batch_in first.state xs (get_or first.blocks n no_block)) (sym none) ∙ refused first.state first.blocks xs (length bs) last error real r gives) in
      file_fails picks xs (of_bytes xs first) error open_.0 (through first.state first.blocks xs 0 bs first last (Err error) open_.1 (omega (arith, more)) goes fails)
