-- The last rows of the record batches of a file, read from the last one back.
use Rattle.std.proofs.Common.{◌≡◌, inl, inr, ◌⊎◌, ℕ, ◌+◌, ◌-◌, ◌<◌, ◌≤◌, List, [], ◌∷◌, ◌++◌, length, drop, get_or, Option, Some, None, Result, Ok, Err, refl, sym, ap, subst, ◌∙◌, arith, append-nil, length-append, take-append-drop}
use Rattle.std.specs.Option.{option_map}
use Rattle.std.specs.Io.KnownBytes.{Keeps}
use Rattle.std.proofs.lemmas.List.{drop-drop, drop_all, drop_more}
use Rattle.nest_model.specs.Fits.{Fits}
use Rattle.nest_model.specs.Layout.{Layout}
use Rattle.nest_model.specs.Meaning.{len}
use Rattle.ipc_flatbuf.specs.ReadResults.{◌>>=◌}
use Rattle.ipc_flatbuf.specs.declared.error.IpcReadError.{IpcReadError}
use Rattle.ipc_schema.specs.Projections.{ProjectionModel}
use Rattle.ipc_schema.specs.Schemas.{SchemaModel}
use Rattle.ipc_schema.specs.declared.footer.types.Block.{Block}
use Rattle.ipc.specs.Files.{SliceFileReaderTree, batch_of_file, batches_at, block_batch_in, no_block}
use Rattle.ipc.specs.Streams.{RecordBatchTree, StateTree, record_batch_of}
use Rattle.ipc.specs.declared.batch.Batch.{Batch}
use Rattle.ipc_io.specs.FileReaders.{DecodesAs, FileReaderTree, IsUnchanged, ReadsBatch, as_batch, bytes_of, of_bytes}
use Rattle.ipc_io.specs.declared.error.ReadError.{ReadError}
use Rattle.ipc_io.specs.declared.error.ReadError.TheVariants.{Ipc, Io}
use Rattle.cli_rows.specs.Errors.{read_error}
use Rattle.cli_rows.specs.Output.{HasTable}
use Rattle.cli_rows.specs.RowErrors.{IsRowError}
use Rattle.cli_rows.specs.RowLaws.{rows-length}
use Rattle.cli_rows.specs.Rows.{RowSlot, rows_of}
use Rattle.cli_rows.specs.Tables.{record_rows}
use Rattle.cli_rows.specs.declared.error.BatchError.{BatchError}
use Rattle.cli_rows.specs.declared.error.CliError.{CliError}
use Rattle.cli_rows.specs.declared.error.CliError.TheVariants.{Memory}
use Rattle.cli_read.specs.Decoded.{Decoded, table_with}
use Rattle.cli_read.specs.ProjectedNames.{HasNames}
use Rattle.cli_read.specs.RowBuffers.{table_of_batches}
use Rattle.cli_read.specs.Tails.{AreLastRows, FailsToTail, HasEnough, IsRecordsError, IsTailError, file_ends, file_part, last}
use Rattle.cli_read.specs.TailSteps.{AreLastFrom, AreRecordsAt, FailsAt, FailsBack, IsEndError, IsFileReader, batch_records_of, one_at, slice_reader_of}
use Rattle.cli_read.proofs.LastRows.{last-all, last-both}
use Rattle.cli_read.proofs.StreamTails.{records-both, unfit-alone}

abbrev pub Batches : Type 0
Batches = Result (List RecordBatchTree) IpcReadError

-- ---- blocks

abbrev pub joined : Batches → Batches → Batches
joined first rest = first >>= λ bs. rest >>= λ cs. Ok (bs ++ cs)

none-joined : (rest : Batches) → rest ≡ joined (Ok []) rest
none-joined (Ok cs) = refl
none-joined (Err error) = refl

one-joined : (one : Result RecordBatchTree IpcReadError) (first rest : Batches) → (one >>= λ b. joined first rest >>= λ others. Ok (b ∷ others)) ≡ joined (one >>= λ b. first >>= λ others. Ok (b ∷ others)) rest
one-joined (Err error) first rest = refl
one-joined (Ok b) (Err error) rest = refl
one-joined (Ok b) (Ok bs) (Err error) = refl
one-joined (Ok b) (Ok bs) (Ok cs) = refl

pub batches-both : (s : StateTree) (xs : List ℕ) (as_ bs : List Block) → batches_at s xs (as_ ++ bs) ≡ joined (batches_at s xs as_) (batches_at s xs bs)
unfolding batches_at
batches-both s xs [] bs = none-joined (batches_at s xs bs)
batches-both s xs (a ∷ as_) bs =
    ap (λ (r : Batches). block_batch_in s xs a >>= λ b. r >>= λ others. Ok (b ∷ others)) (batches-both s xs as_ bs)
    ∙ one-joined (block_batch_in s xs a) (batches_at s xs as_) (batches_at s xs bs)

from-here : (s : StateTree) (xs : List ℕ) (blocks : List Block) (k : ℕ) → batches_at s xs (drop k blocks) ≡ joined (batches_at s xs (one_at k blocks)) (batches_at s xs (drop (k + 1) blocks))
from-here s xs blocks k =
    ap (batches_at s xs) (sym (take-append-drop 1 (drop k blocks)) ∙ ap (λ l. one_at k blocks ++ l) (drop-drop 1 k blocks))
    ∙ batches-both s xs (one_at k blocks) (drop (k + 1) blocks)

alone : (s : StateTree) (xs : List ℕ) (blocks : List Block) (k : ℕ) → k < length blocks → batches_at s xs (one_at k blocks) ≡ (block_batch_in s xs (get_or blocks k no_block) >>= λ b. Ok (b ∷ []))
unfolding batches_at
alone s xs blocks k lt = rw (drop_more blocks k no_block lt) refl

no-batch : (s : StateTree) (xs : List ℕ) (blocks : List Block) (k : ℕ) → length blocks ≤ k → batches_at s xs (drop k blocks) ≡ Ok []
unfolding batches_at
no-batch s xs blocks k le = rw (drop_all k blocks le) refl

-- ---- one record batch

records-are : (s : SchemaModel) (b : RecordBatchTree) (a : Layout) (read : Batches) → read ≡ Ok (b ∷ []) → a ≡ batch_records_of s b → HasTable (table_with s read) (λ t. record_rows t ≡ rows_of a)
records-are s b a read e is = subst (λ (r : Batches). HasTable (table_with s r) (λ t. record_rows t ≡ rows_of a)) (sym e) (append-nil (rows_of (batch_records_of s b)) ∙ ap rows_of (sym is))

module _ {R : Type 0} (position : R → Option ℕ) (bytes : R → Option (List ℕ)) where
  pub records-at : (k : ℕ) (r : FileReaderTree R) (batch : Batch) (a : Layout) → k < length r.blocks → ReadsBatch position bytes k r (Ok batch) → a ≡ batch_records_of r.state.picked.schema (record_batch_of batch) → AreRecordsAt k (slice_reader_of position bytes r) a
  records-at k r batch a lt read is = given (bytes_of position bytes r.inner) read
    where
      given : (o : Option (List ℕ)) → DecodesAs as_batch (λ xs. batch_of_file (of_bytes xs r) k) o (Ok batch) → AreRecordsAt k (option_map (λ xs. of_bytes xs r) o) a
      given None h = tt
      given (Some xs) h = records-are r.state.picked.schema (record_batch_of batch) a (batches_at r.state xs (one_at k r.blocks)) (alone r.state xs r.blocks k lt ∙ ap (λ (one : Result RecordBatchTree IpcReadError). one >>= λ b. Ok (b ∷ [])) h) is

  pub batch-fails : (k : ℕ) (r : FileReaderTree R) (e : ReadError) → k < length r.blocks → ReadsBatch position bytes k r (Err e) → FailsAt k (slice_reader_of position bytes r) (read_error e)
  batch-fails k r e lt read = given (bytes_of position bytes r.inner) e read
    where
      given : (o : Option (List ℕ)) (e : ReadError) → DecodesAs {X = Batch} as_batch (λ xs. batch_of_file (of_bytes xs r) k) o (Err e) → FailsAt k (option_map (λ xs. of_bytes xs r) o) (read_error e)
      given None e h = tt
      given (Some xs) (Ipc error) h = λ real. ap (table_with r.state.picked.schema) (alone r.state xs r.blocks k lt ∙ ap (λ (one : Result RecordBatchTree IpcReadError). one >>= λ b. Ok (b ∷ [])) (h real))
      given (Some xs) (Io e) h = tt

  pub batch-unfit : (k : ℕ) (r : FileReaderTree R) (batch : Batch) (error : CliError) → k < length r.blocks → ReadsBatch position bytes k r (Ok batch) → IsRowError error (Fits (batch_records_of r.state.picked.schema (record_batch_of batch))) → FailsAt k (slice_reader_of position bytes r) error
  batch-unfit k r batch error lt read unfit = given (bytes_of position bytes r.inner) read
    where
      given : (o : Option (List ℕ)) → DecodesAs as_batch (λ xs. batch_of_file (of_bytes xs r) k) o (Ok batch) → FailsAt k (option_map (λ xs. of_bytes xs r) o) error
      given None h = tt
      given (Some xs) h =
          let one = alone r.state xs r.blocks k lt ∙ ap (λ (one : Result RecordBatchTree IpcReadError). one >>= λ b. Ok (b ∷ [])) h in
          subst (λ (read : Batches). IsRecordsError error (table_with r.state.picked.schema read)) (sym one) (unfit-alone error r.state.picked.schema (record_batch_of batch) unfit)

-- ---- from the last record batch back

-- the last rows of the record batches from an index on, and how many are missing
abbrev pub HasLast : ℕ → ℕ → SliceFileReaderTree → ℕ → List RowSlot → Type 0
HasLast n m r missing found = HasTable (file_part (drop m) (Ok r)) (λ t. (found ≡ last n (record_rows t)) × (missing ≡ n - length (record_rows t)))

abbrev pub BackState : ℕ → ℕ → Option SliceFileReaderTree → Option SliceFileReaderTree → ℕ → List RowSlot → Type 0
BackState n m None q missing found = Unit {0}
BackState n m (Some r) None missing found = ⊥
BackState n m (Some r) (Some q) missing found = (q ≡ r) × HasLast n m r missing found

has-none : (n : ℕ) (s : SchemaModel) (read : Batches) → read ≡ Ok [] → HasTable (table_with s read) (λ t. ([] ≡ last n (record_rows t)) × (n ≡ n - length (record_rows t)))
has-none n s read e = subst (λ (r : Batches). HasTable (table_with s r) (λ t. ([] ≡ last n (record_rows t)) × (n ≡ n - length (record_rows t)))) (sym e) (sym (last-all n [] (omega arith)), omega arith)

pub back-begun : (n m : ℕ) (o : Option SliceFileReaderTree) → ((r : SliceFileReaderTree) → o ≡ Some r → length r.blocks ≤ m) → BackState n m o o n []
back-begun n m None h = tt
back-begun n m (Some r) h = (refl, has-none n r.state.picked.schema (batches_at r.state r.bytes (drop m r.blocks)) (no-batch r.state r.bytes r.blocks m (h r refl)))

has-more : (n missing : ℕ) (s : SchemaModel) (a : Layout) (found : List RowSlot) (one rest : Batches) → HasTable (table_with s one) (λ t. record_rows t ≡ rows_of a) → HasTable (table_with s rest) (λ t. (found ≡ last n (record_rows t)) × (missing ≡ n - length (record_rows t)))
    → HasTable (table_with s (joined one rest)) (λ t. (last missing (rows_of a) ++ found ≡ last n (record_rows t)) × (missing - len a ≡ n - length (record_rows t)))
has-more n missing s a found (Err error) rest h k = absurd h
has-more n missing s a found (Ok bs) (Err error) h k = absurd k
has-more n missing s a found (Ok bs) (Ok cs) h (is, left) =
    let first = record_rows (table_of_batches s bs) in
    let others = record_rows (table_of_batches s cs) in
    let both = records-both s bs cs in
    let long = length-append first others in
    let few : length first ≡ len a = ap length h ∙ rows-length a in (
      ap (λ l. last missing (rows_of a) ++ l) is
          ∙ ap (λ m. last m (rows_of a) ++ last n others) left
          ∙ ap (λ l. last (n - length others) l ++ last n others) (sym h)
          ∙ sym (last-both n first others)
          ∙ ap (last n) (sym both),
      let e : missing - len a ≡ n - (length first + length others) = omega (arith, left, few) in e ∙ ap (λ k. n - k) (sym long ∙ ap length (sym both)),
    )

pub back-more : (n k m : ℕ) (o now next : Option SliceFileReaderTree) (missing still : ℕ) (a : Layout) (found more : List RowSlot) → BackState n m o now missing found → m ≡ k + 1 → AreRecordsAt k now a → ((q r : SliceFileReaderTree) → now ≡ Some q → next ≡ Some r → r ≡ q) → ((q : SliceFileReaderTree) → now ≡ Some q → next ≡ None → ⊥)
    → more ≡ last missing (rows_of a) ++ found → still ≡ missing - len a → BackState n k o next still more
back-more n k m None now next missing still a found more h e at same there is fewer = tt
back-more n k m (Some r) None next missing still a found more h e at same there is fewer = absurd h
back-more n k m (Some r) (Some q) None missing still a found more h e at same there is fewer = absurd (there q refl refl)
back-more n k m (Some r) (Some q) (Some p) missing still a found more (one, has) e at same there is fewer =
    let s = r.state.picked.schema in
    let rest : HasLast n (k + 1) r missing found = subst (λ (i : ℕ). HasLast n i r missing found) e has in
    let here : AreRecordsAt k (Some r) a = subst (λ (x : SliceFileReaderTree). AreRecordsAt k (Some x) a) one at in
    let both = has-more n missing s a found (batches_at r.state r.bytes (one_at k r.blocks)) (batches_at r.state r.bytes (drop (k + 1) r.blocks)) here rest in (
      same q p refl refl ∙ one,
      subst (λ (l : List RowSlot). HasLast n k r still l) (sym is) (subst (λ (i : ℕ). HasLast n k r i (last missing (rows_of a) ++ found)) (sym fewer)
          (subst (λ (read : Batches). HasTable (table_with s read) (λ t. (last missing (rows_of a) ++ found ≡ last n (record_rows t)) × (missing - len a ≡ n - length (record_rows t)))) (sym (from-here r.state r.bytes r.blocks k)) both)),
    )

enough-in : (n k missing : ℕ) (s : SchemaModel) (found : List RowSlot) (read : Batches) → (missing ≡ 0) ⊎ (k ≡ 0) → HasTable (table_with s read) (λ t. (found ≡ last n (record_rows t)) × (missing ≡ n - length (record_rows t))) → HasTable (table_with s read) (λ t. HasEnough n k t × (found ≡ last n (record_rows t)))
enough-in n k missing s found (Err error) why h = absurd h
enough-in n k missing s found (Ok bs) (inl none) (is, left) = (inr (omega (arith, none, left)), is)
enough-in n k missing s found (Ok bs) (inr first) (is, left) = (inl first, is)

pub back-end : (n k : ℕ) (o now : Option SliceFileReaderTree) (missing : ℕ) (found : List RowSlot) → BackState n k o now missing found → (missing ≡ 0) ⊎ (k ≡ 0) → AreLastFrom n o found
back-end n k None now missing found h why = tt
back-end n k (Some r) None missing found h why = absurd h
back-end n k (Some r) (Some q) missing found (one, has) why = (k, enough-in n k missing r.state.picked.schema found (batches_at r.state r.bytes (drop k r.blocks)) why has)

pub back-fails : (n k m : ℕ) (o now : Option SliceFileReaderTree) (missing : ℕ) (found : List RowSlot) (error : CliError) → BackState n m o now missing found → FailsAt k now error → FailsBack o (record { batch = Some k; error = error })
back-fails n k m None now missing found error h fails = tt
back-fails n k m (Some r) None missing found error h fails = absurd h
back-fails n k m (Some r) (Some q) missing found error (one, has) fails = subst (λ (x : SliceFileReaderTree). FailsAt k (Some x) error) one fails

pub back-stops : (o : Option SliceFileReaderTree) (k : ℕ) (error : CliError) → error ≡ Memory → FailsBack o (record { batch = Some k; error = error })
back-stops None k error e = tt
back-stops (Some r) k error e = rw e tt

-- a reader that is unchanged has the same bytes
module _ {R : Type 0} (position : R → Option ℕ) (bytes : R → Option (List ℕ)) where
  pub unchanged-reader : (old new : FileReaderTree R) → IsUnchanged position bytes old new → (q r : SliceFileReaderTree) → slice_reader_of position bytes old ≡ Some q → slice_reader_of position bytes new ≡ Some r → r ≡ q
  unchanged-reader old new still q r is now = given (bytes_of position bytes old.inner) (bytes_of position bytes new.inner) still.2 is now
    where
      given : (a b : Option (List ℕ)) → Keeps a b → option_map (λ xs. of_bytes xs old) a ≡ Some q → option_map (λ xs. of_bytes xs new) b ≡ Some r → r ≡ q
      given None b kept e f = absurd cc
      given (Some xs) None kept e f = absurd kept
      given (Some xs) (Some ys) kept e f =
          let first : of_bytes xs old ≡ q = grind (arith, e) in
          let second : of_bytes ys new ≡ r = grind (arith, f) in
          sym second ∙ rw (still.0, still.1, kept) refl ∙ first

  pub reader-there : (old new : FileReaderTree R) → IsUnchanged position bytes old new → (q : SliceFileReaderTree) → slice_reader_of position bytes old ≡ Some q → slice_reader_of position bytes new ≡ None → ⊥
  reader-there old new still q is none = given (bytes_of position bytes old.inner) (bytes_of position bytes new.inner) still.2 is none
    where
      given : (a b : Option (List ℕ)) → Keeps a b → option_map (λ xs. of_bytes xs old) a ≡ Some q → option_map (λ xs. of_bytes xs new) b ≡ None → ⊥
      given None b kept e f = absurd cc
      given (Some xs) None kept e f = kept
      given (Some xs) (Some ys) kept e f = absurd cc

  pub blocks-of : (m : ℕ) (r : FileReaderTree R) → length r.blocks ≤ m → (q : SliceFileReaderTree) → slice_reader_of position bytes r ≡ Some q → length q.blocks ≤ m
  blocks-of m r le q is = given (bytes_of position bytes r.inner) is
    where
      given : (o : Option (List ℕ)) → option_map (λ xs. of_bytes xs r) o ≡ Some q → length q.blocks ≤ m
      given None e = absurd cc
      given (Some xs) e = let first : of_bytes xs r ≡ q = grind (arith, e) in subst (λ (x : SliceFileReaderTree). length x.blocks ≤ m) first le

-- ---- opened files

pub last-of-file : (n : ℕ) (o : Option (Result SliceFileReaderTree IpcReadError)) (r : Option SliceFileReaderTree) (found : List RowSlot) → IsFileReader o r → AreLastFrom n r found → AreLastRows n (option_map file_ends o) found
last-of-file n None r found is h = tt
last-of-file n (Some read) None found is h = absurd is
last-of-file n (Some read) (Some r) found is h = subst (λ (x : Result SliceFileReaderTree IpcReadError). AreLastRows n (Some (file_ends x)) found) (sym is) h

pub tail-of-file-fails : (picks : ProjectionModel) (x : Option Decoded) (o : Option (Result SliceFileReaderTree IpcReadError)) (r : Option SliceFileReaderTree) (stop : BatchError) → IsFileReader o r → HasNames picks x → FailsBack r stop → FailsToTail picks x (option_map file_ends o) stop
tail-of-file-fails picks x None r stop is names h = tt
tail-of-file-fails picks x (Some read) None stop is names h = absurd is
tail-of-file-fails picks x (Some read) (Some r) stop is names h = subst (λ (y : Result SliceFileReaderTree IpcReadError). FailsToTail picks x (Some (file_ends y)) stop) (sym is) (by stop.batch h)
  where
    by : (batch : Option ℕ) → IsEndError (λ k. file_part (one_at k) (Ok r)) batch stop.error → IsTailError picks x (file_ends (Ok r)) batch stop.error
    by None e = inr e
    by (Some k) e = (e, names)
