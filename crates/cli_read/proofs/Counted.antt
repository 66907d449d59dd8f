-- Rows counted record batch by record batch.
use Rattle.std.proofs.Common.{◌≡◌, inl, inr, ℕ, ◌+◌, ◌<◌, ◌≤◌, List, [], ◌∷◌, ◌++◌, length, map, sum, take, get_or, Option, Some, None, Result, Ok, Err, refl, sym, ap, subst, ◌∙◌, arith}
use Rattle.std.specs.Prelude.{IsOk}
use Rattle.std.specs.Option.{option_map}
use Rattle.std.specs.Io.KnownBytes.{Keeps}
use Rattle.std.proofs.lemmas.List.{take_all, take_more}
use Rattle.std.proofs.lemmas.List.Sums.{sum-map, sum_by-cons, sum_by_push}
use Rattle.std.specs.List.{sum_by}
use Rattle.ipc_flatbuf.specs.ReadResults.{◌>>=◌}
use Rattle.ipc_flatbuf.specs.declared.error.IpcReadError.{IpcReadError}
use Rattle.ipc_schema.specs.Projections.{ProjectionModel}
use Rattle.ipc_schema.specs.Schemas.{SchemaModel}
use Rattle.ipc_schema.specs.declared.footer.types.Block.{Block}
use Rattle.ipc.specs.Files.{no_block}
use Rattle.ipc.specs.Streams.{RecordBatchTree}
use Rattle.ipc_io.specs.FileMetadata.{MetadataReaderTree, OpensMetadata, block_rows_in, file_metadata_in, metadata_of, row_counts_at}
use Rattle.ipc_io.specs.FileReaders.{DecodesAs, bytes_of}
use Rattle.ipc_io.specs.declared.error.ReadError.{ReadError}
use Rattle.ipc_io.specs.declared.error.ReadError.TheVariants.{Ipc, Io}
use Rattle.cli_rows.specs.ColumnNames.{unknown_projected_name}
use Rattle.cli_rows.specs.Errors.{read_error}
use Rattle.cli_rows.specs.Output.{HasTable}
use Rattle.cli_rows.specs.Tables.{TableTree}
use Rattle.cli_rows.specs.declared.error.BatchError.{BatchError}
use Rattle.cli_rows.specs.declared.error.CliError.{CliError}
use Rattle.cli_rows.specs.declared.error.CliError.TheVariants.{Input, Read, Write, MismatchedColumns, IndexOutOfRange, Condition, UnknownName, Output, Memory}
use Rattle.cli_read.specs.Counts.{Counts, FailsToCount, IsCountError, batch_row_counts, batches_of_counts, metadata_contents, rows_alone, total_rows}
use Rattle.cli_read.specs.CountSteps.{DecodesAlike, FailsIn, IsErrorIn, OpensMetadataOf, decoded_metadata, metadata_of_blocks}
use Rattle.cli_read.specs.Decoded.{Decoded, table_with}
use Rattle.cli_read.specs.ProjectedNames.{FailsToOpenColumns, HasNames, HasUnknown}
use Rattle.cli_read.specs.Remaining.{FailsToReadNext, IsOpened, IsReadErrorOf, Remaining, ReturnsNext, StartsEmpty, with_schema}
use Rattle.cli_read.specs.RowBuffers.{IsAfter, prepended, table_of_batches}
use Rattle.cli_read.proofs.BufferSteps.{behind-first, behind-more, behind-none, behind-whole}

abbrev Batches : Type 0
Batches = Result (List RecordBatchTree) IpcReadError

abbrev Numbers : Type 0
Numbers = Result (List ℕ) IpcReadError

-- ---- record batches

batch-more : (bs : List RecordBatchTree) (b : RecordBatchTree) → sum (batch_row_counts (bs ++ b ∷ [])) ≡ sum (batch_row_counts bs) + b.rows
batch-more bs b = sum-map (λ (x : RecordBatchTree). x.rows) (bs ++ b ∷ []) ∙ sum_by_push (λ (x : RecordBatchTree). x.rows) bs b ∙ ap (λ k. k + b.rows) (sym (sum-map (λ (x : RecordBatchTree). x.rows) bs))

-- so many record batches were read, and this is the number of their rows
abbrev pub CountState : ℕ → Option Remaining → Option Remaining → ℕ → Type 0
CountState k None u n = Unit {0}
CountState k (Some t) None n = ⊥
CountState k (Some t) (Some u) n = (bs : List RecordBatchTree) × IsAfter t k bs u × (n ≡ sum (batch_row_counts bs))

pub count-begun : (t : Option Remaining) → StartsEmpty t → CountState 0 t t 0
count-begun None fresh = tt
count-begun (Some t) fresh = ([], behind-none t fresh, refl)

pub count-more : (k : ℕ) (t u v : Option Remaining) (n m : ℕ) (b : RecordBatchTree) → CountState k t u n → ReturnsNext u v (Some b) → m ≡ n + b.rows → CountState (k + 1) t v m
count-more k None u v n m b w r e = tt
count-more k (Some t) None v n m b w r e = absurd w
count-more k (Some t) (Some u) None n m b w r e = absurd r
count-more k (Some t) (Some u) (Some v) n m b (bs, at, is) r e = (bs ++ b ∷ [], behind-more t u v k bs b at r, e ∙ ap (λ x. x + b.rows) is ∙ sym (batch-more bs b))

pub count-end : (s : SchemaModel) (k : ℕ) (t u v : Option Remaining) (n : ℕ) → CountState k t u n → ReturnsNext u v None → Counts (option_map (with_schema s) t) n
count-end s k None u v n w r = tt
count-end s k (Some t) None v n w r = absurd w
count-end s k (Some t) (Some u) None n w r = absurd r
count-end s k (Some t) (Some u) (Some v) n (bs, at, is) r = subst (λ (read : Batches). HasTable (table_with s read) (λ h. n ≡ total_rows h)) (sym (behind-whole t u v k bs at r)) is

pub decodes : (s : SchemaModel) (read : Batches) (bs : List RecordBatchTree) → read ≡ Ok bs → IsOk (table_with s read)
decodes s read bs e = subst (λ (r : Batches). IsOk (table_with s r)) (sym e) refl

fails-behind : (error : CliError) (s : SchemaModel) (bs : List RecordBatchTree) (read : Batches) → IsReadErrorOf error read → IsReadErrorOf error (table_with s (prepended bs read))
fails-behind Input s bs read h = tt
fails-behind (Read error) s bs read h = λ real. ap (λ (r : Batches). table_with s (prepended bs r)) (h real)
fails-behind (Write why) s bs read h = h
fails-behind MismatchedColumns s bs read h = h
fails-behind IndexOutOfRange s bs read h = h
fails-behind (Condition why) s bs read h = h
fails-behind (UnknownName i) s bs read h = h
fails-behind Output s bs read h = h
fails-behind Memory s bs read h = h

pub count-fails : (error : CliError) (s : SchemaModel) (k : ℕ) (t u : Option Remaining) (n : ℕ) → CountState k t u n → FailsToReadNext error u → FailsIn (option_map (with_schema s) t) (record { batch = Some k; error = error })
count-fails error s k None u n w h = tt
count-fails error s k (Some t) None n w h = absurd w
count-fails error s k (Some t) (Some u) n (bs, at, is) h =
    (subst (λ (r : Batches). IsReadErrorOf error (table_with s r)) (sym (at.first 1)) (fails-behind error s bs (u.first 1) h), decodes s (t.first k) bs (behind-first t u k bs at))

pub uncounted : (s : SchemaModel) (k : ℕ) (t u : Option Remaining) (n : ℕ) → CountState k t u n → FailsIn (option_map (with_schema s) t) (record { batch = Some k; error = Input })
uncounted s k None u n w = tt
uncounted s k (Some t) None n w = absurd w
uncounted s k (Some t) (Some u) n (bs, at, is) = (tt, decodes s (t.first k) bs (behind-first t u k bs at))

-- ---- opened inputs

-- both decode alike
pub opened-alike : (x : Option Decoded) (s : SchemaModel) (t : Option Remaining) → IsOpened x s t → DecodesAlike x (option_map (with_schema s) t)
opened-alike None s t o = tt
opened-alike (Some x) s None o = absurd o
opened-alike (Some x) s (Some t) o = o

pub counts-alike : (x y : Option Decoded) (n : ℕ) → DecodesAlike x y → Counts y n → Counts x n
counts-alike None y n o h = tt
counts-alike (Some x) None n o h = absurd o
counts-alike (Some x) (Some y) n o h = subst (λ (z : Decoded). Counts (Some z) n) (sym o) h

pub fails-alike : (picks : ProjectionModel) (x y : Option Decoded) (stop : BatchError) → DecodesAlike x y → HasNames picks x → FailsIn y stop → FailsToCount picks x stop
fails-alike picks None y stop o names h = tt
fails-alike picks (Some x) None stop o names h = absurd o
fails-alike picks (Some x) (Some y) stop o names h = by stop.batch (subst (λ (z : Decoded). IsErrorIn z stop.batch stop.error) (sym o) h)
  where
    by : (batch : Option ℕ) → IsErrorIn x batch stop.error → IsCountError picks x batch stop.error
    by None e = absurd e
    by (Some k) e = (e.0, e.1, names)

pub unopened : (picks : ProjectionModel) (x : Option Decoded) (error : CliError) → FailsToOpenColumns picks error x → FailsToCount picks x (record { batch = None; error = error })
unopened picks None error h = tt
unopened picks (Some x) error h = h

-- ---- the metadata of a file

abbrev joined : Numbers → Numbers → Numbers
joined first rest = first >>= λ ns. rest >>= λ ms. Ok (ns ++ ms)

none-joined : (rest : Numbers) → rest ≡ joined (Ok []) rest
none-joined (Ok ms) = refl
none-joined (Err error) = refl

one-joined : (one : Result ℕ IpcReadError) (first rest : Numbers) → (one >>= λ n. joined first rest >>= λ others. Ok (n ∷ others)) ≡ joined (one >>= λ n. first >>= λ others. Ok (n ∷ others)) rest
one-joined (Err error) first rest = refl
one-joined (Ok n) (Err error) rest = refl
one-joined (Ok n) (Ok ns) (Err error) = refl
one-joined (Ok n) (Ok ns) (Ok ms) = refl

counts-both : (xs : List ℕ) (as_ bs : List Block) → row_counts_at xs (as_ ++ bs) ≡ joined (row_counts_at xs as_) (row_counts_at xs bs)
unfolding row_counts_at
counts-both xs [] bs = none-joined (row_counts_at xs bs)
counts-both xs (a ∷ as_) bs =
    ap (λ (r : Numbers). block_rows_in xs a >>= λ n. r >>= λ others. Ok (n ∷ others)) (counts-both xs as_ bs)
    ∙ one-joined (block_rows_in xs a) (row_counts_at xs as_) (row_counts_at xs bs)

count-alone : (xs : List ℕ) (b : Block) → row_counts_at xs (b ∷ []) ≡ (block_rows_in xs b >>= λ n. Ok (n ∷ []))
unfolding row_counts_at
count-alone xs b = refl

count-nothing : (xs : List ℕ) (blocks : List Block) → row_counts_at xs (take 0 blocks) ≡ Ok []
unfolding row_counts_at
count-nothing xs blocks = refl

-- the numbers of rows of one more block
counts-more : (xs : List ℕ) (blocks : List Block) (k : ℕ) → k < length blocks → row_counts_at xs (take (k + 1) blocks) ≡ joined (row_counts_at xs (take k blocks)) (block_rows_in xs (get_or blocks k no_block) >>= λ n. Ok (n ∷ []))
counts-more xs blocks k lt =
    ap (row_counts_at xs) (take_more blocks k no_block lt)
    ∙ counts-both xs (take k blocks) (get_or blocks k no_block ∷ [])
    ∙ ap (joined (row_counts_at xs (take k blocks))) (count-alone xs (get_or blocks k no_block))

-- so many record batches of a file were counted
abbrev pub MetadataState : ℕ → List Block → Option (List ℕ) → Option (List ℕ) → ℕ → Type 0
MetadataState k blocks None now n = Unit {0}
MetadataState k blocks (Some xs) None n = ⊥
MetadataState k blocks (Some xs) (Some ys) n = (ys ≡ xs) × ((ns : List ℕ) × (row_counts_at xs (take k blocks) ≡ Ok ns) × (n ≡ sum_by (λ m. m) ns))

pub metadata-begun : (blocks : List Block) (known : Option (List ℕ)) → MetadataState 0 blocks known known 0
metadata-begun blocks None = tt
metadata-begun blocks (Some xs) = (refl, ([], count-nothing xs blocks, refl))

abbrev CountsAt : List Block → ℕ → Option (List ℕ) → Result ℕ ReadError → Type 0
CountsAt blocks k known result = DecodesAs (λ xs rows. rows) (λ xs. block_rows_in xs (get_or blocks k no_block)) known result

pub metadata-more : (blocks : List Block) (k : ℕ) (known now next : Option (List ℕ)) (n m rows : ℕ) → MetadataState k blocks known now n → k < length blocks → CountsAt blocks k now (Ok rows) → Keeps now next → m ≡ n + rows → MetadataState (k + 1) blocks known next m
metadata-more blocks k None now next n m rows w lt h kept e = tt
metadata-more blocks k (Some xs) None next n m rows w lt h kept e = absurd w
metadata-more blocks k (Some xs) (Some ys) None n m rows w lt h kept e = absurd kept
metadata-more blocks k (Some xs) (Some ys) (Some zs) n m rows (same, (ns, are, is)) lt h kept e =
    let one : block_rows_in xs (get_or blocks k no_block) ≡ Ok rows = ap (λ (l : List ℕ). block_rows_in l (get_or blocks k no_block)) (sym same) ∙ h in
    (kept ∙ same, (ns ++ rows ∷ [], counts-more xs blocks k lt ∙ rw (are, one) refl, e ∙ ap (λ x. x + rows) is ∙ sym (sum_by_push (λ m. m) ns rows)))

alone-by : (ns : List ℕ) → sum_by (λ (b : RecordBatchTree). b.rows) (map rows_alone ns) ≡ sum_by (λ m. m) ns
alone-by [] = refl
alone-by (n ∷ ns) = sum_by-cons (λ (b : RecordBatchTree). b.rows) (rows_alone n) (map rows_alone ns) ∙ ap (λ k. n + k) (alone-by ns) ∙ sym (sum_by-cons (λ m. m) n ns)

total-alone : (ns : List ℕ) → sum (batch_row_counts (map rows_alone ns)) ≡ sum_by (λ m. m) ns
total-alone ns = sum-map (λ (b : RecordBatchTree). b.rows) (map rows_alone ns) ∙ alone-by ns

pub metadata-end : (s : SchemaModel) (blocks : List Block) (k : ℕ) (known now : Option (List ℕ)) (n : ℕ) → MetadataState k blocks known now n → length blocks ≤ k → Counts (option_map (metadata_of_blocks s blocks) known) n
metadata-end s blocks k None now n w le = tt
metadata-end s blocks k (Some xs) None n w le = absurd w
metadata-end s blocks k (Some xs) (Some ys) n (same, (ns, are, is)) le =
    let whole : row_counts_at xs blocks ≡ Ok ns = ap (row_counts_at xs) (sym (take_all k blocks le)) ∙ are in
    subst (λ (r : Numbers). HasTable (table_with s (batches_of_counts r)) (λ h. n ≡ total_rows h)) (sym whole) (is ∙ sym (total-alone ns))

counted : (s : SchemaModel) (counts : Numbers) (ns : List ℕ) → counts ≡ Ok ns → IsOk (table_with s (batches_of_counts counts))
counted s counts ns e = subst (λ (r : Numbers). IsOk (table_with s (batches_of_counts r))) (sym e) refl

pub metadata-fails : (s : SchemaModel) (blocks : List Block) (k : ℕ) (known now : Option (List ℕ)) (n : ℕ) (e : ReadError) → MetadataState k blocks known now n → k < length blocks → CountsAt blocks k now (Err e) → FailsIn (option_map (metadata_of_blocks s blocks) known) (record { batch = Some k; error = read_error e })
metadata-fails s blocks k None now n e w lt h = tt
metadata-fails s blocks k (Some xs) None n e w lt h = absurd w
metadata-fails s blocks k (Some xs) (Some ys) n (Ipc error) (same, (ns, are, is)) lt h = (fails, counted s (row_counts_at xs (take k blocks)) ns are)
  where
    fails : IsReadErrorOf (Read error) (table_with s (batches_of_counts (row_counts_at xs (take (k + 1) blocks))))
    fails = λ real.
        let one : block_rows_in xs (get_or blocks k no_block) ≡ Err error = ap (λ (l : List ℕ). block_rows_in l (get_or blocks k no_block)) (sym same) ∙ h real in
        let all : row_counts_at xs (take (k + 1) blocks) ≡ Err error = counts-more xs blocks k lt ∙ rw (are, one) refl in
        ap (λ (r : Numbers). table_with s (batches_of_counts r)) all
metadata-fails s blocks k (Some xs) (Some ys) n (Io e) (same, (ns, are, is)) lt h = (tt, counted s (row_counts_at xs (take k blocks)) ns are)

-- ---- opened metadata

module _ {R : Type 0} (position : R → Option ℕ) (bytes : R → Option (List ℕ)) where
  pub metadata-opened : (picks : ProjectionModel) (device : R) (r : MetadataReaderTree R) → OpensMetadata position bytes picks device (Ok r) → OpensMetadataOf position bytes picks device r
  metadata-opened picks device r h = given (bytes_of position bytes device) (bytes_of position bytes r.inner) h.0 h.1
    where
      given : (a b : Option (List ℕ)) → DecodesAs metadata_of (file_metadata_in picks) a (Ok r) → Keeps a b → DecodesAlike (option_map (metadata_contents picks) a) (option_map (metadata_of_blocks r.schema r.blocks) b)
      given None b is kept = tt
      given (Some xs) None is kept = absurd kept
      given (Some xs) (Some ys) is kept =
          ap (λ (m : Result (SchemaModel × List Block) IpcReadError). record { first = λ k. m >>= λ x. table_with x.0 (batches_of_counts (row_counts_at xs (take k x.1))); whole = m >>= λ x. table_with x.0 (batches_of_counts (row_counts_at xs x.1)) }) is
          ∙ ap (metadata_of_blocks r.schema r.blocks) (sym kept)

  first-of : (picks : ProjectionModel) (x y : Option Decoded) (s : SchemaModel) (name : Option ℕ) → DecodesAlike x y → ((z : Decoded) → y ≡ Some z → z.first 0 ≡ Ok (table_of_batches s [])) → unknown_projected_name picks s.fields ≡ name → (z : Decoded) → x ≡ Some z → HasUnknown picks name z
  first-of picks None y s name o none u z e = cc
  first-of picks (Some x) None s name o none u z e = absurd o
  first-of picks (Some x) (Some y) s name o none u z e =
      let same : x ≡ z = grind (arith, e) in
      let first : z.first 0 ≡ Ok (table_of_batches s []) = ap (λ (d : Decoded). d.first 0) (sym same ∙ o) ∙ none y refl in
      subst (λ (r : Result TableTree IpcReadError). HasTable r (λ t. unknown_projected_name picks t.schema.fields ≡ name)) (sym first) u

  none-first : (r : MetadataReaderTree R) (z : Decoded) → decoded_metadata position bytes r ≡ Some z → z.first 0 ≡ Ok (table_of_batches r.schema [])
  none-first r z e = given (bytes_of position bytes r.inner) e
    where
      given : (o : Option (List ℕ)) → option_map (metadata_of_blocks r.schema r.blocks) o ≡ Some z → z.first 0 ≡ Ok (table_of_batches r.schema [])
      given None e = absurd cc
      given (Some xs) e =
          let is : metadata_of_blocks r.schema r.blocks xs ≡ z = grind (arith, e) in
          ap (λ (d : Decoded). d.first 0) (sym is) ∙ ap (λ (n : Numbers). table_with r.schema (batches_of_counts n)) (count-nothing xs r.blocks)

  pub metadata-names : (picks : ProjectionModel) (x : Option Decoded) (r : MetadataReaderTree R) → DecodesAlike x (decoded_metadata position bytes r) → unknown_projected_name picks r.schema.fields ≡ None → HasNames picks x
  metadata-names picks None r o u = tt
  metadata-names picks (Some x) r o u = first-of picks (Some x) (decoded_metadata position bytes r) r.schema None o (none-first r) u x refl

  pub metadata-name-unknown : (picks : ProjectionModel) (x : Option Decoded) (r : MetadataReaderTree R) (name : ℕ) → DecodesAlike x (decoded_metadata position bytes r) → unknown_projected_name picks r.schema.fields ≡ Some name → FailsToOpenColumns picks (UnknownName name) x
  metadata-name-unknown picks None r name o u = tt
  metadata-name-unknown picks (Some x) r name o u = inr (name, refl, first-of picks (Some x) (decoded_metadata position bytes r) r.schema (Some name) o (none-first r) u x refl)

  pub metadata-unopened : (picks : ProjectionModel) (device : R) (e : ReadError) → DecodesAs {X = MetadataReaderTree R} metadata_of (file_metadata_in picks) (bytes_of position bytes device) (Err e) → FailsToOpenColumns picks (read_error e) (option_map (metadata_contents picks) (bytes_of position bytes device))
  metadata-unopened picks device e h = given (bytes_of position bytes device) e h
    where
      given : (o : Option (List ℕ)) (e : ReadError) → DecodesAs {X = MetadataReaderTree R} metadata_of (file_metadata_in picks) o (Err e) → FailsToOpenColumns picks (read_error e) (option_map (metadata_contents picks) o)
      given None e h = tt
      given (Some xs) (Ipc error) h = inl (λ real. rw (h real) refl)
      given (Some xs) (Io e) h = inl tt
