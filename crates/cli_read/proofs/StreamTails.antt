-- The last rows of the record batches of a reader, read one after another.
use Rattle.std.proofs.Common.{◌≡◌, inl, inr, ℕ, ◌+◌, List, [], ◌∷◌, ◌++◌, arith, Option, Some, None, Result, Ok, Err, refl, sym, ap, subst, ◌∙◌, append_assoc, append-nil}
use Rattle.std.specs.Option.{option_map}
use Rattle.nest_model.specs.Fits.{Fits}
use Rattle.nest_model.specs.Layout.{Layout}
use Rattle.ipc_flatbuf.specs.declared.error.IpcReadError.{IpcReadError}
use Rattle.ipc_schema.specs.Schemas.{SchemaModel}
use Rattle.ipc.specs.SliceStreamReaders.{before}
use Rattle.ipc.specs.Streams.{RecordBatchTree}
use Rattle.cli_rows.specs.Output.{HasTable}
use Rattle.cli_rows.specs.RowErrors.{IsRowError}
use Rattle.cli_rows.specs.Rows.{RowSlot, rows_of}
use Rattle.cli_rows.specs.Tables.{MatchesSchema, TableTree, record_rows}
use Rattle.cli_rows.specs.declared.error.CliError.{CliError}
use Rattle.cli_rows.specs.declared.error.CliError.TheVariants.{Input, Read, Write, MismatchedColumns, IndexOutOfRange, Condition, UnknownName, Output, Memory}
use Rattle.cli_read.specs.Decoded.{Decoded, stream_contents, table_with}
use Rattle.cli_read.specs.ProjectedNames.{FailsToOpenColumns, HasNames}
use Rattle.ipc_schema.specs.Projections.{ProjectionModel}
use Rattle.cli_read.specs.Remaining.{FailsToReadNext, IsOpened, Remaining, ReturnsNext, StartsEmpty}
use Rattle.cli_read.specs.RowBuffers.{IsAfter, prepended, table_of_batches}
use Rattle.cli_read.specs.Tails.{AreLastRows, Ends, FailsToTail, HasEnough, IsRecordsError, IsTailError, last, stream_ends}
use Rattle.cli_read.specs.TailSteps.{AreLastOf, FailsOn, FailsRecords, IsEndError, ReturnsRecords, batch_records_of}
use Rattle.cli_rows.specs.declared.error.BatchError.{BatchError}
use Rattle.cli_read.proofs.BufferSteps.{behind-more, behind-none, behind-whole}
use Rattle.cli_read.proofs.LastRows.{last-before}

abbrev Batches : Type 0
Batches = Result (List RecordBatchTree) IpcReadError

-- ---- the next record batch

pub records-returned : (s : SchemaModel) (u v : Option Remaining) (b : RecordBatchTree) (a : Layout) → ReturnsNext u v (Some b) → a ≡ batch_records_of s b → ReturnsRecords s u v (Some a)
records-returned s None v b a h is = tt
records-returned s (Some u) None b a h is = absurd h
records-returned s (Some u) (Some v) b a h is = (b, is, h)

pub no-records : (s : SchemaModel) (u v : Option Remaining) → ReturnsNext u v None → ReturnsRecords s u v None
no-records s None v h = tt
no-records s (Some u) None h = absurd h
no-records s (Some u) (Some v) h = h

pub records-unread : (error : CliError) (s : SchemaModel) (u : Option Remaining) → FailsToReadNext error u → FailsRecords s error u
records-unread error s None h = tt
records-unread Input s (Some u) h = tt
records-unread (Read error) s (Some u) h = λ real. ap (table_with s) (h real)
records-unread (Write why) s (Some u) h = h
records-unread MismatchedColumns s (Some u) h = absurd h
records-unread IndexOutOfRange s (Some u) h = h
records-unread (Condition why) s (Some u) h = h
records-unread (UnknownName i) s (Some u) h = h
records-unread Output s (Some u) h = h
records-unread Memory s (Some u) h = tt

pub unfit-alone : (error : CliError) (s : SchemaModel) (b : RecordBatchTree) → IsRowError error (Fits (batch_records_of s b)) → IsRecordsError error (Ok (table_of_batches s (b ∷ [])))
unfit-alone Input s b h = tt
unfit-alone (Read error) s b h = absurd h
unfit-alone (Write why) s b h = h
unfit-alone MismatchedColumns s b h = λ all. h all.0
unfit-alone IndexOutOfRange s b h = h
unfit-alone (Condition why) s b h = h
unfit-alone (UnknownName i) s b h = h
unfit-alone Output s b h = h
unfit-alone Memory s b h = tt

pub records-unfit : (error : CliError) (s : SchemaModel) (u v : Option Remaining) (b : RecordBatchTree) → ReturnsNext u v (Some b) → IsRowError error (Fits (batch_records_of s b)) → FailsRecords s error u
records-unfit error s None v b g h = tt
records-unfit error s (Some u) None b g h = absurd g
records-unfit error s (Some u) (Some v) b g h =
    let one : u.first 1 ≡ Ok (b ∷ []) = g.1 0 ∙ ap (before (Some b)) g.0 in
    subst (λ (r : Batches). IsRecordsError error (table_with s r)) (sym one) (unfit-alone error s b h)

-- ---- all record batches

pub records-both : (s : SchemaModel) (bs cs : List RecordBatchTree) → record_rows (table_of_batches s (bs ++ cs)) ≡ record_rows (table_of_batches s bs) ++ record_rows (table_of_batches s cs)
records-both s [] cs = refl
records-both s (b ∷ bs) cs =
    ap (λ rs. rows_of (batch_records_of s b) ++ rs) (records-both s bs cs)
    ∙ sym (append_assoc (rows_of (batch_records_of s b)) (record_rows (table_of_batches s bs)) (record_rows (table_of_batches s cs)))

records-more : (s : SchemaModel) (bs : List RecordBatchTree) (b : RecordBatchTree) → record_rows (table_of_batches s (bs ++ b ∷ [])) ≡ record_rows (table_of_batches s bs) ++ rows_of (batch_records_of s b)
records-more s bs b = records-both s bs (b ∷ []) ∙ ap (λ rs. record_rows (table_of_batches s bs) ++ rs) (append-nil (rows_of (batch_records_of s b)))

-- so many record batches were read, and arrays end in the same rows
abbrev pub TailState : ℕ → SchemaModel → ℕ → Option Remaining → Option Remaining → List RowSlot → Type 0
TailState n s k None u held = Unit {0}
TailState n s k (Some t) None held = ⊥
TailState n s k (Some t) (Some u) held = (bs : List RecordBatchTree) × IsAfter t k bs u × (last n held ≡ last n (record_rows (table_of_batches s bs)))

pub tail-begun : (n : ℕ) (s : SchemaModel) (t : Option Remaining) → StartsEmpty t → TailState n s 0 t t []
tail-begun n s None fresh = tt
tail-begun n s (Some t) fresh = ([], behind-none t fresh, refl)

pub tail-more : (n : ℕ) (s : SchemaModel) (k : ℕ) (t u v : Option Remaining) (held new : List RowSlot) (a : Layout) → TailState n s k t u held → ReturnsRecords s u v (Some a) → last n new ≡ last n (held ++ rows_of a) → TailState n s (k + 1) t v new
tail-more n s k None u v held new a w r e = tt
tail-more n s k (Some t) None v held new a w r e = absurd w
tail-more n s k (Some t) (Some u) None held new a w r e = absurd r
tail-more n s k (Some t) (Some u) (Some v) held new a (bs, at, same) (b, is, step) e = (
  bs ++ b ∷ [],
  behind-more t u v k bs b at step,
  e
      ∙ last-before n held (record_rows (table_of_batches s bs)) (rows_of a) same
      ∙ ap (λ (x : Layout). last n (record_rows (table_of_batches s bs) ++ rows_of x)) is
      ∙ ap (last n) (sym (records-more s bs b)),
)

pub tail-end : (n : ℕ) (s : SchemaModel) (k : ℕ) (t u v : Option Remaining) (held found : List RowSlot) → TailState n s k t u held → ReturnsRecords s u v None → found ≡ last n held → AreLastOf n s t found
tail-end n s k None u v held found w r is = tt
tail-end n s k (Some t) None v held found w r is = absurd w
tail-end n s k (Some t) (Some u) None held found w r is = absurd r
tail-end n s k (Some t) (Some u) (Some v) held found (bs, at, same) r is =
    subst (λ (read : Batches). HasTable (table_with s read) (λ h. found ≡ last n (record_rows h))) (sym (behind-whole t u v k bs at r)) (is ∙ same)

of-table : (s : SchemaModel) (error : IpcReadError) (read : Batches) → table_with s read ≡ Err error → read ≡ Err error
of-table s error (Ok bs) e = absurd cc
of-table s error (Err other) e = grind (arith, e)

fit-last : (s : SchemaModel) (bs cs : List RecordBatchTree) → MatchesSchema (table_of_batches s (bs ++ cs)) → MatchesSchema (table_of_batches s cs)
fit-last s [] cs h = h
fit-last s (b ∷ bs) cs h = fit-last s bs cs h.1

unfit-behind : (s : SchemaModel) (bs : List RecordBatchTree) (read : Batches) → HasTable (table_with s read) (λ t. MatchesSchema t → ⊥) → HasTable (table_with s (prepended bs read)) (λ t. MatchesSchema t → ⊥)
unfit-behind s bs (Ok cs) h = λ all. h (fit-last s bs cs all)
unfit-behind s bs (Err error) h = absurd h

fails-behind : (error : CliError) (s : SchemaModel) (bs : List RecordBatchTree) (read : Batches) → IsRecordsError error (table_with s read) → IsRecordsError error (table_with s (prepended bs read))
fails-behind Input s bs read h = tt
fails-behind (Read error) s bs read h = λ real. ap (λ (r : Batches). table_with s (prepended bs r)) (of-table s error read (h real))
fails-behind (Write why) s bs read h = h
fails-behind MismatchedColumns s bs read h = unfit-behind s bs read h
fails-behind IndexOutOfRange s bs read h = h
fails-behind (Condition why) s bs read h = h
fails-behind (UnknownName i) s bs read h = h
fails-behind Output s bs read h = h
fails-behind Memory s bs read h = tt

pub tail-fails : (error : CliError) (n : ℕ) (s : SchemaModel) (k : ℕ) (t u : Option Remaining) (held : List RowSlot) → TailState n s k t u held → FailsRecords s error u → FailsOn s t (record { batch = Some k; error = error })
tail-fails error n s k None u held w h = tt
tail-fails error n s k (Some t) None held w h = absurd w
tail-fails error n s k (Some t) (Some u) held (bs, at, same) h = subst (λ (r : Batches). IsRecordsError error (table_with s r)) (sym (at.first 1)) (fails-behind error s bs (u.first 1) h)

-- an allocation failed, or there are too many record batches
pub tail-stops : (s : SchemaModel) (t : Option Remaining) (batch : Option ℕ) (error : CliError) → error ≡ Memory → FailsOn s t (record { batch = batch; error = error })
tail-stops s None batch error e = tt
tail-stops s (Some t) None error e = e
tail-stops s (Some t) (Some k) error e = rw e tt

pub uncounted : (s : SchemaModel) (t : Option Remaining) (k : ℕ) → FailsOn s t (record { batch = Some k; error = Input })
uncounted s None k = tt
uncounted s (Some t) k = tt

-- ---- opened streams

last-opened : (n : ℕ) (x : Option Decoded) (s : SchemaModel) (t : Option Remaining) (found : List RowSlot) → IsOpened x s t → AreLastOf n s t found → AreLastRows n (option_map stream_ends x) found
last-opened n None s t found o h = tt
last-opened n (Some x) s None found o h = absurd o
last-opened n (Some x) s (Some t) found o h = (0, subst (λ (z : Decoded). HasTable z.whole (λ h. HasEnough n 0 h × (found ≡ last n (record_rows h)))) (sym o) (with-enough (table_with s t.whole) h))
  where
    with-enough : (read : Result TableTree IpcReadError) → HasTable read (λ h. found ≡ last n (record_rows h)) → HasTable read (λ h. HasEnough n 0 h × (found ≡ last n (record_rows h)))
    with-enough (Ok h) is = (inl refl, is)
    with-enough (Err error) is = absurd is

tail-fails-opened : (picks : ProjectionModel) (x : Option Decoded) (s : SchemaModel) (t : Option Remaining) (stop : BatchError) → IsOpened x s t → HasNames picks x → FailsOn s t stop → FailsToTail picks x (option_map stream_ends x) stop
tail-fails-opened picks None s t stop o names h = tt
tail-fails-opened picks (Some x) s None stop o names h = absurd o
tail-fails-opened picks (Some x) s (Some t) stop o names h = by stop.batch (subst (λ (z : Decoded). IsEndError (λ k. z.first (k + 1)) stop.batch stop.error) (sym o) h)
  where
    by : (batch : Option ℕ) → IsEndError (λ k. x.first (k + 1)) batch stop.error → IsTailError picks (Some x) (stream_ends x) batch stop.error
    by None is = inr is
    by (Some k) is = (is, names)

pub unopened : (picks : ProjectionModel) (x : Option Decoded) (ends : Option Ends) (error : CliError) → FailsToOpenColumns picks error x → FailsToTail picks x ends (record { batch = None; error = error })
unopened picks x None error h = tt
unopened picks x (Some ends) error h = inl h

pub last-of-stream : (n : ℕ) (picks : ProjectionModel) (known : Option (List ℕ)) (s : SchemaModel) (t : Option Remaining) (found : List RowSlot) → IsOpened (option_map (stream_contents picks) known) s t → AreLastOf n s t found → AreLastRows n (option_map (λ xs. stream_ends (stream_contents picks xs)) known) found
last-of-stream n picks None s t found o h = tt
last-of-stream n picks (Some xs) s t found o h = last-opened n (Some (stream_contents picks xs)) s t found o h

pub tail-of-stream-fails : (picks : ProjectionModel) (known : Option (List ℕ)) (s : SchemaModel) (t : Option Remaining) (stop : BatchError) → IsOpened (option_map (stream_contents picks) known) s t → HasNames picks (option_map (stream_contents picks) known) → FailsOn s t stop
    → FailsToTail picks (option_map (stream_contents picks) known) (option_map (λ xs. stream_ends (stream_contents picks xs)) known) stop
tail-of-stream-fails picks None s t stop o names h = tt
tail-of-stream-fails picks (Some xs) s t stop o names h = tail-fails-opened picks (Some (stream_contents picks xs)) s t stop o names h
