-- Record batches printed one after another.
use Rattle.std.proofs.Common.{◌≡◌, ℕ, ◌+◌, List, [], ◌∷◌, ◌++◌, Option, Some, None, Result, Ok, Err, true, false, inl, inr, sym, ap, subst, ◌∙◌}
use Rattle.std.specs.Prelude.{⊤}
use Rattle.std.specs.Option.{option_map}
use Rattle.std.specs.Io.KnownBytes.{Keeps}
use Rattle.std.proofs.KnownBytes.{Keeps-refl}
use Rattle.ipc_flatbuf.specs.declared.error.IpcReadError as formats
use Rattle.ipc_schema.specs.Schemas.{SchemaModel}
use Rattle.ipc.specs.Streams.{RecordBatchTree}
use Rattle.cli_args.specs.Requests.{RequestTree}
use Rattle.cli_rows.specs.declared.error.BatchError.{BatchError}
use Rattle.cli_rows.specs.declared.error.CliError.{CliError}
use Rattle.cli_rows.specs.declared.error.CliError.TheVariants.{Input, Read, Write, MismatchedColumns, IndexOutOfRange, Condition, UnknownName, Output, Memory}
use Rattle.cli_read.specs.Decoded.{Decoded, table_with}
use Rattle.cli_read.specs.Printed.{FailsWhilePrinting, FailsWith, HasRowsToPrint, Prints, WritesText}
use Rattle.cli_read.specs.Remaining.{FailsToReadNext, FailsToOpen, IsOpened, IsReadErrorOf, Remaining, ReturnsNext, StartsEmpty, with_schema}
use Rattle.cli_read.specs.RemainingRequests.{IsRequestInRowOrder, batch_table, is_complete_request, remaining_request, table_row_count}
use Rattle.cli_read.specs.RowBuffers.{IsAfter, prepended, table_of_batches}
use Rattle.cli_read.proofs.RequestSteps.{Going, begun, gone-on, halted, is-enough, is-not-enough, wrote-first}
use Rattle.cli_read.proofs.BufferSteps.{behind-first, behind-more, behind-none, behind-whole}

abbrev pub PrintState : RequestTree → RequestTree → SchemaModel → ℕ → Option Remaining → Option Remaining → Option (List ℕ) → Option (List ℕ) → Type 0
PrintState q left s k None u old new = Unit {0}
PrintState q left s k (Some t) None old new = ⊥
PrintState q left s k (Some t) (Some u) old new = (bs : List RecordBatchTree) × IsAfter t k bs u × Going q left s bs old new

held-is : (s : SchemaModel) (bs : List RecordBatchTree) (read : Result (List RecordBatchTree) formats.IpcReadError) → read ≡ Ok bs → Ok (table_of_batches s bs) ≡ table_with s read
held-is s bs read e = ap (table_with s) (sym e)

pub state-begun : (q : RequestTree) (s : SchemaModel) (t : Option Remaining) (old new : Option (List ℕ)) → IsRequestInRowOrder q → StartsEmpty t → WritesText q (Ok (batch_table s None)) old new → PrintState q q s 0 t t old new
state-begun q s None old new order fresh w = tt
state-begun q s (Some t) old new order fresh w = ([], behind-none t fresh, begun q s old new order w)

pub not-begun : (q : RequestTree) (s : SchemaModel) (t : Option Remaining) (old new : Option (List ℕ)) (error : CliError) → StartsEmpty t → FailsWith error q (Ok (batch_table s None)) (Keeps old new) old new
    → Prints q (option_map (with_schema s) t) (Err (record { batch = None; error = error })) old new
not-begun q s None old new error fresh h = tt
not-begun q s (Some t) old new error fresh h = subst (λ read. FailsWith error q read (Keeps old new) old new) (held-is s [] (t.first 0) fresh) h

pub complete : (q left : RequestTree) (s : SchemaModel) (k : ℕ) (t u : Option Remaining) (old new : Option (List ℕ)) → PrintState q left s k t u old new → is_complete_request left ≡ true → Prints q (option_map (with_schema s) t) (Ok tt) old new
complete q left s k None u old new w e = tt
complete q left s k (Some t) None old new w e = absurd w
complete q left s k (Some t) (Some u) old new (bs, at, going) e =
    let is = held-is s bs (t.first k) (behind-first t u k bs at) in
    (k, subst (λ read. WritesText q read old new) is (wrote-first q left s bs old new going), inr (subst (HasRowsToPrint q) is (is-enough q left s bs old new going e)))

pub at-end : (q left : RequestTree) (s : SchemaModel) (k : ℕ) (t u v : Option Remaining) (old new : Option (List ℕ)) → PrintState q left s k t u old new → ReturnsNext u v None → Prints q (option_map (with_schema s) t) (Ok tt) old new
at-end q left s k None u v old new w n = tt
at-end q left s k (Some t) None v old new w n = absurd w
at-end q left s k (Some t) (Some u) None old new w n = absurd n
at-end q left s k (Some t) (Some u) (Some v) old new (bs, at, going) n =
    let first = held-is s bs (t.first k) (behind-first t u k bs at) in
    let whole = held-is s bs t.whole (behind-whole t u v k bs at n) in
    (k, subst (λ read. WritesText q read old new) first (wrote-first q left s bs old new going), inl (sym first ∙ whole))

stopped : (error : CliError) (q left : RequestTree) (s : SchemaModel) (k : ℕ) (t u : Remaining) (bs : List RecordBatchTree) (old new mid : Option (List ℕ)) → IsAfter t k bs u → Going q left s bs old mid → is_complete_request left ≡ false
    → FailsWith error q ((with_schema s t).first (k + 1)) (WritesText q (Ok (table_of_batches s bs)) old new) old new → FailsWhilePrinting q (with_schema s t) (Some k) error old new
stopped error q left s k t u bs old new mid at going e h =
    let is = held-is s bs (t.first k) (behind-first t u k bs at) in (
      subst (λ read. FailsWith error q ((with_schema s t).first (k + 1)) (WritesText q read old new) old new) is h,
      subst (λ read. HasRowsToPrint q read → ⊥) is (is-not-enough q left s bs old mid going e),
    )

pub batch-printed : (q left next : RequestTree) (s : SchemaModel) (k : ℕ) (t u v : Option Remaining) (old mid new : Option (List ℕ)) (b : RecordBatchTree) → PrintState q left s k t u old mid → is_complete_request left ≡ false → ReturnsNext u v (Some b)
    → WritesText left (Ok (batch_table s (Some b))) mid new → next ≡ remaining_request left (table_row_count (batch_table s (Some b))) → PrintState q next s (k + 1) t v old new
batch-printed q left next s k None u v old mid new b w e n wrote is = tt
batch-printed q left next s k (Some t) None v old mid new b w e n wrote is = absurd w
batch-printed q left next s k (Some t) (Some u) None old mid new b w e n wrote is = absurd n
batch-printed q left next s k (Some t) (Some u) (Some v) old mid new b (bs, at, going) e n wrote is = (bs ++ b ∷ [], behind-more t u v k bs b at n, gone-on q left next s bs old mid new b going e wrote is)

pub batch-fails : (q left : RequestTree) (s : SchemaModel) (k : ℕ) (t u v : Option Remaining) (old mid new : Option (List ℕ)) (b : RecordBatchTree) (error : CliError) → PrintState q left s k t u old mid → is_complete_request left ≡ false → ReturnsNext u v (Some b)
    → FailsWith error left (Ok (batch_table s (Some b))) (Keeps mid new) mid new → Prints q (option_map (with_schema s) t) (Err (record { batch = Some k; error = error })) old new
batch-fails q left s k None u v old mid new b error w e n h = tt
batch-fails q left s k (Some t) None v old mid new b error w e n h = absurd w
batch-fails q left s k (Some t) (Some u) None old mid new b error w e n h = absurd n
batch-fails q left s k (Some t) (Some u) (Some v) old mid new b error (bs, at, going) e n h =
    let next = held-is s (bs ++ b ∷ []) (t.first (k + 1)) (behind-first t v (k + 1) (bs ++ b ∷ []) (behind-more t u v k bs b at n)) in
    stopped error q left s k t u bs old new mid at going e (subst (λ read. FailsWith error q read (WritesText q (Ok (table_of_batches s bs)) old new) old new) next (halted error q left s bs old mid new b going e h))

fails-next : (error : CliError) (q : RequestTree) (s : SchemaModel) (t u : Remaining) (k : ℕ) (bs : List RecordBatchTree) (Earlier : Type 0) (old new : Option (List ℕ)) → IsAfter t k bs u → IsReadErrorOf error (u.first 1) → Earlier
    → FailsWith error q ((with_schema s t).first (k + 1)) Earlier old new
fails-next Input q s t u k bs Earlier old new at h earlier = earlier
fails-next (Read error) q s t u k bs Earlier old new at h earlier = (earlier, λ real. ap (table_with s) (at.first 1 ∙ ap (prepended bs) (h real)))
fails-next (Write why) q s t u k bs Earlier old new at h earlier = absurd h
fails-next MismatchedColumns q s t u k bs Earlier old new at h earlier = absurd h
fails-next IndexOutOfRange q s t u k bs Earlier old new at h earlier = absurd h
fails-next (Condition why) q s t u k bs Earlier old new at h earlier = absurd h
fails-next (UnknownName i) q s t u k bs Earlier old new at h earlier = absurd h
fails-next Output q s t u k bs Earlier old new at h earlier = absurd h
fails-next Memory q s t u k bs Earlier old new at h earlier = absurd h

pub batch-unread : (q left : RequestTree) (s : SchemaModel) (k : ℕ) (t u : Option Remaining) (old new : Option (List ℕ)) (error : CliError) → PrintState q left s k t u old new → is_complete_request left ≡ false → FailsToReadNext error u
    → Prints q (option_map (with_schema s) t) (Err (record { batch = Some k; error = error })) old new
batch-unread q left s k None u old new error w e h = tt
batch-unread q left s k (Some t) None old new error w e h = absurd w
batch-unread q left s k (Some t) (Some u) old new error (bs, at, going) e h =
    stopped error q left s k t u bs old new new at going e (fails-next error q s t u k bs (WritesText q (Ok (table_of_batches s bs)) old new) old new at h (wrote-first q left s bs old new going))

pub uncounted : (q left : RequestTree) (s : SchemaModel) (k : ℕ) (t u : Option Remaining) (old new : Option (List ℕ)) → PrintState q left s k t u old new → is_complete_request left ≡ false → Prints q (option_map (with_schema s) t) (Err (record { batch = Some k; error = Input })) old new
uncounted q left s k None u old new w e = tt
uncounted q left s k (Some t) None old new w e = absurd w
uncounted q left s k (Some t) (Some u) old new (bs, at, going) e = stopped Input q left s k t u bs old new new at going e (wrote-first q left s bs old new going)

pub opened : (q : RequestTree) (x : Option Decoded) (s : SchemaModel) (t : Option Remaining) (result : Result ⊤ BatchError) (old new : Option (List ℕ)) → IsOpened x s t → Prints q (option_map (with_schema s) t) result old new → Prints q x result old new
opened q None s t result old new h a = tt
opened q (Some x) s None result old new h a = absurd h
opened q (Some x) s (Some t) result old new h a = subst (λ (z : Decoded). Prints q (Some z) result old new) (sym h) a

unopened-by : (error : CliError) (q : RequestTree) (x : Decoded) (old : Option (List ℕ)) → IsReadErrorOf error (x.first 0) → FailsWith error q (x.first 0) (Keeps old old) old old
unopened-by Input q x old h = Keeps-refl old
unopened-by (Read error) q x old h = (Keeps-refl old, h)
unopened-by (Write why) q x old h = absurd h
unopened-by MismatchedColumns q x old h = absurd h
unopened-by IndexOutOfRange q x old h = absurd h
unopened-by (Condition why) q x old h = absurd h
unopened-by (UnknownName i) q x old h = absurd h
unopened-by Output q x old h = absurd h
unopened-by Memory q x old h = absurd h

pub unopened : (q : RequestTree) (x : Option Decoded) (old : Option (List ℕ)) (error : CliError) → FailsToOpen error x → Prints q x (Err (record { batch = None; error = error })) old old
unopened q None old error h = tt
unopened q (Some x) old error h = unopened-by error q x old h
