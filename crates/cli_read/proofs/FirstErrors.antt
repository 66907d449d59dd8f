-- Record batches read up to the first error.
use Rattle.std.proofs.Common.{◌≡◌, inl, inr, ℕ, ◌+◌, ◌∷◌, [], ◌++◌, List, Option, Some, None, Result, Ok, Err, refl, subst, sym}
use Rattle.std.specs.Prelude.{IsOk}
use Rattle.std.specs.Option.{option_map}
use Rattle.ipc_flatbuf.specs.declared.error.IpcReadError.{IpcReadError}
use Rattle.ipc_schema.specs.Schemas.{SchemaModel}
use Rattle.ipc.specs.Streams.{RecordBatchTree}
use Rattle.cli_rows.specs.declared.error.BatchError.{BatchError}
use Rattle.cli_rows.specs.declared.error.CliError.{CliError}
use Rattle.cli_read.specs.CountSteps.{DecodesAlike, FailsIn}
use Rattle.cli_read.specs.Decoded.{Decoded, table_with}
use Rattle.cli_read.specs.FirstErrors.{ReadsFirst}
use Rattle.cli_read.specs.Remaining.{FailsToReadNext, Remaining, ReturnsNext, StartsEmpty, with_schema}
use Rattle.cli_read.specs.RowBuffers.{IsAfter}
use Rattle.cli_read.proofs.BufferSteps.{behind-first, behind-whole}
use Rattle.cli_read.proofs.Counted.{CountState, count-begun, count-fails, count-more, decodes}

abbrev Batches : Type 0
Batches = Result (List RecordBatchTree) IpcReadError

-- so many record batches were read
abbrev pub ReadState : ℕ → Option Remaining → Option Remaining → Type 0
ReadState k t u = (n : ℕ) × CountState k t u n

pub read-begun : (t : Option Remaining) → StartsEmpty t → ReadState 0 t t
read-begun t fresh = (0, count-begun t fresh)

pub read-more : (k : ℕ) (t u v : Option Remaining) (b : RecordBatchTree) → ReadState k t u → ReturnsNext u v (Some b) → ReadState (k + 1) t v
read-more k t u v b (n, w) r = (n + b.rows, count-more k t u v n (n + b.rows) b w r refl)

pub read-fails : (error : CliError) (s : SchemaModel) (k : ℕ) (t u : Option Remaining) → ReadState k t u → FailsToReadNext error u → FailsIn (option_map (with_schema s) t) (record { batch = Some k; error = error })
read-fails error s k t u (n, w) h = count-fails error s k t u n w h

pub read-count : (s : SchemaModel) (k : ℕ) (t u : Option Remaining) → ReadState k t u → ReadsFirst k (option_map (with_schema s) t)
read-count s k None u w = tt
read-count s k (Some t) None (n, w) = absurd w
read-count s k (Some t) (Some u) (n, (bs, at, is)) = inl (decodes s (t.first k) bs (behind-first t u k bs at))

pub read-whole : (s : SchemaModel) (count k : ℕ) (t u v : Option Remaining) → ReadState k t u → ReturnsNext u v None → ReadsFirst count (option_map (with_schema s) t)
read-whole s count k None u v w r = tt
read-whole s count k (Some t) None v (n, w) r = absurd w
read-whole s count k (Some t) (Some u) None (n, w) r = absurd r
read-whole s count k (Some t) (Some u) (Some v) (n, (bs, at, is)) r = inr (decodes s t.whole bs (behind-whole t u v k bs at r))

-- both decode alike
pub reads-alike : (count : ℕ) (x y : Option Decoded) → DecodesAlike x y → ReadsFirst count y → ReadsFirst count x
reads-alike count None y o h = tt
reads-alike count (Some x) None o h = absurd o
reads-alike count (Some x) (Some y) o h = subst (λ (z : Decoded). ReadsFirst count (Some z)) (sym o) h
