-- Steps of concatenating inputs.
use Rattle.std.proofs.Common.{◌≡◌, ◌∙◌, ◌⊎◌, inl, inr, ℕ, ◌+◌, List, [], ◌++◌, Option, Some, None, Ok, refl, sym, subst}
use Rattle.std.specs.Option.{option_map}
use Rattle.ipc.specs.Streams.{RecordBatchTree}
use Rattle.ipc_schema.specs.Schemas.{SchemaModel}
use Rattle.cli_read.specs.Decoded.{Decoded}
use Rattle.cli_rows.specs.declared.error.BatchError.{BatchError}
use Rattle.cli_read.specs.Remaining.{FailsToOpen, StartsEmpty, IsOpened, Remaining, with_schema}
use Rattle.cli_read.specs.RowBuffers.{table_of_batches}
use Rattle.cli_read.proofs.BufferSteps.{held-at}
use Rattle.cli_rows.specs.declared.error.CliError.{CliError}
use Rattle.cli_args.specs.Requests.{all}
use Rattle.cli_args.specs.declared.format.Format as forms
use Rattle.cli_write.specs.Copies.{HasSelectedRows, FailsWhileCopying}
use Rattle.cli_write.specs.Concat.{HasSchema, IsAppendError, WritesRemaining, WritesFirst, AppendsInput}
use Rattle.cli_write.specs.Writers.{HasWritten, writer_schema}
use Rattle.cli_write.specs.CopyStates.{CopyEnd, CopyState, FailsAfterBatches, IsCopyStateError}
use Rattle.cli_write.specs.declared.concat.AppendError.{AppendError}
use Rattle.cli_write.specs.declared.concat.AppendError.TheVariants as whys
use Rattle.cli_write.specs.declared.writer.BatchWriter.{BatchWriter}
use Rattle.cli_write.specs.declared.writer.BatchWriter.TheVariants.{File, Stream}
use Rattle.cli_write.proofs.CopySteps.{begun, held-why}

module _ {W : Type 0} (contents : W → Option (List ℕ)) where
  pub put-schema : (form : forms.Format) (start : W) (s : SchemaModel) (went : List RecordBatchTree) (writer : BatchWriter W) → HasWritten contents form start s went writer → writer_schema writer ≡ s
  put-schema forms.TheVariants.Stream start s went (Stream w) p = p.put.schema
  put-schema forms.TheVariants.Stream start s went (File w) p = absurd p
  put-schema forms.TheVariants.File start s went (Stream w) p = absurd p
  put-schema forms.TheVariants.File start s went (File w) p = p.put.schema

  pub begun-all : (form : forms.Format) (s : SchemaModel) (t : Option Remaining) (start : W) (front : List RecordBatchTree) (writer : BatchWriter W) → StartsEmpty t → HasWritten contents form start s front writer → CopyState contents form all s t start front 0 all t writer
  begun-all form s t start front writer fresh put = begun contents form all s t start front writer fresh tt refl put

  pub put-all : (form : forms.Format) (s : SchemaModel) (t : Option Remaining) (start : W) (front : List RecordBatchTree) (k : ℕ) (writer : BatchWriter W) → CopyEnd contents form all s t start front k writer → WritesRemaining contents form start s front t writer
  put-all form s None start front k writer p = tt
  put-all form s (Some t) start front k writer p = (p.came, whole p.are_all, subst (λ (bs : List RecordBatchTree). HasWritten contents form start s (front ++ bs) writer) p.are p.put)
    where
      whole : (t.first k ≡ t.whole) ⊎ HasSelectedRows all (table_of_batches s p.came) → t.whole ≡ Ok p.came
      whole (inl same) = sym same ∙ p.at
      whole (inr enough) = absurd enough

  pub put-first : (form : forms.Format) (x : Option Decoded) (s : SchemaModel) (t : Option Remaining) (start : W) (writer : BatchWriter W) → IsOpened x s t → WritesRemaining contents form start s [] t writer → WritesFirst contents form x start writer
  put-first form None s t start writer o p = tt
  put-first form (Some x) s None start writer o p = absurd o
  put-first form (Some x) s (Some t) start writer o p = subst (λ (y : Decoded). WritesFirst contents form (Some y) start writer) (sym o) (held-at s p.0 t.whole (λ h. HasWritten contents form start h.schema h.batches writer) p.1 p.2)

  pub put-more : (form : forms.Format) (start : W) (r s : SchemaModel) (went : List RecordBatchTree) (t : Option Remaining) (writer : BatchWriter W) → r ≡ s → WritesRemaining contents form start r went t writer → AppendsInput contents form start s went (option_map (with_schema r) t) writer
  put-more form start r s went None writer same p = tt
  put-more form start r s went (Some t) writer same p = held-at r p.0 t.whole (λ h. (h.schema ≡ s) × HasWritten contents form start s (went ++ h.batches) writer) p.1 (same, subst (λ (x : SchemaModel). HasWritten contents form start x (went ++ p.0) writer) same p.2)

  pub more-opened : (form : forms.Format) (start : W) (s : SchemaModel) (went : List RecordBatchTree) (x : Option Decoded) (r : SchemaModel) (t : Option Remaining) (writer : BatchWriter W) → IsOpened x r t → AppendsInput contents form start s went (option_map (with_schema r) t) writer → AppendsInput contents form start s went x writer
  more-opened form start s went None r t writer o p = tt
  more-opened form start s went (Some x) r None writer o p = absurd o
  more-opened form start s went (Some x) r (Some t) writer o p = subst (λ (y : Decoded). AppendsInput contents form start s went (Some y) writer) (sym o) p

pub unlike : (form : forms.Format) (r s : SchemaModel) (went : List RecordBatchTree) (t : Option Remaining) → StartsEmpty t → (r ≡ s → ⊥) → IsAppendError whys.Schema form s went (option_map (with_schema r) t)
unlike form r s went None fresh d = tt
unlike form r s went (Some t) fresh d = held-at r [] (t.first 0) (λ h. h.schema ≡ s → ⊥) fresh d

pub stops-more : (form : forms.Format) (r s : SchemaModel) (went : List RecordBatchTree) (t : Option Remaining) (stop : BatchError) → StartsEmpty t → r ≡ s → IsCopyStateError stop form all r went t → IsAppendError (whys.Batch stop) form s went (option_map (with_schema r) t)
stops-more form r s went None stop fresh same h = tt
stops-more form r s went (Some t) stop fresh same h = by stop.batch h
  where
    by : (batch : Option ℕ) → FailsAfterBatches batch stop.error form all r went (Some t) → FailsWhileCopying all form went (with_schema r t) batch stop.error × HasSchema batch s (with_schema r t)
    by None h = absurd h
    by (Some k) h = (inl h, held-at r [] (t.first 0) (λ h. h.schema ≡ s) fresh same)

pub unopened-more : (form : forms.Format) (s : SchemaModel) (went : List RecordBatchTree) (x : Option Decoded) (error : CliError) → FailsToOpen error x → IsAppendError (whys.Batch (record { batch = None; error = error })) form s went x
unopened-more form s went None error h = tt
unopened-more form s went (Some x) error h = (held-why error all form went (x.first 0) h, tt)

pub unappended-opened : (e : AppendError) (form : forms.Format) (s : SchemaModel) (went : List RecordBatchTree) (x : Option Decoded) (r : SchemaModel) (t : Option Remaining) → IsOpened x r t → IsAppendError e form s went (option_map (with_schema r) t) → IsAppendError e form s went x
unappended-opened e form s went None r t o h = tt
unappended-opened e form s went (Some x) r None o h = absurd o
unappended-opened e form s went (Some x) r (Some t) o h = subst (λ (y : Decoded). IsAppendError e form s went (Some y)) (sym o) h
