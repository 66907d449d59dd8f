use Rattle.std.proofs.Common.{◌∙◌, Option, ap, sym, subst}
use Rattle.std.specs.Option.{option_map}
use Rattle.ipc_schema.specs.Schemas.{SchemaModel}
use Rattle.ipc.specs.declared.batch.Batch.{Batch}
use Rattle.ipc.specs.Streams.{record_batch_of}
use Rattle.cli_read.specs.Remaining.{ReturnsNext}
use Rattle.cli_read.specs.Readers.{remaining_batches}
use Rattle.cli_args.specs.RequestTrees.{selection_tree}
use Rattle.cli_write.proofs.CopySteps.{ended, failed, more, over, unread}
use Rattle.cli_write.proofs.copier.copy_next.Goals as goal

pub returns-then-is_complete-clause-step : goal.returns-then-is_complete-clause-step
returns-then-is_complete-clause-step g c = λ form d s t start front k h p.
    let of_ = remaining_batches g.R.Read.remaining g.R.Seek.stream_position g.R.Seek.stream_bytes in
    over g.W.Write.contents form d s start front k (selection_tree c.args.left.now) t (of_ c.args.reader.now) c.args.writer.now (sym c.is_complete.ensures ∙ c.if-is_complete.true) p

pub returns-in-Err-clause-error : goal.returns-in-Err-clause-error
returns-in-Err-clause-error g c = λ form d s t start front k h p.
    let of_ = remaining_batches g.R.Read.remaining g.R.Seek.stream_position g.R.Seek.stream_bytes in
    unread g.W.Write.contents form d s start front k (selection_tree c.args.left.now) t (of_ c.args.reader.now) c.args.writer.now c.in-Err.error (sym c.is_complete.ensures ∙ c.if-is_complete.false) c.in-Err.ensures.error p

pub returns-in-Ok-None-clause-step : goal.returns-in-Ok-None-clause-step
returns-in-Ok-None-clause-step g c = λ form d s t start front k h p.
    let of_ = remaining_batches g.R.Read.remaining g.R.Seek.stream_position g.R.Seek.stream_bytes in
    let u = of_ c.args.reader.now in
    let v = of_ c.next_batch.new.self in
    ended g.W.Write.contents form d s start front k (selection_tree c.args.left.now) t u v c.args.writer.now (subst (λ (n : Option Batch). ReturnsNext u v (option_map record_batch_of n)) c.in-Ok-None.field-0-is c.in-Ok-None.ensures.next) p

pub returns-in-Err-copy_batch-clause-error : goal.returns-in-Err-copy_batch-clause-error
returns-in-Err-copy_batch-clause-error g c = λ form d s t start front k h p.
    let of_ = remaining_batches g.R.Read.remaining g.R.Seek.stream_position g.R.Seek.stream_bytes in
    let u = of_ c.args.reader.now in
    let v = of_ c.next_batch.new.self in
    let b = record_batch_of c.in-Ok-Some.batch in
    let same = ap (λ (x : SchemaModel). x.fields) (c.schema.ensures ∙ c.in-Ok-Some.ensures.schema ∙ h) in
    failed g.W.Write.contents form d s start front k (selection_tree c.args.left.now) _ t u v b c.args.writer.now c.in-Err-copy_batch.error same (sym c.is_complete.ensures ∙ c.if-is_complete.false)
    (subst (λ (n : Option Batch). ReturnsNext u v (option_map record_batch_of n)) c.in-Ok-Some.field-0-is c.in-Ok-Some.ensures.next) c.in-Err-copy_batch.ensures.error p

pub returns-in-Ok-clause-step : goal.returns-in-Ok-clause-step
returns-in-Ok-clause-step g c = λ form d s t start front k h p.
    let of_ = remaining_batches g.R.Read.remaining g.R.Seek.stream_position g.R.Seek.stream_bytes in
    let u = of_ c.args.reader.now in
    let v = of_ c.next_batch.new.self in
    let b = record_batch_of c.in-Ok-Some.batch in
    let same = ap (λ (x : SchemaModel). x.fields) (c.schema.ensures ∙ c.in-Ok-Some.ensures.schema ∙ h) in
    more g.W.Write.contents form d s start front k (selection_tree c.args.left.now) _ (selection_tree c.copy_batch.new.left) t u v b c.args.writer.now c.copy_batch.new.writer same
    (subst (λ (n : Option Batch). ReturnsNext u v (option_map record_batch_of n)) c.in-Ok-Some.field-0-is c.in-Ok-Some.ensures.next) c.in-Ok.ensures.put c.in-Ok.ensures.left p
