use Rattle.std.proofs.Common.{ℕ, ◌+◌, ◌≡◌, ◌∙◌, Option, arith, sym, subst}
use Rattle.cli_read.specs.Readers.{remaining_batches}
use Rattle.cli_args.specs.RequestTrees.{selection_tree}
use Rattle.cli_write.specs.CopyStates.{CopyEnd, CopyState, FailsNextBatch, IsCopyStep}
use Rattle.cli_write.proofs.CopySteps.{over, uncounted}
use Rattle.cli_rows.specs.declared.error.CliError.TheVariants.{Input}
use Rattle.cli_write.proofs.copier.copy_all.Goals as goal

pub returns-in-Err-clause-error : goal.returns-in-Err-clause-error
returns-in-Err-clause-error g c = λ form d s t start front h p.
    let i = c.loop-k.invariant in
    c.in-Err.ensures.error form d s t start front c.loop-k.k (i.schema ∙ h) (i.on form d s t start front h p)

pub returns-in-Ok-None-clause-copied : goal.returns-in-Ok-None-clause-copied
returns-in-Ok-None-clause-copied g c = λ form d s t start front h p.
    let i = c.loop-k.invariant in
    let of_ = remaining_batches g.R.Read.remaining g.R.Seek.stream_position g.R.Seek.stream_bytes in
    let k = c.loop-k.k in
    let n = c.copy_next.new in
    subst (λ (turn : Option ℕ). IsCopyStep turn (CopyState g.W.Write.contents form d s t start front (k + 1) (selection_tree n.left) (of_ n.reader) n.writer) (CopyEnd g.W.Write.contents form d s t start front k n.writer)) c.in-Ok-None.field-0-is
    (c.in-Ok-None.ensures.step form d s t start front k (i.schema ∙ h) (i.on form d s t start front h p))

pub loop-k-preserved : goal.loop-k-preserved
loop-k-preserved g c =
    let i = c.loop-k.invariant in
    let of_ = remaining_batches g.R.Read.remaining g.R.Seek.stream_position g.R.Seek.stream_bytes in
    let k = c.loop-k.k in
    let n = c.copy_next.new in
    record {
      schema = c.in-Ok-Some.ensures.schema ∙ i.schema;
      on = λ form d s t start front h p.
          subst (λ (turn : Option ℕ). IsCopyStep turn (CopyState g.W.Write.contents form d s t start front (k + 1) (selection_tree n.left) (of_ n.reader) n.writer) (CopyEnd g.W.Write.contents form d s t start front k n.writer)) c.in-Ok-Some.field-0-is
          (c.in-Ok-Some.ensures.step form d s t start front k (i.schema ∙ h) (i.on form d s t start front h p));
    }

pub returns-then-is_complete-clause-copied : goal.returns-then-is_complete-clause-copied
returns-then-is_complete-clause-copied g c = λ form d s t start front h p.
    let of_ = remaining_batches g.R.Read.remaining g.R.Seek.stream_position g.R.Seek.stream_bytes in
    let last : c.loop-k.k ≡ 18446744073709551615 = omega (arith, c.loop-k-test.false, c.loop-k.auto.k-end) in
    subst (λ (k : ℕ). CopyEnd g.W.Write.contents form d s t start front k c.loop-k.writer) last
    (over g.W.Write.contents form d s start front c.loop-k.k (selection_tree c.loop-k.left) t (of_ c.loop-k.reader) c.loop-k.writer (sym c.is_complete.ensures ∙ c.if-is_complete.true) (c.loop-k.invariant.on form d s t start front h p))

pub returns-clause-error : goal.returns-clause-error
returns-clause-error g c = λ form d s t start front h p.
    let of_ = remaining_batches g.R.Read.remaining g.R.Seek.stream_position g.R.Seek.stream_bytes in
    let last : c.loop-k.k ≡ 18446744073709551615 = omega (arith, c.loop-k-test.false, c.loop-k.auto.k-end) in
    subst (λ (k : ℕ). FailsNextBatch Input form d s front t k) last
    (uncounted g.W.Write.contents form d s start front c.loop-k.k (selection_tree c.loop-k.left) t (of_ c.loop-k.reader) c.loop-k.writer (sym c.is_complete.ensures ∙ c.if-is_complete.false) (c.loop-k.invariant.on form d s t start front h p))
