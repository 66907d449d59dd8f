use Rattle.std.proofs.Common.{Ok, ◌∙◌, subst}
use Rattle.cli_read.specs.RowBuffers.{BothBuffered, IsStep}
use Rattle.cli_read.specs.Readers.{remaining_batches}
use Rattle.cli_read.specs.declared.comparison.inputs.Step.{Step}
use Rattle.cli_read.proofs.comparison.inputs.compare_all.Goals as goal

pub returns-in-Ok-Done : goal.returns-in-Ok-Done
returns-in-Ok-Done g c = λ t u s hl hr p q.
    let i = c.steps.invariant in
    let of_left = remaining_batches g.R.Read.remaining g.R.Seek.stream_position g.R.Seek.stream_bytes in
    let of_right = remaining_batches g.S.Read.remaining g.S.Seek.stream_position g.S.Seek.stream_bytes in
    let left = c.compare_next.new.left in
    let right = c.compare_next.new.right in
    subst (λ (turn : Step). IsStep t u s (Ok turn) (BothBuffered t u s c.compare_next.new.rows (of_left left.reader) (of_right right.reader) left right)) c.in-Ok-Done.field-0-is
    (c.in-Ok-Done.ensures.step t u s (i.left_schema ∙ hl) (i.right_schema ∙ hr) (i.on t u s hl hr p q))

pub steps-preserved : goal.steps-preserved
steps-preserved g c =
    let i = c.steps.invariant in
    let of_left = remaining_batches g.R.Read.remaining g.R.Seek.stream_position g.R.Seek.stream_bytes in
    let of_right = remaining_batches g.S.Read.remaining g.S.Seek.stream_position g.S.Seek.stream_bytes in
    let left = c.compare_next.new.left in
    let right = c.compare_next.new.right in
    record {
      left_room = c.in-Ok-Continue.ensures.left.0;
      right_room = c.in-Ok-Continue.ensures.right.0;
      left_schema = c.in-Ok-Continue.ensures.left.1 ∙ i.left_schema;
      right_schema = c.in-Ok-Continue.ensures.right.1 ∙ i.right_schema;
      on = λ t u s hl hr p q.
          subst (λ (turn : Step). IsStep t u s (Ok turn) (BothBuffered t u s c.compare_next.new.rows (of_left left.reader) (of_right right.reader) left right)) c.in-Ok-Continue.field-0-is
          (c.in-Ok-Continue.ensures.step t u s (i.left_schema ∙ hl) (i.right_schema ∙ hr) (i.on t u s hl hr p q));
    }
