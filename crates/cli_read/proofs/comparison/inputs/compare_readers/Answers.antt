use Rattle.std.proofs.Common.{◌∙◌, sym}
use Rattle.std.proofs.lemmas.Bool.{not-false, not-true}
use Rattle.std.proofs.lemmas.Bool.Decides.{not_from_Decides}
use Rattle.ipc_schema.specs.SchemaEq.{same_schema-decides}
use Rattle.cli_read.specs.Readers.{remaining_batches, reader_schema}
use Rattle.cli_read.proofs.Readers.{fresh}
use Rattle.cli_read.proofs.BufferSteps.{tell-schema}
use Rattle.cli_read.proofs.comparison.inputs.compare_readers.Goals as goal

pub returns-then-ne : goal.returns-then-ne
returns-then-ne g c =
    let of_left = remaining_batches g.R.Read.remaining g.R.Seek.stream_position g.R.Seek.stream_bytes in
    let of_right = remaining_batches g.S.Read.remaining g.S.Seek.stream_position g.S.Seek.stream_bytes in
    tell-schema (of_left c.args.left) (of_right c.args.right) (reader_schema c.args.left) (reader_schema c.args.right)
    (fresh g.R.Read.remaining g.R.Seek.stream_position g.R.Seek.stream_bytes c.args.left) (fresh g.S.Read.remaining g.S.Seek.stream_position g.S.Seek.stream_bytes c.args.right)
    (λ same. not_from_Decides _ (same_schema-decides _ _) (not-true _ (sym c.ne.ensures ∙ c.if-ne.true)) (c.schema.ensures ∙ same ∙ sym c.schema-2.ensures))

pub compare_rows-requires : goal.compare_rows-requires
compare_rows-requires g c = record { same = sym c.schema.ensures ∙ (same_schema-decides _ _).0 (not-false _ (sym c.ne.ensures ∙ c.if-ne.false)) ∙ c.schema-2.ensures }
