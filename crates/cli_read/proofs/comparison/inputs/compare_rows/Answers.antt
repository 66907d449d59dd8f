use Rattle.std.proofs.Common.{ap, subst, sym, ◌∙◌}
use Rattle.std.specs.Option.{option_map}
use Rattle.ipc_schema.specs.Schemas.{SchemaModel}
use Rattle.cli_read.specs.Remaining.{with_schema}
use Rattle.cli_read.specs.RowBuffers.{buffered_rows}
use Rattle.cli_read.specs.Readers.{remaining_batches, reader_schema}
use Rattle.cli_read.specs.Comparisons.{ComparesInputs}
use Rattle.cli_read.proofs.Readers.{fresh}
use Rattle.cli_read.proofs.BufferSteps.{begun-as}
use Rattle.cli_read.proofs.comparison.inputs.compare_rows.Goals as goal

pub returns : goal.returns
returns g c =
    let of_left = remaining_batches g.R.Read.remaining g.R.Seek.stream_position g.R.Seek.stream_bytes in
    let of_right = remaining_batches g.S.Read.remaining g.S.Seek.stream_position g.S.Seek.stream_bytes in
    let t = of_left c.args.left in
    let u = of_right c.args.right in
    let s = reader_schema c.args.left in
    let p = c.new-left.result in
    let q = c.new-right.result in
    let x = begun-as t (of_left p.reader) s p.is_over p.read (buffered_rows p) c.new-left.ensures.over c.new-left.ensures.read c.new-left.ensures.rows (ap of_left c.new-left.ensures.reader) (fresh g.R.Read.remaining g.R.Seek.stream_position g.R.Seek.stream_bytes c.args.left) in
    let y = begun-as u (of_right q.reader) s q.is_over q.read (buffered_rows q) c.new-right.ensures.over c.new-right.ensures.read c.new-right.ensures.rows (ap of_right c.new-right.ensures.reader) (fresh g.S.Read.remaining g.S.Seek.stream_position g.S.Seek.stream_bytes c.args.right) in
    subst (λ (r : SchemaModel). ComparesInputs (option_map (with_schema s) t) (option_map (with_schema r) u) c.compare_all.result) c.requires.same
    (c.compare_all.ensures t u s (ap reader_schema c.new-left.ensures.reader) (ap reader_schema c.new-right.ensures.reader ∙ sym c.requires.same) x y)
