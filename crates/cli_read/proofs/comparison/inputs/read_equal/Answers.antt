use Rattle.std.proofs.Common.{ap}
use Rattle.cli_read.specs.Readers.{reader_schema, remaining_batches}
use Rattle.cli_read.specs.RowBuffers.{buffered_rows}
use Rattle.cli_read.proofs.Readers.{fresh}
use Rattle.cli_read.proofs.BufferSteps.{begun-as}
use Rattle.cli_read.proofs.comparison.inputs.read_equal.Goals as goal

pub returns : goal.returns
returns g c =
    let left = remaining_batches g.R.Read.remaining g.R.Seek.stream_position g.R.Seek.stream_bytes in
    let t = left c.args.reader in
    let s = reader_schema c.args.reader in
    let p = c.new-side.result in
    let begun = begun-as t (left p.reader) s p.is_over p.read (buffered_rows p) c.new-side.ensures.over c.new-side.ensures.read c.new-side.ensures.rows (ap left c.new-side.ensures.reader) (fresh g.R.Read.remaining g.R.Seek.stream_position g.R.Seek.stream_bytes c.args.reader) in
    c.read_all.ensures t s (ap reader_schema c.new-side.ensures.reader) begun
