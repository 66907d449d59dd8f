use Rattle.std.proofs.Common.{arith}
use Rattle.cli_rows.specs.Rows.{rows_in}
use Rattle.cli_read.specs.RowBuffers.{buffered_rows}
use Rattle.cli_read.proofs.Buffers.{look-differ}
use Rattle.cli_read.proofs.comparison.inputs.compare_buffers.Goals as goal

pub returns-in-Some : goal.returns-in-Some
returns-in-Some g c =
    let x = c.window-x.result in
    let y = c.window-y.result in
    look-differ (buffered_rows c.args.left.now) (buffered_rows c.args.right.now) (rows_in x) (rows_in y) c.min-n.result c.in-Some.k
    (omega (arith, c.min-n.ensures, c.len.ensures, c.len-2.ensures)) (omega (arith, c.min-n.ensures, c.len.ensures, c.len-2.ensures)) c.window-x.ensures.rows c.window-y.ensures.rows
    (omega (arith, c.in-Some.ensures.within, c.window-x.ensures.count)) c.in-Some.ensures.first
