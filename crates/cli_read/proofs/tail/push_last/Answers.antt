use Rattle.std.proofs.Common.{◌∙◌, ◌++◌, ap, arith}
use Rattle.nest_array.specs.Seen.{layout_of}
use Rattle.cli_read.specs.TailSteps.{rows_reversed}
use Rattle.cli_read.proofs.LastRows.{reversed-one, rows-of-slice}
use Rattle.cli_read.proofs.tail.push_last.Goals as goal

pub returns-clause-rows : goal.returns-clause-rows
returns-clause-rows c =
    let old = c.args.arrays.now.items in
    ap rows_reversed c.in_ok-push.ensures.items
    ∙ reversed-one old c.sliced.result
    ∙ ap (λ l. l ++ rows_reversed old) (rows-of-slice (layout_of c.args.array) (layout_of c.sliced.result) c.args.missing _ _ c.sliced.ensures (omega (arith, c.len-rows.ensures, c.min-many.ensures)) (omega (arith, c.len-rows.ensures, c.min-many.ensures)))
