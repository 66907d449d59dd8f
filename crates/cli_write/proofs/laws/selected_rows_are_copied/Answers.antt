use Rattle.std.proofs.Common.{arith, ap, length}
use Rattle.cli_rows.specs.Tables.{TableTree}
use Rattle.cli_write.proofs.laws.selected_rows_are_copied.Goals as goal

pub returns-clause-other : goal.returns-clause-other
returns-clause-other c = λ e.
    let n = ap (λ (h : TableTree). length h.batches) e in
    omega (arith, n)
