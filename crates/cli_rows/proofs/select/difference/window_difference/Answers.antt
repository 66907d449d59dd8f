use Rattle.std.proofs.Common.{sym, ◌∙◌, arith}
use Rattle.cli_rows.specs.Rows.{rows_in}
use Rattle.cli_rows.proofs.EqualWindows.{rows-end, same-rows}
use Rattle.cli_rows.proofs.Steps.{more-equal}
use Rattle.cli_rows.proofs.select.difference.window_difference.Goals as goal

pub returns-then-equal_windows-clause-first : goal.returns-then-equal_windows-clause-first
returns-then-equal_windows-clause-first c = same-rows c.args.x.now c.args.y.now (c.equal_windows.ensures.0 c.if-equal_windows.true)

pub loop-k-preserved : goal.loop-k-preserved
loop-k-preserved c = more-equal c.loop-k.k 1 (rows_in c.args.x.now) (rows_in c.args.y.now) c.loop-k.invariant (c.same_row.ensures.0 c.if-not-same_row.false)

pub returns-then-not-same_row-clause-first : goal.returns-then-not-same_row-clause-first
returns-then-not-same_row-clause-first c = (c.loop-k.invariant, λ same. let no = sym c.if-not-same_row.true ∙ c.same_row.ensures.1 same in absurd cc)

pub returns-clause-first : goal.returns-clause-first
returns-clause-first c = rows-end c.args.x.now c.args.y.now c.loop-k.k c.known.ensures c.known-2.ensures c.requires (omega (arith, c.loop-k-test.false, c.len-k-end.ensures)) c.loop-k.invariant
