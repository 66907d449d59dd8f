use Rattle.std.proofs.Common.{◌≡◌, take}
use Rattle.cli_rows.specs.Rows.{rows_in}
use Rattle.cli_rows.proofs.select.difference.window_difference.Given as goal

abbrev pub invariant-loop-k : goal.invariant-loop-k
invariant-loop-k l = take l.k (rows_in l.x) ≡ take l.k (rows_in l.y)
