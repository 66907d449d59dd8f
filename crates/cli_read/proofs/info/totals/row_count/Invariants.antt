use Rattle.std.proofs.Common.{◌≡◌, ◌≤◌, ◌*◌, take}
use Rattle.std.specs.List.{sum_by}
use Rattle.cli_read.specs.InfoTotals.{rows_in}
use Rattle.cli_read.proofs.info.totals.row_count.Given as goal

abbrev pub invariant-loop-info : goal.invariant-loop-info
invariant-loop-info l = (l.rows ≡ sum_by rows_in (take l.info-index l.infos)) × (l.rows ≤ l.info-index * 18446744073709551616)
