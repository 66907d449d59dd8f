use Rattle.std.proofs.Common.{◌≡◌, ◌≤◌, take}
use Rattle.std.specs.List.{sum_by}
use Rattle.cli_read.specs.InfoTotals.{dictionaries_in}
use Rattle.cli_read.proofs.info.totals.dictionary_count.Given as goal

abbrev pub invariant-loop-info : goal.invariant-loop-info
invariant-loop-info l = (l.count ≡ sum_by dictionaries_in (take l.info-index l.infos)) × (l.count ≤ l.info-index)
