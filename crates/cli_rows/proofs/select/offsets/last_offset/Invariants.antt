use Rattle.std.proofs.Common.{◌-◌, ◌<◌, ◌≤◌, get_or, length}
use Rattle.cli_rows.proofs.select.offsets.last_offset.Given as goal

abbrev pub invariant-halves : goal.invariant-halves
invariant-halves l = (l.low < l.high) × (l.high ≤ length l.offsets) × (get_or l.offsets l.low 0 ≤ l.index) × (l.high < length l.offsets → l.index < get_or l.offsets l.high 0)

abbrev pub decreases-halves : goal.decreases-halves
decreases-halves l = l.high - l.low
