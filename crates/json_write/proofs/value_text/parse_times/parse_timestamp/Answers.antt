use Rattle.json_write.specs.Times.{unit_digits}
use Rattle.json_write.proofs.TimeResults.{zone_result, zone_missing}
use Rattle.json_write.proofs.value_text.parse_times.parse_timestamp.Goals as goal

pub returns-then-last-eq90 : goal.returns-then-last-eq90
returns-then-last-eq90 c =
    rw c.if-utc.true (zone_result c.args.text.now c.in_ok-last.front.now (unit_digits c.args.unit) (rw c.if-last-eq90.true at c.in_ok-last.ensures.cases.0) _ c.parse_local_timestamp.ensures)

pub returns-else-last-eq90 : goal.returns-else-last-eq90
returns-else-last-eq90 c n fits e =
    zone_missing c.args.text.now c.in_ok-last.front.now c.in_ok-last.last.now (unit_digits c.args.unit) n c.in_ok-last.ensures.cases.0 c.if-last-eq90.false (rw c.if-utc.true at e)
