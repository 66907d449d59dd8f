use Rattle.std.proofs.Common.{◌≡◌, pos, arith, to_z}
use Rattle.std.specs.Int.{w128}
use Rattle.json_write.specs.Times.{unit_digits}
use Rattle.json_write.proofs.Signed.{signed}
use Rattle.json_write.proofs.TimeResults.{time_result, time_number}
use Rattle.json_write.proofs.value_text.parse_times.parse_time.Goals as goal

pub returns-in-Some : goal.returns-in-Some
returns-in-Some c =
    let read = c.in-Some.ensures in
    let whole : to_z w128 c.in-Some.second ≡ pos c.in-Some.second = omega (arith, signed, read.0.0) in
    time_result c.args.text.now (unit_digits c.args.unit) c.in-Some.second c.in-Some.fraction _ read.0.0 read.0.1 whole read.1 c.join.result c.join.ensures

pub returns-in-None : goal.returns-in-None
returns-in-None c = time_number c.args.text.now (unit_digits c.args.unit) c.in-None.ensures _ c.parse_time_number.ensures
