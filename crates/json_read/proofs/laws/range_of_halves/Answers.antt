use Rattle.json_read.proofs.HalfNearest.{in-range, past-limit}
use Rattle.json_read.proofs.laws.range_of_halves.Goals as goal

pub returns : goal.returns
returns c num den some = (past-limit num den some, in-range num den some)
