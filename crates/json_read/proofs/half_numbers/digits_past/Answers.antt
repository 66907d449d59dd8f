use Rattle.std.proofs.Common.{arith}
use Rattle.json_read.proofs.HalfRounding.{digits-past}
use Rattle.json_read.proofs.half_numbers.digits_past.Goals as goal

pub returns : goal.returns
returns c = let d = digits-past c.args.number c.requires in record { digits = omega (arith, d.0); few = omega (arith, d.0, d.1) }
