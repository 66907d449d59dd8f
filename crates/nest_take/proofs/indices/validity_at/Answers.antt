use Rattle.std.proofs.Common.{true, Some, ap}
use Rattle.nest_take.proofs.At.{at-equal}
use Rattle.nest_take.proofs.indices.validity_at.Goals as goal

pub returns-in_ok-bits_at-in-Some-clause-ok : goal.returns-in_ok-bits_at-in-Some-clause-ok
returns-in_ok-bits_at-in-Some-clause-ok c = rw c.in-Some.is (ap Some (at-equal true c.in-Some.bits.now c.args.indices.now c.in_ok-bits_at-in-Some.field-0 c.in_ok-bits_at-in-Some.ensures.ok))
