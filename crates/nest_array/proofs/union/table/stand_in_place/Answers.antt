use Rattle.std.proofs.Common.{pos, arith}
use Rattle.nest_array.proofs.Tables.{in-places}
use Rattle.nest_array.proofs.union.table.stand_in_place.Goals as goal

pub returns : goal.returns
returns c = λ t. in-places c.args.ids.now (pos 0) (λ j h. c.loop-k.invariant j (omega (arith, c.loop-k.auto.k-end, c.loop-k-test.false, h)))
