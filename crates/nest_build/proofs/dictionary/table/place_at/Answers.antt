use Rattle.std.proofs.Common.{arith}
use Rattle.nest_build.proofs.Seats.{place_near, place_far}
use Rattle.nest_build.proofs.dictionary.table.place_at.Goals as goal

pub returns-then-step-to_end-clause-value : goal.returns-then-step-to_end-clause-value
returns-then-step-to_end-clause-value c = place_near c.args.hash c.args.step c.args.places (omega (arith, c.if-step-to_end.true))

pub returns-else-step-to_end-clause-value : goal.returns-else-step-to_end-clause-value
returns-else-step-to_end-clause-value c = place_far c.args.hash c.args.step c.args.places c.requires (omega (arith, c.if-step-to_end.false))
