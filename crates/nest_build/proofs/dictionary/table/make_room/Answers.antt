use Rattle.std.proofs.Common.{arith}
use Rattle.nest_build.proofs.dictionary.table.make_room.Goals as goal

pub returns-clause-room : goal.returns-clause-room
returns-clause-room c = omega (arith, c.seat_all.ensures.same_length, c.in_ok-more.ensures.ok.1, c.max.ensures, c.in-Some.ensures, c.requires.half)
