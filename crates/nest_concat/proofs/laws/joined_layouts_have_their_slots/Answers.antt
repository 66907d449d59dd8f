use Rattle.nest_concat.proofs.LaidArrays.{is-laid}
use Rattle.nest_concat.proofs.LaidWholes.{two-slots, wholes-joined}
use Rattle.nest_concat.proofs.laws.joined_layouts_have_their_slots.Goals as goal

pub returns-clause-windows : goal.returns-clause-windows
returns-clause-windows c a ws h = (is-laid a ws h).1

pub returns-clause-arrays : goal.returns-clause-arrays
returns-clause-arrays c a ws h = (is-laid a ws h).0

pub returns-clause-wholes : goal.returns-clause-wholes
returns-clause-wholes c bs h f = (wholes-joined bs h f).1

pub returns-clause-array : goal.returns-clause-array
returns-clause-array c bs h f = (wholes-joined bs h f).0

pub returns-clause-two : goal.returns-clause-two
returns-clause-two c a b e f g = two-slots a b e f g
