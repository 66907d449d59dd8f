use Rattle.float_text.proofs.Shorter.{none-above-shortest}
use Rattle.float_text.proofs.laws.shortest_has_largest_power.Goals as goal

pub returns : goal.returns
returns c f bits d p some finite h = none-above-shortest f bits some finite d p h
