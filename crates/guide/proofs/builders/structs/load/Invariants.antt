use Rattle.std.proofs.Common.{◌≡◌, take}
use Rattle.guide.specs.People.{with_people}
use Rattle.guide.proofs.builders.structs.load.Given as goal

abbrev pub invariant-loop-cells : goal.invariant-loop-cells
invariant-loop-cells l = l.people ≡ with_people (take l.cells-index l.rows) l.fn.people
