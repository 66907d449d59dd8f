use Rattle.std.proofs.Common.{◌≤◌, ap, ◌∙◌, arith}
use Rattle.nest_memory.specs.Rising.{numbers}
use Rattle.nest_memory.proofs.Rises.{start_take, take_one}
use Rattle.nest_memory.proofs.offsets.Offsets.clear.Goals as goal

pub invariant_of-self : goal.invariant_of-self
invariant_of-self g c = let one : 1 ≤ 1 = omega arith in start_take g.O.Offset.value _ _ 1 c.truncate.ensures.items c.self.invariant one

pub returns : goal.returns
returns g c = ap (numbers g.O.Offset.value) c.truncate.ensures.items ∙ take_one g.O.Offset.value _ c.self.invariant.0 c.self.invariant.1
