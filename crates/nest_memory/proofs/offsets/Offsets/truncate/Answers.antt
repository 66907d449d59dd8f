use Rattle.std.proofs.Common.{◌+◌, ap, ◌∙◌, arith, take}
use Rattle.nest_memory.specs.Rising.{numbers}
use Rattle.nest_memory.proofs.Rises.{start_take, numbers_take}
use Rattle.nest_memory.proofs.offsets.Offsets.truncate.Goals as goal

pub invariant_of-self : goal.invariant_of-self
invariant_of-self g c = start_take g.O.Offset.value _ _ _ c.truncate.ensures.items c.self.invariant (omega arith)

pub returns : goal.returns
returns g c = ap (numbers g.O.Offset.value) c.truncate.ensures.items ∙ numbers_take g.O.Offset.value _ _ ∙ ap (take (c.args.n + 1)) c.self.view_is
