use Rattle.std.proofs.Common.{◌≡◌, ◌<◌, false, replicate}
use Rattle.nest_model.specs.BuilderItem as items
use Rattle.nest_model.specs.BuilderAppend.{AcceptedAll}
use Rattle.nest_model.specs.BuilderRefusals.{nulls_pass}
use Rattle.nest_build.proofs.push.extend_nulls.Given as goal

abbrev pub invariant-loop-i : goal.invariant-loop-i
invariant-loop-i g l =
    AcceptedAll (replicate l._i items.null) (g.B.MutableArray.model l.fn.builder) (g.B.MutableArray.model l.builder)
    × (0 < l._i → nulls_pass l._i (g.B.MutableArray.model l.fn.builder) ≡ false)
