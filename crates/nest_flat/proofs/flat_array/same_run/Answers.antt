use Rattle.nest_flat.specs.BareSlots.{same-along}
use Rattle.nest_flat.specs.SameRuns.{run-bare}
use Rattle.nest_flat.proofs.flat_array.same_run.Goals as goal

pub returns : goal.returns
returns g c =
    same-along _ _ _ _ _ (run-bare (g.A.FlatArray.layout c.args.a) c.args.o c.args.n _ c.has_validity.ensures c.if-has_validity.false)
    (run-bare (g.A.FlatArray.layout c.args.b) c.args.p c.args.n _ c.has_validity-else-has_validity.ensures c.if-has_validity-2.false) c.same_values.ensures
