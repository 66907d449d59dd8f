use Rattle.std.proofs.Common.{arith}
use Rattle.nest_array.specs.Seen.{layout_of}
use Rattle.nest_build.proofs.Lists.{child_count}
use Rattle.nest_build.proofs.list.mutable.MutableListArray.freeze.Goals as goal

pub freeze_over-requires-clause-covers : goal.freeze_over-requires-clause-covers
freeze_over-requires-clause-covers g c =
    let w = c.is_complete.ensures.0 c.if-not-is_complete.false in
    let n = child_count (layout_of c.in-Ok.values) (g.M.MutableArray.model c.args.self.now.values) c.in-Ok.ensures.slots in
    omega (arith, w.2, n)
