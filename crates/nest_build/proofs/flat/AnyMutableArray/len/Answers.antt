use Rattle.nest_build.proofs.FlatTrees.{flat-count}
use Rattle.nest_build.proofs.flat.AnyMutableArray.len.Goals as goal

pub returns : goal.returns
returns g c = flat-count (g.B.FlatBuilder.parts c.args.self.now) _ c.count.ensures
