use Rattle.nest_build.proofs.FlatTrees.{flat-inside}
use Rattle.nest_build.proofs.flat.AnyMutableArray.truncate.Goals as goal

pub cut-requires : goal.cut-requires
cut-requires g c = flat-inside (g.B.FlatBuilder.parts c.args.self.now) _ c.requires.within
