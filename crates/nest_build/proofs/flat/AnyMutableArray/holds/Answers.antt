use Rattle.nest_build.proofs.FlatTrees.{flat-within}
use Rattle.nest_build.proofs.flat.AnyMutableArray.holds.Goals as goal

pub is_value-requires : goal.is_value-requires
is_value-requires g c = flat-within (g.B.FlatBuilder.parts c.args.self.now) _ c.requires
