use Rattle.nest_build.proofs.FlatTrees.{flat-within, flat-valid}
use Rattle.nest_build.proofs.flat.AnyMutableArray.is_valid.Goals as goal

pub bit-requires : goal.bit-requires
bit-requires g c = flat-within (g.B.FlatBuilder.parts c.args.self.now) _ c.requires

pub returns : goal.returns
returns g c = flat-valid (g.B.FlatBuilder.parts c.args.self.now) _ _ c.facts.ensures.nulls c.requires c.bit.ensures
