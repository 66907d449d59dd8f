use Rattle.nest_build.proofs.FlatTrees.{flat-count}
use Rattle.nest_build.proofs.null.mutable.MutableNullArrayMutableArray.len.Goals as goal

pub returns : goal.returns
returns c = flat-count c.args.self.now _ c.len.ensures
