use Rattle.nest_build.proofs.FlatTrees.{flat-inside}
use Rattle.nest_build.proofs.NullTrees.{null-cut}
use Rattle.nest_build.proofs.null.mutable.MutableNullArrayMutableArray.truncate.Goals as goal

pub cut-requires : goal.cut-requires
cut-requires c = flat-inside c.args.self.now _ c.requires.within

pub returns : goal.returns
returns c = null-cut c.args.self.now c.cut.new.self c.args.n c.known.ensures.kind c.cut.ensures c.requires.within
