use Rattle.nest_build.proofs.NullTrees.{null-invalid}
use Rattle.nest_build.proofs.null.mutable.MutableNullArrayMutableArray.is_valid.Goals as goal

pub returns : goal.returns
returns c = null-invalid c.args.self.now _ c.known.ensures.kind c.requires
