use Rattle.nest_build.proofs.FixedTrees.{other-lengths}
use Rattle.nest_build.proofs.fixed_size_binary.equality.same_rows.Goals as goal

pub returns-then-n-len : goal.returns-then-n-len
returns-then-n-len c = other-lengths c.args.a.now c.args.b.now _ _ c.len-n.ensures c.len.ensures c.if-n-len.true
