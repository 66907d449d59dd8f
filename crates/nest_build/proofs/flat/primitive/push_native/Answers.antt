use Rattle.std.proofs.Common.{arith}
use Rattle.nest_build.proofs.FlatTrees.{grown-count, native-fits}
use Rattle.nest_build.proofs.flat.primitive.push_native.Goals as goal

pub returns-clause-unrefused : goal.returns-clause-unrefused
returns-clause-unrefused g c =
    let l = grown-count c.args.values.now c.try_push.new.self _ c.len-len.result c.in_ok-try_push.ensures.slots c.len-len.ensures (omega arith) in
    native-fits g.T.NativeType.PRIMITIVE g.T.NativeType.numbers c.args.values.now c.args.item c.known.ensures.fits c.known.ensures.kind l
