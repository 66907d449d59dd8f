use Rattle.std.proofs.Common.{Err, ap, arith}
use Rattle.nest_build.proofs.FlatTrees.{grown-count, truth-fits, truth-refused}
use Rattle.nest_build.proofs.flat.boolean.push_boolean.Goals as goal

pub returns-clause-unrefused : goal.returns-clause-unrefused
returns-clause-unrefused c =
    let l = grown-count c.args.values.now c.try_push.new.self _ c.len-len.result c.in_default.ensures.slots c.len-len.ensures (omega arith) in
    truth-fits c.args.values.now c.args.item c.known.ensures.fits c.known.ensures.kind l

pub returns-in-Err-clause-cause : goal.returns-in-Err-clause-cause
returns-in-Err-clause-cause c =
    truth-refused c.args.values.now c.args.item c.in-Err.error c.known.ensures.fits c.known.ensures.kind c.in-Err.ensures.errors (λ e. c.in-Err.ensures.overflow.0 (ap Err e))
