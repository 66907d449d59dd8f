use Rattle.std.proofs.Common.{Err, ap, arith}
use Rattle.nest_build.proofs.FlatTrees.{joined-count, same-type, truth-joins, truth-join_refused}
use Rattle.nest_build.proofs.flat.boolean.MutableBooleanArrayFlatBuilder.join.Goals as goal

pub returns-in-Err-clause-cause : goal.returns-in-Err-clause-cause
returns-in-Err-clause-cause c =
    truth-join_refused c.args.self.now c.args.other.now c.in-Err.error c.known.ensures.fits c.known.ensures.kind c.in-Err.ensures.errors
    (λ e. c.in-Err.ensures.item_type.0 (ap Err e)) (λ e. c.in-Err.ensures.overflow.0 (ap Err e))

pub returns-clause-unrefused : goal.returns-clause-unrefused
returns-clause-unrefused c =
    let a = c.args.self.now in
    let b = c.args.other.now in
    let l = joined-count a b c.try_extend_from_self.new.self c.len-len.result c.in_default.ensures.slots c.len-len.ensures (omega arith) in
    truth-joins a b c.known.ensures.fits c.known.ensures.kind (same-type _ _ c.try_extend_from_self.result _ c.in_default.is c.try_extend_from_self.ensures.item_type.1) l
