use Rattle.std.proofs.Common.{arith}
use Rattle.nest_build.proofs.FlatTrees.{joined-count, same-type, native-joins}
use Rattle.nest_build.proofs.flat.primitive.MutablePrimitiveArrayFlatBuilder.join.Goals as goal

pub returns-clause-unrefused : goal.returns-clause-unrefused
returns-clause-unrefused g c =
    let a = c.args.self.now in
    let b = c.args.other.now in
    let l = joined-count a b c.try_extend_from_self.new.self c.len-len.result c.in_default.ensures.slots c.len-len.ensures (omega arith) in
    native-joins g.T.NativeType.PRIMITIVE a b c.known.ensures.fits c.known.ensures.kind (same-type _ _ c.try_extend_from_self.result _ c.in_default.is c.try_extend_from_self.ensures.item_type.1) l
