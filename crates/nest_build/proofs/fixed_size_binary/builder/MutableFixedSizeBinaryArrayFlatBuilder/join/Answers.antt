use Rattle.std.proofs.Common.{arith}
use Rattle.nest_build.proofs.FlatTrees.{joined-count, same-type}
use Rattle.nest_build.proofs.FixedTrees.{fixed-joins, joined-bytes}
use Rattle.nest_build.proofs.fixed_size_binary.builder.MutableFixedSizeBinaryArrayFlatBuilder.join.Goals as goal

pub returns-clause-unrefused : goal.returns-clause-unrefused
returns-clause-unrefused c =
    let a = c.args.self.now in
    let b = c.args.other.now in
    let d = c.try_extend_from_self.new.self in
    let l = joined-count a b d c.len-len.result c.in_default.ensures.slots c.len-len.ensures (omega arith) in
    let m = joined-bytes a b d c.byte_count-bytes.result c.in_default.ensures.slots c.in_default.ensures.same_type c.byte_count-bytes.ensures (omega arith) in
    fixed-joins a b c.known.ensures.fits c.known.ensures.kind (same-type _ _ c.try_extend_from_self.result _ c.in_default.is c.try_extend_from_self.ensures.item_type.1) l m
