use Rattle.std.proofs.Common.{Err, ap, arith}
use Rattle.nest_build.proofs.FlatTrees.{joined-count, same-type}
use Rattle.nest_build.proofs.BytesTrees.{at-most, text-typed, bounded-joins, bounded-join_refused}
use Rattle.nest_model.specs.BuilderItem as items
use Rattle.nest_build.proofs.flat.utf8.MutableUtf8ArrayFlatBuilder.join.Goals as goal

pub returns-in-Err-clause-cause : goal.returns-in-Err-clause-cause
returns-in-Err-clause-cause g c =
    let a = c.args.self.now in
    let large = g.O.Offset.IS_LARGE in
    bounded-join_refused large g.O.Offset.largest items.utf8 a g.met.O.Offset.largest_is (text-typed large a c.known.ensures.fits c.known.ensures.kind) c.known.ensures.held c.known.ensures.room c.args.other.now c.known-2.ensures.held
    c.in-Err.error c.in-Err.ensures.errors (λ e. c.in-Err.ensures.item_type.0 (ap Err e)) (λ e. c.in-Err.ensures.overflow.0 (ap Err e))

pub returns-clause-unrefused : goal.returns-clause-unrefused
returns-clause-unrefused g c =
    let a = c.args.self.now in
    let b = c.args.other.now in
    let large = g.O.Offset.IS_LARGE in
    let t = same-type _ _ c.try_extend_from_self.result _ c.in_default.is c.try_extend_from_self.ensures.item_type.1 in
    let l = joined-count a b c.try_extend_from_self.new.self c.len-len.result c.in_default.ensures.slots c.len-len.ensures (omega arith) in
    let m = at-most _ _ (λ o. c.in_default.not-Err _ (c.try_extend_from_self.ensures.overflow.1 (t, o))) in
    bounded-joins large g.O.Offset.largest items.utf8 a g.met.O.Offset.largest_is (text-typed large a c.known.ensures.fits c.known.ensures.kind) c.known.ensures.held c.known.ensures.room b c.known-2.ensures.held t l m
