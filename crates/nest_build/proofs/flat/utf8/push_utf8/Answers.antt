use Rattle.std.specs.Option.{option_copied}
use Rattle.std.proofs.Common.{Err, ap, arith}
use Rattle.nest_flat.specs.BytesGrowth.{item_bytes}
use Rattle.nest_build.proofs.FlatTrees.{grown-count}
use Rattle.nest_build.proofs.BytesTrees.{at-most, text-typed, wrapped-accepted, bounded-fits, bounded-refused}
use Rattle.nest_model.specs.BuilderItem as items
use Rattle.nest_build.proofs.flat.utf8.push_utf8.Goals as goal

pub returns-clause-accepted : goal.returns-clause-accepted
returns-clause-accepted g c = wrapped-accepted items.utf8 c.args.values.now c.try_push.new.self (option_copied c.args.item) c.try_push.ensures.same_type c.in_default.ensures.slots

pub returns-clause-unrefused : goal.returns-clause-unrefused
returns-clause-unrefused g c =
    let a = c.args.values.now in
    let large = g.O.Offset.IS_LARGE in
    let l = grown-count a c.try_push.new.self _ c.len-len.result c.in_default.ensures.slots c.len-len.ensures (omega arith) in
    let m = at-most _ _ (λ o. c.in_default.not-Err _ (c.try_push.ensures.overflow.1 o)) in
    bounded-fits large g.O.Offset.largest items.utf8 a g.met.O.Offset.largest_is (text-typed large a c.known.ensures.fits c.known.ensures.kind) c.known.ensures.held c.known.ensures.room (option_copied c.args.item) l m

pub returns-in-Err-clause-cause : goal.returns-in-Err-clause-cause
returns-in-Err-clause-cause g c =
    let a = c.args.values.now in
    let large = g.O.Offset.IS_LARGE in
    bounded-refused large g.O.Offset.largest items.utf8 a g.met.O.Offset.largest_is (text-typed large a c.known.ensures.fits c.known.ensures.kind) c.known.ensures.held c.known.ensures.room (option_copied c.args.item) c.in-Err.error c.in-Err.ensures.errors
    (λ e. c.in-Err.ensures.overflow.0 (ap Err e))
