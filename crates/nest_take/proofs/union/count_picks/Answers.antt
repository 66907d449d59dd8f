use Rattle.std.proofs.Common.{get_or, refl, arith}
use Rattle.nest_take.proofs.Picks.{IsDense, Picks, counts-none, few-none, count-step, few-step, field-below, full-passes}
use Rattle.nest_take.proofs.union.count_picks.Goals as goal

pub loop-place-init : goal.loop-place-init
loop-place-init c =
    let d : IsDense c.args.array.now = record { kind = c.known.ensures.kind; dense = c.requires.dense } in
    record { counted = counts-none c.args.array.now _ d refl; few = few-none _ refl }

pub returns-then-counts-field-gt2147483647-clause-err : goal.returns-then-counts-field-gt2147483647-clause-err
returns-then-counts-field-gt2147483647-clause-err c =
    let a = c.args.array.now in
    let d : IsDense a = record { kind = c.known.ensures.kind; dense = c.requires.dense } in
    let q : Picks a (get_or c.args.indices.now c.loop-place.place-index 0) c.index-field.result.0 c.index-field.result.1 = record { field = c.index-field.ensures.field; place = c.index-field.ensures.place } in
    (refl, full-passes a c.index-field.result.0 c.index-field.result.1 c.args.indices.now c.loop-place.place-index c.loop-place.counts d c.loop-place-test.true q c.index-field.ensures.field_there c.loop-place.invariant.counted c.if-counts-field-gt2147483647.true)

pub loop-place-preserved : goal.loop-place-preserved
loop-place-preserved c =
    let a = c.args.array.now in
    let d : IsDense a = record { kind = c.known.ensures.kind; dense = c.requires.dense } in
    let q : Picks a (get_or c.args.indices.now c.loop-place.place-index 0) c.index-field.result.0 c.index-field.result.1 = record { field = c.index-field.ensures.field; place = c.index-field.ensures.place } in
    let l = field-below a c.index-field.result.0 c.known.ensures.fits d c.index-field.ensures.field_there in
    record {
      counted = count-step a c.index-field.result.0 c.index-field.result.1 c.args.indices.now c.loop-place.place-index c.loop-place.counts d c.loop-place-test.true q l c.loop-place.invariant.counted;
      few = few-step c.loop-place.counts c.index-field.result.0 _ (omega arith) c.loop-place.invariant.few;
    }
