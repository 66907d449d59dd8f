use Rattle.std.proofs.Common.{◌<◌, ◌++◌, ◌∷◌, [], pos, get_or, length, take, w32, refl, ap, sym, ◌∙◌, arith}
use Rattle.std.proofs.lemmas.Int.{to_z_pos}
use Rattle.nest_take.specs.Taken.{offsets_in}
use Rattle.nest_take.proofs.Picks.{IsDense, Picks, counts-none, count-step, field-below, offset-more, pick-later}
use Rattle.nest_take.proofs.union.new_offsets.Goals as goal

pub loop-place-init : goal.loop-place-init
loop-place-init c =
    let d : IsDense c.args.array.now = record { kind = c.known.ensures.kind; dense = c.requires.dense } in
    let e = c.in_ok-offsets.ensures.items in
    record { room = omega (arith, c.in_ok-offsets.ensures.capacity); same_length = ap length e; counted = counts-none c.args.array.now _ d refl; done = e }

pub overflow_cast-counts : goal.overflow_cast-counts
overflow_cast-counts c =
    let a = c.args.array.now in
    let g = c.index-field.result.0 in
    let d : IsDense a = record { kind = c.known.ensures.kind; dense = c.requires.dense } in
    let q : Picks a (get_or c.args.indices.now c.loop-place.place-index 0) g c.index-field.result.1 = record { field = c.index-field.ensures.field; place = c.index-field.ensures.place } in
    let x = pick-later a g c.index-field.result.1 c.args.indices.now c.loop-place.place-index d c.loop-place-test.true q in
    let y = c.loop-place.invariant.counted.each g in
    let z = c.requires.few g in
    omega arith

pub overflow_add-counts : goal.overflow_add-counts
overflow_add-counts c =
    let a = c.args.array.now in
    let g = c.index-field.result.0 in
    let d : IsDense a = record { kind = c.known.ensures.kind; dense = c.requires.dense } in
    let q : Picks a (get_or c.args.indices.now c.loop-place.place-index 0) g c.index-field.result.1 = record { field = c.index-field.ensures.field; place = c.index-field.ensures.place } in
    let x = pick-later a g c.index-field.result.1 c.args.indices.now c.loop-place.place-index d c.loop-place-test.true q in
    let y = c.loop-place.invariant.counted.each g in
    let z = c.requires.few g in
    omega arith

pub loop-place-preserved : goal.loop-place-preserved
loop-place-preserved c =
    let a = c.args.array.now in
    let is = c.args.indices.now in
    let k = c.loop-place.place-index in
    let g = c.index-field.result.0 in
    let i = c.loop-place.invariant in
    let e = c.push_reserved.ensures.items in
    let d : IsDense a = record { kind = c.known.ensures.kind; dense = c.requires.dense } in
    let q : Picks a (get_or is k 0) g c.index-field.result.1 = record { field = c.index-field.ensures.field; place = c.index-field.ensures.place } in
    let l = field-below a g c.known.ensures.fits d c.index-field.ensures.field_there in
    let x = pick-later a g c.index-field.result.1 is k d c.loop-place-test.true q in
    let y = i.counted.each g in
    let r = c.requires.few g in
    let h : get_or c.loop-place.counts g 0 < 2147483648 = omega arith in
    let m = offset-more a g c.index-field.result.1 is k c.loop-place-test.true q in
    record {
      room = omega (arith, c.push_reserved.ensures.capacity, i.room);
      same_length = omega (arith, ap length m, i.same_length, ap length i.done, ap length e, c.push_reserved.ensures.len);
      counted = count-step a g c.index-field.result.1 is k c.loop-place.counts d c.loop-place-test.true q l i.counted;
      done = e ∙ ap (λ z. c.loop-place.offsets.items ++ z ∷ []) (to_z_pos w32 (get_or c.loop-place.counts g 0) h) ∙ ap (λ z. z ++ pos (get_or c.loop-place.counts g 0) ∷ []) i.done ∙ ap (λ n. offsets_in a (take k is) ++ pos n ∷ []) (i.counted.each g) ∙ sym m;
    }
