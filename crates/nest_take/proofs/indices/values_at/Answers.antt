use Rattle.std.proofs.lemmas.Grind.{common_steps}
use Rattle.std.proofs.Common.{◌<◌, length, refl, arith, get_or}
use Rattle.std.proofs.lemmas.List.Elements.{All-get_or}
use Rattle.std.proofs.lemmas.Option.{slice_get_read}
use Rattle.nest_take.proofs.At.{at-more}
use Rattle.nest_take.proofs.indices.values_at.Goals as goal

pub loop-place-preserved : goal.loop-place-preserved
loop-place-preserved g c =
    let e = c.push_reserved.ensures.items in
    let h = c.loop-place.invariant in
    let k = c.loop-place.place-index in
    let y = c.index-values-place.result in
    let l = All-get_or (λ i. i < length c.args.values.now) c.args.indices.now k 0 c.loop-place-test.true c.requires in
    record {
      room = omega (arith, c.push_reserved.ensures.capacity, h.room);
      same_length = grind (arith, common_steps);
      done = rw e (at-more c.args.values.now c.args.indices.now c.loop-place.taken.items k y c.loop-place-test.true h.done (slice_get_read c.args.values.now (length c.args.values.now) (get_or c.args.indices.now k 0) y refl l c.index-values-place.is));
    }
