use Rattle.std.proofs.Common.{◌++◌, ◌∷◌, [], ap, sym, ◌∙◌, arith, get_or, length, length-append, map, take}
use Rattle.std.proofs.lemmas.List.{take_all}
use Rattle.nest_array.specs.Seen.{layout_of}
use Rattle.nest_array.specs.WindowParts.{window_parts}
use Rattle.nest_model.specs.Meaning.{len}
use Rattle.nest_concat.specs.Interleaved.{slot_windows}
use Rattle.nest_concat.proofs.Children.{fit-more}
use Rattle.nest_concat.proofs.Placed.{array-is, place-there, windows-more, windows-within}
use Rattle.nest_concat.proofs.mixed.windows.Goals as goal

pub new-requires-in-loop-place : goal.new-requires-in-loop-place
new-requires-in-loop-place c =
    let xs = c.args.arrays.now in
    let ps = c.args.indices.now in
    let n = c.loop-place.place-index in
    let r = place-there xs ps n c.requires.indices c.loop-place-test.true in
    omega (arith, r.1, ap len (array-is xs (get_or ps n (0, 0)).0 c.index-arrays-k.result r.0 c.index-arrays-k.is))

pub loop-place-preserved : goal.loop-place-preserved
loop-place-preserved c =
    let xs = c.args.arrays.now in
    let ps = c.args.indices.now in
    let n = c.loop-place.place-index in
    let p = get_or ps n (0, 0) in
    let x = c.new-in-loop-place.result in
    let old = c.loop-place.windows.items in
    let i = c.loop-place.invariant in
    let e = c.push_reserved-in-loop-place.ensures.items in
    let r = place-there xs ps n c.requires.indices c.loop-place-test.true in
    let m = c.new-in-loop-place.ensures.parts ∙ ap (λ a. window_parts a p.1 1) (array-is xs p.0 c.index-arrays-k.result r.0 c.index-arrays-k.is) in
    record {
      room = omega (arith, c.push_reserved-in-loop-place.ensures.capacity, i.room);
      long = omega (arith, ap length e, length-append old (x ∷ []), i.long);
      gathered =
          e
          ∙ ap (λ z. z ++ x ∷ []) i.gathered
          ∙ ap (λ z. slot_windows (map layout_of xs) (take n ps) ++ z ∷ []) m
          ∙ sym (windows-more (map layout_of xs) ps n c.loop-place-test.true);
      fit = rw e (fit-more old x i.fit (rw c.new-in-loop-place.ensures.parts c.known-in-loop-place.ensures));
    }

pub returns-clause-within : goal.returns-clause-within
returns-clause-within c =
    let ps = c.args.indices.now in
    let i = c.loop-place.invariant in
    λ g. windows-within (map layout_of c.args.arrays.now) ps c.loop-place.windows.items (i.gathered ∙ ap (slot_windows (map layout_of c.args.arrays.now)) (take_all c.loop-place.place-index ps c.loop-place-test.false)) i.fit c.requires.indices g
