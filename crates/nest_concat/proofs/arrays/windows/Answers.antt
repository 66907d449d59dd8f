use Rattle.std.proofs.Common.{◌++◌, ◌∷◌, [], ap, sym, ◌∙◌, arith, length, length-append, map, take}
use Rattle.std.proofs.lemmas.List.{take_all}
use Rattle.nest_concat.proofs.Children.{fit-more}
use Rattle.nest_concat.proofs.Grown.{map-more}
use Rattle.nest_concat.proofs.Wholes.{whole_of, wholes-within}
use Rattle.nest_concat.proofs.arrays.windows.Goals as goal

pub loop-array-preserved : goal.loop-array-preserved
loop-array-preserved c =
    let xs = c.args.arrays.now in
    let k = c.loop-array.array-index in
    let x = c.of.result in
    let old = c.loop-array.windows.items in
    let i = c.loop-array.invariant in
    let e = c.push_reserved.ensures.items in
    record {
      room = omega (arith, c.push_reserved.ensures.capacity, i.room);
      long = omega (arith, ap length e, length-append old (x ∷ []), i.long);
      gathered =
          e
          ∙ ap (λ z. z ++ x ∷ []) i.gathered
          ∙ ap (λ z. map whole_of (take k xs) ++ z ∷ []) c.of.ensures.parts
          ∙ sym (map-more whole_of xs k c.array-item.result c.loop-array-test.true c.array-item.is);
      fit = rw e (fit-more old x i.fit (rw c.of.ensures.parts c.known.ensures));
    }

pub returns-clause-within : goal.returns-clause-within
returns-clause-within c =
    let xs = c.args.arrays.now in
    let i = c.loop-array.invariant in
    λ g. wholes-within xs c.loop-array.windows.items (i.gathered ∙ ap (map whole_of) (take_all c.loop-array.array-index xs c.loop-array-test.false)) i.fit g
