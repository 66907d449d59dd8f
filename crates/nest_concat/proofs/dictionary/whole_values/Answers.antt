use Rattle.std.proofs.Common.{◌++◌, ◌∷◌, [], ap, sym, ◌∙◌, arith, length, length-append, map, take}
use Rattle.nest_model.specs.Meaning.{len}
use Rattle.nest_array.specs.WindowParts.{window_parts}
use Rattle.nest_concat.specs.Lookups.{values_in}
use Rattle.nest_concat.proofs.Children.{fit-more}
use Rattle.nest_concat.proofs.Grown.{map-more}
use Rattle.nest_concat.proofs.dictionary.whole_values.Goals as goal

pub loop-window-preserved : goal.loop-window-preserved
loop-window-preserved c =
    let ws = c.args.windows.now in
    let k = c.loop-window.window-index in
    let x = c.of.result in
    let old = c.loop-window.values.items in
    let i = c.loop-window.invariant in
    let e = c.push_reserved.ensures.items in
    record {
      room = omega (arith, c.push_reserved.ensures.capacity, i.room);
      long = omega (arith, ap length e, length-append old (x ∷ []), i.long);
      gathered =
          e
          ∙ ap (λ z. z ++ x ∷ []) i.gathered
          ∙ ap (λ z. map values_in (take k ws) ++ z ∷ []) (c.of.ensures.parts ∙ ap (λ a. window_parts a 0 (len a)) c.values_of_window-array.ensures)
          ∙ sym (map-more values_in ws k c.window-item.result c.loop-window-test.true c.window-item.is);
      fit = rw e (fit-more old x i.fit (rw c.of.ensures.parts c.known.ensures));
    }
