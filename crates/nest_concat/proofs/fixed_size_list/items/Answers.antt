use Rattle.std.proofs.Common.{◌++◌, ◌∷◌, [], ap, sym, ◌∙◌, subst, arith, length, length-append, map, take}
use Rattle.nest_model.specs.Layout.{layout_type}
use Rattle.nest_concat.specs.Joined.{IsWithin}
use Rattle.nest_concat.specs.Windows.{blocks_of}
use Rattle.nest_concat.proofs.Children.{fit-more}
use Rattle.nest_concat.proofs.Grown.{map-more}
use Rattle.nest_concat.proofs.Logical.{kind-alike, size-alike}
use Rattle.nest_concat.proofs.Made.{sized-kind}
use Rattle.nest_concat.proofs.fixed_size_list.items.Goals as goal

pub items_of_window-requires : goal.items_of_window-requires
items_of_window-requires c =
    let t = layout_type c.args.array.now in
    let w = c.window-item.result in
    let h = subst (IsWithin t) (sym c.window-item.is) (c.requires.within c.loop-window.window-index w c.loop-window-test.true) in
    record {
      kind = kind-alike (layout_type w.array) t _ h.same_type (sized-kind c.args.array.now _ _ _ c.known.ensures.fits c.known.ensures.kind);
      size = c.size-size.ensures.size ∙ sym (size-alike (layout_type w.array) t h.same_type);
    }

pub loop-window-preserved : goal.loop-window-preserved
loop-window-preserved c =
    let ws = c.args.windows.now in
    let k = c.loop-window.window-index in
    let x = c.items_of_window.result in
    let old = c.loop-window.items.items in
    let i = c.loop-window.invariant in
    let e = c.push_reserved.ensures.items in
    record {
      room = omega (arith, c.push_reserved.ensures.capacity, i.room);
      long = omega (arith, ap length e, length-append old (x ∷ []), i.long);
      gathered =
          e
          ∙ ap (λ z. z ++ x ∷ []) i.gathered
          ∙ ap (λ z. map (blocks_of c.size-size.result) (take k ws) ++ z ∷ []) c.items_of_window.ensures.parts
          ∙ sym (map-more (blocks_of c.size-size.result) ws k c.window-item.result c.loop-window-test.true c.window-item.is);
      fit = rw e (fit-more old x i.fit c.items_of_window.ensures.fits);
    }
