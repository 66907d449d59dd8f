use Rattle.std.proofs.Common.{◌++◌, ◌∷◌, [], ap, sym, ◌∙◌, subst, arith, length, length-append, map, take}
use Rattle.nest_memory.specs.TypeTree.{count_fields}
use Rattle.nest_model.specs.Layout.{layout_type}
use Rattle.nest_concat.specs.Joined.{IsWithin, first_array}
use Rattle.nest_concat.specs.Windows.{field_window}
use Rattle.nest_concat.proofs.Children.{fit-more}
use Rattle.nest_concat.proofs.Grown.{map-more}
use Rattle.nest_concat.proofs.Logical.{fields-alike}
use Rattle.nest_concat.proofs.Records.{fields-kept}
use Rattle.nest_concat.proofs.struct_.field.Goals as goal

pub part_of_window-requires-clause-kind : goal.part_of_window-requires-clause-kind
part_of_window-requires-clause-kind c =
    let w = c.window-item.result in
    let h = subst (IsWithin (layout_type (first_array c.args.windows.now))) (sym c.window-item.is) (c.requires.within c.loop-window.window-index w c.loop-window-test.true) in
    fields-kept (layout_type w.array) (layout_type (first_array c.args.windows.now)) h.same_type c.requires.kind

pub part_of_window-requires-clause-field : goal.part_of_window-requires-clause-field
part_of_window-requires-clause-field c =
    let w = c.window-item.result in
    let h = subst (IsWithin (layout_type (first_array c.args.windows.now))) (sym c.window-item.is) (c.requires.within c.loop-window.window-index w c.loop-window-test.true) in
    omega (arith, ap count_fields (fields-alike (layout_type w.array) (layout_type (first_array c.args.windows.now)) h.same_type), c.requires.field)

pub loop-window-preserved : goal.loop-window-preserved
loop-window-preserved c =
    let ws = c.args.windows.now in
    let k = c.loop-window.window-index in
    let x = c.part_of_window.result in
    let old = c.loop-window.fields.items in
    let i = c.loop-window.invariant in
    let e = c.push_reserved.ensures.items in
    record {
      room = omega (arith, c.push_reserved.ensures.capacity, i.room);
      long = omega (arith, ap length e, length-append old (x ∷ []), i.long);
      gathered =
          e
          ∙ ap (λ z. z ++ x ∷ []) i.gathered
          ∙ ap (λ z. map (field_window c.args.f) (take k ws) ++ z ∷ []) c.part_of_window.ensures.parts
          ∙ sym (map-more (field_window c.args.f) ws k c.window-item.result c.loop-window-test.true c.window-item.is);
      fit = rw e (fit-more old x i.fit c.part_of_window.ensures.fits);
    }
