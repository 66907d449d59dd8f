use Rattle.std.proofs.Common.{◌*◌, ap, sym, ◌∙◌, arith}
use Rattle.nest_memory.specs.TypeTree.{size_of}
use Rattle.nest_model.specs.Accessors.{child_of}
use Rattle.nest_model.specs.Layout.{layout_type}
use Rattle.nest_model.specs.Meaning.{len}
use Rattle.nest_concat.proofs.Flats.{blocks-within}
use Rattle.nest_concat.proofs.fixed_size_list.items_of_window.Goals as goal

pub new-requires : goal.new-requires
new-requires c =
    let a = c.in-Some.array.now in
    let w = c.args.window.now in
    let e = c.in-Some.ensures.1 ∙ c.array.ensures in
    let n = ap len (sym e ∙ c.known-2.ensures.kind) in
    let b = blocks-within w (len (child_of a)) c.args.size (size_of (layout_type a)) c.known.ensures n (c.requires.size ∙ ap (λ z. size_of (layout_type z)) (sym e)) in
    omega (arith, b, ap len c.values-items.ensures, ap (λ z. z * c.args.size) c.offset.ensures, ap (λ z. z * c.args.size) c.len.ensures)
