use Rattle.std.proofs.Common.{◌*◌, ap, sym, ◌∙◌, arith, length}
use Rattle.nest_memory.specs.TypeTree.{size_of}
use Rattle.nest_model.specs.Accessors.{bytes_of}
use Rattle.nest_model.specs.Layout.{layout_type}
use Rattle.nest_model.specs.Meaning.{len}
use Rattle.nest_concat.proofs.Flats.{blocks-within}
use Rattle.nest_concat.proofs.fixed_size_binary.blocks.Goals as goal

pub part-requires : goal.part-requires
part-requires c =
    let a = c.in-Some.array.now in
    let w = c.args.window.now in
    let s = c.args.size in
    let e = c.in-Some.ensures.1 ∙ c.array.ensures in
    let n = ap len (sym e ∙ c.known-2.ensures.kind) in
    let b = blocks-within w (length (bytes_of a)) s (size_of (layout_type a)) c.known.ensures n (c.requires.size ∙ ap (λ z. size_of (layout_type z)) (sym e)) in
    let o = ap (λ z. z * s) c.offset.ensures in
    let m = ap (λ z. z * s) c.len.ensures in
    let l = ap length (c.as_slice.ensures ∙ c.values-2.ensures) in
    let k = ap length c.values.ensures in
    record { within = omega (arith, b, o, m, l); fits = omega (arith, b, o, m, k, c.len-len.ensures) }
