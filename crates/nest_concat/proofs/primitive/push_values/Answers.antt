use Rattle.std.proofs.Common.{ap, ◌∙◌, subst, arith, length}
use Rattle.std.proofs.lemmas.List.{length-map}
use Rattle.nest_model.specs.Accessors.{natives_of}
use Rattle.nest_model.specs.Array.{TopFits}
use Rattle.nest_array.specs.Seen.{layout_of}
use Rattle.nest_concat.proofs.Flats.{natives-more, natives-within}
use Rattle.nest_concat.proofs.primitive.push_values.Goals as goal

pub part-values-requires-clause-within : goal.part-values-requires-clause-within
part-values-requires-clause-within g c =
    let w = c.args.window.now in
    let e = c.array-array.ensures in
    let b = natives-within g.T.NativeType.PRIMITIVE w (subst TopFits e c.known-2.ensures) c.requires.kind c.known.ensures in
    omega (arith, b, length-map c.values.result.now g.T.NativeType.numbers, ap length (c.values.ensures ∙ ap natives_of e), c.offset.ensures, c.len.ensures)

pub returns-clause-ok : goal.returns-clause-ok
returns-clause-ok g c =
    natives-more g.T.NativeType.numbers c.args.window.now (layout_of c.array-array.result.now) c.args.taken.now.items c.extend_from_slice.new.self.items c.values.result.now c.part-values.result.now c.offset.result c.len.result
    c.in_ok-extend_from_slice.ensures.items c.part-values.ensures c.values.ensures c.array-array.ensures c.offset.ensures c.len.ensures
