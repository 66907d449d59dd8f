use Rattle.std.proofs.Common.{ap, ◌∙◌, arith}
use Rattle.nest_model.specs.Accessors.{offsets_of}
use Rattle.nest_model.specs.Meaning.{len}
use Rattle.nest_concat.proofs.Grown.{rows-sum}
use Rattle.nest_concat.proofs.spans.push_window.Goals as goal

pub returns-clause-rows : goal.returns-clause-rows
returns-clause-rows g c =
    let os = c.offsets-offsets.result.now in
    let o = c.offset.result in
    let n = c.len.result in
    let r = rows-sum c.args.window.now os o n (c.known-2.ensures.some, c.known-2.ensures.rising) (omega (arith, c.known.ensures, c.offsets-offsets.ensures.rows, ap len c.array.ensures, c.offset.ensures, c.len.ensures)) (c.offsets-offsets.ensures.offsets ∙ ap offsets_of c.array.ensures) c.offset.ensures c.len.ensures in
    omega (arith, c.range-count.ensures.count, r)
