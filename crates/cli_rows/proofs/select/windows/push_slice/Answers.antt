use Rattle.std.proofs.Common.{◌-◌, min, ap, ◌∙◌}
use Rattle.cli_rows.specs.RowLaws.{cut-end, cut-more}
use Rattle.cli_rows.proofs.select.windows.push_slice.Goals as goal

pub loop-array-preserved : goal.loop-array-preserved
loop-array-preserved c =
    let l = c.loop-array in
    let from = c.min-from.result in
    cut-more c.args.arrays.now l.array-index c.array-item.result l.skip l.left from c.min-many.result l.windows.items c.push.new.self.items c.new.result _ c.loop-array-test.true c.array-item.is
    (c.min-from.ensures ∙ ap (min l.skip) c.len-len.ensures) (c.min-many.ensures ∙ ap (λ k. min l.left (k - from)) c.len-len.ensures) c.new.ensures.parts c.in_ok-push.ensures.items l.invariant

pub returns : goal.returns
returns c = cut-end c.args.arrays.now c.loop-array.array-index c.loop-array.skip c.loop-array.left c.loop-array.windows.items _ c.loop-array-test.false c.loop-array.invariant
