use Rattle.std.proofs.Common.{◌*◌, ◌∙◌, ap, length, sym}
use Rattle.nest_memory.specs.TypeTree.{size_of}
use Rattle.nest_array.specs.Seen.{layout_of}
use Rattle.nest_build.proofs.Lists.{child_count}
use Rattle.nest_build.proofs.fixed_size_list.mutable.MutableFixedSizeListArray.freeze.Goals as goal

pub freeze_over-requires-clause-covers : goal.freeze_over-requires-clause-covers
freeze_over-requires-clause-covers g c =
    let b = c.args.self.now in
    let w = c.is_complete.ensures.0 c.if-not-is_complete.false in
    let n = child_count (layout_of c.in-Ok.values) (g.M.MutableArray.model b.values) c.in-Ok.ensures.slots in
    n ∙ w.2 ∙ ap (λ t. length b.rows * size_of t) (sym (c.in-Ok.ensures.same_type ∙ c.get.ensures.value))
