use Rattle.std.proofs.Common.{◌≡◌, ◌*◌, ◌+◌, ◌<◌, ◌≤◌, Bool, sym, ap, ◌∙◌, arith}
use Rattle.std.specs.Prelude.{◌||◌}
use Rattle.nest_model.specs.Layout.{Layouts, weight, weight_all}
use Rattle.nest_array.specs.Seen.{layout_of, layouts_of}
use Rattle.ipc.specs.UnionOffsets.{spec_children, spec_any_overflows}
use Rattle.ipc.proofs.UnionOffsets.{own_or_below, lighter}
use Rattle.ipc.proofs.union_offsets.+dense.Goals as goal

pub union_offsets_overflow-any_overflows-requires : goal.union_offsets_overflow-any_overflows-requires
union_offsets_overflow-any_overflows-requires t c =
    let same = ap weight_all c.children.ensures in
    (omega (arith, same, lighter (layout_of c.args.values.now)), tt)

pub union_offsets_overflow-returns-else-offsets_overflow : goal.union_offsets_overflow-returns-else-offsets_overflow
union_offsets_overflow-returns-else-offsets_overflow t c =
    c.any_overflows.ensures
    ∙ ap (λ (cs : Layouts). spec_any_overflows cs (layouts_of c.children-else-offsets_overflow.result.now)) c.children.ensures
    ∙ ap (λ (cs : Layouts). spec_any_overflows (spec_children (layout_of c.args.values.now)) cs) c.children-else-offsets_overflow.ensures
    ∙ ap (λ (b : Bool). b || spec_any_overflows (spec_children (layout_of c.args.values.now)) (spec_children (layout_of c.args.more.now))) (sym c.if-offsets_overflow.false ∙ c.offsets_overflow.ensures)
    ∙ sym (own_or_below (layout_of c.args.values.now) (layout_of c.args.more.now))
