use Rattle.std.proofs.Common.{sym, ap, ◌∙◌}
use Rattle.nest_model.specs.Meaning.{len}
use Rattle.nest_array.specs.Seen.{layout_of}
use Rattle.nest_array.proofs.Children.{child_len-at, child_len-past}
use Rattle.ipc.proofs.union_offsets.len_of.Goals as goal

pub returns-then-f-fields : goal.returns-then-f-fields
returns-then-f-fields c =
    let field = c.index-fields-f.result in
    c.len.ensures ∙ sym (child_len-at c.args.fields.now c.args.f field c.if-f-fields.true ∙ ap (λ a. len (layout_of a)) (sym c.index-fields-f.is))

pub returns : goal.returns
returns c = sym (child_len-past c.args.fields.now c.args.f c.if-f-fields.false)
