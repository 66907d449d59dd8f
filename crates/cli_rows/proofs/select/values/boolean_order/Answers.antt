use Rattle.std.proofs.Common.{Some, option_map, sym, ap, ◌∙◌}
use Rattle.std.specs.Ordering.{bool_cmp}
use Rattle.nest_model.specs.Layout.{layout_type}
use Rattle.nest_model.specs.Meaning.{slot}
use Rattle.nest_array.specs.Seen.{layout_of}
use Rattle.cli_rows.proofs.Values.{boolean-truth}
use Rattle.cli_rows.proofs.select.values.boolean_order.Goals as goal

pub returns-in-None : goal.returns-in-None
returns-in-None c =
    let a = layout_of c.args.array.now in
    ap (option_map (λ x. bool_cmp x c.args.literal)) (sym c.in-None.is ∙ c.boolean_at.ensures ∙ boolean-truth (layout_type a) (slot a c.args.i) c.requires.kind)

pub returns-in-Some : goal.returns-in-Some
returns-in-Some c =
    let a = layout_of c.args.array.now in
    ap Some c.cmp.ensures ∙ ap (option_map (λ x. bool_cmp x c.args.literal)) (sym c.in-Some.is ∙ c.boolean_at.ensures ∙ boolean-truth (layout_type a) (slot a c.args.i) c.requires.kind)
