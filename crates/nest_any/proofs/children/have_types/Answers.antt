use Rattle.std.proofs.Common.{◌≡◌, true, false, length, sym, ap, ◌∙◌}
use Rattle.nest_any.specs.Trees.{tree_of}
use Rattle.nest_any.proofs.Types.{types-count, fields-count}
use Rattle.nest_any.proofs.children.have_types.Goals as goal

pub returns-then-fields-children : goal.returns-then-fields-children
returns-then-fields-children c =
    (λ f. let u : false ≡ true = f in cc, λ e. absurd (c.if-fields-children.true (sym (fields-count c.args.fields.now) ∙ sym (ap length e) ∙ types-count tree_of c.args.children.now)))
