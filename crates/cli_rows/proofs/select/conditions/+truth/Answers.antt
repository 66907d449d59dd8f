use Rattle.std.proofs.Common.{sym, ap, ◌∙◌}
use Rattle.std.specs.Option.{option_and_then}
use Rattle.cli_args.specs.ConditionTrees.{literal_tree}
use Rattle.cli_rows.specs.Conditions.{spec_compared}
use Rattle.cli_rows.proofs.ConditionBoxes.{tree-compare}
use Rattle.cli_rows.proofs.select.conditions.+truth.Goals as goal

pub returns-in-Some-column_of-2 : goal.returns-in-Some-column_of-2
returns-in-Some-column_of-2 t c =
    let found = c.in-Some-column_of-2.ensures.values c.args.i in
    let tree = tree-compare c.in-Compare.column c.in-Compare.field-1 c.in-Compare.comparison c.in-Compare.literal in
    rw (c.in-Compare.is, tree) (c.compared.ensures ∙ sym (ap (option_and_then (spec_compared c.in-Compare.comparison (literal_tree c.in-Compare.literal))) found))
