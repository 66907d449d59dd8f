use Rattle.std.proofs.Common.{map, ap, ◌∙◌}
use Rattle.std.specs.Box.{with_value}
use Rattle.nest_memory.specs.TypeOf.{field_of}
use Rattle.cli_args.specs.ConditionTrees.{condition_tree}
use Rattle.cli_args.specs.declared.condition.Condition.{Condition}
use Rattle.cli_rows.specs.ConditionErrors.{resolved_condition}
use Rattle.cli_rows.proofs.ConditionBoxes.{resolved-and, resolved-not, resolved-or}
use Rattle.cli_rows.proofs.conditions.+resolve_condition.Goals as goal

pub returns-in-Not : goal.returns-in-Not
returns-in-Not t c =
    let fs = map field_of c.args.fields.now in
    let resolved = λ (x : Condition). resolved_condition fs (condition_tree x) in
    resolved-not fs c.args.condition.now c.in-Not.inner (with_value c.in-Not.inner c.resolve_condition.new.condition) c.in-Not.is (c.resolve_condition.ensures ∙ ap resolved c.deref_mut.ensures.value)

pub returns-in-And : goal.returns-in-And
returns-in-And t c =
    let fs = map field_of c.args.fields.now in
    let resolved = λ (x : Condition). resolved_condition fs (condition_tree x) in
    resolved-and fs c.args.condition.now c.in-And.left c.in-And.right (with_value c.in-And.left c.resolve_condition-in-And.new.condition) (with_value c.in-And.right c.resolve_condition-in-And-2.new.condition) c.in-And.is
    (c.resolve_condition-in-And.ensures ∙ ap resolved c.deref_mut-in-And.ensures.value) (c.resolve_condition-in-And-2.ensures ∙ ap resolved c.deref_mut-in-And-2.ensures.value)

pub returns-in-Or : goal.returns-in-Or
returns-in-Or t c =
    let fs = map field_of c.args.fields.now in
    let resolved = λ (x : Condition). resolved_condition fs (condition_tree x) in
    resolved-or fs c.args.condition.now c.in-Or.left c.in-Or.right (with_value c.in-Or.left c.resolve_condition-in-Or.new.condition) (with_value c.in-Or.right c.resolve_condition-in-Or-2.new.condition) c.in-Or.is
    (c.resolve_condition-in-Or.ensures ∙ ap resolved c.deref_mut-in-Or.ensures.value) (c.resolve_condition-in-Or-2.ensures ∙ ap resolved c.deref_mut-in-Or-2.ensures.value)
