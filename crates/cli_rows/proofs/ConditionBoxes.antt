-- Conditions in boxes.
use Rattle.std.proofs.Common.{◌≡◌, ℕ, List, Box, Global, sym, ap, ◌∙◌}
use Rattle.nest_memory.specs.TypeTree.{FieldTree}
use Rattle.cli_rows.specs.ColumnFields.{field_of_column, resolved_column}
use Rattle.cli_rows.specs.ConditionErrors.{resolved_condition, resolved_literal, spec_field_kind}
use Rattle.cli_args.specs.ColumnTrees.{column_tree}
use Rattle.cli_args.specs.Conditions.{ConditionTree, both, compare, either, negation}
use Rattle.cli_args.specs.ConditionTrees.{condition_step, condition_tree, literal_tree}
use Rattle.cli_args.specs.declared.condition.Comparison.{Comparison}
use Rattle.cli_args.specs.declared.condition.Literal.{Literal}
use Rattle.cli_args.specs.declared.request.Column.{Column}
use Rattle.cli_args.specs.declared.condition.Condition.{Condition}
use Rattle.cli_args.specs.declared.condition.Condition.TheFolds.{fold-roll-Condition}
use Rattle.cli_args.specs.declared.condition.Condition.TheOpen.{Condition-F}
use Rattle.cli_args.specs.declared.condition.Condition.TheVariants.{Compare, Not, And, Or, rolls-Compare, rolls-Not, rolls-And, rolls-Or}

pub tree-compare : (column : Column) (at : ℕ) (op : Comparison) (literal : Literal) → condition_tree (Compare column at op literal) ≡ compare (column_tree column) at op (literal_tree literal)
tree-compare column at op literal = ap condition_tree (sym (rolls-Compare column at op literal)) ∙ fold-roll-Condition ConditionTree condition_step (Condition-F.Compare column at op literal)

tree-not : (b : Box Condition Global) → condition_tree (Not b) ≡ negation (condition_tree b.value)
tree-not b = ap condition_tree (sym (rolls-Not b)) ∙ fold-roll-Condition ConditionTree condition_step (Condition-F.Not b)

tree-and : (a b : Box Condition Global) → condition_tree (And a b) ≡ both (condition_tree a.value) (condition_tree b.value)
tree-and a b = ap condition_tree (sym (rolls-And a b)) ∙ fold-roll-Condition ConditionTree condition_step (Condition-F.And a b)

tree-or : (a b : Box Condition Global) → condition_tree (Or a b) ≡ either (condition_tree a.value) (condition_tree b.value)
tree-or a b = ap condition_tree (sym (rolls-Or a b)) ∙ fold-roll-Condition ConditionTree condition_step (Condition-F.Or a b)

-- ---- resolved inside

pub resolved-compare : (fs : List FieldTree) (a : Condition) (column : Column) (at : ℕ) (op : Comparison) (literal : Literal) (d : Column) (l : Literal) → a ≡ Compare column at op literal → column_tree d ≡ resolved_column fs (column_tree column)
    → literal_tree l ≡ resolved_literal (spec_field_kind (field_of_column (column_tree column) fs)) (literal_tree literal) → condition_tree (Compare d at op l) ≡ resolved_condition fs (condition_tree a)
resolved-compare fs a column at op literal d l is h k =
    tree-compare d at op l ∙ (λ i. compare (h i) at op (k i)) ∙ ap (resolved_condition fs) (sym (ap condition_tree is ∙ tree-compare column at op literal))

pub resolved-not : (fs : List FieldTree) (a : Condition) (b d : Box Condition Global) → a ≡ Not b → condition_tree d.value ≡ resolved_condition fs (condition_tree b.value) → condition_tree (Not d) ≡ resolved_condition fs (condition_tree a)
resolved-not fs a b d is h = tree-not d ∙ ap negation h ∙ ap (resolved_condition fs) (sym (ap condition_tree is ∙ tree-not b))

pub resolved-and : (fs : List FieldTree) (a : Condition) (b c d e : Box Condition Global) → a ≡ And b c → condition_tree d.value ≡ resolved_condition fs (condition_tree b.value) → condition_tree e.value ≡ resolved_condition fs (condition_tree c.value)
    → condition_tree (And d e) ≡ resolved_condition fs (condition_tree a)
resolved-and fs a b c d e is h k = tree-and d e ∙ (λ i. both (h i) (k i)) ∙ ap (resolved_condition fs) (sym (ap condition_tree is ∙ tree-and b c))

pub resolved-or : (fs : List FieldTree) (a : Condition) (b c d e : Box Condition Global) → a ≡ Or b c → condition_tree d.value ≡ resolved_condition fs (condition_tree b.value) → condition_tree e.value ≡ resolved_condition fs (condition_tree c.value)
    → condition_tree (Or d e) ≡ resolved_condition fs (condition_tree a)
resolved-or fs a b c d e is h k = tree-or d e ∙ (λ i. either (h i) (k i)) ∙ ap (resolved_condition fs) (sym (ap condition_tree is ∙ tree-or b c))
