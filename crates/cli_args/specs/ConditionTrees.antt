-- The models of `NumberLiteral`, `Literal` and `Condition`.
use Rattle.std.specs.Prelude.{string_bytes}
use Rattle.cli_args.specs.ColumnTrees.{column_tree}
use Rattle.cli_args.specs.Conditions.{LiteralTree, NumberTree, number, text, boolean, ConditionTree, is_true, is_null, compare, negation, both, either}
use Rattle.cli_args.specs.declared.condition.Literal.{Literal}
use Rattle.cli_args.specs.declared.condition.Literal.TheVariants as literals
use Rattle.cli_args.specs.declared.condition.Condition.{Condition, fold-Condition}
use Rattle.cli_args.specs.declared.number_literal.NumberLiteral.{NumberLiteral}
use Rattle.cli_args.specs.declared.condition.Condition.TheOpen.{Condition-F}

abbrev pub number_tree : NumberLiteral → NumberTree
number_tree n = record { value = n.value; digits = n.digits; single = n.single; double = n.double }

abbrev pub literal_tree : Literal → LiteralTree
literal_tree (literals.Number n) = number (number_tree n)
literal_tree (literals.String s) = text (string_bytes s)
literal_tree (literals.Boolean b) = boolean b

-- one level of a condition whose inner conditions are trees
abbrev pub condition_step : Condition-F ConditionTree → ConditionTree
condition_step (Condition-F.IsTrue column position) = is_true (column_tree column) position
condition_step (Condition-F.IsNull column position) = is_null (column_tree column) position
condition_step (Condition-F.Compare column position comparison literal) = compare (column_tree column) position comparison (literal_tree literal)
condition_step (Condition-F.Not inner) = negation inner.value
condition_step (Condition-F.And left right) = both left.value right.value
condition_step (Condition-F.Or left right) = either left.value right.value

abbrev pub condition_tree : Condition → ConditionTree
condition_tree = fold-Condition ConditionTree condition_step
