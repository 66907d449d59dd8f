-- Conditions on rows.
use Rattle.std.specs.Prelude.{ℕ, ℤ, Bool, List}
use Rattle.cli_args.specs.Columns.{ColumnTree}
use Rattle.cli_args.specs.declared.condition.Comparison.{Comparison}

-- a decimal number: an integer, and the number of its digits after the decimal point; and the bits of the nearest single and double
pub record NumberTree : Type 0 where
  pub value : ℤ
  pub digits : ℕ
  pub single : ℕ
  pub double : ℕ

pub data LiteralTree : Type 0 where
  number : NumberTree → LiteralTree
  text : List ℕ → LiteralTree
  boolean : Bool → LiteralTree

-- Beside a column is the position of its name in the text of the condition, in bytes.
pub data ConditionTree : Type 0 where
  -- a boolean column is true
  is_true : ColumnTree → ℕ → ConditionTree
  is_null : ColumnTree → ℕ → ConditionTree
  compare : ColumnTree → ℕ → Comparison → LiteralTree → ConditionTree
  negation : ConditionTree → ConditionTree
  both : ConditionTree → ConditionTree → ConditionTree
  either : ConditionTree → ConditionTree → ConditionTree
