-- What a command prints or selects.
use Rattle.std.specs.Prelude.{ℕ, List}
use Rattle.cli_args.specs.Conditions.{ConditionTree}
pub use Rattle.cli_args.specs.Columns.{ColumnTree, named, indexed}

-- all rows; a slice by its offset and its maximal length; the row at each index; the rows where this condition is true
pub data SelectionTree : Type 0 where
  all : SelectionTree
  slice : ℕ → ℕ → SelectionTree
  indices : List ℕ → SelectionTree
  where_true : ConditionTree → SelectionTree

-- the schema, or rows
pub data RequestTree : Type 0 where
  columns : RequestTree
  rows : SelectionTree → RequestTree
