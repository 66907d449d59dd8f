-- A column of a file.
use Rattle.std.specs.Prelude.{ℕ, List}

-- the first column of a name, or the column at an index
pub data ColumnTree : Type 0 where
  named : List ℕ → ColumnTree
  indexed : ℕ → ColumnTree
