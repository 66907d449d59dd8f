-- Selections in row order.
use Rattle.std.specs.Prelude.{◌==◌, ◌-◌, ℕ, Bool, false}
use Rattle.cli_args.specs.Requests.{SelectionTree, all, slice, indices, where_true}

-- selected rows are in the order of the input, so that each batch has its own
abbrev pub IsInRowOrder : SelectionTree → Type 0
IsInRowOrder all = Unit {0}
IsInRowOrder (slice o n) = Unit {0}
IsInRowOrder (where_true c) = Unit {0}
IsInRowOrder (indices wanted) = ⊥

-- what is selected after so many rows
abbrev pub remaining_selection : SelectionTree → ℕ → SelectionTree
remaining_selection (slice o n) k = slice (o - k) (n - (k - o))
remaining_selection all k = all
remaining_selection (where_true c) k = where_true c
remaining_selection (indices wanted) k = indices wanted

-- no further row is selected
abbrev pub is_complete_selection : SelectionTree → Bool
is_complete_selection (slice o n) = n == 0
is_complete_selection all = false
is_complete_selection (where_true c) = false
is_complete_selection (indices wanted) = false
