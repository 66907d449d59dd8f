-- Selected rows.
use Rattle.std.specs.Prelude.{List, length, nat_lt, Option, Some, None, if◌then◌else◌}
use Rattle.std.specs.List.{filter, list_all}
use Rattle.nest_memory.specs.Sublist.{sublist}
use Rattle.cli_args.specs.Requests.{SelectionTree, all, slice, indices, where_true}
use Rattle.cli_rows.specs.Rows.{RowSlot, rows_at_indices}
use Rattle.cli_rows.specs.Conditions.{is_true_in}

-- the selected rows, or None if an index is out of range
abbrev pub selected_rows : SelectionTree → List RowSlot → Option (List RowSlot)
selected_rows all rows = Some rows
selected_rows (slice o n) rows = Some (sublist rows o n)
selected_rows (indices places) rows = if list_all (λ p. nat_lt p (length rows)) places then Some (rows_at_indices rows places) else None
selected_rows (where_true c) rows = Some (filter (is_true_in c) rows)
