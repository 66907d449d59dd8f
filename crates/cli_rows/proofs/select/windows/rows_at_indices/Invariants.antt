use Rattle.std.proofs.Common.{◌≡◌, length, map, nat_lt, take, true}
use Rattle.std.specs.List.{flat_map, list_all}
use Rattle.nest_array.specs.Seen.{layout_of}
use Rattle.cli_rows.specs.Rows.{rows_at_indices, rows_in, rows_of}
use Rattle.cli_rows.proofs.select.windows.rows_at_indices.Given as goal

abbrev pub invariant-loop-index : goal.invariant-loop-index
invariant-loop-index l = let rows = flat_map rows_of (map layout_of l.arrays) in
    (flat_map rows_in l.windows.items ≡ rows_at_indices rows (take l.index-index l.wanted)) × (list_all (λ p. nat_lt p (length rows)) (take l.index-index l.wanted) ≡ true)
