use Rattle.std.proofs.Common.{◌≡◌, ◌++◌}
use Rattle.std.specs.List.{flat_map}
use Rattle.nest_memory.specs.Sublist.{sublist}
use Rattle.cli_rows.specs.Rows.{rows_in}
use Rattle.cli_rows.specs.RowLaws.{rows_behind}
use Rattle.cli_rows.proofs.select.windows.push_slice.Given as goal

abbrev pub invariant-loop-array : goal.invariant-loop-array
invariant-loop-array l =
    flat_map rows_in l.windows.items ++ sublist (rows_behind l.arrays l.array-index) l.skip l.left ≡ flat_map rows_in l.initial.windows.items ++ sublist (rows_behind l.arrays 0) l.o l.n
