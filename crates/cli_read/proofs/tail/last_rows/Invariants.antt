use Rattle.std.proofs.Common.{◌≡◌, ◌+◌, length}
use Rattle.cli_rows.specs.Rows.{rows_of_arrays}
use Rattle.cli_read.specs.TailSteps.{rows_reversed}
use Rattle.cli_read.proofs.LastRows.{IsFound}
use Rattle.cli_read.proofs.tail.last_rows.Given as goal

abbrev pub invariant-loop-turn : goal.invariant-loop-turn
invariant-loop-turn l = record {
  left : length l.arrays.items + l._turn ≡ length l.fn.arrays.items;
  on : IsFound l.fn.count (rows_of_arrays l.fn.arrays.items) (rows_of_arrays l.arrays.items) l.missing (rows_reversed l.found.items);
}
