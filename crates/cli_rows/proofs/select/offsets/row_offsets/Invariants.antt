use Rattle.cli_rows.proofs.Offsets.{StartsSoFar}
use Rattle.cli_rows.proofs.select.offsets.row_offsets.Given as goal

abbrev pub invariant-loop-array : goal.invariant-loop-array
invariant-loop-array l = StartsSoFar l.offsets.items l.arrays l.array-index l.rows
