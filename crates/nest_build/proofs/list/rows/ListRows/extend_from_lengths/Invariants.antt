use Rattle.std.proofs.Common.{◌≡◌, ◌++◌, take}
use Rattle.nest_model.specs.BuilderRow.{end_from}
use Rattle.nest_model.specs.BuilderAddRow.{rows_of_lengths}
use Rattle.nest_build.proofs.list.rows.ListRows.extend_from_lengths.Given as goal

abbrev pub invariant-loop-items : goal.invariant-loop-items
invariant-loop-items g l = l.self ≡ l.fn.self ++ rows_of_lengths (end_from 0 l.fn.self) (take l.items-index l.lengths)
