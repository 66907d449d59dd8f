use Rattle.std.proofs.Common.{refl}
use Rattle.cli_read.proofs.CountLaws.{counted-lines, file-counts}
use Rattle.cli_read.proofs.laws.counted_rows_are_the_lines.Goals as goal

pub returns-clause-rows : goal.returns-clause-rows
returns-clause-rows c = λ h. counted-lines h.schema h.batches

pub returns-clause-lines : goal.returns-clause-lines
returns-clause-lines c = λ h. refl

pub returns-clause-file : goal.returns-clause-file
returns-clause-file c = file-counts
