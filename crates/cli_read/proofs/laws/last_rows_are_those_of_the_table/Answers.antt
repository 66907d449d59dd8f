use Rattle.std.proofs.Common.{List, ℕ, Some, ap}
use Rattle.cli_rows.specs.Tables.{record_rows}
use Rattle.cli_read.specs.Decoded.{stream_contents}
use Rattle.cli_read.proofs.TailLaws.{file-last, stream-last, text-parts}
use Rattle.cli_read.proofs.laws.last_rows_are_those_of_the_table.Goals as goal

pub returns-clause-stream : goal.returns-clause-stream
returns-clause-stream c = λ picks bytes n h found. stream-last n (stream_contents picks bytes) h found

pub returns-clause-file : goal.returns-clause-file
returns-clause-file c = file-last

pub returns-clause-lines : goal.returns-clause-lines
returns-clause-lines c = λ n h. ap (λ (text : List ℕ). Some text) (text-parts n (record_rows h))
