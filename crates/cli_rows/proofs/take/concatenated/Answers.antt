use Rattle.std.proofs.Common.{map}
use Rattle.nest_array.specs.Seen.{layout_of}
use Rattle.cli_rows.proofs.ConcatenatedRows.{rows_joined}
use Rattle.cli_rows.proofs.take.concatenated.Goals as goal

pub returns-in-Ok-clause-rows : goal.returns-in-Ok-clause-rows
returns-in-Ok-clause-rows c = rows_joined (map layout_of c.args.arrays.now) (layout_of c.in-Ok.rows) (λ none. cc (c.in-Ok.ensures.types.1 none)) c.in-Ok.ensures.ok
