use Rattle.std.proofs.Common.{◌∙◌, [], ◌∷◌, ◌++◌, List, Ok, map, sym, ap, subst}
use Rattle.std.specs.Io.KnownBytes.{Keeps}
use Rattle.ipc.specs.Streams.{record_batch_of}
use Rattle.ipc.specs.declared.batch.Batch.{Batch}
use Rattle.ipc_schema.specs.Schemas.{schema_of}
use Rattle.cli_args.specs.RequestTrees.{request_tree}
use Rattle.cli_read.specs.Printed.{FailsWith, WritesText}
use Rattle.cli_read.specs.RemainingRequests.{remaining_request}
use Rattle.cli_read.specs.RowBuffers.{table_of_batches}
use Rattle.cli_read.proofs.printer.write_batch.Goals as goal

pub returns-in-Ok-clause-left : goal.returns-in-Ok-clause-left
returns-in-Ok-clause-left g c = c.skip_request_rows.ensures ∙ ap (remaining_request (request_tree c.args.left.now)) (sym (c.row_count-rows.ensures (schema_of c.args.schema.now)))
