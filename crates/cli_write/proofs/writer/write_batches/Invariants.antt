use Rattle.std.proofs.Common.{List, ◌++◌, map, take}
use Rattle.ipc_schema.specs.Schemas.{SchemaModel}
use Rattle.ipc.specs.Streams.{RecordBatchTree, record_batch_of}
use Rattle.cli_args.specs.declared.format.Format as forms
use Rattle.cli_write.specs.Writers.{HasWritten}
use Rattle.cli_write.proofs.writer.write_batches.Given as goal

abbrev pub invariant-loop-batch : goal.invariant-loop-batch
invariant-loop-batch g l =
    (form : forms.Format) (start : _) (s : SchemaModel) (went : List RecordBatchTree) → HasWritten g.W.Write.contents form start s went l.fn.writer → HasWritten g.W.Write.contents form start s (went ++ map record_batch_of (take l.batch-index l.batches)) l.writer
