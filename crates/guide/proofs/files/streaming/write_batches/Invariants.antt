use Rattle.std.proofs.Common.{map, take}
use Rattle.ipc.specs.Streams.{record_batch_of}
use Rattle.ipc_io.specs.WriterLaws.{WritesBatches}
use Rattle.guide.proofs.files.streaming.write_batches.Given as goal

abbrev pub invariant-loop-batch : goal.invariant-loop-batch
invariant-loop-batch g l = WritesBatches g.W.Write.contents (map record_batch_of (take l.batch-index l.batches)) l.initial.writer l.writer
