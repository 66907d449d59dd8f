use Rattle.std.proofs.Common.{◌-◌, map}
use Rattle.ipc.specs.Streams.{record_batch_of}
use Rattle.ipc_io.specs.StreamReaders.{as_slice_reader}
use Rattle.guide.proofs.Streaming.{IsUnderWay}
use Rattle.guide.proofs.files.streaming.read_first_batches.Given as goal

abbrev pub invariant-loop : goal.invariant-loop
invariant-loop g l = let remaining = g.R.Read.remaining in IsUnderWay l.most (l.most - l.counter) (map record_batch_of l.batches.items) (remaining l.fn.input) (as_slice_reader remaining l.reader)
