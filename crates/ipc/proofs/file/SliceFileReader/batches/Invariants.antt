use Rattle.std.proofs.Common.{◌≡◌, length, map, drop}
use Rattle.ipc.specs.Streams.{record_batch_of}
use Rattle.ipc.specs.Files.{batches_at, batches_of_file}
use Rattle.ipc.proofs.BlockLoops.{with_first}
use Rattle.ipc.proofs.file.SliceFileReader.batches.Given as goal

abbrev pub invariant-loop-i : goal.invariant-loop-i
invariant-loop-i l = record {
  end : l.i-end ≡ length l.self.blocks;
  left : with_first (map record_batch_of l.batches.items) (batches_at l.self.state l.self.bytes (drop l.i l.self.blocks)) ≡ batches_of_file l.self;
}
