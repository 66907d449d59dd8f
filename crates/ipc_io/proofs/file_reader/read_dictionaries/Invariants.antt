use Rattle.std.specs.Io.KnownBytes.{Keeps}
use Rattle.ipc.specs.Streams.{state_of}
use Rattle.ipc_io.specs.Seeks.{known}
use Rattle.ipc_io.proofs.FileSteps.{IsUnderWay}
use Rattle.ipc_io.proofs.file_reader.read_dictionaries.Given as goal

abbrev pub invariant-loop-block : goal.invariant-loop-block
invariant-loop-block g l =
    let position = g.R.Seek.stream_position in
    let bytes = g.R.Seek.stream_bytes in
    record {
      kept : Keeps (known (position l.fn.reader) (bytes l.fn.reader)) (known (position l.reader) (bytes l.reader));
      on : IsUnderWay (known (position l.fn.reader) (bytes l.fn.reader)) (state_of l.fn.state) (state_of l.state) l.blocks l.block-index;
    }
