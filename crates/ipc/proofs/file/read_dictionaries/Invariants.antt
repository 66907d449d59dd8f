use Rattle.std.proofs.Common.{◌≡◌, drop}
use Rattle.ipc.specs.Streams.{state_of}
use Rattle.ipc.specs.Files.{dictionaries_at}
use Rattle.ipc.proofs.file.read_dictionaries.Given as goal

abbrev pub invariant-loop-block : goal.invariant-loop-block
invariant-loop-block l = dictionaries_at (state_of l.state) l.bytes (drop l.block-index l.blocks) ≡ dictionaries_at (state_of l.fn.state) l.bytes l.blocks
