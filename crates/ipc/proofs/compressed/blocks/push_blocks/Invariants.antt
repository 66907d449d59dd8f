use Rattle.std.proofs.Common.{List, length}
use Rattle.ipc.specs.EncodedFiles.{file_blocks_of}
use Rattle.ipc.specs.CompressedFiles.{FileMessage, AreReadBack}
use Rattle.ipc.proofs.BlockMessages.{IsScanned}
use Rattle.ipc.proofs.compressed.blocks.push_blocks.Given as goal

abbrev pub invariant-messages : goal.invariant-messages
invariant-messages l = (parts : List FileMessage) → AreReadBack parts l.bytes → IsScanned parts l.position (file_blocks_of l.fn.blocks) (file_blocks_of l.blocks) l.bytes l.rest l.start

abbrev pub decreases-messages : goal.decreases-messages
decreases-messages l = length l.rest
