use Rattle.std.proofs.Common.{List, length}
use Rattle.ipc.specs.CompressedMessages.{BatchMessage, ArePlainMessages}
use Rattle.ipc.proofs.MessageLoops.{IsAfter}
use Rattle.ipc.proofs.compressed.messages.compress_messages.Given as goal

abbrev pub invariant-messages : goal.invariant-messages
invariant-messages l = (ms : List BatchMessage) → ArePlainMessages ms l.bytes → IsAfter ms l.fn.out.items l.out.items l.rest

abbrev pub decreases-messages : goal.decreases-messages
decreases-messages l = length l.rest
