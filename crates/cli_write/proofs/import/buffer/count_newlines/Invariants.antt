use Rattle.std.proofs.Common.{◌<◌}
use Rattle.cli_write.specs.LineBuffers.{HasNewline}
use Rattle.cli_write.proofs.import.buffer.count_newlines.Given as goal

abbrev pub invariant-loop-byte : goal.invariant-loop-byte
invariant-loop-byte l = record { found : 0 < l.found → HasNewline l.text }
