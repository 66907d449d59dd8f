use Rattle.std.proofs.Common.{ap, ◌∙◌, arith}
use Rattle.nest_memory.specs.Bits.{bit}
use Rattle.nest_memory.proofs.BitLists.{bit_appended}
use Rattle.nest_memory.proofs.bitmap.bits.make_room.Goals as goal

pub returns-clause-keeps : goal.returns-clause-keeps
returns-clause-keeps c = λ j lt. ap (λ xs. bit xs j) c.in_ok-push.ensures.items ∙ bit_appended _ 0 j (omega arith)
