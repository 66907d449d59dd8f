use Rattle.ipc_flatbuf.specs.MessageExamples.{negative_without, negative_with, text_fails}
use Rattle.ipc_flatbuf.proofs.message.laws.invalid_lengths_fail.Goals as goal

pub returns-clause-without : goal.returns-clause-without
returns-clause-without c = negative_without

pub returns-clause-with : goal.returns-clause-with
returns-clause-with c = negative_with

pub returns-clause-text : goal.returns-clause-text
returns-clause-text c = text_fails
