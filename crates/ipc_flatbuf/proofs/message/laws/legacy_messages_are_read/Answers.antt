use Rattle.ipc_flatbuf.specs.MessageExamples.{schema_parts, end_parts}
use Rattle.ipc_flatbuf.proofs.message.laws.legacy_messages_are_read.Goals as goal

pub returns-clause-schema : goal.returns-clause-schema
returns-clause-schema c = schema_parts

pub returns-clause-end : goal.returns-clause-end
returns-clause-end c = end_parts
