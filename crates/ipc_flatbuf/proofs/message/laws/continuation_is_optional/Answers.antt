use Rattle.ipc_flatbuf.specs.MessageLaws.{continuation_is_optional}
use Rattle.ipc_flatbuf.proofs.message.laws.continuation_is_optional.Goals as goal

pub returns : goal.returns
returns c = continuation_is_optional
