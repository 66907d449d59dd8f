use Rattle.nest_any.specs.Words.{type_of}
use Rattle.json_read.proofs.EmptyLaws.{names-apart}
use Rattle.json_read.proofs.builders.new_builder.Goals as goal

pub returns-in-Ok-clause-distinct : goal.returns-in-Ok-clause-distinct
returns-in-Ok-clause-distinct c = names-apart (type_of c.args.data_type.now) c.in_default.ensures.ok
