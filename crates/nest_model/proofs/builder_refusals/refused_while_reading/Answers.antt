use Rattle.nest_model.specs.BuilderReadingLaws.{read-refused}
use Rattle.nest_model.proofs.builder_refusals.refused_while_reading.Goals as goal

pub returns : goal.returns
returns c = read-refused
