use Rattle.nest_model.specs.BuilderKeyLaws.{known-stands, stands-known}
use Rattle.nest_model.proofs.builder_refusals.known_values.Goals as goal

pub returns-clause-stands : goal.returns-clause-stands
returns-clause-stands c = known-stands

pub returns-clause-back : goal.returns-clause-back
returns-clause-back c = stands-known
