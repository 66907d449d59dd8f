use Rattle.nest_model.specs.BuilderRefusalLaws.{items-both, some-then}
use Rattle.nest_model.proofs.builder_refusals.refused_in_order.Goals as goal

pub returns-clause-both : goal.returns-clause-both
returns-clause-both c = items-both

pub returns-clause-first : goal.returns-clause-first
returns-clause-first c = some-then
