use Rattle.nest_model.specs.FitsDecide.{validity-or_error}
use Rattle.nest_model.proofs.refusals.validity_or_error.Goals as goal

pub returns : goal.returns
returns c = validity-or_error
