use Rattle.nest_model.specs.Fits.{checks}
use Rattle.nest_model.specs.Decide.{pass-no_error}
use Rattle.nest_model.proofs.refusals.fit_without_error.Goals as goal

pub returns : goal.returns
returns c = λ a e. pass-no_error (checks a) e
