use Rattle.nest_model.specs.Fits.{checks}
use Rattle.nest_model.specs.Decide.{one-first_error}
use Rattle.nest_model.proofs.refusals.one_first_error.Goals as goal

pub returns : goal.returns
returns c = λ a e f. one-first_error (checks a) e f
