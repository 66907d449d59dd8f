use Rattle.nest_model.specs.FitsDecide.{fits-or_error, decide_utf8}
use Rattle.nest_model.proofs.refusals.fit_or_error.Goals as goal

pub returns : goal.returns
returns c = λ a. fits-or_error a decide_utf8
