use Rattle.nest_model.specs.BuilderRowCheckLaws.{pass-ready, ready-pass, pass-lengths_ready, lengths_ready-pass}
use Rattle.nest_model.proofs.builder_refusals.rows_ready.Goals as goal

pub returns-clause-row : goal.returns-clause-row
returns-clause-row c = λ t w. (pass-ready t w, λ h. ready-pass t h.0 h.1)

pub returns-clause-lengths : goal.returns-clause-lengths
returns-clause-lengths c = λ ns t w. (pass-lengths_ready ns t w, λ h. lengths_ready-pass ns t h.0 h.1)
