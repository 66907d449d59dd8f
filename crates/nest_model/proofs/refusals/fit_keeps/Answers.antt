use Rattle.nest_model.specs.FitsLaws.{fits-keeps}
use Rattle.nest_model.proofs.refusals.fit_keeps.Goals as goal

pub returns : goal.returns
returns c = λ a h f. (h, fits-keeps a h f)
