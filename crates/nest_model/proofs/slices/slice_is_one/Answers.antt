use Rattle.nest_model.specs.SliceLaws.{is-cut}
use Rattle.nest_model.proofs.slices.slice_is_one.Goals as goal

pub returns : goal.returns
returns c a b o n = is-cut a o n b
