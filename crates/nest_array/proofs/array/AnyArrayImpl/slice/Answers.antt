use Rattle.nest_model.specs.SliceLaws.{is-cut}
use Rattle.nest_array.proofs.array.AnyArrayImpl.slice.Goals as goal

pub returns : goal.returns
returns g c = is-cut _ _ _ _ c.requires c.slice.ensures
