use Rattle.nest_model.specs.SliceLaws.{is-cut}
use Rattle.nest_flat.proofs.binary.BinaryArray.slice.Goals as goal

pub returns : goal.returns
returns g c = is-cut _ _ _ _ c.requires c.cut.ensures
