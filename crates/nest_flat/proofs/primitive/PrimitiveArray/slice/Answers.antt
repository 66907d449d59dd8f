use Rattle.nest_model.specs.SliceLaws.{is-cut}
use Rattle.nest_flat.proofs.primitive.PrimitiveArray.slice.Goals as goal

pub returns : goal.returns
returns g c = is-cut _ _ _ _ c.requires c.cut.ensures
