use Rattle.nest_model.specs.SliceLaws.{is-cut}
use Rattle.nest_array.proofs.fixed_size_list.FixedSizeListArray.slice.Goals as goal

pub returns : goal.returns
returns c = is-cut _ _ _ _ c.requires c.cut.ensures
