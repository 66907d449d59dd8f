use Rattle.std.proofs.Common.{ap}
use Rattle.nest_model.specs.Slice.{slice_layout}
use Rattle.nest_model.specs.SliceLaws.{is-cut}
use Rattle.nest_array.proofs.null.NullArray.slice.Goals as goal

pub returns : goal.returns
returns c = is-cut _ _ _ _ c.requires (ap (λ a. slice_layout a c.args.o c.args.n) c.self.view_is)
