use Rattle.std.proofs.Common.{◌∙◌}
use Rattle.nest_model.specs.SliceLaws.{is-cut}
use Rattle.nest_array.proofs.array.AnyArrayImpl.sliced.Goals as goal

pub returns-clause-slice : goal.returns-clause-slice
returns-clause-slice g c = is-cut _ _ _ _ c.requires (c.into_any.ensures ∙ c.in_ok-part.ensures.ok)
