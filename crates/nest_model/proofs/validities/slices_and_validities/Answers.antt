use Rattle.std.specs.Prelude.{Some}
use Rattle.std.proofs.Common.{ap, sym, ◌∙◌}
use Rattle.nest_model.specs.Meaning.{len}
use Rattle.nest_model.specs.SliceLaws.{len-cut}
use Rattle.nest_model.specs.ValidityLaws.{len-with_validity}
use Rattle.nest_model.proofs.validities.slices_and_validities.Goals as goal

pub returns-clause-slice_length : goal.returns-clause-slice_length
returns-clause-slice_length c a b o n h w = ap len h.parts ∙ len-cut a o n w

pub returns-clause-bits : goal.returns-clause-bits
returns-clause-bits c a b bits h = h.0 ∙ sym (ap len h.1 ∙ len-with_validity a (Some bits))
