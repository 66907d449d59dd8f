use Rattle.std.proofs.Common.{ap, ◌∙◌, arith}
use Rattle.nest_model.specs.Layout.{Layout}
use Rattle.nest_model.specs.Meaning.{slots_of}
use Rattle.nest_model.specs.SliceLaws.{slots-cut}
use Rattle.nest_flat.proofs.primitive.mutable.MutablePrimitiveArray.truncate.Goals as goal

pub returns-clause-slots : goal.returns-clause-slots
returns-clause-slots g c = ap (λ (a : Layout). slots_of a) c.cut.ensures ∙ slots-cut c.args.self.now 0 c.args.n (omega arith)
