use Rattle.std.proofs.Common.{ap, ◌∙◌, arith}
use Rattle.nest_model.specs.Layout.{Layout}
use Rattle.nest_model.specs.Meaning.{slots_of}
use Rattle.nest_model.specs.SliceLaws.{slots-cut}
use Rattle.nest_flat.proofs.boolean.mutable.MutableBooleanArray.truncate.Goals as goal

pub returns-clause-slots : goal.returns-clause-slots
returns-clause-slots c = ap (λ (a : Layout). slots_of a) c.cut.ensures ∙ slots-cut c.args.self.now 0 c.args.n (omega arith)
