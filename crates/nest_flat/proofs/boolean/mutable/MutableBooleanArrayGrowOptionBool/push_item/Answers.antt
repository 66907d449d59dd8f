use Rattle.std.proofs.Common.{◌+◌}
use Rattle.nest_model.specs.Checks.{largest_length}
use Rattle.nest_model.specs.Meaning.{len}
use Rattle.nest_flat.proofs.Refusing.{limit-unrefused, limit-due}
use Rattle.nest_flat.proofs.boolean.mutable.MutableBooleanArrayGrowOptionBool.push_item.Goals as goal

pub returns-clause-unrefused : goal.returns-clause-unrefused
returns-clause-unrefused c = limit-unrefused c.push.result largest_length (len c.args.self.now + 1) c.push.ensures.overflow

pub returns-clause-cause : goal.returns-clause-cause
returns-clause-cause c = limit-due c.push.result largest_length (len c.args.self.now + 1) c.push.ensures.overflow c.push.ensures.errors
