use Rattle.std.proofs.Common.{sym, ◌∙◌}
use Rattle.nest_flat.specs.NullSlots.{slot-invalid}
use Rattle.nest_build.proofs.fixed_size_binary.mutable.MutableFixedSizeBinaryArray.get.Goals as goal

pub returns-else-is_valid : goal.returns-else-is_valid
returns-else-is_valid c = sym (slot-invalid c.args.self.now c.args.i (sym c.is_valid.ensures ∙ c.if-is_valid.false))
