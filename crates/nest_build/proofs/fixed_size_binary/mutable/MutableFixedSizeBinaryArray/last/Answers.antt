use Rattle.std.proofs.Common.{ap, arith, ◌∙◌}
use Rattle.nest_model.specs.Slot as slots
use Rattle.nest_array.specs.FixedBytesLaws.{last-slot}
use Rattle.nest_build.proofs.fixed_size_binary.mutable.MutableFixedSizeBinaryArray.last.Goals as goal

pub returns-in-None-clause-ok : goal.returns-in-None-clause-ok
returns-in-None-clause-ok c = last-slot c.args.self.now c.len-len.result _ c.len-len.ensures (omega arith) c.in-None.ensures

pub returns-in_ok-from_slice-in-Some-clause-ok : goal.returns-in_ok-from_slice-in-Some-clause-ok
returns-in_ok-from_slice-in-Some-clause-ok c =
    ap slots.bytes c.in_ok-from_slice-in-Some.ensures.items ∙ last-slot c.args.self.now c.len-len.result _ c.len-len.ensures (omega arith) c.in-Some.ensures
