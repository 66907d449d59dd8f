use Rattle.std.proofs.lemmas.Bool.Decides.{same_from_decides}
use Rattle.nest_model.specs.Meaning.{slots_of}
use Rattle.nest_model.specs.SlotCode.{same_slots-decides}
use Rattle.nest_build.proofs.fixed_size_binary.equality.MutableFixedSizeBinaryArrayPartialEq.eq.Goals as goal

pub returns-clause-computes : goal.returns-clause-computes
returns-clause-computes c = same_from_decides _ _ c.same_rows.ensures (same_slots-decides (slots_of c.args.self.now) (slots_of c.args.other.now))
