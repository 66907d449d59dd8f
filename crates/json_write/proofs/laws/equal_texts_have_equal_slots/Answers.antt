use Rattle.json_write.proofs.Injective.{one-text-one-slot}
use Rattle.json_write.proofs.laws.equal_texts_have_equal_slots.Goals as goal

pub returns : goal.returns
returns c t s z o h l e = one-text-one-slot t s z o h l e
