use Rattle.float_text.proofs.HalfTexts.{half-text-determines}
use Rattle.float_text.proofs.laws.half_text_determines_number.Goals as goal

pub returns : goal.returns
returns c a b h k n e = half-text-determines a b h k n e
