use Rattle.float_text.proofs.TextReads.{same-bits}
use Rattle.float_text.proofs.laws.text_determines_number.Goals as goal

pub returns : goal.returns
returns c f a b h k n e = same-bits f a b h k n e
