use Rattle.type_text.proofs.Sound.{text-kept}
use Rattle.type_text.proofs.laws.parsed_types_have_the_text.Goals as goal

pub returns : goal.returns
returns c = text-kept
