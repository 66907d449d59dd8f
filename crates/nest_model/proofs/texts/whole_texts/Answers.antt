use Rattle.nest_model.specs.TextLaws.{text-whole}
use Rattle.nest_model.proofs.texts.whole_texts.Goals as goal

pub returns : goal.returns
returns c = text-whole
