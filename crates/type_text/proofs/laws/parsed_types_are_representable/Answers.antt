use Rattle.type_text.proofs.OnlyRepresentable.{parsed-is-representable}
use Rattle.type_text.proofs.laws.parsed_types_are_representable.Goals as goal

pub returns : goal.returns
returns c = parsed-is-representable
