use Rattle.type_text.proofs.RoundTrip.{one-type}
use Rattle.type_text.proofs.laws.equal_texts_have_equal_types.Goals as goal

pub returns : goal.returns
returns c = one-type
