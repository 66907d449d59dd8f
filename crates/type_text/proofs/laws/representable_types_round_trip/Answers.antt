use Rattle.type_text.proofs.RoundTrip.{representable-round-trips}
use Rattle.type_text.proofs.laws.representable_types_round_trip.Goals as goal

pub returns : goal.returns
returns c = representable-round-trips
