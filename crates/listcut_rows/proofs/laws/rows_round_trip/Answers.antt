use Rattle.listcut_rows.proofs.RoundTrip.{text_again}
use Rattle.listcut_rows.proofs.laws.rows_round_trip.Goals as goal

pub returns : goal.returns
returns c = text_again
