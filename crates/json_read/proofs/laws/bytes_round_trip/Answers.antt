use Rattle.json_read.proofs.ReadBack.{bytes-back}
use Rattle.json_read.proofs.laws.bytes_round_trip.Goals as goal

pub returns : goal.returns
returns c bs h = bytes-back bs h
