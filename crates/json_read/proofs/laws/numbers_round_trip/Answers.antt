use Rattle.json_read.proofs.ValuesBack.{values-back}
use Rattle.json_read.proofs.laws.numbers_round_trip.Goals as goal

pub returns : goal.returns
returns c p t z zs h = values-back c.half_text_reads_back.ensures p t z zs h
