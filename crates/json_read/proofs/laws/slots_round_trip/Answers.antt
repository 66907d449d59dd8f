use Rattle.json_read.proofs.RoundTrip.{slot-back}
use Rattle.json_read.proofs.laws.slots_round_trip.Goals as goal

pub returns : goal.returns
returns c t s a h b r = slot-back c.half_text_reads_back.ensures t s a h b r
