use Rattle.json_read.proofs.HalfNearest.{is-nearest}
use Rattle.json_read.proofs.laws.halves_are_nearest.Goals as goal

pub returns : goal.returns
returns c = record { nearest = λ num den half some. (is-nearest num den some half).0; even_at_ties = λ num den half some. (is-nearest num den some half).1 }
