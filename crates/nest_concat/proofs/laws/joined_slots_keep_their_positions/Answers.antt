use Rattle.nest_concat.proofs.LaidWholes.{keyed-array, keyed-same, two-behind, two-count, two-first}
use Rattle.nest_concat.proofs.laws.joined_slots_keep_their_positions.Goals as goal

pub returns-clause-count : goal.returns-clause-count
returns-clause-count c a b e f g = two-count a b e f g

pub returns-clause-first : goal.returns-clause-first
returns-clause-first c a b i e f g l = two-first a b i e f g l

pub returns-clause-behind : goal.returns-clause-behind
returns-clause-behind c a b i e f g l = two-behind a b i e f g l

pub returns-clause-keyed : goal.returns-clause-keyed
returns-clause-keyed c t ks v d f g e = keyed-array t ks v d f g e

pub returns-clause-same : goal.returns-clause-same
returns-clause-same c t ks v d f g e = keyed-same t ks v d f g e
