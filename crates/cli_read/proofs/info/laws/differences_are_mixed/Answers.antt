use Rattle.std.proofs.Common.{refl}
use Rattle.cli_read.proofs.info.laws.differences_are_mixed.Goals as goal

pub returns-clause-none : goal.returns-clause-none
returns-clause-none c = refl

pub returns-clause-one : goal.returns-clause-one
returns-clause-one c = refl

pub returns-clause-mixed : goal.returns-clause-mixed
returns-clause-mixed c = refl

pub returns-clause-plain : goal.returns-clause-plain
returns-clause-plain c = refl

pub returns-clause-lz4 : goal.returns-clause-lz4
returns-clause-lz4 c = refl

pub returns-clause-some : goal.returns-clause-some
returns-clause-some c = refl
