use Rattle.std.proofs.Common.{inl, inr, arith, refl}
use Rattle.cli_read.proofs.laws.differences_are_found.Goals as goal

pub returns-clause-same : goal.returns-clause-same
returns-clause-same c = (3, 2, (refl, refl), refl, refl)

pub returns-clause-second : goal.returns-clause-second
returns-clause-second c = (1, 2, (refl, (refl, λ same. absurd (grind (arith, same)))), inr (omega arith), inr (omega arith))

pub returns-clause-before : goal.returns-clause-before
returns-clause-before c = (1, 2, (refl, (refl, λ same. absurd (grind (arith, same)))), inr (omega arith), inr (omega arith))

pub returns-clause-longer : goal.returns-clause-longer
returns-clause-longer c = (2, 1, (refl, (refl, λ same. absurd (grind (arith, same)))), inr (omega arith), inl refl)

pub returns-clause-schema : goal.returns-clause-schema
returns-clause-schema c = (0, 0, λ same. absurd (grind (arith, same)), tt, tt)
