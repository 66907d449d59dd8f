use Rattle.std.proofs.Common.{inl, inr, arith, refl}
use Rattle.cli_write.proofs.laws.errors_stop_a_copy.Goals as goal

pub returns-clause-after : goal.returns-clause-after
returns-clause-after c = inl (λ real. refl, λ e. e)

pub returns-clause-early : goal.returns-clause-early
returns-clause-early c = λ h. elim h [ inl p ↦ let e = p.0 (λ m. cc) in cc | inr p ↦ let e = p.0 (λ m. cc) in cc ]

pub returns-clause-late : goal.returns-clause-late
returns-clause-late c = λ h. elim h [ inl p ↦ p.1 | inr p ↦ p.1 ]

pub returns-clause-enough : goal.returns-clause-enough
returns-clause-enough c = λ h. elim h [ inl p ↦ p.1 (omega arith) | inr p ↦ let e = p.0 (λ m. cc) in cc ]

pub returns-clause-column : goal.returns-clause-column
returns-clause-column c = refl
