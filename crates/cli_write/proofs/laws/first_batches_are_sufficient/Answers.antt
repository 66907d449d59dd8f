use Rattle.std.proofs.Common.{inl, inr, arith, refl}
use Rattle.cli_write.proofs.laws.first_batches_are_sufficient.Goals as goal

pub returns-clause-first : goal.returns-clause-first
returns-clause-first c = inr (omega arith)

pub returns-clause-third : goal.returns-clause-third
returns-clause-third c = λ h. elim h [ inl e ↦ absurd cc | inr e ↦ omega (arith, e) ]

pub returns-clause-whole : goal.returns-clause-whole
returns-clause-whole c = inl refl

pub returns-clause-part : goal.returns-clause-part
returns-clause-part c = λ h. elim h [ inl e ↦ absurd cc | inr e ↦ e ]
