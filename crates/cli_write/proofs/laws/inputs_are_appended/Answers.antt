use Rattle.std.proofs.Common.{inl, inr, ap, length, refl}
use Rattle.ipc_schema.specs.Schemas.{SchemaModel}
use Rattle.cli_write.proofs.laws.inputs_are_appended.Goals as goal

pub returns-clause-other : goal.returns-clause-other
returns-clause-other c = λ e. let n = ap (λ (s : SchemaModel). length s.fields) e in absurd cc

pub returns-clause-same : goal.returns-clause-same
returns-clause-same c = λ h. h refl

pub returns-clause-error : goal.returns-clause-error
returns-clause-error c = (inl (λ real. refl, λ e. e), refl)

pub returns-clause-early : goal.returns-clause-early
returns-clause-early c = λ h. elim h.0 [ inl p ↦ let e = p.0 (λ m. cc) in absurd cc | inr p ↦ let e = p.0 (λ m. cc) in absurd cc ]

pub returns-clause-unlike : goal.returns-clause-unlike
returns-clause-unlike c = λ h. let n = ap (λ (s : SchemaModel). length s.fields) h.1 in absurd cc
