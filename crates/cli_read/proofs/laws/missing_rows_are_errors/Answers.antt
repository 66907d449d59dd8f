use Rattle.std.proofs.Common.{refl}
use Rattle.cli_read.proofs.laws.missing_rows_are_errors.Goals as goal

pub returns-clause-there : goal.returns-clause-there
returns-clause-there c = λ e. absurd cc

pub returns-clause-error : goal.returns-clause-error
returns-clause-error c = (λ real. refl, refl)

pub returns-clause-before : goal.returns-clause-before
returns-clause-before c = λ h. let e = h.1 in absurd cc

pub returns-clause-early : goal.returns-clause-early
returns-clause-early c = λ h. let e = h.0 (λ m. cc) in absurd cc
