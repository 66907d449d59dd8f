use Rattle.std.proofs.Common.{refl}
use Rattle.std.specs.Str.{chars}
use Rattle.strsim.specs.Edits.{cost_at, osa_from, osa_row}
use Rattle.cli_rows.proofs.laws.edits_are_counted.Goals as goal

pub returns-clause-none : goal.returns-clause-none
unfolding chars osa_from osa_row cost_at
returns-clause-none c = refl

pub returns-clause-inserted : goal.returns-clause-inserted
unfolding chars osa_from osa_row cost_at
returns-clause-inserted c = refl

pub returns-clause-deleted : goal.returns-clause-deleted
unfolding chars osa_from osa_row cost_at
returns-clause-deleted c = refl

pub returns-clause-replaced : goal.returns-clause-replaced
unfolding chars osa_from osa_row cost_at
returns-clause-replaced c = refl

pub returns-clause-exchanged : goal.returns-clause-exchanged
unfolding chars osa_from osa_row cost_at
returns-clause-exchanged c = refl

pub returns-clause-two_bytes : goal.returns-clause-two_bytes
unfolding chars osa_from osa_row cost_at
returns-clause-two_bytes c = refl

pub returns-clause-several : goal.returns-clause-several
unfolding chars osa_from osa_row cost_at
returns-clause-several c = refl

pub returns-clause-empty : goal.returns-clause-empty
unfolding chars osa_from osa_row cost_at
returns-clause-empty c = refl
