use Rattle.std.proofs.Common.{refl}
use Rattle.std.specs.Str.{chars}
use Rattle.strsim.specs.Edits.{cost_at, osa_from, osa_row}
use Rattle.cli_rows.proofs.laws.unknown_names_are_text.Goals as goal

pub returns-clause-none : goal.returns-clause-none
unfolding chars osa_from osa_row cost_at
returns-clause-none c = refl

pub returns-clause-one : goal.returns-clause-one
unfolding chars osa_from osa_row cost_at
returns-clause-one c = refl

pub returns-clause-two : goal.returns-clause-two
unfolding chars osa_from osa_row cost_at
returns-clause-two c = refl

pub returns-clause-empty : goal.returns-clause-empty
unfolding chars osa_from osa_row cost_at
returns-clause-empty c = refl
