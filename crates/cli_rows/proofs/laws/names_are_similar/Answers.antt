use Rattle.std.proofs.Common.{refl}
use Rattle.std.specs.Str.{chars}
use Rattle.strsim.specs.Edits.{cost_at, osa_from, osa_row}
use Rattle.cli_rows.proofs.laws.names_are_similar.Goals as goal

pub returns-clause-one_of_two : goal.returns-clause-one_of_two
unfolding chars osa_from osa_row cost_at
returns-clause-one_of_two c = refl

pub returns-clause-one_of_three : goal.returns-clause-one_of_three
unfolding chars osa_from osa_row cost_at
returns-clause-one_of_three c = refl

pub returns-clause-one_of_four : goal.returns-clause-one_of_four
unfolding chars osa_from osa_row cost_at
returns-clause-one_of_four c = refl

pub returns-clause-one_of_five : goal.returns-clause-one_of_five
unfolding chars osa_from osa_row cost_at
returns-clause-one_of_five c = refl

pub returns-clause-two_of_two : goal.returns-clause-two_of_two
unfolding chars osa_from osa_row cost_at
returns-clause-two_of_two c = refl

pub returns-clause-two_of_three : goal.returns-clause-two_of_three
unfolding chars osa_from osa_row cost_at
returns-clause-two_of_three c = refl

pub returns-clause-two_of_six : goal.returns-clause-two_of_six
unfolding chars osa_from osa_row cost_at
returns-clause-two_of_six c = refl

pub returns-clause-more : goal.returns-clause-more
unfolding chars osa_from osa_row cost_at
returns-clause-more c = refl

pub returns-clause-case : goal.returns-clause-case
unfolding chars osa_from osa_row cost_at
returns-clause-case c = refl
