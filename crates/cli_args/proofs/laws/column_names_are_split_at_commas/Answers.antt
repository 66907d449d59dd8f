use Rattle.std.proofs.Common.{refl}
use Rattle.cli_args.specs.ColumnNames.{names_in}
use Rattle.cli_args.proofs.OnTexts.{on_texts}
use Rattle.cli_args.proofs.laws.column_names_are_split_at_commas.Goals as goal

pub returns-clause-two : goal.returns-clause-two
unfolding on_texts names_in
returns-clause-two c = refl

pub returns-clause-one : goal.returns-clause-one
unfolding on_texts names_in
returns-clause-one c = refl

pub returns-clause-empty : goal.returns-clause-empty
unfolding on_texts names_in
returns-clause-empty c = refl

pub returns-clause-last : goal.returns-clause-last
unfolding on_texts names_in
returns-clause-last c = refl

pub returns-clause-inside : goal.returns-clause-inside
unfolding on_texts names_in
returns-clause-inside c = refl
