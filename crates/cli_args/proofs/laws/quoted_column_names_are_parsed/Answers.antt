use Rattle.std.proofs.Common.{refl}
use Rattle.cli_args.specs.ColumnNames.{names_in}
use Rattle.cli_args.proofs.OnTexts.{on_texts}
use Rattle.cli_args.proofs.laws.quoted_column_names_are_parsed.Goals as goal

pub returns-clause-comma : goal.returns-clause-comma
unfolding on_texts names_in
returns-clause-comma c = refl

pub returns-clause-quote : goal.returns-clause-quote
unfolding on_texts names_in
returns-clause-quote c = refl

pub returns-clause-empty : goal.returns-clause-empty
unfolding on_texts names_in
returns-clause-empty c = refl

pub returns-clause-closing : goal.returns-clause-closing
unfolding on_texts names_in
returns-clause-closing c = refl

pub returns-clause-after : goal.returns-clause-after
unfolding on_texts names_in
returns-clause-after c = refl
