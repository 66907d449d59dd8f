use Rattle.std.proofs.Common.{refl}
use Rattle.clap.proofs.OnLiterals.{clap_on_literals}
use Rattle.cli_args.specs.ColumnNames.{names_in}
use Rattle.cli_args.proofs.OnTexts.{on_texts}
use Rattle.cli_args.proofs.laws.quoted_columns_are_parsed.Goals as goal

pub returns-clause-names : goal.returns-clause-names
unfolding clap_on_literals on_texts names_in
returns-clause-names c = (refl, refl)

pub returns-clause-closing : goal.returns-clause-closing
unfolding clap_on_literals on_texts names_in
returns-clause-closing c = (refl, refl)
