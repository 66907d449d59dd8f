use Rattle.std.proofs.Common.{refl}
use Rattle.clap.proofs.OnLiterals.{clap_on_literals}
use Rattle.cli_args.specs.ColumnNames.{names_in}
use Rattle.cli_args.proofs.OnTexts.{on_texts}
use Rattle.cli_args.proofs.laws.files_are_parsed.Goals as goal

pub returns-clause-columns : goal.returns-clause-columns
unfolding clap_on_literals on_texts names_in
returns-clause-columns c = (refl, refl)

pub returns-clause-files : goal.returns-clause-files
unfolding clap_on_literals on_texts names_in
returns-clause-files c = (refl, refl)

pub returns-clause-import : goal.returns-clause-import
unfolding clap_on_literals on_texts names_in
returns-clause-import c = (refl, refl)
