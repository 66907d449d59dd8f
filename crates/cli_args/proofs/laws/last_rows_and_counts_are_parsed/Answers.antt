use Rattle.std.proofs.Common.{refl}
use Rattle.clap.proofs.OnLiterals.{clap_on_literals}
use Rattle.cli_args.specs.ColumnNames.{names_in}
use Rattle.cli_args.proofs.OnTexts.{on_texts}
use Rattle.cli_args.proofs.laws.last_rows_and_counts_are_parsed.Goals as goal

pub returns-clause-ten : goal.returns-clause-ten
unfolding clap_on_literals on_texts names_in
returns-clause-ten c = (refl, refl)

pub returns-clause-three : goal.returns-clause-three
unfolding clap_on_literals on_texts names_in
returns-clause-three c = (refl, refl)

pub returns-clause-count : goal.returns-clause-count
unfolding clap_on_literals on_texts names_in
returns-clause-count c = (refl, refl)
