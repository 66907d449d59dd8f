use Rattle.cli_rows.proofs.UnknownNames.{unknown-none}
use Rattle.cli_rows.proofs.laws.unknown_names_have_no_column.Goals as goal

pub returns : goal.returns
returns c = λ names fields i e. unknown-none names fields i e
