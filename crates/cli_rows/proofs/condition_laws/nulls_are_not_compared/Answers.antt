use Rattle.cli_rows.proofs.Truths.{null-unknown}
use Rattle.cli_rows.proofs.condition_laws.nulls_are_not_compared.Goals as goal

pub returns : goal.returns
returns c = null-unknown
