use Rattle.json_read.proofs.LineLaws.{value-there}
use Rattle.json_read.proofs.RequiredLaws.{no-error}
use Rattle.json_read.proofs.laws.required_values_are_valid.Goals as goal

pub returns-clause-valid : goal.returns-clause-valid
returns-clause-valid c = value-there

pub returns-clause-none : goal.returns-clause-none
returns-clause-none c = no-error
