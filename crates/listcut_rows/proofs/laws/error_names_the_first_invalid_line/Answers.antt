use Rattle.listcut_rows.proofs.FirstInvalidLine.{first_fault_is, fault_is_first}
use Rattle.listcut_rows.proofs.laws.error_names_the_first_invalid_line.Goals as goal

pub returns : goal.returns
returns c = λ bytes k. (first_fault_is bytes k, fault_is_first bytes k)
