use Rattle.ipc_arrays.specs.ReplacedValues.{written_alike}
use Rattle.ipc_arrays.proofs.laws.dictionary_values_are_not_in_the_body.Goals as goal

pub returns : goal.returns
returns c = written_alike
