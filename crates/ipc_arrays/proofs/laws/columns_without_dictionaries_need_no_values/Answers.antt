use Rattle.ipc_arrays.specs.NoDictionaries.{none_named}
use Rattle.ipc_arrays.proofs.laws.columns_without_dictionaries_need_no_values.Goals as goal

pub returns : goal.returns
returns c = none_named
