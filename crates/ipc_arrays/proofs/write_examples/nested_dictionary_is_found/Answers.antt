use Rattle.std.specs.Prelude.{refl}
use Rattle.ipc_arrays.proofs.write_examples.nested_dictionary_is_found.Goals as goal

pub returns-clause-found : goal.returns-clause-found
returns-clause-found c = refl

pub returns-clause-absent : goal.returns-clause-absent
returns-clause-absent c = refl
