use Rattle.ipc.specs.FileDictionaryLaws.{begun, behind_type, behind_array}
use Rattle.ipc.proofs.dictionaries.laws.delta_extends_values.Goals as goal

pub returns-clause-slots : goal.returns-clause-slots
returns-clause-slots c = begun

pub returns-clause-typed : goal.returns-clause-typed
returns-clause-typed c = behind_type

pub returns-clause-fit : goal.returns-clause-fit
returns-clause-fit c = behind_array
