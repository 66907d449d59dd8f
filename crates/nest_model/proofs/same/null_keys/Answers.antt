use Rattle.nest_model.specs.SameArrayLaws.{null_keys-null_values}
use Rattle.nest_model.proofs.same.null_keys.Goals as goal

pub returns : goal.returns
returns c = null_keys-null_values
