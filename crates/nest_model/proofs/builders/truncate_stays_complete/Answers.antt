use Rattle.nest_model.specs.BuilderTruncateLaws.{complete-cut, len-cut, type-cut, ValuesDiffer-cut}
use Rattle.nest_model.proofs.builders.truncate_stays_complete.Goals as goal

pub returns-clause-complete : goal.returns-clause-complete
returns-clause-complete c = complete-cut

pub returns-clause-len : goal.returns-clause-len
returns-clause-len c = len-cut

pub returns-clause-data_type : goal.returns-clause-data_type
returns-clause-data_type c = type-cut

pub returns-clause-differ : goal.returns-clause-differ
returns-clause-differ c = ValuesDiffer-cut
