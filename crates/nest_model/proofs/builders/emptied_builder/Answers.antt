use Rattle.nest_model.specs.BuilderTruncateLaws.{emptied-cut, own-emptied, levels-emptied, type-emptied, complete-emptied, ValuesDiffer-emptied}
use Rattle.nest_model.proofs.builders.emptied_builder.Goals as goal

pub returns-clause-truncated : goal.returns-clause-truncated
returns-clause-truncated c = emptied-cut

pub returns-clause-own : goal.returns-clause-own
returns-clause-own c = own-emptied

pub returns-clause-lengths : goal.returns-clause-lengths
returns-clause-lengths c = levels-emptied

pub returns-clause-data_type : goal.returns-clause-data_type
returns-clause-data_type c = type-emptied

pub returns-clause-complete : goal.returns-clause-complete
returns-clause-complete c = complete-emptied

pub returns-clause-differ : goal.returns-clause-differ
returns-clause-differ c = ValuesDiffer-emptied
