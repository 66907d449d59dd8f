use Rattle.nest_model.specs.BuilderTruncateLaws.{builder-cut-cut, cut-complete}
use Rattle.nest_model.proofs.builders.truncate_of_truncate.Goals as goal

pub returns-clause-shorter : goal.returns-clause-shorter
returns-clause-shorter c = builder-cut-cut

pub returns-clause-complete : goal.returns-clause-complete
returns-clause-complete c = cut-complete
