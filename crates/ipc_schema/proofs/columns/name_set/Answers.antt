use Rattle.std.proofs.lemmas.Iterator.{YieldsList-from_slice}
use Rattle.std.proofs.lemmas.Iterator.Adapters.{fact_from_collect}
use Rattle.std.proofs.lemmas.Iterator.Consumers.{YieldsList-from_copied}
use Rattle.std.specs.BTreeSet.{IsFromIterResult}
use Rattle.ipc_schema.specs.Projections.{str_cmp}
use Rattle.ipc_schema.proofs.columns.name_set.Goals as goal

pub returns : goal.returns
returns c = fact_from_collect (IsFromIterResult str_cmp) c.collect.result c.collect.ensures.ran (YieldsList-from_copied (YieldsList-from_slice c.args.texts.now cc))
