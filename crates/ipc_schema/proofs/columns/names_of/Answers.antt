use Rattle.std.proofs.Common.{◌∙◌}
use Rattle.std.proofs.lemmas.Result.{IfOk-weaker}
use Rattle.ipc_schema.proofs.Sought.{texts_named}
use Rattle.ipc_schema.proofs.columns.names_of.Goals as goal

pub returns-in-Names : goal.returns-in-Names
returns-in-Names c = rw c.in-Names.is (IfOk-weaker c.name_set.result _ _ (λ s h. λ name. h.0 name ∙ texts_named c.in-Names.names.now name) c.name_set.ensures)
