use Rattle.std.proofs.lemmas.Result.{IfOk-weaker}
use Rattle.ipc_schema.proofs.columns.indices_of.Goals as goal

pub returns-in-Indices : goal.returns-in-Indices
returns-in-Indices c = rw c.in-Indices.is (IfOk-weaker c.index_set.result _ _ (λ s h. h.0) c.index_set.ensures)
