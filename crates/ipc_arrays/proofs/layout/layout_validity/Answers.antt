use Rattle.std.proofs.Common.{[], ◌∷◌, sym}
use Rattle.ipc_arrays.proofs.Arrays.{on_ok, if_err}
use Rattle.ipc_arrays.proofs.layout.layout_validity.Goals as goal

pub returns-clause-ok : goal.returns-clause-ok
returns-clause-ok c = on_ok c.layout_buffers.result c.layout_buffers.ensures.ok (λ longer. longer _ (λ w. sym c.validity_size.ensures w ∷ []))

pub returns-clause-err : goal.returns-clause-err
returns-clause-err c = if_err c.layout_buffers.result c.layout_buffers.ensures.err (λ error past. past _ (λ w. sym c.validity_size.ensures w ∷ []))
