use Rattle.nest_flat.proofs.Refusing.{if_err-map, none-due}
use Rattle.nest_flat.proofs.primitive.mutable.MutablePrimitiveArray.try_extend.Goals as goal

pub returns-clause-memory : goal.returns-clause-memory
returns-clause-memory g c = if_err-map c.extend_by_push.result _ _ (λ e h. none-due e h.4) c.extend_by_push.ensures.cause
