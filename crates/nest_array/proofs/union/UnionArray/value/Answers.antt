use Rattle.std.proofs.lemmas.Result.{IfOk-weaker}
use Rattle.nest_array.proofs.Scalars.{pick-held}
use Rattle.nest_array.proofs.union.UnionArray.value.Goals as goal

pub returns-clause-ok : goal.returns-clause-ok
returns-clause-ok c = IfOk-weaker c.new_scalar.result _ _ (λ s h. pick-held _ _ _ _ _ s c.index-field.ensures.picks c.field_at.ensures.shown h) c.new_scalar.ensures.ok
