use Rattle.std.proofs.Common.{ap, sym, ◌∙◌}
use Rattle.std.proofs.lemmas.Result.{IfOk-weaker}
use Rattle.nest_model.specs.Accessors.{validity_of}
use Rattle.nest_model.specs.Nullness.{null_count}
use Rattle.nest_any.proofs.struct_.MutableStructArray.into_arc.Goals as goal

pub returns-in-Ok-clause-bare : goal.returns-in-Ok-clause-bare
returns-in-Ok-clause-bare c = IfOk-weaker c.shared.result _ _ (λ r e z. let l = e ∙ c.into_any.ensures in ap validity_of l ∙ c.in-Ok.ensures.bare (sym (ap null_count l) ∙ z)) c.shared.ensures.same
