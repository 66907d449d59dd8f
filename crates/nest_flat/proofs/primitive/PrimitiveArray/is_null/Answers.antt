use Rattle.std.proofs.Common.{ap, ◌∙◌, subst}
use Rattle.nest_model.specs.Accessors.{validity_of}
use Rattle.nest_model.specs.Part.{valid_at}
use Rattle.nest_flat.specs.NullSlots.{NullsByValidity, null-shown}
use Rattle.nest_flat.proofs.primitive.PrimitiveArray.is_null.Goals as goal

pub returns-clause-slot : goal.returns-clause-slot
returns-clause-slot g c =
    null-shown _ _ _ (subst NullsByValidity c.self.view_is tt) (c.is_valid.ensures ∙ ap (λ a. valid_at (validity_of a) c.args.i) c.self.view_is)
