use Rattle.std.proofs.Common.{sym, subst}
use Rattle.std.proofs.lemmas.Result.{on_ok_weaker}
use Rattle.nest_flat.specs.Plain.{plain_values}
use Rattle.nest_model.specs.BuilderAppend.{Accepted}
use Rattle.nest_model.specs.BuilderRefusals.{required_item}
use Rattle.nest_any.proofs.Nulls.{null_accepted}
use Rattle.nest_any.proofs.struct_.MutableStructArrayMutableArray.try_push_plain.Goals as goal

pub returns-in-None-clause-accepted : goal.returns-in-None-clause-accepted
returns-in-None-clause-accepted c =
    on_ok_weaker c.add_null.result (λ e. subst (λ x. Accepted (required_item (plain_values x)) c.args.self.now c.add_null.new.self) (sym c.in-None.is) (null_accepted c.args.self.now _ c.requires e)) c.add_null.ensures.ok
