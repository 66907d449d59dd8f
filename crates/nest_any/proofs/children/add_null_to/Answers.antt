use Rattle.std.proofs.lemmas.Result.{on_ok_weaker, IfErr-weaker}
use Rattle.nest_model.specs.BuilderRefusalLaws.{null_fits}
use Rattle.nest_any.proofs.Nulls.{cause_of_null}
use Rattle.nest_any.proofs.children.add_null_to.Goals as goal

pub returns-clause-ok : goal.returns-clause-ok
returns-clause-ok g c = on_ok_weaker c.push_null.result (λ a. a.exact) c.push_null.ensures.accepted

pub returns-clause-room : goal.returns-clause-room
returns-clause-room g c = on_ok_weaker c.push_null.result (λ e. null_fits (g.B.MutableArray.model c.args.builder.now) e) c.push_null.ensures.unrefused

pub returns-clause-cause : goal.returns-clause-cause
returns-clause-cause g c = IfErr-weaker c.push_null.result _ _ (λ e h. cause_of_null (g.B.MutableArray.model c.args.builder.now) e h) c.push_null.ensures.cause
