use Rattle.std.proofs.lemmas.Result.{on_ok_weaker, IfErr-weaker}
use Rattle.nest_model.specs.BuilderRefusalLaws.{null_none}
use Rattle.nest_any.proofs.Nulls.{null_accepted, null_cause}
use Rattle.nest_any.specs.Trees.{tree_of}
use Rattle.nest_any.proofs.any.AnyMutableArrayMutableArray.push_null.Goals as goal

pub returns-clause-accepted : goal.returns-clause-accepted
returns-clause-accepted c = on_ok_weaker c.add_null.result (λ e. null_accepted (tree_of c.args.self.now) _ c.requires e) c.add_null.ensures.ok

pub returns-clause-unrefused : goal.returns-clause-unrefused
returns-clause-unrefused c = on_ok_weaker c.add_null.result (λ e. null_none (tree_of c.args.self.now) e) c.add_null.ensures.room

pub returns-clause-cause : goal.returns-clause-cause
returns-clause-cause c = IfErr-weaker c.add_null.result _ _ (λ e h. null_cause (tree_of c.args.self.now) e h) c.add_null.ensures.cause
