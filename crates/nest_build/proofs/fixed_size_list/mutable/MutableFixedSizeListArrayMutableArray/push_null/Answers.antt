use Rattle.std.specs.Prelude.{replicate}
use Rattle.std.proofs.Common.{◌∙◌, inl, arith}
use Rattle.std.proofs.lemmas.List.{length-replicate}
use Rattle.nest_model.specs.BuilderItem as items
use Rattle.nest_build.proofs.FixedLists.{null_took, null_unrefused, null_refused, memory_alone}
use Rattle.nest_build.proofs.fixed_size_list.mutable.MutableFixedSizeListArrayMutableArray.push_null.Goals as goal

pub returns-in-Ok-clause-accepted : goal.returns-in-Ok-clause-accepted
returns-in-Ok-clause-accepted g c = null_took c.args.self.now.data_type c.args.self.now.rows _ (g.M.MutableArray.model c.args.self.now.values) _ c.size.result c.size.ensures.value c.in-Ok.ensures.ok c.in_default.ensures.ok.0 c.requires

pub returns-in-Ok-clause-unrefused : goal.returns-in-Ok-clause-unrefused
returns-in-Ok-clause-unrefused g c =
    null_unrefused c.args.self.now.data_type c.args.self.now.rows (g.M.MutableArray.model c.args.self.now.values) _ c.len-end.result c.size.result c.size.ensures.value c.in_default.ensures.ok.0 c.in_default.ensures.ok.1 c.len-end.ensures c.in-Ok.ensures.within (omega (arith, c.len-end.type_inv)) c.requires

pub returns-in-Err-clause-cause : goal.returns-in-Err-clause-cause
returns-in-Err-clause-cause g c = null_refused c.args.self.now.data_type c.args.self.now.rows (g.M.MutableArray.model c.args.self.now.values) c.size.result _ c.size.ensures.value c.in-Err.ensures.cause

pub returns-in-Err-push-clause-cause : goal.returns-in-Err-push-clause-cause
returns-in-Err-push-clause-cause g c =
    inl (memory_alone c.args.self.now.data_type c.args.self.now.rows (g.M.MutableArray.model c.args.self.now.values) _ (replicate c.size.result items.null) c.len-end.result c.size.result _ c.in_default.ensures.ok.0 (length-replicate c.size.result items.null ∙ c.size.ensures.value) c.size.ensures.value c.size.ensures.some c.len-end.ensures (omega (arith, c.len-end.type_inv)) c.requires c.in-Err-push.ensures.cause)
