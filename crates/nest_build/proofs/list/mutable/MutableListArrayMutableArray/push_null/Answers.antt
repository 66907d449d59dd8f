use Rattle.std.proofs.lemmas.Result.{on_ok_weaker, IfErr-weaker}
use Rattle.nest_model.specs.BuilderAppendLaws.{list_null_accepted}
use Rattle.nest_build.proofs.Lists.{null_unrefused, null_cause}
use Rattle.nest_build.proofs.list.mutable.MutableListArrayMutableArray.push_null.Goals as goal

pub returns-clause-accepted : goal.returns-clause-accepted
returns-clause-accepted g c =
    let b = c.args.self.now in
    on_ok_weaker c.push.result (λ e. list_null_accepted g.O.Offset.IS_LARGE b.data_type (g.O.Rows.RowStore.row_list b.rows) _ (g.M.MutableArray.model b.values) c.last-end.result c.last-end.ensures.value e c.requires) c.push.ensures.ok

pub returns-clause-unrefused : goal.returns-clause-unrefused
returns-clause-unrefused g c =
    let b = c.args.self.now in
    on_ok_weaker c.push.result (λ l. null_unrefused g.O.Offset.IS_LARGE b.data_type (g.O.Rows.RowStore.row_list b.rows) (g.M.MutableArray.model b.values) l.0) c.push.ensures.within

pub returns-clause-cause : goal.returns-clause-cause
returns-clause-cause g c =
    let b = c.args.self.now in
    IfErr-weaker c.push.result _ _ (λ e h. null_cause g.O.Offset.IS_LARGE g.O.Rows.RowStore.large b.data_type (g.O.Rows.RowStore.row_list b.rows) (g.M.MutableArray.model b.values) c.last-end.result e c.last-end.ensures.fits h) c.push.ensures.cause
