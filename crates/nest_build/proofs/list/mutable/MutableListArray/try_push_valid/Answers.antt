use Rattle.std.proofs.lemmas.Result.{on_ok_weaker}
use Rattle.nest_build.proofs.Lists.{row_told}
use Rattle.nest_build.proofs.list.mutable.MutableListArray.try_push_valid.Goals as goal

pub returns-clause-ok : goal.returns-clause-ok
returns-clause-ok g c =
    let b = c.args.self.now in
    let t = c.covers_rows.ensures.0 c.if-not-covers_rows.false in
    on_ok_weaker c.push.result (λ e. row_told g.O.Offset.IS_LARGE b.data_type (g.O.Rows.RowStore.row_list b.rows) _ (g.M.MutableArray.model b.values) c.len-end.result c.len-end.ensures e c.requires t) c.push.ensures.ok
