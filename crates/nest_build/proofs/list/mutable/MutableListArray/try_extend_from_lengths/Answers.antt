use Rattle.std.proofs.Common.{◌+◌, sym, ap, ◌∙◌}
use Rattle.std.proofs.lemmas.Result.{on_ok_weaker}
use Rattle.nest_model.specs.BuilderAddRow.{items_of_lengths}
use Rattle.nest_build.proofs.Lists.{lengths_told}
use Rattle.nest_build.proofs.list.mutable.MutableListArray.try_extend_from_lengths.Goals as goal

pub returns-clause-ok : goal.returns-clause-ok
returns-clause-ok g c =
    let b = c.args.self.now in
    let ns = c.args.lengths.now in
    let t = c.covers_rows.ensures.0 c.if-not-covers_rows.false in
    let n = ap (λ x. x + items_of_lengths ns) (sym c.last.ensures.value) ∙ c.end_there.ensures.0 c.if-not-end_there.false ∙ c.len-end.ensures in
    on_ok_weaker c.extend_from_lengths.result (λ e. lengths_told g.O.Offset.IS_LARGE b.data_type (g.O.Rows.RowStore.row_list b.rows) _ (g.M.MutableArray.model b.values) ns e c.requires t n) c.extend_from_lengths.ensures.ok
