use Rattle.std.proofs.Common.{ap, arith}
use Rattle.nest_model.specs.BuilderRow.{end_from}
use Rattle.nest_model.specs.BuilderRowLaws.{end_from-front}
use Rattle.nest_build.proofs.list.mutable.MutableListArrayMutableArray.truncate.Goals as goal

pub truncate-requires-2-clause-within : goal.truncate-requires-2-clause-within
truncate-requires-2-clause-within g c =
    let w = c.requires.complete in
    let e = ap (end_from 0) c.truncate.ensures in
    let v = c.last-end.ensures.value in
    let f = end_from-front 0 (g.O.Rows.RowStore.row_list c.args.self.now.rows) c.args.n w.3 in
    let n = w.2 in
    omega arith
