use Rattle.std.specs.Prelude.{true}
use Rattle.std.proofs.Common.{get_or}
use Rattle.nest_model.specs.BuilderFreeze.{row_bits}
use Rattle.nest_model.specs.BuilderLevels.{own_slots}
use Rattle.nest_build.specs.Nulled.{items-slot, valid_or_not}
use Rattle.nest_build.proofs.list.mutable.MutableListArrayMutableArray.is_valid.Goals as goal

pub returns : goal.returns
returns g c =
    let b = c.args.self.now in
    let rows = g.O.Rows.RowStore.row_list b.rows in
    let y = items-slot 0 c.args.i rows (own_slots (g.M.MutableArray.model b.values)) c.requires in
    valid_or_not (get_or (row_bits rows) c.args.i true) c.is_valid.result _ y.0 y.1 c.is_valid.ensures
