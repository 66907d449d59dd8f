use Rattle.std.specs.Prelude.{option_map}
use Rattle.std.proofs.lemmas.List.{length-map}
use Rattle.nest_model.specs.BuilderFreeze.{row_bits}
use Rattle.nest_model.specs.BuilderRow.{Row}
use Rattle.nest_model.specs.BuilderLevels.{own_slots}
use Rattle.nest_model.specs.BuilderTree.{list}
use Rattle.nest_build.specs.Nulled.{items-slot, lists-tell}
use Rattle.nest_build.proofs.list.mutable.MutableListArrayMutableArray.validity.Goals as goal

pub returns-clause-nulls : goal.returns-clause-nulls
returns-clause-nulls g c =
    let b = c.args.self.now in
    let rows = g.O.Rows.RowStore.row_list b.rows in
    let items = g.M.MutableArray.model b.values in
    lists-tell (option_map (λ v. v.now) c.validity.result) (row_bits rows) (list g.O.Offset.IS_LARGE b.data_type rows items) c.validity.ensures.bits (length-map rows (λ (r : Row). r.valid)) (λ i l. items-slot 0 i rows (own_slots items) l)
