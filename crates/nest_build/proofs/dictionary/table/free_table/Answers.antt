use Rattle.nest_build.proofs.Seats.{table_new}
use Rattle.nest_build.proofs.dictionary.table.free_table.Goals as goal

pub returns-clause-ok : goal.returns-clause-ok
returns-clause-ok c = table_new c.in_ok-places.places.items c.resize.new.self.items c.args.count _ c.in_ok-places.ensures.items c.in_ok-places.ensures.len c.in_ok-resize.ensures.items
