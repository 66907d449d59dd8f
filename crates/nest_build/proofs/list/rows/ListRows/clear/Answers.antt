use Rattle.nest_build.proofs.Rows.{row_list-none}
use Rattle.nest_build.proofs.list.rows.ListRows.clear.Goals as goal

pub returns : goal.returns
returns g c = row_list-none c.self.inside.offsets c.truncate.new.self c.known.ensures.some c.truncate.ensures
