use Rattle.std.proofs.Common.{arith}
use Rattle.nest_build.proofs.Rows.{row_list-count}
use Rattle.nest_build.proofs.list.rows.ListRows.len.Goals as goal

pub returns : goal.returns
returns g c = let e = row_list-count c.self.inside.offsets c.self.inside.validity c.args.self.now c.self.view_is c.self.invariant.fits in omega arith
