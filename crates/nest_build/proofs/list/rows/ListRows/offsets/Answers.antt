use Rattle.nest_build.proofs.Rows.{row_list-offsets}
use Rattle.nest_build.proofs.list.rows.ListRows.offsets.Goals as goal

pub returns : goal.returns
returns g c = row_list-offsets c.self.inside.offsets c.self.inside.validity c.args.self.now c.self.view_is c.known.ensures.some c.known.ensures.first c.self.invariant.fits
