use Rattle.nest_build.proofs.Rows.{fixed-cut}
use Rattle.nest_build.proofs.fixed_size_list.rows.FixedRows.truncate.Goals as goal

pub returns : goal.returns
returns c =
    let a = c.self.inside in
    fixed-cut c.args.n a.len a.validity c.truncate.new.validity c.args.self.now c.self.view_is c.self.invariant.fits c.requires c.truncate.ensures
