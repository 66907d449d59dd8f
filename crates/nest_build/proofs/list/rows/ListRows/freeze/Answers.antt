use Rattle.std.specs.Prelude.{is_some}
use Rattle.std.proofs.Common.{◌∙◌, ap, length, sym}
use Rattle.nest_build.proofs.Rows.{row_list-count}
use Rattle.nest_build.proofs.list.rows.ListRows.freeze.Goals as goal

pub returns-clause-none : goal.returns-clause-none
returns-clause-none g c = λ z.
    let a = c.self.inside in
    let n = row_list-count a.offsets a.validity c.args.self.now c.self.view_is c.self.invariant.fits in
    ap is_some (c.in_ok-validity.ensures.ok ∙ c.self.invariant.bare (sym n ∙ ap length z))
