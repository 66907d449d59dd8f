use Rattle.std.proofs.Common.{sym, ◌∙◌, arith}
use Rattle.nest_build.proofs.Rows.{row_list-end, row_list-rises, row_list-count, by-width}
use Rattle.nest_build.proofs.list.rows.ListRows.last.Goals as goal

pub returns-clause-value : goal.returns-clause-value
returns-clause-value g c =
    let a = c.self.inside in
    c.last.ensures
    ∙ sym (row_list-end a.offsets a.validity c.args.self.now c.self.view_is c.known.ensures.some c.known.ensures.first c.self.invariant.fits)

pub returns-clause-rising : goal.returns-clause-rising
returns-clause-rising g c =
    let a = c.self.inside in
    row_list-rises a.offsets a.validity c.args.self.now c.self.view_is c.known.ensures.some c.known.ensures.first c.self.invariant.fits c.known.ensures.rising

pub returns-clause-fits : goal.returns-clause-fits
returns-clause-fits g c = by-width c.last.result g.O.Offset.largest g.O.Offset.IS_LARGE g.met.O.Offset.largest_is (omega (arith, c.last.ensures, c.known.ensures.fits))

pub returns-clause-room : goal.returns-clause-room
returns-clause-room g c =
    let a = c.self.inside in
    let e = row_list-count a.offsets a.validity c.args.self.now c.self.view_is c.self.invariant.fits in
    let room = c.known.ensures.room in
    omega arith
