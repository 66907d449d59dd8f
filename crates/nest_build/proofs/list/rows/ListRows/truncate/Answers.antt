use Rattle.std.proofs.Common.{arith}
use Rattle.nest_model.specs.Part.{count_rows}
use Rattle.nest_build.proofs.Rows.{row_list-count, row_list-cut, covers}
use Rattle.nest_build.proofs.list.rows.ListRows.truncate.Goals as goal

pub truncate-requires : goal.truncate-requires
truncate-requires g c =
    let a = c.self.inside in
    let e = row_list-count a.offsets a.validity c.args.self.now c.self.view_is c.self.invariant.fits in
    let l = c.requires in
    covers a.validity (count_rows a.offsets) c.args.n c.self.invariant.fits (omega arith)

pub truncate-requires-2 : goal.truncate-requires-2
truncate-requires-2 g c =
    let a = c.self.inside in
    let e = row_list-count a.offsets a.validity c.args.self.now c.self.view_is c.self.invariant.fits in
    let l = c.requires in
    let s = c.known.ensures.some in
    omega arith

pub returns : goal.returns
returns g c =
    let a = c.self.inside in
    row_list-cut a.offsets c.truncate-2.new.self a.validity c.truncate.new.validity c.args.self.now c.args.n c.self.view_is c.truncate-2.ensures c.truncate.ensures
