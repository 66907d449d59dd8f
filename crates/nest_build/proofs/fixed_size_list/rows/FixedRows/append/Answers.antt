use Rattle.std.proofs.Common.{arith}
use Rattle.nest_build.proofs.Rows.{fixed-joined}
use Rattle.nest_build.proofs.fixed_size_list.rows.FixedRows.append.Goals as goal

pub returns-clause-ok : goal.returns-clause-ok
returns-clause-ok c =
    let a = c.self.inside in
    let b = c.other.inside in
    fixed-joined a.len b.len c.in-Some.len a.validity b.validity c.join.new.validity c.args.self.now c.args.other.now c.self.view_is c.other.view_is (omega (arith, c.in-Some.ensures)) c.in_ok-join.ensures.ok
