use Rattle.std.specs.Prelude.{None}
use Rattle.std.proofs.Common.{◌≡◌, true, false, get_or, arith}
use Rattle.nest_build.proofs.Rows.{row_list-first}
use Rattle.nest_build.proofs.Lists.{row_list-one, row_list-next}
use Rattle.nest_build.proofs.list.mutable.end_there.Goals as goal

pub returns-in_default : goal.returns-in_default
returns-in_default c =
    let ns = c.args.lengths.now in
    let i = c.loop-items.items-index in
    let t = row_list-first i ns c.loop-items-test.true in
    let u = row_list-one (get_or ns i None) in
    (λ e. let q : false ≡ true = e in cc, λ e. absurd (omega (arith, e, t, u, c.loop-items.invariant, c.in_default.ensures, c.unwrap_or.ensures, c.ranges.to.fits)))

pub loop-items-preserved : goal.loop-items-preserved
loop-items-preserved c =
    let ns = c.args.lengths.now in
    let i = c.loop-items.items-index in
    let t = row_list-next i ns c.loop-items-test.true in
    omega (arith, t, c.loop-items.invariant, c.in-Some.ensures, c.unwrap_or.ensures)
