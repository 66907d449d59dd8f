use Rattle.std.proofs.Common.{arith, rules}
use Rattle.nest_build.proofs.Rows.{row_list-same}
use Rattle.nest_build.proofs.list.rows.ListRows.try_of.Goals as goal

pub returns : goal.returns
returns g c =
    let n = c.len_proxy-rows.ensures in
    (search rules, row_list-same c.args.offsets c.args.validity c.of_rows.result (λ l. c.of_rows.ensures.some (omega (arith, l, n))) (λ z. c.of_rows.ensures.none (omega (arith, z, n))))
