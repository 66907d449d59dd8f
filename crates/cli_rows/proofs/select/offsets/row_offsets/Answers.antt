use Rattle.std.proofs.Common.{rules, arith}
use Rattle.cli_rows.proofs.Offsets.{start-more, starts-none, starts-past, starts-whole}
use Rattle.cli_rows.proofs.select.offsets.row_offsets.Goals as goal

pub loop-array-init : goal.loop-array-init
loop-array-init c = starts-none _ c.args.arrays.now (search rules)

pub loop-array-preserved : goal.loop-array-preserved
loop-array-preserved c =
    let l = c.loop-array in
    start-more l.offsets.items c.push.new.self.items l.rows _ c.args.arrays.now l.array-index c.array-item.result c.loop-array-test.true c.array-item.is c.in_ok-push.ensures.items (search rules) l.invariant

pub returns-in_default : goal.returns-in_default
returns-in_default c =
    let l = c.loop-array in
    starts-past l.offsets.items c.push.new.self.items l.rows c.args.arrays.now l.array-index c.array-item.result c.loop-array-test.true c.array-item.is c.in_ok-push.ensures.items (grind arith) l.invariant

pub returns : goal.returns
returns c = starts-whole c.loop-array.offsets.items c.loop-array.rows c.args.arrays.now c.loop-array.array-index c.loop-array-test.false c.loop-array.invariant
