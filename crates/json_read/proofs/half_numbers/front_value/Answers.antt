use Rattle.std.proofs.Common.{◌+◌, ◌++◌, arith, length-append}
use Rattle.std.proofs.lemmas.Int.Digits.{digits_value_more}
use Rattle.fast_float.proofs.Rows.{value_mono}
use Rattle.json_read.proofs.half_numbers.front_value.Goals as goal

pub returns-then-value-ge-LIMIT-clause-none : goal.returns-then-value-ge-LIMIT-clause-none
returns-then-value-ge-LIMIT-clause-none c =
    let ds = c.args.whole.now ++ c.args.fraction.now in
    let i = c.loop-at.at in
    let long = length-append c.args.whole.now c.args.fraction.now in
    let next = digits_value_more 10 ds i (omega (arith, long)) in
    omega (arith, next, value_mono ds (i + 1) c.args.count (omega arith) (omega (arith, long)))

pub loop-at-preserved : goal.loop-at-preserved
loop-at-preserved c =
    let ds = c.args.whole.now ++ c.args.fraction.now in
    let long = length-append c.args.whole.now c.args.fraction.now in
    (omega (arith, digits_value_more 10 ds c.loop-at.at (omega (arith, long))), omega arith)
