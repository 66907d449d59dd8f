use Rattle.std.proofs.Common.{ap, ◌∙◌, arith}
use Rattle.std.proofs.lemmas.Int.{to_z-of_z}
use Rattle.std.specs.Int.{w128}
use Rattle.std.specs.Ordering.{ordering_reverse}
use Rattle.cli_rows.proofs.Decimals.{less-digits, more-digits}
use Rattle.cli_rows.proofs.select.decimals.order_of_decimals.Goals as goal

pub returns-then-digits-other_digits : goal.returns-then-digits-other_digits
returns-then-digits-other_digits c =
    let v = to_z-of_z w128 c.args.value c.ranges.value in
    let o = to_z-of_z w128 c.args.other c.ranges.other in
    let h = rw (v, o) at c.order_scaled.ensures in
    h ∙ less-digits c.args.value c.args.other c.args.digits c.args.other_digits (omega arith)

pub returns-else-digits-other_digits : goal.returns-else-digits-other_digits
returns-else-digits-other_digits c =
    let v = to_z-of_z w128 c.args.value c.ranges.value in
    let o = to_z-of_z w128 c.args.other c.ranges.other in
    let h = rw (v, o) at c.order_scaled-else-digits-other_digits.ensures in
    c.reverse.ensures ∙ ap ordering_reverse h ∙ more-digits c.args.value c.args.other c.args.digits c.args.other_digits (omega arith)
