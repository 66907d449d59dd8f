use Rattle.std.proofs.Common.{◌≡◌, ◌*ℤ◌, pos, to_z, of_z, ap, ◌∙◌, arith}
use Rattle.std.proofs.lemmas.Int.{ints, to_z-of_z}
use Rattle.std.specs.Int.{w128}
use Rattle.cli_rows.proofs.Decimals.{far-above, far-below, one-digit}
use Rattle.cli_rows.proofs.select.decimals.+order_scaled.Goals as goal

pub returns-in-Some : goal.returns-in-Some
returns-in-Some t c =
    let v = to_z-of_z w128 c.args.value c.ranges.value in
    let o = to_z-of_z w128 c.args.other c.ranges.other in
    let p = rw v at c.in-Some.ensures in
    let s : to_z w128 (of_z w128 c.in-Some.scaled) ≡ c.args.value *ℤ pos 10 = ap (λ z. to_z w128 (of_z w128 z)) p.1 ∙ to_z-of_z w128 _ p.0 in
    let h = rw (s, o) at c.order_scaled.ensures in
    h ∙ one-digit c.args.value c.args.other c.args.digits (omega arith)

pub returns-in-None : goal.returns-in-None
returns-in-None t c =
    let v = to_z-of_z w128 c.args.value c.ranges.value in
    let h = rw v at c.in-None.ensures in
    far-below c.args.value c.args.other c.args.digits c.ranges.other (omega arith) (omega (arith, ints)) h

pub returns-in-None-2 : goal.returns-in-None-2
returns-in-None-2 t c =
    let v = to_z-of_z w128 c.args.value c.ranges.value in
    let h = rw v at c.in-None.ensures in
    far-above c.args.value c.args.other c.args.digits c.ranges.other (omega arith) (omega (arith, ints)) h
