use Rattle.std.proofs.Common.{◌≡◌, ◌+◌, ◌*◌, ◌^◌, ◌≤◌, suc, ap, arith, mul-le-mul_left}
use native.Mathlib.Nat.{pow-suc, pow-le-pow_right}
use Rattle.json_read.proofs.half_numbers.with_zeros.Goals as goal

pub returns-then-total-ge-LIMIT-clause-none : goal.returns-then-total-ge-LIMIT-clause-none
returns-then-total-ge-LIMIT-clause-none c =
    let z = c.loop-zero.zero in
    let v = c.args.value in
    let few : suc z ≤ c.args.zeros = omega arith in
    omega (arith, ap (λ x. v * x) (pow-suc 10 z), mul-le-mul_left v (pow-le-pow_right {n = 10} (omega arith) few))

pub loop-zero-preserved : goal.loop-zero-preserved
loop-zero-preserved c =
    let z = c.loop-zero.zero in
    let next : z + 1 ≡ suc z = omega arith in
    (omega (arith, ap (λ x. c.args.value * 10 ^ x) next, ap (λ x. c.args.value * x) (pow-suc 10 z)), omega arith)
