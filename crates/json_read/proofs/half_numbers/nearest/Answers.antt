use Rattle.std.proofs.Common.{◌≡◌, ℕ, ◌+◌, ◌-◌, ◌*◌, ◌%◌, ◌^◌, ◌≤◌, ap, ◌∙◌, arith}
use native.Mathlib.Nat.{mod-eq_of_lt}
use lib.Pow.{pow_mono}
use lib.Ieee.{size}
use Rattle.json_read.specs.HalfNumbers.{dropped}
use Rattle.float_text.specs.Shortest.{in_units}
use Rattle.json_read.proofs.HalfRounding.{half-is, steps}
use Rattle.json_read.proofs.half_numbers.nearest.Goals as goal

-- 30 digits fit
fits : (k : ℕ) → k ≤ 30 → 596046447753906250 * 2 ^ k % 2 ^ 128 ≡ 596046447753906250 * 2 ^ k
fits k h = mod-eq_of_lt (omega (arith, pow_mono h))

pub overflow_add-result : goal.overflow_add-result
overflow_add-result c =
    omega (arith, c.rounded.ensures.bound, c.digits_past-dropped.ensures.few, c.from.ensures)

pub returns : goal.returns
returns c num den some is =
    let k = dropped num den in
    let same : c.digits_past-dropped.result ≡ k = c.digits_past-dropped.ensures.digits ∙ ap (λ n. size n - 11) (steps num den c.args.number.units c.args.number.more some is) in
    let unit = fits c.digits_past-dropped.result c.digits_past-dropped.ensures.few ∙ ap (λ n. 596046447753906250 * 2 ^ n) same in
    ap (λ n. n * 1024 + c.rounded.result) (c.from.ensures ∙ same)
    ∙ ap (λ n. k * 1024 + n) (c.rounded.ensures.value ∙ ap (λ u. in_units c.args.number.units c.args.number.more u) unit)
    ∙ half-is num den c.args.number.units c.args.number.more some is
