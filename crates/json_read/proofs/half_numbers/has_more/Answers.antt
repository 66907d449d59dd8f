use Rattle.std.proofs.Common.{◌≡◌, ◌+◌, ◌-◌, ◌++◌, take, drop, refl, ap, ◌∙◌, arith, length-append}
use Rattle.std.specs.Str.Parse.{digits_value}
use Rattle.fast_float.proofs.Rows.{one_more, rest_some}
use Rattle.json_read.proofs.half_numbers.has_more.Goals as goal

pub returns-then-digit_at-ne0 : goal.returns-then-digit_at-ne0
returns-then-digit_at-ne0 c =
    let ds = c.args.whole.now ++ c.args.fraction.now in
    let long = length-append c.args.whole.now c.args.fraction.now in
    (λ _. rest_some ds c.args.from c.loop-at.at (omega arith) (omega (arith, long)) (omega arith), λ _. refl)

pub loop-at-preserved : goal.loop-at-preserved
loop-at-preserved c =
    let ds = c.args.whole.now ++ c.args.fraction.now in
    let long = length-append c.args.whole.now c.args.fraction.now in
    let from = c.args.from in
    let i = c.loop-at.at - from in
    let next : c.loop-at.at + 1 - from ≡ i + 1 = omega arith in
    let here : from + i ≡ c.loop-at.at = omega arith in
    ap (λ k. digits_value 10 (take k (drop from ds))) next ∙ omega (arith, rw here at (one_more ds from i (omega (arith, long))))
