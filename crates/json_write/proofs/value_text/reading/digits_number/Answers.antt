use Rattle.std.proofs.Common.{◌≡◌, ◌+◌, ◌≤◌, suc, length, get_or, take, refl, sym, ap, ◌∙◌, arith}
use Rattle.std.proofs.lemmas.Bool.Decides.{nat_tests}
use Rattle.std.proofs.lemmas.List.{take_more, take_all}
use Rattle.json_write.specs.Digits.{last_digits}
use Rattle.json_write.proofs.DigitFacts.{ten_more, last_digits_none}
use Rattle.json_write.proofs.ReadingFacts.{push_digit, digit_at, ten_order}
use Rattle.json_write.proofs.value_text.reading.digits_number.Goals as goal

pub scan-init : goal.scan-init
scan-init c = (omega arith, sym (last_digits_none 0 0 refl))

pub overflow_mul-number : goal.overflow_mul-number
overflow_mul-number c = omega (arith, c.scan.invariant.0, ten_more c.scan.digit-index, ten_order (suc c.scan.digit-index) 38 (omega arith))

pub overflow_add-number : goal.overflow_add-number
overflow_add-number c = omega (arith, c.scan.invariant.0, ten_more c.scan.digit-index, ten_order (suc c.scan.digit-index) 38 (omega arith))

pub scan-preserved : goal.scan-preserved
scan-preserved c =
    let ds = c.args.digits.now in
    let i = c.scan.digit-index in
    let b = get_or ds i 0 in
    let low : 48 ≤ b = grind (arith, nat_tests) in
    let high : b ≤ 57 = grind (arith, nat_tests) in
    let more = push_digit i c.scan.number b (take i ds) c.scan.invariant.0 c.scan.invariant.1 low high in
    let next : suc i ≡ i + 1 = omega arith in
    let step = rw next at more in
    (step.0, take_more ds i 0 (omega arith) ∙ step.1)

pub returns-then-not-is_ascii_digit : goal.returns-then-not-is_ascii_digit
returns-then-not-is_ascii_digit c n fits e =
    let i = c.scan.digit-index in
    let d = digit_at (length c.args.digits.now) n i (omega arith) in
    let same : get_or c.args.digits.now i 0 ≡ get_or (last_digits (length c.args.digits.now) n) i 0 = ap (λ xs. get_or xs i 0) e in
    grind (arith, nat_tests, d.0, d.1, same)

pub returns : goal.returns
returns c =
    let ds = c.args.digits.now in
    let at : c.scan.digit-index ≡ length ds = omega arith in
    let inv = rw at at c.scan.invariant in
    (inv.0, sym (take_all (length ds) ds (omega arith)) ∙ inv.1)
