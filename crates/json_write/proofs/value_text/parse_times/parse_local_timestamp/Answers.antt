use Rattle.std.proofs.Common.{◌+◌, ◌-◌, ◌^◌, false, length, pos, unsigned_abs, sym, ◌∙◌, arith, rules, w64, FitsSigned}
use Rattle.std.proofs.lemmas.List.{take_rest}
use Rattle.std.specs.Int.{int_div_euclid, int_rem_euclid}
use Rattle.json_write.specs.Times.{subseconds, timestamp_text, unit_digits, whole_seconds}
use Rattle.json_write.proofs.Signed.{signed}
use Rattle.json_write.proofs.DigitFacts.{ten_some}
use Rattle.json_write.proofs.TimeFacts.{remainder_bound}
use Rattle.json_write.proofs.ReadingFacts.{none_parsed}
use Rattle.json_write.proofs.TimeResults.{day_bound, stamp_long, stamp_parts, stamp_result}
use Rattle.json_write.proofs.value_text.parse_times.parse_local_timestamp.Goals as goal

pub returns-then-text-clock_len : goal.returns-then-text-clock_len
returns-then-text-clock_len c n fits e = omega (arith, stamp_long c.args.text.now (unit_digits c.args.unit) n e, c.clock_len-clock_len.ensures.value)

pub returns-then-text-at-ne84 : goal.returns-then-text-at-ne84
returns-then-text-at-ne84 c n fits e =
    let text = c.args.text.now in
    let index = length text - c.clock_len-clock_len.result - 1 in
    c.if-text-at-ne84.true (stamp_parts text (unit_digits c.args.unit) index n e (omega (arith, c.clock_len-clock_len.ensures.value))).letter

pub returns-in_err-day : goal.returns-in_err-day
returns-in_err-day c =
    none_parsed (timestamp_text (unit_digits c.args.unit) false) (FitsSigned w64) c.args.text.now _ (search rules)
    (λ n fits e.
    let text = c.args.text.now in
    let k = unit_digits c.args.unit in
    let index = length text - c.clock_len-clock_len.result - 1 in
    c.in_err-day.ensures (int_div_euclid (whole_seconds k n) (pos 86_400)) (day_bound k n fits) (stamp_parts text k index n e (omega (arith, c.clock_len-clock_len.ensures.value))).date)

pub returns-in_err-second : goal.returns-in_err-second
returns-in_err-second c =
    none_parsed (timestamp_text (unit_digits c.args.unit) false) (FitsSigned w64) c.args.text.now _ (search rules)
    (λ n fits e.
    let text = c.args.text.now in
    let k = unit_digits c.args.unit in
    let index = length text - c.clock_len-clock_len.result - 1 in
    c.in_err-second.ensures (unsigned_abs (int_rem_euclid (whole_seconds k n) (pos 86_400)), subseconds k n) (remainder_bound 86_400 (whole_seconds k n) (omega arith), remainder_bound (10 ^ k) n (ten_some k))
    (take_rest text (index + 1) ∙ (stamp_parts text k index n e (omega (arith, c.clock_len-clock_len.ensures.value))).clock))

pub returns : goal.returns
returns c =
    let text = c.args.text.now in
    let k = unit_digits c.args.unit in
    let index = length text - c.clock_len-clock_len.result - 1 in
    let day = c.in_ok-day.ensures in
    let second = c.in_ok-second.ensures in
    stamp_result text k index c.in_ok-second.second c.in_ok-second.fraction c.in_ok-day.day _ (omega (arith, c.clock_len-clock_len.ensures.value, c.if-text-clock_len.false)) c.if-text-at-ne84.false day.1 (sym (take_rest text (index + 1)) ∙ second.1) second.0.0 second.0.1
    (omega (arith, signed, c.from.ensures, c.from-2.ensures, day.0, second.0.0)) c.join.result c.join.ensures
