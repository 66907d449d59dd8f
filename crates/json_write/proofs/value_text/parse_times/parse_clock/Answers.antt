use Rattle.std.proofs.Common.{◌<◌, ◌/◌, ◌%◌, ◌^◌, sym, ◌∙◌, arith, rules}
use Rattle.std.proofs.lemmas.List.{take_rest}
use Rattle.json_write.specs.Times.{clock_text, unit_digits}
use Rattle.json_write.proofs.ReadingFacts.{none_parsed, digits_none}
use Rattle.json_write.proofs.TimeReadingFacts.{clock_parts, clock_same, clock_read, two_long}
use Rattle.json_write.proofs.value_text.parse_times.parse_clock.Goals as goal

pub returns-then-text-lt8 : goal.returns-then-text-lt8
returns-then-text-lt8 c p fits e = omega (arith, (clock_parts c.args.text.now (unit_digits c.args.unit) p.0 p.1 e).long)

pub returns-then-text-ne58 : goal.returns-then-text-ne58
returns-then-text-ne58 c p fits e = c.if-text-ne58.true (clock_parts c.args.text.now (unit_digits c.args.unit) p.0 p.1 e).colon

pub returns-then-text-ne58-2 : goal.returns-then-text-ne58-2
returns-then-text-ne58-2 c p fits e = c.if-text-ne58-2.true (clock_parts c.args.text.now (unit_digits c.args.unit) p.0 p.1 e).second_colon

pub returns-in_err-hours : goal.returns-in_err-hours
returns-in_err-hours c =
    none_parsed (λ p. clock_text (unit_digits c.args.unit) p.0 p.1) (λ p. (p.0 < 86_400) × (p.1 < 10 ^ unit_digits c.args.unit)) c.args.text.now _ (search rules)
    (λ p fits e. digits_none _ 2 (p.0 / 3600) c.in_err-hours.ensures (omega (arith, fits.0)) (clock_parts c.args.text.now (unit_digits c.args.unit) p.0 p.1 e).hours)

pub returns-in_err-minutes : goal.returns-in_err-minutes
returns-in_err-minutes c =
    none_parsed (λ p. clock_text (unit_digits c.args.unit) p.0 p.1) (λ p. (p.0 < 86_400) × (p.1 < 10 ^ unit_digits c.args.unit)) c.args.text.now _ (search rules)
    (λ p fits e. digits_none _ 2 (p.0 / 60 % 60) c.in_err-minutes.ensures (omega arith) (clock_parts c.args.text.now (unit_digits c.args.unit) p.0 p.1 e).minutes)

pub returns-in_err-seconds : goal.returns-in_err-seconds
returns-in_err-seconds c =
    none_parsed (λ p. clock_text (unit_digits c.args.unit) p.0 p.1) (λ p. (p.0 < 86_400) × (p.1 < 10 ^ unit_digits c.args.unit)) c.args.text.now _ (search rules)
    (λ p fits e. digits_none _ 2 (p.0 % 60) c.in_err-seconds.ensures (omega arith) (clock_parts c.args.text.now (unit_digits c.args.unit) p.0 p.1 e).seconds)

pub returns-in_err-fraction : goal.returns-in_err-fraction
returns-in_err-fraction c =
    none_parsed (λ p. clock_text (unit_digits c.args.unit) p.0 p.1) (λ p. (p.0 < 86_400) × (p.1 < 10 ^ unit_digits c.args.unit)) c.args.text.now _ (search rules)
    (λ p fits e. c.in_err-fraction.ensures p.1 fits.1 (take_rest c.args.text.now 8 ∙ (clock_parts c.args.text.now (unit_digits c.args.unit) p.0 p.1 e).fraction))

pub returns-in_err-second : goal.returns-in_err-second
returns-in_err-second c =
    none_parsed (λ p. clock_text (unit_digits c.args.unit) p.0 p.1) (λ p. (p.0 < 86_400) × (p.1 < 10 ^ unit_digits c.args.unit)) c.args.text.now _ (search rules)
    (λ p fits e.
    let text = c.args.text.now in
    let h = c.in_ok-hours.ensures in
    let m = c.in_ok-minutes.ensures in
    let s = c.in_ok-seconds.ensures in
    let same = clock_same text (unit_digits c.args.unit) p.0 p.1 c.in_ok-hours.hours c.in_ok-minutes.minutes c.in_ok-seconds.seconds (clock_parts text (unit_digits c.args.unit) p.0 p.1 e) fits.0
    (record { long = two_long text 0 (omega arith); small = h.0; digits = h.1 }) (record { long = two_long text 3 (omega arith); small = m.0; digits = m.1 }) (record { long = two_long text 6 (omega arith); small = s.0; digits = s.1 }) in
    c.in_err-second.ensures.none (omega (arith, same.0, fits.0)) (omega (arith, same.1)) (omega (arith, same.2)))

pub returns : goal.returns
returns c =
    let text = c.args.text.now in
    let h = c.in_ok-hours.ensures in
    let m = c.in_ok-minutes.ensures in
    let s = c.in_ok-seconds.ensures in
    let some = c.in_ok-second.ensures.some in
    let f = c.in_ok-fraction.ensures in
    let read = clock_read text (unit_digits c.args.unit) c.in_ok-fraction.fraction c.in_ok-hours.hours c.in_ok-minutes.minutes c.in_ok-seconds.seconds (omega arith) (omega arith) (omega arith) some.0 some.1 some.2
    (record { long = two_long text 0 (omega arith); small = h.0; digits = h.1 }) (record { long = two_long text 3 (omega arith); small = m.0; digits = m.1 }) (record { long = two_long text 6 (omega arith); small = s.0; digits = s.1 }) (sym (take_rest text 8) ∙ f.1) in
    ((omega (arith, some.0, some.1, some.2, some.3), f.0), rw (sym some.3) at read)
