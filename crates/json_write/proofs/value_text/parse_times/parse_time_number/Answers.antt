use Rattle.std.proofs.Common.{◌≡◌, false, sym, ap, ◌∙◌, subst, arith, rules, to_z, of_z, w64, FitsSigned}
use Rattle.std.specs.Int.{w128}
use Rattle.json_write.specs.Digits.{signed_integer_text}
use Rattle.json_write.specs.Times.{is_time_of_day, unit_digits}
use Rattle.json_write.proofs.Signed.{signed}
use Rattle.json_write.proofs.TimeFacts.{integer_injective}
use Rattle.json_write.proofs.ReadingFacts.{none_parsed}
use Rattle.json_write.proofs.value_text.parse_times.parse_time_number.Goals as goal

pub returns-in_err-value : goal.returns-in_err-value
returns-in_err-value c =
    none_parsed signed_integer_text (λ n. FitsSigned w64 n × (is_time_of_day (unit_digits c.args.unit) n ≡ false)) c.args.text.now _ (search rules)
    (λ n fits e.
    let number = c.in_ok-number.number in
    let read = c.in_ok-number.ensures in
    let back : to_z w128 (of_z w128 number) ≡ number = omega (arith, signed, read.0) in
    let same = integer_injective number n (sym read.1 ∙ e) in
    c.in_err-value.ensures (subst (FitsSigned w64) (sym (back ∙ same)) fits.0))

pub returns-then-is_time : goal.returns-then-is_time
returns-then-is_time c n fits e =
    let number = c.in_ok-number.number in
    let read = c.in_ok-number.ensures in
    let back : to_z w128 (of_z w128 number) ≡ number = omega (arith, signed, read.0) in
    let same = integer_injective number n (sym read.1 ∙ e) in
    let value = c.in_ok-value.ensures in
    let fits_value : FitsSigned w64 c.in_ok-value.value = subst (FitsSigned w64) (sym value.1) value.0 in
    let again : to_z w64 (of_z w64 c.in_ok-value.value) ≡ c.in_ok-value.value = omega (arith, signed) in
    let no = sym c.if-is_time.true ∙ c.is_time.ensures ∙ ap (λ z. is_time_of_day (unit_digits c.args.unit) z) (again ∙ value.1 ∙ back ∙ same) ∙ fits.1 in
    cc
