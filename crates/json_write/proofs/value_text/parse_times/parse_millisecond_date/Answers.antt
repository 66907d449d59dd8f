use Rattle.std.proofs.Common.{◌≡◌, ◌*ℤ◌, pos, subst, arith, to_z, of_z, w64, FitsSigned}
use Rattle.std.specs.Option.{SomeIff}
use Rattle.json_write.proofs.Signed.{signed}
use Rattle.json_write.proofs.TimeResults.{date_ms_result, time_ms_result}
use Rattle.json_write.proofs.value_text.parse_times.parse_millisecond_date.Goals as goal

pub returns-in-Some : goal.returns-in-Some
returns-in-Some c =
    let read = c.in-Some.ensures in
    let day = c.in-Some.day in
    let again : to_z w64 (of_z w64 day) ≡ day = omega (arith, signed, read.0) in
    date_ms_result c.args.text.now day read.1 c.checked_mul.result (subst (λ z. SomeIff c.checked_mul.result (FitsSigned w64 (z *ℤ pos 86_400_000)) (z *ℤ pos 86_400_000)) again c.checked_mul.ensures)

pub returns-in-None : goal.returns-in-None
returns-in-None c = time_ms_result c.args.text.now c.in-None.ensures _ c.parse_date_and_time.ensures
