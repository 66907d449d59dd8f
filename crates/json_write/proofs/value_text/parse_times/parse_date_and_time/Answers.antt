use Rattle.std.proofs.Common.{◌≡◌, false, pos, sym, ap, ◌∙◌, unsigned_abs, arith, to_z, of_z, w64, FitsSigned}
use Rattle.std.specs.Int.{int_rem_euclid}
use Rattle.json_write.proofs.Signed.{signed}
use Rattle.json_write.proofs.TimeFacts.{timestamp_injective}
use Rattle.json_write.proofs.value_text.parse_times.parse_date_and_time.Goals as goal

pub returns-then-rem_euclid-eq0 : goal.returns-then-rem_euclid-eq0
returns-then-rem_euclid-eq0 c n fits e =
    let read = c.in_ok-value.ensures in
    let value = c.in_ok-value.value in
    let fits_value : FitsSigned w64 value = read.0 in
    let again : to_z w64 (of_z w64 value) ≡ value = omega (arith, signed) in
    let same = timestamp_injective 3 false value n (sym read.1 ∙ e) in
    let rest : to_z w64 (of_z w64 c.rem_euclid.result) ≡ c.rem_euclid.result = omega (arith, signed, c.rem_euclid.type_inv) in
    let zero : unsigned_abs c.rem_euclid.result ≡ 0 = ap unsigned_abs (sym rest ∙ ap (to_z w64) c.if-rem_euclid-eq0.true) in
    fits.1 (ap (λ z. unsigned_abs (int_rem_euclid z (pos 86_400_000))) (sym (again ∙ same)) ∙ ap unsigned_abs (sym c.rem_euclid.ensures.value) ∙ zero)
