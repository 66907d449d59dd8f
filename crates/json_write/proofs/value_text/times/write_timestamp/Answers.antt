use Rattle.std.proofs.Common.{◌≡◌, [], ◌∷◌, ◌++◌, ap, ◌∙◌, arith, rules, pos, unsigned_abs, to_z, of_z, w64, FitsSigned}
use Rattle.std.proofs.lemmas.Grind.{common_steps, put_four}
use Rattle.std.specs.Char.{encode_utf8}
use Rattle.std.specs.Int.{int_div_euclid, int_rem_euclid}
use Rattle.json_write.specs.Times.{date_text, clock_text, zone_text, unit_digits, whole_seconds, subseconds}
use Rattle.json_write.proofs.Signed.{signed}
use Rattle.json_write.proofs.value_text.times.write_timestamp.Goals as goal

pub returns : goal.returns
returns g c plain ok =
    let k = unit_digits c.args.unit in
    let n = c.args.value in
    let one = c.write_date.ensures plain (search rules) in
    let two = c.write_char.ensures.writes one.plain (search rules) in
    let three = c.write_clock.ensures two.plain (search rules) in
    let four = c.write_zone.ensures three.plain ok in
    let fits_seconds : FitsSigned w64 c.split-seconds.result.0 = search rules in
    let fits_day : FitsSigned w64 c.split_days-day.result.0 = search rules in
    let same_value : to_z w64 (of_z w64 n) ≡ n = omega (arith, signed) in
    let seconds : to_z w64 (of_z w64 c.split-seconds.result.0) ≡ c.split-seconds.result.0 = omega (arith, signed) in
    let whole = seconds ∙ c.split-seconds.ensures.seconds ∙ ap (λ z. whole_seconds k z) same_value in
    let date = to_z w64 (of_z w64 c.split_days-day.result.0) in
    let same_date : date ≡ c.split_days-day.result.0 = omega (arith, signed) in
    let day = same_date ∙ c.split_days-day.ensures.day ∙ ap (λ z. int_div_euclid z (pos 86_400)) whole in
    let second = c.split_days-day.ensures.second ∙ ap (λ z. unsigned_abs (int_rem_euclid z (pos 86_400))) whole in
    let fraction = c.split-seconds.ensures.fraction ∙ ap (λ z. subseconds k z) same_value in
    let clock = clock_text k c.split_days-day.result.1 c.split-seconds.result.1 ++ zone_text c.args.utc in
    let letter : encode_utf8 84 ≡ 84 ∷ [] = grind (arith, common_steps) in
    put_four g.W.Write.write_str_gives _ _ _ _ _ _ _ _ _ _ one two three four
    (ap (λ b. date_text date ++ (b ++ clock)) letter
    ∙ ap (λ z. date_text z ++ (84 ∷ (clock_text k c.split_days-day.result.1 c.split-seconds.result.1 ++ zone_text c.args.utc))) day
    ∙ ap (λ s. date_text (int_div_euclid (whole_seconds k n) (pos 86_400)) ++ (84 ∷ (clock_text k s c.split-seconds.result.1 ++ zone_text c.args.utc))) second
    ∙ ap (λ i. date_text (int_div_euclid (whole_seconds k n) (pos 86_400)) ++ (84 ∷ (clock_text k (unsigned_abs (int_rem_euclid (whole_seconds k n) (pos 86_400))) i ++ zone_text c.args.utc))) fraction)
