use Rattle.std.proofs.Common.{◌*◌, ◌^◌, refl, ap, ◌∙◌}
use Rattle.std.proofs.lemmas.Bool.{le-ltb}
use Rattle.fast_float.proofs.ExactLemmas.{ten_to_pos}
use Rattle.fast_float.specs.Text.{digits_of, tens_up, tens_down}
use Rattle.json_read.specs.HalfNumbers.{if_in_range}
use Rattle.json_read.proofs.HalfRounding.{past-range}
use Rattle.json_read.proofs.half_numbers.half_of_numeral.Goals as goal

pub returns-in-Some : goal.returns-in-Some
returns-in-Some c =
    let p = c.args.number.now in
    c.if_finite.ensures ∙ ap if_in_range (c.nearest.ensures (digits_of p * 10 ^ tens_up p) (10 ^ tens_down p) (ten_to_pos (tens_down p)) c.in-Some.ensures.some.0)

pub returns-in-None : goal.returns-in-None
returns-in-None c =
    let p = c.args.number.now in
    let past = past-range (digits_of p * 10 ^ tens_up p) (10 ^ tens_down p) (ten_to_pos (tens_down p)) c.in-None.ensures.none in
    rw (le-ltb _ _ past) refl
