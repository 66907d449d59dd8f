use Rattle.std.proofs.Common.{ap, sym, ◌∙◌}
use Rattle.std.specs.Str.Parse.{digits_value, digits_value_after}
use Rattle.cli_args.proofs.DigitValues.{after-append, both-fit, first-fits}
use Rattle.cli_args.proofs.condition_token.magnitude.Goals as goal

pub value_after-value-requires-clause-fits : goal.value_after-value-requires-clause-fits
value_after-value-requires-clause-fits c = rw c.as_bytes.ensures.value (first-fits c.args.whole.now c.args.fraction.now c.requires.whole c.requires.fraction c.requires.fits)

pub value_after-requires-clause-fits : goal.value_after-requires-clause-fits
value_after-requires-clause-fits c =
    let first = c.value_after-value.ensures ∙ ap (digits_value 10) c.as_bytes.ensures.value in
    rw (first, c.as_bytes-2.ensures.value) (both-fit c.args.whole.now c.args.fraction.now c.requires.whole c.requires.fraction c.requires.fits)

pub returns-clause-value : goal.returns-clause-value
returns-clause-value c =
    let first = c.value_after-value.ensures ∙ ap (digits_value 10) c.as_bytes.ensures.value in
    c.value_after.ensures ∙ ap (λ v. digits_value_after 10 v c.as_bytes-2.result.now) first ∙ ap (digits_value_after 10 (digits_value 10 c.args.whole.now)) c.as_bytes-2.ensures.value ∙ sym (after-append 0 c.args.whole.now c.args.fraction.now)

pub returns-clause-fits : goal.returns-clause-fits
returns-clause-fits c =
    let first = c.value_after-value.ensures ∙ ap (digits_value 10) c.as_bytes.ensures.value in
    rw (c.value_after.ensures, first, c.as_bytes-2.ensures.value) (both-fit c.args.whole.now c.args.fraction.now c.requires.whole c.requires.fraction c.requires.fits)
