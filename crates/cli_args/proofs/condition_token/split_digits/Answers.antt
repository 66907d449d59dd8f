use Rattle.std.proofs.Common.{ap, sym, ◌∙◌, subst, take}
use Rattle.std.specs.Char.{is_ascii_digit}
use Rattle.std.specs.List.{prefix_len}
use Rattle.std.specs.Str.Parse.{AllDigits}
use Rattle.cli_args.proofs.Runs.{digit-ascii, digits-run, run-ends}
use Rattle.cli_args.proofs.condition_token.split_digits.Goals as goal

pub split_at-requires : goal.split_at-requires
split_at-requires c = run-ends is_ascii_digit digit-ascii c.args.text.now c.digits_len.result c.utf8.text (c.digits_len.ensures ∙ ap (prefix_len is_ascii_digit) c.as_bytes.ensures.value)

pub returns-clause-digits : goal.returns-clause-digits
returns-clause-digits c =
    let n = c.digits_len.ensures ∙ ap (prefix_len is_ascii_digit) c.as_bytes.ensures.value in
    subst (AllDigits 10) (sym (c.split_at.ensures.front ∙ ap (λ k. take k c.args.text.now) n)) (digits-run c.args.text.now)
