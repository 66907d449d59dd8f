use Rattle.std.proofs.Common.{rules, ◌≡◌, take, true, ap, ◌∙◌, arith}
use Rattle.std.specs.Char.{is_ascii_digit}
use Rattle.std.specs.List.{prefix_len}
use Rattle.type_text.specs.TypeParser.{is_decimal_numeral}
use Rattle.type_text.proofs.Numbers.{digits-cut, number-too-large}
use Rattle.type_text.proofs.lexer.number.Goals as goal

pub split_at-requires : goal.split_at-requires
split_at-requires c = digits-cut c.args.text.now c.digits.result c.utf8.text c.digits.ensures

pub returns-in-Err : goal.returns-in-Err
returns-in-Err c =
    let ds = c.split_at.result.0.now in
    let d : ds ≡ take (prefix_len is_ascii_digit c.args.text.now) c.args.text.now = c.split_at.ensures.front ∙ ap (λ n. take n c.args.text.now) c.digits.ensures in
    let e : is_decimal_numeral ds ≡ true = first_of (search rules, grind arith, cc) in
    number-too-large c.args.text.now ds c.parse.result c.in-Err.field-0 d e c.parse.ensures.value.0 c.in-Err.is
