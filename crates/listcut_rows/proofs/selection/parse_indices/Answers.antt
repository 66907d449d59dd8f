use Rattle.std.proofs.Common.{◌≤◌, ◌<◌, ◌^◌, ◌∙◌, ap, sym, arith, Some, map, length}
use Rattle.std.specs.Prelude.{string_bytes}
use Rattle.std.proofs.lemmas.List.{length-map, take_all}
use Rattle.listcut_rows.specs.Grammar.{number_below}
use Rattle.listcut_rows.proofs.Indices.{all-found, found-more, one-missing, seen-at}
use Rattle.listcut_rows.proofs.selection.parse_indices.Goals as goal

pub returns-in_default : goal.returns-in_default
returns-in_default c =
    let words = c.args.arguments.now in
    let i = c.loop-argument.argument-index in
    let word = c.argument-item.result in
    let number = number_below (2 ^ 64) in
    let is = ap number (seen-at string_bytes words i word c.loop-argument-test.true c.argument-item.is) ∙ ap number (sym c.as_bytes.ensures.value) ∙ sym c.parse_unsigned.ensures ∙ c.in_default.is in
    let within : i < length (map string_bytes words) = omega (arith, c.loop-argument-test.true, length-map words string_bytes) in
    sym (one-missing number (map string_bytes words) i (string_bytes word) within is)

pub loop-argument-preserved : goal.loop-argument-preserved
loop-argument-preserved c =
    let words = c.args.arguments.now in
    let i = c.loop-argument.argument-index in
    let word = c.argument-item.result in
    let number = number_below (2 ^ 64) in
    let is = ap number (seen-at string_bytes words i word c.loop-argument-test.true c.argument-item.is) ∙ ap number (sym c.as_bytes.ensures.value) ∙ sym c.parse_unsigned.ensures ∙ c.in-Some.is in
    let within : i < length (map string_bytes words) = omega (arith, c.loop-argument-test.true, length-map words string_bytes) in
    ap (map (λ place. Some place)) c.in_ok-push.ensures.items
    ∙ found-more number (map string_bytes words) c.loop-argument.indices.items i (string_bytes word) c.in-Some.index within c.loop-argument.invariant is

pub returns : goal.returns
returns c =
    let words = c.args.arguments.now in
    let number = number_below (2 ^ 64) in
    let end : length (map string_bytes words) ≤ c.loop-argument.argument-index = omega (arith, c.loop-argument-test.false, length-map words string_bytes) in
    all-found number (map string_bytes words) c.loop-argument.indices.items (c.loop-argument.invariant ∙ ap (map number) (take_all c.loop-argument.argument-index (map string_bytes words) end))
