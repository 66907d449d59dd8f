use Rattle.std.proofs.Common.{◌≤◌, ◌<◌, ◌^◌, ◌∙◌, ap, sym, arith, map, length}
use Rattle.std.specs.List.{list_all}
use Rattle.std.specs.Option.{is_some}
use Rattle.std.specs.Prelude.{string_bytes}
use Rattle.std.proofs.lemmas.Bool.{and_from}
use Rattle.std.proofs.lemmas.List.{length-map, take_all}
use Rattle.std.proofs.lemmas.List.Folds.{list_all_at, list_all_more}
use Rattle.listcut_rows.specs.Grammar.{number_below}
use Rattle.listcut_rows.proofs.Indices.{all-give, seen-at}
use Rattle.listcut_rows.proofs.selection.are_indices.Goals as goal

pub returns-in_default : goal.returns-in_default
returns-in_default c =
    let words = c.args.arguments.now in
    let i = c.loop-argument.argument-index in
    let word = c.argument-item.result in
    let number = number_below (2 ^ 64) in
    let is = ap number (seen-at string_bytes words i word c.loop-argument-test.true c.argument-item.is) ∙ ap number (sym c.as_bytes.ensures.value) ∙ sym c.parse_unsigned.ensures ∙ c.in_default.is in
    let within : i < length (map string_bytes words) = omega (arith, c.loop-argument-test.true, length-map words string_bytes) in
    sym (list_all_at (λ w. is_some (number w)) (map string_bytes words) i (string_bytes word) within (ap is_some is)) ∙ all-give number (map string_bytes words)

pub loop-argument-preserved : goal.loop-argument-preserved
loop-argument-preserved c =
    let words = c.args.arguments.now in
    let i = c.loop-argument.argument-index in
    let word = c.argument-item.result in
    let number = number_below (2 ^ 64) in
    let is = ap number (seen-at string_bytes words i word c.loop-argument-test.true c.argument-item.is) ∙ ap number (sym c.as_bytes.ensures.value) ∙ sym c.parse_unsigned.ensures ∙ c.in-Some.is in
    let within : i < length (map string_bytes words) = omega (arith, c.loop-argument-test.true, length-map words string_bytes) in
    list_all_more (λ w. is_some (number w)) (map string_bytes words) i (string_bytes word) within ∙ and_from _ _ c.loop-argument.invariant (ap is_some is)

pub returns : goal.returns
returns c =
    let words = c.args.arguments.now in
    let number = number_below (2 ^ 64) in
    let end : length (map string_bytes words) ≤ c.loop-argument.argument-index = omega (arith, c.loop-argument-test.false, length-map words string_bytes) in
    sym (ap (list_all (λ w. is_some (number w))) (sym (take_all c.loop-argument.argument-index (map string_bytes words) end)) ∙ c.loop-argument.invariant) ∙ all-give number (map string_bytes words)
