use Rattle.std.proofs.Common.{ap, sym, ◌∙◌, arith}
use Rattle.std.proofs.lemmas.Str.{IsCharBoundary-after_ascii, IsCharBoundary-before_ascii}
use Rattle.cli_args.specs.ConditionTokens.{quoted_length}
use Rattle.cli_args.proofs.Quotes.{quote-at}
use Rattle.cli_args.proofs.condition_token.split_quoted.Goals as goal

pub range-requires-clause-end_boundary : goal.range-requires-clause-end_boundary
range-requires-clause-end_boundary c =
    let e = ap (quoted_length c.args.quote) (sym c.as_bytes.ensures.value) ∙ sym c.in-Some.ensures in
    let p = quote-at c.args.quote c.args.text.now c.in-Some.n e in
    IsCharBoundary-before_ascii c.args.text.now c.in-Some.n p.0 (omega (arith, p.1))

pub range_from-requires : goal.range_from-requires
range_from-requires c =
    let e = ap (quoted_length c.args.quote) (sym c.as_bytes.ensures.value) ∙ sym c.in-Some.ensures in
    let p = quote-at c.args.quote c.args.text.now c.in-Some.n e in
    λ some. IsCharBoundary-after_ascii c.args.text.now c.in-Some.n c.utf8.text p.0 (omega (arith, p.1))
