use Rattle.std.proofs.Common.{sym, ap, ◌∙◌}
use Rattle.type_text.specs.TypeParser.{after_prefix, all_keywords, first_keyword, read_keyword}
use Rattle.type_text.proofs.Steps.{found-keyword, nothing-found, other-keyword}
use Rattle.type_text.proofs.keyword.keyword_at.Goals as goal

pub returns-in-Some : goal.returns-in-Some
unfolding read_keyword
returns-in-Some c = found-keyword c.args.text.now all_keywords c.loop-keyword.keyword-index _ c.in-Some.rest.now (first_keyword c.args.text.now all_keywords) c.loop-keyword-test.true (ap (λ p. after_prefix p c.args.text.now) (sym c.text.ensures) ∙ c.in-Some.ensures) c.loop-keyword.invariant

pub loop-keyword-preserved : goal.loop-keyword-preserved
loop-keyword-preserved c = other-keyword c.args.text.now all_keywords c.loop-keyword.keyword-index _ (first_keyword c.args.text.now all_keywords) c.loop-keyword-test.true (ap (λ p. after_prefix p c.args.text.now) (sym c.text.ensures) ∙ c.in_default.ensures) c.loop-keyword.invariant

pub returns : goal.returns
unfolding read_keyword
returns c = nothing-found c.args.text.now all_keywords c.loop-keyword.keyword-index (first_keyword c.args.text.now all_keywords) c.loop-keyword-test.false c.loop-keyword.invariant
