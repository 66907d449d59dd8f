use Rattle.std.proofs.Common.{◌≡◌, drop}
use Rattle.type_text.specs.TypeParser.{all_keywords, first_keyword}
use Rattle.type_text.proofs.keyword.keyword_at.Given as goal

-- no keyword so far is a prefix
abbrev pub invariant-loop-keyword : goal.invariant-loop-keyword
invariant-loop-keyword l = first_keyword l.text (drop l.keyword-index all_keywords) ≡ first_keyword l.text all_keywords
