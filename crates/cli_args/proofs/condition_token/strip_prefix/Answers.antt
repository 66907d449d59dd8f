use Rattle.std.proofs.Common.{◌≡◌, ℕ, List, ◌++◌, Option, Some, None, Bor, MatchOption, sym, ap, ◌∙◌}
use Rattle.std.specs.Str.Pattern.{FindsTextPrefix, StripsPrefix}
use Rattle.cli_args.specs.ConditionTokens.{after_prefix}
use Rattle.cli_args.proofs.Prefixes.{after-is, after-none}
use Rattle.cli_args.proofs.condition_token.strip_prefix.Goals as goal

found : (p s : List ℕ) (r : Option (Bor (List ℕ))) → MatchOption r (FindsTextPrefix p s None) (λ x. StripsPrefix (FindsTextPrefix p) s x.now) → MatchOption r (after_prefix p s ≡ None) (λ x. after_prefix p s ≡ Some x.now)
found p s None h = after-none p s h
found p s (Some x) h = after-is p s x.now (h.1.1 ∙ ap (λ y. p ++ y) (sym h.2))

pub returns : goal.returns
returns c = found c.args.prefix.now c.args.text.now c.strip_prefix.result c.strip_prefix.ensures.cases
