use Rattle.std.proofs.Common.{◌≡◌, ℕ, ◌≤◌, List, length, drop, Option, Some, None, Bor, MatchOption, sym, ap, ◌∙◌}
use Rattle.std.specs.Str.Pattern.{FindsText, SplitsAroundMatch}
use Rattle.type_text.specs.TypeParser.{split_first}
use Rattle.type_text.proofs.Prefixes.{split-found, split-none}
use Rattle.type_text.proofs.lexer.split_once.Goals as goal

found : (p s : List ℕ) (r : Option (Bor (List ℕ) × Bor (List ℕ))) → 1 ≤ length p → MatchOption r (FindsText p s None) (λ x. SplitsAroundMatch (FindsText p) s x.0.now x.1.now)
    → MatchOption r (split_first p s ≡ None) (λ x. split_first p s ≡ Some (x.0.now, x.1.now))
found p s None long h = split-none p s long h
found p s (Some x) long h =
    split-found p s h.0 (drop h.1 s) long h.2.0 h.2.1.split
    ∙ ap (λ y. Some (y, drop h.1 s)) (sym h.3) ∙ ap (λ y. Some (x.0.now, y)) (sym h.4)

pub returns : goal.returns
returns c = found c.args.end.now c.args.text.now c.split_once.result c.requires c.split_once.ensures.cases
