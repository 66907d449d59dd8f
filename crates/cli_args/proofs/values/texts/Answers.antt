use Rattle.std.proofs.Common.{◌≡◌, ◌∙◌, [], List, Option, ap, map, rules}
use Rattle.std.specs.Prelude.{unwrap_or}
use Rattle.std.specs.Borrow.{Bor}
use Rattle.std.proofs.lemmas.Result.{IfOk-weaker}
use Rattle.clap.proofs.WalkLemmas.{raw_values-rows}
use Rattle.clap.specs.Words.{Text, found_of}
use Rattle.cli_args.proofs.values.texts.Goals as goal

abbrev nows : List (Bor Text) → List Text
nows = map (λ s. s.now)

abbrev all : Option (List Text) → List Text
all o = unwrap_or o []

pub returns-in-Some : goal.returns-in-Some
returns-in-Some c =
    let found = c.in-Some.ensures ∙ raw_values-rows (found_of c.args.matches.now) c.args.id.now in
    IfOk-weaker c.to_vec.result _ _ (λ v h. ap nows (h (λ x y k. k)) ∙ ap all found) c.to_vec.ensures.items_if_clones_equal

pub returns-in-None : goal.returns-in-None
returns-in-None c =
    let found = c.in-None.ensures ∙ raw_values-rows (found_of c.args.matches.now) c.args.id.now in
    let empty : c.new.result.items ≡ [] = search rules in
    ap nows empty ∙ ap all found
