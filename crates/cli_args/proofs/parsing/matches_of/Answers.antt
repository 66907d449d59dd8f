use Rattle.std.proofs.Common.{◌∙◌, ap, map, subst}
use Rattle.std.specs.Prelude.{string_bytes}
use Rattle.std.proofs.lemmas.Result.{IfOk-weaker}
use Rattle.clap.specs.Faults.{fault_of, is_simple_and_free}
use Rattle.clap.specs.Kinds.{FailsBy}
use Rattle.clap.specs.Words.{App, is_simple, subcommand_of}
use Rattle.cli_args.proofs.parsing.matches_of.Goals as goal

pub returns-clause-found : goal.returns-clause-found
returns-clause-found c =
    let app = c.in_ok-nest.ensures.0 in
    let words = map string_bytes c.args.words.now in
    IfOk-weaker c.try_get_matches_from.result _ _ (λ m h. (h (ap is_simple app)).1 ∙ ap (λ (a : App). subcommand_of a words) app) c.try_get_matches_from.ensures.matches

pub returns-clause-kinds : goal.returns-clause-kinds
returns-clause-kinds c =
    let app = c.in_ok-nest.ensures.0 in
    let words = map string_bytes c.args.words.now in
    subst (λ (a : App). FailsBy (fault_of a words) c.try_get_matches_from.result) app (c.try_get_matches_from.ensures.kinds (ap is_simple_and_free app))
