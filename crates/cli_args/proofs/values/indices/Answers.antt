use Rattle.std.proofs.Common.{◌∙◌, ap, map}
use Rattle.std.specs.Borrow.{Bor}
use Rattle.std.proofs.lemmas.Result.{IfOk-weaker}
use Rattle.clap.specs.Words.{Text}
use Rattle.cli_args.specs.Commands.{argument_integer}
use Rattle.cli_args.proofs.values.indices.Goals as goal

pub returns-in-Ok : goal.returns-in-Ok
returns-in-Ok c =
    let found = ap (map (λ (t : Bor Text). t.now)) c.deref.ensures.value ∙ c.in-Ok.ensures in
    IfOk-weaker c.parse_integers.result _ _ (λ v h. h ∙ ap (map argument_integer) found) c.parse_integers.ensures
