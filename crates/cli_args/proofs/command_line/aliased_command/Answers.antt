use Rattle.std.proofs.lemmas.Result.{IfOk-weaker}
use Rattle.cli_args.specs.CommandLine.{file_app}
use Rattle.cli_args.proofs.AddedNames.{has_alias}
use Rattle.cli_args.proofs.command_line.aliased_command.Goals as goal

pub returns : goal.returns
returns c = IfOk-weaker c.visible_alias.result _ _ (λ d s. has_alias (file_app c.args.name.now) c.in_ok-command.command d c.args.alias c.in_ok-command.ensures s) c.visible_alias.ensures
