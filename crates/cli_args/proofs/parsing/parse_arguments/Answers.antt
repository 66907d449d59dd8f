use Rattle.std.proofs.Common.{map}
use Rattle.std.specs.Prelude.{string_bytes}
use Rattle.clap.specs.Faults.{fault_of}
use Rattle.cli_args.specs.CommandLine.{nest_app}
use Rattle.cli_args.specs.Commands.{arguments_of}
use Rattle.cli_args.specs.UsageErrors.{usage_kinds}
use Rattle.cli_args.proofs.UsageKinds.{clap_kinds}
use Rattle.cli_args.proofs.parsing.parse_arguments.Goals as goal

pub returns-in-Err-clause-kinds : goal.returns-in-Err-clause-kinds
returns-in-Err-clause-kinds c =
    let words = map string_bytes c.args.words.now in
    clap_kinds (fault_of nest_app words) (usage_kinds (arguments_of words)) c.in-Err.error c.in-Err.ensures.kinds
