use Rattle.std.proofs.Common.{◌≡◌, map, take}
use Rattle.std.specs.Borrow.{Bor}
use Rattle.clap.specs.Words.{Text}
use Rattle.cli_args.specs.Commands.{argument_integer}
use Rattle.cli_args.proofs.values.parse_integers.Given as goal

abbrev pub invariant-loop-text : goal.invariant-loop-text
invariant-loop-text l = l.integers.items ≡ map argument_integer (map (λ (t : Bor Text). t.now) (take l.text-index l.texts))
