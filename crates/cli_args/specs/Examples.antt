-- What examples of parsed command lines say.
use Rattle.std.specs.Prelude.{◌≡◌, List, [], ◌∷◌, Option, None, Ok, Err, codes}
use Rattle.clap.specs.Faults.{fault_of}
use Rattle.clap.specs.Kinds.{Kinds}
use Rattle.clap.specs.Words.{Text}
use Rattle.cli_args.specs.CommandLine.{nest_app}
use Rattle.cli_args.specs.Commands.{ColumnNamesTree, CommandTree, arguments_of, select}
use Rattle.cli_args.specs.Requests.{SelectionTree}
use Rattle.cli_args.specs.declared.usage_error.UsageError.{UsageError}

-- the arguments after the name of the program are refused with one of these errors; with none they are accepted
abbrev pub RefusedWith : List Text → Kinds → Type 0
RefusedWith arguments kinds = fault_of nest_app (codes "nest" ∷ arguments) ≡ kinds

-- the arguments are accepted, and mean this command under these columns
abbrev pub ParsedAs : List Text → Option ColumnNamesTree → CommandTree → Type 0
ParsedAs arguments columns command = RefusedWith arguments [] × (arguments_of (codes "nest" ∷ arguments) ≡ Ok (record { columns = columns; command = command }))

-- the same of a command that selects rows of the file `f`
abbrev pub Selects : List Text → SelectionTree → Option Text → Type 0
Selects arguments selection out = ParsedAs arguments None (select (codes "f") selection out)

-- clap accepts the arguments, but they mean no command, for this reason
abbrev pub MeansNothing : List Text → UsageError → Type 0
MeansNothing arguments reason = RefusedWith arguments [] × (arguments_of (codes "nest" ∷ arguments) ≡ Err reason)
