-- What the functions that make a command of what clap found return: what is meant, or why the arguments mean no command.
use Rattle.std.specs.Prelude.{◌≡◌, [], ◌∷◌, Result, Ok, Err}
use Rattle.clap.specs.Kinds.{Kinds}
use Rattle.clap.specs.declared.error.kind.ErrorKind.{ErrorKind}
use Rattle.clap.specs.declared.error.kind.ErrorKind.TheVariants as kinds
use Rattle.cli_args.specs.declared.column_names.ParseColumnNamesError.{ParseColumnNamesError}
use Rattle.cli_args.specs.declared.column_names.ParseColumnNamesError.TheVariants as names
use Rattle.cli_args.specs.declared.condition_error.ParseConditionError.{ParseConditionError}
use Rattle.cli_args.specs.declared.condition_error.ParseConditionError.TheVariants as conditions
use Rattle.cli_args.specs.declared.usage_error.CommandError.{CommandError}
use Rattle.cli_args.specs.declared.usage_error.CommandError.TheVariants as errors
use Rattle.cli_args.specs.declared.usage_error.UsageError.{UsageError}
use Rattle.cli_args.specs.declared.usage_error.UsageError.TheVariants.{UnknownCommand, ColumnNames, ColumnsTwice, Condition}

-- the kind of error that clap has for it
abbrev pub usage_kind : UsageError → ErrorKind
usage_kind UnknownCommand = kinds.InvalidSubcommand
usage_kind (ColumnNames e) = kinds.ValueValidation
usage_kind ColumnsTwice = kinds.ArgumentConflict
usage_kind (Condition e) = kinds.ValueValidation

-- an error of a condition as one of a command
abbrev pub condition_error : ParseConditionError → CommandError
condition_error (conditions.Syntax e) = errors.Usage (Condition e)
condition_error conditions.Memory = errors.Memory

-- an error of column names as one of a command
abbrev pub column_names_error : ParseColumnNamesError → CommandError
column_names_error (names.Names e) = errors.Usage (ColumnNames e)
column_names_error names.Memory = errors.Memory

abbrev pub usage_kinds : {X : Type 0} → Result X UsageError → Kinds
usage_kinds (Ok x) = []
usage_kinds (Err e) = usage_kind e ∷ []

abbrev pub map_ok : {X Y : Type 0} → (X → Y) → Result X UsageError → Result Y UsageError
map_ok f (Ok x) = Ok (f x)
map_ok f (Err e) = Err e

abbrev pub FailsAs : {Y : Type 0} → CommandError → Result Y UsageError → Type 0
FailsAs errors.Memory meant = Unit {0}
FailsAs (errors.Usage e) meant = meant ≡ Err e

-- `view` of a function's result is what is meant, unless an allocation failed
abbrev pub MeansAs : {X Y : Type 0} → (X → Y) → Result X CommandError → Result Y UsageError → Type 0
MeansAs view (Ok x) meant = meant ≡ Ok (view x)
MeansAs view (Err e) meant = FailsAs e meant
