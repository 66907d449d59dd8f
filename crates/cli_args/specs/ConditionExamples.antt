-- What examples of parsed conditions say.
use Rattle.std.specs.Prelude.{◌≡◌, ℕ, List, Ok, Err}
use Rattle.cli_args.specs.ConditionParser.{parsed_condition}
use Rattle.cli_args.specs.Conditions.{ConditionTree}
use Rattle.cli_args.specs.declared.condition_error.SyntaxErrorKind.{SyntaxErrorKind}

-- the text is parsed as this condition
abbrev pub ParsesTo : List ℕ → ConditionTree → Type 0
ParsesTo text condition = parsed_condition text ≡ Ok condition

-- the first error of the text is of this kind, at this position
abbrev pub FailsAt : List ℕ → ℕ → SyntaxErrorKind → Type 0
FailsAt text position kind = parsed_condition text ≡ Err (record { position = position; kind = kind })
