-- What the readers of a condition return: what is read and the bytes that remain, or the first error.
use Rattle.std.specs.Prelude.{◌≡◌, ℕ, ◌-◌, List, length, Result, Ok, Err}
use Rattle.cli_args.specs.declared.condition_error.ParseConditionError.{ParseConditionError}
use Rattle.cli_args.specs.declared.condition_error.ParseConditionError.TheVariants as errors
use Rattle.cli_args.specs.declared.condition_error.ConditionSyntaxError.{ConditionSyntaxError}
use Rattle.cli_args.specs.declared.condition_error.SyntaxErrorKind.{SyntaxErrorKind}

infixl 10 ◌>>=◌
abbrev pub ◌>>=◌ : {A B : Type 0} → Result A ConditionSyntaxError → (A → Result B ConditionSyntaxError) → Result B ConditionSyntaxError
(Ok x) >>= f = f x
(Err e) >>= f = Err e

-- an error where these bytes begin, which a text of that length ends in
abbrev pub error_at : ℕ → List ℕ → SyntaxErrorKind → ConditionSyntaxError
error_at len bs kind = record { position = len - length bs; kind = kind }

abbrev pub FailsWith : {Y : Type 0} → ParseConditionError → Result Y ConditionSyntaxError → Type 0
FailsWith errors.Memory read = Unit {0}
FailsWith (errors.Syntax e) read = read ≡ Err e

-- `view` of a function's result is what is read, unless an allocation failed
abbrev pub ReadsAs : {X Y : Type 0} → (X → Y) → Result X ParseConditionError → Result Y ConditionSyntaxError → Type 0
ReadsAs view (Ok x) read = read ≡ Ok (view x)
ReadsAs view (Err e) read = FailsWith e read
