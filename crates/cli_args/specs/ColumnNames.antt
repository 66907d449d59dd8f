-- Column names in the value of an option: names separated by commas. A name that begins with a double quote is quoted; in it "" is a double quote.
use Rattle.std.specs.Prelude.{◌≡◌, ℕ, zero, suc, ◌-◌, ◌==◌, Bool, List, [], ◌∷◌, length, codes, nat_lt, Option, Some, None, Result, Ok, Err, if◌then◌else◌}
use Rattle.std.specs.List.{after_first, before_first, position_or_len}
use Rattle.cli_args.specs.ConditionTokens.{after_prefix, quoted_text}
use Rattle.cli_args.specs.declared.column_names.ColumnNamesError.{ColumnNamesError}
use Rattle.cli_args.specs.declared.column_names.ColumnNamesError.TheVariants.{UnclosedName, CommaExpected}
use Rattle.cli_args.specs.declared.column_names.ParseColumnNamesError.{ParseColumnNamesError}
use Rattle.cli_args.specs.declared.column_names.ParseColumnNamesError.TheVariants as errors

abbrev pub is_comma : ℕ → Bool
is_comma b = b == 44

-- a name, and what follows the comma after it, if there is one
abbrev pub NameAndRest : Type 0
NameAndRest = List ℕ × Option (List ℕ)

-- where these bytes begin, which a text of that length ends in
abbrev pub position_of : ℕ → List ℕ → ℕ
position_of len bs = len - length bs

-- the bytes before the first comma
abbrev pub plain_name : List ℕ → NameAndRest
plain_name bs =
    if nat_lt (position_or_len is_comma bs) (length bs) then (before_first is_comma bs, Some (after_first is_comma bs))
    else (bs, None)

-- a quoted name ends the text, or a comma follows
abbrev pub name_before : ℕ → List ℕ → List ℕ → Result NameAndRest ColumnNamesError
name_before len name [] = Ok (name, None)
name_before len name (b ∷ bs) = if b == 44 then Ok (name, Some bs) else Err (CommaExpected (position_of len (b ∷ bs)))

abbrev pub quoted_name : ℕ → ℕ → Option (List ℕ × List ℕ) → Result NameAndRest ColumnNamesError
quoted_name len start (Some quoted) = name_before len quoted.0 quoted.1
quoted_name len start None = Err (UnclosedName start)

abbrev pub quoted_or_plain : ℕ → List ℕ → Option (List ℕ) → Result NameAndRest ColumnNamesError
quoted_or_plain len bs (Some rest) = quoted_name len (position_of len bs) (quoted_text 34 rest)
quoted_or_plain len bs None = Ok (plain_name bs)

-- the name that the text begins with
abbrev pub first_name : ℕ → List ℕ → Result NameAndRest ColumnNamesError
first_name len bs = quoted_or_plain len bs (after_prefix (codes "\"") bs)

abbrev pub with_name : List ℕ → Result (List (List ℕ)) ColumnNamesError → Result (List (List ℕ)) ColumnNamesError
with_name name (Ok names) = Ok (name ∷ names)
with_name name (Err e) = Err e

abbrev pub with_more : Result NameAndRest ColumnNamesError → (Option (List ℕ) → Result (List (List ℕ)) ColumnNamesError) → Result (List (List ℕ)) ColumnNamesError
with_more (Ok first) more = with_name first.0 (more first.1)
with_more (Err e) more = Err e

-- the names of a text, of which there are at most n
unfoldable pub names_in : ℕ → ℕ → Option (List ℕ) → Result (List (List ℕ)) ColumnNamesError
names_in len n None = Ok []
names_in len zero (Some bs) = Ok []
names_in len (suc n) (Some bs) = with_more (first_name len bs) (names_in len n)

-- a text of n bytes has at most n + 1 names
abbrev pub column_names : List ℕ → Result (List (List ℕ)) ColumnNamesError
column_names text = names_in (length text) (suc (length text)) (Some text)

abbrev pub FailsWith : {Y : Type 0} → ParseColumnNamesError → Result Y ColumnNamesError → Type 0
FailsWith errors.Memory read = Unit {0}
FailsWith (errors.Names e) read = read ≡ Err e

-- `view` of a function's result is what is read, unless an allocation failed
abbrev pub ReadsAs : {X Y : Type 0} → (X → Y) → Result X ParseColumnNamesError → Result Y ColumnNamesError → Type 0
ReadsAs view (Ok x) read = read ≡ Ok (view x)
ReadsAs view (Err e) read = FailsWith e read
