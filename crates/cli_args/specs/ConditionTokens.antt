-- The tokens of a condition. White space after a token belongs to it.
use Rattle.std.specs.Prelude.{ℕ, ◌+◌, nat_lt, ◌==◌, ◌&&◌, ◌||◌, ℤ, pos, neg_ℤ, Bool, true, false, List, [], ◌∷◌, ◌++◌, length, take, drop, map, codes, bytes_eq, Option, Some, None, option_map, Result, Ok, Err, if◌then◌else◌}
use Rattle.std.specs.Char.{is_ascii_alphanumeric, is_ascii_digit, is_ascii_whitespace, to_ascii_lowercase}
use Rattle.std.specs.List.{prefix_len}
use Rattle.std.specs.Str.Parse.{digits_value}
use Rattle.cli_args.specs.ConditionResults.{error_at}
use Rattle.cli_args.specs.Conditions.{LiteralTree, text, boolean}
use Rattle.cli_args.specs.NumberLiterals.{decimal_number}
use Rattle.cli_args.specs.declared.condition.Comparison.{Comparison}
use Rattle.cli_args.specs.declared.condition.Comparison.TheVariants.{Equal, NotEqual, Less, LessOrEqual, Greater, GreaterOrEqual}
use Rattle.cli_args.specs.declared.condition_error.ConditionSyntaxError.{ConditionSyntaxError}
use Rattle.cli_args.specs.declared.condition_error.SyntaxErrorKind.TheVariants.{UnexpectedCharacter, UnclosedString, UnclosedName, TooManyDigits}

pub data TokenTree : Type 0 where
  and_word : TokenTree
  or_word : TokenTree
  not_word : TokenTree
  is_word : TokenTree
  null_word : TokenTree
  -- a column name
  name : List ℕ → TokenTree
  literal : LiteralTree → TokenTree
  operator : Comparison → TokenTree
  opening : TokenTree
  closing : TokenTree
  end_of_text : TokenTree

abbrev pub TokenAndRest : Type 0
TokenAndRest = TokenTree × List ℕ

abbrev pub without_space : List ℕ → List ℕ
without_space bs = drop (prefix_len is_ascii_whitespace bs) bs

-- a token, and what follows its white space
abbrev pub token_before : TokenTree → List ℕ → Result TokenAndRest ConditionSyntaxError
token_before t rest = Ok (t, without_space rest)

-- ---- punctuation

-- the bytes after a prefix
abbrev pub after_prefix : List ℕ → List ℕ → Option (List ℕ)
after_prefix [] bs = Some bs
after_prefix (h ∷ hs) [] = None
after_prefix (h ∷ hs) (b ∷ bs) = if h == b then after_prefix hs bs else None

abbrev pub or_symbol : TokenTree → Option (List ℕ) → Option TokenAndRest → Option TokenAndRest
or_symbol t (Some rest) others = Some (t, rest)
or_symbol t None others = others

abbrev pub OperatorAndRest : Type 0
OperatorAndRest = Comparison × List ℕ

abbrev pub or_operator : Comparison → Option (List ℕ) → Option OperatorAndRest → Option OperatorAndRest
or_operator c (Some rest) others = Some (c, rest)
or_operator c None others = others

-- the longest comparison operator that the text begins with
unfoldable pub first_operator : List ℕ → Option OperatorAndRest
first_operator bs =
    or_operator Equal (after_prefix (codes "=") bs)
    (or_operator NotEqual (after_prefix (codes "!=") bs)
    (or_operator NotEqual (after_prefix (codes "<>") bs)
    (or_operator LessOrEqual (after_prefix (codes "<=") bs)
    (or_operator Less (after_prefix (codes "<") bs)
    (or_operator GreaterOrEqual (after_prefix (codes ">=") bs)
    (or_operator Greater (after_prefix (codes ">") bs) None))))))

abbrev pub operator_symbol : Option OperatorAndRest → Option TokenAndRest
operator_symbol o = option_map (λ c. (operator c.0, c.1)) o

-- the operator or parenthesis that the text begins with
unfoldable pub first_symbol : List ℕ → Option TokenAndRest
first_symbol bs =
    or_symbol opening (after_prefix (codes "(") bs)
    (or_symbol closing (after_prefix (codes ")") bs)
    (operator_symbol (first_operator bs)))

-- ---- quotes

-- the length of the bytes before the closing quote, which is the first that is not one of two
unfoldable pub quoted_length : ℕ → List ℕ → Option ℕ
quoted_length q [] = None
quoted_length q (b ∷ []) = if b == q then Some 0 else None
quoted_length q (b ∷ c ∷ bs) = if b == q then (if c == q then option_map (λ n. 2 + n) (quoted_length q bs) else Some 0) else option_map (λ n. 1 + n) (quoted_length q (c ∷ bs))

-- the same bytes with one quote for two
unfoldable pub undoubled : ℕ → List ℕ → List ℕ
undoubled q [] = []
undoubled q (b ∷ []) = b ∷ []
undoubled q (b ∷ c ∷ bs) = if b == q && c == q then q ∷ undoubled q bs else b ∷ undoubled q (c ∷ bs)

-- the text in quotes, and the bytes after them
abbrev pub quoted_text : ℕ → List ℕ → Option (List ℕ × List ℕ)
quoted_text q bs = option_map (λ n. (undoubled q (take n bs), drop (n + 1) bs)) (quoted_length q bs)

abbrev pub quoted_token : (List ℕ → TokenTree) → ConditionSyntaxError → Option (List ℕ × List ℕ) → Result TokenAndRest ConditionSyntaxError
quoted_token make unclosed (Some quoted) = token_before (make quoted.0) quoted.1
quoted_token make unclosed None = Err unclosed

-- ---- numbers

-- the digits that the text begins with, and what follows them
abbrev pub split_digits : List ℕ → List ℕ × List ℕ
split_digits bs = (take (prefix_len is_ascii_digit bs) bs, drop (prefix_len is_ascii_digit bs) bs)

abbrev pub some_digits : List ℕ → List ℕ × List ℕ → List ℕ × List ℕ
some_digits bs split = if length split.0 == 0 then ([], bs) else split

abbrev pub fraction_after : List ℕ → Option (List ℕ) → List ℕ × List ℕ
fraction_after bs (Some rest) = some_digits bs (split_digits rest)
fraction_after bs None = ([], bs)

-- the digits after a decimal point; a point without digits is not part of the number
unfoldable pub split_fraction : List ℕ → List ℕ × List ℕ
split_fraction bs = fraction_after bs (after_prefix (codes ".") bs)

abbrev pub signed : Bool → ℕ → ℤ
signed negative n = if negative then neg_ℤ (pos n) else pos n

-- a number by its sign, its digits before the decimal point and its digits after it
abbrev pub number_of : Bool → List ℕ → List ℕ → LiteralTree
number_of negative whole fraction = decimal_number (signed negative (digits_value 10 (whole ++ fraction))) (length fraction)

abbrev pub number_token : ConditionSyntaxError → Bool → List ℕ → List ℕ × List ℕ → Result TokenAndRest ConditionSyntaxError
number_token too_long negative whole fraction =
    if nat_lt 38 (length whole + length fraction.0) then Err too_long
    else token_before (literal (number_of negative whole fraction.0)) fraction.1

abbrev pub number_after : ConditionSyntaxError → Bool → List ℕ × List ℕ → Result TokenAndRest ConditionSyntaxError
number_after too_long negative whole = number_token too_long negative whole.0 (split_fraction whole.1)

-- a number of at most 38 digits, after its sign
unfoldable pub read_number : ConditionSyntaxError → Bool → List ℕ → Result TokenAndRest ConditionSyntaxError
read_number too_long negative bs = number_after too_long negative (split_digits bs)

-- a text begins with a digit
abbrev pub starts_with_digit : List ℕ → Bool
starts_with_digit [] = false
starts_with_digit (b ∷ bs) = is_ascii_digit b

-- ---- names and keywords

abbrev pub is_name_byte : ℕ → Bool
is_name_byte b = is_ascii_alphanumeric b || b == 95

-- the text is this word in any case of letters
abbrev pub has_word : List ℕ → List ℕ → Bool
has_word word bs = bytes_eq (map to_ascii_lowercase bs) word

unfoldable pub word_token : List ℕ → TokenTree
word_token bs =
    if has_word (codes "and") bs then and_word
    else if has_word (codes "or") bs then or_word
    else if has_word (codes "not") bs then not_word
    else if has_word (codes "is") bs then is_word
    else if has_word (codes "null") bs then null_word
    else if has_word (codes "true") bs then literal (boolean true)
    else if has_word (codes "false") bs then literal (boolean false)
    else name bs

abbrev pub word_before : ConditionSyntaxError → List ℕ × List ℕ → Result TokenAndRest ConditionSyntaxError
word_before unexpected split = if length split.0 == 0 then Err unexpected else token_before (word_token split.0) split.1

-- letters, digits and underscores: a keyword or a name
unfoldable pub read_word : ConditionSyntaxError → List ℕ → Result TokenAndRest ConditionSyntaxError
read_word unexpected bs = word_before unexpected (take (prefix_len is_name_byte bs) bs, drop (prefix_len is_name_byte bs) bs)

-- ---- all tokens

abbrev pub number_or_word : ℕ → List ℕ → Option (List ℕ) → Result TokenAndRest ConditionSyntaxError
number_or_word len bs (Some digits) =
    if starts_with_digit digits then read_number (error_at len bs TooManyDigits) true digits
    else Err (error_at len bs UnexpectedCharacter)
number_or_word len bs None =
    if starts_with_digit bs then read_number (error_at len bs TooManyDigits) false bs
    else read_word (error_at len bs UnexpectedCharacter) bs

-- a minus sign belongs to a number
unfoldable pub read_number_or_word : ℕ → List ℕ → Result TokenAndRest ConditionSyntaxError
read_number_or_word len bs = number_or_word len bs (after_prefix (codes "-") bs)

abbrev pub or_quoted : (List ℕ → Result TokenAndRest ConditionSyntaxError) → Option (List ℕ) → Result TokenAndRest ConditionSyntaxError → Result TokenAndRest ConditionSyntaxError
or_quoted quoted (Some rest) others = quoted rest
or_quoted quoted None others = others

-- a name in double quotes, a string in single quotes, a number, a keyword or a name
unfoldable pub read_text_token : ℕ → List ℕ → Result TokenAndRest ConditionSyntaxError
read_text_token len bs =
    or_quoted (λ rest. quoted_token name (error_at len bs UnclosedName) (quoted_text 34 rest)) (after_prefix (codes "\"") bs)
    (or_quoted (λ rest. quoted_token (λ s. literal (text s)) (error_at len bs UnclosedString) (quoted_text 39 rest)) (after_prefix (codes "'") bs)
    (read_number_or_word len bs))

abbrev pub symbol_or_text : ℕ → List ℕ → Option TokenAndRest → Result TokenAndRest ConditionSyntaxError
symbol_or_text len bs (Some symbol) = token_before symbol.0 symbol.1
symbol_or_text len bs None = read_text_token len bs

-- the token that the text begins with; an error is at its first byte, of a text of that length
unfoldable pub read_token : ℕ → List ℕ → Result TokenAndRest ConditionSyntaxError
read_token len bs = if length bs == 0 then Ok (end_of_text, bs) else symbol_or_text len bs (first_symbol bs)
