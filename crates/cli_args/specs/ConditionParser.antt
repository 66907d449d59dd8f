-- The grammar of conditions:
--
--     or   := and ['or' or]
--     and  := not ['and' and]
--     not  := 'not' not | '(' or ')' | column [operator literal | 'is' ['not'] 'null']
--
-- Each `or`, `and` and `not` is a level. The readers parse from left to right, and return the first error.
use Rattle.std.specs.Prelude.{ℕ, zero, suc, ◌-◌, Bool, true, false, List, length, Result, Ok, Err, if◌then◌else◌}
use Rattle.cli_args.specs.Columns.{ColumnTree, named}
use Rattle.cli_args.specs.ConditionResults.{◌>>=◌, error_at}
use Rattle.cli_args.specs.ConditionTokens.{TokenTree, TokenAndRest, and_word, or_word, not_word, is_word, null_word, name, literal, operator, opening, closing, end_of_text, read_token, without_space}
use Rattle.cli_args.specs.Conditions.{LiteralTree, ConditionTree, is_true, is_null, compare, negation, both, either}
use Rattle.cli_args.specs.declared.condition.Comparison.{Comparison}
use Rattle.cli_args.specs.declared.condition_error.ConditionSyntaxError.{ConditionSyntaxError}
use Rattle.cli_args.specs.declared.condition_error.SyntaxErrorKind.TheVariants.{ColumnExpected, EndExpected, LiteralExpected, NullExpected, ParenthesisExpected, TooDeep}

-- a reader's results
abbrev pub Read : Type 0 → Type 0
Read A = Result (A × List ℕ) ConditionSyntaxError

-- ---- a column's test

-- a literal by its token, which these bytes begin with
abbrev pub literal_of : ℕ → List ℕ → TokenAndRest → Read LiteralTree
literal_of len bs (literal l, rest) = Ok (l, rest)
literal_of len bs (t, rest) = Err (error_at len bs LiteralExpected)

unfoldable pub read_literal : ℕ → List ℕ → Read LiteralTree
read_literal len bs = read_token len bs >>= literal_of len bs

unfoldable pub read_comparison : ℕ → ColumnTree → ℕ → Comparison → List ℕ → Read ConditionTree
read_comparison len column position comparison bs = do
  l ← read_literal len bs
  Ok (compare column position comparison l.0, l.1)

abbrev pub null_of : ℕ → List ℕ → TokenAndRest → Result (List ℕ) ConditionSyntaxError
null_of len bs (null_word, rest) = Ok rest
null_of len bs (t, rest) = Err (error_at len bs NullExpected)

-- the bytes after `null`
unfoldable pub read_null : ℕ → List ℕ → Result (List ℕ) ConditionSyntaxError
read_null len bs = read_token len bs >>= null_of len bs

abbrev pub is_not : TokenTree → Bool
is_not not_word = true
is_not t = false

unfoldable pub read_is_null : ℕ → ColumnTree → ℕ → List ℕ → Read ConditionTree
read_is_null len column position bs = do
  rest ← read_null len bs
  Ok (is_null column position, rest)

unfoldable pub read_is_not_null : ℕ → ColumnTree → ℕ → List ℕ → Read ConditionTree
read_is_not_null len column position bs = do
  rest ← read_null len bs
  Ok (negation (is_null column position), rest)

abbrev pub null_test : ℕ → ColumnTree → ℕ → List ℕ → TokenAndRest → Read ConditionTree
null_test len column position bs next =
    if is_not next.0 then read_is_not_null len column position next.1 else read_is_null len column position bs

-- what follows `is`
unfoldable pub read_null_test : ℕ → ColumnTree → ℕ → List ℕ → Read ConditionTree
read_null_test len column position bs = read_token len bs >>= null_test len column position bs

-- a column's test by the token after the column's name
abbrev pub test_of : ℕ → ColumnTree → ℕ → List ℕ → TokenAndRest → Read ConditionTree
test_of len column position bs (operator comparison, rest) = read_comparison len column position comparison rest
test_of len column position bs (is_word, rest) = read_null_test len column position rest
test_of len column position bs (t, rest) = Ok (is_true column position, bs)

unfoldable pub read_test : ℕ → ColumnTree → ℕ → List ℕ → Read ConditionTree
read_test len column position bs = read_token len bs >>= test_of len column position bs

-- ---- conditions

abbrev pub ConditionReader : Type 0
ConditionReader = List ℕ → Read ConditionTree

abbrev pub closing_of : ℕ → List ℕ → TokenAndRest → Result (List ℕ) ConditionSyntaxError
closing_of len bs (closing, rest) = Ok rest
closing_of len bs (t, rest) = Err (error_at len bs ParenthesisExpected)

-- the bytes after a closing parenthesis
unfoldable pub read_closing : ℕ → List ℕ → Result (List ℕ) ConditionSyntaxError
read_closing len bs = read_token len bs >>= closing_of len bs

unfoldable pub read_parenthesized : ℕ → ConditionReader → List ℕ → Read ConditionTree
read_parenthesized len inner bs = do
  c ← inner bs
  rest ← read_closing len c.1
  Ok (c.0, rest)

unfoldable pub read_negation : ConditionReader → List ℕ → Read ConditionTree
read_negation inner bs = do
  c ← inner bs
  Ok (negation c.0, c.1)

-- a `not` by its first token, which these bytes begin with
abbrev pub not_of : ℕ → ConditionReader → ConditionReader → List ℕ → TokenAndRest → Read ConditionTree
not_of len nots ors bs (not_word, rest) = read_negation nots rest
not_of len nots ors bs (opening, rest) = read_parenthesized len ors rest
not_of len nots ors bs (name column, rest) = read_test len (named column) (len - length bs) rest
not_of len nots ors bs (t, rest) = Err (error_at len bs ColumnExpected)

abbrev pub is_and : TokenTree → Bool
is_and and_word = true
is_and t = false

abbrev pub is_or : TokenTree → Bool
is_or or_word = true
is_or t = false

abbrev pub Join : Type 0
Join = ConditionTree → ConditionTree → ConditionTree

unfoldable pub read_right : Join → ConditionReader → ConditionTree → List ℕ → Read ConditionTree
read_right join others left bs = do
  right ← others bs
  Ok (join left right.0, right.1)

-- a condition alone, or with the one after this connective
abbrev pub joined_by : (TokenTree → Bool) → Join → ConditionReader → ConditionTree × List ℕ → TokenAndRest → Read ConditionTree
joined_by is_connective join others left next = if is_connective next.0 then read_right join others left.0 next.1 else Ok left

unfoldable pub read_joined : ℕ → (TokenTree → Bool) → Join → ConditionReader → ConditionReader → List ℕ → Read ConditionTree
read_joined len is_connective join first others bs = do
  left ← first bs
  next ← read_token len left.1
  joined_by is_connective join others left next

unfoldable pub read_not_with : ℕ → ConditionReader → ConditionReader → List ℕ → Read ConditionTree
read_not_with len nots ors bs = read_token len bs >>= not_of len nots ors bs

unfoldable mutual
  pub read_or : ℕ → ℕ → List ℕ → Read ConditionTree
  read_or len zero bs = Err (error_at len bs TooDeep)
  read_or len (suc levels) bs = read_joined len is_or either (read_and len levels) (read_or len levels) bs

  pub read_and : ℕ → ℕ → List ℕ → Read ConditionTree
  read_and len zero bs = Err (error_at len bs TooDeep)
  read_and len (suc levels) bs = read_joined len is_and both (read_not len levels) (read_and len levels) bs

  pub read_not : ℕ → ℕ → List ℕ → Read ConditionTree
  read_not len zero bs = Err (error_at len bs TooDeep)
  read_not len (suc levels) bs = read_not_with len (read_not len levels) (read_or len levels) bs

-- ---- the whole text

abbrev pub is_end : TokenTree → Bool
is_end end_of_text = true
is_end t = false

abbrev pub end_of : ℕ → ConditionTree × List ℕ → TokenAndRest → Result ConditionTree ConditionSyntaxError
end_of len c next = if is_end next.0 then Ok c.0 else Err (error_at len c.1 EndExpected)

-- a condition of at most so many levels that nothing follows
unfoldable pub read_complete : ℕ → ℕ → List ℕ → Result ConditionTree ConditionSyntaxError
read_complete len levels bs = do
  c ← read_or len levels bs
  next ← read_token len c.1
  end_of len c next

-- the condition that a text is, or the first error; it has at most 1000 levels
abbrev pub parsed_condition : List ℕ → Result ConditionTree ConditionSyntaxError
parsed_condition bs = read_complete (length bs) 1000 (without_space bs)
