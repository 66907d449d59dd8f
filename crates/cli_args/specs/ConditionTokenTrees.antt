-- The model of `Token`.
use Rattle.cli_args.specs.Conditions.{text, boolean}
use Rattle.cli_args.specs.NumberLiterals.{decimal_number}
use Rattle.cli_args.specs.ConditionTokens.{TokenTree, and_word, or_word, not_word, is_word, null_word, name, literal, operator, opening, closing, end_of_text, undoubled}
use Rattle.cli_args.specs.declared.condition_token.Token.{Token}
use Rattle.cli_args.specs.declared.condition_token.Token.TheVariants as tokens

abbrev pub token_tree : Token → TokenTree
token_tree tokens.And = and_word
token_tree tokens.Or = or_word
token_tree tokens.Not = not_word
token_tree tokens.Is = is_word
token_tree tokens.Null = null_word
token_tree (tokens.Name s) = name s.now
token_tree (tokens.QuotedName raw) = name (undoubled 34 raw.now)
token_tree (tokens.Text raw) = literal (text (undoubled 39 raw.now))
token_tree (tokens.Number value scale) = literal (decimal_number value scale)
token_tree (tokens.Boolean b) = literal (boolean b)
token_tree (tokens.Operator comparison) = operator comparison
token_tree tokens.Opening = opening
token_tree tokens.Closing = closing
token_tree tokens.End = end_of_text
