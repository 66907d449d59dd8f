-- What a proof unfolds to compute `parsed_condition` of a text that is written out.
use Rattle.std.specs.Prelude.{⊤}
use Rattle.cli_args.specs.ConditionParser.{read_and, read_closing, read_comparison, read_complete, read_is_not_null, read_is_null, read_joined, read_literal, read_negation, read_not, read_not_with, read_null, read_null_test, read_or, read_parenthesized, read_right, read_test}
use Rattle.cli_args.specs.ConditionTokens.{first_operator, first_symbol, quoted_length, read_number, read_number_or_word, read_text_token, read_token, read_word, split_fraction, undoubled, word_token}

unfoldable pub on_texts : ⊤
unfolding read_and read_closing read_comparison read_complete read_is_not_null read_is_null read_joined read_literal read_negation read_not read_not_with read_null read_null_test read_or read_parenthesized read_right read_test first_operator first_symbol quoted_length read_number read_number_or_word read_text_token read_token read_word split_fraction undoubled word_token
on_texts = tt
