-- The high and the low halves of decimals of 256 bits in worked examples, as Arrow C++ stores them.
use Rattle.std.specs.Prelude.{List, [], ◌∷◌, ℤ, negsuc, pos}

-- 12345..67890 12345, of 76 digits
abbrev pub halves_of_digits : List ℤ
halves_of_digits = pos 3628068951366785029352481634746183932 ∷ pos 98730458594047848209239609727044598464 ∷ []

-- the least number of 76 digits
abbrev pub halves_of_the_least : List ℤ
halves_of_the_least = negsuc 29387358770557187699218413430556141945 ∷ pos 181493370963361119677159889420079333377 ∷ []

abbrev pub halves_of_minus_five : List ℤ
halves_of_minus_five = negsuc 0 ∷ pos 340282366920938463463374607431768211451 ∷ []
