use Rattle.std.specs.Prelude.{codes}
use Rattle.std.proofs.Common.{◌≡◌, [], ◌∷◌, ◌++◌, List, ℕ, lit≤, Some, refl, sym, ap, arith}
use Rattle.json_write.specs.Digits.{last_digits, number_text}
use Rattle.json_write.proofs.ReadingFacts.{number_from_digits}
use Rattle.json_write.proofs.value_text.decimal_laws.some_texts_of_halves.Goals as goal

-- the digits of large numbers are too deep a computation for the checker, their last digits are not
whole : number_text 12345678901234567890123456789012345678901234567890123456789012345678901 ≡ codes "12345678901234567890123456789012345678901234567890123456789012345678901"
unfolding last_digits
whole = sym (number_from_digits (codes "12345678901234567890123456789012345678901234567890123456789012345678901") 12345678901234567890123456789012345678901234567890123456789012345678901 (lit≤ tt) (lit≤ tt) refl (λ e. absurd (omega (arith, e))))

least : number_text 9999999999999999999999999999999999999999999999999999999999999999999999999999 ≡ codes "9999999999999999999999999999999999999999999999999999999999999999999999999999"
unfolding last_digits
least = sym (number_from_digits (codes "9999999999999999999999999999999999999999999999999999999999999999999999999999") 9999999999999999999999999999999999999999999999999999999999999999999999999999 (lit≤ tt) (lit≤ tt) refl (λ e. absurd (omega (arith, e))))

pub returns-clause-digits : goal.returns-clause-digits
unfolding last_digits
returns-clause-digits c = ap (λ (ds : List ℕ). Some (ds ++ codes ".23456")) whole

pub returns-clause-least : goal.returns-clause-least
unfolding last_digits
returns-clause-least c = ap (λ (ds : List ℕ). Some (45 ∷ (ds ++ []))) least

pub returns-clause-fraction : goal.returns-clause-fraction
unfolding last_digits number_text
returns-clause-fraction c = refl
