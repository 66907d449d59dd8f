-- Integers in JSON (RFC 8259, section 6): a number without fraction and exponent is digits after an optional minus.
use Rattle.std.specs.Prelude.{ℕ, ℤ, pos, neg_ℤ, List, [], ◌∷◌, Bool, false, ◌==◌, Option, Some, None, if◌then◌else◌}
use Rattle.std.specs.List.{list_all}
use Rattle.std.specs.Char.{is_ascii_digit}
use Rattle.std.specs.Str.Parse.{digits_value}

-- one digit or more
abbrev pub are_decimal_digits : List ℕ → Bool
are_decimal_digits [] = false
are_decimal_digits (c ∷ cs) = list_all is_ascii_digit (c ∷ cs)

-- the integer, if the number is one
abbrev pub integer_of : List ℕ → Option ℤ
integer_of [] = None
integer_of (c ∷ cs) = if c == 45
    then (if are_decimal_digits cs then Some (neg_ℤ (pos (digits_value 10 cs))) else None)
    else (if are_decimal_digits (c ∷ cs) then Some (pos (digits_value 10 (c ∷ cs))) else None)
