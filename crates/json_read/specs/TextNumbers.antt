-- The numbers of a native value from its text: those that have this text.
use Rattle.std.specs.Prelude.{ℕ, zero, suc, ◌^◌, ℤ, pos, neg_ℤ, ◌+ℤ◌, unsigned_abs, Bool, true, false, nat_lt, bytes_eq, List, [], ◌∷◌, Option, Some, None, if◌then◌else◌}
use Rattle.std.specs.Option.{option_map}
use Rattle.json_write.specs.Decimals.{decimal_text}
use Rattle.json_write.specs.Integers256.{of_halves}
use Rattle.json_write.specs.Formats.{text_of_numbers, numbers_count}
use Rattle.json_write.specs.declared.format.ValueFormat.{ValueFormat}
use Rattle.json_write.specs.declared.format.ValueFormat.TheVariants.{Decimal, Decimal256}

abbrev pub first_found : Option (List ℤ) → Option (List ℤ) → Option (List ℤ)
first_found None rest = rest
first_found (Some zs) rest = Some zs

-- the first result for `n` integers from `z` on
unfoldable pub first_result : (ℤ → Option (List ℤ)) → ℤ → ℕ → Option (List ℤ)
first_result f z zero = None
first_result f z (suc n) = first_found (f z) (first_result f (z +ℤ pos 1) n)

-- the first `k` integers from -2^128 to below 2^128 that pass the test
abbrev pub numbers_that : ℕ → (List ℤ → Bool) → Option (List ℤ)
numbers_that zero p = if p [] then Some [] else None
numbers_that (suc k) p = first_result (λ z. option_map (λ zs. z ∷ zs) (numbers_that k (λ zs. p (z ∷ zs)))) (neg_ℤ (pos (2 ^ 128))) (2 ^ 129)

abbrev pub has_text : Option (List ℕ) → List ℕ → Bool
has_text None s = false
has_text (Some text) s = bytes_eq text s

-- the numbers of the value with this text
unfoldable pub numbers_of_text : ValueFormat → List ℕ → Option (List ℤ)
numbers_of_text v s = numbers_that (numbers_count v) (λ zs. has_text (text_of_numbers v zs) s)

-- a decimal has at most so many digits
abbrev pub is_within_precision : ValueFormat → List ℤ → Bool
is_within_precision (Decimal precision scale) (z ∷ []) = nat_lt (unsigned_abs z) (10 ^ precision)
is_within_precision (Decimal256 precision scale) (high ∷ low ∷ []) = nat_lt (unsigned_abs (of_halves high low)) (10 ^ precision)
is_within_precision v zs = true

-- the text of a decimal that is not negative
abbrev pub unsigned_decimal_text : ℕ → ℕ → List ℕ
unsigned_decimal_text scale n = decimal_text scale (pos n)
