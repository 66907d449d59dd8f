use Rattle.std.proofs.Common.{◌≡◌, ℕ, ◌+◌, ◌-◌, ◌<◌, ◌≤◌, List, ◌++◌, length, get_or, refl, sym, arith, length-append}
use Rattle.std.proofs.lemmas.List.{get_or_append_left, get_or-append_right}
use Rattle.std.specs.Char.{digit_value}
use Rattle.std.specs.Str.Parse.{AllDigits}
use Rattle.fast_float.proofs.DigitsLemmas.{is_digit}
use Rattle.std.proofs.lemmas.Str.Parse.{digit_at}
use Rattle.json_read.proofs.half_numbers.digit_at.Goals as goal

-- a byte of the digits is a digit
digit : (ds : List ℕ) (at x : ℕ) → AllDigits 10 ds → at < length ds → x ≡ get_or ds at 0 → (48 ≤ x) × (x - 48 ≡ digit_value (get_or ds at 0)) × (x - 48 < 10)
digit ds at x h l e = let r = digit_at ds at h l in let v = (is_digit _ r.0 r.1).1 in (omega arith, omega (arith, v), omega arith)

first : (xs ys : List ℕ) (at : ℕ) → AllDigits 10 (xs ++ ys) → at < length xs → (48 ≤ get_or xs at 0) × (get_or xs at 0 - 48 ≡ digit_value (get_or (xs ++ ys) at 0)) × (get_or xs at 0 - 48 < 10)
first xs ys at h l = digit (xs ++ ys) at _ h (omega (arith, length-append xs ys)) (sym (get_or_append_left xs ys 0 at l))

second : (xs ys : List ℕ) (at : ℕ) → AllDigits 10 (xs ++ ys) → length xs ≤ at → at < length xs + length ys
    → (48 ≤ get_or ys (at - length xs) 0) × (get_or ys (at - length xs) 0 - 48 ≡ digit_value (get_or (xs ++ ys) at 0)) × (get_or ys (at - length xs) 0 - 48 < 10)
second xs ys at h m l = digit (xs ++ ys) at _ h (omega (arith, length-append xs ys)) (sym (get_or-append_right xs ys (length xs) at 0 refl m))

pub overflow_sub-result : goal.overflow_sub-result
overflow_sub-result c = (first c.args.whole.now c.args.fraction.now c.args.at c.requires.digits (omega arith)).0

pub overflow_sub-result-else-at-whole-2 : goal.overflow_sub-result-else-at-whole-2
overflow_sub-result-else-at-whole-2 c = (second c.args.whole.now c.args.fraction.now c.args.at c.requires.digits (omega arith) (omega arith)).0

pub returns-then-at-whole : goal.returns-then-at-whole
returns-then-at-whole c = let d = first c.args.whole.now c.args.fraction.now c.args.at c.requires.digits (omega arith) in record { value = d.1; small = d.2 }

pub returns-else-at-whole : goal.returns-else-at-whole
returns-else-at-whole c = let d = second c.args.whole.now c.args.fraction.now c.args.at c.requires.digits (omega arith) (omega arith) in record { value = d.1; small = d.2 }
