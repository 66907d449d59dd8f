-- The days of months, and the months of days.
use Rattle.std.proofs.Common.{◌≡◌, ℕ, zero, suc, ◌+◌, ◌-◌, ◌*◌, ◌/◌, ◌%◌, ◌<◌, ◌≤◌, ◌⊎◌, inl, inr, Bool, true, false, cond, nat_le, refl, sym, ap, ◌∙◌, arith}
use Rattle.std.proofs.lemmas.Bool.Decides.{nat_tests}
use Rattle.json_write.specs.Calendar.{days_in_month, days_of_months, last_up_to, month_of}
use Rattle.json_write.specs.March.{march_months}

at_end : (j k : ℕ) → j ≤ suc k → (j ≤ k) ⊎ (j ≡ suc k)
at_end j k h = grind arith

-- the last number that passes the test
pub last_is : (p : ℕ → Bool) (k j : ℕ) → j ≤ k → p j ≡ true → ((i : ℕ) → j < i → i ≤ k → p i ≡ false) → last_up_to p k ≡ j
last_is p zero j le here above = omega arith
last_is p (suc k) j le here above =
    elim (at_end j k le) [
      | inl before ↦ rw (above (suc k) (omega arith) (omega arith)) (last_is p k j before here (λ i low high. above i low (omega arith)))
      | inr same ↦ let e : p (suc k) ≡ true = ap p (sym same) ∙ here in rw e (sym same)
    ]

-- 1 in a leap year
abbrev pub extra : Bool → ℕ
extra leap = cond leap 1 0

pub days_of_months-next : (leap : Bool) (m : ℕ) → 1 ≤ m → days_of_months leap m ≡ days_of_months leap (m - 1) + days_in_month leap m
unfolding days_of_months
days_of_months-next leap zero h = absurd (omega arith)
days_of_months-next leap (suc m) h = let back : suc m - 1 ≡ m = omega arith in rw back

pub days_of_months-all : (leap : Bool) → days_of_months leap 12 ≡ 365 + extra leap
unfolding days_of_months
days_of_months-all true = refl
days_of_months-all false = refl

pub days_of_months-none : (leap : Bool) → days_of_months leap 0 ≡ 0
unfolding days_of_months
days_of_months-none leap = refl

-- January and February, at the end of a year that begins in March
pub days_of_months-early : (leap : Bool) (m : ℕ) → 1 ≤ m → m ≤ 2 → days_of_months leap (m - 1) + 306 ≡ march_months (m + 12)
unfolding days_of_months
days_of_months-early leap zero low high = absurd (omega arith)
days_of_months-early leap (suc zero) low high = refl
days_of_months-early leap (suc (suc zero)) low high = refl
days_of_months-early leap (suc (suc (suc n))) low high = absurd (omega arith)

from_march : (leap : Bool) (k : ℕ) → k < 10 → days_of_months leap (suc (suc k)) ≡ march_months (k + 3) + 59 + extra leap
unfolding days_of_months
from_march true zero h = refl
from_march true (suc zero) h = refl
from_march true (suc (suc zero)) h = refl
from_march true (suc (suc (suc zero))) h = refl
from_march true (suc (suc (suc (suc zero)))) h = refl
from_march true (suc (suc (suc (suc (suc zero))))) h = refl
from_march true (suc (suc (suc (suc (suc (suc zero)))))) h = refl
from_march true (suc (suc (suc (suc (suc (suc (suc zero))))))) h = refl
from_march true (suc (suc (suc (suc (suc (suc (suc (suc zero)))))))) h = refl
from_march true (suc (suc (suc (suc (suc (suc (suc (suc (suc zero))))))))) h = refl
from_march true (suc (suc (suc (suc (suc (suc (suc (suc (suc (suc n)))))))))) h = absurd (omega arith)
from_march false zero h = refl
from_march false (suc zero) h = refl
from_march false (suc (suc zero)) h = refl
from_march false (suc (suc (suc zero))) h = refl
from_march false (suc (suc (suc (suc zero)))) h = refl
from_march false (suc (suc (suc (suc (suc zero))))) h = refl
from_march false (suc (suc (suc (suc (suc (suc zero)))))) h = refl
from_march false (suc (suc (suc (suc (suc (suc (suc zero))))))) h = refl
from_march false (suc (suc (suc (suc (suc (suc (suc (suc zero)))))))) h = refl
from_march false (suc (suc (suc (suc (suc (suc (suc (suc (suc zero))))))))) h = refl
from_march false (suc (suc (suc (suc (suc (suc (suc (suc (suc (suc n)))))))))) h = absurd (omega arith)

-- the months from March on
pub days_of_months-late : (leap : Bool) (m : ℕ) → 3 ≤ m → m ≤ 12 → days_of_months leap (m - 1) ≡ march_months m + 59 + extra leap
days_of_months-late leap m low high =
    let before : m - 1 ≡ suc (suc (m - 3)) = omega arith in
    let same : m - 3 + 3 ≡ m = omega arith in
    rw before (rw same at (from_march leap (m - 3) (omega arith)))

more_months : (leap : Bool) (m k : ℕ) → days_of_months leap m ≤ days_of_months leap (k + m)
more_months leap m zero = let same : 0 + m ≡ m = omega arith in rw same (omega arith)
more_months leap m (suc k) =
    let back : suc k + m - 1 ≡ k + m = omega arith in
    omega (arith, more_months leap m k, rw back at (days_of_months-next leap (suc k + m) (omega arith)))

pub days_of_months-mono : (leap : Bool) (m later : ℕ) → m ≤ later → days_of_months leap m ≤ days_of_months leap later
days_of_months-mono leap m later h =
    let same : later - m + m ≡ later = omega arith in
    rw same at (more_months leap m (later - m))

-- a day of a year that begins in March, as a month from 3 to 14 and a day of that month
pub month_and_day : (n : ℕ) → n < 366 → march_months ((5 * n + 461) / 153) + (5 * n + 461) % 153 / 5 ≡ n
month_and_day n h = omega arith

-- from March to December the month has that day
pub day_in_month : (leap : Bool) (n : ℕ) → (5 * n + 461) / 153 ≤ 12 → (5 * n + 461) % 153 / 5 + 1 ≤ days_in_month leap ((5 * n + 461) / 153)
day_in_month leap n h = grind (arith, nat_tests)

-- January has it too, and February if the year has that many days
pub day_in_early_month : (leap : Bool) (n : ℕ) → 12 < (5 * n + 461) / 153 → n < 365 + extra leap → (5 * n + 461) % 153 / 5 + 1 ≤ days_in_month leap ((5 * n + 461) / 153 - 12)
day_in_early_month leap n h k = grind (arith, nat_tests)

starts_by : (leap : Bool) (day m : ℕ) → days_of_months leap m ≤ day → nat_le (days_of_months leap m) day ≡ true
starts_by leap day m h = grind (arith, nat_tests)

starts_after : (leap : Bool) (day m : ℕ) → day < days_of_months leap m → nat_le (days_of_months leap m) day ≡ false
starts_after leap day m h = grind (arith, nat_tests)

-- the month of a day is the one that has it
pub month_is : (leap : Bool) (m day : ℕ) → 1 ≤ m → m ≤ 12 → days_of_months leap (m - 1) ≤ day → day < days_of_months leap m → month_of leap day ≡ m
unfolding month_of
month_is leap m day low high from to =
    let back : suc (m - 1) ≡ m = omega arith in
    ap suc (last_is (λ i. nat_le (days_of_months leap i) day) 11 (m - 1) (omega arith) (starts_by leap day (m - 1) from)
    (λ i before after. starts_after leap day i (omega (arith, days_of_months-mono leap m i (omega arith)))))
    ∙ back
