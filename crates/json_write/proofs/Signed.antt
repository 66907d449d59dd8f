-- Signed numbers for `omega`, which reads `z` as `up z - down z`: division that rounds down, and the sets of lemmas to list.
use Rattle.std.proofs.Common.{◌≡◌, ℕ, ◌+◌, ◌*◌, ◌^◌, ◌<◌, ◌≤◌, ℤ, pos, negsuc, arith, FitsSigned, to_z, of_z, unsigned_abs}
use Rattle.std.specs.Int.{Width, int_div_euclid, int_rem_euclid}
use borrow.Author.Differences.{up, down, fits_out, same_out, Apart-out, lt_T, le_T, lt_not, le_not, lt-true, lt-false, le-true, le-false, true-lt, false-lt, true-le, false-le, not_negative_out, lt_out, le_out, fits_in, same_in, lt_in, le_in, below_in, at_most_in, not_negative_in, sum_is_lem, neg_is, product_is, back_is, small_is}
use mir.Val.{hbits}

pub unsigned_abs-parts : (z : ℤ) → unsigned_abs z ≡ up z + down z
unsigned_abs-parts (pos n) = omega arith
unsigned_abs-parts (negsuc n) = omega arith

-- the quotient `q` has `k * q ≤ a < k * q + k`
pub int_div_euclid-parts : (a : ℤ) (k : ℕ) → 0 < k → (up (int_div_euclid a (pos k)) * k + down a ≤ down (int_div_euclid a (pos k)) * k + up a) × (down (int_div_euclid a (pos k)) * k + up a < up (int_div_euclid a (pos k)) * k + down a + k)
int_div_euclid-parts (pos a) k h = omega arith
int_div_euclid-parts (negsuc a) k h = omega arith

-- and the remainder is what that leaves
pub int_rem_euclid-parts : (a : ℤ) (k : ℕ) → 0 < k → (up (int_rem_euclid a (pos k)) + up (int_div_euclid a (pos k)) * k + down a ≡ down (int_div_euclid a (pos k)) * k + up a) × (down (int_rem_euclid a (pos k)) ≡ 0) × (up (int_rem_euclid a (pos k)) < k)
int_rem_euclid-parts (pos a) k h = omega arith
int_rem_euclid-parts (negsuc a) k h = omega arith

pub fits_between : (w : Width) (z : ℤ) → (up z < down z + 2 ^ hbits w) × (down z ≤ up z + 2 ^ hbits w) → FitsSigned w z
fits_between w z h = fits_in w z (omega arith)

pub back_between : (w : Width) (z : ℤ) → up z < down z + 2 ^ hbits w → down z ≤ up z + 2 ^ hbits w → (up (to_z w (of_z w z)) ≡ up z) × (down (to_z w (of_z w z)) ≡ down z)
back_between w z h k = back_is w z (omega arith)

pub ruleset signed = (fits_out, same_out, Apart-out, lt_out, le_out, lt_T, le_T, lt_not, le_not, lt-true, lt-false, le-true, le-false, true-lt, false-lt, true-le, false-le, not_negative_out, fits_between, same_in, lt_in, le_in, below_in, at_most_in, not_negative_in, sum_is_lem, neg_is, product_is, unsigned_abs-parts, int_div_euclid-parts, int_rem_euclid-parts, back_between, small_is)
