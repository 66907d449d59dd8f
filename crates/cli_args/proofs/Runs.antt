-- Bytes that pass a test, at the front of a text.
use Rattle.std.proofs.Common.{◌≡◌, ℕ, zero, suc, ◌+◌, ◌≤◌, ◌<◌, Bool, true, false, cond, leb, List, [], ◌∷◌, length, get_or, take, refl, arith}
use Rattle.std.specs.Char.{digit_value, is_ascii_digit}
use Rattle.std.specs.List.{prefix_len}
use Rattle.std.specs.Str.{IsCharBoundary, IsUtf8}
use Rattle.std.specs.Str.Parse.{AllDigits}
use Rattle.std.proofs.lemmas.Bool.{and_parts, leb-true}
use Rattle.std.proofs.lemmas.Bool.Decides.{nat_tests}
use Rattle.std.proofs.lemmas.Str.{digit_value_digit, IsCharBoundary-start, IsCharBoundary-after_ascii}
use Rattle.cli_args.specs.ConditionTokens.{is_name_byte}

-- the test passes ASCII alone
abbrev pub PassesAscii : (ℕ → Bool) → Type 0
PassesAscii p = (b : ℕ) → p b ≡ true → b < 128

digit-below : (b : ℕ) → is_ascii_digit b ≡ true → (48 ≤ b) × (b ≤ 57)
digit-below b e = let p = and_parts (leb 48 b) (leb b 57) e in (leb-true 48 b p.0, leb-true b 57 p.1)

digit-value : (b : ℕ) → is_ascii_digit b ≡ true → digit_value b < 10
digit-value b e = let p = digit-below b e in let q = digit_value_digit b (p.0, p.1) in omega (arith, p.0, p.1, q)

pub digit-ascii : PassesAscii is_ascii_digit
digit-ascii b e = let p = digit-below b e in omega (arith, p.1)

pub name-ascii : PassesAscii is_name_byte
name-ascii b e = grind (arith, nat_tests)

-- the digits that a text begins with
pub digits-run : (bs : List ℕ) → AllDigits 10 (take (prefix_len is_ascii_digit bs) bs)
digits-run [] = tt
digits-run (b ∷ bs) =
    let P : Bool → Type 0 = λ v. is_ascii_digit b ≡ v → AllDigits 10 (take (cond v (1 + prefix_len is_ascii_digit bs) 0) (b ∷ bs)) in
    let k : 1 + prefix_len is_ascii_digit bs ≡ suc (prefix_len is_ascii_digit bs) = omega arith in
    (elim (is_ascii_digit b) as P [
      | true ↦ λ e. rw k (digit-value b e, digits-run bs)
      | false ↦ λ e. tt
    ]) refl

at-or-later : (b n : ℕ) (bs : List ℕ) (m : ℕ) → b < 128 → m < 1 + n → ((k : ℕ) → k < n → (k < length bs) × (get_or bs k 0 < 128)) → (m < length (b ∷ bs)) × (get_or (b ∷ bs) m 0 < 128)
at-or-later b n bs zero low lt later = (omega arith, low)
at-or-later b n bs (suc m) low lt later = let p = later m (omega arith) in (omega (arith, p.0), p.1)

run-at : (p : ℕ → Bool) → PassesAscii p → (bs : List ℕ) (m : ℕ) → m < prefix_len p bs → (m < length bs) × (get_or bs m 0 < 128)
run-at p low [] m h = absurd (omega arith)
run-at p low (b ∷ bs) m h =
    let P : Bool → Type 0 = λ v. p b ≡ v → m < cond v (1 + prefix_len p bs) 0 → (m < length (b ∷ bs)) × (get_or (b ∷ bs) m 0 < 128) in
    (elim (p b) as P [
      | true ↦ λ e lt. at-or-later b (prefix_len p bs) bs m (low b e) lt (run-at p low bs)
      | false ↦ λ e lt. absurd (omega arith)
    ]) refl h

-- the end of such bytes is a character boundary
pub run-ends : (p : ℕ → Bool) → PassesAscii p → (bs : List ℕ) (n : ℕ) → IsUtf8 bs → n ≡ prefix_len p bs → IsCharBoundary bs n
run-ends p low bs zero u e = IsCharBoundary-start bs u
run-ends p low bs (suc m) u e =
    let q = run-at p low bs m (omega arith) in
    let k : m + 1 ≡ suc m = omega arith in
    rw (← k) (IsCharBoundary-after_ascii bs m u q.0 q.1)
