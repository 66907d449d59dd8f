-- Two readers that are read in step.
use Rattle.std.proofs.Common.{◌≡◌, ℕ, ◌+◌, ◌≤◌, List, ◌++◌, length, take, drop, Option, Some, None, refl, sym, ap, ◌∙◌, arith}
use Rattle.std.proofs.lemmas.List.{take-take, take-append-drop, drop-take, take_all}
use Rattle.std.proofs.lemmas.Option.{same_Some}
use Rattle.std.specs.Option.{option_map}
use Rattle.std.specs.Io.KnownBytes.{Keeps}
use Rattle.ipc_io.specs.Seeks.{IsAt}
use Rattle.cli_read.specs.EqualBytes.{HaveEqualBytes, ReadsEqualBytes}

abbrev pub Standing : Type 0
Standing = Option (ℕ × List ℕ)

abbrev pub bytes_of : Standing → Option (List ℕ)
bytes_of s = option_map (λ x. x.1) s

pub kept_on : (a b c : Option (List ℕ)) → Keeps a b → Keeps b c → Keeps a c
kept_on None b c h k = tt
kept_on (Some xs) None c h k = absurd h
kept_on (Some xs) (Some ys) None h k = absurd k
kept_on (Some xs) (Some ys) (Some zs) h k = k ∙ h

abbrev pub AreBehind : Option (List ℕ) → Option (List ℕ) → Standing → Standing → Type 0
AreBehind known_left known_right left right =
    (xs ys : List ℕ) → known_left ≡ Some xs → known_right ≡ Some ys → (n : ℕ) × (left ≡ Some (n, xs)) × (right ≡ Some (n, ys)) × (take n xs ≡ take n ys)

at-start : (old new : Standing) (xs : List ℕ) → IsAt old new 0 → bytes_of old ≡ Some xs → new ≡ Some (0, xs)
at-start None new xs at e = absurd cc
at-start (Some old) new xs at e = at ∙ ap (λ (zs : List ℕ). Some (0, zs)) (same_Some _ _ e)

pub behind-start : (a b left right : Standing) → IsAt a left 0 → IsAt b right 0 → AreBehind (bytes_of a) (bytes_of b) left right
behind-start a b left right at bt xs ys e f = (0, at-start a left xs at e, at-start b right ys bt f, refl)

take-more : (m n : ℕ) (xs : List ℕ) → take m xs ++ take n (drop m xs) ≡ take (m + n) xs
take-more m n xs =
    let both : take m (take (m + n) xs) ++ drop m (take (m + n) xs) ≡ take m xs ++ take n (drop m xs) = rw (take-take m (m + n) xs (omega arith), drop-take m n xs) refl in
    sym both ∙ take-append-drop m (take (m + n) xs)

pub behind-more : (a b : Option (List ℕ)) (left right l r : Standing) (m : ℕ) → AreBehind a b left right
    → ((n : ℕ) (xs ys : List ℕ) → left ≡ Some (n, xs) → right ≡ Some (n, ys) → ReadsEqualBytes xs ys n (Some m) l r) → AreBehind a b l r
behind-more a b left right l r m behind reads xs ys e f =
    let (n, at, bt, same) = behind xs ys e f in
    let more = reads n xs ys at bt in (
      n + m,
      more.0,
      more.1,
      sym (take-more n m xs) ∙ ap (λ (zs : List ℕ). zs ++ take m (drop n xs)) same ∙ ap (λ (zs : List ℕ). take n ys ++ zs) more.2 ∙ take-more n m ys,
    )

all-alike : (n : ℕ) (xs ys : List ℕ) → take n xs ≡ take n ys → length xs ≤ n → length ys ≤ n → xs ≡ ys
all-alike n xs ys e x y = sym (take_all n xs x) ∙ e ∙ take_all n ys y

pub behind-end : (a b : Option (List ℕ)) (left right l r : Standing) → AreBehind a b left right
    → ((n : ℕ) (xs ys : List ℕ) → left ≡ Some (n, xs) → right ≡ Some (n, ys) → ReadsEqualBytes xs ys n (Some 0) l r) → HaveEqualBytes a b
behind-end None b left right l r behind reads = tt
behind-end (Some xs) None left right l r behind reads = tt
behind-end (Some xs) (Some ys) left right l r behind reads =
    let (n, at, bt, same) = behind xs ys refl refl in
    let more = reads n xs ys at bt in
    let ends = more.3 refl in
    all-alike n xs ys same ends.0 ends.1
