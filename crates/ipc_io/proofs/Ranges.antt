-- Reading a range of bytes, piece by piece.
use Rattle.std.proofs.Common.{◌≡◌, ℕ, ◌+◌, ◌-◌, List, [], ◌++◌, take, drop, Option, Some, None, Result, Ok, Err, refl, sym, ap, ◌∙◌, append_assoc, subst, arith}
use Rattle.std.proofs.lemmas.List.{append-nil, take-take, take-append-drop, drop-take, drop-drop}
use Rattle.std.specs.Option.{option_map}
use Rattle.std.specs.Io.KnownBytes.{Keeps}
use Rattle.ipc_io.specs.Seeks.{ReadsThere, IsAt, IsReadTo, IsPart}

abbrev pub Standing : Type 0
Standing = Option (ℕ × List ℕ)

abbrev pub bytes_of : Standing → Option (List ℕ)
bytes_of s = option_map (λ x. x.1) s

pub kept_on : (a b c : Option (List ℕ)) → Keeps a b → Keeps b c → Keeps a c
kept_on None b c h k = tt
kept_on (Some xs) None c h k = absurd h
kept_on (Some xs) (Some ys) None h k = absurd k
kept_on (Some xs) (Some ys) (Some zs) h k = k ∙ h

-- the known bytes of a reader are kept
abbrev pub Stays : Standing → Standing → Type 0
Stays None new = Unit {0}
Stays (Some old) new = new ≡ Some old

pub stays_same : (s : Standing) → Stays s s
stays_same None = tt
stays_same (Some old) = refl

pub stays_read : {E : Type 0} (old mid new : Standing) (result : Result ℕ E) (piece : List ℕ) → Stays old mid → ReadsThere mid new result piece → ReadsThere old new result piece
stays_read None mid new result piece stays read = tt
stays_read (Some old) mid new result piece stays read = subst (λ (s : Standing). ReadsThere s new result piece) stays read

pub stays_err : {E : Type 0} (old new : Standing) (e : E) (piece : List ℕ) → Stays old new → ReadsThere old new (Err e) piece
stays_err None new e piece stays = tt
stays_err (Some old) new e piece stays = stays

pub stays_on : {E : Type 0} (old mid new : Standing) (e : E) (piece : List ℕ) → Stays old mid → ReadsThere mid new (Err e) piece → Stays old new
stays_on None mid new e piece stays read = tt
stays_on (Some old) mid new e piece stays read = subst (λ (s : Standing). ReadsThere s new (Err e) piece) stays read

pub kept_same : (a : Option (List ℕ)) → Keeps a a
kept_same None = tt
kept_same (Some xs) = refl

take-more : (m n : ℕ) (xs : List ℕ) → take m xs ++ take n (drop m xs) ≡ take (m + n) xs
take-more m n xs =
    let both : take m (take (m + n) xs) ++ drop m (take (m + n) xs) ≡ take m xs ++ take n (drop m xs) = rw (take-take m (m + n) xs (omega arith), drop-take m n xs) refl in
    sym both ∙ take-append-drop m (take (m + n) xs)

pub starts_there : (old : Standing) (before : List ℕ) (n : ℕ) → IsReadTo old old before before (n - n)
starts_there None before n = tt
starts_there (Some old) before n =
    let none : n - n ≡ 0 = omega arith in
    let here : old.0 ≡ old.0 + (n - n) = omega (arith, none) in
    let nothing : take (n - n) (drop old.0 old.1) ≡ [] = ap (λ (m : ℕ). take m (drop old.0 old.1)) none in
    (ap (λ (m : ℕ). Some (m, old.1)) here, sym (ap (λ (x : List ℕ). before ++ x) nothing ∙ append-nil before))

-- bytes that were appended to others
pub reads_on : (old mid new : Standing) (before buf after : List ℕ) (n k m : ℕ) → IsReadTo old mid before buf n → IsReadTo mid new buf after k → m ≡ n + k → IsReadTo old new before after m
reads_on None mid new before buf after n k m so_far read sum = tt
reads_on (Some old) mid new before buf after n k m so_far read sum =
    let there : IsReadTo (Some (old.0 + n, old.1)) new buf after k = subst (λ (s : Standing). IsReadTo s new buf after k) so_far.0 read in
    let left : List ℕ = drop old.0 old.1 in
    let behind : old.0 + n + k ≡ old.0 + m = omega (arith, sum) in (
      there.0 ∙ ap (λ (x : ℕ). Some (x, old.1)) behind,
      there.1
          ∙ ap (λ (x : List ℕ). x ++ take k (drop (old.0 + n) old.1)) so_far.1
          ∙ append_assoc before (take n left) (take k (drop (old.0 + n) old.1))
          ∙ ap (λ (x : List ℕ). before ++ (take n left ++ take k x)) (sym (drop-drop n old.0 old.1))
          ∙ ap (λ (x : List ℕ). before ++ x) (take-more n k left ∙ ap (λ (x : ℕ). take x left) (sym sum)),
    )

-- a piece that was read, and kept
pub piece_read : (E : Type 0) (old new : Standing) (buf after piece : List ℕ) (n : ℕ) → ReadsThere {E = E} old new (Ok n) piece → after ≡ buf ++ take n piece → IsReadTo old new buf after n
piece_read E None new buf after piece n read is = tt
piece_read E (Some old) new buf after piece n read is = (read.0, is ∙ ap (λ (x : List ℕ). buf ++ x) read.1)

pub piece_kept : {E : Type 0} (old new : Standing) (result : Result ℕ E) (piece : List ℕ) → ReadsThere old new result piece → Keeps (bytes_of old) (bytes_of new)
piece_kept None new result piece read = tt
piece_kept (Some old) new (Ok n) piece read = rw read.0 refl
piece_kept (Some old) new (Err e) piece read = rw read refl

pub kept_there : (old new : Standing) (before after : List ℕ) (n : ℕ) → IsReadTo old new before after n → Keeps (bytes_of old) (bytes_of new)
kept_there None new before after n is = tt
kept_there (Some old) new before after n is = rw is.0 refl

pub part_is : (old mid new : Standing) (position want : ℕ) (before after : List ℕ) → before ≡ [] → IsAt old mid position → IsReadTo mid new before after want → IsPart (bytes_of old) position want after
part_is None mid new position want before after none there read = tt
part_is (Some old) mid new position want before after none there read =
    let from : IsReadTo (Some (position, old.1)) new before after want = subst (λ (s : Standing). IsReadTo s new before after want) there read in
    from.1 ∙ ap (λ (x : List ℕ). x ++ take want (drop position old.1)) none
