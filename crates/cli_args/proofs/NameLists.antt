-- Lists of column names: the loop over them, and names without quotes.
use Rattle.std.proofs.Common.{◌≡◌, ℕ, zero, suc, ◌+◌, ◌≤◌, ◌<◌, Bool, true, false, cond, eqb, List, [], ◌∷◌, ◌++◌, length, drop, take, Option, Some, None, Result, Ok, Err, codes, refl, sym, ap, subst, ◌∙◌, inl, inr, append_assoc, append-nil, length-drop, le-ltb, lt-ltb, arith}
use Rattle.std.specs.Borrow.{Bor}
use Rattle.std.specs.Prelude.{IfSome, not, option_map}
use Rattle.std.specs.List.{All, after_first, before_first, position_or_len, prefix_len, slice_split}
use Rattle.std.proofs.lemmas.Bool.{cases_lt, eqb-true}
use Rattle.std.proofs.lemmas.List.Elements.{All-head, All-tail}
use Rattle.std.proofs.lemmas.List.Splits.{slice_split_first, slice_split_none}
use Rattle.std.proofs.lemmas.List.Sums.{fails_before_first}
use Rattle.cli_args.specs.ColumnNames.{FailsWith, first_name, is_comma, names_in, with_more, with_name}
use Rattle.cli_args.specs.ConditionTokens.{after_prefix}
use Rattle.cli_args.specs.declared.column_names.ColumnNamesError.{ColumnNamesError}
use Rattle.cli_args.specs.declared.column_names.ParseColumnNamesError.{ParseColumnNamesError}
use Rattle.cli_args.specs.declared.column_names.ParseColumnNamesError.TheVariants as errors

abbrev pub Names : Type 0
Names = Result (List (List ℕ)) ColumnNamesError

-- names before others
abbrev pub with_names : List (List ℕ) → Names → Names
with_names ns (Ok ms) = Ok (ns ++ ms)
with_names ns (Err e) = Err e

-- the bytes of what remains, and one for the comma before it
abbrev pub size : Option (List ℕ) → ℕ
size None = 0
size (Some bs) = suc (length bs)

-- the names so far and those of what remains are all names; n bounds the number of the latter
abbrev pub IsRead : ℕ → List (List ℕ) → Option (List ℕ) → Names → Type 0
IsRead len ns rest total = (n : ℕ) × (size rest ≤ n) × (with_names ns (names_in len n rest) ≡ total)

with-one : (ns : List (List ℕ)) (name : List ℕ) (r : Names) → with_names ns (with_name name r) ≡ with_names (ns ++ name ∷ []) r
with-one ns name (Ok ms) = ap (λ l. Ok l) (sym (append_assoc ns (name ∷ []) ms))
with-one ns name (Err e) = refl

pub read-first : (len : ℕ) (ns : List (List ℕ)) (bs name : List ℕ) (rest : Option (List ℕ)) (total : Names) → first_name len bs ≡ Ok (name, rest) → size rest ≤ length bs → IsRead len ns (Some bs) total → IsRead len (ns ++ name ∷ []) rest total
unfolding names_in
read-first len ns bs name rest total first less (zero, fits, is) = absurd (omega (arith, fits))
read-first len ns bs name rest total first less (suc n, fits, is) =
    let one : names_in len (suc n) (Some bs) ≡ with_name name (names_in len n rest) = ap (λ r. with_more r (names_in len n)) first in
    (n, omega (arith, fits, less), sym (with-one ns name (names_in len n rest)) ∙ ap (with_names ns) (sym one) ∙ is)

pub read-error : (len : ℕ) (ns : List (List ℕ)) (bs : List ℕ) (e : ColumnNamesError) (total : Names) → first_name len bs ≡ Err e → IsRead len ns (Some bs) total → total ≡ Err e
unfolding names_in
read-error len ns bs e total first (zero, fits, is) = absurd (omega (arith, fits))
read-error len ns bs e total first (suc n, fits, is) =
    let one : names_in len (suc n) (Some bs) ≡ Err e = ap (λ r. with_more r (names_in len n)) first in
    sym is ∙ ap (with_names ns) one

-- the same of an error that is not for lack of memory
pub read-fails : (len : ℕ) (ns : List (List ℕ)) (bs : List ℕ) (error : ParseColumnNamesError) (total : Names) → FailsWith error (first_name len bs) → IsRead len ns (Some bs) total → FailsWith error total
read-fails len ns bs (errors.Names e) total first so_far = read-error len ns bs e total first so_far
read-fails len ns bs errors.Memory total first so_far = tt

pub size-shorter : (o : Option (Bor (List ℕ))) (n : ℕ) → IfSome o (λ r. length r.now < n) → size (option_map (λ r. r.now) o) ≤ n
size-shorter None n h = omega arith
size-shorter (Some r) n h = omega (arith, h)

none-left : (len n : ℕ) → names_in len n None ≡ Ok []
unfolding names_in
none-left len zero = refl
none-left len (suc n) = refl

pub read-all : (len : ℕ) (ns : List (List ℕ)) (total : Names) → IsRead len ns None total → total ≡ Ok ns
read-all len ns total (n, fits, is) = sym is ∙ ap (with_names ns) (none-left len n) ∙ ap (λ l. Ok l) (append-nil ns)

-- ---- names without quotes

abbrev pub IsPlain : List ℕ → Type 0
IsPlain name = after_prefix (codes "\"") name ≡ None

-- a text whose first name begins with no quote begins with none
begins-plain : (bs : List ℕ) → IsPlain (before_first is_comma bs) → IsPlain bs
begins-plain [] h = refl
begins-plain (b ∷ bs) h =
    let P : Bool → Type 0 = λ v. eqb 34 b ≡ v → cond v (Some bs) None ≡ None in
    (elim (eqb 34 b) as P [
      | true ↦ λ e. let same : 34 ≡ b = eqb-true 34 b e in absurd (quoted b bs same h)
      | false ↦ λ e. refl
    ]) refl
  where
    quoted : (b : ℕ) (bs : List ℕ) → 34 ≡ b → IsPlain (before_first is_comma (b ∷ bs)) → ⊥
    quoted b bs e h =
        let p : ℕ → Bool = λ x. not (is_comma x) in
        let k : IsPlain (before_first is_comma (34 ∷ bs)) = subst (λ x. IsPlain (before_first is_comma (x ∷ bs))) (sym e) h in
        let one : 1 + prefix_len p bs ≡ suc (prefix_len p bs) = omega arith in
        let m : Some (take (prefix_len p bs) bs) ≡ None = subst (λ n. IsPlain (take n (34 ∷ bs))) one k in
        absurd cc

pub plain-names : (len n : ℕ) (bs : List ℕ) → length bs < n → All IsPlain (slice_split is_comma bs) → names_in len n (Some bs) ≡ Ok (slice_split is_comma bs)
unfolding names_in
plain-names len zero bs lt plain = absurd (omega (arith, lt))
plain-names len (suc n) bs lt plain = elim (cases_lt (position_or_len is_comma bs) (length bs)) [
  | inl more ↦
      let split = slice_split_first is_comma bs 0 more in
      let parts : All IsPlain (before_first is_comma bs ∷ slice_split is_comma (after_first is_comma bs)) = subst (All IsPlain) split plain in
      let head : IsPlain bs = begins-plain bs (All-head IsPlain (before_first is_comma bs) (slice_split is_comma (after_first is_comma bs)) parts) in
      let first : first_name len bs ≡ Ok (before_first is_comma bs, Some (after_first is_comma bs)) = rw (head, lt-ltb _ _ more) refl in
      let shorter : length (after_first is_comma bs) < n = omega (arith, lt, length-drop (position_or_len is_comma bs + 1) bs, more) in
      let rest = plain-names len n (after_first is_comma bs) shorter (All-tail IsPlain (before_first is_comma bs) (slice_split is_comma (after_first is_comma bs)) parts) in
      ap (λ r. with_more r (names_in len n)) first ∙ ap (with_name (before_first is_comma bs)) rest ∙ ap (λ l. Ok l) (sym split)
  | inr none ↦
      let split : slice_split is_comma bs ≡ bs ∷ [] = slice_split_none is_comma bs (no_comma bs none) in
      let parts : All IsPlain (bs ∷ []) = subst (All IsPlain) split plain in
      let head : IsPlain bs = All-head IsPlain bs [] parts in
      let first : first_name len bs ≡ Ok (bs, None) = rw (head, le-ltb _ _ none) refl in
      ap (λ r. with_more r (names_in len n)) first ∙ ap (with_name bs) (none-left len n) ∙ ap (λ l. Ok l) (sym split)
]
  where
    no_comma : (bs : List ℕ) → length bs ≤ position_or_len is_comma bs → All (λ b. is_comma b ≡ false) bs
    no_comma bs past k e m = fails_before_first is_comma bs k e (omega (arith, past, m))
