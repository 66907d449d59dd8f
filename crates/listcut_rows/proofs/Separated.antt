-- Parts between separators, and lines, one after another.
use Rattle.std.proofs.Common.{◌≡◌, ℕ, ◌+◌, ◌<◌, Bool, false, eqb, List, [], ◌∷◌, ◌++◌, length, Option, Some, None, refl, sym, ap, ◌∙◌, arith, option_map, append_assoc, All, length-append}
use Rattle.std.specs.Prelude.{MatchOption}
use Rattle.std.specs.Borrow.{Bor}
use Rattle.std.specs.List.{slice_split, onto_first, AllByRecursion}
use Rattle.std.proofs.lemmas.List.Splits.{slice_split_none, slice_split_at}
use Rattle.std.proofs.lemmas.Bool.{eq-eqb, cond-false}
use Rattle.listcut_rows.specs.Grammar.{lines_of}

-- ---- parts between separators

abbrev pub is_byte : ℕ → ℕ → Bool
is_byte separator b = eqb b separator

-- the parts of the remaining bytes, if any
abbrev pub pieces_left : ℕ → Option (Bor (List ℕ)) → List (List ℕ)
pieces_left separator None = []
pieces_left separator (Some rest) = slice_split (is_byte separator) rest.now

abbrev pub size_left : Option (Bor (List ℕ)) → ℕ
size_left None = 0
size_left (Some rest) = length rest.now + 1

pub next_piece : (separator : ℕ) (bytes first : List ℕ) (after : Option (Bor (List ℕ))) → All (λ b. eqb b separator ≡ false) first → MatchOption after (bytes ≡ first) (λ rest. bytes ≡ first ++ separator ∷ rest.now)
    → slice_split (is_byte separator) bytes ≡ first ∷ pieces_left separator after
next_piece separator bytes first None before whole = ap (slice_split (is_byte separator)) whole ∙ slice_split_none (is_byte separator) first before
next_piece separator bytes first (Some rest) before whole = ap (slice_split (is_byte separator)) whole ∙ slice_split_at (is_byte separator) first separator rest.now before (eq-eqb separator separator refl)

pub less_left : (separator : ℕ) (bytes first : List ℕ) (after : Option (Bor (List ℕ))) → MatchOption after (bytes ≡ first) (λ rest. bytes ≡ first ++ separator ∷ rest.now) → size_left after < length bytes + 1
less_left separator bytes first None whole = omega arith
less_left separator bytes first (Some rest) whole = omega (arith, ap length whole, length-append first (separator ∷ rest.now))

-- ---- all values, in order

abbrev pub with_front : {X : Type 0} → List X → Option (List X) → Option (List X)
with_front front others = option_map (λ xs. front ++ xs) others

pub with_no_front : {X : Type 0} (others : Option (List X)) → with_front [] others ≡ others
with_no_front None = refl
with_no_front (Some xs) = refl

pub front_grows : {X : Type 0} (front : List X) (x : X) (others : Option (List X)) → with_front front (option_map (λ xs. x ∷ xs) others) ≡ with_front (front ++ x ∷ []) others
front_grows front x None = refl
front_grows front x (Some xs) = ap (λ l. Some l) (sym (append_assoc front (x ∷ []) xs))

-- ---- lines

pub line_at : (line rest : List ℕ) → AllByRecursion (λ b. eqb b 10 ≡ false) line → lines_of (line ++ 10 ∷ rest) ≡ line ∷ lines_of rest
line_at [] rest h = refl
line_at (b ∷ bs) rest h = cond-false (eqb b 10) _ _ h.0 ∙ ap (onto_first b) (line_at bs rest h.1)

pub line_alone : (b : ℕ) (bs : List ℕ) → AllByRecursion (λ x. eqb x 10 ≡ false) (b ∷ bs) → lines_of (b ∷ bs) ≡ (b ∷ bs) ∷ []
line_alone b [] h = cond-false (eqb b 10) _ _ h.0
line_alone b (x ∷ xs) h = cond-false (eqb b 10) _ _ h.0 ∙ ap (onto_first b) (line_alone x xs h.1)
