-- Text as lines, cut after one of them.
use Rattle.std.proofs.Common.{◌≡◌, ◌∙◌, ℕ, zero, suc, ◌+◌, ◌<◌, Bool, true, false, eqb, List, [], ◌∷◌, ◌++◌, length, take, refl, ap, sym, arith, append-nil}
use Rattle.std.specs.Prelude.{slice_index}
use Rattle.std.specs.List.{onto_first}
use Rattle.memchr.specs.Find.{Nowhere, Passes, is_byte}
use Rattle.std.proofs.lemmas.List.{take_all}
use Rattle.std.proofs.lemmas.Bool.{cond-true, cond-false}
use Rattle.json_read.specs.LineSplit.{EndsLines, lines_of}

-- no line feed below that place
abbrev pub NoFeed : List ℕ → ℕ → Type 0
NoFeed text n = (k : ℕ) → k < n → eqb (slice_index text k) 10 ≡ false

-- a line with its feed
with-feed : (text more : List ℕ) (n : ℕ) → n < length text → NoFeed text n → eqb (slice_index text n) 10 ≡ true → lines_of (take (suc n) text ++ more) ≡ take n text ∷ lines_of more
with-feed [] more n lt none feed = absurd (omega arith)
with-feed (b ∷ bs) more zero lt none feed = cond-true (eqb b 10) _ _ feed
with-feed (b ∷ bs) more (suc n) lt none feed =
    cond-false (eqb b 10) _ _ (none 0 (omega arith)) ∙ ap (onto_first b) (with-feed bs more n (omega arith) (λ k h. none (suc k) (omega arith)) feed)

-- a line without one
without-feed : (b : ℕ) (bs : List ℕ) → NoFeed (b ∷ bs) (suc (length bs)) → lines_of (b ∷ bs) ≡ (b ∷ bs) ∷ []
without-feed b [] none = cond-false (eqb b 10) _ _ (none 0 (omega arith))
without-feed b (x ∷ xs) none = cond-false (eqb b 10) _ _ (none 0 (omega arith)) ∙ ap (onto_first b) (without-feed x xs (λ k h. none (suc k) (omega arith)))

is-none : (b : Bool) → ¬ (b ≡ true) → b ≡ false
is-none true = λ no. absurd (no refl)
is-none false = λ no. refl

pub no-feed : (text : List ℕ) (n : ℕ) → Nowhere (Passes (is_byte 10) text) 0 n → NoFeed text n
no-feed text n none k lt = is-none _ (none k (omega arith) lt)

pub feed-line : (text : List ℕ) (n : ℕ) → n < length text → NoFeed text n → eqb (slice_index text n) 10 ≡ true → lines_of (take (n + 1) text) ≡ take n text ∷ []
feed-line text n lt none feed =
    let one : n + 1 ≡ suc n = omega arith in
    ap (λ k. lines_of (take k text)) one ∙ ap lines_of (sym (append-nil (take (suc n) text))) ∙ with-feed text [] n lt none feed

pub feed-ends : (text : List ℕ) (n : ℕ) → n < length text → NoFeed text n → eqb (slice_index text n) 10 ≡ true → EndsLines (take (n + 1) text)
feed-ends text n lt none feed more =
    let one : n + 1 ≡ suc n = omega arith in
    ap (λ k. lines_of (take k text ++ more)) one ∙ with-feed text more n lt none feed ∙ ap (λ (ls : List (List ℕ)). ls ++ lines_of more) (sym (feed-line text n lt none feed))

pub last-line : (text : List ℕ) → 0 < length text → NoFeed text (length text) → lines_of (take (length text) text) ≡ take (length text) text ∷ []
last-line [] lt none = absurd (omega arith)
last-line (b ∷ bs) lt none =
    let all = take_all (length (b ∷ bs)) (b ∷ bs) (omega arith) in
    ap lines_of all ∙ without-feed b bs none ∙ ap (λ (l : List ℕ). l ∷ []) (sym all)
