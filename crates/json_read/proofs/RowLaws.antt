-- One line more.
use Rattle.std.proofs.Common.{◌≡◌, ◌∙◌, ℕ, zero, suc, ◌+◌, ◌-◌, ◌<◌, ◌≤◌, List, [], ◌∷◌, ◌++◌, length, take, drop, true, false, eqb, cond, Ok, Err, refl, ap, sym, subst, arith, append_assoc, append-nil, inl, inr}
use Rattle.std.proofs.Math.Seq.{take-add}
use Rattle.std.proofs.lemmas.Bool.{cases_lt}
use Rattle.std.proofs.lemmas.List.{length-append, take-append-drop, take_all, drop_all}
use Rattle.std.specs.List.{onto_first}
use Rattle.nest_model.specs.Slot.{Slot}
use Rattle.json_read.specs.LineRows.{LineFailure, LineRow, Rows, rows_from, prepend_row, prepend_slot}
use Rattle.json_read.specs.LineSplit.{AreFirstLines, EndsLines, lines_of}

-- ---- rows

pub record Taken (r : LineRow) (rest : Rows) (ss : List Slot) : Type 0 where
  pub first : Slot
  pub others : List Slot
  pub row : r ≡ Ok first
  pub after : rest ≡ Ok others
  pub all : ss ≡ first ∷ others

pub taken : (r : LineRow) (above : ℕ) (rest : Rows) (ss : List Slot) → prepend_row r above rest ≡ Ok ss → Taken r rest ss
taken (Ok s) above (Ok others) ss h = let e : s ∷ others ≡ ss = cc in record { first = s; others = others; row = refl; after = refl; all = sym e }
taken (Ok s) above (Err f) ss h = cc
taken (Err e) above rest ss h = cc

pub rows-grow : (row : List ℕ → LineRow) (above : ℕ) (lines : List (List ℕ)) (line : List ℕ) (ss : List Slot) (s : Slot) → rows_from row above lines ≡ Ok ss → row line ≡ Ok s → rows_from row above (lines ++ line ∷ []) ≡ Ok (ss ++ s ∷ [])
rows-grow row above [] line ss s h e =
    let none : [] ≡ ss = cc in
    ap (λ (r : LineRow). prepend_row r above (Ok [])) e ∙ ap (λ (l : List Slot). Ok (l ++ s ∷ [])) none
rows-grow row above (x ∷ lines) line ss s h e =
    let t = taken _ above _ ss h in
    ap (λ (r : LineRow). prepend_row r above (rows_from row (above + 1) (lines ++ line ∷ []))) t.row ∙ ap (prepend_slot t.first) (rows-grow row (above + 1) lines line t.others s t.after e)
    ∙ ap (λ (l : List Slot). Ok (l ++ s ∷ [])) (sym t.all)

rows-stop : (row : List ℕ → LineRow) (above : ℕ) (lines : List (List ℕ)) (line : List ℕ) (more : List (List ℕ)) (ss : List Slot) (e : LineFailure)
    → rows_from row above lines ≡ Ok ss → row line ≡ Err e → rows_from row above (lines ++ line ∷ more) ≡ Err (above + length lines, e)
rows-stop row above [] line more ss e h bad = ap (λ (r : LineRow). prepend_row r above (rows_from row (above + 1) more)) bad ∙ (let z : above ≡ above + 0 = omega arith in ap (λ k. Err (k, e)) z)
rows-stop row above (x ∷ lines) line more ss e h bad =
    let t = taken _ above _ ss h in
    let n : above + 1 + length lines ≡ above + length (x ∷ lines) = omega arith in
    ap (λ (r : LineRow). prepend_row r above (rows_from row (above + 1) (lines ++ line ∷ more))) t.row ∙ ap (prepend_slot t.first) (rows-stop row (above + 1) lines line more t.others e t.after bad) ∙ ap (λ k. Err (k, e)) n

-- ---- lines

-- so many bytes of what is left are a line, with which no line ends that follows
pub record IsLine (rest line : List ℕ) (n : ℕ) : Type 0 where
  pub one : lines_of (take n rest) ≡ line ∷ []
  pub ends : n < length rest → EndsLines (take n rest)
  pub within : n ≤ length rest

ends-both : (a b : List ℕ) → EndsLines a → EndsLines b → EndsLines (a ++ b)
ends-both a b ha hb more =
    ap lines_of (append_assoc a b more) ∙ ha (b ++ more) ∙ ap (λ (ls : List (List ℕ)). lines_of a ++ ls) (hb more)
    ∙ sym (append_assoc (lines_of a) (lines_of b) (lines_of more)) ∙ ap (λ (ls : List (List ℕ)). ls ++ lines_of more) (sym (ha b))

record After (rest line : List ℕ) : Type 0 where
  more : List (List ℕ)
  split : lines_of rest ≡ line ∷ more

after : (rest line : List ℕ) (n : ℕ) → IsLine rest line n → n < length rest → After rest line
after rest line n is lt = record {
  more = lines_of (drop n rest);
  split = ap lines_of (sym (take-append-drop n rest)) ∙ is.ends lt (drop n rest) ∙ ap (λ (ls : List (List ℕ)). ls ++ lines_of (drop n rest)) is.one;
}

after-last : (rest line : List ℕ) (n : ℕ) → IsLine rest line n → length rest ≤ n → After rest line
after-last rest line n is all = record { more = []; split = ap lines_of (sym (take_all n rest all)) ∙ is.one }

take-past : (xs : List (List ℕ)) (l : List ℕ) (ys : List (List ℕ)) (limit : ℕ) → length xs < limit → (zs : List (List ℕ)) × (take limit (xs ++ l ∷ ys) ≡ xs ++ l ∷ zs)
take-past [] l ys zero lt = absurd (omega arith)
take-past [] l ys (suc limit) lt = (take limit ys, refl)
take-past (x ∷ xs) l ys zero lt = absurd (omega arith)
take-past (x ∷ xs) l ys (suc limit) lt = let rest = take-past xs l ys limit (omega arith) in (rest.0, ap (λ (zs : List (List ℕ)). x ∷ zs) rest.1)

-- ---- the loop over lines

-- what was taken of a text: its first lines, and what they are
pub record Read (row : List ℕ → LineRow) (text : List ℕ) (limit used count : ℕ) (ss : List Slot) : Type 0 where
  pub within : used ≤ length text
  pub ends : used < length text → EndsLines (take used text)
  pub counted : length (lines_of (take used text)) ≡ count
  pub few : count ≤ limit
  pub rows : rows_from row 0 (lines_of (take used text)) ≡ Ok ss

pub read-none : (row : List ℕ → LineRow) (text : List ℕ) (limit : ℕ) → Read row text limit 0 0 []
read-none row text limit = record { within = omega arith; ends = λ lt more. refl; counted = refl; few = omega arith; rows = refl }

module _ (row : List ℕ → LineRow) (text line : List ℕ) (limit used count n : ℕ) (ss : List Slot) (read : Read row text limit used count ss) (open_ : used < length text) (is : IsLine (drop used text) line n) (length-left : length (drop used text) ≡ length text - used) where
  two : take (used + n) text ≡ take used text ++ take n (drop used text)
  two = take-add used n text

  more-lines : lines_of (take (used + n) text) ≡ lines_of (take used text) ++ line ∷ []
  more-lines = ap lines_of two ∙ read.ends open_ (take n (drop used text)) ∙ ap (λ (ls : List (List ℕ)). lines_of (take used text) ++ ls) is.one

  pub read-more : (s : Slot) → count < limit → row line ≡ Ok s → Read row text limit (used + n) (count + 1) (ss ++ s ∷ [])
  read-more s few good = record {
    within = omega (arith, is.within, read.within, length-left);
    ends = λ lt. subst EndsLines (sym two) (ends-both (take used text) (take n (drop used text)) (read.ends open_) (is.ends (omega (arith, length-left))));
    counted = ap length more-lines ∙ length-append (lines_of (take used text)) (line ∷ []) ∙ ap (λ k. k + 1) read.counted;
    few = omega arith;
    rows = ap (rows_from row 0) more-lines ∙ rows-grow row 0 (lines_of (take used text)) line ss s read.rows good;
  }

  stop-at : (a : After (drop used text) line) (e : LineFailure) → count < limit → row line ≡ Err e → rows_from row 0 (take limit (lines_of text)) ≡ Err (count, e)
  stop-at a e few bad =
      let fs = lines_of (take used text) in
      let complete : lines_of text ≡ fs ++ line ∷ a.more = ap lines_of (sym (take-append-drop used text)) ∙ read.ends open_ (drop used text) ∙ ap (λ (ls : List (List ℕ)). fs ++ ls) a.split in
      let past = take-past fs line a.more limit (omega (arith, read.counted)) in
      let at : 0 + length fs ≡ count = omega (arith, read.counted) in
      ap (λ (ls : List (List ℕ)). rows_from row 0 (take limit ls)) complete
      ∙ ap (rows_from row 0) past.1
      ∙ rows-stop row 0 fs line past.0 ss e read.rows bad
      ∙ ap (λ k. Err (k, e)) at

  pub read-stop : (e : LineFailure) → count < limit → row line ≡ Err e → rows_from row 0 (take limit (lines_of text)) ≡ Err (count, e)
  read-stop e few bad = elim (cases_lt n (length (drop used text))) [ inl lt ↦ stop-at (after _ _ n is lt) e few bad | inr le ↦ stop-at (after-last _ _ n is le) e few bad ]

-- where the loop ends
rest-apart : (text : List ℕ) (used : ℕ) → (used < length text → EndsLines (take used text)) → lines_of text ≡ lines_of (take used text) ++ lines_of (drop used text)
rest-apart text used ends = elim (cases_lt used (length text)) [
  | inl lt ↦ ap lines_of (sym (take-append-drop used text)) ∙ ends lt (drop used text)
  | inr le ↦ sym (append-nil (lines_of text)) ∙ (λ i. lines_of (sym (take_all used text le) i) ++ lines_of (sym (drop_all used text le) i))
]

pub read-end : (row : List ℕ → LineRow) (text : List ℕ) (limit used count : ℕ) (ss : List Slot) → Read row text limit used count ss → (count < limit → used ≡ length text) → AreFirstLines text limit used count
read-end row text limit used count ss read done = record { within = read.within; rest = rest-apart text used read.ends; counted = read.counted; few = read.few; complete = done }

-- ---- all lines

onto_first-length : (b : ℕ) (ls : List (List ℕ)) → length (onto_first b ls) ≤ suc (length ls)
onto_first-length b [] = omega arith
onto_first-length b (l ∷ ls) = omega arith

pub few-lines : (text : List ℕ) → length (lines_of text) ≤ length text
few-lines [] = omega arith
few-lines (b ∷ bs) = let less = few-lines bs in elim (eqb b 10) as (λ c. length (cond c ([] ∷ lines_of bs) (onto_first b (lines_of bs))) ≤ suc (length bs)) [
  | true ↦ omega arith
  | false ↦ omega (arith, onto_first-length b (lines_of bs))
]
