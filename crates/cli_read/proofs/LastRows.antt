-- The last items of lists, and the last rows of arrays.
use Rattle.std.proofs.Common.{◌≡◌, ℕ, ◌+◌, ◌-◌, ◌≤◌, List, [], ◌∷◌, ◌++◌, length, map, drop, inl, inr, refl, sym, ap, ◌∙◌, arith, append_assoc, append-nil, length-append}
use Rattle.std.proofs.lemmas.List.{drop-drop, drop_all, length-drop, map-append, reverse-append, take_all}
use Rattle.std.proofs.lemmas.List.Concat.{flat_map-append}
use Rattle.std.proofs.lemmas.Bool.{cases_lt}
use Rattle.std.specs.List.{flat_map}
use Rattle.nest_model.specs.Layout.{Layout}
use Rattle.nest_model.specs.Meaning.{len, slots_of}
use Rattle.nest_model.specs.Slice.{IsSlice}
use Rattle.nest_array.specs.Seen.{layout_of}
use Rattle.nest_array.specs.declared.any.AnyArray.{AnyArray}
use Rattle.cli_rows.specs.RowLaws.{cut-map, drop-both, rows-length}
use Rattle.cli_rows.specs.Rows.{RowSlot, rows_of, rows_of_arrays}
use Rattle.cli_read.specs.Tails.{last}
use Rattle.cli_read.specs.TailSteps.{rows_reversed}

module _ {A : Type 0} where
  pub last-none : (xs : List A) → last 0 xs ≡ []
  last-none xs = drop_all (length xs - 0) xs (omega arith)

  pub last-all : (n : ℕ) (xs : List A) → length xs ≤ n → last n xs ≡ xs
  last-all n xs h = let none : length xs - n ≡ 0 = omega (arith, h) in ap (λ k. drop k xs) none

  drop-past : (n : ℕ) (xs ys : List A) → drop (length xs + length ys - n) xs ≡ last (n - length ys) xs
  drop-past n xs ys = elim (cases_lt n (length ys)) [
    | inl h ↦ drop_all (length xs + length ys - n) xs (omega (arith, h)) ∙ sym (drop_all (length xs - (n - length ys)) xs (omega (arith, h)))
    | inr h ↦ let same : length xs + length ys - n ≡ length xs - (n - length ys) = omega (arith, h) in ap (λ k. drop k xs) same
  ]

  -- the last items of two lists
  pub last-both : (n : ℕ) (xs ys : List A) → last n (xs ++ ys) ≡ last (n - length ys) xs ++ last n ys
  last-both n xs ys =
      let long = length-append xs ys in
      let behind : length xs + length ys - n - length xs ≡ length ys - n = omega arith in
      ap (λ k. drop (k - n) (xs ++ ys)) long
      ∙ drop-both (length xs + length ys - n) xs ys
      ∙ ap (λ k. drop (length xs + length ys - n) xs ++ drop k ys) behind
      ∙ ap (λ l. l ++ last n ys) (drop-past n xs ys)

  -- the last of the last ones
  pub last-twice : (m n : ℕ) (xs : List A) → m ≤ n → last m (last n xs) ≡ last m xs
  last-twice m n xs h =
      let long = length-drop (length xs - n) xs in
      let same : length xs - n + (length xs - (length xs - n) - m) ≡ length xs - m = omega (arith, h) in
      ap (λ k. drop (k - m) (drop (length xs - n) xs)) long
      ∙ drop-drop (length xs - (length xs - n) - m) (length xs - n) xs
      ∙ ap (λ k. drop k xs) same

  -- lists with the same last items, before others
  pub last-before : (n : ℕ) (xs ys zs : List A) → last n xs ≡ last n ys → last n (xs ++ zs) ≡ last n (ys ++ zs)
  last-before n xs ys zs e =
      let fewer : n - length zs ≤ n = omega arith in
      last-both n xs zs
      ∙ ap (λ l. l ++ last n zs) (sym (last-twice (n - length zs) n xs fewer) ∙ ap (last (n - length zs)) e ∙ last-twice (n - length zs) n ys fewer)
      ∙ sym (last-both n ys zs)

  -- enough items are at the end
  pub last-enough : (n : ℕ) (xs ys : List A) → n ≤ length ys → last n (xs ++ ys) ≡ last n ys
  last-enough n xs ys h =
      let none : n - length ys ≡ 0 = omega (arith, h) in
      last-both n xs ys ∙ ap (λ k. last k xs ++ last n ys) none ∙ ap (λ l. l ++ last n ys) (last-none xs)

-- ---- arrays

-- a slice up to the end of an array has its last rows
pub rows-of-slice : (a b : Layout) (n o many : ℕ) → IsSlice a o many b → o ≡ len a - n → len a ≤ o + many → rows_of b ≡ last n (rows_of a)
rows-of-slice a b n o many s is all =
    let long = rows-length a in
    let start : o ≡ length (rows_of a) - n = is ∙ ap (λ k. k - n) (sym long) in
    let rest : length (drop o (rows_of a)) ≤ many = omega (arith, all, length-drop o (rows_of a), long) in
    ap (λ t. map (λ x. (t, x)) (slots_of b)) s.same_type
    ∙ ap (map _) s.slots
    ∙ sym (cut-map _ (slots_of a) o many)
    ∙ take_all many (drop o (rows_of a)) rest
    ∙ ap (λ k. drop k (rows_of a)) start

abbrev rows_at : AnyArray → List RowSlot
rows_at a = rows_of (layout_of a)

pub rows-both : (xs ys : List AnyArray) → rows_of_arrays (xs ++ ys) ≡ rows_of_arrays xs ++ rows_of_arrays ys
rows-both xs ys = ap (flat_map rows_of) (map-append layout_of xs ys) ∙ flat_map-append rows_of (map layout_of xs) (map layout_of ys)

pub rows-one : (xs : List AnyArray) (y : AnyArray) → rows_of_arrays (xs ++ y ∷ []) ≡ rows_of_arrays xs ++ rows_of (layout_of y)
rows-one xs y = rows-both xs (y ∷ []) ∙ ap (λ l. rows_of_arrays xs ++ l) (append-nil (rows_of (layout_of y)))

pub no-arrays : (xs : List AnyArray) → length xs ≡ 0 → rows_of_arrays xs ≡ []
no-arrays [] h = refl
no-arrays (x ∷ xs) h = absurd (omega (arith, h))

-- an array added to others in reverse order is the first
pub reversed-one : (xs : List AnyArray) (y : AnyArray) → rows_reversed (xs ++ y ∷ []) ≡ rows_of (layout_of y) ++ rows_reversed xs
reversed-one xs y = ap rows_of_arrays (reverse-append xs (y ∷ []))

-- ---- steps from the last array back

-- the last rows of these arrays are the last rows of the arrays left, and then those found
abbrev pub IsFound : ℕ → List RowSlot → List RowSlot → ℕ → List RowSlot → Type 0
IsFound n all left missing found = last n all ≡ last missing left ++ found

pub found-none : (n : ℕ) (all : List RowSlot) → IsFound n all all n []
found-none n all = sym (append-nil (last n all))

pub found-more : (n : ℕ) (all left before one : List RowSlot) (missing still : ℕ) (found more : List RowSlot) → IsFound n all left missing found → left ≡ before ++ one → still ≡ missing - length one → more ≡ last missing one ++ found
    → IsFound n all before still more
found-more n all left before one missing still found more h is fewer new =
    h
    ∙ ap (λ l. last missing l ++ found) is
    ∙ ap (λ l. l ++ found) (last-both missing before one ∙ ap (λ k. last k before ++ last missing one) (sym fewer))
    ∙ append_assoc (last still before) (last missing one) found
    ∙ ap (λ l. last still before ++ l) (sym new)

pub found-all : (n : ℕ) (all left : List RowSlot) (missing : ℕ) (found : List RowSlot) → IsFound n all left missing found → missing ≡ 0 → found ≡ last n all
found-all n all left missing found h none = sym (h ∙ ap (λ k. last k left ++ found) none ∙ ap (λ l. l ++ found) (last-none left))

pub found-end : (n : ℕ) (all left : List RowSlot) (missing : ℕ) (found : List RowSlot) → IsFound n all left missing found → left ≡ [] → found ≡ last n all
found-end n all left missing found h none = sym (h ∙ ap (λ l. last missing l ++ found) none ∙ ap (λ l. l ++ found) (last-all missing [] (omega arith)))
