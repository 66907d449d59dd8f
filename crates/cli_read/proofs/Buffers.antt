-- Buffered rows.
use Rattle.std.proofs.Common.{◌≡◌, inl, ℕ, ◌+◌, ◌-◌, ◌<◌, ◌≤◌, List, [], ◌∷◌, ◌++◌, length, take, drop, Some, refl, ap, subst, ◌∙◌, arith, length-drop, take-append-drop}
use Rattle.std.proofs.lemmas.List.{length-take}
use Rattle.nest_model.specs.Layout.{Layout}
use Rattle.nest_model.specs.Meaning.{len}
use Rattle.nest_array.specs.WindowParts.{WindowParts, window_parts}
use Rattle.cli_rows.specs.RowLaws.{rows-length, window-rows}
use Rattle.cli_rows.specs.Difference.{IsDifference}
use Rattle.cli_rows.specs.Rows.{RowSlot, rows_in, rows_of}
use Rattle.cli_read.specs.RowBuffers.{ComparesBuffers}
use Rattle.cli_read.specs.declared.comparison.inputs.Comparison.TheVariants.{Decided}
use Rattle.cli_read.proofs.Lists.{differ-whole}

pub left-length : (a : Layout) (from : ℕ) → length (drop from (rows_of a)) ≡ len a - from
left-length a from = length-drop from (rows_of a) ∙ ap (λ n. n - from) (rows-length a)

pub window-left : (a : Layout) (from n : ℕ) (w : WindowParts) → w ≡ window_parts a from n → rows_in w ≡ take n (drop from (rows_of a))
window-left a from n w e = ap rows_in e ∙ window-rows a from n

pub nothing : {A : Type 0} (xs : List A) → length xs ≡ 0 → xs ≡ []
nothing [] e = refl
nothing (x ∷ xs) e = absurd (omega (arith, e))

pub no-rows : (from : ℕ) (a : Layout) (n : ℕ) → n ≡ len a → n ≤ from → drop from (rows_of a) ≡ []
no-rows from a n is h = let l = left-length a from in nothing (drop from (rows_of a)) (omega (arith, l, h, is))

pub some-rows : (from : ℕ) (a : Layout) (n : ℕ) → n ≡ len a → from < n → 0 < length (drop from (rows_of a))
some-rows from a n is h = let l = left-length a from in omega (arith, l, h, is)

pub passed-room : (a : Layout) (from n : ℕ) → from ≤ len a → n ≤ length (drop from (rows_of a)) → from + n ≤ len a
passed-room a from n h within = let l = left-length a from in omega (arith, l, h, within)

pub look-differ : (xs ys vs ws : List RowSlot) (n k : ℕ) → n ≤ length xs → n ≤ length ys → vs ≡ take n xs → ws ≡ take n ys → k < n → IsDifference vs ws (Some k) → ComparesBuffers xs ys (Decided (Some k))
look-differ xs ys vs ws n k hx hy ev ew lt d =
    let a = length-take n xs in
    let b = length-take n ys in
    let front : IsDifference (take n xs) (take n ys) (Some k) = subst (λ l. IsDifference l (take n ys) (Some k)) ev (subst (λ l. IsDifference vs l (Some k)) ew d) in
    let whole = differ-whole k (take n xs) (take n ys) (drop n xs) (drop n ys) (inl (omega (arith, a, hx, lt))) (inl (omega (arith, b, hy, lt))) front in (
      subst (λ l. IsDifference l ys (Some k)) (take-append-drop n xs) (subst (λ l. IsDifference (take n xs ++ drop n xs) l (Some k)) (take-append-drop n ys) whole),
      inl (omega (arith, hx, lt)),
      inl (omega (arith, hy, lt)),
    )
