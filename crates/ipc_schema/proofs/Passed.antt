-- Loop invariants of skipping nested ids.
use Rattle.std.proofs.Common.{◌≡◌, ℕ, suc, ◌-◌, ◌+◌, ◌<◌, ◌≤◌, List, [], ◌∷◌, ◌++◌, length, get_or, drop, sym, ap, ◌∙◌, append_assoc, arith}
use Rattle.std.specs.Prelude.{ℤ, pos}
use Rattle.std.proofs.lemmas.List.{append-nil, drop_more, drop_all}
use Rattle.ipc_schema.specs.OutermostIds.{ValueTypes, spec_count_nested, spec_outermost_ids, no_outermost_ids, outermost_first}

-- the outermost ids from index i on, after skipping
abbrev pub kept : ValueTypes → ℕ → ℕ → List ℤ → List ℤ
kept named inside i ids = spec_outermost_ids named (drop inside (drop i ids))

left_is : (ids : List ℤ) (i : ℕ) → i < length ids → drop i ids ≡ get_or ids i (pos 0) ∷ drop (i + 1) ids
left_is ids i lt = drop_more ids i (pos 0) lt

module _ (named : ValueTypes) (front ids : List ℤ) (i inside : ℕ) (total : List ℤ) (before : front ++ kept named inside i ids ≡ total) where
  pub one_passed : i < length ids → 0 < inside → front ++ kept named (inside - 1) (i + 1) ids ≡ total
  one_passed lt some =
      let k : inside ≡ suc (inside - 1) = omega (arith, some) in
      let step : drop inside (drop i ids) ≡ drop (inside - 1) (drop (i + 1) ids) = ap (λ (n : ℕ). drop n (drop i ids)) k ∙ ap (λ (l : List ℤ). drop (suc (inside - 1)) l) (left_is ids i lt) in
      sym (ap (λ (l : List ℤ). front ++ spec_outermost_ids named l) step) ∙ before

  pub one_kept : i < length ids → inside ≡ 0 → (front ++ get_or ids i (pos 0) ∷ []) ++ kept named (spec_count_nested named (get_or ids i (pos 0))) (i + 1) ids ≡ total
  one_kept lt none =
      let id : ℤ = get_or ids i (pos 0) in
      let step : drop inside (drop i ids) ≡ id ∷ drop (i + 1) ids = ap (λ (n : ℕ). drop n (drop i ids)) none ∙ left_is ids i lt in
      append_assoc front (id ∷ []) (kept named (spec_count_nested named id) (i + 1) ids)
      ∙ ap (λ (l : List ℤ). front ++ l) (sym (outermost_first named id (drop (i + 1) ids)))
      ∙ sym (ap (λ (l : List ℤ). front ++ spec_outermost_ids named l) step) ∙ before

  pub all_kept : length ids ≤ i → front ≡ total
  all_kept le =
      let none : drop inside (drop i ids) ≡ [] = ap (λ (l : List ℤ). drop inside l) (drop_all i ids le) ∙ drop_all inside [] (omega arith) in
      let rest : kept named inside i ids ≡ [] = ap (λ (l : List ℤ). spec_outermost_ids named l) none ∙ no_outermost_ids named in
      sym (append-nil front) ∙ ap (λ (l : List ℤ). front ++ l) (sym rest) ∙ before
