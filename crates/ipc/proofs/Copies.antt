-- Entries that are cloned in the order of their ids.
use Rattle.std.proofs.Common.{◌≡◌, List, [], ◌∷◌, ◌++◌, map, refl, sym, ap, subst, ◌∙◌, append_assoc}
use Rattle.std.specs.Prelude.{ℤ}
use Rattle.std.specs.Cmp.{int_cmp_total}
use Rattle.std.specs.List.{AllByRecursion}
use Rattle.std.specs.List.Sorted.{IsStrictlySortedBy}
use Rattle.std.specs.Map.{keys_of}
use Rattle.std.specs.BTreeMap.{insert_entry}
use Rattle.std.specs.Ordering.{int_cmp, ordering_reverse}
use Rattle.std.specs.declared.cmp.Ordering.TheVariants.{Less, Greater}
use Rattle.ipc.proofs.Entries.{viewed}

-- ---- the ids of entries

module _ {V W : Type 0} (view : V → W) where
  viewed_keys : (es : List (ℤ × V)) → keys_of (viewed view es) ≡ keys_of es
  viewed_keys [] = refl
  viewed_keys (e ∷ es) = ap (λ (ids : List ℤ). e.0 ∷ ids) (viewed_keys es)

  pub viewed_ascend : (es : List (ℤ × V)) → IsStrictlySortedBy int_cmp (keys_of es) → IsStrictlySortedBy int_cmp (keys_of (viewed view es))
  viewed_ascend es h = subst (IsStrictlySortedBy int_cmp) (sym (viewed_keys es)) h

-- ---- one more entry

module _ {V : Type 0} where
  -- an entry after others has an id above theirs
  below_at : (id : ℤ) (front rest : List (ℤ × V)) (e : ℤ × V) → AllByRecursion (λ (k : ℤ). int_cmp id k ≡ Less) (keys_of (front ++ e ∷ rest)) → int_cmp id e.0 ≡ Less
  below_at id [] rest e all = all.0
  below_at id (x ∷ front) rest e all = below_at id front rest e all.1

  -- so it is inserted at their end
  goes_last : (front rest : List (ℤ × V)) (e : ℤ × V) → IsStrictlySortedBy int_cmp (keys_of (front ++ e ∷ rest)) → insert_entry int_cmp front e.0 e.1 ≡ front ++ e ∷ []
  unfolding IsStrictlySortedBy
  goes_last [] rest e ascend = refl
  goes_last (x ∷ front) rest e ascend =
      let above : int_cmp e.0 x.0 ≡ Greater = int_cmp_total.antisymm e.0 x.0 ∙ ap ordering_reverse (below_at x.0 front rest e ascend.0) in
      rw above (ap (λ (es : List (ℤ × V)). x ∷ es) (goes_last front rest e ascend.1))

  pub copied_more : (copy rest all : List (ℤ × V)) (e : ℤ × V) → IsStrictlySortedBy int_cmp (keys_of all) → copy ++ e ∷ rest ≡ all → insert_entry int_cmp copy e.0 e.1 ++ rest ≡ all
  copied_more copy rest all e ascend so_far =
      let here : IsStrictlySortedBy int_cmp (keys_of (copy ++ e ∷ rest)) = subst (λ (es : List (ℤ × V)). IsStrictlySortedBy int_cmp (keys_of es)) (sym so_far) ascend in
      ap (λ (es : List (ℤ × V)). es ++ rest) (goes_last copy rest e here) ∙ append_assoc copy (e ∷ []) rest ∙ so_far
