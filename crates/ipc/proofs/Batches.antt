-- Dictionary batches that are made in order.
use Rattle.std.proofs.Common.{◌≡◌, ℕ, ◌+◌, ◌<◌, Bool, true, false, List, [], ◌∷◌, ◌++◌, map, length, get_or, drop, Some, refl, sym, ap, ◌∙◌}
use Rattle.std.specs.Prelude.{ℤ, ◌||◌, ◌==◌, if◌then◌else◌}
use Rattle.std.proofs.lemmas.Bool.{not-false}
use Rattle.std.proofs.lemmas.Bool.Decides.{Decides-eqb}
use Rattle.std.proofs.lemmas.List.{at_drop_more}
use Rattle.nest_model.specs.Layout.{Layout}
use Rattle.nest_model.specs.Meaning.{len}
use Rattle.ipc.specs.DictionaryEntries.{DictionaryEntries}
use Rattle.ipc.specs.PendingDictionaries.{entry_at}
use Rattle.ipc.specs.FileDictionaries.{DictionaryBatchTree, spec_delta_values, spec_begins_with, batches_for, spec_dictionary_batches, spec_is_replaced, spec_any_replaced}

-- ---- one of them

not_equal : (b : Bool) → (b ≡ true → ⊥) → b ≡ false
not_equal true h = absurd (h refl)
not_equal false h = refl

pub not_anew : (d c : Layout) → spec_is_replaced (Some d) c ≡ false → spec_begins_with d c ≡ true
not_anew d c h = not-false (spec_begins_with d c) h

abbrev by_test : Layout → ℤ × Layout → Bool → List DictionaryBatchTree
by_test d e same = if same then [] else (true, (e.0, spec_delta_values e.1 (len d))) ∷ []

pub nothing_put : (d : Layout) (e : ℤ × Layout) → len e.1 ≡ len d → batches_for (Some d) e ≡ []
nothing_put d e same = ap (by_test d e) ((Decides-eqb (len e.1) (len d)).1 same)

pub more_put : (d : Layout) (e : ℤ × Layout) → (len e.1 ≡ len d → ⊥) → batches_for (Some d) e ≡ (true, (e.0, spec_delta_values e.1 (len d))) ∷ []
more_put d e differ = ap (by_test d e) (not_equal (len e.1 == len d) (λ h. differ ((Decides-eqb (len e.1) (len d)).0 h)))

-- ---- all of them

none_first : (a b : Bool) → (a || b) ≡ false → (a ≡ false) × (b ≡ false)
none_first true b h = absurd (cc h)
none_first false b h = (refl, h)

module _ {A : Type 0} (entry : A → ℤ × Layout) (emitted : DictionaryEntries) where
  abbrev anew : A → Bool
  anew x = spec_is_replaced (entry_at emitted (entry x).0) (entry x).1

  -- those left from index i on
  pub anew_next : (xs : List A) (i : ℕ) (x : A) → i < length xs → x ≡ get_or xs i x → spec_any_replaced emitted (map entry (drop i xs)) ≡ (anew x || spec_any_replaced emitted (map entry (drop (i + 1) xs)))
  anew_next xs i x lt is =
      at_drop_more (λ (ys : List A). spec_any_replaced emitted (map entry ys)) xs i x lt
      ∙ ap (λ (y : A). anew y || spec_any_replaced emitted (map entry (drop (i + 1) xs))) (sym is)

  pub write_next : (xs : List A) (i : ℕ) (x : A) → i < length xs → x ≡ get_or xs i x → spec_dictionary_batches emitted (map entry (drop i xs)) ≡ batches_for (entry_at emitted (entry x).0) (entry x) ++ spec_dictionary_batches emitted (map entry (drop (i + 1) xs))
  write_next xs i x lt is =
      at_drop_more (λ (ys : List A). spec_dictionary_batches emitted (map entry ys)) xs i x lt
      ∙ ap (λ (y : A). batches_for (entry_at emitted (entry y).0) (entry y) ++ spec_dictionary_batches emitted (map entry (drop (i + 1) xs))) (sym is)

  -- none of them is a replacement, so neither this one nor those after it
  pub none_next : (xs : List A) (i : ℕ) (x : A) → i < length xs → x ≡ get_or xs i x → spec_any_replaced emitted (map entry (drop i xs)) ≡ false → (anew x ≡ false) × (spec_any_replaced emitted (map entry (drop (i + 1) xs)) ≡ false)
  none_next xs i x lt is none = none_first (anew x) (spec_any_replaced emitted (map entry (drop (i + 1) xs))) (sym (anew_next xs i x lt is) ∙ none)
