-- Entries that the code holds: finding one, and inserting one.
use Rattle.std.proofs.Common.{◌≡◌, ℕ, ◌+◌, ◌<◌, Bool, true, false, cond, List, [], ◌∷◌, ◌++◌, length, get_or, take, drop, map, Option, Some, None, refl, sym, ap, ◌∙◌}
use Rattle.std.specs.Prelude.{ℤ, is_some}
use Rattle.std.specs.Borrow.{Bor}
use Rattle.std.specs.Option.{option_map}
use Rattle.std.specs.Map.{lookup}
use Rattle.std.specs.BTreeMap.{insert_entry}
use Rattle.std.specs.Ordering.{int_cmp, match_ordering}
use Rattle.std.specs.declared.cmp.Ordering.{Ordering}
use Rattle.std.specs.declared.cmp.Ordering.TheVariants.{Less, Equal, Greater}
use Rattle.std.proofs.lemmas.List.{map-append}
use Rattle.nest_array.specs.declared.any.AnyArray.{AnyArray}
use Rattle.ipc.specs.FileDictionaries.{whole}
use Rattle.ipc.specs.EntriesOf.{entry_of}
use Rattle.ipc.specs.EncodedBatches.{taken, split}

module _ {V W : Type 0} (view : V → W) where
  abbrev pub viewed : List (ℤ × V) → List (ℤ × W)
  viewed es = map (λ e. (e.0, view e.1)) es

  found_both : (b : Bool) (v : V) (m : Option W) (n : Option V) → m ≡ option_map view n → cond b (Some (view v)) m ≡ option_map view (cond b (Some v) n)
  found_both true v m n same = refl
  found_both false v m n same = same

  pub viewed_found : (test : ℤ → Bool) (es : List (ℤ × V)) → lookup test (viewed es) ≡ option_map view (lookup test es)
  viewed_found test [] = refl
  viewed_found test (e ∷ es) = found_both (test e.0) e.1 (lookup test (viewed es)) (lookup test es) (viewed_found test es)

  found_some : (found : Option V) → is_some found ≡ is_some (option_map view found)
  found_some None = refl
  found_some (Some v) = refl

  pub viewed_some : (test : ℤ → Bool) (es : List (ℤ × V)) → is_some (lookup test es) ≡ is_some (lookup test (viewed es))
  viewed_some test es = found_some (lookup test es) ∙ ap (λ (found : Option W). is_some found) (sym (viewed_found test es))

  match_both : (o : Ordering) (a b c : List (ℤ × V)) → viewed (match_ordering o a b c) ≡ match_ordering o (viewed a) (viewed b) (viewed c)
  match_both Less a b c = refl
  match_both Equal a b c = refl
  match_both Greater a b c = refl

  pub viewed_more : (es : List (ℤ × V)) (id : ℤ) (new : V) → viewed (insert_entry int_cmp es id new) ≡ insert_entry int_cmp (viewed es) id (view new)
  viewed_more [] id new = refl
  viewed_more (e ∷ es) id new =
      match_both (int_cmp id e.0) ((id, new) ∷ e ∷ es) ((e.0, new) ∷ es) (e ∷ insert_entry int_cmp es id new)
      ∙ ap (λ (rest : List (ℤ × W)). match_ordering (int_cmp id e.0) ((id, view new) ∷ viewed (e ∷ es)) ((e.0, view new) ∷ viewed es) ((e.0, view e.1) ∷ rest)) (viewed_more es id new)

-- ---- pending dictionaries as batches of all values

pub whole_taken : (pending : List (ℤ × Bor AnyArray)) (i : ℕ) (x : ℤ × Bor AnyArray) → i < length pending → x ≡ get_or pending i x → map whole (map entry_of (take (i + 1) pending)) ≡ map whole (map entry_of (take i pending)) ++ whole (entry_of x) ∷ []
whole_taken pending i x lt is = ap (map whole) (taken entry_of pending i x lt is) ∙ map-append whole (map entry_of (take i pending)) (entry_of x ∷ [])

pub whole_split : (pending : List (ℤ × Bor AnyArray)) (i : ℕ) (x : ℤ × Bor AnyArray) → i < length pending → x ≡ get_or pending i x
    → map whole (map entry_of pending) ≡ map whole (map entry_of (take i pending)) ++ whole (entry_of x) ∷ map whole (map entry_of (drop (i + 1) pending))
whole_split pending i x lt is = ap (map whole) (split entry_of pending i x lt is) ∙ map-append whole (map entry_of (take i pending)) (entry_of x ∷ map entry_of (drop (i + 1) pending))
