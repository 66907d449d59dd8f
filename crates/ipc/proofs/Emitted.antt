-- Entries that the code holds, of emitted dictionaries.
use Rattle.std.proofs.Common.{◌≡◌, ℕ, zero, suc, ◌+◌, ◌<◌, ◌≤◌, Bool, true, false, cond, List, [], ◌∷◌, ◌++◌, map, length, get_or, take, drop, Option, Some, refl, sym, ap, ◌∙◌, arith}
use Rattle.std.specs.Prelude.{ℤ}
use Rattle.std.specs.Option.{option_map}
use Rattle.std.specs.Map.{lookup}
use Rattle.std.specs.BTreeMap.{insert_entry, is_at}
use Rattle.std.specs.Ordering.{int_cmp, match_ordering}
use Rattle.std.specs.declared.cmp.Ordering.{Ordering}
use Rattle.std.specs.declared.cmp.Ordering.TheVariants.{Less, Equal, Greater}
use Rattle.std.specs.List.{AllByRecursion}
use Rattle.nest_array.specs.Seen.{layout_of, layouts_of}
use Rattle.nest_array.specs.declared.any.AnyArray.{AnyArray}
use Rattle.nest_model.specs.Array.{IsArray, AreArrays}
use Rattle.nest_model.specs.Layout.{Layout, Layouts, no_layouts, more_layouts}
use Rattle.ipc.specs.DictionaryEntries.{DictionaryEntries, count_dictionaries}
use Rattle.ipc.specs.PendingDictionaries.{entry_at, with_entries, pending_in, each_pending, columns_pending}
use Rattle.ipc.specs.EntriesOf.{by_id}
use Rattle.ipc.proofs.Entries.{viewed_found}
use Rattle.ipc.proofs.Visits.{and_one}

-- the values emitted last for an id
pub entry_found : (es : List (ℤ × AnyArray)) (key id : ℤ) (last : Option AnyArray) → key ≡ id → lookup (is_at (int_cmp key)) es ≡ last → entry_at (by_id es) id ≡ option_map layout_of last
entry_found es key id last same is =
    viewed_found layout_of (is_at (int_cmp id)) es ∙ ap (option_map layout_of) (ap (λ (k : ℤ). lookup (is_at (int_cmp k)) es) (sym same) ∙ is)

-- ---- entries in order

module _ {A : Type 0} (entry : A → ℤ × Layout) where
  -- those left from index i on
  pub next_entry : (xs : List A) (i : ℕ) (x : A) (es : DictionaryEntries) → i < length xs → x ≡ get_or xs i x → with_entries es (map entry (drop i xs)) ≡ with_entries (insert_entry int_cmp es (entry x).0 (entry x).1) (map entry (drop (suc i) xs))
  next_entry [] i x es lt is = absurd (omega arith)
  next_entry (y ∷ xs) zero x es lt is = ap (λ (z : A). with_entries (insert_entry int_cmp es (entry z).0 (entry z).1) (map entry xs)) (sym is)
  next_entry (y ∷ xs) (suc i) x es lt is = next_entry xs i x es (omega arith) is

  pub no_entry : (xs : List A) (i : ℕ) (es : DictionaryEntries) → length xs ≤ i → with_entries es (map entry (drop i xs)) ≡ es
  no_entry [] zero es le = refl
  no_entry [] (suc i) es le = refl
  no_entry (x ∷ xs) zero es le = absurd (omega arith)
  no_entry (x ∷ xs) (suc i) es le = no_entry xs i es (omega arith)

-- ---- arrays that the code holds

pub take_one : (xs : List AnyArray) (i : ℕ) (x : AnyArray) → i < length xs → x ≡ get_or xs i x → layouts_of (take (i + 1) xs) ≡ and_one (layouts_of (take i xs)) (layout_of x)
take_one xs i x lt is = let e : i + 1 ≡ suc i = omega arith in ap (λ (n : ℕ). layouts_of (take n xs)) e ∙ one xs i x lt is
  where
    one : (xs : List AnyArray) (i : ℕ) (x : AnyArray) → i < length xs → x ≡ get_or xs i x → layouts_of (take (suc i) xs) ≡ and_one (layouts_of (take i xs)) (layout_of x)
    one [] i x lt is = absurd (omega arith)
    one (y ∷ xs) zero x lt is = ap (λ (z : AnyArray). more_layouts (layout_of z) no_layouts) (sym is)
    one (y ∷ xs) (suc i) x lt is = ap (λ (l : Layouts). more_layouts (layout_of y) l) (one xs i x (omega arith) is)

pub columns_walked : (emitted : DictionaryEntries) (id : ℕ) (xs : List AnyArray) → each_pending emitted id (layouts_of xs) ≡ columns_pending emitted id (map layout_of xs)
columns_walked emitted id [] = refl
columns_walked emitted id (x ∷ xs) = ap (λ (l : DictionaryEntries). pending_in emitted id (layout_of x) ++ l) (columns_walked emitted (id + count_dictionaries (layout_of x)) xs)

pub columns_fit : (xs : List AnyArray) → AreArrays (layouts_of xs) → AllByRecursion IsArray (map layout_of xs)
columns_fit [] fit = tt
columns_fit (x ∷ xs) fit = (fit.0, columns_fit xs fit.1)
