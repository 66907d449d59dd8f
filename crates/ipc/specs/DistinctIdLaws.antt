-- No dictionary is emitted twice before one record batch.
use Rattle.std.proofs.Common.{◌≡◌, ℕ, suc, ◌+◌, ◌<◌, ◌≤◌, Bool, true, false, List, [], ◌∷◌, ◌++◌, refl, subst, sym, arith}
use Rattle.std.specs.Prelude.{ℤ, pos, ◌&&◌, if◌then◌else◌}
use Rattle.std.specs.List.{AllByRecursion}
use Rattle.std.specs.Ordering.{int_cmp}
use Rattle.nest_model.specs.Layout.{Layout, Layouts, fixed_size_list, list as list_of, map as map_of, struct, union, dictionary, no_layouts, more_layouts}
use Rattle.ipc.specs.DictionaryEntries.{DictionaryEntries, count_dictionaries, count_each_dictionaries}
use Rattle.ipc.specs.PendingDictionaries.{entry_at, is_none, is_same, pending_in, each_pending, columns_pending, pending}
use Rattle.ipc.specs.KnownDictionaryLaws.{AreWithin, IsOther, other_by, all_both, needed_within, each_within, each_needed_of, columns_within, columns_needed_of, count_columns}

-- the ids of entries are distinct
abbrev pub AreDistinct : DictionaryEntries → Type 0
AreDistinct [] = Unit {0}
AreDistinct (e ∷ es) = AllByRecursion (λ f. IsOther e.0 f.0) es × AreDistinct es

apart_both : (xs ys : DictionaryEntries) → AreDistinct xs → AreDistinct ys → AllByRecursion (λ e. AllByRecursion (λ f. IsOther e.0 f.0) ys) xs → AreDistinct (xs ++ ys)
apart_both [] ys xs-are ys-are across = ys-are
apart_both (x ∷ xs) ys xs-are ys-are across = (all_both (λ f. IsOther x.0 f.0) xs ys xs-are.0 across.0, apart_both xs ys xs-are.1 ys-are across.1)

-- ids of disjoint ranges
one_across : (id : ℤ) (k c d : ℕ) (ys : DictionaryEntries) → id ≡ pos k → ((n : ℕ) → c ≤ n → n < d → n ≡ k → ⊥) → AreWithin c d ys → AllByRecursion (λ f. IsOther id f.0) ys
one_across id k c d [] is out are = tt
one_across id k c d (y ∷ ys) is out (one, rest) =
    let other : IsOther (pos k) (pos one.0) = other_by (int_cmp (pos one.0) (pos k)) k one.0 refl (out one.0 one.2 one.3) in
    (subst (λ (z : ℤ). IsOther z y.0) (sym is) (subst (λ (z : ℤ). IsOther (pos k) z) (sym one.1) other), one_across id k c d ys is out rest)

across : (a b c d : ℕ) (xs ys : DictionaryEntries) → ((k n : ℕ) → a ≤ k → k < b → c ≤ n → n < d → n ≡ k → ⊥) → AreWithin a b xs → AreWithin c d ys → AllByRecursion (λ e. AllByRecursion (λ f. IsOther e.0 f.0) ys) xs
across a b c d [] ys out xs-are ys-are = tt
across a b c d (x ∷ xs) ys out (one, rest) ys-are = (one_across x.0 one.0 c d ys one.1 (λ n low high same. out one.0 n one.2 one.3 low high same) ys-are, across a b c d xs ys out rest ys-are)

own_apart : (b : Bool) (id end : ℕ) (c : Layout) (inside : DictionaryEntries) → AreWithin (suc id) end inside → AreDistinct inside → AreDistinct (if b then [] else inside ++ (pos id, c) ∷ [])
own_apart true id end c inside are apart = tt
own_apart false id end c inside are apart =
    apart_both inside ((pos id, c) ∷ []) apart (tt, tt) (across (suc id) end id (suc id) inside ((pos id, c) ∷ []) (λ k n low high from to same. omega (arith, low, to, same)) are ((id, refl, omega arith, omega arith), tt))

mutual
  apart_in : (emitted : DictionaryEntries) (id : ℕ) (a : Layout) → AreDistinct (pending_in emitted id a)
  apart_in emitted id (fixed_size_list t c va) = apart_in emitted id c
  apart_in emitted id (list_of large t os c va) = apart_in emitted id c
  apart_in emitted id (map_of t os c va) = apart_in emitted id c
  apart_in emitted id (struct t cs va) = each_apart emitted id cs
  apart_in emitted id (union t ks cs os start) = each_apart emitted id cs
  apart_in emitted id (dictionary t ks c) = own_apart (is_none (pending_in emitted (suc id) c) && is_same (entry_at emitted (pos id)) c) id (suc id + count_dictionaries c) c (pending_in emitted (suc id) c) (needed_within emitted (suc id) c) (apart_in emitted (suc id) c)
  apart_in emitted id a = tt

  each_apart : (emitted : DictionaryEntries) (id : ℕ) (cs : Layouts) → AreDistinct (each_pending emitted id cs)
  each_apart emitted id no_layouts = tt
  each_apart emitted id (more_layouts c cs) =
      let n : ℕ = count_dictionaries c in
      apart_both (pending_in emitted id c) (each_pending emitted (id + n) cs) (apart_in emitted id c) (each_apart emitted (id + n) cs)
      (across id (id + n) (id + n) (id + n + count_each_dictionaries cs) (pending_in emitted id c) (each_pending emitted (id + n) cs) (λ k m low high from to same. omega (arith, high, from, same)) (needed_within emitted id c) (each_needed_of _ emitted (id + n) cs (each_within (id + n) cs)))

columns_apart : (emitted : DictionaryEntries) (id : ℕ) (columns : List Layout) → AreDistinct (columns_pending emitted id columns)
columns_apart emitted id [] = tt
columns_apart emitted id (a ∷ columns) =
    let n : ℕ = count_dictionaries a in
    apart_both (pending_in emitted id a) (columns_pending emitted (id + n) columns) (apart_in emitted id a) (columns_apart emitted (id + n) columns)
    (across id (id + n) (id + n) (id + n + count_columns columns) (pending_in emitted id a) (columns_pending emitted (id + n) columns) (λ k m low high from to same. omega (arith, high, from, same)) (needed_within emitted id a) (columns_needed_of _ emitted (id + n) columns (columns_within (id + n) columns)))

pub needed_apart : (emitted : DictionaryEntries) (columns : List Layout) → AreDistinct (pending emitted columns)
needed_apart emitted columns = columns_apart emitted 0 columns
