-- An array is visited by its child arrays, and arrays in order.
use Rattle.std.proofs.Common.{◌≡◌, ℕ, suc, ◌+◌, ◌<◌, ◌≤◌, Bool, true, false, [], ◌∷◌, ◌++◌, length, inl, inr, refl, sym, ap, subst, ◌∙◌, append_assoc, arith}
use Rattle.std.specs.Prelude.{pos, ◌⊎◌, ◌&&◌, if◌then◌else◌}
use Rattle.std.proofs.lemmas.List.{append-nil, length-append}
use Rattle.nest_memory.specs.TypeTree.{TypeTree}
use Rattle.nest_model.specs.Accessors.{child_of, keys_of}
use Rattle.nest_model.specs.Array.{IsArray, AreArrays, TopFits}
use Rattle.nest_model.specs.Layout.{Layout, Layouts, dictionary, no_layouts, more_layouts, layout_type}
use Rattle.ipc.specs.DictionaryEntries.{DictionaryEntries, count_dictionaries, count_each_dictionaries}
use Rattle.ipc.specs.PendingDictionaries.{entry_at, is_same, is_none, pending_in, each_pending}
use Rattle.ipc.specs.Visited.{IsVisited, AreVisited}

-- ---- dictionary arrays

some_found : (old inside : DictionaryEntries) → length old < length (old ++ inside) → is_none inside ≡ false
some_found old [] lt = absurd (omega (arith, lt, length-append old []))
some_found old (e ∷ inside) lt = refl

none_found : (inside : DictionaryEntries) (old : DictionaryEntries) → length (old ++ inside) ≤ length old → inside ≡ []
none_found [] old le = refl
none_found (e ∷ inside) old le = absurd (omega (arith, le, length-append old (e ∷ inside)))

either_false : (a b : Bool) → (a ≡ false) ⊎ (b ≡ false) → (a && b) ≡ false
either_false true b (inl h) = absurd (cc h)
either_false true b (inr h) = h
either_false false b h = refl

module _ (emitted : DictionaryEntries) (id : ℕ) (t : TypeTree) (ks c : Layout) (old : DictionaryEntries) where
  dictionary_new : (mid : DictionaryEntries) (next : ℕ) → TopFits (dictionary t ks c) → IsVisited emitted (suc id) c old mid next → (length old < length mid) ⊎ (is_same (entry_at emitted (pos id)) c ≡ false)
      → IsVisited emitted id (dictionary t ks c) old (mid ++ (pos id, c) ∷ []) next
  dictionary_new mid next top w why =
      let inside : DictionaryEntries = pending_in emitted (suc id) c in
      let one : DictionaryEntries = (pos id, c) ∷ [] in
      let no : (is_none inside && is_same (entry_at emitted (pos id)) c) ≡ false = either_false (is_none inside) (is_same (entry_at emitted (pos id)) c) (some_or why) in
      record {
        behind = omega (arith, w.behind);
        found = ap (λ (l : DictionaryEntries). l ++ one) w.found ∙ append_assoc old inside one ∙ ap (λ (b : Bool). old ++ (if b then [] else inside ++ one)) (sym no);
        fit = (top, w.fit);
      }
    where
      some_or : (length old < length mid) ⊎ (is_same (entry_at emitted (pos id)) c ≡ false) → (is_none (pending_in emitted (suc id) c) ≡ false) ⊎ (is_same (entry_at emitted (pos id)) c ≡ false)
      some_or (inl lt) = inl (some_found old (pending_in emitted (suc id) c) (subst (λ (l : DictionaryEntries). length old < length l) w.found lt))
      some_or (inr h) = inr h

  dictionary_old : (mid : DictionaryEntries) (next : ℕ) → TopFits (dictionary t ks c) → IsVisited emitted (suc id) c old mid next → length mid ≤ length old → is_same (entry_at emitted (pos id)) c ≡ true → IsVisited emitted id (dictionary t ks c) old mid next
  dictionary_old mid next top w le same =
      let inside : DictionaryEntries = pending_in emitted (suc id) c in
      let none : inside ≡ [] = none_found inside old (subst (λ (l : DictionaryEntries). length l ≤ length old) w.found le) in
      let yes : (is_none inside && is_same (entry_at emitted (pos id)) c) ≡ true = ap (λ (l : DictionaryEntries). is_none l && is_same (entry_at emitted (pos id)) c) none ∙ same in
      record {
        behind = omega (arith, w.behind);
        found = w.found ∙ ap (λ (l : DictionaryEntries). old ++ l) none ∙ ap (λ (b : Bool). old ++ (if b then [] else inside ++ (pos id, c) ∷ [])) (sym yes);
        fit = (top, w.fit);
      }

module _ (emitted : DictionaryEntries) (id : ℕ) (a v : Layout) (kind : a ≡ dictionary (layout_type a) (keys_of a) (child_of a)) (top : TopFits a) (is : v ≡ child_of a) (old mid : DictionaryEntries) (first next : ℕ) (begins : first ≡ suc id) (walked : IsVisited emitted first v old mid next) where
  below : IsVisited emitted (suc id) (child_of a) old mid next
  below = subst (λ (n : ℕ). IsVisited emitted n (child_of a) old mid next) begins (subst (λ (x : Layout). IsVisited emitted first x old mid next) is walked)

  -- by the dictionaries nested in its values, and whether these were emitted
  pub pushed : (new : DictionaryEntries) → new ≡ mid ++ (pos id, v) ∷ [] → (length old < length mid) ⊎ (is_same (entry_at emitted (pos id)) v ≡ false) → IsVisited emitted id a old new next
  pushed new more why =
      let values : (length old < length mid) ⊎ (is_same (entry_at emitted (pos id)) (child_of a) ≡ false) = subst (λ (x : Layout). (length old < length mid) ⊎ (is_same (entry_at emitted (pos id)) x ≡ false)) is why in
      let all : new ≡ mid ++ (pos id, child_of a) ∷ [] = more ∙ ap (λ (x : Layout). mid ++ (pos id, x) ∷ []) is in
      let whole = dictionary_new emitted id (layout_type a) (keys_of a) (child_of a) old mid next (subst TopFits kind top) below values in
      subst (λ (x : Layout). IsVisited emitted id x old new next) (sym kind) (subst (λ (l : DictionaryEntries). IsVisited emitted id (dictionary (layout_type a) (keys_of a) (child_of a)) old l next) (sym all) whole)

  pub kept : length mid ≤ length old → is_same (entry_at emitted (pos id)) v ≡ true → IsVisited emitted id a old mid next
  kept le same =
      let values : is_same (entry_at emitted (pos id)) (child_of a) ≡ true = subst (λ (x : Layout). is_same (entry_at emitted (pos id)) x ≡ true) is same in
      subst (λ (x : Layout). IsVisited emitted id x old mid next) (sym kind) (dictionary_old emitted id (layout_type a) (keys_of a) (child_of a) old mid next (subst TopFits kind top) below le values)

-- ---- arrays

abbrev pub and_one : Layouts → Layout → Layouts
and_one no_layouts c = more_layouts c no_layouts
and_one (more_layouts d ds) c = more_layouts d (and_one ds c)

one_count : (cs : Layouts) (c : Layout) → count_each_dictionaries (and_one cs c) ≡ count_each_dictionaries cs + count_dictionaries c
one_count no_layouts c = omega arith
one_count (more_layouts d ds) c = omega (arith, one_count ds c)

one_needed : (emitted : DictionaryEntries) (id : ℕ) (cs : Layouts) (c : Layout) → each_pending emitted id (and_one cs c) ≡ each_pending emitted id cs ++ pending_in emitted (id + count_each_dictionaries cs) c
one_needed emitted id no_layouts c =
    let e : id ≡ id + 0 = omega arith in
    append-nil (pending_in emitted id c) ∙ ap (λ (n : ℕ). pending_in emitted n c) e
one_needed emitted id (more_layouts d ds) c =
    let first : DictionaryEntries = pending_in emitted id d in
    let e : id + count_dictionaries d + count_each_dictionaries ds ≡ id + (count_dictionaries d + count_each_dictionaries ds) = omega arith in
    ap (λ (l : DictionaryEntries). first ++ l) (one_needed emitted (id + count_dictionaries d) ds c)
    ∙ sym (append_assoc first (each_pending emitted (id + count_dictionaries d) ds) (pending_in emitted (id + count_dictionaries d + count_each_dictionaries ds) c))
    ∙ ap (λ (n : ℕ). (first ++ each_pending emitted (id + count_dictionaries d) ds) ++ pending_in emitted n c) e

one_fit : (cs : Layouts) (c : Layout) → AreArrays cs → IsArray c → AreArrays (and_one cs c)
one_fit no_layouts c all one = (one, tt)
one_fit (more_layouts d ds) c all one = (all.0, one_fit ds c all.1 one)

pub none_walked : (emitted : DictionaryEntries) (id : ℕ) (old : DictionaryEntries) → AreVisited emitted id no_layouts old old id
none_walked emitted id old = record { behind = omega arith; found = sym (append-nil old); fit = tt }

pub more_walked : (emitted : DictionaryEntries) (id : ℕ) (cs : Layouts) (c : Layout) (old mid new : DictionaryEntries) (next more : ℕ) → AreVisited emitted id cs old mid next → IsVisited emitted next c mid new more → AreVisited emitted id (and_one cs c) old new more
more_walked emitted id cs c old mid new next more all one =
    record {
      behind = omega (arith, all.behind, one.behind, one_count cs c);
      found = one.found
          ∙ ap (λ (l : DictionaryEntries). l ++ pending_in emitted next c) all.found
          ∙ append_assoc old (each_pending emitted id cs) (pending_in emitted next c)
          ∙ ap (λ (n : ℕ). old ++ (each_pending emitted id cs ++ pending_in emitted n c)) all.behind
          ∙ ap (λ (l : DictionaryEntries). old ++ l) (sym (one_needed emitted id cs c));
      fit = one_fit cs c all.fit one.fit;
    }
