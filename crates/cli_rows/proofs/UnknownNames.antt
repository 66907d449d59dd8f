-- Names that no field has.
use Rattle.std.proofs.Common.{◌≡◌, ℕ, suc, ◌+◌, ◌<◌, ◌≤◌, Bool, true, false, List, [], ◌∷◌, length, drop, get_or, map, Option, Some, None, bytes_eq, if◌then◌else◌, option_map, refl, sym, ap, subst, ◌∙◌, arith}
use Rattle.std.specs.Borrow.{Bor}
use Rattle.std.proofs.lemmas.Bool.{cond-true, cond-false}
use Rattle.std.proofs.lemmas.List.{drop_all, drop_more}
use Rattle.nest_memory.specs.TypeOf.{field_of}
use Rattle.nest_memory.specs.TypeTree.{FieldTree}
use Rattle.nest_memory.specs.declared.datatypes.field.Field.{Field}
use Rattle.json_write.specs.JsonText.{field_name}
use Rattle.cli_rows.specs.ColumnNames.{lacks_name, unknown_name}
use Rattle.cli_rows.specs.ColumnFields.{spec_column_index}
use Rattle.cli_rows.proofs.ByName.{next-index, same-index}
use Rattle.cli_rows.proofs.Resolved.{under-suc}

-- among the fields after the first i
abbrev pub lacks_from : List ℕ → List Field → ℕ → Bool
lacks_from name fields i = lacks_name name (map field_of (drop i fields))

pub lacks-end : (name : List ℕ) (fields : List Field) (i : ℕ) → length fields ≤ i → lacks_from name fields i ≡ true
lacks-end name fields i h = ap (λ l. lacks_name name (map field_of l)) (drop_all i fields h)

lacks-more : (name : List ℕ) (fields : List Field) (i : ℕ) (f : Field) → i < length fields → f ≡ get_or fields i f
    → lacks_from name fields i ≡ (if bytes_eq (field_name (field_of f)) name then false else lacks_from name fields (i + 1))
lacks-more name fields i f h e = ap (λ l. lacks_name name (map field_of l)) (drop_more fields i f h ∙ ap (λ z. z ∷ drop (i + 1) fields) (sym e))

pub lacks-found : (name : List ℕ) (fields : List Field) (i : ℕ) (f : Field) → i < length fields → f ≡ get_or fields i f → bytes_eq (field_name (field_of f)) name ≡ true → lacks_from name fields i ≡ false
lacks-found name fields i f h e t = lacks-more name fields i f h e ∙ cond-true _ _ _ t

pub lacks-next : (name : List ℕ) (fields : List Field) (i : ℕ) (f : Field) → i < length fields → f ≡ get_or fields i f → bytes_eq (field_name (field_of f)) name ≡ false → lacks_from name fields i ≡ lacks_from name fields (i + 1)
lacks-next name fields i f h e t = lacks-more name fields i f h e ∙ cond-false _ _ _ t

-- ---- the first of some names

abbrev Names : Type 0
Names = List (Bor (List ℕ))

-- counted from the names after the first i
abbrev pub unknown_from : Names → List FieldTree → ℕ → Option ℕ
unknown_from names fs i = option_map (λ k. i + k) (unknown_name (map (λ n. n.now) (drop i names)) fs)

pub unknown-start : (names : Names) (fs : List FieldTree) → unknown_name (map (λ n. n.now) names) fs ≡ unknown_from names fs 0
unknown-start names fs = same-index (unknown_name (map (λ n. n.now) names) fs)

pub unknown-end : (names : Names) (fs : List FieldTree) (i : ℕ) → length names ≤ i → unknown_from names fs i ≡ None
unknown-end names fs i h = ap (λ (l : Names). option_map (λ k. i + k) (unknown_name (map (λ n. n.now) l) fs)) (drop_all i names h)

unknown-more : (names : Names) (fs : List FieldTree) (i : ℕ) (d : Bor (List ℕ)) → i < length names
    → unknown_from names fs i ≡ option_map (λ k. i + k) (if lacks_name (get_or names i d).now fs then Some 0 else option_map suc (unknown_name (map (λ n. n.now) (drop (i + 1) names)) fs))
unknown-more names fs i d h = ap (λ (l : Names). option_map (λ k. i + k) (unknown_name (map (λ n. n.now) l) fs)) (drop_more names i d h)

pub unknown-found : (names : Names) (fs : List FieldTree) (i : ℕ) (d : Bor (List ℕ)) → i < length names → lacks_name (get_or names i d).now fs ≡ true → unknown_from names fs i ≡ Some i
unknown-found names fs i d h t =
    unknown-more names fs i d h
    ∙ ap (option_map (λ k. i + k)) (cond-true _ _ _ t)
    ∙ ap Some (omega arith)

pub unknown-next : (names : Names) (fs : List FieldTree) (i : ℕ) (d : Bor (List ℕ)) → i < length names → lacks_name (get_or names i d).now fs ≡ false → unknown_from names fs i ≡ unknown_from names fs (i + 1)
unknown-next names fs i d h t =
    unknown-more names fs i d h
    ∙ ap (option_map (λ k. i + k)) (cond-false _ _ _ t)
    ∙ next-index i (unknown_name (map (λ n. n.now) (drop (i + 1) names)) fs)

-- ---- such a name has no index

lacks-none : (name : List ℕ) (fs : List FieldTree) → lacks_name name fs ≡ true → spec_column_index name fs ≡ None
lacks-none name [] e = refl
lacks-none name (f ∷ fs) e = by (bytes_eq (field_name f) name) (lacks-none name fs) e
  where
    by : (q : Bool) → (lacks_name name fs ≡ true → spec_column_index name fs ≡ None) → (if q then false else lacks_name name fs) ≡ true → (if q then Some 0 else option_map suc (spec_column_index name fs)) ≡ None
    by true others h = absurd cc
    by false others h = ap (option_map suc) (others h)

pub unknown-none : (names : List (List ℕ)) (fs : List FieldTree) (i : ℕ) → unknown_name names fs ≡ Some i → spec_column_index (get_or names i []) fs ≡ None
unknown-none [] fs i e = absurd cc
unknown-none (n ∷ ns) fs i e = by (lacks_name n fs) refl (unknown-none ns fs) e
  where
    by : (q : Bool) → lacks_name n fs ≡ q → ((k : ℕ) → unknown_name ns fs ≡ Some k → spec_column_index (get_or ns k []) fs ≡ None) → (if q then Some 0 else option_map suc (unknown_name ns fs)) ≡ Some i
        → spec_column_index (get_or (n ∷ ns) i []) fs ≡ None
    by true t others h = let is : 0 ≡ i = cc in subst (λ k. spec_column_index (get_or (n ∷ ns) k []) fs ≡ None) is (lacks-none n fs t)
    by false t others h =
        let w = under-suc (unknown_name ns fs) i h in
        subst (λ k. spec_column_index (get_or (n ∷ ns) k []) fs ≡ None) w.2 (others w.0 w.1)
