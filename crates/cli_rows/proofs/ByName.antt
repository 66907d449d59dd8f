-- Fields by name and by index.
use Rattle.std.proofs.Common.{◌≡◌, ℕ, zero, suc, ◌+◌, ◌<◌, ◌≤◌, true, false, List, [], ◌∷◌, length, drop, get_or, map, Option, Some, None, bytes_eq, if◌then◌else◌, option_map, refl, sym, ap, ◌∙◌, arith}
use Rattle.std.proofs.lemmas.Bool.{cond-true, cond-false}
use Rattle.std.proofs.lemmas.List.{drop_all, drop_more}
use Rattle.nest_memory.specs.TypeOf.{field_of}
use Rattle.nest_memory.specs.TypeTree.{FieldTree}
use Rattle.nest_memory.specs.declared.datatypes.field.Field.{Field}
use Rattle.json_write.specs.JsonText.{field_name}
use Rattle.cli_rows.specs.ColumnFields.{spec_column_index, spec_field_at, spec_field_named}

abbrev pub named_from : List ℕ → List Field → ℕ → Option FieldTree
named_from name fields i = spec_field_named name (map field_of (drop i fields))

pub named-end : (name : List ℕ) (fields : List Field) (i : ℕ) → length fields ≤ i → named_from name fields i ≡ None
named-end name fields i h = ap (λ l. spec_field_named name (map field_of l)) (drop_all i fields h)

named-more : (name : List ℕ) (fields : List Field) (i : ℕ) (f : Field) → i < length fields → f ≡ get_or fields i f
    → named_from name fields i ≡ (if bytes_eq (field_name (field_of f)) name then Some (field_of f) else named_from name fields (i + 1))
named-more name fields i f h e = ap (λ l. spec_field_named name (map field_of l)) (drop_more fields i f h ∙ ap (λ z. z ∷ drop (i + 1) fields) (sym e))

pub named-found : (name : List ℕ) (fields : List Field) (i : ℕ) (f : Field) → i < length fields → f ≡ get_or fields i f → bytes_eq (field_name (field_of f)) name ≡ true → named_from name fields i ≡ Some (field_of f)
named-found name fields i f h e t = named-more name fields i f h e ∙ cond-true _ _ _ t

pub named-next : (name : List ℕ) (fields : List Field) (i : ℕ) (f : Field) → i < length fields → f ≡ get_or fields i f → bytes_eq (field_name (field_of f)) name ≡ false → named_from name fields i ≡ named_from name fields (i + 1)
named-next name fields i f h e t = named-more name fields i f h e ∙ cond-false _ _ _ t

-- ---- fields by index

pub at-index : (fields : List Field) (i : ℕ) (f : Field) → i < length fields → f ≡ get_or fields i f → Some (field_of f) ≡ spec_field_at i (map field_of fields)
at-index [] i f h e = absurd (omega (arith, h))
at-index (x ∷ fields) zero f h e = ap (λ z. Some (field_of z)) e
at-index (x ∷ fields) (suc i) f h e = at-index fields i f (omega (arith, h)) e

pub past-end : (fields : List Field) (i : ℕ) → length fields ≤ i → None ≡ spec_field_at i (map field_of fields)
past-end [] i h = refl
past-end (x ∷ fields) zero h = absurd (omega (arith, h))
past-end (x ∷ fields) (suc i) h = past-end fields i (omega (arith, h))

-- ---- the index of a name

-- counted from the fields after the first i
abbrev pub index_from : List ℕ → List Field → ℕ → Option ℕ
index_from name fields i = option_map (λ k. i + k) (spec_column_index name (map field_of (drop i fields)))

pub same-index : (o : Option ℕ) → o ≡ option_map (λ k. 0 + k) o
same-index None = refl
same-index (Some k) = ap Some (omega arith)

pub next-index : (i : ℕ) (o : Option ℕ) → option_map (λ k. i + k) (option_map suc o) ≡ option_map (λ k. i + 1 + k) o
next-index i None = refl
next-index i (Some k) = ap Some (omega arith)

pub index-start : (name : List ℕ) (fields : List Field) → spec_column_index name (map field_of fields) ≡ index_from name fields 0
index-start name fields = same-index (spec_column_index name (map field_of fields))

pub index-end : (name : List ℕ) (fields : List Field) (i : ℕ) → length fields ≤ i → index_from name fields i ≡ None
index-end name fields i h = ap (λ l. option_map (λ k. i + k) (spec_column_index name (map field_of l))) (drop_all i fields h)

index-more : (name : List ℕ) (fields : List Field) (i : ℕ) (f : Field) → i < length fields → f ≡ get_or fields i f
    → index_from name fields i ≡ option_map (λ k. i + k) (if bytes_eq (field_name (field_of f)) name then Some 0 else option_map suc (spec_column_index name (map field_of (drop (i + 1) fields))))
index-more name fields i f h e = ap (λ l. option_map (λ k. i + k) (spec_column_index name (map field_of l))) (drop_more fields i f h ∙ ap (λ z. z ∷ drop (i + 1) fields) (sym e))

pub index-found : (name : List ℕ) (fields : List Field) (i : ℕ) (f : Field) → i < length fields → f ≡ get_or fields i f → bytes_eq (field_name (field_of f)) name ≡ true → index_from name fields i ≡ Some i
index-found name fields i f h e t =
    index-more name fields i f h e
    ∙ ap (option_map (λ k. i + k)) (cond-true _ _ _ t)
    ∙ ap Some (omega arith)

pub index-next : (name : List ℕ) (fields : List Field) (i : ℕ) (f : Field) → i < length fields → f ≡ get_or fields i f → bytes_eq (field_name (field_of f)) name ≡ false → index_from name fields i ≡ index_from name fields (i + 1)
index-next name fields i f h e t =
    index-more name fields i f h e
    ∙ ap (option_map (λ k. i + k)) (cond-false _ _ _ t)
    ∙ next-index i (spec_column_index name (map field_of (drop (i + 1) fields)))
