-- Loop invariants over fields.
use Rattle.std.proofs.Common.{◌≡◌, ℕ, ◌+◌, ◌<◌, ◌≤◌, List, [], ◌∷◌, ◌++◌, map, length, get_or, drop, Result, Ok, Err, refl, sym, ap, ◌∙◌, append_assoc}
use Rattle.std.specs.Global.{Vec}
use Rattle.std.specs.List.{AllByRecursion}
use Rattle.std.proofs.lemmas.List.{drop_more, drop_all, map_push}
use Rattle.nest_memory.specs.TypeOf.{field_of}
use Rattle.nest_memory.specs.TypeTree.{FieldTree}
use Rattle.nest_memory.specs.declared.datatypes.field.Field.{Field}
use Rattle.ipc_flatbuf.specs.declared.error.IpcWriteError.{IpcWriteError}
use Rattle.ipc_flatbuf.specs.PartBytes.{bytes_of_each}
use Rattle.ipc_schema.specs.WriteChecks.{spec_check_each}
use Rattle.ipc_schema.specs.DictionaryIds.{total, each_from}
use Rattle.ipc_schema.specs.FieldLaws.{split}

pub fields_left : (fs : List Field) (i : ℕ) (f : Field) → i < length fs → f ≡ get_or fs i f → map field_of (drop i fs) ≡ field_of f ∷ map field_of (drop (i + 1) fs)
fields_left fs i f lt is = ap (λ (l : List Field). map field_of l) (drop_more fs i f lt ∙ ap (λ (g : Field). g ∷ drop (i + 1) fs) (sym is))

pub none_left : (fs : List Field) (i : ℕ) → length fs ≤ i → map field_of (drop i fs) ≡ []
none_left fs i le = ap (λ (l : List Field). map field_of l) (drop_all i fs le)

-- ---- the first error of fields

module _ (form : FieldTree → Result (Unit {0}) IpcWriteError) where
  pub form_more : (fs : List Field) (i : ℕ) (f : Field) → i < length fs → f ≡ get_or fs i f → form (field_of f) ≡ Ok tt → spec_check_each form (map field_of (drop i fs)) ≡ spec_check_each form (map field_of fs)
      → spec_check_each form (map field_of (drop (i + 1) fs)) ≡ spec_check_each form (map field_of fs)
  unfolding spec_check_each
  form_more fs i f lt is one so_far =
      let next : spec_check_each form (map field_of (drop i fs)) ≡ spec_check_each form (map field_of (drop (i + 1) fs)) = rw (fields_left fs i f lt is, one) refl in
      sym next ∙ so_far

  pub form_ends : (fs : List Field) (i : ℕ) (f : Field) (why : IpcWriteError) → i < length fs → f ≡ get_or fs i f → form (field_of f) ≡ Err why → spec_check_each form (map field_of (drop i fs)) ≡ spec_check_each form (map field_of fs) → spec_check_each form (map field_of fs) ≡ Err why
  unfolding spec_check_each
  form_ends fs i f why lt is one so_far = sym so_far ∙ rw (fields_left fs i f lt is, one) refl

  pub form_done : (fs : List Field) (i : ℕ) → length fs ≤ i → spec_check_each form (map field_of (drop i fs)) ≡ spec_check_each form (map field_of fs) → spec_check_each form (map field_of fs) ≡ Ok tt
  unfolding spec_check_each
  form_done fs i le so_far = sym so_far ∙ rw (none_left fs i le) refl

  -- each of fields that can be written can be
  pub form_next : (fs : List Field) (i : ℕ) (f : Field) → i < length fs → f ≡ get_or fs i f → spec_check_each form (map field_of (drop i fs)) ≡ Ok tt → (form (field_of f) ≡ Ok tt) × (spec_check_each form (map field_of (drop (i + 1) fs)) ≡ Ok tt)
  form_next fs i f lt is so_far = split form (field_of f) (map field_of (drop (i + 1) fs)) (rw (fields_left fs i f lt is) at so_far)

-- ---- their bytes

-- the parts so far, followed by the rest
pub parts_more : (old : List (Vec ℕ)) (part : Vec ℕ) (first : List ℕ) (rest total : List (List ℕ)) → part.items ≡ first → bytes_of_each old ++ first ∷ rest ≡ total → bytes_of_each (old ++ part ∷ []) ++ rest ≡ total
parts_more old part first rest total is so_far = rw (map_push (λ (p : Vec ℕ). p.items) old part, is) (append_assoc (bytes_of_each old) (first ∷ []) rest ∙ so_far)

module _ {A : Type 0} (count : FieldTree → ℕ) (make : ℕ → FieldTree → A) where
  pub made_left : (next : ℕ) (fs : List Field) (i : ℕ) (f : Field) → i < length fs → f ≡ get_or fs i f → each_from count make next (map field_of (drop i fs)) ≡ make next (field_of f) ∷ each_from count make (next + count (field_of f)) (map field_of (drop (i + 1) fs))
  unfolding each_from
  made_left next fs i f lt is = ap (λ (l : List FieldTree). each_from count make next l) (fields_left fs i f lt is)

pub counts_left : (count : FieldTree → ℕ) (fs : List Field) (i : ℕ) (f : Field) → i < length fs → f ≡ get_or fs i f → total count (map field_of (drop i fs)) ≡ count (field_of f) + total count (map field_of (drop (i + 1) fs))
unfolding total
counts_left count fs i f lt is = ap (λ (l : List FieldTree). total count l) (fields_left fs i f lt is)

pub nothing_counted : (count : FieldTree → ℕ) (fs : List Field) (i : ℕ) → length fs ≤ i → total count (map field_of (drop i fs)) ≡ 0
unfolding total
nothing_counted count fs i le = ap (λ (l : List FieldTree). total count l) (none_left fs i le)

pub nothing_made : {A : Type 0} (count : FieldTree → ℕ) (make : ℕ → FieldTree → A) (next : ℕ) (fs : List Field) (i : ℕ) → length fs ≤ i → each_from count make next (map field_of (drop i fs)) ≡ []
unfolding each_from
nothing_made count make next fs i le = ap (λ (l : List FieldTree). each_from count make next l) (none_left fs i le)

pub fits_more : (Fits : FieldTree → Type 0) (fs : List Field) (i : ℕ) (f : Field) → i < length fs → f ≡ get_or fs i f → Fits (field_of f) → (AllByRecursion Fits (map field_of (drop i fs)) → AllByRecursion Fits (map field_of fs))
    → AllByRecursion Fits (map field_of (drop (i + 1) fs)) → AllByRecursion Fits (map field_of fs)
fits_more Fits fs i f lt is fits so_far rest = so_far (rw (fields_left fs i f lt is) (fits, rest))

pub fits_done : (Fits : FieldTree → Type 0) (fs : List Field) (i : ℕ) → length fs ≤ i → (AllByRecursion Fits (map field_of (drop i fs)) → AllByRecursion Fits (map field_of fs)) → AllByRecursion Fits (map field_of fs)
fits_done Fits fs i le so_far = so_far (rw (none_left fs i le) tt)
