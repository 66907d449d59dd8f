-- Loop invariants of reading some fields of a vector.
use Rattle.std.proofs.Common.{◌≡◌, ℕ, suc, ◌-◌, ◌+◌, ◌*◌, ◌≤◌, ◌<◌, List, [], ◌∷◌, ◌++◌, Result, Ok, Err, refl, sym, ap, ◌∙◌, append_assoc, arith}
use Rattle.std.proofs.lemmas.List.{append-nil}
use Rattle.nest_memory.specs.TypeTree.{FieldTree}
use Rattle.ipc_flatbuf.specs.declared.error.IpcReadError.{IpcReadError}
use Rattle.ipc_flatbuf.specs.declared.projection.FieldAction.{FieldAction}
use Rattle.ipc_flatbuf.specs.declared.projection.FieldAction.TheVariants.{Read, Skip}
use Rattle.ipc_flatbuf.specs.declared.projection.StoredArray.{StoredArray}
use Rattle.ipc_flatbuf.specs.declared.projection.StoredArray.TheVariants.{Skipped}
use Rattle.ipc_flatbuf.specs.ReadResults.{◌>>=◌, FailsOrRunsOut}
use Rattle.ipc_flatbuf.specs.Flatbuffers.{spec_offset_at}
use Rattle.ipc_schema.specs.Dictionaries.{Progress}
use Rattle.ipc_schema.specs.Projections.{ProjectionModel}
use Rattle.ipc_schema.specs.StoredTypes.{read_field}
use Rattle.ipc_schema.specs.StoredArrays.{field_arrays}
use Rattle.ipc_schema.specs.ProjectedSchemas.{ProjectedItem, read, passed, ProjectedFields, no_fields, with_item, joined_fields, spec_item_at, spec_projected_fields_at}

-- the fields so far, followed by the rest
abbrev pub with_parts : ProjectedFields → Result (ProjectedFields × Progress) IpcReadError → Result (ProjectedFields × Progress) IpcReadError
with_parts front rest = rest >>= λ x. Ok (joined_fields front x.0, x.1)

-- the fields from index i
abbrev pub picked_left : ProjectionModel → List ℕ → ℕ → ℕ → ℕ → Progress → Result (ProjectedFields × Progress) IpcReadError
picked_left picks bytes count first i so_far = spec_projected_fields_at picks bytes i (count - i) (first + 4 * i) so_far

abbrev parts : List FieldAction → List FieldTree → List StoredArray → ProjectedFields
parts steps fields arrays = record { steps = steps; fields = fields; arrays = arrays }

parts_are : (steps steps' : List FieldAction) (fields fields' : List FieldTree) (arrays arrays' : List StoredArray) → steps ≡ steps' → fields ≡ fields' → arrays ≡ arrays' → parts steps fields arrays ≡ parts steps' fields' arrays'
parts_are steps steps' fields fields' arrays arrays' a b c = rw (a, b, c) refl

-- the arrays of a field between others
between : (before own after : List StoredArray) → before ++ (own ++ after) ≡ (before ++ (own ++ [])) ++ after
between before own after = sym (append_assoc before own after) ∙ ap (λ (xs : List StoredArray). (before ++ xs) ++ after) (sym (append-nil own))

one_more : (p x : ProjectedFields) (item : ProjectedItem) → joined_fields p (with_item item x) ≡ joined_fields (joined_fields p (with_item item no_fields)) x
one_more p x (read f) =
    parts_are (p.steps ++ Read ∷ x.steps) ((p.steps ++ Read ∷ []) ++ x.steps) (p.fields ++ read_field f ∷ x.fields) ((p.fields ++ read_field f ∷ []) ++ x.fields) (p.arrays ++ (field_arrays f ++ x.arrays)) ((p.arrays ++ (field_arrays f ++ [])) ++ x.arrays) (sym (append_assoc p.steps (Read ∷ []) x.steps))
    (sym (append_assoc p.fields (read_field f ∷ []) x.fields)) (between p.arrays (field_arrays f) x.arrays)
one_more p x (passed s) =
    parts_are (p.steps ++ Skip s ∷ x.steps) ((p.steps ++ Skip s ∷ []) ++ x.steps) (p.fields ++ x.fields) ((p.fields ++ []) ++ x.fields) (p.arrays ++ Skipped s ∷ x.arrays) ((p.arrays ++ Skipped s ∷ []) ++ x.arrays) (sym (append_assoc p.steps (Skip s ∷ []) x.steps)) (ap (λ (fs : List FieldTree). fs ++ x.fields) (sym (append-nil p.fields)))
    (sym (append_assoc p.arrays (Skipped s ∷ []) x.arrays))

none_more : (p : ProjectedFields) → joined_fields p no_fields ≡ p
none_more p = parts_are (p.steps ++ []) p.steps (p.fields ++ []) p.fields (p.arrays ++ []) p.arrays (append-nil p.steps) (append-nil p.fields) (append-nil p.arrays)

regroup : (p : ProjectedFields) (item : ProjectedItem) (rest : Result (ProjectedFields × Progress) IpcReadError) → with_parts p (rest >>= λ x. Ok (with_item item x.0, x.1)) ≡ with_parts (joined_fields p (with_item item no_fields)) rest
regroup p item (Ok x) = ap (λ (q : ProjectedFields). Ok (q, x.1)) (one_more p x.0 item)
regroup p item (Err f) = refl

module _ (picks : ProjectionModel) (bytes : List ℕ) (front : ProjectedFields) (count first i : ℕ) (so_far : Progress) (total : Result (ProjectedFields × Progress) IpcReadError) where
  pub pick_goes_on : (to : ℕ) (item : ProjectedItem) (after : Progress) (new : ProjectedFields) → i < count → spec_offset_at bytes (first + 4 * i) ≡ Ok to → spec_item_at picks bytes i to so_far ≡ Ok (item, after)
      → new ≡ joined_fields front (with_item item no_fields) → with_parts front (picked_left picks bytes count first i so_far) ≡ total → with_parts new (picked_left picks bytes count first (i + 1) after) ≡ total
  unfolding spec_projected_fields_at
  pick_goes_on to item after new lt o h e before =
      let k : count - i ≡ suc (count - (i + 1)) = omega arith in
      let p : first + 4 * i + 4 ≡ first + 4 * (i + 1) = omega arith in
      let step : with_parts front (picked_left picks bytes count first i so_far) ≡ with_parts (joined_fields front (with_item item no_fields)) (picked_left picks bytes count first (i + 1) after) =
      rw (k, o, h, p) (regroup front item (spec_projected_fields_at picks bytes (i + 1) (count - (i + 1)) (first + 4 * (i + 1)) after)) in
      rw e (sym step ∙ before)

  pub pick_lacks_offset : (f : IpcReadError) → i < count → spec_offset_at bytes (first + 4 * i) ≡ Err f → with_parts front (picked_left picks bytes count first i so_far) ≡ total → total ≡ Err f
  unfolding spec_projected_fields_at
  pick_lacks_offset f lt o before =
      let k : count - i ≡ suc (count - (i + 1)) = omega arith in
      let step : with_parts front (picked_left picks bytes count first i so_far) ≡ Err f = rw (k, o) refl in
      sym before ∙ step

  pub pick_ends : (f : IpcReadError) (to : ℕ) → i < count → spec_offset_at bytes (first + 4 * i) ≡ Ok to → FailsOrRunsOut f (spec_item_at picks bytes i to so_far) → with_parts front (picked_left picks bytes count first i so_far) ≡ total → FailsOrRunsOut f total
  unfolding spec_projected_fields_at
  pick_ends f to lt o h before = λ known.
      let k : count - i ≡ suc (count - (i + 1)) = omega arith in
      let e : spec_item_at picks bytes i to so_far ≡ Err f = h known in
      let step : with_parts front (picked_left picks bytes count first i so_far) ≡ Err f = rw (k, o, e) refl in
      sym before ∙ step

  pub pick_is_done : count ≤ i → with_parts front (picked_left picks bytes count first i so_far) ≡ total → total ≡ Ok (front, so_far)
  unfolding spec_projected_fields_at
  pick_is_done le before =
      let k : count - i ≡ 0 = omega arith in
      let step : with_parts front (picked_left picks bytes count first i so_far) ≡ Ok (front, so_far) = rw k (ap (λ (q : ProjectedFields). Ok (q, so_far)) (none_more front)) in
      sym before ∙ step

whole : (rest : Result (ProjectedFields × Progress) IpcReadError) → with_parts no_fields rest ≡ rest
whole (Ok x) = refl
whole (Err f) = refl

pub pick_starts : (picks : ProjectionModel) (bytes : List ℕ) (count first : ℕ) (so_far : Progress) → with_parts no_fields (picked_left picks bytes count first 0 so_far) ≡ spec_projected_fields_at picks bytes 0 count first so_far
pick_starts picks bytes count first so_far =
    let k : count - 0 ≡ count = omega arith in
    let p : first + 4 * 0 ≡ first = omega arith in
    rw (k, p) (whole (spec_projected_fields_at picks bytes 0 count first so_far))
