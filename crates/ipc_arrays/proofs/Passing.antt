-- Loops over the steps of a projection.
use Rattle.std.proofs.Common.{◌≡◌, ℕ, suc, ◌-◌, ◌+◌, ◌<◌, ◌≤◌, List, [], ◌∷◌, ◌++◌, length, get_or, drop, map, Result, Ok, Err, refl, sym, ap, ◌∙◌, append_assoc, arith}
use Rattle.std.specs.Prelude.{ℤ}
use Rattle.std.proofs.lemmas.List.{append-nil, length-append, map-append, drop_more, drop_all}
use Rattle.ipc_flatbuf.specs.declared.error.IpcReadError.{IpcReadError}
use Rattle.ipc_flatbuf.specs.declared.error.IpcReadError.TheVariants.{BufferCount}
use Rattle.ipc_flatbuf.specs.declared.batch.parts.BufferSpec.{BufferSpec}
use Rattle.ipc_flatbuf.specs.declared.projection.SkippedField.{SkippedField}
use Rattle.ipc_flatbuf.specs.declared.projection.FieldAction.{FieldAction}
use Rattle.ipc_flatbuf.specs.declared.projection.FieldAction.TheVariants.{Read, Skip}
use Rattle.ipc_flatbuf.specs.ReadResults.{◌>>=◌, FailsOrRunsOut}
use Rattle.ipc_flatbuf.specs.Flatbuffers.{spec_non_negative}
use Rattle.nest_memory.specs.TypeTree.{TypeTree}
use Rattle.nest_model.specs.Layout.{Layout}
use Rattle.ipc_arrays.specs.Decoding.{Rest, decoded_column}
use Rattle.ipc_arrays.specs.Projection.{ProjectionState, skip_first, skipped_views, skipped_column, decoded_steps}
use Rattle.ipc_arrays.specs.declared.cursor.ExpectedLength.TheVariants.{Rows}
use Rattle.ipc_arrays.proofs.Orders.{with_projection}

-- ---- variadic buffers

abbrev Views : Type 0
Views = Result (List BufferSpec × List ℤ) IpcReadError

abbrev with_counts : List ℤ → Result (List BufferSpec) IpcReadError → Views
with_counts more rest = rest >>= λ r. Ok (r, more)

abbrev on : ℕ → Views → Views
on n read = read >>= λ x. skipped_views n x.1 x.0

counted_then : (n : ℕ) (more : List ℤ) (rest : Result (List BufferSpec) IpcReadError) → (rest >>= skipped_views n more) ≡ on n (with_counts more rest)
counted_then n more (Ok r) = refl
counted_then n more (Err f) = refl

abbrev all_on : ℕ → List ℤ → Result ℕ IpcReadError → (ℕ → Result (List BufferSpec) IpcReadError) → Views
all_on n more size left = size >>= λ k. left k >>= skipped_views n more

abbrev one_on : List ℤ → Result ℕ IpcReadError → (ℕ → Result (List BufferSpec) IpcReadError) → Views
one_on more size left = size >>= λ k. with_counts more (left k)

count_then : (n : ℕ) (more : List ℤ) (size : Result ℕ IpcReadError) (left : ℕ → Result (List BufferSpec) IpcReadError) → all_on n more size left ≡ on n (one_on more size left)
count_then n more (Ok k) left = counted_then n more (left k)
count_then n more (Err f) left = refl

-- the first of them, then the others
views_first : (n : ℕ) (more : List ℤ) (buffers : List BufferSpec) → skipped_views (suc n) more buffers ≡ on n (skipped_views 1 more buffers)
unfolding skipped_views
views_first n [] buffers = refl
views_first n (count ∷ more) buffers = count_then n more (spec_non_negative BufferCount count) (λ k. skip_first BufferCount k buffers)

module _ (views i : ℕ) (more : List ℤ) (buffers : List BufferSpec) (total : Views) where
  pub views_go_on : (buffers' : List BufferSpec) (more' : List ℤ) → i < views → skipped_views 1 more buffers ≡ Ok (buffers', more') → skipped_views (views - i) more buffers ≡ total → skipped_views (views - (i + 1)) more' buffers' ≡ total
  views_go_on buffers' more' lt h so_far =
      let k : views - i ≡ suc (views - (i + 1)) = omega arith in
      let one : skipped_views (views - i) more buffers ≡ skipped_views (views - (i + 1)) more' buffers' = rw k (views_first (views - (i + 1)) more buffers ∙ rw h refl) in
      sym one ∙ so_far

  pub views_end : (f : IpcReadError) → i < views → skipped_views 1 more buffers ≡ Err f → skipped_views (views - i) more buffers ≡ total → total ≡ Err f
  views_end f lt h so_far =
      let k : views - i ≡ suc (views - (i + 1)) = omega arith in
      let one : skipped_views (views - i) more buffers ≡ Err f = rw k (views_first (views - (i + 1)) more buffers ∙ rw h refl) in
      sym so_far ∙ one

  pub views_are_done : views ≤ i → skipped_views (views - i) more buffers ≡ total → total ≡ Ok (buffers, more)
  unfolding skipped_views
  views_are_done le so_far =
      let k : views - i ≡ 0 = omega arith in
      let one : skipped_views (views - i) more buffers ≡ Ok (buffers, more) = rw k refl in
      sym so_far ∙ one

pub views_start : (views : ℕ) (more : List ℤ) (buffers : List BufferSpec) → skipped_views (views - 0) more buffers ≡ skipped_views views more buffers
views_start views more buffers = let k : views - 0 ≡ views = omega arith in ap (λ (n : ℕ). skipped_views n more buffers) k

-- ---- steps

regroup : (front : List Layout) (a : Layout) (read : Result (List Layout × Rest) IpcReadError) → with_projection front (read >>= λ x. Ok (a ∷ x.0, x.1)) ≡ with_projection (front ++ a ∷ []) read
regroup front a (Ok x) = ap (λ (as_ : List Layout). Ok (as_, x.1)) (simp append_assoc)
regroup front a (Err f) = refl

module _ (steps : List FieldAction) (i : ℕ) (rows : ℕ) (body : List ℕ) (front : List Layout) (left : List TypeTree) (ahead : ProjectionState) (total : Result (List Layout × Rest) IpcReadError) where
  pub pass_goes_on : (d : FieldAction) (s : SkippedField) (after : ProjectionState) → i < length steps → get_or steps i d ≡ Skip s → skipped_column s ahead ≡ Ok after → with_projection front (decoded_steps (drop i steps) left rows body ahead) ≡ total
      → with_projection front (decoded_steps (drop (i + 1) steps) left rows body after) ≡ total
  unfolding decoded_steps
  pass_goes_on d s after lt e h so_far =
      let one : with_projection front (decoded_steps (drop i steps) left rows body ahead) ≡ with_projection front (decoded_steps (drop (i + 1) steps) left rows body after) = rw (drop_more steps i d lt, e, h) refl in
      sym one ∙ so_far

  pub pass_ends : (d : FieldAction) (s : SkippedField) (f : IpcReadError) → i < length steps → get_or steps i d ≡ Skip s → skipped_column s ahead ≡ Err f → with_projection front (decoded_steps (drop i steps) left rows body ahead) ≡ total → total ≡ Err f
  unfolding decoded_steps
  pass_ends d s f lt e h so_far =
      let one : with_projection front (decoded_steps (drop i steps) left rows body ahead) ≡ Err f = rw (drop_more steps i d lt, e, h) refl in
      sym so_far ∙ one

  pub read_goes_on : (d : FieldAction) (t : TypeTree) (others : List TypeTree) (a : Layout) (rest : Rest) → i < length steps → get_or steps i d ≡ Read → left ≡ t ∷ others → decoded_column t (Rows rows) body ahead.rest ≡ Ok (a, rest)
      → with_projection front (decoded_steps (drop i steps) left rows body ahead) ≡ total → with_projection (front ++ a ∷ []) (decoded_steps (drop (i + 1) steps) others rows body (record { rest = rest; more = ahead.more })) ≡ total
  unfolding decoded_steps
  read_goes_on d t others a rest lt e l h so_far =
      let one : with_projection front (decoded_steps (drop i steps) left rows body ahead) ≡ with_projection (front ++ a ∷ []) (decoded_steps (drop (i + 1) steps) others rows body (record { rest = rest; more = ahead.more })) =
      rw (drop_more steps i d lt, e, l, h) (regroup front a (decoded_steps (drop (i + 1) steps) others rows body (record { rest = rest; more = ahead.more }))) in
      sym one ∙ so_far

  pub read_ends : (d : FieldAction) (t : TypeTree) (others : List TypeTree) (f : IpcReadError) → i < length steps → get_or steps i d ≡ Read → left ≡ t ∷ others → FailsOrRunsOut f (decoded_column t (Rows rows) body ahead.rest)
      → with_projection front (decoded_steps (drop i steps) left rows body ahead) ≡ total → FailsOrRunsOut f total
  unfolding decoded_steps
  read_ends d t others f lt e l h so_far = λ known.
      let k : decoded_column t (Rows rows) body ahead.rest ≡ Err f = h known in
      let one : with_projection front (decoded_steps (drop i steps) left rows body ahead) ≡ Err f = rw (drop_more steps i d lt, e, l, k) refl in
      sym so_far ∙ one

  pub no_type_left : (d : FieldAction) → i < length steps → get_or steps i d ≡ Read → left ≡ [] → with_projection front (decoded_steps (drop i steps) left rows body ahead) ≡ total → total ≡ Ok (front, ahead.rest)
  unfolding decoded_steps
  no_type_left d lt e l so_far =
      let one : with_projection front (decoded_steps (drop i steps) left rows body ahead) ≡ Ok (front, ahead.rest) = rw (drop_more steps i d lt, e, l) (ap (λ (as_ : List Layout). Ok (as_, ahead.rest)) (append-nil front)) in
      sym so_far ∙ one

  pub steps_are_done : length steps ≤ i → with_projection front (decoded_steps (drop i steps) left rows body ahead) ≡ total → total ≡ Ok (front, ahead.rest)
  unfolding decoded_steps
  steps_are_done le so_far =
      let one : with_projection front (decoded_steps (drop i steps) left rows body ahead) ≡ Ok (front, ahead.rest) = rw (drop_all i steps le) (ap (λ (as_ : List Layout). Ok (as_, ahead.rest)) (append-nil front)) in
      sym so_far ∙ one

module _ {A : Type 0} (tree : A → TypeTree) (xs : List A) (k n : ℕ) (same : n ≡ k) where
  pub types_left : (x : A) → n < length xs → x ≡ get_or xs n x → map tree (drop k xs) ≡ tree x ∷ map tree (drop (k + 1) xs)
  types_left x lt is = rw (← same) (ap (map tree) (drop_more xs n x lt ∙ ap (λ (y : A). y ∷ drop (n + 1) xs) (sym is)))

  pub no_types_left : length xs ≤ n → map tree (drop k xs) ≡ []
  no_types_left le = rw (← same) (ap (map tree) (drop_all n xs le))

-- the invariant after one more column
pub pushed : {A B : Type 0} (view : B → Layout) (tree : A → TypeTree) (xs : List A) (old new : List B) (b : B) (P : List TypeTree → List Layout → Type 0) → new ≡ old ++ b ∷ [] → P (map tree (drop (length old + 1) xs)) (map view old ++ view b ∷ []) → P (map tree (drop (length new) xs)) (map view new)
pushed view tree xs old new b P e h =
    let n : length new ≡ length old + 1 = rw e (length-append old (b ∷ [])) in
    let m : map view new ≡ map view old ++ view b ∷ [] = rw e (map-append view old (b ∷ [])) in
    rw (n, m) h
