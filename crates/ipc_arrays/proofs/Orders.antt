-- A loop that reads the columns of a record batch.
use Rattle.std.proofs.Common.{◌≡◌, ℕ, ◌+◌, ◌<◌, ◌≤◌, List, [], ◌∷◌, ◌++◌, length, get_or, drop, map, Result, Ok, Err, refl, sym, ap, ◌∙◌, append_assoc}
use Rattle.std.proofs.lemmas.List.{append-nil, map-append, drop_more, drop_all}
use Rattle.ipc_flatbuf.specs.declared.error.IpcReadError.{IpcReadError}
use Rattle.ipc_flatbuf.specs.ReadResults.{◌>>=◌, FailsOrRunsOut}
use Rattle.nest_memory.specs.TypeTree.{TypeTree}
use Rattle.nest_model.specs.Layout.{Layout}
use Rattle.ipc_arrays.specs.Decoding.{Rest, decoded_column, decoded_each}
use Rattle.ipc_arrays.specs.declared.cursor.ExpectedLength.TheVariants.{Rows}

-- the columns that were read, then those that are still to be read
abbrev pub with_projection : List Layout → Result (List Layout × Rest) IpcReadError → Result (List Layout × Rest) IpcReadError
with_projection front read = read >>= λ x. Ok (front ++ x.0, x.1)

regroup : (front : List Layout) (a : Layout) (read : Result (List Layout × Rest) IpcReadError) → with_projection front (read >>= λ x. Ok (a ∷ x.0, x.1)) ≡ with_projection (front ++ a ∷ []) read
regroup front a (Ok x) = ap (λ (as_ : List Layout). Ok (as_, x.1)) (simp append_assoc)
regroup front a (Err f) = refl

module _ {A B : Type 0} (view : B → Layout) (tree : A → TypeTree) (xs : List A) (rows : ℕ) (body : List ℕ) (i : ℕ) where
  left_is : (x : A) → i < length xs → x ≡ get_or xs i x → map tree (drop i xs) ≡ tree x ∷ map tree (drop (i + 1) xs)
  left_is x lt is = ap (map tree) (drop_more xs i x lt ∙ ap (λ (y : A). y ∷ drop (i + 1) xs) (sym is))

  pub order_goes_on : (front new : List B) (b : B) (x : A) (rest tail : Rest) (total : Result (List Layout × Rest) IpcReadError) → i < length xs → x ≡ get_or xs i x → new ≡ front ++ b ∷ []
      → decoded_column (tree x) (Rows rows) body rest ≡ Ok (view b, tail) → with_projection (map view front) (decoded_each (map tree (drop i xs)) rows body rest) ≡ total → with_projection (map view new) (decoded_each (map tree (drop (i + 1) xs)) rows body tail) ≡ total
  unfolding decoded_each
  order_goes_on front new b x rest tail total lt is e h so_far =
      let one : with_projection (map view front) (decoded_each (map tree (drop i xs)) rows body rest) ≡ with_projection (map view front ++ view b ∷ []) (decoded_each (map tree (drop (i + 1) xs)) rows body tail) = rw (left_is x lt is, h) (regroup (map view front) (view b) (decoded_each (map tree (drop (i + 1) xs)) rows body tail)) in
      rw (e, map-append view front (b ∷ [])) (sym one ∙ so_far)

  pub order_ends : (f : IpcReadError) (front : List B) (x : A) (rest : Rest) (total : Result (List Layout × Rest) IpcReadError) → i < length xs → x ≡ get_or xs i x
      → FailsOrRunsOut f (decoded_column (tree x) (Rows rows) body rest) → with_projection (map view front) (decoded_each (map tree (drop i xs)) rows body rest) ≡ total → FailsOrRunsOut f total
  unfolding decoded_each
  order_ends f front x rest total lt is h so_far = λ known.
      let e : decoded_column (tree x) (Rows rows) body rest ≡ Err f = h known in
      let one : with_projection (map view front) (decoded_each (map tree (drop i xs)) rows body rest) ≡ Err f = rw (left_is x lt is, e) refl in
      sym so_far ∙ one

  pub order_is_done : (front : List B) (rest : Rest) (total : Result (List Layout × Rest) IpcReadError) → length xs ≤ i → with_projection (map view front) (decoded_each (map tree (drop i xs)) rows body rest) ≡ total → total ≡ Ok (map view front, rest)
  unfolding decoded_each
  order_is_done front rest total le so_far =
      let one : with_projection (map view front) (decoded_each (map tree (drop i xs)) rows body rest) ≡ Ok (map view front, rest) = rw (drop_all i xs le) (ap (λ (as_ : List Layout). Ok (as_, rest)) (append-nil (map view front))) in
      sym so_far ∙ one

pub order_starts : (read : Result (List Layout × Rest) IpcReadError) → with_projection [] read ≡ read
order_starts (Ok x) = refl
order_starts (Err f) = refl
