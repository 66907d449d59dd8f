-- Loop invariants over nodes and buffers.
use Rattle.std.proofs.Common.{◌≡◌, ℕ, ◌+◌, ◌<◌, ◌≤◌, true, false, List, ◌∷◌, length, get_or, drop, Ok, Err, refl, sym, ap, ◌∙◌}
use Rattle.std.specs.List.{AllByRecursion}
use Rattle.std.proofs.lemmas.List.{drop_more, drop_all}
use Rattle.ipc_flatbuf.specs.declared.error.IpcReadError.TheVariants.{BufferRange}
use Rattle.ipc_flatbuf.specs.declared.batch.parts.BufferSpec.{BufferSpec}
use Rattle.ipc_flatbuf.specs.Batches.{spec_is_within, spec_each_within}

pub left_is : {A : Type 0} (xs : List A) (i : ℕ) (x : A) → i < length xs → x ≡ get_or xs i x → drop i xs ≡ x ∷ drop (i + 1) xs
left_is {A} xs i x lt is = drop_more xs i x lt ∙ ap (λ (y : A). y ∷ drop (i + 1) xs) (sym is)

pub fits_more : {A : Type 0} (P : A → Type 0) (xs : List A) (i : ℕ) (x : A) → i < length xs → x ≡ get_or xs i x → P x → (AllByRecursion P (drop i xs) → AllByRecursion P xs) → AllByRecursion P (drop (i + 1) xs) → AllByRecursion P xs
fits_more P xs i x lt is fits so_far rest = so_far (rw (left_is xs i x lt is) (fits, rest))

pub fits_done : {A : Type 0} (P : A → Type 0) (xs : List A) (i : ℕ) → length xs ≤ i → (AllByRecursion P (drop i xs) → AllByRecursion P xs) → AllByRecursion P xs
fits_done P xs i le so_far = so_far (rw (drop_all i xs le) tt)

pub within_more : (body : ℕ) (rs : List BufferSpec) (i : ℕ) (d : BufferSpec) → i < length rs → spec_is_within body (get_or rs i d).offset (get_or rs i d).length ≡ true → spec_each_within body (drop i rs) ≡ spec_each_within body rs → spec_each_within body (drop (i + 1) rs) ≡ spec_each_within body rs
unfolding spec_each_within
within_more body rs i d lt inside so_far =
    let one : spec_each_within body (drop i rs) ≡ spec_each_within body (drop (i + 1) rs) = rw (drop_more rs i d lt, inside) refl in
    sym one ∙ so_far

pub within_ends : (body : ℕ) (rs : List BufferSpec) (i : ℕ) (d : BufferSpec) → i < length rs → spec_is_within body (get_or rs i d).offset (get_or rs i d).length ≡ false → spec_each_within body (drop i rs) ≡ spec_each_within body rs → spec_each_within body rs ≡ Err BufferRange
unfolding spec_each_within
within_ends body rs i d lt outside so_far = sym so_far ∙ rw (drop_more rs i d lt, outside) refl

pub within_done : (body : ℕ) (rs : List BufferSpec) (i : ℕ) → length rs ≤ i → spec_each_within body (drop i rs) ≡ spec_each_within body rs → spec_each_within body rs ≡ Ok tt
unfolding spec_each_within
within_done body rs i le so_far = sym so_far ∙ rw (drop_all i rs le) refl
