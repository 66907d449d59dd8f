-- Buffers are within the body that they are written to, and are read from it.
use Rattle.std.proofs.Common.{◌≡◌, ℕ, ◌+◌, ◌-◌, ◌*◌, ◌%◌, ◌≤◌, leb, true, List, [], ◌∷◌, ◌++◌, length, take, drop, map, sum, Ok, refl, sym, ap, ◌∙◌, append_assoc, arith}
use Rattle.std.specs.Prelude.{pos}
use Rattle.std.specs.Int.{div_ceil}
use Rattle.std.proofs.lemmas.Bool.{le-leb}
use Rattle.std.proofs.lemmas.List.{length-append, length-take, take_at}
use Rattle.std.proofs.lemmas.List.Concat.{flat_map-cons, flat_map-append}
use Rattle.std.proofs.lemmas.List.Sums.{sum-map, sum_by-cons}
use Rattle.ipc_flatbuf.specs.FlatbufferLaws.{From, From-length, From_next}
use Rattle.ipc_flatbuf.specs.MessageBytes.{padding}
use Rattle.ipc_flatbuf.specs.declared.batch.parts.BufferSpec.{BufferSpec}
use Rattle.ipc_flatbuf.specs.Batches.{length_of, spec_each_within, spec_all_within}
use Rattle.ipc_arrays.specs.Decoding.{buffer_slice, first_buffer}
use Rattle.ipc_arrays.specs.BodyBuffers.{padded, body_of, buffer_specs}

pub padded_long : (bytes : List ℕ) → length (padded bytes) ≡ 8 * div_ceil (length bytes) 8
unfolding padded
padded_long bytes = omega (arith, length-append bytes (padding (length bytes)), length-take {A = ℕ} ((8 - length bytes % 8) % 8) (0 ∷ 0 ∷ 0 ∷ 0 ∷ 0 ∷ 0 ∷ 0 ∷ 0 ∷ []))

pub body_more : (bytes : List ℕ) (buffers : List (List ℕ)) → body_of (bytes ∷ buffers) ≡ padded bytes ++ body_of buffers
unfolding body_of
body_more bytes buffers = flat_map-cons padded bytes buffers

pub body_append : (first buffers : List (List ℕ)) → body_of (first ++ buffers) ≡ body_of first ++ body_of buffers
unfolding body_of
body_append first buffers = flat_map-append padded first buffers

pub body_none : body_of [] ≡ []
unfolding body_of
body_none = refl

pub buffer_specs_append : (place : ℕ) (first buffers : List (List ℕ)) → buffer_specs place (first ++ buffers) ≡ buffer_specs place first ++ buffer_specs (place + length (body_of first)) buffers
unfolding buffer_specs body_of
buffer_specs_append place [] buffers = let e : place + 0 ≡ place = omega arith in ap (λ n. buffer_specs n buffers) (sym e)
buffer_specs_append place (bytes ∷ first) buffers =
    let long : length (body_of (bytes ∷ first)) ≡ length (padded bytes) + length (body_of first) = ap length (body_more bytes first) ∙ length-append (padded bytes) (body_of first) in
    let e : place + length (padded bytes) + length (body_of first) ≡ place + length (body_of (bytes ∷ first)) = omega arith in
    let r : BufferSpec = record { offset = pos place; length = pos (length bytes) } in
    ap (λ (rs : List BufferSpec). r ∷ rs) (buffer_specs_append (place + length (padded bytes)) first buffers)
    ∙ ap (λ n. r ∷ (buffer_specs (place + length (padded bytes)) first ++ buffer_specs n buffers)) e

-- the next buffer of a body is read
pub next_again : (whole : List ℕ) (place : ℕ) (bytes : List ℕ) (buffers : List (List ℕ)) (tail : List ℕ) (more : List BufferSpec) → From whole place (body_of (bytes ∷ buffers) ++ tail)
    → first_buffer whole (buffer_specs place (bytes ∷ buffers) ++ more) ≡ Ok (bytes, buffer_specs (place + length (padded bytes)) buffers ++ more)
unfolding first_buffer buffer_slice buffer_specs padded
next_again whole place bytes buffers tail more h =
    let gap : List ℕ = padding (length bytes) in
    let e : body_of (bytes ∷ buffers) ++ tail ≡ bytes ++ (gap ++ (body_of buffers ++ tail)) = ap (λ (x : List ℕ). x ++ tail) (body_more bytes buffers) ∙ append_assoc (padded bytes) (body_of buffers) tail ∙ append_assoc bytes gap (body_of buffers ++ tail) in
    let is : drop place whole ≡ bytes ++ (gap ++ (body_of buffers ++ tail)) = h.is ∙ e in
    let within : place + length bytes ≤ length whole = omega (arith, From-length whole place (body_of (bytes ∷ buffers) ++ tail) h, ap length e, length-append bytes (gap ++ (body_of buffers ++ tail))) in
    let fits : leb (place + length bytes) (length whole) ≡ true = le-leb _ _ within in
    let cut : take (length bytes) (drop place whole) ≡ bytes = ap (take (length bytes)) is ∙ take_at bytes (gap ++ (body_of buffers ++ tail)) (length bytes) refl in
    rw (fits, cut) refl

-- the other buffers follow it
pub next_behind : (whole : List ℕ) (place : ℕ) (bytes : List ℕ) (buffers : List (List ℕ)) (tail : List ℕ) → From whole place (body_of (bytes ∷ buffers) ++ tail) → From whole (place + length (padded bytes)) (body_of buffers ++ tail)
next_behind whole place bytes buffers tail h =
    let e : body_of (bytes ∷ buffers) ++ tail ≡ padded bytes ++ (body_of buffers ++ tail) = ap (λ (x : List ℕ). x ++ tail) (body_more bytes buffers) ∙ append_assoc (padded bytes) (body_of buffers) tail in
    From_next whole place (padded bytes) (body_of buffers ++ tail) (record { is = h.is ∙ e; within = h.within })

each_in_body : (total place : ℕ) (buffers : List (List ℕ)) → place + length (body_of buffers) ≤ total → spec_each_within total (buffer_specs place buffers) ≡ Ok tt
unfolding spec_each_within buffer_specs padded
each_in_body total place [] le = refl
each_in_body total place (bytes ∷ buffers) le =
    let long : length (body_of (bytes ∷ buffers)) ≡ length (padded bytes) + length (body_of buffers) = ap length (body_more bytes buffers) ∙ length-append (padded bytes) (body_of buffers) in
    let fits : leb (place + length bytes) total ≡ true = le-leb _ _ (omega (arith, length-append bytes (padding (length bytes)))) in
    rw fits (each_in_body total (place + length (padded bytes)) buffers (omega arith))

sum_more : {A : Type 0} (f : A → ℕ) (x : A) (xs : List A) → sum (map f (x ∷ xs)) ≡ f x + sum (map f xs)
sum_more f x xs = sum-map f (x ∷ xs) ∙ sum_by-cons f x xs ∙ ap (λ (n : ℕ). f x + n) (sym (sum-map f xs))

together_in_body : (place : ℕ) (buffers : List (List ℕ)) → sum (map length_of (buffer_specs place buffers)) ≤ length (body_of buffers)
unfolding buffer_specs padded
together_in_body place [] = omega arith
together_in_body place (bytes ∷ buffers) =
    let long : length (body_of (bytes ∷ buffers)) ≡ length (padded bytes) + length (body_of buffers) = ap length (body_more bytes buffers) ∙ length-append (padded bytes) (body_of buffers) in
    let r : BufferSpec = record { offset = pos place; length = pos (length bytes) } in
    let rest = together_in_body (place + length (padded bytes)) buffers in
    omega (arith, sum_more length_of r (buffer_specs (place + length (padded bytes)) buffers), length-append bytes (padding (length bytes)))

-- all buffers are within the body
pub all_in_body : (buffers : List (List ℕ)) → spec_all_within (length (body_of buffers)) (buffer_specs 0 buffers) ≡ Ok tt
unfolding spec_all_within
all_in_body buffers =
    let fits : leb (sum (map length_of (buffer_specs 0 buffers))) (length (body_of buffers)) ≡ true = le-leb _ _ (together_in_body 0 buffers) in
    rw (each_in_body (length (body_of buffers)) 0 buffers (omega arith), fits) refl
