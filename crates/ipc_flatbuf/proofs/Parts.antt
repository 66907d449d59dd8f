-- Loop invariants of writing parts in turn.
use Rattle.std.proofs.Common.{◌≡◌, ℕ, ◌+◌, ◌-◌, ◌*◌, ◌<◌, ◌≤◌, List, [], ◌∷◌, ◌++◌, length, get_or, drop, sym, ap, ◌∙◌, append_assoc, arith}
use Rattle.std.specs.Global.{Vec}
use Rattle.std.proofs.lemmas.List.{append-nil, drop_more, drop_all, length-append, length-map, length-take}
use Rattle.ipc_flatbuf.specs.PartBytes.{u32_bytes, padding_zeros, offsets_size, offsets, concatenated, table_vector_bytes, bytes_of_each}
use Rattle.ipc_flatbuf.specs.VectorLaws.{offsets_long}

-- the first part that is left
front_is : (ps : List (Vec ℕ)) (i : ℕ) (p : Vec ℕ) → i < length ps → p ≡ get_or ps i p → bytes_of_each (drop i ps) ≡ p.items ∷ bytes_of_each (drop (i + 1) ps)
front_is ps i p lt is = ap bytes_of_each (drop_more ps i p lt ∙ ap (λ (q : Vec ℕ). q ∷ drop (i + 1) ps) (sym is))

pub front_together : (ps : List (Vec ℕ)) (i : ℕ) (p : Vec ℕ) → i < length ps → p ≡ get_or ps i p → concatenated (bytes_of_each (drop i ps)) ≡ p.items ++ concatenated (bytes_of_each (drop (i + 1) ps))
unfolding concatenated
front_together ps i p lt is = ap concatenated (front_is ps i p lt is)

pub bodies_more : (new old total : List ℕ) (i : ℕ) (ps : List (Vec ℕ)) (p : Vec ℕ) → i < length ps → p ≡ get_or ps i p → new ≡ old ++ p.items → old ++ concatenated (bytes_of_each (drop i ps)) ≡ total → new ++ concatenated (bytes_of_each (drop (i + 1) ps)) ≡ total
bodies_more new old total i ps p lt is written so_far =
    let rest : List ℕ = concatenated (bytes_of_each (drop (i + 1) ps)) in
    rw written (append_assoc old p.items rest) ∙ ap (λ (r : List ℕ). old ++ r) (sym (front_together ps i p lt is)) ∙ so_far

pub bodies_done : (out total : List ℕ) (i : ℕ) (ps : List (Vec ℕ)) → length ps ≤ i → out ++ concatenated (bytes_of_each (drop i ps)) ≡ total → out ≡ total
unfolding concatenated
bodies_done out total i ps le so_far = sym (append-nil out) ∙ ap (λ (l : List (Vec ℕ)). out ++ concatenated (bytes_of_each l)) (sym (drop_all i ps le)) ∙ so_far

pub row_more : (new old total : List ℕ) (head d e i : ℕ) (ps : List (Vec ℕ)) (p : Vec ℕ) → i < length ps → p ≡ get_or ps i p → new ≡ old ++ u32_bytes (d + head) → e ≡ d + length p.items - 4
    → old ++ offsets head d (bytes_of_each (drop i ps)) ≡ total → new ++ offsets head e (bytes_of_each (drop (i + 1) ps)) ≡ total
unfolding offsets
row_more new old total head d e i ps p lt is written far so_far =
    let rest : List ℕ = offsets head (d + length p.items - 4) (bytes_of_each (drop (i + 1) ps)) in
    let one : offsets head d (bytes_of_each (drop i ps)) ≡ u32_bytes (d + head) ++ rest = ap (λ (l : List (List ℕ)). offsets head d l) (front_is ps i p lt is) in
    rw (written, far) (append_assoc old (u32_bytes (d + head)) rest) ∙ ap (λ (r : List ℕ). old ++ r) (sym one) ∙ so_far

pub row_done : (out total : List ℕ) (head d i : ℕ) (ps : List (Vec ℕ)) → length ps ≤ i → out ++ offsets head d (bytes_of_each (drop i ps)) ≡ total → out ≡ total
unfolding offsets
row_done out total head d i ps le so_far = sym (append-nil out) ∙ ap (λ (l : List (Vec ℕ)). out ++ offsets head d (bytes_of_each l)) (sym (drop_all i ps le)) ∙ so_far

pub count_is : (ps : List (Vec ℕ)) → length (bytes_of_each ps) ≡ length ps
count_is ps = length-map ps (λ p. p.items)

pub row_bytes_long : (head : ℕ) (ps : List (Vec ℕ)) → length (table_vector_bytes head (bytes_of_each ps)) ≡ offsets_size (length ps) + length (concatenated (bytes_of_each ps))
unfolding table_vector_bytes u32_bytes
row_bytes_long head ps =
    let bodies : List (List ℕ) = bytes_of_each ps in
    let n : ℕ = length bodies in
    let k : ℕ = offsets_size n - (4 + 4 * n) in
    let rest : List ℕ = concatenated bodies in
    omega (arith, count_is ps, offsets_long head (offsets_size n - 4) bodies, length-append (offsets head (offsets_size n - 4) bodies) (padding_zeros k ++ rest), length-append (padding_zeros k) rest, length-take {A = ℕ} k (0 ∷ 0 ∷ 0 ∷ 0 ∷ 0 ∷ 0 ∷ 0 ∷ 0 ∷ []))
