-- Vectors of tables and vectors of structs round-trip.
use Rattle.std.proofs.Common.{◌≡◌, ℕ, ◌+◌, ◌-◌, ◌*◌, ◌^◌, ◌<◌, ◌≤◌, List, [], ◌∷◌, ◌++◌, length, drop, Some, sym, Result, Ok, refl, ap, ◌∙◌, append_assoc, arith}
use Rattle.std.specs.Int.{w32}
use Rattle.std.specs.List.{flat_map, AllByRecursion}
use Rattle.std.proofs.lemmas.List.{length-append, length-take}
use Rattle.std.proofs.Math.Nat.{suc-mul}
use Rattle.std.proofs.lemmas.List.Concat.{flat_map-cons}
use Rattle.std.proofs.lemmas.Nat.{from_le_bytes-to_le_bytes_4}
use Rattle.ipc_flatbuf.specs.declared.error.IpcReadError.{IpcReadError}
use Rattle.ipc_flatbuf.specs.Flatbuffers.{number_at, spec_offset_at, spec_read_vector, tables_at, structs_at, spec_items_at, vector_at}
use Rattle.ipc_flatbuf.specs.PartBytes.{u32_bytes, padding_zeros, offsets_size, offsets, concatenated, table_vector_bytes, vector_bytes}
use Rattle.ipc_flatbuf.specs.FlatbufferLaws.{From, From-length, From_next, number_is, offset_is, vector_is}
use Rattle.ipc_flatbuf.specs.TemplateLaws.{From_at}

-- at any position the bytes are read as x, at this cost to the budget
pub record ReadsBackAs {A : Type 0} (read : List ℕ → ℕ → ℕ → Result (A × ℕ) IpcReadError) (head : ℕ) (body : List ℕ) (x : A) (cost : ℕ) : Type 0 where
  pub law : (whole : List ℕ) (p q left : ℕ) (after : List ℕ) → From whole p (body ++ after) → length whole < 2 ^ 32 → q ≡ p + head → cost ≤ left → read whole q left ≡ Ok (x, left - cost)
  pub long : head + 4 ≤ length body

-- each body is read as the value of the same index; the costs add up
abbrev pub EachReadsBackAs : {A : Type 0} → (List ℕ → ℕ → ℕ → Result (A × ℕ) IpcReadError) → ℕ → List (List ℕ) → List A → ℕ → Type 0
EachReadsBackAs read head [] [] cost = cost ≡ 0
EachReadsBackAs read head [] (x ∷ xs) cost = ⊥
EachReadsBackAs read head (body ∷ bodies) [] cost = ⊥
EachReadsBackAs read head (body ∷ bodies) (x ∷ xs) cost = (first : ℕ) × (others : ℕ) × ReadsBackAs read head body x first × EachReadsBackAs read head bodies xs others × (cost ≡ first + others)

pub offsets_long : (head d : ℕ) (bodies : List (List ℕ)) → length (offsets head d bodies) ≡ 4 * length bodies
unfolding offsets u32_bytes
offsets_long head d [] = refl
offsets_long head d (body ∷ bodies) = let e = offsets_long head (d + length body - 4) bodies in omega (arith, e)

pub tables_round_trip : {A : Type 0} (read : List ℕ → ℕ → ℕ → Result (A × ℕ) IpcReadError) (head : ℕ) (bodies : List (List ℕ)) (xs : List A) (cost : ℕ) (whole : List ℕ) (p q d left : ℕ) (a b : List ℕ) → EachReadsBackAs read head bodies xs cost
    → From whole q (offsets head d bodies ++ a) → From whole p (concatenated bodies ++ b) → p ≡ q + d → length whole < 2 ^ 32 → cost ≤ left
    → tables_at (read whole) whole (length bodies) q left ≡ Ok (xs, left - cost)
unfolding tables_at offsets concatenated u32_bytes
tables_round_trip {A} read head [] [] cost whole p q d left a b are here there e small le = ap (λ (k : ℕ). Ok ([], k)) (omega (arith, are))
tables_round_trip read head [] (x ∷ xs) cost whole p q d left a b are here there e small le = absurd are
tables_round_trip read head (body ∷ bodies) [] cost whole p q d left a b are here there e small le = absurd are
tables_round_trip {A} read head (body ∷ bodies) (x ∷ xs) cost whole p q d left a b are here there e small le =
    let size : ℕ = length body in
    let first : ℕ = are.0 in
    let others : ℕ = are.1 in
    let sum : cost ≡ first + others = are.4 in
    let row : List ℕ = u32_bytes (d + head) ++ (offsets head (d + size - 4) bodies ++ a) in
    let one : From whole p (body ++ (concatenated bodies ++ b)) = record { is = there.is ∙ append_assoc body (concatenated bodies) b; within = there.within } in
    let total = From-length whole p (body ++ (concatenated bodies ++ b)) one in
    let big : p + size ≤ length whole = omega (arith, total, length-append body (concatenated bodies ++ b)) in
    let long : head + 4 ≤ size = are.2.long in
    let far : number_at w32 whole q ≡ Ok (d + head) = number_is w32 whole q row here (omega arith) ∙ ap (λ (n : ℕ). Ok n) (from_le_bytes-to_le_bytes_4 (d + head) (omega arith)) in
    let o : spec_offset_at whole q ≡ Ok (q + (d + head)) = offset_is whole q (d + head) far in
    let r : read whole (q + (d + head)) left ≡ Ok (x, left - first) = are.2.law whole p (q + (d + head)) left (concatenated bodies ++ b) one small (omega arith) (omega arith) in
    let here' : From whole (q + 4) (offsets head (d + size - 4) bodies ++ a) = From_at whole q (q + 4) 4 row (offsets head (d + size - 4) bodies ++ a) here (omega arith) refl refl in
    let there' : From whole (p + size) (concatenated bodies ++ b) = From_next whole p body (concatenated bodies ++ b) one in
    let rest : tables_at (read whole) whole (length bodies) (q + 4) (left - first) ≡ Ok (xs, left - first - others) =
    tables_round_trip read head bodies xs others whole (p + size) (q + 4) (d + size - 4) (left - first) a b are.3 here' there' (omega arith) small (omega arith) in
    let spent : left - first - others ≡ left - cost = omega arith in
    rw (o, r, rest, spent) refl

pub zeros_long : (n : ℕ) → n ≤ 8 → length (padding_zeros n) ≡ n
zeros_long n le = omega (arith, length-take {A = ℕ} n (0 ∷ 0 ∷ 0 ∷ 0 ∷ 0 ∷ 0 ∷ 0 ∷ 0 ∷ []))

-- the vector of tables at a position: its count, and the values of the tables
pub record TableVectorIs {A : Type 0} (read : List ℕ → ℕ → ℕ → Result (A × ℕ) IpcReadError) (whole : List ℕ) (p left : ℕ) (n : ℕ) (xs : List A) (cost : ℕ) : Type 0 where
  pub vector : spec_read_vector 4 whole p left ≡ Ok (record { first = p + 4; count = n }, left - (4 + n * 4))
  pub tables : tables_at (read whole) whole n (p + 4) (left - (4 + n * 4)) ≡ Ok (xs, left - (4 + n * 4) - cost)

pub table_vector_long : (head : ℕ) (bodies : List (List ℕ)) → 4 + 4 * length bodies ≤ length (table_vector_bytes head bodies)
unfolding table_vector_bytes u32_bytes
table_vector_long head bodies =
    let n : ℕ = length bodies in
    let gap : List ℕ = padding_zeros (offsets_size n - (4 + 4 * n)) in
    omega (arith, offsets_long head (offsets_size n - 4) bodies, length-append (offsets head (offsets_size n - 4) bodies) (gap ++ concatenated bodies))

pub table_vector_round_trips : {A : Type 0} (read : List ℕ → ℕ → ℕ → Result (A × ℕ) IpcReadError) (head : ℕ) (bodies : List (List ℕ)) (xs : List A) (cost : ℕ) (whole : List ℕ) (p left : ℕ) (after : List ℕ) → EachReadsBackAs read head bodies xs cost
    → From whole p (table_vector_bytes head bodies ++ after) → length whole < 2 ^ 32 → 4 + length bodies * 4 + cost ≤ left → TableVectorIs read whole p left (length bodies) xs cost
unfolding table_vector_bytes u32_bytes
table_vector_round_trips {A} read head bodies xs cost whole p left after are h small le =
    let n : ℕ = length bodies in
    let d : ℕ = offsets_size n - 4 in
    let gap : List ℕ = padding_zeros (offsets_size n - (4 + 4 * n)) in
    let part : List ℕ = table_vector_bytes head bodies ++ after in
    let row : length (offsets head d bodies) ≡ 4 * n = offsets_long head d bodies in
    let gap_len : length gap ≡ offsets_size n - (4 + 4 * n) = zeros_long (offsets_size n - (4 + 4 * n)) (omega arith) in
    let long : 4 + 4 * n ≤ length part = omega (arith, length-append (table_vector_bytes head bodies) after, table_vector_long head bodies) in
    let ends = From-length whole p part h in
    let count : number_at w32 whole p ≡ Ok n = number_is w32 whole p part h (omega arith) ∙ ap (λ (k : ℕ). Ok k) (from_le_bytes-to_le_bytes_4 n (omega arith)) in
    let regrouped : drop 4 part ≡ offsets head d bodies ++ (gap ++ (concatenated bodies ++ after)) =
    append_assoc (offsets head d bodies) (gap ++ concatenated bodies) after ∙ ap (λ (r : List ℕ). offsets head d bodies ++ r) (append_assoc gap (concatenated bodies) after) in
    let here : From whole (p + 4) (offsets head d bodies ++ (gap ++ (concatenated bodies ++ after))) = From_at whole p (p + 4) 4 part (offsets head d bodies ++ (gap ++ (concatenated bodies ++ after))) h (omega arith) refl regrouped in
    let there1 = From_next whole (p + 4) (offsets head d bodies) (gap ++ (concatenated bodies ++ after)) here in
    let there : From whole (p + 4 + length (offsets head d bodies) + length gap) (concatenated bodies ++ after) = From_next whole (p + 4 + length (offsets head d bodies)) gap (concatenated bodies ++ after) there1 in
    record {
      vector = vector_is 4 whole p left n count (omega arith) (omega arith);
      tables = tables_round_trip read head bodies xs cost whole (p + 4 + length (offsets head d bodies) + length gap) (p + 4) d (left - (4 + n * 4)) (gap ++ (concatenated bodies ++ after)) after are here there (omega (arith, row, gap_len)) small (omega arith);
    }

pub table_vector_is_long : (head : ℕ) (bodies : List (List ℕ)) → 4 + 4 * length bodies + length (concatenated bodies) ≤ length (table_vector_bytes head bodies)
unfolding table_vector_bytes u32_bytes
table_vector_is_long head bodies =
    let n : ℕ = length bodies in
    let gap : List ℕ = padding_zeros (offsets_size n - (4 + 4 * n)) in
    omega (arith, offsets_long head (offsets_size n - 4) bodies, length-append (offsets head (offsets_size n - 4) bodies) (gap ++ concatenated bodies), length-append gap (concatenated bodies))

-- ---- structs

-- at any position the bytes of a struct are read as the struct
pub record IsStruct {A : Type 0} (read : List ℕ → ℕ → Result A IpcReadError) (size : ℕ) (bytes : A → List ℕ) (x : A) : Type 0 where
  pub law : (whole : List ℕ) (p : ℕ) (after : List ℕ) → From whole p (bytes x ++ after) → read whole p ≡ Ok x
  pub long : length (bytes x) ≡ size

pub structs_long : {A : Type 0} (read : List ℕ → ℕ → Result A IpcReadError) (size : ℕ) (bytes : A → List ℕ) (xs : List A) → AllByRecursion (IsStruct read size bytes) xs → length (flat_map bytes xs) ≡ length xs * size
structs_long read size bytes [] are = omega arith
structs_long read size bytes (x ∷ xs) are = rw (flat_map-cons bytes x xs) (omega (arith, structs_long read size bytes xs are.1, are.0.long, length-append (bytes x) (flat_map bytes xs), suc-mul (length xs) size))

pub structs_round_trip : {A : Type 0} (read : List ℕ → ℕ → Result A IpcReadError) (size : ℕ) (bytes : A → List ℕ) (xs : List A) (whole : List ℕ) (q : ℕ) (after : List ℕ) → AllByRecursion (IsStruct read size bytes) xs → From whole q (flat_map bytes xs ++ after)
    → structs_at (read whole) size (length xs) q ≡ Ok xs
unfolding structs_at
structs_round_trip read size bytes [] whole q after are h = refl
structs_round_trip {A} read size bytes (x ∷ xs) whole q after are h =
    let here : From whole q (bytes x ++ (flat_map bytes xs ++ after)) = record { is = h.is ∙ ap (λ (r : List ℕ). r ++ after) (flat_map-cons bytes x xs) ∙ append_assoc (bytes x) (flat_map bytes xs) after; within = h.within } in
    let one : read whole q ≡ Ok x = are.0.law whole q (flat_map bytes xs ++ after) here in
    let next : From whole (q + length (bytes x)) (flat_map bytes xs ++ after) = From_next whole q (bytes x) (flat_map bytes xs ++ after) here in
    let rest : structs_at (read whole) size (length xs) (q + size) ≡ Ok xs =
    ap (λ (n : ℕ). structs_at (read whole) size (length xs) (q + n)) (sym are.0.long) ∙ structs_round_trip read size bytes xs whole (q + length (bytes x)) after are.1 next in
    rw (one, rest) refl

-- a vector of structs round-trips
pub vector_round_trips : {A : Type 0} (read : List ℕ → ℕ → Result A IpcReadError) (size : ℕ) (bytes : A → List ℕ) (xs : List A) (whole : List ℕ) (p left : ℕ) (after : List ℕ) → AllByRecursion (IsStruct read size bytes) xs
    → From whole p (vector_bytes bytes xs ++ after) → length whole < 2 ^ 32 → length xs < 2 ^ 32 → 4 + length xs * size ≤ left → vector_at (read whole) size whole (Some p) left ≡ Ok (xs, left - (4 + length xs * size))
unfolding vector_at spec_items_at vector_bytes u32_bytes
vector_round_trips {A} read size bytes xs whole p left after are h small few le =
    let n : ℕ = length xs in
    let part : List ℕ = vector_bytes bytes xs ++ after in
    let ends = From-length whole p part h in
    let long : 4 + n * size ≤ length part = omega (arith, structs_long read size bytes xs are, length-append (flat_map bytes xs) after) in
    let count : number_at w32 whole p ≡ Ok n = number_is w32 whole p part h (omega arith) ∙ ap (λ (k : ℕ). Ok k) (from_le_bytes-to_le_bytes_4 n few) in
    let v : spec_read_vector size whole p left ≡ Ok (record { first = p + 4; count = n }, left - (4 + n * size)) = vector_is size whole p left n count (omega arith) le in
    let next : From whole (p + 4) (flat_map bytes xs ++ after) = From_at whole p (p + 4) 4 part (flat_map bytes xs ++ after) h (omega arith) refl refl in
    rw (v, structs_round_trip read size bytes xs whole (p + 4) after are next) refl
