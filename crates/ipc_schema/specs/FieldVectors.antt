-- Vectors of tables that are read in turn, with a state that each table changes.
use Rattle.std.proofs.Common.{◌≡◌, ℕ, zero, suc, ◌+◌, ◌-◌, ◌*◌, ◌^◌, ◌<◌, ◌≤◌, List, [], ◌∷◌, ◌++◌, length, drop, Result, Ok, Err, refl, sym, ap, ◌∙◌, append_assoc, arith}
use Rattle.std.specs.Int.{w32}
use Rattle.std.proofs.lemmas.List.{append-nil, length-append}
use Rattle.std.proofs.lemmas.Nat.{from_le_bytes-to_le_bytes_4}
use Rattle.ipc_flatbuf.specs.ReadResults.{◌>>=◌, FailsOrRunsOut}
use Rattle.ipc_flatbuf.specs.declared.error.IpcReadError.{IpcReadError}
use Rattle.ipc_flatbuf.specs.Flatbuffers.{number_at, spec_offset_at, spec_read_vector}
use Rattle.ipc_flatbuf.specs.PartBytes.{u32_bytes, padding_zeros, offsets_size, offsets, concatenated, table_vector_bytes}
use Rattle.ipc_flatbuf.specs.FlatbufferLaws.{From, From-length, From_next, number_is, offset_is, vector_is}
use Rattle.ipc_flatbuf.specs.TemplateLaws.{From_at}
use Rattle.ipc_flatbuf.specs.VectorLaws.{offsets_long, zeros_long, table_vector_long}

-- the values of the tables that n offsets refer to, each read by read
unfoldable pub tables_in_turn : {A S : Type 0} → (ℕ → S → Result (A × S) IpcReadError) → List ℕ → ℕ → ℕ → S → Result (List A × S) IpcReadError
tables_in_turn read bytes zero position state = Ok ([], state)
tables_in_turn read bytes (suc n) position state = do
  to ← spec_offset_at bytes position
  first ← read to state
  others ← tables_in_turn read bytes n (position + 4) first.1
  Ok (first.0 ∷ others.0, others.1)

-- ---- loop invariants

-- the values that are read so far, followed by the rest
abbrev pub with_fields_done : {A S : Type 0} → List A → Result (List A × S) IpcReadError → Result (List A × S) IpcReadError
with_fields_done front read = read >>= λ x. Ok (front ++ x.0, x.1)

-- the result of reading the tables from index i
abbrev pub fields_from : {A S : Type 0} → (ℕ → S → Result (A × S) IpcReadError) → List ℕ → ℕ → ℕ → ℕ → S → Result (List A × S) IpcReadError
fields_from read bytes count first i state = tables_in_turn read bytes (count - i) (first + 4 * i) state

regroup : {A S : Type 0} (front : List A) (n : A) (read : Result (List A × S) IpcReadError) → with_fields_done front (read >>= λ x. Ok (n ∷ x.0, x.1)) ≡ with_fields_done (front ++ n ∷ []) read
regroup {A} front n (Ok x) = ap (λ (ns : List A). Ok (ns, x.1)) (simp append_assoc)
regroup front n (Err f) = refl

pub field_goes_on : {A S : Type 0} (read : ℕ → S → Result (A × S) IpcReadError) (bytes : List ℕ) (front : List A) (count first i : ℕ) (state : S) (to : ℕ) (x : A) (after : S) (total : Result (List A × S) IpcReadError) → i < count
    → spec_offset_at bytes (first + 4 * i) ≡ Ok to → read to state ≡ Ok (x, after) → with_fields_done front (fields_from read bytes count first i state) ≡ total → with_fields_done (front ++ x ∷ []) (fields_from read bytes count first (i + 1) after) ≡ total
unfolding tables_in_turn
field_goes_on {A} read bytes front count first i state to x after total lt o h so_far =
    let k : count - i ≡ suc (count - (i + 1)) = omega arith in
    let p : first + 4 * i + 4 ≡ first + 4 * (i + 1) = omega arith in
    let one : with_fields_done front (fields_from read bytes count first i state) ≡ with_fields_done (front ++ x ∷ []) (fields_from read bytes count first (i + 1) after) = rw (k, o, h, p) (regroup front x (tables_in_turn read bytes (count - (i + 1)) (first + 4 * (i + 1)) after)) in
    sym one ∙ so_far

pub field_lacks_offset : {A S : Type 0} (read : ℕ → S → Result (A × S) IpcReadError) (bytes : List ℕ) (front : List A) (count first i : ℕ) (state : S) (f : IpcReadError) (total : Result (List A × S) IpcReadError) → i < count
    → spec_offset_at bytes (first + 4 * i) ≡ Err f → with_fields_done front (fields_from read bytes count first i state) ≡ total → total ≡ Err f
unfolding tables_in_turn
field_lacks_offset read bytes front count first i state f total lt o so_far =
    let k : count - i ≡ suc (count - (i + 1)) = omega arith in
    let one : with_fields_done front (fields_from read bytes count first i state) ≡ Err f = rw (k, o) refl in
    sym so_far ∙ one

pub field_fails : {A S : Type 0} (f : IpcReadError) (read : ℕ → S → Result (A × S) IpcReadError) (bytes : List ℕ) (front : List A) (count first i : ℕ) (state : S) (to : ℕ) (total : Result (List A × S) IpcReadError) → i < count
    → spec_offset_at bytes (first + 4 * i) ≡ Ok to → FailsOrRunsOut f (read to state) → with_fields_done front (fields_from read bytes count first i state) ≡ total → FailsOrRunsOut f total
unfolding tables_in_turn
field_fails f read bytes front count first i state to total lt o h so_far = λ known.
    let k : count - i ≡ suc (count - (i + 1)) = omega arith in
    let e : read to state ≡ Err f = h known in
    let one : with_fields_done front (fields_from read bytes count first i state) ≡ Err f = rw (k, o, e) refl in
    sym so_far ∙ one

whole : {A S : Type 0} (read : Result (List A × S) IpcReadError) → with_fields_done [] read ≡ read
whole (Ok x) = refl
whole (Err f) = refl

pub fields_start : {A S : Type 0} (read : ℕ → S → Result (A × S) IpcReadError) (bytes : List ℕ) (count first : ℕ) (state : S) → with_fields_done [] (fields_from read bytes count first 0 state) ≡ tables_in_turn read bytes count first state
fields_start read bytes count first state =
    let k : count - 0 ≡ count = omega arith in
    let p : first + 4 * 0 ≡ first = omega arith in
    rw (k, p) (whole (tables_in_turn read bytes count first state))

pub fields_are_done : {A S : Type 0} (read : ℕ → S → Result (A × S) IpcReadError) (bytes : List ℕ) (front : List A) (count first i : ℕ) (state : S) (total : Result (List A × S) IpcReadError) → count ≤ i → with_fields_done front (fields_from read bytes count first i state) ≡ total → total ≡ Ok (front, state)
unfolding tables_in_turn
fields_are_done {A} read bytes front count first i state total le so_far =
    let k : count - i ≡ 0 = omega arith in
    let one : with_fields_done front (fields_from read bytes count first i state) ≡ Ok (front, state) = rw k (ap (λ (ns : List A). Ok (ns, state)) (append-nil front)) in
    sym so_far ∙ one

-- ---- round trips

-- at any position the bytes are read as x, from one state to another
pub record ReadsBackBy {A S : Type 0} (read : List ℕ → ℕ → S → Result (A × S) IpcReadError) (head : ℕ) (body : List ℕ) (x : A) (before after : S) : Type 0 where
  pub law : (whole : List ℕ) (p q : ℕ) (rest : List ℕ) → From whole p (body ++ rest) → length whole < 2 ^ 32 → q ≡ p + head → read whole q before ≡ Ok (x, after)
  pub long : head + 4 ≤ length body

-- each body is read as the value of the same index
abbrev pub EachReadsBackBy : {A S : Type 0} → (List ℕ → ℕ → S → Result (A × S) IpcReadError) → ℕ → List (List ℕ) → List A → S → S → Type 0
EachReadsBackBy read head [] [] before after = before ≡ after
EachReadsBackBy read head [] (x ∷ xs) before after = ⊥
EachReadsBackBy read head (body ∷ bodies) [] before after = ⊥
EachReadsBackBy {A} {S} read head (body ∷ bodies) (x ∷ xs) before after = (next : S) × ReadsBackBy read head body x before next × EachReadsBackBy read head bodies xs next after

rows_again : {A S : Type 0} (read : List ℕ → ℕ → S → Result (A × S) IpcReadError) (head : ℕ) (bodies : List (List ℕ)) (xs : List A) (before after : S) (whole : List ℕ) (p q d : ℕ) (a b : List ℕ) → EachReadsBackBy read head bodies xs before after
    → From whole q (offsets head d bodies ++ a) → From whole p (concatenated bodies ++ b) → p ≡ q + d → length whole < 2 ^ 32 → tables_in_turn (read whole) whole (length bodies) q before ≡ Ok (xs, after)
unfolding tables_in_turn offsets concatenated u32_bytes
rows_again {A} {S} read head [] [] before after whole p q d a b are here there e small = ap (λ (s : S). Ok ([], s)) are
rows_again read head [] (x ∷ xs) before after whole p q d a b are here there e small = absurd are
rows_again read head (body ∷ bodies) [] before after whole p q d a b are here there e small = absurd are
rows_again read head (body ∷ bodies) (x ∷ xs) before after whole p q d a b are here there e small =
    let size : ℕ = length body in
    let row : List ℕ = u32_bytes (d + head) ++ (offsets head (d + size - 4) bodies ++ a) in
    let one : From whole p (body ++ (concatenated bodies ++ b)) = record { is = there.is ∙ append_assoc body (concatenated bodies) b; within = there.within } in
    let total = From-length whole p (body ++ (concatenated bodies ++ b)) one in
    let big : p + size ≤ length whole = omega (arith, total, length-append body (concatenated bodies ++ b)) in
    let long : head + 4 ≤ size = are.1.long in
    let far : number_at w32 whole q ≡ Ok (d + head) = number_is w32 whole q row here (omega arith) ∙ ap (λ (n : ℕ). Ok n) (from_le_bytes-to_le_bytes_4 (d + head) (omega arith)) in
    let o : spec_offset_at whole q ≡ Ok (q + (d + head)) = offset_is whole q (d + head) far in
    let r : read whole (q + (d + head)) before ≡ Ok (x, are.0) = are.1.law whole p (q + (d + head)) (concatenated bodies ++ b) one small (omega arith) in
    let here' : From whole (q + 4) (offsets head (d + size - 4) bodies ++ a) = From_at whole q (q + 4) 4 row (offsets head (d + size - 4) bodies ++ a) here (omega arith) refl refl in
    let there' : From whole (p + size) (concatenated bodies ++ b) = From_next whole p body (concatenated bodies ++ b) one in
    let rest : tables_in_turn (read whole) whole (length bodies) (q + 4) are.0 ≡ Ok (xs, after) = rows_again read head bodies xs are.0 after whole (p + size) (q + 4) (d + size - 4) a b are.2 here' there' (omega arith) small in
    rw (o, r, rest) refl

-- the vector of tables at a position: its count, and the values of the tables
pub table_vector_is_read : (head : ℕ) (bodies : List (List ℕ)) (whole : List ℕ) (p left : ℕ) (after : List ℕ) → From whole p (table_vector_bytes head bodies ++ after) → length whole < 2 ^ 32 → 4 + length bodies * 4 ≤ left
    → spec_read_vector 4 whole p left ≡ Ok (record { first = p + 4; count = length bodies }, left - (4 + length bodies * 4))
unfolding table_vector_bytes u32_bytes
table_vector_is_read head bodies whole p left after h small le =
    let n : ℕ = length bodies in
    let part : List ℕ = table_vector_bytes head bodies ++ after in
    let long : 4 + 4 * n ≤ length part = omega (arith, length-append (table_vector_bytes head bodies) after, table_vector_long head bodies) in
    let ends = From-length whole p part h in
    let count : number_at w32 whole p ≡ Ok n = number_is w32 whole p part h (omega arith) ∙ ap (λ (k : ℕ). Ok k) (from_le_bytes-to_le_bytes_4 n (omega arith)) in
    vector_is 4 whole p left n count (omega arith) (omega arith)

pub tables_are_read : {A S : Type 0} (read : List ℕ → ℕ → S → Result (A × S) IpcReadError) (head : ℕ) (bodies : List (List ℕ)) (xs : List A) (before after : S) (whole : List ℕ) (p : ℕ) (rest : List ℕ) → EachReadsBackBy read head bodies xs before after
    → From whole p (table_vector_bytes head bodies ++ rest) → length whole < 2 ^ 32 → tables_in_turn (read whole) whole (length bodies) (p + 4) before ≡ Ok (xs, after)
unfolding table_vector_bytes u32_bytes
tables_are_read read head bodies xs before after whole p rest are h small =
    let n : ℕ = length bodies in
    let d : ℕ = offsets_size n - 4 in
    let gap : List ℕ = padding_zeros (offsets_size n - (4 + 4 * n)) in
    let part : List ℕ = table_vector_bytes head bodies ++ rest in
    let row : length (offsets head d bodies) ≡ 4 * n = offsets_long head d bodies in
    let gap_len : length gap ≡ offsets_size n - (4 + 4 * n) = zeros_long (offsets_size n - (4 + 4 * n)) (omega arith) in
    let long : 4 + 4 * n ≤ length part = omega (arith, length-append (table_vector_bytes head bodies) rest, table_vector_long head bodies) in
    let regrouped : drop 4 part ≡ offsets head d bodies ++ (gap ++ (concatenated bodies ++ rest)) =
    append_assoc (offsets head d bodies) (gap ++ concatenated bodies) rest ∙ ap (λ (r : List ℕ). offsets head d bodies ++ r) (append_assoc gap (concatenated bodies) rest) in
    let here : From whole (p + 4) (offsets head d bodies ++ (gap ++ (concatenated bodies ++ rest))) = From_at whole p (p + 4) 4 part (offsets head d bodies ++ (gap ++ (concatenated bodies ++ rest))) h (omega arith) refl regrouped in
    let there1 = From_next whole (p + 4) (offsets head d bodies) (gap ++ (concatenated bodies ++ rest)) here in
    let there : From whole (p + 4 + length (offsets head d bodies) + length gap) (concatenated bodies ++ rest) = From_next whole (p + 4 + length (offsets head d bodies)) gap (concatenated bodies ++ rest) there1 in
    rows_again read head bodies xs before after whole (p + 4 + length (offsets head d bodies) + length gap) (p + 4) d (gap ++ (concatenated bodies ++ rest)) rest are here there (omega (arith, row, gap_len)) small
