-- Loop invariants of reading the items of a vector in turn.
use Rattle.std.proofs.Common.{add-one, ◌≡◌, ℕ, suc, ◌-◌, ◌+◌, ◌*◌, ◌≤◌, ◌<◌, List, [], ◌∷◌, ◌++◌, Result, Ok, Err, refl, sym, ap, ◌∙◌, append_assoc, arith}
use Rattle.std.proofs.Math.Nat.{mul-suc, mul-zero}
use Rattle.std.proofs.lemmas.List.{append-nil}
use Rattle.ipc_flatbuf.specs.declared.error.IpcReadError.{IpcReadError}
use Rattle.ipc_flatbuf.specs.ReadResults.{◌>>=◌, FailsOrRunsOut}
use Rattle.ipc_flatbuf.specs.Flatbuffers.{spec_offset_at, tables_at, structs_at}

-- the values that are read so far, followed by the rest
abbrev pub with_done : {A : Type 0} → List A → Result (List A × ℕ) IpcReadError → Result (List A × ℕ) IpcReadError
with_done done read = read >>= λ x. Ok (done ++ x.0, x.1)

-- the result of reading the items from index i
abbrev pub rest_at : {A : Type 0} → (ℕ → ℕ → Result (A × ℕ) IpcReadError) → List ℕ → ℕ → ℕ → ℕ → ℕ → Result (List A × ℕ) IpcReadError
rest_at read bytes count first i left = tables_at read bytes (count - i) (first + 4 * i) left

regroup : {A : Type 0} (done : List A) (n : A) (read : Result (List A × ℕ) IpcReadError) → with_done done (read >>= λ x. Ok (n ∷ x.0, x.1)) ≡ with_done (done ++ n ∷ []) read
regroup {A} done n (Ok x) = ap (λ (ns : List A). Ok (ns, x.1)) (simp append_assoc)
regroup done n (Err f) = refl

pub table_goes_on : {A : Type 0} (read : ℕ → ℕ → Result (A × ℕ) IpcReadError) (bytes : List ℕ) (done : List A) (count first i left to : ℕ) (x : A) (after : ℕ) (total : Result (List A × ℕ) IpcReadError) → i < count
    → spec_offset_at bytes (first + 4 * i) ≡ Ok to → read to left ≡ Ok (x, after) → with_done done (rest_at read bytes count first i left) ≡ total → with_done (done ++ x ∷ []) (rest_at read bytes count first (i + 1) after) ≡ total
unfolding tables_at
table_goes_on {A} read bytes done count first i left to x after total lt o h so_far =
    let k : count - i ≡ suc (count - (i + 1)) = omega arith in
    let p : first + 4 * i + 4 ≡ first + 4 * (i + 1) = omega arith in
    let one : with_done done (rest_at read bytes count first i left) ≡ with_done (done ++ x ∷ []) (rest_at read bytes count first (i + 1) after) = rw (k, o, h, p) (regroup done x (tables_at read bytes (count - (i + 1)) (first + 4 * (i + 1)) after)) in
    sym one ∙ so_far

pub table_lacks_offset : {A : Type 0} (read : ℕ → ℕ → Result (A × ℕ) IpcReadError) (bytes : List ℕ) (done : List A) (count first i left : ℕ) (f : IpcReadError) (total : Result (List A × ℕ) IpcReadError) → i < count
    → spec_offset_at bytes (first + 4 * i) ≡ Err f → with_done done (rest_at read bytes count first i left) ≡ total → total ≡ Err f
unfolding tables_at
table_lacks_offset read bytes done count first i left f total lt o so_far =
    let k : count - i ≡ suc (count - (i + 1)) = omega arith in
    let one : with_done done (rest_at read bytes count first i left) ≡ Err f = rw (k, o) refl in
    sym so_far ∙ one

pub table_fails : {A : Type 0} (f : IpcReadError) (read : ℕ → ℕ → Result (A × ℕ) IpcReadError) (bytes : List ℕ) (done : List A) (count first i left to : ℕ) (total : Result (List A × ℕ) IpcReadError) → i < count
    → spec_offset_at bytes (first + 4 * i) ≡ Ok to → FailsOrRunsOut f (read to left) → with_done done (rest_at read bytes count first i left) ≡ total → FailsOrRunsOut f total
unfolding tables_at
table_fails f read bytes done count first i left to total lt o h so_far = λ known.
    let k : count - i ≡ suc (count - (i + 1)) = omega arith in
    let e : read to left ≡ Err f = h known in
    let one : with_done done (rest_at read bytes count first i left) ≡ Err f = rw (k, o, e) refl in
    sym so_far ∙ one

whole : {A : Type 0} (read : Result (List A × ℕ) IpcReadError) → with_done [] read ≡ read
whole (Ok x) = refl
whole (Err f) = refl

pub tables_start : {A : Type 0} (read : ℕ → ℕ → Result (A × ℕ) IpcReadError) (bytes : List ℕ) (count first left : ℕ) → with_done [] (rest_at read bytes count first 0 left) ≡ tables_at read bytes count first left
tables_start read bytes count first left =
    let k : count - 0 ≡ count = omega arith in
    let p : first + 4 * 0 ≡ first = omega arith in
    rw (k, p) (whole (tables_at read bytes count first left))

pub tables_are_done : {A : Type 0} (read : ℕ → ℕ → Result (A × ℕ) IpcReadError) (bytes : List ℕ) (done : List A) (count first i left : ℕ) (total : Result (List A × ℕ) IpcReadError) → count ≤ i → with_done done (rest_at read bytes count first i left) ≡ total → total ≡ Ok (done, left)
unfolding tables_at
tables_are_done {A} read bytes done count first i left total le so_far =
    let k : count - i ≡ 0 = omega arith in
    let one : with_done done (rest_at read bytes count first i left) ≡ Ok (done, left) = rw k (ap (λ (ns : List A). Ok (ns, left)) (append-nil done)) in
    sym so_far ∙ one

-- ---- structs of size bytes each

abbrev pub with_structs : {A : Type 0} → List A → Result (List A) IpcReadError → Result (List A) IpcReadError
with_structs done read = read >>= λ xs. Ok (done ++ xs)

abbrev pub structs_from : {A : Type 0} → (ℕ → Result A IpcReadError) → ℕ → ℕ → ℕ → ℕ → Result (List A) IpcReadError
structs_from read size count first i = structs_at read size (count - i) (first + size * i)

structs_regroup : {A : Type 0} (done : List A) (x : A) (read : Result (List A) IpcReadError) → with_structs done (read >>= λ xs. Ok (x ∷ xs)) ≡ with_structs (done ++ x ∷ []) read
structs_regroup {A} done x (Ok xs) = ap (λ (ns : List A). Ok ns) (simp append_assoc)
structs_regroup done x (Err f) = refl

next_place : (size first i : ℕ) → first + size * i + size ≡ first + size * (i + 1)
next_place size first i = let e : size * (i + 1) ≡ size * i + size = ap (λ (n : ℕ). size * n) (add-one i) ∙ mul-suc size i in omega arith

pub struct_goes_on : {A : Type 0} (read : ℕ → Result A IpcReadError) (size : ℕ) (done : List A) (count first i : ℕ) (x : A) (total : Result (List A) IpcReadError) → i < count → read (first + size * i) ≡ Ok x
    → with_structs done (structs_from read size count first i) ≡ total → with_structs (done ++ x ∷ []) (structs_from read size count first (i + 1)) ≡ total
unfolding structs_at
struct_goes_on read size done count first i x total lt h so_far =
    let k : count - i ≡ suc (count - (i + 1)) = omega arith in
    let p : first + size * i + size ≡ first + size * (i + 1) = next_place size first i in
    let one : with_structs done (structs_from read size count first i) ≡ with_structs (done ++ x ∷ []) (structs_from read size count first (i + 1)) = rw (k, h, p) (structs_regroup done x (structs_at read size (count - (i + 1)) (first + size * (i + 1)))) in
    sym one ∙ so_far

pub struct_fails : {A : Type 0} (read : ℕ → Result A IpcReadError) (size : ℕ) (done : List A) (count first i : ℕ) (f : IpcReadError) (total : Result (List A) IpcReadError) → i < count → read (first + size * i) ≡ Err f
    → with_structs done (structs_from read size count first i) ≡ total → total ≡ Err f
unfolding structs_at
struct_fails read size done count first i f total lt h so_far =
    let k : count - i ≡ suc (count - (i + 1)) = omega arith in
    let one : with_structs done (structs_from read size count first i) ≡ Err f = rw (k, h) refl in
    sym so_far ∙ one

structs_whole : {A : Type 0} (read : Result (List A) IpcReadError) → with_structs [] read ≡ read
structs_whole (Ok xs) = refl
structs_whole (Err f) = refl

pub structs_start : {A : Type 0} (read : ℕ → Result A IpcReadError) (size count first : ℕ) → with_structs [] (structs_from read size count first 0) ≡ structs_at read size count first
structs_start read size count first =
    let k : count - 0 ≡ count = omega arith in
    let p : first + size * 0 ≡ first = omega (arith, mul-zero size) in
    rw (k, p) (structs_whole (structs_at read size count first))

pub structs_are_done : {A : Type 0} (read : ℕ → Result A IpcReadError) (size : ℕ) (done : List A) (count first i : ℕ) (total : Result (List A) IpcReadError) → count ≤ i → with_structs done (structs_from read size count first i) ≡ total → total ≡ Ok done
unfolding structs_at
structs_are_done {A} read size done count first i total le so_far =
    let k : count - i ≡ 0 = omega arith in
    let one : with_structs done (structs_from read size count first i) ≡ Ok done = rw k (ap (λ (ns : List A). Ok ns) (append-nil done)) in
    sym so_far ∙ one
