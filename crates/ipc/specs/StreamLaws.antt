-- What follows from the definitions of `Streams`.
use Rattle.std.specs.Prelude.{◌≡◌, ℕ, zero, suc, ◌<◌, ◌≤◌, Bool, true, false, ◌==◌, List, [], ◌∷◌, length, take, drop, Option, Some, None, Result, Ok, Err, IfOk, IfSome, nat_le, if◌then◌else◌, refl}
use Rattle.std.proofs.Common.{ap, arith, length-drop}
use Rattle.std.specs.Int.{w32, from_le_bytes, cast_signed}
use Rattle.ipc_flatbuf.specs.ReadResults.{◌>>=◌}
use Rattle.ipc_flatbuf.specs.declared.error.IpcReadError.{IpcReadError}
use Rattle.ipc_flatbuf.specs.declared.error.IpcReadError.TheVariants.{Truncated, MetadataLength}
use Rattle.ipc_flatbuf.specs.Flatbuffers.{spec_non_negative}
use Rattle.ipc_flatbuf.specs.Messages.{MessageModel, root_at, spec_first_bytes, spec_after_continuation, spec_message_of_size, spec_sized_message, message_at}
use Rattle.ipc_schema.specs.Projections.{ProjectionModel}
use Rattle.ipc_schema.specs.ProjectedSchemas.{spec_projected_schema_in_message, stream_projected_schema_at}
use Rattle.ipc.specs.Streams.{RecordBatchTree, StateTree, Next, message_in, or_next, next_by, next_within, next_in, first_in, with_others, batches_within, batches_in, first_and_others}

-- ---- fewer bytes follow a part

if_ok_bind : {A B : Type 0} (P : A → Type 0) (Q : B → Type 0) (read : Result A IpcReadError) (f : A → Result B IpcReadError) → IfOk read P → ((x : A) → P x → IfOk (f x) Q) → IfOk (read >>= f) Q
if_ok_bind P Q (Ok x) f p q = q x p
if_ok_bind P Q (Err e) f p q = tt

if_ok_then : {A B : Type 0} (Q : B → Type 0) (read : Result A IpcReadError) (f : A → Result B IpcReadError) → ((x : A) → IfOk (f x) Q) → IfOk (read >>= f) Q
if_ok_then Q (Ok x) f q = q x
if_ok_then Q (Err e) f q = tt

if_ok : {A : Type 0} (P : A → Type 0) (b : Bool) (x : A) (error : IpcReadError) → P x → IfOk (if b then Ok x else Err error) P
if_ok P true x error p = p
if_ok P false x error p = tt

if_either : {A : Type 0} (P : A → Type 0) (b : Bool) (x y : Result A IpcReadError) → IfOk x P → IfOk y P → IfOk (if b then x else y) P
if_either P true x y p q = p
if_either P false x y p q = q

-- at most this many bytes follow
abbrev pub Leaves : {A : Type 0} → ℕ → A × List ℕ → Type 0
Leaves n x = length x.1 ≤ n

front_leaves : (n m : ℕ) (bytes : List ℕ) → length bytes ≤ m → IfOk (spec_first_bytes n bytes) (Leaves m)
unfolding spec_first_bytes
front_leaves n m bytes le = if_ok (Leaves m) (nat_le n (length bytes)) (take n bytes, drop n bytes) Truncated (omega (arith, length-drop n bytes))

parts_leaves : (n m : ℕ) (bytes : List ℕ) → length bytes ≤ m → IfOk (spec_message_of_size n bytes) (Leaves m)
unfolding spec_message_of_size
parts_leaves n m bytes le =
    if_ok_bind (Leaves m) (Leaves m) (spec_first_bytes n bytes) _ (front_leaves n m bytes le)
    (λ metadata h. if_ok_then (Leaves m) (root_at metadata.0) _
    (λ root. if_ok_bind (Leaves m) (Leaves m) (spec_first_bytes root.body_length metadata.1) _ (front_leaves root.body_length m metadata.1 h) (λ body h. h)))

-- fewer bytes follow the length of the metadata
length_leaves : (m : ℕ) (bytes : List ℕ) → length bytes ≤ suc m → IfOk (spec_first_bytes 4 bytes) (Leaves m)
unfolding spec_first_bytes
length_leaves m bytes le = if_ok (Leaves m) (nat_le 4 (length bytes)) (take 4 bytes, drop 4 bytes) Truncated (omega (arith, length-drop 4 bytes))

sized_leaves : (m : ℕ) (bytes : List ℕ) → length bytes ≤ suc m → IfOk (spec_sized_message bytes) (Leaves m)
unfolding spec_sized_message
sized_leaves m bytes le =
    if_ok_bind (Leaves m) (Leaves m) (spec_first_bytes 4 bytes) _ (length_leaves m bytes le)
    (λ long h. if_ok_then (Leaves m) (spec_non_negative MetadataLength (cast_signed w32 (from_le_bytes w32 long.0))) _
    (λ size. if_either (Leaves m) (size == 0) (Ok (None, long.1)) (spec_message_of_size size long.1 >>= λ parts. Ok (Some parts.0, parts.1)) h
    (if_ok_bind (Leaves m) (Leaves m) (spec_message_of_size size long.1) _ (parts_leaves size m long.1 h) (λ parts h. h))))

-- no more bytes follow the continuation indicator, or its absence
mark_leaves : (bytes : List ℕ) → IfOk (spec_after_continuation bytes) (λ rest. length rest ≤ length bytes)
unfolding spec_after_continuation
mark_leaves bytes =
    if_ok_bind (Leaves (length bytes)) (λ rest. length rest ≤ length bytes) (spec_first_bytes 4 bytes) _ (front_leaves 4 (length bytes) bytes (omega arith))
    (λ mark h. one (from_le_bytes w32 mark.0 == 4294967295) mark.1 h)
  where
    one : (mark : Bool) (rest : List ℕ) → length rest ≤ length bytes → length (if mark then rest else bytes) ≤ length bytes
    one true rest h = h
    one false rest h = omega arith

-- fewer bytes follow a message, and no more follow the end
abbrev pub Goes : {A : Type 0} → ℕ → Option A × List ℕ → Type 0
Goes n x = (length x.1 ≤ n) × IfSome x.0 (λ m. length x.1 < n)

if_some : {A : Type 0} (P : Type 0) (o : Option A) → P → IfSome o (λ m. P)
if_some P None p = tt
if_some P (Some x) p = p

if_ok_some : {A : Type 0} (n : ℕ) (read : Result (Option A × List ℕ) IpcReadError) → IfOk read (Leaves n) → IfOk read (Goes (suc n))
if_ok_some n (Ok x) le = (omega arith, if_some (length x.1 < suc n) x.0 (omega arith))
if_ok_some n (Err f) le = tt

pub message_goes : (bytes : List ℕ) → IfOk (message_at bytes) (Goes (length bytes))
unfolding message_at
message_goes [] = (omega arith, tt)
message_goes (b ∷ bytes) =
    if_either (Goes (suc (length bytes))) (length (b ∷ bytes) == 0) (Ok (None, [])) (spec_after_continuation (b ∷ bytes) >>= spec_sized_message) (omega arith, tt)
    (if_ok_bind (λ rest. length rest ≤ suc (length bytes)) (Goes (suc (length bytes))) (spec_after_continuation (b ∷ bytes)) spec_sized_message (mark_leaves (b ∷ bytes))
    (λ rest le. if_ok_some (length bytes) (spec_sized_message rest) (sized_leaves (length bytes) rest le)))

-- ---- a record batch is that of the first message, or the next one

-- a record batch and the bytes after it, in any state
abbrev pub Moves : ℕ → (Option RecordBatchTree × StateTree) × List ℕ → Type 0
Moves n x = Goes n (x.0.0, x.1)

message_same : (f g : StateTree → List ℕ → Next) (n : ℕ) (s : StateTree) (read : Result (Option MessageModel × List ℕ) IpcReadError) → IfOk read (Goes n) → ((t : StateTree) (behind : List ℕ) → length behind < n → f t behind ≡ g t behind)
    → (read >>= λ next. next_by f s next.0 next.1) ≡ (read >>= λ next. next_by g s next.0 next.1)
message_same f g n s (Err error) h same = refl
message_same f g n s (Ok (None, behind)) h same = refl
message_same f g n s (Ok (Some m, behind)) h same = one (message_in s m)
  where
    one : (read : Result (Option RecordBatchTree × StateTree) IpcReadError) → (read >>= λ x. or_next f x.0 x.1 behind) ≡ (read >>= λ x. or_next g x.0 x.1 behind)
    one (Ok (None, t)) = same t behind h.1
    one (Ok (Some batch, t)) = refl
    one (Err e) = refl

within_same : (n m : ℕ) (s : StateTree) (bytes : List ℕ) → length bytes < n → length bytes < m → next_within n s bytes ≡ next_within m s bytes
unfolding next_within
within_same zero m s bytes lt lt' = absurd (omega arith)
within_same (suc n) zero s bytes lt lt' = absurd (omega arith)
within_same (suc n) (suc m) s bytes lt lt' =
    message_same (next_within n) (next_within m) (length bytes) s (message_at bytes) (message_goes bytes) (λ t behind lt''. within_same n m t behind (omega arith) (omega arith))

pub by_message : (s : StateTree) (bytes : List ℕ) → next_in s bytes ≡ first_in s bytes
unfolding next_within
by_message s bytes =
    message_same (next_within (length bytes)) next_in (length bytes) s (message_at bytes) (message_goes bytes) (λ t behind lt. within_same (length bytes) (suc (length behind)) t behind lt (omega arith))

-- ---- fewer bytes follow a record batch, and no more follow the end

moves_more : (k n : ℕ) (read : Next) → k ≤ n → IfOk read (Moves k) → IfOk read (Moves n)
moves_more k n (Err f) le h = tt
moves_more k n (Ok ((None, t), behind)) le h = (omega (arith, h.0), tt)
moves_more k n (Ok ((Some a, t), behind)) le h = (omega (arith, h.0), omega (arith, h.1))

next_moves_by : (n : ℕ) (f : StateTree → List ℕ → Next) (batch : Option RecordBatchTree) (t : StateTree) (behind : List ℕ) → length behind < n → IfOk (f t behind) (Moves (length behind)) → IfOk (or_next f batch t behind) (Moves n)
next_moves_by n f None t behind lt h = moves_more (length behind) n (f t behind) (omega arith) h
next_moves_by n f (Some a) t behind lt h = (omega arith, lt)

message_moves_by : (n : ℕ) (f : StateTree → List ℕ → Next) (s : StateTree) (m : Option MessageModel) (behind : List ℕ) → Goes n (m, behind) → ((t : StateTree) → IfOk (f t behind) (Moves (length behind))) → IfOk (next_by f s m behind) (Moves n)
message_moves_by n f s None behind h others = (h.0, tt)
message_moves_by n f s (Some m) behind h others = if_ok_then (Moves n) (message_in s m) _ (λ x. next_moves_by n f x.0 x.1 behind h.1 (others x.1))

within_moves : (n : ℕ) (s : StateTree) (bytes : List ℕ) → IfOk (next_within n s bytes) (Moves (length bytes))
unfolding next_within
within_moves zero s bytes = (omega arith, tt)
within_moves (suc n) s bytes =
    if_ok_bind (Goes (length bytes)) (Moves (length bytes)) (message_at bytes) _ (message_goes bytes) (λ next h. message_moves_by (length bytes) (next_within n) s next.0 next.1 h (λ t. within_moves n t next.1))

pub next_moves : (s : StateTree) (bytes : List ℕ) → IfOk (next_in s bytes) (Moves (length bytes))
next_moves s bytes = within_moves (suc (length bytes)) s bytes

-- ---- a stream is its next record batch and the others

abbrev pub Batches : Type 0
Batches = Result (List RecordBatchTree × List ℕ) IpcReadError

same_others : (f g : StateTree → List ℕ → Batches) (n : ℕ) (read : Next) → IfOk read (Moves n) → ((t : StateTree) (behind : List ℕ) → length behind < n → f t behind ≡ g t behind)
    → (read >>= λ next. with_others f next.0.0 next.0.1 next.1) ≡ (read >>= λ next. with_others g next.0.0 next.0.1 next.1)
same_others f g n (Err error) h same = refl
same_others f g n (Ok ((None, t), behind)) h same = refl
same_others f g n (Ok ((Some batch, t), behind)) h same = ap (λ (others : Batches). others >>= λ x. Ok (batch ∷ x.0, x.1)) (same t behind h.1)

batches_same : (n m : ℕ) (s : StateTree) (bytes : List ℕ) → length bytes < n → length bytes < m → batches_within n s bytes ≡ batches_within m s bytes
unfolding batches_within
batches_same zero m s bytes lt lt' = absurd (omega arith)
batches_same (suc n) zero s bytes lt lt' = absurd (omega arith)
batches_same (suc n) (suc m) s bytes lt lt' =
    same_others (batches_within n) (batches_within m) (length bytes) (next_in s bytes) (next_moves s bytes) (λ t behind lt''. batches_same n m t behind (omega arith) (omega arith))

pub one_by_one : (s : StateTree) (bytes : List ℕ) → batches_in s bytes ≡ first_and_others s bytes
unfolding batches_within
one_by_one s bytes =
    same_others (batches_within (length bytes)) batches_in (length bytes) (next_in s bytes) (next_moves s bytes) (λ t behind lt. batches_same (length bytes) (suc (length behind)) t behind lt (omega arith))

pub nothing_left : (s : StateTree) → next_in s [] ≡ Ok ((None, s), [])
unfolding next_within message_at
nothing_left s = refl

-- ---- the bytes after a schema, and after the record batches

leaves_of_goes : {A : Type 0} (n : ℕ) (read : Result (Option A × List ℕ) IpcReadError) → IfOk read (Goes n) → IfOk read (Leaves n)
leaves_of_goes n (Ok x) h = h.0
leaves_of_goes n (Err f) h = tt

pub schema_leaves : (picks : ProjectionModel) (bytes : List ℕ) → IfOk (stream_projected_schema_at picks bytes) (Leaves (length bytes))
unfolding stream_projected_schema_at
schema_leaves picks bytes =
    if_ok_bind (Leaves (length bytes)) (Leaves (length bytes)) (message_at bytes) _ (leaves_of_goes (length bytes) (message_at bytes) (message_goes bytes))
    (λ first h. if_ok_then (Leaves (length bytes)) (spec_projected_schema_in_message picks first.0) _ (λ picked. h))

others_leave : (f : StateTree → List ℕ → Batches) (n : ℕ) (next : Option RecordBatchTree) (t : StateTree) (behind : List ℕ) → length behind ≤ n → ((u : StateTree) (bytes : List ℕ) → IfOk (f u bytes) (Leaves (length bytes))) → IfOk (with_others f next t behind) (Leaves n)
others_leave f n None t behind le h = le
others_leave f n (Some batch) t behind le h = if_ok_bind (Leaves (length behind)) (Leaves n) (f t behind) _ (h t behind) (λ x le'. omega arith)

within_leaves : (most : ℕ) (s : StateTree) (bytes : List ℕ) → IfOk (batches_within most s bytes) (Leaves (length bytes))
unfolding batches_within
within_leaves zero s bytes = omega arith
within_leaves (suc most) s bytes =
    if_ok_bind (Moves (length bytes)) (Leaves (length bytes)) (next_in s bytes) _ (next_moves s bytes) (λ next h. others_leave (batches_within most) (length bytes) next.0.0 next.0.1 next.1 h.0 (within_leaves most))

pub batches_leave : (s : StateTree) (bytes : List ℕ) → IfOk (batches_in s bytes) (Leaves (length bytes))
batches_leave s bytes = within_leaves (suc (length bytes)) s bytes
