-- Loops over record batches and messages.
use Rattle.std.proofs.Common.{◌≡◌, ℕ, ◌<◌, List, [], ◌∷◌, ◌++◌, length, map, Result, Ok, Err, refl, sym, ap, ◌∙◌, append_assoc}
use Rattle.std.specs.Prelude.{Some, None}
use Rattle.std.proofs.lemmas.List.{append-nil, map-append}
use Rattle.ipc_flatbuf.specs.declared.error.IpcReadError.{IpcReadError}
use Rattle.ipc_flatbuf.specs.ReadResults.{◌>>=◌, FailsOrRunsOut}
use Rattle.ipc_flatbuf.specs.Messages.{MessageModel, message_at}
use Rattle.ipc.specs.Streams.{RecordBatchTree, StateTree, message_in, next_in, batches_in}
use Rattle.ipc.specs.StreamLaws.{message_goes, next_moves, by_message, one_by_one}

-- those read before, and those left
abbrev pub with_batches : List RecordBatchTree → Result (List RecordBatchTree × List ℕ) IpcReadError → Result (List RecordBatchTree × List ℕ) IpcReadError
with_batches front read = read >>= λ x. Ok (front ++ x.0, x.1)

regroup : (front : List RecordBatchTree) (a : RecordBatchTree) (read : Result (List RecordBatchTree × List ℕ) IpcReadError) → with_batches front (read >>= λ x. Ok (a ∷ x.0, x.1)) ≡ with_batches (front ++ a ∷ []) read
regroup front a (Ok x) = ap (λ (as_ : List RecordBatchTree). Ok (as_, x.1)) (simp append_assoc)
regroup front a (Err f) = refl

pub batches_start : (read : Result (List RecordBatchTree × List ℕ) IpcReadError) → with_batches [] read ≡ read
batches_start (Ok x) = refl
batches_start (Err f) = refl

pub batches_go_on : {B : Type 0} (view : B → RecordBatchTree) (front new : List B) (b : B) (s t : StateTree) (rest behind : List ℕ) (total : Result (List RecordBatchTree × List ℕ) IpcReadError) → new ≡ front ++ b ∷ []
    → next_in s rest ≡ Ok ((Some (view b), t), behind) → with_batches (map view front) (batches_in s rest) ≡ total → with_batches (map view new) (batches_in t behind) ≡ total
batches_go_on view front new b s t rest behind total e next so_far =
    let one : with_batches (map view front) (batches_in s rest) ≡ with_batches (map view front ++ view b ∷ []) (batches_in t behind) =
    rw (one_by_one s rest, next) (regroup (map view front) (view b) (batches_in t behind)) in
    rw (e, map-append view front (b ∷ [])) (sym one ∙ so_far)

pub batches_fail : (f : IpcReadError) (front : List RecordBatchTree) (s : StateTree) (rest : List ℕ) (total : Result (List RecordBatchTree × List ℕ) IpcReadError) → FailsOrRunsOut f (next_in s rest) → with_batches front (batches_in s rest) ≡ total → FailsOrRunsOut f total
batches_fail f front s rest total h so_far = λ known.
    let one : with_batches front (batches_in s rest) ≡ Err f = rw (one_by_one s rest, h known) refl in
    sym so_far ∙ one

pub batches_end : (front : List RecordBatchTree) (s t : StateTree) (rest behind : List ℕ) (total : Result (List RecordBatchTree × List ℕ) IpcReadError) → next_in s rest ≡ Ok ((None, t), behind) → with_batches front (batches_in s rest) ≡ total → total ≡ Ok (front, behind)
batches_end front s t rest behind total next so_far =
    let one : with_batches front (batches_in s rest) ≡ Ok (front, behind) = rw (one_by_one s rest, next) (ap (λ (as_ : List RecordBatchTree). Ok (as_, behind)) (append-nil front)) in
    sym so_far ∙ one

-- each record batch leaves fewer bytes
pub batches_shrink : (s t : StateTree) (rest behind : List ℕ) (a : RecordBatchTree) → next_in s rest ≡ Ok ((Some a, t), behind) → length behind < length rest
batches_shrink s t rest behind a next = (rw next at (next_moves s rest)).1

-- ---- messages

-- after a dictionary batch comes the next message
pub messages_go_on : (s t : StateTree) (m : MessageModel) (rest behind : List ℕ) → message_at rest ≡ Ok (Some m, behind) → message_in s m ≡ Ok (None, t) → next_in s rest ≡ next_in t behind
messages_go_on s t m rest behind next found = by_message s rest ∙ rw (next, found) refl

pub messages_found : (s t : StateTree) (m : MessageModel) (a : RecordBatchTree) (rest behind : List ℕ) → message_at rest ≡ Ok (Some m, behind) → message_in s m ≡ Ok (Some a, t) → next_in s rest ≡ Ok ((Some a, t), behind)
messages_found s t m a rest behind next found = by_message s rest ∙ rw (next, found) refl

pub messages_end : (s : StateTree) (rest behind : List ℕ) → message_at rest ≡ Ok (None, behind) → next_in s rest ≡ Ok ((None, s), behind)
messages_end s rest behind next = by_message s rest ∙ rw next refl

pub messages_fail : (s : StateTree) (rest : List ℕ) (f : IpcReadError) → message_at rest ≡ Err f → next_in s rest ≡ Err f
messages_fail s rest f next = by_message s rest ∙ rw next refl

pub message_fails : (s : StateTree) (m : MessageModel) (rest behind : List ℕ) (f : IpcReadError) → message_at rest ≡ Ok (Some m, behind) → FailsOrRunsOut f (message_in s m) → FailsOrRunsOut f (next_in s rest)
message_fails s m rest behind f next fails = λ known. by_message s rest ∙ rw (next, fails known) refl

pub messages_shrink : (m : MessageModel) (rest behind : List ℕ) → message_at rest ≡ Ok (Some m, behind) → length behind < length rest
messages_shrink m rest behind next = (rw next at (message_goes rest)).1

pub map_twice : {A B C : Type 0} (f : B → C) (g : A → B) (xs : List A) → map (λ x. f (g x)) xs ≡ map f (map g xs)
map_twice f g [] = refl
map_twice {C = C} f g (x ∷ xs) = ap (λ (ys : List C). f (g x) ∷ ys) (map_twice f g xs)
