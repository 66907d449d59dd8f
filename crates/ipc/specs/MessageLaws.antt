-- The record batches of a stream are those of its messages.
use Rattle.std.specs.Prelude.{◌≡◌, ℕ, zero, suc, ◌<◌, List, [], ◌∷◌, length, Option, Some, None, Result, Ok, Err, IfOk, refl}
use Rattle.std.proofs.Common.{sym, ap, subst, ◌∙◌, arith}
use Rattle.ipc_flatbuf.specs.ReadResults.{◌>>=◌}
use Rattle.ipc_flatbuf.specs.declared.error.IpcReadError.{IpcReadError}
use Rattle.ipc_flatbuf.specs.Messages.{MessageModel, message_at}
use Rattle.ipc.specs.StreamsInFiles.{with_messages, messages_within, messages_in, with_batch, batches_by, batches_with_left}
use Rattle.ipc.specs.StreamLaws.{Batches, Goes, message_goes, by_message, one_by_one}
use Rattle.ipc.specs.Streams.{RecordBatchTree, StateTree, Next, message_in, or_next, next_by, next_in, with_others, batches_in}

-- bytes are these messages in order, up to the end
abbrev AreMessages : List ℕ → List MessageModel → List ℕ → Type 0
AreMessages bytes [] after = message_at bytes ≡ Ok (None, after)
AreMessages bytes (m ∷ ms) after = (behind : List ℕ) × (message_at bytes ≡ Ok (Some m, behind)) × AreMessages behind ms after

pub ok_same : {A : Type 0} (x y : A) → ◌≡◌ {A = Result A IpcReadError} (Ok x) (Ok y) → x ≡ y
ok_same x y e = cc

-- a message before others
abbrev before : MessageModel → Result (List MessageModel × List ℕ) IpcReadError → Result (List MessageModel × List ℕ) IpcReadError
before m read = read >>= λ x. Ok (m ∷ x.0, x.1)

-- messages that are read are these
abbrev AllAre : ℕ → Type 0
AllAre n = (bytes : List ℕ) (ms : List MessageModel) (after : List ℕ) → length bytes < n → messages_within n bytes ≡ Ok (ms, after) → AreMessages bytes ms after

others_are : (n : ℕ) (bytes : List ℕ) (m : MessageModel) (behind : List ℕ) (ms : List MessageModel) (after : List ℕ) (read : Result (List MessageModel × List ℕ) IpcReadError) → AllAre n → message_at bytes ≡ Ok (Some m, behind) → length behind < n
    → messages_within n behind ≡ read → before m read ≡ Ok (ms, after) → AreMessages bytes ms after
others_are n bytes m behind ms after (Err f) all at less is e = cc
others_are n bytes m behind ms after (Ok x) all at less is e =
    let whole : AreMessages bytes (m ∷ x.0) x.1 = (behind, at, all behind x.0 x.1 less is) in
    let pair : ◌≡◌ {A = List MessageModel × List ℕ} (m ∷ x.0, x.1) (ms, after) = ok_same {A = List MessageModel × List ℕ} (m ∷ x.0, x.1) (ms, after) e in
    let first : m ∷ x.0 ≡ ms = ap (λ (y : List MessageModel × List ℕ). y.0) pair in
    let last : x.1 ≡ after = ap (λ (y : List MessageModel × List ℕ). y.1) pair in
    subst (λ (ys : List MessageModel). AreMessages bytes ys after) first (subst (AreMessages bytes (m ∷ x.0)) last whole)

one_is : (n : ℕ) (bytes : List ℕ) (ms : List MessageModel) (after : List ℕ) (read : Result (Option MessageModel × List ℕ) IpcReadError) → AllAre n → length bytes < suc n → message_at bytes ≡ read → IfOk read (Goes (length bytes))
    → (read >>= λ next. with_messages (messages_within n) next.0 next.1) ≡ Ok (ms, after) → AreMessages bytes ms after
one_is n bytes ms after (Err f) all lt is goes e = cc
one_is n bytes ms after (Ok (None, behind)) all lt is goes e =
    let pair : ◌≡◌ {A = List MessageModel × List ℕ} ([], behind) (ms, after) = ok_same {A = List MessageModel × List ℕ} ([], behind) (ms, after) e in
    let none : [] ≡ ms = ap (λ (y : List MessageModel × List ℕ). y.0) pair in
    let last : behind ≡ after = ap (λ (y : List MessageModel × List ℕ). y.1) pair in
    subst (λ (ys : List MessageModel). AreMessages bytes ys after) none (is ∙ (λ w. Ok (None, last w)))
one_is n bytes ms after (Ok (Some m, behind)) all lt is goes e = others_are n bytes m behind ms after (messages_within n behind) all is (omega (arith, goes.1)) refl e

are_by : (n : ℕ) → AllAre n
unfolding messages_within
are_by zero bytes ms after lt e = absurd (omega arith)
are_by (suc n) bytes ms after lt e = one_is n bytes ms after (message_at bytes) (are_by n) lt refl (message_goes bytes) e

-- ---- a message, and those after it

-- the first record batch, and the others
abbrev all_of : Next → Batches
all_of next = next >>= λ x. with_others batches_in x.0.0 x.0.1 x.1

next_all : (s : StateTree) (bytes : List ℕ) → all_of (next_in s bytes) ≡ batches_in s bytes
next_all s bytes = sym (one_by_one s bytes)

-- the record batch of a message before what is read after it
by_one : (x : Result (Option RecordBatchTree × StateTree) IpcReadError) (behind : List ℕ) → all_of (x >>= λ y. or_next next_in y.0 y.1 behind) ≡ (x >>= λ y. batches_in y.1 behind >>= λ z. Ok (with_batch y.0 z.0, z.1))
by_one (Err f) behind = refl
by_one (Ok (None, t)) behind = next_all t behind ∙ same (batches_in t behind)
  where
    same : (read : Batches) → read ≡ (read >>= λ z. Ok (with_batch None z.0, z.1))
    same (Ok z) = refl
    same (Err f) = refl
by_one (Ok (Some batch, t)) behind = refl

first_message : (s : StateTree) (bytes : List ℕ) (m : MessageModel) (behind : List ℕ) → message_at bytes ≡ Ok (Some m, behind) → batches_in s bytes ≡ (message_in s m >>= λ x. batches_in x.1 behind >>= λ z. Ok (with_batch x.0 z.0, z.1))
first_message s bytes m behind e =
    sym (next_all s bytes)
    ∙ ap all_of (by_message s bytes ∙ ap (λ (read : Result (Option MessageModel × List ℕ) IpcReadError). read >>= λ next. next_by next_in s next.0 next.1) e)
    ∙ by_one (message_in s m) behind

no_message : (s : StateTree) (bytes after : List ℕ) → message_at bytes ≡ Ok (None, after) → batches_in s bytes ≡ Ok ([], after)
no_message s bytes after e =
    sym (next_all s bytes)
    ∙ ap all_of (by_message s bytes ∙ ap (λ (read : Result (Option MessageModel × List ℕ) IpcReadError). read >>= λ next. next_by next_in s next.0 next.1) e)

-- the record batch of a message before others
abbrev before_batches : Option RecordBatchTree → Batches → Batches
before_batches o read = read >>= λ z. Ok (with_batch o z.0, z.1)

abbrev before_known : Option RecordBatchTree → Result (List RecordBatchTree × StateTree) IpcReadError → Result (List RecordBatchTree × StateTree) IpcReadError
before_known o read = read >>= λ z. Ok (with_batch o z.0, z.1)

-- the record batches after a message
each_behind : (o : Option RecordBatchTree) (after : List ℕ) (read : Batches) (more : Result (List RecordBatchTree × StateTree) IpcReadError) → read ≡ batches_with_left after more → before_batches o read ≡ batches_with_left after (before_known o more)
each_behind o after read (Ok x) e = ap (before_batches o) e
each_behind o after read (Err f) e = ap (before_batches o) e

message_behind : (ms : List MessageModel) (behind after : List ℕ) (x : Result (Option RecordBatchTree × StateTree) IpcReadError) → ((t : StateTree) → batches_in t behind ≡ batches_with_left after (batches_by t ms))
    → (x >>= λ y. before_batches y.0 (batches_in y.1 behind)) ≡ batches_with_left after (x >>= λ y. before_known y.0 (batches_by y.1 ms))
message_behind ms behind after (Err f) others = refl
message_behind ms behind after (Ok y) others = each_behind y.0 after (batches_in y.1 behind) (batches_by y.1 ms) (others y.1)

by_messages : (ms : List MessageModel) (s : StateTree) (bytes after : List ℕ) → AreMessages bytes ms after → batches_in s bytes ≡ batches_with_left after (batches_by s ms)
unfolding batches_by
by_messages [] s bytes after are = no_message s bytes after are
by_messages (m ∷ ms) s bytes after are = first_message s bytes m are.0 are.1 ∙ message_behind ms are.0 after (message_in s m) (λ t. by_messages ms t are.0 after are.2)

-- the record batches of a stream are those of its messages
pub batches_of_messages : (s : StateTree) (bytes : List ℕ) (ms : List MessageModel) (after : List ℕ) → messages_in bytes ≡ Ok (ms, after) → batches_in s bytes ≡ batches_with_left after (batches_by s ms)
batches_of_messages s bytes ms after e = by_messages ms s bytes after (are_by (suc (length bytes)) bytes ms after (omega arith) e)
