-- What is read from a reader, part by part, is what its bytes decode to.
use Rattle.std.proofs.Common.{◌≡◌, ℕ, ◌+◌, ◌<◌, ◌≤◌, inl, inr, Bool, true, false, leb, List, [], ◌∷◌, ◌++◌, length, Option, Some, None, Result, Ok, Err, refl, sym, ◌∙◌, subst, arith}
use Rattle.std.specs.Prelude.{◌==◌, if◌then◌else◌}
use Rattle.std.specs.Int.{w32, from_le_bytes}
use Rattle.std.proofs.lemmas.Bool.{le-leb, lt-leb}
use Rattle.std.proofs.lemmas.Bool.Decides.{Decides-eqb}
use Rattle.std.proofs.lemmas.List.{append-nil, length-append, take_at, drop_at}
use Rattle.ipc_flatbuf.specs.ReadResults.{◌>>=◌}
use Rattle.ipc_flatbuf.specs.declared.error.IpcReadError.{IpcReadError}
use Rattle.ipc_flatbuf.specs.declared.error.IpcReadError.TheVariants.{Truncated}
use Rattle.ipc_flatbuf.specs.Messages.{MessageModel, root_at, spec_first_bytes, spec_after_continuation, spec_message_of_size, spec_sized_message, message_at}
use Rattle.ipc_flatbuf.specs.declared.message.types.MessageRoot.{MessageRoot}
use Rattle.ipc_io.specs.declared.fetching.FetchedMessage.{FetchedMessage}
use Rattle.ipc_io.specs.declared.error.ReadError.{ReadError}
use Rattle.ipc_io.specs.declared.error.ReadError.TheVariants.{Ipc, Io}
use Rattle.ipc_io.specs.Fetched.{word_at, number_of_size, length_after, length_by, metadata_length_at, fetched_message, optional_fetched, ReadsUpTo, Fetches, IsReadFailure}

abbrev Bytes : Type 0
Bytes = Option (List ℕ)

-- ---- one part after another

module _ {A X : Type 0} (decoded : List ℕ → Result (A × List ℕ) IpcReadError) (view : X → A) where
  -- nothing is read
  pub fetched_nothing : (left : Bytes) (x : X) → ((xs : List ℕ) → decoded xs ≡ Ok (view x, xs)) → Fetches decoded view left left (Ok x)
  fetched_nothing None x h = tt
  fetched_nothing (Some xs) x h = h xs

  pub fails_at_once : (left new : Bytes) (error : IpcReadError) → ((xs : List ℕ) → decoded xs ≡ Err error) → Fetches decoded view left new (Err (Ipc error))
  fails_at_once None new error h = tt
  fails_at_once (Some xs) new error h = λ known. h xs

  -- the reader failed
  pub failed : (old new : Bytes) (e : ReadError) → IsReadFailure e → Fetches decoded view old new (Err e)
  failed None new e h = tt
  failed (Some xs) new (Ipc error) h = λ known. absurd (known h)
  failed (Some xs) new (Io e) h = tt

  module _ {B Y : Type 0} (others : A → List ℕ → Result (B × List ℕ) IpcReadError) (view' : Y → B) where
    pub fetched_then : (old mid new : Bytes) (x : X) (result : Result Y ReadError) → Fetches decoded view old mid (Ok x) → Fetches (others (view x)) view' mid new result → Fetches (λ bytes. decoded bytes >>= λ a. others a.0 a.1) view' old new result
    fetched_then None mid new x result first second = tt
    fetched_then (Some xs) None new x result first second = absurd first
    fetched_then (Some xs) (Some ys) None x (Ok y) first second = absurd second
    fetched_then (Some xs) (Some ys) (Some zs) x (Ok y) first second = rw first second
    fetched_then (Some xs) (Some ys) new x (Err (Ipc error)) first second = λ known. rw first (second known)
    fetched_then (Some xs) (Some ys) new x (Err (Io e)) first second = tt

    pub fails_first : (old new : Bytes) (e : ReadError) → Fetches decoded view old new (Err e) → Fetches (λ bytes. decoded bytes >>= λ a. others a.0 a.1) view' old new (Err e)
    fails_first None new e first = tt
    fails_first (Some xs) new (Ipc error) first = λ known. rw (first known) refl
    fails_first (Some xs) new (Io e) first = tt

by_other : {A X : Type 0} (decoded other : List ℕ → Result (A × List ℕ) IpcReadError) (view : X → A) (old new : Bytes) (result : Result X ReadError) → ((xs : List ℕ) → other xs ≡ decoded xs) → Fetches decoded view old new result → Fetches other view old new result
by_other decoded other view None new result same h = tt
by_other decoded other view (Some xs) None (Ok x) same h = absurd h
by_other decoded other view (Some xs) (Some ys) (Ok x) same h = same xs ∙ h
by_other decoded other view (Some xs) new (Err (Ipc error)) same h = λ known. same xs ∙ h known
by_other decoded other view (Some xs) new (Err (Io e)) same h = tt

-- ---- bytes

front_long : (n : ℕ) (a b : List ℕ) → length a ≡ n → spec_first_bytes n (a ++ b) ≡ Ok (a, b)
unfolding spec_first_bytes
front_long n a b e =
    let fits : leb n (length (a ++ b)) ≡ true = le-leb _ _ (omega (arith, e, length-append a b)) in
    rw (fits, take_at a b n e, drop_at a b n e) refl

front_short : (n : ℕ) (a : List ℕ) → length a < n → spec_first_bytes n a ≡ Err Truncated
unfolding spec_first_bytes
front_short n a lt =
    let short : leb n (length a) ≡ false = lt-leb _ _ lt in
    rw short refl

pub bytes_fetched : {X : Type 0} (view : X → List ℕ) (old new : Bytes) (n : ℕ) (x : X) → ReadsUpTo old new [] (view x) n → n ≤ length (view x) → Fetches (spec_first_bytes n) view old new (Ok x)
bytes_fetched view None new n x h enough = tt
bytes_fetched view (Some xs) None n x h enough = absurd h.2
bytes_fetched view (Some xs) (Some ys) n x (more, is, came, inl long) enough = rw (came, is) (front_long n more ys long)
bytes_fetched view (Some xs) (Some ys) n x (more, is, came, inr (short, none)) enough = absurd (omega (arith, short, rw is at enough))

pub bytes_missing : {X : Type 0} (view : X → List ℕ) (old new : Bytes) (n : ℕ) (buf : List ℕ) → ReadsUpTo old new [] buf n → length buf < n → Fetches (spec_first_bytes n) view old new (Err (Ipc Truncated))
bytes_missing view None new n buf h lt = tt
bytes_missing view (Some xs) None n buf h lt = absurd h.2
bytes_missing view (Some xs) (Some ys) n buf (more, is, came, inl long) lt = absurd (omega (arith, long, rw is at lt))
bytes_missing view (Some xs) (Some ys) n buf (more, is, came, inr (short, none)) lt = λ known. rw (came, none, append-nil more) (front_short n more short)

-- ---- a number of 4 bytes

bool_false : (b : Bool) (P : Type 0) → (b ≡ true → P) → (P → ⊥) → b ≡ false
bool_false true P h k = absurd (k (h refl))
bool_false false P h k = refl

not_zero : (n : ℕ) → 0 < n → (n == 0) ≡ false
not_zero n lt = bool_false (n == 0) (n ≡ 0) (Decides-eqb n 0).0 (λ e. omega (arith, e, lt))

abbrev first_word : Result (List ℕ × List ℕ) IpcReadError → Result (Option ℕ × List ℕ) IpcReadError
first_word read = read >>= λ word. Ok (Some (from_le_bytes w32 word.0), word.1)

word_of_some : (bytes : List ℕ) → 0 < length bytes → word_at bytes ≡ first_word (spec_first_bytes 4 bytes)
unfolding word_at
word_of_some bytes some = rw (not_zero (length bytes) some) refl

word_of_none : word_at [] ≡ Ok (None, [])
unfolding word_at
word_of_none = refl

nothing_of_none : (b : List ℕ) → length b ≡ 0 → b ≡ []
nothing_of_none [] h = refl
nothing_of_none (x ∷ b) h = absurd (omega (arith, h))

pub word_absent : (old new : Bytes) (buf : List ℕ) → ReadsUpTo old new [] buf 4 → length buf ≡ 0 → Fetches word_at (λ word. word) old new (Ok None)
word_absent None new buf h none = tt
word_absent (Some xs) None buf h none = absurd h.2
word_absent (Some xs) (Some ys) buf (more, is, came, inl long) none = absurd (omega (arith, long, rw is at none))
word_absent (Some xs) (Some ys) buf (more, is, came, inr (short, end)) none = rw (came, end, nothing_of_none more (rw is at none)) word_of_none

pub word_missing : (old new : Bytes) (buf : List ℕ) → ReadsUpTo old new [] buf 4 → 0 < length buf → length buf < 4 → Fetches word_at (λ word. word) old new (Err (Ipc Truncated))
word_missing None new buf h some lt = tt
word_missing (Some xs) None buf h some lt = absurd h.2
word_missing (Some xs) (Some ys) buf (more, is, came, inl long) some lt = absurd (omega (arith, long, rw is at lt))
word_missing (Some xs) (Some ys) buf (more, is, came, inr (short, end)) some lt = λ known. rw (came, end, append-nil more, word_of_some more (rw is at some), front_short 4 more short) refl

pub word_fetched : (old new : Bytes) (buf : List ℕ) (word : ℕ) → ReadsUpTo old new [] buf 4 → 4 ≤ length buf → word ≡ from_le_bytes w32 buf → Fetches word_at (λ word. word) old new (Ok (Some word))
word_fetched None new buf word h enough value = tt
word_fetched (Some xs) None buf word h enough value = absurd h.2
word_fetched (Some xs) (Some ys) buf word (more, is, came, inl long) enough value =
    rw (came, value, is, word_of_some (more ++ ys) (omega (arith, long, length-append more ys)), front_long 4 more ys long) refl
word_fetched (Some xs) (Some ys) buf word (more, is, came, inr (short, none)) enough value = absurd (omega (arith, short, rw is at enough))

-- ---- the length of the metadata

abbrev some_message : ℕ → List ℕ → Result (Option MessageModel × List ℕ) IpcReadError
some_message size rest = spec_message_of_size size rest >>= λ parts. Ok (Some parts.0, parts.1)

-- the message with a length, which is 0 at the end of the stream
abbrev pub message_by : ℕ → List ℕ → Result (Option MessageModel × List ℕ) IpcReadError
message_by size rest = if size == 0 then Ok (None, rest) else (spec_message_of_size size rest >>= λ parts. Ok (Some parts.0, parts.1))

abbrev sized_word : Option ℕ × List ℕ → Result (ℕ × List ℕ) IpcReadError
sized_word word = length_after word.0 >>= λ size. Ok (size, word.1)

abbrev by_size : Result (ℕ × List ℕ) IpcReadError → Result (Option MessageModel × List ℕ) IpcReadError
by_size read = read >>= λ size. message_by size.0 size.1

-- the length and the message after it
sized_by_word : (rest : List ℕ) → spec_sized_message rest ≡ by_size (word_at rest >>= sized_word)
unfolding spec_sized_message
sized_by_word [] = rw (front_short 4 [] (omega arith), word_of_none) refl
sized_by_word (b ∷ rest) = rw (word_of_some (b ∷ rest) (omega arith)) (one (spec_first_bytes 4 (b ∷ rest)))
  where
    two : (size : Result ℕ IpcReadError) (behind : List ℕ) → (size >>= λ n. message_by n behind) ≡ by_size (size >>= λ n. Ok (n, behind))
    two (Ok n) behind = refl
    two (Err error) behind = refl

    one : (read : Result (List ℕ × List ℕ) IpcReadError) → (read >>= λ long. number_of_size (from_le_bytes w32 long.0) >>= λ n. message_by n long.1) ≡ by_size (first_word read >>= sized_word)
    one (Ok long) = two (number_of_size (from_le_bytes w32 long.0)) long.1
    one (Err error) = refl

-- a message is that with the length at the start of its bytes
pub message_by_length : (bytes : List ℕ) → message_at bytes ≡ by_size (metadata_length_at bytes)
unfolding message_at metadata_length_at spec_after_continuation
message_by_length [] = rw word_of_none refl
message_by_length (b ∷ bytes) = rw (not_zero (length (b ∷ bytes)) (omega arith), word_of_some (b ∷ bytes) (omega arith)) (one (spec_first_bytes 4 (b ∷ bytes)) refl)
  where
    unmarked : (size : Result ℕ IpcReadError) (rest : List ℕ) → (size >>= λ n. message_by n rest) ≡ by_size (size >>= λ n. Ok (n, rest))
    unmarked (Ok n) rest = refl
    unmarked (Err error) rest = refl

    marked : (mark : Bool) (word rest : List ℕ) → spec_first_bytes 4 (b ∷ bytes) ≡ Ok (word, rest)
        → spec_sized_message (if mark then rest else b ∷ bytes) ≡ by_size (if mark then (word_at rest >>= sized_word) else (number_of_size (from_le_bytes w32 word) >>= λ size. Ok (size, rest)))
    marked true word rest first = sized_by_word rest
    marked false word rest first = unfold spec_sized_message in rw first (unmarked (number_of_size (from_le_bytes w32 word)) rest)

    one : (read : Result (List ℕ × List ℕ) IpcReadError) → spec_first_bytes 4 (b ∷ bytes) ≡ read
        → ((read >>= λ mark. Ok (if from_le_bytes w32 mark.0 == 4294967295 then mark.1 else b ∷ bytes)) >>= spec_sized_message) ≡ by_size (first_word read >>= λ first. length_by first.0 first.1)
    one (Ok (word, rest)) first = marked (from_le_bytes w32 word == 4294967295) word rest first
    one (Err error) first = refl

abbrev word : Option ℕ → Option ℕ
word w = w

abbrev size_of : ℕ → ℕ
size_of size = size

module _ (old mid new : Bytes) where
  pub length_unread : (e : ReadError) → Fetches word_at word old new (Err e) → Fetches metadata_length_at size_of old new (Err e)
  unfolding metadata_length_at
  length_unread e first = fails_first word_at word length_by size_of old new e first

  pub length_of_none : Fetches word_at word old new (Ok None) → Fetches metadata_length_at size_of old new (Ok 0)
  unfolding metadata_length_at
  length_of_none first = fetched_then word_at word length_by size_of old new new None (Ok 0) first (fetched_nothing (length_by None) size_of new 0 (λ xs. refl))

  -- the length without the continuation indicator
  unmarked : (long : ℕ) (result : Result ℕ ReadError) → Fetches word_at word old new (Ok (Some long)) → (long ≡ 4294967295 → ⊥) → Fetches (λ rest. number_of_size long >>= λ size. Ok (size, rest)) size_of new new result → Fetches metadata_length_at size_of old new result
  unfolding metadata_length_at
  unmarked long result first other second =
      let differs : (long == 4294967295) ≡ false = bool_false (long == 4294967295) (long ≡ 4294967295) (Decides-eqb long 4294967295).0 other in
      let same : (rest : List ℕ) → length_by (Some long) rest ≡ (number_of_size long >>= λ size. Ok (size, rest)) = λ rest. rw differs refl in
      fetched_then word_at word length_by size_of old new new (Some long) result first (by_other (λ rest. number_of_size long >>= λ size. Ok (size, rest)) (length_by (Some long)) size_of new new result same second)

  pub length_unmarked : (long size : ℕ) → Fetches word_at word old new (Ok (Some long)) → (long ≡ 4294967295 → ⊥) → number_of_size long ≡ Ok size → Fetches metadata_length_at size_of old new (Ok size)
  length_unmarked long size first other read = unmarked long (Ok size) first other (fetched_nothing (λ rest. number_of_size long >>= λ size. Ok (size, rest)) size_of new size (λ xs. rw read refl))

  pub length_unmarked_invalid : (long : ℕ) (error : IpcReadError) → Fetches word_at word old new (Ok (Some long)) → (long ≡ 4294967295 → ⊥) → number_of_size long ≡ Err error → Fetches metadata_length_at size_of old new (Err (Ipc error))
  length_unmarked_invalid long error first other read = unmarked long (Err (Ipc error)) first other (fails_at_once (λ rest. number_of_size long >>= λ size. Ok (size, rest)) size_of new new error (λ xs. rw read refl))

  -- the length after the continuation indicator
  after_mark : (mark : ℕ) (result : Result ℕ ReadError) → Fetches word_at word old mid (Ok (Some mark)) → mark ≡ 4294967295 → Fetches (λ bytes. word_at bytes >>= sized_word) size_of mid new result → Fetches metadata_length_at size_of old new result
  unfolding metadata_length_at
  after_mark mark result first is second =
      fetched_then word_at word length_by size_of old mid new (Some mark) result first (rw is second)

  pub length_cut : (mark : ℕ) → Fetches word_at word old mid (Ok (Some mark)) → mark ≡ 4294967295 → Fetches word_at word mid new (Ok None) → Fetches metadata_length_at size_of old new (Err (Ipc Truncated))
  length_cut mark first is second =
      after_mark mark (Err (Ipc Truncated)) first is (fetched_then word_at word (λ w rest. sized_word (w, rest)) size_of mid new new None (Err (Ipc Truncated)) second (fails_at_once (λ rest. sized_word (None, rest)) size_of new new Truncated (λ xs. refl)))

  pub length_unread_after : (mark : ℕ) (e : ReadError) → Fetches word_at word old mid (Ok (Some mark)) → mark ≡ 4294967295 → Fetches word_at word mid new (Err e) → Fetches metadata_length_at size_of old new (Err e)
  length_unread_after mark e first is second = after_mark mark (Err e) first is (fails_first word_at word (λ w rest. sized_word (w, rest)) size_of mid new e second)

  pub length_invalid : (mark long : ℕ) (error : IpcReadError) → Fetches word_at word old mid (Ok (Some mark)) → mark ≡ 4294967295 → Fetches word_at word mid new (Ok (Some long)) → number_of_size long ≡ Err error → Fetches metadata_length_at size_of old new (Err (Ipc error))
  length_invalid mark long error first is second read =
      after_mark mark (Err (Ipc error)) first is (fetched_then word_at word (λ w rest. sized_word (w, rest)) size_of mid new new (Some long) (Err (Ipc error)) second (fails_at_once (λ rest. sized_word (Some long, rest)) size_of new new error (λ xs. rw read refl)))

  pub length_read : (mark long size : ℕ) → Fetches word_at word old mid (Ok (Some mark)) → mark ≡ 4294967295 → Fetches word_at word mid new (Ok (Some long)) → number_of_size long ≡ Ok size → Fetches metadata_length_at size_of old new (Ok size)
  length_read mark long size first is second read =
      after_mark mark (Ok size) first is (fetched_then word_at word (λ w rest. sized_word (w, rest)) size_of mid new new (Some long) (Ok size) second (fetched_nothing (λ rest. sized_word (Some long, rest)) size_of new size (λ xs. rw read refl)))

-- ---- the metadata and the body

module _ {V : Type 0} (items : V → List ℕ) (old mid new : Bytes) (size : ℕ) where
  abbrev body_of : MessageRoot → List ℕ → List ℕ → Result (MessageModel × List ℕ) IpcReadError
  body_of root metadata rest = spec_first_bytes root.body_length rest >>= λ body. Ok (record { root = root; metadata = metadata; body = body.0 }, body.1)

  abbrev body_after : List ℕ → List ℕ → Result (MessageModel × List ℕ) IpcReadError
  body_after metadata rest = root_at metadata >>= λ root. body_of root metadata rest

  pub metadata_unread : (e : ReadError) → Fetches (spec_first_bytes size) items old new (Err e) → Fetches (spec_message_of_size size) fetched_message old new (Err e)
  unfolding spec_message_of_size
  metadata_unread e first = fails_first (spec_first_bytes size) items body_after fetched_message old new e first

  pub root_invalid : (metadata : V) (error : IpcReadError) → Fetches (spec_first_bytes size) items old new (Ok metadata) → root_at (items metadata) ≡ Err error → Fetches (spec_message_of_size size) fetched_message old new (Err (Ipc error))
  unfolding spec_message_of_size
  root_invalid metadata error first read =
      fetched_then (spec_first_bytes size) items body_after fetched_message old new new metadata (Err (Ipc error)) first (fails_at_once (body_after (items metadata)) fetched_message new new error (λ xs. rw read refl))

  pub body_unread : (metadata : V) (root : MessageRoot) (e : ReadError) → Fetches (spec_first_bytes size) items old mid (Ok metadata) → root_at (items metadata) ≡ Ok root → Fetches (spec_first_bytes root.body_length) items mid new (Err e)
      → Fetches (spec_message_of_size size) fetched_message old new (Err e)
  unfolding spec_message_of_size
  body_unread metadata root e first read second =
      fetched_then (spec_first_bytes size) items body_after fetched_message old mid new metadata (Err e) first
      (by_other (body_of root (items metadata)) (body_after (items metadata)) fetched_message mid new (Err e) (λ rest. rw read refl)
      (fails_first (spec_first_bytes root.body_length) items (λ body rest. Ok (record { root = root; metadata = items metadata; body = body }, rest)) fetched_message mid new e second))

  pub parts_read : (metadata body : V) (root : MessageRoot) (m : FetchedMessage) → fetched_message m ≡ record { root = root; metadata = items metadata; body = items body } → Fetches (spec_first_bytes size) items old mid (Ok metadata) → root_at (items metadata) ≡ Ok root
      → Fetches (spec_first_bytes root.body_length) items mid new (Ok body) → Fetches (spec_message_of_size size) fetched_message old new (Ok m)
  unfolding spec_message_of_size
  parts_read metadata body root m is first read second =
      fetched_then (spec_first_bytes size) items body_after fetched_message old mid new metadata (Ok m) first
      (by_other (body_of root (items metadata)) (body_after (items metadata)) fetched_message mid new (Ok m) (λ rest. rw read refl)
      (fetched_then (spec_first_bytes root.body_length) items (λ body rest. Ok (record { root = root; metadata = items metadata; body = body }, rest)) fetched_message mid new new body (Ok m) second
      (fetched_nothing (λ rest. Ok (record { root = root; metadata = items metadata; body = items body }, rest)) fetched_message new m (λ xs. rw is refl))))

-- ---- messages

module _ (old mid new : Bytes) where
  by_size_of : (result : Result (Option FetchedMessage) ReadError) → Fetches (λ bytes. by_size (metadata_length_at bytes)) optional_fetched old new result → Fetches message_at optional_fetched old new result
  by_size_of result h = by_other (λ bytes. by_size (metadata_length_at bytes)) message_at optional_fetched old new result message_by_length h

  pub message_unread : (e : ReadError) → Fetches metadata_length_at size_of old new (Err e) → Fetches message_at optional_fetched old new (Err e)
  message_unread e first = by_size_of (Err e) (fails_first metadata_length_at size_of message_by optional_fetched old new e first)

  pub message_absent : (size : ℕ) → Fetches metadata_length_at size_of old new (Ok size) → size ≡ 0 → Fetches message_at optional_fetched old new (Ok None)
  message_absent size first none =
      by_size_of (Ok None) (fetched_then metadata_length_at size_of message_by optional_fetched old new new size (Ok None) first (fetched_nothing (message_by size) optional_fetched new None (λ xs. rw none refl)))

  pub message_failed : (size : ℕ) (e : ReadError) → Fetches metadata_length_at size_of old mid (Ok size) → 0 < size → Fetches (spec_message_of_size size) fetched_message mid new (Err e) → Fetches message_at optional_fetched old new (Err e)
  message_failed size e first some second =
      by_size_of (Err e) (fetched_then metadata_length_at size_of message_by optional_fetched old mid new size (Err e) first
      (by_other (some_message size) (message_by size) optional_fetched mid new (Err e) (λ rest. rw (not_zero size some) refl)
      (fails_first (spec_message_of_size size) fetched_message (λ m rest. Ok (Some m, rest)) optional_fetched mid new e second)))

  pub message_read : (size : ℕ) (m : FetchedMessage) → Fetches metadata_length_at size_of old mid (Ok size) → 0 < size → Fetches (spec_message_of_size size) fetched_message mid new (Ok m) → Fetches message_at optional_fetched old new (Ok (Some m))
  message_read size m first some second =
      by_size_of (Ok (Some m)) (fetched_then metadata_length_at size_of message_by optional_fetched old mid new size (Ok (Some m)) first
      (by_other (some_message size) (message_by size) optional_fetched mid new (Ok (Some m)) (λ rest. rw (not_zero size some) refl)
      (fetched_then (spec_message_of_size size) fetched_message (λ m rest. Ok (Some m, rest)) optional_fetched mid new new m (Ok (Some m)) second
      (fetched_nothing (λ rest. Ok (Some (fetched_message m), rest)) optional_fetched new (Some m) (λ xs. refl)))))
