-- The next message of a reader: how many bytes are read for it, and what they decode to.
use Rattle.std.specs.Prelude.{◌≡◌, ◌<◌, ◌==◌, ◌⊎◌, ◌++◌, ℕ, List, [], length, Option, None, Some, Result, Ok, Err, if◌then◌else◌}
use Rattle.std.specs.Int.{w32, from_le_bytes, cast_signed}
use Rattle.std.specs.Io.KnownBytes.{Consumes, IsAtEnd}
use Rattle.ipc_flatbuf.specs.ReadResults.{◌>>=◌, FailsOrRunsOut}
use Rattle.ipc_flatbuf.specs.declared.error.IpcReadError as read_errors
use Rattle.ipc_flatbuf.specs.declared.error.IpcReadError.TheVariants.{MetadataLength, Memory, Truncated}
use Rattle.ipc_flatbuf.specs.Flatbuffers.{spec_non_negative}
use Rattle.ipc_flatbuf.specs.Messages.{MessageModel, spec_first_bytes}
use Rattle.ipc_io.specs.declared.error.ReadError.{ReadError}
use Rattle.ipc_io.specs.declared.error.ReadError.TheVariants.{Ipc, Io}
use Rattle.ipc_io.specs.declared.fetching.FetchedMessage.{FetchedMessage}

-- ---- lengths

-- a number of 4 bytes at the start of the bytes, and the bytes after it; None where there are no bytes
unfoldable pub word_at : List ℕ → Result (Option ℕ × List ℕ) read_errors.IpcReadError
word_at bytes = if length bytes == 0 then Ok (None, []) else (spec_first_bytes 4 bytes >>= λ word. Ok (Some (from_le_bytes w32 word.0), word.1))

-- the length of the metadata from its number
abbrev pub number_of_size : ℕ → Result ℕ read_errors.IpcReadError
number_of_size word = spec_non_negative MetadataLength (cast_signed w32 word)

abbrev pub length_after : Option ℕ → Result ℕ read_errors.IpcReadError
length_after None = Err Truncated
length_after (Some word) = number_of_size word

abbrev pub length_by : Option ℕ → List ℕ → Result (ℕ × List ℕ) read_errors.IpcReadError
length_by None rest = Ok (0, rest)
length_by (Some first) rest = if first == 4294967295 then (word_at rest >>= λ word. length_after word.0 >>= λ size. Ok (size, word.1)) else (number_of_size first >>= λ size. Ok (size, rest))

-- the length of the metadata of the message at the start of the bytes, after the continuation indicator if there is one, and the bytes after it; 0 at the end of the
-- stream
unfoldable pub metadata_length_at : List ℕ → Result (ℕ × List ℕ) read_errors.IpcReadError
metadata_length_at bytes = word_at bytes >>= λ first. length_by first.0 first.1

-- ---- what was read

-- this many bytes were appended to those before, or all that the reader had
abbrev pub ReadsUpTo : Option (List ℕ) → Option (List ℕ) → List ℕ → List ℕ → ℕ → Type 0
ReadsUpTo old new before after want = (more : List ℕ) × (after ≡ before ++ more) × Consumes old new more × ((length more ≡ want) ⊎ ((length more < want) × IsAtEnd new))

-- the value of a message that was read
abbrev pub fetched_message : FetchedMessage → MessageModel
fetched_message m = record { root = m.root; metadata = m.metadata.items; body = m.body.items }

abbrev pub optional_fetched : Option FetchedMessage → Option MessageModel
optional_fetched None = None
optional_fetched (Some m) = Some (fetched_message m)

-- A value is read from a reader: it is what the bytes decode to, and the bytes after it are left; or they have this error. An I/O error may be returned instead.
abbrev pub Fetches : {A X : Type 0} → (List ℕ → Result (A × List ℕ) read_errors.IpcReadError) → (X → A) → Option (List ℕ) → Option (List ℕ) → Result X ReadError → Type 0
Fetches decoded view None new result = Unit {0}
Fetches decoded view (Some xs) None (Ok x) = ⊥
Fetches decoded view (Some xs) (Some ys) (Ok x) = decoded xs ≡ Ok (view x, ys)
Fetches decoded view (Some xs) new (Err (Ipc error)) = FailsOrRunsOut error (decoded xs)
Fetches decoded view (Some xs) new (Err (Io e)) = Unit {0}

-- the reader failed, or an allocation did
abbrev pub IsReadFailure : ReadError → Type 0
IsReadFailure (Ipc error) = error ≡ Memory
IsReadFailure (Io e) = Unit {0}
