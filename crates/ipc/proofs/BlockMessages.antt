-- The blocks of messages, message by message, as a loop adds them.
use Rattle.std.proofs.Common.{◌≡◌, ℕ, ◌+◌, ◌-◌, ◌^◌, ◌<◌, ◌≤◌, inl, inr, Bool, true, false, leb, List, [], ◌∷◌, ◌++◌, length, Option, Some, None, Result, Ok, Err, refl, sym, ap, subst, ◌∙◌, append_assoc, length-append, arith}
use Rattle.std.specs.Prelude.{ℤ, is_some}
use Rattle.std.specs.List.{AllByRecursion, flat_map}
use Rattle.std.proofs.lemmas.Bool.{le-leb, lt-leb}
use Rattle.std.proofs.lemmas.List.{append-nil}
use Rattle.std.proofs.lemmas.List.Concat.{flat_map-cons, flat_map-append}
use Rattle.ipc_flatbuf.specs.declared.error.IpcReadError.{IpcReadError}
use Rattle.ipc_flatbuf.specs.declared.error.IpcWriteError.{IpcWriteError}
use Rattle.ipc_flatbuf.specs.declared.compression.codec.CompressionCodec.TheVariants.{Lz4Frame}
use Rattle.ipc_flatbuf.specs.Messages.{MessageModel, message_at}
use Rattle.ipc_flatbuf.specs.Batches.{BatchModel}
use Rattle.ipc_flatbuf.specs.BatchBytes.{batch_part_bytes}
use Rattle.ipc_schema.specs.declared.footer.types.Block.{Block}
use Rattle.ipc_arrays.specs.BodyBuffers.{body_of, buffer_specs}
use Rattle.ipc.specs.EncodedStreams.{or_error, size_error_if, each_error, IsErrorOrMemory}
use Rattle.ipc.specs.EncodedFiles.{Blocks, block_at, no_blocks, block_length_error}
use Rattle.ipc.specs.EncodedBatches.{each_push, each_refused, first_refused, later_refused, both_accepted}
use Rattle.ipc.specs.CompressedMessages.{BatchMessage, metadata_with, head_with, HeadRoundTrips, IsCompressedMessage, AreCompressedMessages, AppendsCompressedMessages, compression_error}
use Rattle.ipc.specs.CompressedFiles.{FileMessage, file_message_bytes, with_first_block, with_last_block, block_of_lengths, message_blocks, both_blocks, compressed_part, CompressesMessage, CompressesMessages, kind_of_part, is_dictionary_kind, IsReadBack, AreReadBack, IsLengthErrorOrMemory, part_length_error, compressed_length_error, compressed_messages_error, AppendsCompressedParts}
use Rattle.ipc.proofs.MessageLoops.{head_size, part_size, specs_long, as_long, at_end, apart}

-- ---- the messages that were added

all_long : (m : FileMessage) (ms : List FileMessage) → length (flat_map file_message_bytes (m ∷ ms)) ≡ length (file_message_bytes m) + length (flat_map file_message_bytes ms)
all_long m ms = ap length (flat_map-cons file_message_bytes m ms) ∙ length-append (file_message_bytes m) (flat_map file_message_bytes ms)

push_long : (ms : List FileMessage) (m : FileMessage) → length (flat_map file_message_bytes (ms ++ m ∷ [])) ≡ length (flat_map file_message_bytes ms) + length (file_message_bytes m)
push_long ms m = ap length (flat_map-append file_message_bytes ms (m ∷ [])) ∙ length-append (flat_map file_message_bytes ms) (flat_map file_message_bytes (m ∷ [])) ∙ ap (λ (n : ℕ). length (flat_map file_message_bytes ms) + n) (all_long m [] ∙ omega arith)

first_last : (j k : Bool) (first last : Block) (blocks : Blocks) → with_first_block j first (with_last_block k last blocks) ≡ with_last_block k last (with_first_block j first blocks)
first_last true true first last blocks = refl
first_last true false first last blocks = refl
first_last false true first last blocks = refl
first_last false false first last blocks = refl

only_block : (k : Bool) (block : Block) → with_first_block k block no_blocks ≡ with_last_block k block no_blocks
only_block true block = refl
only_block false block = refl

-- one more message
blocks_push : (position : ℕ) (ms : List FileMessage) (m : FileMessage) → message_blocks position (ms ++ m ∷ []) ≡ with_last_block m.is_dictionary (block_at (position + length (flat_map file_message_bytes ms)) m.head m.body) (message_blocks position ms)
unfolding message_blocks
blocks_push position [] m =
    let start : position + 0 ≡ position = omega arith in
    only_block m.is_dictionary (block_at position m.head m.body) ∙ ap (λ (n : ℕ). with_last_block m.is_dictionary (block_at n m.head m.body) no_blocks) (sym start)
blocks_push position (n ∷ ms) m =
    let next : ℕ = position + length (file_message_bytes n) in
    let first : Block = block_at position n.head n.body in
    let there : next + length (flat_map file_message_bytes ms) ≡ position + length (flat_map file_message_bytes (n ∷ ms)) = omega (arith, all_long n ms) in
    ap (with_first_block n.is_dictionary first) (blocks_push next ms m)
    ∙ first_last n.is_dictionary m.is_dictionary first (block_at (next + length (flat_map file_message_bytes ms)) m.head m.body) (message_blocks next ms)
    ∙ ap (λ (k : ℕ). with_last_block m.is_dictionary (block_at k m.head m.body) (with_first_block n.is_dictionary first (message_blocks next ms))) there

both_last : (k : Bool) (block : Block) (old blocks : Blocks) → with_last_block k block (both_blocks old blocks) ≡ both_blocks old (with_last_block k block blocks)
both_last true block old blocks = λ w. record { dictionaries = append_assoc old.dictionaries blocks.dictionaries (block ∷ []) w; batches = old.batches ++ blocks.batches }
both_last false block old blocks = λ w. record { dictionaries = old.dictionaries ++ blocks.dictionaries; batches = append_assoc old.batches blocks.batches (block ∷ []) w }

-- the messages before the rest have their blocks
pub record IsScanned (parts : List FileMessage) (position : ℕ) (old now : Blocks) (bytes rest : List ℕ) (start : ℕ) : Type 0 where
  pub done : List FileMessage
  pub left : List FileMessage
  pub split : parts ≡ done ++ left
  pub rest_is : rest ≡ flat_map file_message_bytes left
  pub readable : AllByRecursion IsReadBack left
  pub begins : start ≡ position + length (flat_map file_message_bytes done)
  pub long : length bytes ≡ length (flat_map file_message_bytes done) + length rest
  pub blocks : now ≡ both_blocks old (message_blocks position done)
  pub form : each_error part_length_error done ≡ None

no_more : (old : Blocks) → old ≡ both_blocks old no_blocks
no_more old = λ w. record { dictionaries = sym (append-nil old.dictionaries) w; batches = sym (append-nil old.batches) w }

pub none_scanned : (parts : List FileMessage) (position : ℕ) (old now : Blocks) (bytes rest : List ℕ) (start : ℕ) → AreReadBack parts bytes → now ≡ old → rest ≡ bytes → start ≡ position → IsScanned parts position old now bytes rest start
unfolding message_blocks
none_scanned parts position old now bytes rest start are same whole first = record {
  done = [];
  left = parts;
  split = refl;
  rest_is = whole ∙ are.bytes_are;
  readable = are.readable;
  begins = omega (arith, first);
  long = omega (arith, ap length whole);
  blocks = same ∙ no_more old;
  form = refl;
}

-- the next of them
pub record HasNextPart (parts : List FileMessage) (position : ℕ) (old now : Blocks) (bytes rest behind : List ℕ) (start : ℕ) (message : MessageModel) : Type 0 where
  pub done : List FileMessage
  pub m : FileMessage
  pub others : List FileMessage
  pub split : parts ≡ done ++ m ∷ others
  pub rest_is : behind ≡ flat_map file_message_bytes others
  pub readable : AllByRecursion IsReadBack others
  pub begins : start ≡ position + length (flat_map file_message_bytes done)
  pub long : length bytes ≡ length (flat_map file_message_bytes done) + length rest
  pub blocks : now ≡ both_blocks old (message_blocks position done)
  pub form : each_error part_length_error done ≡ None
  pub whole : length rest ≡ length m.head + length m.body + length behind
  pub some : 0 < length m.head + length m.body
  pub body : length message.body ≡ length m.body
  pub kind : message.root.kind ≡ kind_of_part m.is_dictionary

some_bytes : (m : FileMessage) → IsReadBack m → 0 < length (file_message_bytes m)
some_bytes m is = by (file_message_bytes m) is.message (is.again [])
  where
    by : (bytes : List ℕ) (message : MessageModel) → message_at (bytes ++ []) ≡ Ok (Some message, []) → 0 < length bytes
    by [] message h = absurd (apart message [] [] (sym at_end ∙ h))
    by (b ∷ bytes) message h = omega arith

kind_back : (k : Bool) → is_dictionary_kind (kind_of_part k) ≡ k
kind_back true = refl
kind_back false = refl

module _ (parts : List FileMessage) (position : ℕ) (old now : Blocks) (bytes rest behind : List ℕ) (start : ℕ) where
  pub next_part : (message : MessageModel) → message_at rest ≡ Ok (Some message, behind) → IsScanned parts position old now bytes rest start → HasNextPart parts position old now bytes rest behind start message
  next_part message found so_far = by so_far.left so_far.split so_far.rest_is so_far.readable
    where
      by : (left : List FileMessage) → parts ≡ so_far.done ++ left → rest ≡ flat_map file_message_bytes left → AllByRecursion IsReadBack left → HasNextPart parts position old now bytes rest behind start message
      by [] split is readable = absurd (apart message [] behind (sym (ap message_at is ∙ at_end) ∙ found))
      by (m ∷ others) split is readable =
          let more : List ℕ = flat_map file_message_bytes others in
          let whole : rest ≡ file_message_bytes m ++ more = is ∙ flat_map-cons file_message_bytes m others in
          let read : message_at rest ≡ Ok (Some readable.0.message, more) = ap message_at whole ∙ readable.0.again more in
          let both : ◌≡◌ {A = Option MessageModel × List ℕ} (Some message, behind) (Some readable.0.message, more) = cc in
          let is_rest : behind ≡ more = ap (λ (x : Option MessageModel × List ℕ). x.1) both in
          let is_message : ◌≡◌ {A = Option MessageModel} (Some message) (Some readable.0.message) = ap (λ (x : Option MessageModel × List ℕ). x.0) both in
          let same : message ≡ readable.0.message = cc in
          record {
            done = so_far.done;
            m = m;
            others = others;
            split = split;
            rest_is = is_rest;
            readable = readable.1;
            begins = so_far.begins;
            long = so_far.long;
            blocks = so_far.blocks;
            form = so_far.form;
            whole = omega (arith, ap length whole, length-append (file_message_bytes m) more, length-append m.head m.body, ap length is_rest);
            some = omega (arith, some_bytes m readable.0, length-append m.head m.body);
            body = ap (λ (x : MessageModel). length x.body) same ∙ readable.0.long;
            kind = ap (λ (x : MessageModel). x.root.kind) same ∙ readable.0.kind;
          }

  pub rest_is_shorter : (message : MessageModel) → message_at rest ≡ Ok (Some message, behind) → IsScanned parts position old now bytes rest start → length behind < length rest
  rest_is_shorter message found so_far = let n = next_part message found so_far in omega (arith, n.whole, n.some)

  pub ends_inside : (message : MessageModel) → message_at rest ≡ Ok (Some message, behind) → IsScanned parts position old now bytes rest start → start + (length rest - length behind) ≤ position + length bytes
  ends_inside message found so_far = let n = next_part message found so_far in omega (arith, n.whole, n.begins, n.long)

  pub body_inside : (message : MessageModel) (end : ℕ) → message_at rest ≡ Ok (Some message, behind) → IsScanned parts position old now bytes rest start → end ≡ start + (length rest - length behind) → start + length message.body ≤ end
  body_inside message end found so_far is = let n = next_part message found so_far in omega (arith, n.whole, n.body, is)

  pub block_refused : (message : MessageModel) (end : ℕ) (why : IpcWriteError) → message_at rest ≡ Ok (Some message, behind) → IsScanned parts position old now bytes rest start → end ≡ start + (length rest - length behind) → IsLengthErrorOrMemory (end - start - length message.body) why → IsErrorOrMemory (each_error part_length_error parts) why
  block_refused message end why found so_far is refused =
      let n = next_part message found so_far in
      let head : end - start - length message.body ≡ length n.m.head = omega (arith, n.whole, n.body, is) in
      each_refused part_length_error parts n.done n.others n.m why n.split n.form (by n.m.head head refused)
    where
      by : (bytes : List ℕ) → end - start - length message.body ≡ length bytes → IsLengthErrorOrMemory (end - start - length message.body) why → IsErrorOrMemory (block_length_error bytes) why
      by bytes head (inl memory) = inl memory
      by bytes head (inr long) =
          let past : leb (2 ^ 31) (length bytes) ≡ true = le-leb _ _ (subst (λ (k : ℕ). 2 ^ 31 ≤ k) head long.1) in
          inr (rw (past, long.0) refl)

  pub part_scanned : (new : Blocks) (message : MessageModel) (end : ℕ) → message_at rest ≡ Ok (Some message, behind) → IsScanned parts position old now bytes rest start → end ≡ start + (length rest - length behind) → end - start - length message.body < 2 ^ 31
      → new ≡ with_last_block (is_dictionary_kind message.root.kind) (block_of_lengths start (end - start - length message.body) (length message.body)) now → IsScanned parts position old new bytes behind end
  part_scanned new message end found so_far is short pushed =
      let n = next_part message found so_far in
      let m : FileMessage = n.m in
      let here : ℕ = position + length (flat_map file_message_bytes n.done) in
      let head : end - start - length message.body ≡ length m.head = omega (arith, n.whole, n.body, is) in
      let fits : leb (2 ^ 31) (length m.head) ≡ false = lt-leb _ _ (subst (λ (k : ℕ). k < 2 ^ 31) head short) in
      let kind : is_dictionary_kind message.root.kind ≡ m.is_dictionary = ap is_dictionary_kind n.kind ∙ kind_back m.is_dictionary in
      let block : block_of_lengths start (end - start - length message.body) (length message.body) ≡ block_at here m.head m.body = λ w. block_of_lengths (n.begins w) (head w) (n.body w) in
      let last : new ≡ with_last_block m.is_dictionary (block_at here m.head m.body) now = pushed ∙ (λ w. with_last_block (kind w) (block w) now) in
      record {
        done = n.done ++ m ∷ [];
        left = n.others;
        split = n.split ∙ sym (append_assoc n.done (m ∷ []) n.others);
        rest_is = n.rest_is;
        readable = n.readable;
        begins = omega (arith, push_long n.done m, length-append m.head m.body, n.whole, n.begins, is);
        long = omega (arith, push_long n.done m, length-append m.head m.body, n.whole, n.long);
        blocks = last ∙ ap (with_last_block m.is_dictionary (block_at here m.head m.body)) n.blocks ∙ both_last m.is_dictionary (block_at here m.head m.body) old (message_blocks position n.done) ∙ ap (both_blocks old) (sym (blocks_push position n.done m));
        form = each_push part_length_error n.done m n.form (rw fits refl);
      }

  none_left : message_at rest ≡ Ok (None, behind) → (so_far : IsScanned parts position old now bytes rest start) → so_far.done ≡ parts
  none_left found so_far = by so_far.left so_far.split so_far.rest_is so_far.readable
    where
      by : (left : List FileMessage) → parts ≡ so_far.done ++ left → rest ≡ flat_map file_message_bytes left → AllByRecursion IsReadBack left → so_far.done ≡ parts
      by [] split is readable = sym (split ∙ append-nil so_far.done)
      by (m ∷ others) split is readable = absurd (apart readable.0.message behind (flat_map file_message_bytes others) (sym found ∙ ap message_at (is ∙ flat_map-cons file_message_bytes m others) ∙ readable.0.again (flat_map file_message_bytes others)))

  pub all_scanned : message_at rest ≡ Ok (None, behind) → IsScanned parts position old now bytes rest start → now ≡ both_blocks old (message_blocks position parts)
  all_scanned found so_far = so_far.blocks ∙ ap (λ (ms : List FileMessage). both_blocks old (message_blocks position ms)) (none_left found so_far)

  pub all_short : message_at rest ≡ Ok (None, behind) → IsScanned parts position old now bytes rest start → each_error part_length_error parts ≡ None
  all_short found so_far = subst (λ (ms : List FileMessage). each_error part_length_error ms ≡ None) (none_left found so_far) so_far.form

pub scan_never_fails : (parts : List FileMessage) (position : ℕ) (old now : Blocks) (bytes rest : List ℕ) (start : ℕ) (e : IpcReadError) → message_at rest ≡ Err e → IsScanned parts position old now bytes rest start → ⊥
scan_never_fails parts position old now bytes rest start e found so_far = by so_far.left so_far.rest_is so_far.readable
  where
    by : (left : List FileMessage) → rest ≡ flat_map file_message_bytes left → AllByRecursion IsReadBack left → ⊥
    by [] is readable = never (sym found ∙ ap message_at is ∙ at_end)
      where
        never : ◌≡◌ {A = Result (Option MessageModel × List ℕ) IpcReadError} (Err e) (Ok (None, [])) → ⊥
        never h = cc
    by (m ∷ others) is readable = never (sym found ∙ ap message_at (is ∙ flat_map-cons file_message_bytes m others) ∙ readable.0.again (flat_map file_message_bytes others))
      where
        never : ◌≡◌ {A = Result (Option MessageModel × List ℕ) IpcReadError} (Err e) (Ok (Some readable.0.message, flat_map file_message_bytes others)) → ⊥
        never h = cc

-- ---- compressed messages are messages of a file

pub record HasParts (ms : List BatchMessage) (bytes : List ℕ) : Type 0 where
  pub parts : List FileMessage
  pub compressed : CompressesMessages ms parts
  pub bytes_are : bytes ≡ flat_map file_message_bytes parts

pub has_parts : (ms : List BatchMessage) (bytes : List ℕ) → AreCompressedMessages ms bytes → HasParts ms bytes
has_parts [] bytes are = record { parts = []; compressed = tt; bytes_are = are }
has_parts (m ∷ ms) bytes are =
    let one : IsCompressedMessage m are.0 = are.2 in
    let rest : HasParts ms are.1 = has_parts ms are.1 are.3 in
    let part : FileMessage = compressed_part m one.buffers in
    record {
      parts = part ∷ rest.parts;
      compressed = (record { buffers = one.buffers; written = one.written; is = refl; again = one.again }, rest.compressed);
      bytes_are = are.4 ∙ (λ w. one.bytes_are w ++ rest.bytes_are w) ∙ sym (flat_map-cons file_message_bytes part rest.parts);
    }

-- they are read back
reads_back : (d : Option (Bool × ℤ)) (batch : BatchModel) (head body : List ℕ) → HeadRoundTrips d batch head body → IsReadBack (record { is_dictionary = is_some d; head = head; body = body })
reads_back None batch head body again = record { message = again.parts; again = λ rest. ap message_at (append_assoc head body rest) ∙ again.again rest; kind = again.kind; long = ap length again.same_body }
reads_back (Some d) batch head body again = record { message = again.parts; again = λ rest. ap message_at (append_assoc head body rest) ∙ again.again rest; kind = again.kind; long = ap length again.same_body }

pub parts_read : (ms : List BatchMessage) (parts : List FileMessage) → CompressesMessages ms parts → AllByRecursion IsReadBack parts
parts_read [] [] are = tt
parts_read [] (part ∷ parts) are = absurd are
parts_read (m ∷ ms) [] are = absurd are
parts_read (m ∷ ms) (part ∷ parts) are =
    let c : CompressesMessage m part = are.0 in
    (subst IsReadBack (sym c.is) (reads_back m.dictionary (metadata_with m (Some Lz4Frame) c.buffers) (head_with m (Some Lz4Frame) c.buffers) (body_of c.buffers) c.again), parts_read ms parts are.1)

-- the length of a head does not depend on those of the buffers
same_length : (m : BatchMessage) (part : FileMessage) → CompressesMessage m part → part_length_error part ≡ compressed_length_error m
same_length m part c =
    let few : length (buffer_specs 0 c.buffers) ≡ length (buffer_specs 0 m.contents) = specs_long 0 c.buffers ∙ as_long c.buffers m.contents c.written ∙ sym (specs_long 0 m.contents) in
    let size : length (batch_part_bytes (metadata_with m (Some Lz4Frame) c.buffers)) ≡ length (batch_part_bytes (metadata_with m (Some Lz4Frame) m.contents)) =
    part_size (metadata_with m (Some Lz4Frame) c.buffers) (metadata_with m (Some Lz4Frame) m.contents) refl refl few in
    ap part_length_error c.is ∙ ap (λ (n : ℕ). size_error_if (leb (2 ^ 31) n)) (head_size m.dictionary (metadata_with m (Some Lz4Frame) c.buffers) (metadata_with m (Some Lz4Frame) m.contents) (length (body_of c.buffers)) (length (body_of m.contents)) size)

pub same_lengths : (ms : List BatchMessage) (parts : List FileMessage) → CompressesMessages ms parts → each_error part_length_error parts ≡ each_error compressed_length_error ms
same_lengths [] [] are = refl
same_lengths [] (part ∷ parts) are = absurd are
same_lengths (m ∷ ms) [] are = absurd are
same_lengths (m ∷ ms) (part ∷ parts) are = λ w. or_error (same_length m part are.0 w) (same_lengths ms parts are.1 w)

-- messages that were compressed after other bytes, and then have blocks
module _ (ms : List BatchMessage) (old mid slice : List ℕ) (start : ℕ) (appended : AppendsCompressedMessages ms old mid) (slice_is : slice ≡ appended.0) (begins : start ≡ length old) where
  pub parts_of : HasParts ms appended.0
  parts_of = has_parts ms appended.0 appended.1

  pub are_read_back : AreReadBack parts_of.parts slice
  are_read_back = record { bytes_are = slice_is ∙ parts_of.bytes_are; readable = parts_read ms parts_of.parts parts_of.compressed }

  pub parts_appended : (blocks more : Blocks) → more ≡ both_blocks blocks (message_blocks start parts_of.parts) → AppendsCompressedParts ms old blocks mid more
  parts_appended blocks more pushed = (
    parts_of.parts,
    parts_of.compressed,
    (appended.2 ∙ ap (λ (x : List ℕ). old ++ x) parts_of.bytes_are, pushed ∙ ap (λ (n : ℕ). both_blocks blocks (message_blocks n parts_of.parts)) begins),
  )

  pub lengths_refused : (why : IpcWriteError) → each_error compression_error ms ≡ None → IsErrorOrMemory (each_error part_length_error parts_of.parts) why → IsErrorOrMemory (compressed_messages_error ms) why
  lengths_refused why none refused =
      later_refused (each_error compression_error ms) (each_error compressed_length_error ms) why none (subst (λ (r : Option IpcWriteError). IsErrorOrMemory r why) (same_lengths ms parts_of.parts parts_of.compressed) refused)

  pub lengths_accepted : each_error compression_error ms ≡ None → each_error part_length_error parts_of.parts ≡ None → compressed_messages_error ms ≡ None
  lengths_accepted none short = both_accepted (each_error compression_error ms) (each_error compressed_length_error ms) none (sym (same_lengths ms parts_of.parts parts_of.compressed) ∙ short)

pub messages_refused : (ms : List BatchMessage) (why : IpcWriteError) → IsErrorOrMemory (each_error compression_error ms) why → IsErrorOrMemory (compressed_messages_error ms) why
messages_refused ms why refused = first_refused (each_error compression_error ms) (each_error compressed_length_error ms) why refused
