-- Compressing messages one by one, as a loop does.
use Rattle.std.proofs.Common.{◌≡◌, ℕ, ◌+◌, ◌-◌, ◌^◌, ◌<◌, ◌≤◌, inl, inr, true, false, leb, List, [], ◌∷◌, ◌++◌, length, Option, Some, None, Result, Ok, Err, refl, sym, ap, subst, ◌∙◌, append_assoc, length-append, arith}
use Rattle.std.specs.Prelude.{◌%◌, suc, Bool, ℤ}
use Rattle.std.specs.List.{AllByRecursion, flat_map}
use Rattle.std.proofs.lemmas.Bool.{le-leb, lt-leb}
use Rattle.std.proofs.lemmas.List.{append-nil}
use Rattle.std.proofs.lemmas.List.Concat.{flat_map-cons}
use Rattle.ipc_flatbuf.specs.declared.error.IpcReadError.{IpcReadError}
use Rattle.ipc_flatbuf.specs.declared.error.IpcWriteError.{IpcWriteError}
use Rattle.ipc_flatbuf.specs.declared.error.IpcWriteError.TheVariants.{Size}
use Rattle.ipc_flatbuf.specs.declared.batch.parts.BufferSpec.{BufferSpec}
use Rattle.ipc_flatbuf.specs.declared.compression.codec.CompressionCodec.TheVariants.{Lz4Frame}
use Rattle.ipc_flatbuf.specs.declared.message.types.MessageKind.TheVariants.{DictionaryBatch, RecordBatch}
use Rattle.ipc_flatbuf.specs.FlatbufferLaws.{From}
use Rattle.ipc_flatbuf.specs.Messages.{MessageModel, message_at}
use Rattle.ipc_flatbuf.specs.MessageBytes.{metadata_size, root_bytes, message_bytes}
use Rattle.ipc_flatbuf.specs.MessageLaws.{framed_long, root_long}
use Rattle.ipc_flatbuf.specs.Batches.{BatchModel, spec_all_within}
use Rattle.ipc_flatbuf.specs.BatchBytes.{batch_part_bytes, batch_message, IsBatchWriteError}
use Rattle.ipc_flatbuf.specs.BatchLaws.{batch_long}
use Rattle.ipc_flatbuf.specs.DictionaryBytes.{dictionary_part_bytes, dictionary_message}
use Rattle.ipc_flatbuf.specs.DictionaryLaws.{dictionary_long}
use Rattle.ipc_arrays.specs.BodyBuffers.{padded, body_of, buffer_specs}
use Rattle.ipc_arrays.specs.BodyBufferLaws.{all_in_body}
use Rattle.ipc_arrays.specs.PlainBodyLaws.{first_is, others_are}
use Rattle.ipc.specs.EncodedStreams.{or_error, size_error_if, each_error, IsErrorOrMemory}
use Rattle.ipc.specs.EncodedBatches.{each_push, each_refused}
use Rattle.ipc.specs.CompressedBodies.{AreContents, AreWrittenBuffers, CompressesBody}
use Rattle.ipc.specs.CompressedMessages.{BatchMessage, metadata_with, head_bytes, head_with, plain_bytes, header_in, SaysPlainly, IsReadable, ArePlainMessages, HeadRoundTrips, HeadRoundTripsWithBodies, IsCompressedMessage, AreCompressedMessages, AppendsCompressedMessage, AppendsCompressedMessages, compressed_metadata_size, compression_error}

-- ---- the contents of a body

contents_are : (whole : List ℕ) (offset : ℕ) (contents : List (List ℕ)) → From whole offset (body_of contents ++ []) → AreContents whole (buffer_specs offset contents) contents
unfolding buffer_specs
contents_are whole offset [] h = tt
contents_are whole offset (content ∷ contents) h = (first_is whole offset content contents [] h, contents_are whole (offset + length (padded content)) contents (others_are whole offset content contents [] h))

module _ (parts : MessageModel) (m : BatchMessage) (says : SaysPlainly parts m) (dictionary : Option (Bool × ℤ)) (batch : BatchModel) (read : header_in parts ≡ Ok (dictionary, batch)) where
  same : ◌≡◌ {A = Option (Bool × ℤ) × BatchModel} (dictionary, batch) (m.dictionary, metadata_with m None m.contents)
  same = cc

  pub same_dictionary : dictionary ≡ m.dictionary
  same_dictionary = ap (λ (x : Option (Bool × ℤ) × BatchModel). x.0) same

  pub same_batch : batch ≡ metadata_with m None m.contents
  same_batch = ap (λ (x : Option (Bool × ℤ) × BatchModel). x.1) same

  pub all_within : spec_all_within (length parts.body) batch.buffers ≡ Ok tt
  all_within = rw (says.body, ap (λ (b : BatchModel). b.buffers) same_batch) (all_in_body m.contents)

  pub has_contents : AreContents parts.body batch.buffers m.contents
  has_contents =
      let from : From (body_of m.contents) 0 (body_of m.contents ++ []) = record { is = sym (append-nil (body_of m.contents)); within = omega arith } in
      rw (says.body, ap (λ (b : BatchModel). b.buffers) same_batch) (contents_are (body_of m.contents) 0 m.contents from)

-- ---- the size of metadata

pub specs_long : (offset : ℕ) (buffers : List (List ℕ)) → length (buffer_specs offset buffers) ≡ length buffers
unfolding buffer_specs
specs_long offset [] = refl
specs_long offset (b ∷ buffers) = ap suc (specs_long (offset + length (padded b)) buffers)

pub as_long : (buffers contents : List (List ℕ)) → AreWrittenBuffers buffers contents → length buffers ≡ length contents
as_long [] [] are = refl
as_long [] (c ∷ contents) are = absurd are
as_long (b ∷ buffers) [] are = absurd are
as_long (b ∷ buffers) (c ∷ contents) are = ap suc (as_long buffers contents are.1)

abbrev framed_size : ℕ → ℕ
framed_size part = 8 + (48 + part) + (8 - (48 + part) % 8) % 8

batch_size : (b : BatchModel) (n : ℕ) → length (batch_message b n) ≡ framed_size (length (batch_part_bytes b))
unfolding batch_message message_bytes
batch_size b n =
    let metadata : List ℕ = root_bytes RecordBatch n 16 (batch_part_bytes b) in
    framed_long metadata ∙ ap (λ (k : ℕ). 8 + k + (8 - k % 8) % 8) (root_long RecordBatch n 16 (batch_part_bytes b))

dictionary_size : (delta : Bool) (id : ℤ) (b : BatchModel) (n : ℕ) → length (dictionary_message delta id b n) ≡ framed_size (32 + length (batch_part_bytes b))
unfolding dictionary_message message_bytes
dictionary_size delta id b n =
    let metadata : List ℕ = root_bytes DictionaryBatch n 12 (dictionary_part_bytes delta id b) in
    framed_long metadata ∙ ap (λ (k : ℕ). 8 + k + (8 - k % 8) % 8) (root_long DictionaryBatch n 12 (dictionary_part_bytes delta id b) ∙ ap (λ (k : ℕ). 48 + k) (dictionary_long delta id b))

pub part_size : (b c : BatchModel) → b.compression ≡ c.compression → b.nodes ≡ c.nodes → length b.buffers ≡ length c.buffers → length (batch_part_bytes b) ≡ length (batch_part_bytes c)
part_size b c codec nodes buffers = batch_long b ∙ rw (codec, nodes, buffers) (sym (batch_long c))

pub head_size : (d : Option (Bool × ℤ)) (b c : BatchModel) (n k : ℕ) → length (batch_part_bytes b) ≡ length (batch_part_bytes c) → length (head_bytes d b n) ≡ length (head_bytes d c k)
head_size None b c n k same = batch_size b n ∙ ap framed_size same ∙ sym (batch_size c k)
head_size (Some d) b c n k same = dictionary_size d.0 d.1 b n ∙ ap (λ (p : ℕ). framed_size (32 + p)) same ∙ sym (dictionary_size d.0 d.1 c k)

-- ---- one message

size_first : (a b : Bool) → b ≡ true → or_error (size_error_if a) (size_error_if b) ≡ Some Size
size_first true b h = refl
size_first false b h = rw h refl

-- a header with compressed buffers
module _ (m : BatchMessage) (dictionary : Option (Bool × ℤ)) (batch after : BatchModel) (specs : List BufferSpec) (body : List ℕ) (b : CompressesBody m.contents specs body) (named : dictionary ≡ m.dictionary) (plain : batch ≡ metadata_with m None m.contents)
    (is : after ≡ record { rows = batch.rows; nodes = batch.nodes; buffers = specs; compression = Some Lz4Frame })
  where
    compressed : after ≡ metadata_with m (Some Lz4Frame) b.buffers
    compressed = is ∙ (λ w. record { rows = (plain w).rows; nodes = (plain w).nodes; buffers = b.specs_are w; compression = Some Lz4Frame })

    head_is : head_bytes dictionary after (length body) ≡ head_with m (Some Lz4Frame) b.buffers
    head_is = λ w. head_bytes (named w) (compressed w) (length (b.body_is w))

    size_is : metadata_size (head_bytes dictionary after (length body)) ≡ compressed_metadata_size m
    size_is =
        let few : length (buffer_specs 0 b.buffers) ≡ length (buffer_specs 0 m.contents) = specs_long 0 b.buffers ∙ as_long b.buffers m.contents b.written ∙ sym (specs_long 0 m.contents) in
        let part : length (batch_part_bytes (metadata_with m (Some Lz4Frame) b.buffers)) ≡ length (batch_part_bytes (metadata_with m (Some Lz4Frame) m.contents)) =
        part_size (metadata_with m (Some Lz4Frame) b.buffers) (metadata_with m (Some Lz4Frame) m.contents) refl refl few in
        ap (λ (bytes : List ℕ). length bytes - 8) head_is
        ∙ ap (λ (k : ℕ). k - 8) (head_size m.dictionary (metadata_with m (Some Lz4Frame) b.buffers) (metadata_with m (Some Lz4Frame) m.contents) (length (body_of b.buffers)) (length (body_of m.contents)) part)

    rows_are : after.rows ≡ m.rows
    rows_are = ap (λ (x : BatchModel). x.rows) compressed

    pub message_appended : (old middle new : List ℕ) → middle ≡ old ++ head_bytes dictionary after (length body) → new ≡ middle ++ body → metadata_size (head_bytes dictionary after (length body)) < 2 ^ 31 → HeadRoundTripsWithBodies dictionary after (length body)
        → AppendsCompressedMessage m old new
    message_appended old middle new begun ended small again =
        let within : spec_all_within (length body) after.buffers ≡ Ok tt = rw (ap (λ (x : BatchModel). x.buffers) compressed, b.body_is) (all_in_body b.buffers) in
        let back : HeadRoundTrips dictionary after (head_bytes dictionary after (length body)) body = again body refl within small in
        let head : List ℕ = head_with m (Some Lz4Frame) b.buffers in (
          head ++ body_of b.buffers,
          record {
            buffers = b.buffers;
            written = b.written;
            bytes_are = refl;
            again = subst (λ (x : List ℕ). HeadRoundTrips m.dictionary (metadata_with m (Some Lz4Frame) b.buffers) head x) b.body_is (subst (λ (x : List ℕ). HeadRoundTrips m.dictionary (metadata_with m (Some Lz4Frame) b.buffers) x body) head_is
                (subst (λ (x : BatchModel). HeadRoundTrips m.dictionary x (head_bytes dictionary after (length body)) body) compressed (subst (λ (d : Option (Bool × ℤ)). HeadRoundTrips d after (head_bytes dictionary after (length body)) body) named back)));
          },
          ended ∙ ap (λ (x : List ℕ). x ++ body) (begun ∙ ap (λ (x : List ℕ). old ++ x) head_is) ∙ ap (λ (x : List ℕ). (old ++ head) ++ x) b.body_is ∙ append_assoc old head (body_of b.buffers),
        )

    pub message_refused : (why : IpcWriteError) → IsBatchWriteError after (metadata_size (head_bytes dictionary after (length body))) why → IsErrorOrMemory (compression_error m) why
    message_refused why (inl memory) = inl memory
    message_refused why (inr (size, inl many)) =
        let past : leb (2 ^ 63) m.rows ≡ true = le-leb _ _ (subst (λ (k : ℕ). 2 ^ 63 ≤ k) rows_are many) in
        inr (rw (size, past) refl)
    message_refused why (inr (size, inr long)) =
        let past : leb (2 ^ 31) (compressed_metadata_size m) ≡ true = le-leb _ _ (subst (λ (k : ℕ). 2 ^ 31 ≤ k) size_is long) in
        inr (rw size (size_first (leb (2 ^ 63) m.rows) (leb (2 ^ 31) (compressed_metadata_size m)) past))

    pub message_accepted : after.rows < 2 ^ 63 → metadata_size (head_bytes dictionary after (length body)) < 2 ^ 31 → compression_error m ≡ None
    message_accepted few small =
        let rows : leb (2 ^ 63) m.rows ≡ false = lt-leb _ _ (subst (λ (k : ℕ). k < 2 ^ 63) rows_are few) in
        let size : leb (2 ^ 31) (compressed_metadata_size m) ≡ false = lt-leb _ _ (subst (λ (k : ℕ). k < 2 ^ 31) size_is small) in
        rw (rows, size) refl

-- ---- the loop

-- the messages before the rest are compressed
pub record IsAfter (ms : List BatchMessage) (old out rest : List ℕ) : Type 0 where
  pub done : List BatchMessage
  pub left : List BatchMessage
  pub split : ms ≡ done ++ left
  pub rest_is : rest ≡ flat_map plain_bytes left
  pub readable : AllByRecursion IsReadable left
  pub appended : AppendsCompressedMessages done old out
  pub form : each_error compression_error done ≡ None

pub nothing_done : (ms : List BatchMessage) (bytes old out rest : List ℕ) → ArePlainMessages ms bytes → out ≡ old → rest ≡ bytes → IsAfter ms old out rest
nothing_done ms bytes old out rest are same whole = record { done = []; left = ms; split = refl; rest_is = whole ∙ are.bytes_are; readable = are.readable; appended = ([], refl, same ∙ sym (append-nil old)); form = refl }

-- the next of them
record HasNext (ms : List BatchMessage) (old out rest behind : List ℕ) (parts : MessageModel) : Type 0 where
  done : List BatchMessage
  m : BatchMessage
  others : List BatchMessage
  split : ms ≡ done ++ m ∷ others
  rest_is : behind ≡ flat_map plain_bytes others
  longer : length behind < length rest
  says : SaysPlainly parts m
  readable : AllByRecursion IsReadable others
  appended : AppendsCompressedMessages done old out
  form : each_error compression_error done ≡ None

none_is_not_some : (x : MessageModel) → ◌≡◌ {A = Option MessageModel} None (Some x) → ⊥
none_is_not_some x h = cc

ok_is : (p q : Option MessageModel × List ℕ) → ◌≡◌ {A = Result (Option MessageModel × List ℕ) IpcReadError} (Ok p) (Ok q) → p ≡ q
ok_is p q h = cc

pub apart : (x : MessageModel) (xs ys : List ℕ) → ◌≡◌ {A = Result (Option MessageModel × List ℕ) IpcReadError} (Ok (None, xs)) (Ok (Some x, ys)) → ⊥
apart x xs ys h = none_is_not_some x (ap (λ (p : Option MessageModel × List ℕ). p.0) (ok_is (None, xs) (Some x, ys) h))

pub at_end : message_at [] ≡ Ok (None, [])
unfolding message_at
at_end = refl

some_bytes : (m : BatchMessage) → IsReadable m → 0 < length (plain_bytes m)
some_bytes m is = by (plain_bytes m) is.parts (is.again [])
  where
    by : (bytes : List ℕ) (parts : MessageModel) → message_at (bytes ++ []) ≡ Ok (Some parts, []) → 0 < length bytes
    by [] parts h = absurd (apart parts [] [] (sym at_end ∙ h))
    by (b ∷ bytes) parts h = omega arith

-- what is read is the next message
module _ (ms : List BatchMessage) (old out rest behind : List ℕ) where
  next_of : (parts : MessageModel) → message_at rest ≡ Ok (Some parts, behind) → IsAfter ms old out rest → HasNext ms old out rest behind parts
  next_of parts found so_far = by so_far.left so_far.split so_far.rest_is so_far.readable
    where
      by : (left : List BatchMessage) → ms ≡ so_far.done ++ left → rest ≡ flat_map plain_bytes left → AllByRecursion IsReadable left → HasNext ms old out rest behind parts
      by [] split is readable = absurd (apart parts [] behind (sym (ap message_at is ∙ at_end) ∙ found))
      by (m ∷ others) split is readable =
          let more : List ℕ = flat_map plain_bytes others in
          let whole : rest ≡ plain_bytes m ++ more = is ∙ flat_map-cons plain_bytes m others in
          let read : message_at rest ≡ Ok (Some readable.0.parts, more) = ap message_at whole ∙ readable.0.again more in
          let both : ◌≡◌ {A = Option MessageModel × List ℕ} (Some parts, behind) (Some readable.0.parts, more) = cc in
          let is_rest : behind ≡ more = ap (λ (x : Option MessageModel × List ℕ). x.1) both in
          let is_parts : ◌≡◌ {A = Option MessageModel} (Some parts) (Some readable.0.parts) = ap (λ (x : Option MessageModel × List ℕ). x.0) both in
          let same_parts : parts ≡ readable.0.parts = cc in
          record {
            done = so_far.done;
            m = m;
            others = others;
            split = split;
            rest_is = is_rest;
            longer = omega (arith, ap length whole, length-append (plain_bytes m) more, ap length is_rest, some_bytes m readable.0);
            says = subst (λ (p : MessageModel). SaysPlainly p m) (sym same_parts) readable.0.says;
            readable = readable.1;
            appended = so_far.appended;
            form = so_far.form;
          }

  pub next_says : (parts : MessageModel) → message_at rest ≡ Ok (Some parts, behind) → IsAfter ms old out rest → (m : BatchMessage) × SaysPlainly parts m
  next_says parts found so_far = let n = next_of parts found so_far in (n.m, n.says)

  pub rest_shrinks : (parts : MessageModel) → message_at rest ≡ Ok (Some parts, behind) → IsAfter ms old out rest → length behind < length rest
  rest_shrinks parts found so_far = (next_of parts found so_far).longer

  pub message_fails : (parts : MessageModel) (why : IpcWriteError) → message_at rest ≡ Ok (Some parts, behind) → IsAfter ms old out rest → ((m : BatchMessage) → SaysPlainly parts m → IsErrorOrMemory (compression_error m) why) → IsErrorOrMemory (each_error compression_error ms) why
  message_fails parts why found so_far refused = let n = next_of parts found so_far in each_refused compression_error ms n.done n.others n.m why n.split n.form (refused n.m n.says)

  push : (done : List BatchMessage) (m : BatchMessage) (bytes more : List ℕ) → AreCompressedMessages done bytes → IsCompressedMessage m more → AreCompressedMessages (done ++ m ∷ []) (bytes ++ more)
  push [] m bytes more are is = (more, [], is, refl, ap (λ (x : List ℕ). x ++ more) are ∙ sym (append-nil more))
  push (d ∷ done) m bytes more are is =
      (are.0, are.1 ++ more, are.2, push done m are.1 more are.3 is, ap (λ (x : List ℕ). x ++ more) are.4 ∙ append_assoc are.0 are.1 more)

  pub message_done : (new : List ℕ) (parts : MessageModel) → message_at rest ≡ Ok (Some parts, behind) → IsAfter ms old out rest → ((m : BatchMessage) → SaysPlainly parts m → AppendsCompressedMessage m out new) → ((m : BatchMessage) → SaysPlainly parts m → compression_error m ≡ None) → IsAfter ms old new behind
  message_done new parts found so_far appended accepted =
      let n = next_of parts found so_far in
      let one = appended n.m n.says in
      record {
        done = n.done ++ n.m ∷ [];
        left = n.others;
        split = n.split ∙ sym (append_assoc n.done (n.m ∷ []) n.others);
        rest_is = n.rest_is;
        readable = n.readable;
        appended = (n.appended.0 ++ one.0, push n.done n.m n.appended.0 one.0 n.appended.1 one.1, one.2 ∙ ap (λ (x : List ℕ). x ++ one.0) n.appended.2 ∙ append_assoc old n.appended.0 one.0);
        form = each_push compression_error n.done n.m n.form (accepted n.m n.says);
      }

  none_left : message_at rest ≡ Ok (None, behind) → (so_far : IsAfter ms old out rest) → so_far.done ≡ ms
  none_left found so_far = by so_far.left so_far.split so_far.rest_is so_far.readable
    where
      by : (left : List BatchMessage) → ms ≡ so_far.done ++ left → rest ≡ flat_map plain_bytes left → AllByRecursion IsReadable left → so_far.done ≡ ms
      by [] split is readable = sym (split ∙ append-nil so_far.done)
      by (m ∷ others) split is readable = absurd (apart readable.0.parts behind (flat_map plain_bytes others) (sym found ∙ ap message_at (is ∙ flat_map-cons plain_bytes m others) ∙ readable.0.again (flat_map plain_bytes others)))

  pub all_appended : message_at rest ≡ Ok (None, behind) → IsAfter ms old out rest → AppendsCompressedMessages ms old out
  all_appended found so_far = subst (λ (x : List BatchMessage). AppendsCompressedMessages x old out) (none_left found so_far) so_far.appended

  pub all_accepted : message_at rest ≡ Ok (None, behind) → IsAfter ms old out rest → each_error compression_error ms ≡ None
  all_accepted found so_far = subst (λ (x : List BatchMessage). each_error compression_error x ≡ None) (none_left found so_far) so_far.form

pub never_fails : (ms : List BatchMessage) (old out rest : List ℕ) (e : IpcReadError) → message_at rest ≡ Err e → IsAfter ms old out rest → ⊥
never_fails ms old out rest e found so_far = by so_far.left so_far.rest_is so_far.readable
  where
    by : (left : List BatchMessage) → rest ≡ flat_map plain_bytes left → AllByRecursion IsReadable left → ⊥
    by [] is readable = never (sym found ∙ ap message_at is ∙ at_end)
      where
        never : ◌≡◌ {A = Result (Option MessageModel × List ℕ) IpcReadError} (Err e) (Ok (None, [])) → ⊥
        never h = cc
    by (m ∷ others) is readable = never (sym found ∙ ap message_at (is ∙ flat_map-cons plain_bytes m others) ∙ readable.0.again (flat_map plain_bytes others))
      where
        never : ◌≡◌ {A = Result (Option MessageModel × List ℕ) IpcReadError} (Err e) (Ok (Some readable.0.parts, flat_map plain_bytes others)) → ⊥
        never h = cc
