-- A file that holds the messages of a stream, none of which replaces a dictionary, is read as that stream.
use Rattle.std.specs.Prelude.{◌≡◌, ◌⊎◌, ◌-◌, ℕ, true, false, List, [], ◌∷◌, length, Option, Some, None, Result, Ok, Err, refl}
use Rattle.std.proofs.Common.{sym, ap, subst, inl, inr, ◌∙◌}
use Rattle.ipc_flatbuf.specs.ReadResults.{◌>>=◌}
use Rattle.ipc_flatbuf.specs.declared.error.IpcReadError.{IpcReadError}
use Rattle.ipc_flatbuf.specs.declared.error.IpcReadError.TheVariants.{DuplicateDictionary}
use Rattle.ipc_flatbuf.specs.Messages.{MessageModel}
use Rattle.ipc_flatbuf.specs.declared.message.types.MessageKind.{MessageKind}
use Rattle.ipc_flatbuf.specs.declared.message.types.MessageKind.TheVariants.{Schema, DictionaryBatch, RecordBatch}
use Rattle.ipc_schema.specs.Projections.{ProjectionModel}
use Rattle.ipc_schema.specs.ProjectedSchemas.{ProjectedSchemaModel, spec_check_projected_version, stream_projected_schema_at}
use Rattle.ipc_schema.specs.ProjectedFooters.{ProjectedFooterModel, projected_footer_in}
use Rattle.ipc_schema.specs.declared.footer.types.Block.{Block}
use Rattle.ipc_arrays.specs.DecodingLaws.{found}
use Rattle.ipc.specs.Files.{block_in, batches_at, dictionaries_at, file_reader_in, projected_file_in}
use Rattle.ipc.specs.StreamsInFiles.{with_batch, batches_by, batches_with_left, messages_of, AreBlocksOf, HoldsStream, IsReadAsStream}
use Rattle.ipc.specs.ExtendedDictionaries.{HasArrays, IsLater}
use Rattle.ipc.specs.ExtendedColumns.{read_too}
use Rattle.ipc.specs.KnownMoreLaws.{later_self, later_on, batch_later, OrReplaced, dictionary_or, dictionary_later}
use Rattle.ipc.specs.MessageLaws.{batches_of_messages, ok_same}
use Rattle.ipc.specs.Streams.{RecordBatchTree, StateTree, StreamTree, start, message_by_kind, message_in, record_batch_in, dictionary_in, batches_in, projected_stream_in}
use Rattle.ipc.specs.EncodedStreams.{IsSameBatch, AreSameBatches}

-- ---- kinds of messages

record IsDictionary (s : StateTree) (m : MessageModel) (x : Option RecordBatchTree × StateTree) : Type 0 where
  kind : m.root.kind ≡ DictionaryBatch
  none : x.0 ≡ None
  read : dictionary_in false s m ≡ Ok x.1

record IsBatch (s : StateTree) (m : MessageModel) (x : Option RecordBatchTree × StateTree) : Type 0 where
  kind : m.root.kind ≡ RecordBatch
  batch : RecordBatchTree
  some : x.0 ≡ Some batch
  read : record_batch_in s m ≡ Ok batch
  same : x.1 ≡ s

known_by : (s : StateTree) (m : MessageModel) (x : Option RecordBatchTree × StateTree) (read : Result StateTree IpcReadError) → m.root.kind ≡ DictionaryBatch → dictionary_in false s m ≡ read → (read >>= λ known. Ok (None, known)) ≡ Ok x → IsDictionary s m x
known_by s m x (Err f) kind is e = cc
known_by s m x (Ok t) kind is e = record { kind = kind; none = cc; read = is ∙ (let last : t ≡ x.1 = cc in ap (λ (u : StateTree). Ok u) last) }

batch_by : (s : StateTree) (m : MessageModel) (x : Option RecordBatchTree × StateTree) (read : Result RecordBatchTree IpcReadError) → m.root.kind ≡ RecordBatch → record_batch_in s m ≡ read → (read >>= λ batch. Ok (Some batch, s)) ≡ Ok x → IsBatch s m x
batch_by s m x (Err f) kind is e = cc
batch_by s m x (Ok batch) kind is e = record { kind = kind; batch = batch; some = cc; read = is; same = cc }

either : (s : StateTree) (m : MessageModel) (x : Option RecordBatchTree × StateTree) (kind : MessageKind) → m.root.kind ≡ kind → message_by_kind kind s m ≡ Ok x → IsDictionary s m x ⊎ IsBatch s m x
either s m x Schema is e = cc
either s m x DictionaryBatch is e = inl (known_by s m x (dictionary_in false s m) is refl e)
either s m x RecordBatch is e = inr (batch_by s m x (record_batch_in s m) is refl e)

after_allowed : {A B : Type 0} (allowed : Result A IpcReadError) (read : Result B IpcReadError) (x : B) → (allowed >>= λ a. read) ≡ Ok x → read ≡ Ok x
after_allowed (Ok a) read x e = e
after_allowed (Err f) read x e = cc

message_is : (s : StateTree) (m : MessageModel) (x : Option RecordBatchTree × StateTree) → message_in s m ≡ Ok x → IsDictionary s m x ⊎ IsBatch s m x
unfolding message_in
message_is s m x e = either s m x m.root.kind refl (after_allowed (spec_check_projected_version m.root.version s.picked.schema.fields s.picked.steps) (message_by_kind m.root.kind s m) x e)

-- ---- messages in order

-- the first message, and the others
record BeginsWith (s : StateTree) (m : MessageModel) (ms : List MessageModel) (bs : List RecordBatchTree) (t : StateTree) : Type 0 where
  x : Option RecordBatchTree × StateTree
  first : message_in s m ≡ Ok x
  others : List RecordBatchTree
  rest : batches_by x.1 ms ≡ Ok (others, t)
  all : with_batch x.0 others ≡ bs

abbrev Known : Type 0
Known = Result (List RecordBatchTree × StateTree) IpcReadError

abbrev before : Option RecordBatchTree → Known → Known
before o read = read >>= λ others. Ok (with_batch o others.0, others.1)

begins_by : (s : StateTree) (m : MessageModel) (ms : List MessageModel) (bs : List RecordBatchTree) (t : StateTree) (x : Option RecordBatchTree × StateTree) (read : Result (List RecordBatchTree × StateTree) IpcReadError) → message_in s m ≡ Ok x → batches_by x.1 ms ≡ read
    → before x.0 read ≡ Ok (bs, t) → BeginsWith s m ms bs t
begins_by s m ms bs t x (Err f) first is e = cc
begins_by s m ms bs t x (Ok y) first is e =
    let pair : ◌≡◌ {A = List RecordBatchTree × StateTree} (with_batch x.0 y.0, y.1) (bs, t) = ok_same {A = List RecordBatchTree × StateTree} (with_batch x.0 y.0, y.1) (bs, t) e in
    record { x = x; first = first; others = y.0; rest = is ∙ (λ w. Ok (y.0, (pair w).1)); all = λ w. (pair w).0 }

begins_with : (s : StateTree) (m : MessageModel) (ms : List MessageModel) (bs : List RecordBatchTree) (t : StateTree) (read : Result (Option RecordBatchTree × StateTree) IpcReadError) → message_in s m ≡ read
    → (read >>= λ x. before x.0 (batches_by x.1 ms)) ≡ Ok (bs, t) → BeginsWith s m ms bs t
begins_with s m ms bs t (Err f) is e = cc
begins_with s m ms bs t (Ok x) is e = begins_by s m ms bs t x (batches_by x.1 ms) is refl e

first_of : (s : StateTree) (m : MessageModel) (ms : List MessageModel) (bs : List RecordBatchTree) (t : StateTree) → batches_by s (m ∷ ms) ≡ Ok (bs, t) → BeginsWith s m ms bs t
unfolding batches_by
first_of s m ms bs t e = begins_with s m ms bs t (message_in s m) refl e

none_of : (s : StateTree) (bs : List RecordBatchTree) (t : StateTree) → batches_by s [] ≡ Ok (bs, t) → ([] ≡ bs) × (s ≡ t)
unfolding batches_by
none_of s bs t e =
    let pair : ◌≡◌ {A = List RecordBatchTree × StateTree} ([], s) (bs, t) = ok_same {A = List RecordBatchTree × StateTree} ([], s) (bs, t) e in
    (λ w. (pair w).0, λ w. (pair w).1)

-- messages of the other kind are skipped
dictionaries_first : (m : MessageModel) (ms : List MessageModel) → m.root.kind ≡ DictionaryBatch → (messages_of DictionaryBatch (m ∷ ms) ≡ m ∷ messages_of DictionaryBatch ms) × (messages_of RecordBatch (m ∷ ms) ≡ messages_of RecordBatch ms)
dictionaries_first m ms kind = (rw kind refl, rw kind refl)

batches_first : (m : MessageModel) (ms : List MessageModel) → m.root.kind ≡ RecordBatch → (messages_of DictionaryBatch (m ∷ ms) ≡ messages_of DictionaryBatch ms) × (messages_of RecordBatch (m ∷ ms) ≡ m ∷ messages_of RecordBatch ms)
batches_first m ms kind = (rw kind refl, rw kind refl)

-- ---- blocks

module _ (p : ProjectedSchemaModel) (file : List ℕ) where
  -- the blocks of dictionary and record batches, from a state on
  record Goes (s : StateTree) (t : StateTree) (bs : List RecordBatchTree) (dictionaries batches : List Block) : Type 0 where
    known : dictionaries_at s file dictionaries ≡ Ok t
    later : IsLater s t
    read : (u : StateTree) → IsLater t u → (cs : List RecordBatchTree) × (batches_at u file batches ≡ Ok cs) × AreSameBatches bs cs

  abbrev GoesOr : StateTree → StateTree → List RecordBatchTree → List Block → List Block → Type 0
  GoesOr s t bs dictionaries batches = Goes s t bs dictionaries batches ⊎ (dictionaries_at s file dictionaries ≡ Err DuplicateDictionary)

  no_blocks : (s : StateTree) → HasArrays s.known → Goes s s [] [] []
  unfolding dictionaries_at batches_at
  no_blocks s all = record { known = refl; later = later_self s all; read = λ u later. ([], refl, tt) }

  -- the block of a dictionary batch
  dictionary_block : (s : StateTree) (m : MessageModel) (b : Block) (blocks : List Block) → s.picked ≡ p → block_in DictionaryBatch p file b ≡ Ok m → dictionaries_at s file (b ∷ blocks) ≡ (dictionary_in true s m >>= λ known. dictionaries_at known file blocks)
  unfolding dictionaries_at
  dictionary_block s m b blocks same e =
      let here : block_in DictionaryBatch s.picked file b ≡ Ok m = ap (λ (q : ProjectedSchemaModel). block_in DictionaryBatch q file b) same ∙ e in
      ap (λ (read : Result MessageModel IpcReadError). (read >>= dictionary_in true s) >>= λ known. dictionaries_at known file blocks) here

  batch_block : (u : StateTree) (m : MessageModel) (b : Block) (blocks : List Block) (c : RecordBatchTree) (cs : List RecordBatchTree) → u.picked ≡ p → block_in RecordBatch p file b ≡ Ok m → record_batch_in u m ≡ Ok c → batches_at u file blocks ≡ Ok cs → batches_at u file (b ∷ blocks) ≡ Ok (c ∷ cs)
  unfolding batches_at
  batch_block u m b blocks c cs same e read others =
      let here : block_in RecordBatch u.picked file b ≡ Ok m = ap (λ (q : ProjectedSchemaModel). block_in RecordBatch q file b) same ∙ e in
      rw (here, read, others) refl

  -- after a dictionary batch
  behind_dictionary : (s t v : StateTree) (m : MessageModel) (b : Block) (bs : List RecordBatchTree) (dictionaries batches : List Block) → s.picked ≡ p → HasArrays s.known → block_in DictionaryBatch p file b ≡ Ok m → dictionary_in false s m ≡ Ok v
      → (IsLater s v → GoesOr v t bs dictionaries batches) → GoesOr s t bs (b ∷ dictionaries) batches
  behind_dictionary s t v m b bs dictionaries batches same all named read next = by (dictionary_or s m)
    where
      whole : dictionaries_at s file (b ∷ dictionaries) ≡ (dictionary_in true s m >>= λ known. dictionaries_at known file dictionaries)
      whole = dictionary_block s m b dictionaries same named

      on : dictionary_in true s m ≡ Ok v → IsLater s v → GoesOr v t bs dictionaries batches → GoesOr s t bs (b ∷ dictionaries) batches
      on once later (inl goes) = inl (record { known = whole ∙ ap (λ (q : Result StateTree IpcReadError). q >>= λ known. dictionaries_at known file dictionaries) once ∙ goes.known; later = later_on s v t later goes.later; read = goes.read })
      on once later (inr replaced) = inr (whole ∙ ap (λ (q : Result StateTree IpcReadError). q >>= λ known. dictionaries_at known file dictionaries) once ∙ replaced)

      by : OrReplaced (dictionary_in true s m) (dictionary_in false s m) → GoesOr s t bs (b ∷ dictionaries) batches
      by (inl e) =
          let once : dictionary_in true s m ≡ Ok v = e ∙ read in
          let later : IsLater s v = found (IsLater s) _ _ once (dictionary_later s m all) in
          on once later (next later)
      by (inr e) = inr (whole ∙ ap (λ (q : Result StateTree IpcReadError). q >>= λ known. dictionaries_at known file dictionaries) e)

  -- after a record batch
  behind_batch : (s t : StateTree) (m : MessageModel) (b : Block) (batch : RecordBatchTree) (bs : List RecordBatchTree) (dictionaries batches : List Block) → s.picked ≡ p → block_in RecordBatch p file b ≡ Ok m → record_batch_in s m ≡ Ok batch
      → GoesOr s t bs dictionaries batches → GoesOr s t (batch ∷ bs) dictionaries (b ∷ batches)
  behind_batch s t m b batch bs dictionaries batches same named read (inr replaced) = inr replaced
  behind_batch s t m b batch bs dictionaries batches same named read (inl goes) =
      inl (record {
        known = goes.known;
        later = goes.later;
        read = λ u later.
            let over : IsLater s u = later_on s t u goes.later later in
            let one = read_too IsSameBatch (record_batch_in s m) (record_batch_in u m) batch (batch_later s u m over) read in
            let others = goes.read u later in
            (one.0 ∷ others.0, batch_block u m b batches one.0 others.0 (over.picked ∙ same) named one.1 others.1, (one.2, others.2));
      })

  -- the block of the first message, and the others
  record Splits (kind : MessageKind) (blocks : List Block) (m : MessageModel) (ms : List MessageModel) : Type 0 where
    block : Block
    others : List Block
    is : block ∷ others ≡ blocks
    named : block_in kind p file block ≡ Ok m
    rest : AreBlocksOf kind p file others ms

  splits : (kind : MessageKind) (blocks : List Block) (m : MessageModel) (ms : List MessageModel) → AreBlocksOf kind p file blocks (m ∷ ms) → Splits kind blocks m ms
  splits kind [] m ms names = absurd names
  splits kind (b ∷ blocks) m ms names = record { block = b; others = blocks; is = refl; named = names.0; rest = names.1 }

  -- of all messages, from any state on
  abbrev AllGo : List MessageModel → Type 0
  AllGo ms = (s t : StateTree) (bs : List RecordBatchTree) (dictionaries batches : List Block) → s.picked ≡ p → HasArrays s.known → batches_by s ms ≡ Ok (bs, t)
      → AreBlocksOf DictionaryBatch p file dictionaries (messages_of DictionaryBatch ms) → AreBlocksOf RecordBatch p file batches (messages_of RecordBatch ms) → GoesOr s t bs dictionaries batches

  go_dictionary : (m : MessageModel) (ms : List MessageModel) (s t : StateTree) (bs : List RecordBatchTree) (dictionaries batches : List Block) (begin : BeginsWith s m ms bs t) → AllGo ms → s.picked ≡ p → HasArrays s.known → IsDictionary s m begin.x
      → AreBlocksOf DictionaryBatch p file dictionaries (messages_of DictionaryBatch (m ∷ ms)) → AreBlocksOf RecordBatch p file batches (messages_of RecordBatch (m ∷ ms)) → GoesOr s t bs dictionaries batches
  go_dictionary m ms s t bs dictionaries batches begin others same all is ds cs =
      let of_kinds = dictionaries_first m ms is.kind in
      let split : Splits DictionaryBatch dictionaries m (messages_of DictionaryBatch ms) = splits DictionaryBatch dictionaries m (messages_of DictionaryBatch ms) (subst (AreBlocksOf DictionaryBatch p file dictionaries) of_kinds.0 ds) in
      let rest : AreBlocksOf RecordBatch p file batches (messages_of RecordBatch ms) = subst (AreBlocksOf RecordBatch p file batches) of_kinds.1 cs in
      let brought : begin.others ≡ bs = ap (λ (o : Option RecordBatchTree). with_batch o begin.others) (sym is.none) ∙ begin.all in
      subst (λ (ds : List Block). GoesOr s t bs ds batches) split.is
      (behind_dictionary s t begin.x.1 m split.block bs split.others batches same all split.named is.read
      (λ later. subst (λ (xs : List RecordBatchTree). GoesOr begin.x.1 t xs split.others batches) brought (others begin.x.1 t begin.others split.others batches (later.picked ∙ same) later.arrays begin.rest split.rest rest)))

  go_batch : (m : MessageModel) (ms : List MessageModel) (s t : StateTree) (bs : List RecordBatchTree) (dictionaries batches : List Block) (begin : BeginsWith s m ms bs t) → AllGo ms → s.picked ≡ p → HasArrays s.known → IsBatch s m begin.x
      → AreBlocksOf DictionaryBatch p file dictionaries (messages_of DictionaryBatch (m ∷ ms)) → AreBlocksOf RecordBatch p file batches (messages_of RecordBatch (m ∷ ms)) → GoesOr s t bs dictionaries batches
  go_batch m ms s t bs dictionaries batches begin others same all is ds cs =
      let of_kinds = batches_first m ms is.kind in
      let split : Splits RecordBatch batches m (messages_of RecordBatch ms) = splits RecordBatch batches m (messages_of RecordBatch ms) (subst (AreBlocksOf RecordBatch p file batches) of_kinds.1 cs) in
      let rest : AreBlocksOf DictionaryBatch p file dictionaries (messages_of DictionaryBatch ms) = subst (AreBlocksOf DictionaryBatch p file dictionaries) of_kinds.0 ds in
      let brought : is.batch ∷ begin.others ≡ bs = ap (λ (o : Option RecordBatchTree). with_batch o begin.others) (sym is.some) ∙ begin.all in
      let behind : batches_by s ms ≡ Ok (begin.others, t) = ap (λ (u : StateTree). batches_by u ms) (sym is.same) ∙ begin.rest in
      subst (λ (blocks : List Block). GoesOr s t bs dictionaries blocks) split.is
      (subst (λ (xs : List RecordBatchTree). GoesOr s t xs dictionaries (split.block ∷ split.others)) brought
      (behind_batch s t m split.block is.batch begin.others dictionaries split.others same split.named is.read (others s t begin.others dictionaries split.others same all behind rest split.rest)))

  go_message : (m : MessageModel) (ms : List MessageModel) (s t : StateTree) (bs : List RecordBatchTree) (dictionaries batches : List Block) (begin : BeginsWith s m ms bs t) → AllGo ms → s.picked ≡ p → HasArrays s.known → IsDictionary s m begin.x ⊎ IsBatch s m begin.x
      → AreBlocksOf DictionaryBatch p file dictionaries (messages_of DictionaryBatch (m ∷ ms)) → AreBlocksOf RecordBatch p file batches (messages_of RecordBatch (m ∷ ms)) → GoesOr s t bs dictionaries batches
  go_message m ms s t bs dictionaries batches begin others same all (inl is) ds cs = go_dictionary m ms s t bs dictionaries batches begin others same all is ds cs
  go_message m ms s t bs dictionaries batches begin others same all (inr is) ds cs = go_batch m ms s t bs dictionaries batches begin others same all is ds cs

  goes_through : (ms : List MessageModel) → AllGo ms
  goes_through [] s t bs [] [] same all e ds cs =
      let none = none_of s bs t e in
      inl (subst (λ (xs : List RecordBatchTree). Goes s t xs [] []) none.0 (subst (λ (u : StateTree). Goes s u [] [] []) none.1 (no_blocks s all)))
  goes_through [] s t bs (b ∷ dictionaries) batches same all e ds cs = absurd ds
  goes_through [] s t bs [] (b ∷ batches) same all e ds cs = absurd cs
  goes_through (m ∷ ms) s t bs dictionaries batches same all e ds cs =
      let begin : BeginsWith s m ms bs t = first_of s m ms bs t e in
      go_message m ms s t bs dictionaries batches begin (goes_through ms) same all (message_is s m begin.x begin.first) ds cs

-- ---- the file

none_known : (p : ProjectedSchemaModel) → HasArrays (start p).known
none_known p id = tt

-- a stream that is read
record StreamIs (picked : ProjectedSchemaModel) (behind : List ℕ) (s : StreamTree) : Type 0 where
  batches : List RecordBatchTree × List ℕ
  read : batches_in (start picked) behind ≡ Ok batches
  schema : s.schema ≡ picked.schema
  are : s.batches ≡ batches.0

stream_by : (picks : ProjectionModel) (stream : List ℕ) (s : StreamTree) (picked : ProjectedSchemaModel) (behind : List ℕ) (read : Result (List RecordBatchTree × List ℕ) IpcReadError) → stream_projected_schema_at picks stream ≡ Ok (picked, behind) → batches_in (start picked) behind ≡ read
    → projected_stream_in picks stream ≡ Ok s → StreamIs picked behind s
unfolding projected_stream_in
stream_by picks stream s picked behind (Err f) at is e =
    let whole : projected_stream_in picks stream ≡ Err f = rw (at, is) refl in
    cc
stream_by picks stream s picked behind (Ok batches) at is e =
    let tree : StreamTree = record { schema = picked.schema; batches = batches.0; read = length stream - length batches.1 } in
    let whole : projected_stream_in picks stream ≡ Ok tree = rw (at, is) refl in
    let same : s ≡ tree = ok_same s tree (sym e ∙ whole) in
    record { batches = batches; read = is; schema = ap (λ (t : StreamTree). t.schema) same; are = ap (λ (t : StreamTree). t.batches) same }

-- the record batches of messages, where the stream is read
record Brings (s : StateTree) (ms : List MessageModel) (bs : List RecordBatchTree) : Type 0 where
  end : StateTree
  read : batches_by s ms ≡ Ok (bs, end)

brings_by : (s : StateTree) (ms : List MessageModel) (bs : List RecordBatchTree) (after left : List ℕ) (read : Known) → batches_by s ms ≡ read → batches_with_left after read ≡ Ok (bs, left) → Brings s ms bs
brings_by s ms bs after left (Err f) is e = cc
brings_by s ms bs after left (Ok x) is e =
    let pair : ◌≡◌ {A = List RecordBatchTree × List ℕ} (x.0, after) (bs, left) = ok_same {A = List RecordBatchTree × List ℕ} (x.0, after) (bs, left) e in
    record { end = x.1; read = is ∙ (λ w. Ok ((pair w).0, x.1)) }

-- a file whose dictionary and record batches are read
file_reads : (picks : ProjectionModel) (file : List ℕ) (footer : ProjectedFooterModel) (t : StateTree) (cs : List RecordBatchTree) → projected_footer_in picks file ≡ Ok footer → dictionaries_at (start footer.picked) file footer.dictionaries ≡ Ok t → batches_at t file footer.batches ≡ Ok cs
    → projected_file_in picks file ≡ Ok (record { schema = t.picked.schema; batches = cs })
unfolding projected_file_in file_reader_in
file_reads picks file footer t cs found known read = rw (found, known, read) refl

file_replaced : (picks : ProjectionModel) (file : List ℕ) (footer : ProjectedFooterModel) → projected_footer_in picks file ≡ Ok footer → dictionaries_at (start footer.picked) file footer.dictionaries ≡ Err DuplicateDictionary → projected_file_in picks file ≡ Err DuplicateDictionary
unfolding projected_file_in file_reader_in
file_replaced picks file footer found replaced = rw (found, replaced) refl

by_blocks : (picks : ProjectionModel) (stream file : List ℕ) (s : StreamTree) (names : HoldsStream picks stream file) (t : StateTree) (bs : List RecordBatchTree) → s.schema ≡ names.picked.schema → s.batches ≡ bs → (projected_file_in picks file ≡ Err DuplicateDictionary → ⊥)
    → GoesOr names.picked file (start names.picked) t bs names.footer.dictionaries names.footer.batches → IsReadAsStream picks s file
by_blocks picks stream file s names t bs schema are once (inr replaced) =
    let there : dictionaries_at (start names.footer.picked) file names.footer.dictionaries ≡ Err DuplicateDictionary = ap (λ (p : ProjectedSchemaModel). dictionaries_at (start p) file names.footer.dictionaries) names.same ∙ replaced in
    absurd (once (file_replaced picks file names.footer names.found there))
by_blocks picks stream file s names t bs schema are once (inl goes) =
    let known : dictionaries_at (start names.footer.picked) file names.footer.dictionaries ≡ Ok t = ap (λ (p : ProjectedSchemaModel). dictionaries_at (start p) file names.footer.dictionaries) names.same ∙ goes.known in
    let read = goes.read t (later_self t goes.later.arrays) in
    record {
      tree = record { schema = t.picked.schema; batches = read.0 };
      read = file_reads picks file names.footer t read.0 names.found known read.1;
      schema = ap (λ (p : ProjectedSchemaModel). p.schema) goes.later.picked ∙ sym schema;
      batches = subst (λ (xs : List RecordBatchTree). AreSameBatches xs read.0) (sym are) read.2;
    }

abbrev pub FilesAreReadAsStreams : Type 0
FilesAreReadAsStreams = (picks : ProjectionModel) (stream file : List ℕ) (s : StreamTree) → projected_stream_in picks stream ≡ Ok s → HoldsStream picks stream file → (projected_file_in picks file ≡ Err DuplicateDictionary → ⊥) → IsReadAsStream picks s file

pub read_as_stream : FilesAreReadAsStreams
read_as_stream picks stream file s read names once =
    let is : StreamIs names.picked names.behind s = stream_by picks stream s names.picked names.behind (batches_in (start names.picked) names.behind) names.schema refl read in
    let brings : Brings (start names.picked) names.messages is.batches.0 =
    brings_by (start names.picked) names.messages is.batches.0 names.after is.batches.1 (batches_by (start names.picked) names.messages) refl (sym (batches_of_messages (start names.picked) names.behind names.messages names.after names.are) ∙ is.read) in
    by_blocks picks stream file s names brings.end is.batches.0 is.schema is.are once
    (goes_through names.picked file names.messages (start names.picked) brings.end is.batches.0 names.footer.dictionaries names.footer.batches refl (none_known names.picked) brings.read names.dictionaries names.batches)
