-- Errors of columns and messages, as loops find them.
use Rattle.std.proofs.Common.{◌≡◌, ℕ, ◌^◌, ◌<◌, ◌≤◌, inl, inr, Bool, true, false, leb, List, [], ◌∷◌, ◌++◌, length, Option, Some, None, Ok, refl, sym, ap, subst, ◌∙◌, append_assoc, arith}
use Rattle.std.specs.Prelude.{◌⊎◌, ◌&&◌}
use Rattle.std.proofs.lemmas.Bool.{le-leb, lt-leb}
use Rattle.std.proofs.lemmas.List.{append-nil}
use Rattle.ipc_flatbuf.specs.declared.error.IpcWriteError.{IpcWriteError}
use Rattle.ipc_flatbuf.specs.declared.error.IpcWriteError.TheVariants.{Memory, Size, DictionaryReplacement}
use Rattle.nest_memory.specs.TypeTree.{TypeTree}
use Rattle.nest_model.specs.Layout.{Layout}
use Rattle.ipc_flatbuf.specs.MessageBytes.{metadata_size}
use Rattle.ipc_flatbuf.specs.Batches.{BatchModel, spec_all_within}
use Rattle.ipc_flatbuf.specs.BatchBytes as batches
use Rattle.ipc_arrays.specs.Encoding.{columns_body, size_error, IsWriteError}
use Rattle.ipc.specs.DictionaryEntries.{DictionaryEntries}
use Rattle.ipc.specs.FileDictionaries.{spec_any_replaced}
use Rattle.ipc_schema.specs.ProjectionLaws.{all_written}
use Rattle.ipc_schema.specs.ProjectedSchemas.{stream_projected_schema_at}
use Rattle.ipc_schema.specs.Projections.{all}
use Rattle.ipc_schema.specs.Schemas.{SchemaModel}
use Rattle.ipc_schema.specs.SchemaBytes.{schema_message}
use Rattle.ipc.specs.Streams.{RecordBatchTree, StateTree, start}
use Rattle.ipc.specs.SliceStreamReaders.{state_in}
use Rattle.ipc.specs.EncodedStreams.{batch_tree, pending_by, stream_dictionary_batches, spec_is_column, spec_are_columns, or_error, size_error_if, message_error, record_batch_error, dictionary_error, each_error, batch_error, IsErrorOrMemory}
use Rattle.ipc.specs.EncodedFiles.{state_or, FileState, file_dictionary_batches, record_batch_block_error, replaced_error, dictionary_batches_error, file_batch_error}
use Rattle.ipc.specs.EncodedBatches.{IsMetadata, first_refused, later_refused, both_accepted}

-- ---- columns

and_false : (a b : Bool) → b ≡ false → (a && b) ≡ false
and_false true b h = h
and_false false b h = refl

pub lengths_differ : (types : List TypeTree) (rows : ℕ) (columns : List Layout) → (length types ≡ length columns → ⊥) → spec_are_columns types rows columns ≡ false
lengths_differ [] rows [] h = absurd (h refl)
lengths_differ [] rows (a ∷ columns) h = refl
lengths_differ (t ∷ types) rows [] h = refl
lengths_differ (t ∷ types) rows (a ∷ columns) h =
    and_false (spec_is_column t rows a) (spec_are_columns types rows columns) (lengths_differ types rows columns (λ e. h (omega (arith, e))))

module _ (types more : List TypeTree) (columns others : List Layout) (t : TypeTree) (a : Layout) (rows : ℕ) (total : Bool) where
  pub column_fails : types ≡ t ∷ more → columns ≡ a ∷ others → spec_are_columns types rows columns ≡ total → spec_is_column t rows a ≡ false → false ≡ total
  column_fails e f h differs =
      let one : spec_are_columns types rows columns ≡ false = rw (e, f, differs) refl in
      sym one ∙ h

  pub column_passes : types ≡ t ∷ more → columns ≡ a ∷ others → spec_are_columns types rows columns ≡ total → spec_is_column t rows a ≡ true → spec_are_columns more rows others ≡ total
  column_passes e f h is =
      let one : spec_are_columns types rows columns ≡ spec_are_columns more rows others = rw (e, f, is) refl in
      sym one ∙ h

-- ---- a message

pub columns_refused : (columns : List Layout) (rows : ℕ) (head : List ℕ) (why : IpcWriteError) → IsWriteError columns why → IsErrorOrMemory (message_error columns rows head) why
columns_refused columns rows head why refused = first_refused (size_error columns) _ why refused

size_first : (a b : Bool) (rest : Option IpcWriteError) → b ≡ true → or_error (size_error_if a) (size_error_if b) ≡ Some Size
size_first true b rest h = refl
size_first false b rest h = rw h refl

message_refused : (columns : List Layout) (rows : ℕ) (head : List ℕ) (why : IpcWriteError) → size_error columns ≡ None → (why ≡ Memory) ⊎ ((why ≡ Size) × ((2 ^ 63 ≤ rows) ⊎ (2 ^ 31 ≤ metadata_size head))) → IsErrorOrMemory (message_error columns rows head) why
message_refused columns rows head why form (inl memory) = inl memory
message_refused columns rows head why form (inr (size, inl many)) =
    let past : leb (2 ^ 63) rows ≡ true = le-leb _ _ many in
    inr (rw (form, past, size) refl)
message_refused columns rows head why form (inr (size, inr long)) =
    let past : leb (2 ^ 31) (metadata_size head) ≡ true = le-leb _ _ long in
    inr (rw (form, size) (size_first (leb (2 ^ 63) rows) (leb (2 ^ 31) (metadata_size head)) None past))

message_accepted : (columns : List Layout) (rows : ℕ) (head : List ℕ) → size_error columns ≡ None → rows < 2 ^ 63 → metadata_size head < 2 ^ 31 → message_error columns rows head ≡ None
message_accepted columns rows head form few small =
    let a : leb (2 ^ 63) rows ≡ false = lt-leb _ _ few in
    let c : leb (2 ^ 31) (metadata_size head) ≡ false = lt-leb _ _ small in
    rw (form, a, c) refl

-- a message with the metadata and the body length of columns
module _ (message : BatchModel → ℕ → List ℕ) (b : RecordBatchTree) (metadata : BatchModel) (size : ℕ) (is : IsMetadata b metadata size) where
  abbrev head : List ℕ
  head = message (batch_tree b) (length (columns_body b.columns))

  same : message metadata size ≡ head
  same = rw (is.tree, is.long) refl

  pub head_refused : (why : IpcWriteError) → size_error b.columns ≡ None → batches.IsBatchWriteError metadata (metadata_size (message metadata size)) why → IsErrorOrMemory (message_error b.columns b.rows head) why
  head_refused why form refused =
      let here : batches.IsBatchWriteError (batch_tree b) (metadata_size head) why = subst (λ (t : BatchModel). batches.IsBatchWriteError t (metadata_size head) why) is.tree (subst (λ (bytes : List ℕ). batches.IsBatchWriteError metadata (metadata_size bytes) why) same refused) in
      message_refused b.columns b.rows head why form here

  pub head_accepted : size_error b.columns ≡ None → metadata.rows < 2 ^ 63 → metadata_size (message metadata size) < 2 ^ 31 → message_error b.columns b.rows head ≡ None
  head_accepted form few small = message_accepted b.columns b.rows head form (subst (λ (t : BatchModel). t.rows < 2 ^ 63) is.tree few) (subst (λ (bytes : List ℕ). metadata_size bytes < 2 ^ 31) same small)

  pub head_written : (old middle new : List ℕ) → middle ≡ old ++ message metadata size → new ≡ middle ++ columns_body b.columns → new ≡ old ++ (head ++ columns_body b.columns)
  head_written old middle new begun ended =
      let first : middle ≡ old ++ head = subst (λ (bytes : List ℕ). middle ≡ old ++ bytes) same begun in
      rw (ended, first) (append_assoc old head (columns_body b.columns))

  pub head_again : (IsBack : BatchModel → List ℕ → List ℕ → Type 0) → ((body : List ℕ) → length body ≡ size → spec_all_within size metadata.buffers ≡ Ok tt → metadata_size (message metadata size) < 2 ^ 31 → IsBack metadata (message metadata size) body)
      → metadata_size (message metadata size) < 2 ^ 31 → IsBack (batch_tree b) head (columns_body b.columns)
  head_again IsBack back small =
      let within : spec_all_within size metadata.buffers ≡ Ok tt = rw (is.tree, is.long) is.within in
      let here : IsBack metadata (message metadata size) (columns_body b.columns) = back (columns_body b.columns) (sym is.long) within small in
      subst (λ (t : BatchModel). IsBack t head (columns_body b.columns)) is.tree (subst (λ (bytes : List ℕ). IsBack metadata bytes (columns_body b.columns)) same here)

-- ---- a record batch of the columns of a schema

module _ (types : List TypeTree) (b : RecordBatchTree) (are : spec_are_columns types b.rows b.columns ≡ true) where
  module _ (emitted : DictionaryEntries) where
    abbrev each : Option IpcWriteError
    each = each_error dictionary_error (stream_dictionary_batches emitted b)

    pub dictionary_stops : (why : IpcWriteError) → IsErrorOrMemory each why → IsErrorOrMemory (batch_error types emitted b) why
    dictionary_stops why refused = rw are (first_refused each (record_batch_error b) why refused)

    pub arrays_stop : (why : IpcWriteError) → each ≡ None → IsErrorOrMemory (record_batch_error b) why → IsErrorOrMemory (batch_error types emitted b) why
    arrays_stop why none refused = rw are (later_refused each (record_batch_error b) why none refused)

    pub batch_accepted : each ≡ None → record_batch_error b ≡ None → batch_error types emitted b ≡ None
    batch_accepted none last = rw are (both_accepted each (record_batch_error b) none last)

  -- in a file
  module _ (f : FileState) where
    pub anew_stops : spec_any_replaced f.emitted (pending_by f.emitted b) ≡ true → file_batch_error types f b ≡ Some DictionaryReplacement
    anew_stops anew = rw (are, anew) refl

    module _ (kept : spec_any_replaced f.emitted (pending_by f.emitted b) ≡ false) where
      abbrev puts : Option IpcWriteError
      puts = dictionary_batches_error f.state (file_dictionary_batches f.emitted b)

      none_anew : replaced_error f.emitted (pending_by f.emitted b) ≡ None
      none_anew = rw kept refl

      pub puts_stop : (why : IpcWriteError) → IsErrorOrMemory puts why → IsErrorOrMemory (file_batch_error types f b) why
      puts_stop why refused = rw are (later_refused (replaced_error f.emitted (pending_by f.emitted b)) (or_error puts (record_batch_block_error b)) why none_anew (first_refused puts (record_batch_block_error b) why refused))

      pub arrays_block_stops : (why : IpcWriteError) → puts ≡ None → IsErrorOrMemory (record_batch_block_error b) why → IsErrorOrMemory (file_batch_error types f b) why
      arrays_block_stops why none refused =
          rw are (later_refused (replaced_error f.emitted (pending_by f.emitted b)) (or_error puts (record_batch_block_error b)) why none_anew (later_refused puts (record_batch_block_error b) why none refused))

      pub block_accepted : puts ≡ None → record_batch_block_error b ≡ None → file_batch_error types f b ≡ None
      block_accepted none last = rw are (both_accepted (replaced_error f.emitted (pending_by f.emitted b)) (or_error puts (record_batch_block_error b)) none_anew (both_accepted puts (record_batch_block_error b) none last))

-- ---- the schema

-- after a written schema nothing is known
pub known_start : (s : SchemaModel) (message : List ℕ) (t : StateTree) → message ≡ schema_message s → ((after : List ℕ) → stream_projected_schema_at all (schema_message s ++ after) ≡ Ok (all_written s, after)) → state_in message ≡ Ok t → t ≡ start (all_written s)
known_start s message t is keyed read =
    let whole : stream_projected_schema_at all (schema_message s) ≡ Ok (all_written s, []) = ap (stream_projected_schema_at all) (sym (append-nil (schema_message s))) ∙ keyed [] in
    let again : state_in message ≡ Ok (start (all_written s)) = ap state_in is ∙ rw whole refl in
    ap (state_or t) (sym read ∙ again)
