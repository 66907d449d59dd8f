-- A written stream round-trips.
use Rattle.std.specs.Prelude.{◌≡◌, ℕ, suc, ◌-◌, Bool, true, false, ◌&&◌, ◌==◌, nat_lt, ℤ, List, [], ◌∷◌, ◌++◌, map, length, Option, Some, None, is_some, Result, Ok, Err, refl, if◌then◌else◌}
use Rattle.std.proofs.Common.{sym, ap, subst, ◌∙◌, append_assoc, arith}
use Rattle.std.specs.List.{AllByRecursion, flat_map, list_any}
use Rattle.std.proofs.lemmas.Bool.Decides.{Decides-eqb}
use Rattle.std.proofs.lemmas.List.{length-append}
use Rattle.std.proofs.lemmas.List.Concat.{flat_map-cons}
use Rattle.nest_memory.specs.TypeTree.{TypeTree, FieldTree, field_type}
use Rattle.nest_memory.specs.TypeEq.{same_type, same_type-decides}
use Rattle.nest_model.specs.Layout.{Layout, layout_type}
use Rattle.nest_model.specs.Meaning.{len}
use Rattle.ipc_flatbuf.specs.declared.error.IpcWriteError.TheVariants.{Columns}
use Rattle.ipc_flatbuf.specs.ReadResults.{◌>>=◌}
use Rattle.ipc_flatbuf.specs.declared.error.IpcReadError.{IpcReadError}
use Rattle.ipc_flatbuf.specs.declared.error.IpcWriteError.{IpcWriteError}
use Rattle.ipc_flatbuf.specs.declared.projection.FieldAction.{FieldAction}
use Rattle.ipc_flatbuf.specs.declared.projection.FieldAction.TheVariants.{Read}
use Rattle.ipc_flatbuf.specs.MessageBytes.{end_of_stream}
use Rattle.ipc_flatbuf.specs.MessageLaws.{end_of_stream_is_read}
use Rattle.ipc_flatbuf.specs.Messages.{MessageModel}
use Rattle.ipc_flatbuf.specs.declared.message.types.MessageKind.{MessageKind}
use Rattle.ipc_flatbuf.specs.declared.message.types.MessageKind.TheVariants.{DictionaryBatch, RecordBatch}
use Rattle.ipc_flatbuf.specs.declared.message.types.MetadataVersion.{MetadataVersion}
use Rattle.ipc_flatbuf.specs.declared.message.types.MetadataVersion.TheVariants.{V5}
use Rattle.ipc_schema.specs.Dictionaries.{ValueTypeModel, DictionaryTypesModel}
use Rattle.ipc_schema.specs.WriteChecks.{check_fields}
use Rattle.ipc_schema.specs.OutermostIds.{spec_outermost_ids}
use Rattle.ipc_schema.specs.ProjectionLaws.{read_actions, all_written, written_as_stored}
use Rattle.ipc_schema.specs.StoredArrays.{stored_arrays}
use Rattle.ipc_schema.specs.StoredArrayLaws.{no_views}
use Rattle.ipc_schema.specs.ProjectedSchemas.{ProjectedSchemaModel, stream_projected_schema_at, spec_check_projected_version}
use Rattle.ipc_schema.specs.Projections.{all}
use Rattle.ipc_schema.specs.Schemas.{SchemaModel}
use Rattle.ipc_schema.specs.SchemaBytes.{schema_message}
use Rattle.ipc_flatbuf.specs.Batches.{batch_at}
use Rattle.ipc_flatbuf.specs.BatchLaws.{BatchRoundTrips as BatchMetadataRoundTrips}
use Rattle.ipc_flatbuf.specs.DictionaryBytes.{delta_byte}
use Rattle.ipc_flatbuf.specs.DictionaryLaws.{DictionaryRoundTrips as DictionaryMetadataRoundTrips}
use Rattle.ipc_arrays.specs.declared.cursor.ExpectedLength.TheVariants.{Rows}
use Rattle.ipc_arrays.specs.Decoding.{Rest, decoded_columns, decoded_each, checked_exhausted, decoded_column}
use Rattle.ipc_arrays.specs.Projection.{every_column, decoded_projection}
use Rattle.ipc_arrays.specs.ProjectionLaws.{projection_same}
use Rattle.ipc_arrays.specs.ReplacedValues.{RoundTripOverExtensions}
use Rattle.ipc_arrays.specs.Encoding.{columns_body}
use Rattle.ipc.specs.DictionaryEntries.{DictionaryEntries, own_entries, columns_own}
use Rattle.ipc.specs.PendingDictionaries.{entry_at}
use Rattle.ipc.specs.KnownDictionaries.{IsKnown, Covers, Follows, AreInOrder, AreAllKnown, number_of, read_columns, read_values, known_with}
use Rattle.ipc.specs.SchemaIds.{entry_ids, values_of, IsNamed, AreNamed, seen_of_fields}
use Rattle.ipc.specs.RoundTrips.{written_rest, ColumnsRoundTrip, ValuesRoundTrip}
use Rattle.ipc.specs.RoundTrips as again
use Rattle.ipc.specs.RoundTripLaws.{columns_again, covers_all, values_again, columns_known}
use Rattle.ipc.specs.KnownDictionaryLaws.{columns_needed_of}
use Rattle.ipc.specs.SchemaIdLaws.{are_named}
use Rattle.ipc.specs.FileDictionaries.{DictionaryBatchTree, whole}
use Rattle.ipc.specs.Streams.{RecordBatchTree, StateTree, spec_appendable_after, spec_has_views, start, record_batch_in, dictionary_in, data_in, spec_check_order, known_at, spec_only_column, spec_with_values, message_in, message_by_kind, next_in, batches_in, column_types, values_at, projected_stream_in, stream_in}
use Rattle.ipc.specs.StreamLaws.{by_message, one_by_one}
use Rattle.ipc.specs.EncodedBatches.{first_accepts, others_accept}
use Rattle.ipc.specs.EncodedStreams.{batch_tree, batch_head, batch_bytes, one_column, dictionary_head, dictionary_bytes, pending_by, stream_dictionary_batches, emitted_after, encoded_batch, encoded_batches, encoded_messages, encoded_stream, spec_is_column, spec_are_columns, batch_error, batches_error, decoded_record_batch, known_after, decoded_batches_from, decoded_batches, decoded_stream, IsSameBatch, AreSameBatches, HasAllColumns, CanReadBatch, CanReadDictionary, RecordBatchRoundTrips, DictionaryRoundTrips, BatchRoundTrips, BatchesRoundTrip, known_more}

first_is : (a b : Bool) → (a && b) ≡ true → a ≡ true
first_is true b h = refl
first_is false b h = h

second_is : (a b : Bool) → (a && b) ≡ true → b ≡ true
second_is true b h = h
second_is false b h = cc

-- columns of these data types have just these types, and this length each
pub types_are : (types : List TypeTree) (rows : ℕ) (columns : List Layout) → spec_are_columns types rows columns ≡ true → types ≡ map layout_type columns
types_are [] rows [] h = refl
types_are [] rows (a ∷ columns) h = cc
types_are (t ∷ types) rows [] h = cc
types_are (t ∷ types) rows (a ∷ columns) h =
    let one : t ≡ layout_type a = (same_type-decides t (layout_type a)).0 (first_is (same_type t (layout_type a)) (len a == rows) (first_is (spec_is_column t rows a) (spec_are_columns types rows columns) h)) in
    let more : types ≡ map layout_type columns = types_are types rows columns (second_is (spec_is_column t rows a) (spec_are_columns types rows columns) h) in
    ap (λ (x : TypeTree). x ∷ types) one ∙ ap (λ (xs : List TypeTree). layout_type a ∷ xs) more

pub lengths_are : (types : List TypeTree) (rows : ℕ) (columns : List Layout) → spec_are_columns types rows columns ≡ true → AllByRecursion (λ a. len a ≡ rows) columns
lengths_are [] rows [] h = tt
lengths_are [] rows (a ∷ columns) h = cc
lengths_are (t ∷ types) rows [] h = cc
lengths_are (t ∷ types) rows (a ∷ columns) h =
    let long : (len a == rows) ≡ true = second_is (same_type t (layout_type a)) (len a == rows) (first_is (spec_is_column t rows a) (spec_are_columns types rows columns) h) in
    ((Decides-eqb (len a) rows).0 long, lengths_are types rows columns (second_is (spec_is_column t rows a) (spec_are_columns types rows columns) h))

-- ---- record batches

-- if all columns are read, no view arrays are skipped
none_viewed : (fields : List FieldTree) → list_any spec_has_views (read_actions fields) ≡ false
none_viewed [] = refl
none_viewed (f ∷ fields) = none_viewed fields

steps_same : (fields : List FieldTree) → read_actions fields ≡ every_column (map field_type fields)
steps_same [] = refl
steps_same (f ∷ fields) = ap (λ (steps : List FieldAction). Read ∷ steps) (steps_same fields)

-- the values of ids are those of entries
values_of_ids : (known : DictionaryEntries) (entries : DictionaryEntries) → values_at known (entry_ids entries) ≡ again.entry_values known entries
values_of_ids known [] = refl
values_of_ids known (e ∷ entries) = ap (λ (vs : List (Option Layout)). entry_at known e.0 ∷ vs) (values_of_ids known entries)

arrays_again : (b : RecordBatchTree) (m : MessageModel) (s : StateTree) → batch_at m.metadata m.root.header m.root.left m.root.body_length ≡ Ok (batch_tree b) → m.body ≡ columns_body b.columns → RoundTripOverExtensions b.columns → CanReadBatch s b → record_batch_in s m ≡ Ok (decoded_record_batch s.known b)
unfolding record_batch_in
arrays_again b m s batch body over reads =
    let columns : List Layout = b.columns in
    let fields : List FieldTree = s.picked.schema.fields in
    let types : List TypeTree = column_types s.picked.schema in
    let whole : HasAllColumns s = reads.whole in
    let back : ColumnsRoundTrip s.known columns = columns_again s.known columns over reads.known in
    let rest : Rest = written_rest columns (again.entry_values s.known (columns_own 0 columns)) in
    let outer : spec_outermost_ids s.picked.seen.named s.picked.seen.ids ≡ entry_ids (columns_own 0 columns) = rw whole.seen reads.named.outer in
    let values : values_at s.known (spec_outermost_ids s.picked.seen.named s.picked.seen.ids) ≡ again.entry_values s.known (columns_own 0 columns) = ap (values_at s.known) outer ∙ values_of_ids s.known (columns_own 0 columns) in
    let read : decoded_columns types b.rows (columns_body columns) rest ≡ Ok (read_columns s.known columns) =
    ap (λ (ts : List TypeTree). decoded_columns ts b.rows (columns_body columns) rest) (types_are types b.rows columns reads.columns) ∙ back.read b.rows (lengths_are types b.rows columns reads.columns) in
    let picked : decoded_projection (read_actions fields) types b.rows (columns_body columns) (record { rest = rest; more = [] }) ≡ Ok (read_columns s.known columns) =
    ap (λ (steps : List FieldAction). decoded_projection steps types b.rows (columns_body columns) (record { rest = rest; more = [] })) (steps_same fields) ∙ projection_same types b.rows (columns_body columns) (record { rest = rest; more = [] }) ∙ read in
    rw (batch, whole.steps, none_viewed fields, no_views s.picked.arrays whole.arrays, whole.arrays, values, body, picked) refl

pub batch_again : (b : RecordBatchTree) → BatchMetadataRoundTrips (batch_tree b) (batch_head b) (columns_body b.columns) → RoundTripOverExtensions b.columns → RecordBatchRoundTrips b
unfolding batch_bytes
batch_again b message over =
    let columns : List Layout = b.columns in
    record {
      parts = message.parts;
      message = record {
        again = λ rest. rw (append_assoc (batch_head b) (columns_body columns) rest) (message.again rest);
        version = message.version;
        head_long = message.long;
        body_long = ap length message.same_body;
      };
      kind = message.kind;
      columns = λ s reads. arrays_again b message.parts s message.same_batch message.same_body over reads;
      over = over;
    }

-- ---- dictionary batches

-- one column that uses up the nodes and buffers is the only one
only_of : (t : TypeTree) (rows : ℕ) (body : List ℕ) (rest : Rest) (c : Layout) → decoded_columns (t ∷ []) rows body rest ≡ Ok (c ∷ []) → spec_only_column t rows body rest ≡ Ok c
unfolding decoded_columns decoded_each
only_of t rows body rest c h = by (decoded_column t (Rows rows) body rest) h
  where
    left : (x : Layout) (read : Result (Unit {0}) IpcReadError) → (read >>= λ none. Ok (x ∷ [])) ≡ Ok (c ∷ []) → (read >>= λ none. Ok x) ≡ Ok c
    left x (Ok u) h = cc
    left x (Err f) h = cc

    with_none : Layout × Rest → Result (List Layout × Rest) IpcReadError
    with_none first = Ok (first.0 ∷ [], first.1)

    by : (read : Result (Layout × Rest) IpcReadError) → ((read >>= with_none) >>= λ columns. checked_exhausted columns.1 >>= λ none. Ok columns.0) ≡ Ok (c ∷ []) → (read >>= λ column. checked_exhausted column.1 >>= λ none. Ok column.0) ≡ Ok c
    by (Ok x) h = left x.0 (checked_exhausted x.1) h
    by (Err f) h = cc

abbrev IsBack : DictionaryBatchTree → Type 0
IsBack p = DictionaryMetadataRoundTrips p.0 p.1.0 (batch_tree (one_column p.1.1)) (dictionary_head p) (columns_body (p.1.1 ∷ []))

-- the flag of a delta is read as it was written
said : (delta : Bool) → nat_lt 0 (delta_byte delta) ≡ delta
said true = refl
said false = refl

data_again : (p : DictionaryBatchTree) (once : Bool) (s : StateTree) (message : IsBack p) → CanReadDictionary once s p → data_in once (is_some (known_at s.known p.1.0)) message.parts.metadata message.table ≡ Ok (message.position, p.0)
unfolding data_in
data_again p once s message reads = rw (message.batch_place, message.same_delta, said p.0, reads.comes) refl

values_known : (p : DictionaryBatchTree) (once : Bool) (s : StateTree) (message : IsBack p) → RoundTripOverExtensions (p.1.1 ∷ []) → CanReadDictionary once s p → dictionary_in once s message.parts ≡ spec_with_values p.0 s p.1.0 (read_values s.known (number_of p.1.0) p.1.1)
unfolding dictionary_in
values_known p once s message over reads =
    let m : MessageModel = message.parts in
    let named : IsNamed s.picked.seen.named p.1 = reads.named in
    let id : ℕ = named.id in
    let c : Layout = p.1.1 in
    let number : number_of p.1.0 ≡ id = ap number_of named.number in
    let inside : AllByRecursion (Covers s.known) (own_entries (suc id) c) = subst (λ (n : ℕ). AllByRecursion (Covers s.known) (own_entries (suc n) c)) number reads.inside in
    let back : ValuesRoundTrip s.known id c = values_again s.known id c over inside in
    let v : ValueTypeModel = values_of id c in
    let values : values_at s.known (spec_outermost_ids s.picked.seen.named v.inside) ≡ again.entry_values s.known (own_entries (suc id) c) = ap (values_at s.known) named.outer ∙ values_of_ids s.known (own_entries (suc id) c) in
    let column : spec_only_column v.values (len c) (columns_body (c ∷ [])) (written_rest (c ∷ []) (again.entry_values s.known (own_entries (suc id) c))) ≡ Ok (read_values s.known id c) =
    only_of v.values (len c) (columns_body (c ∷ [])) (written_rest (c ∷ []) (again.entry_values s.known (own_entries (suc id) c))) (read_values s.known id c) back.read in
    let at : data_in once (is_some (known_at s.known p.1.0)) m.metadata message.table ≡ Ok (message.position, p.0) = data_again p once s message reads in
    let same : read_values s.known id c ≡ read_values s.known (number_of p.1.0) c = ap (λ (n : ℕ). read_values s.known n c) (sym number) in
    rw (message.visited, message.same_id, named.values, at, message.same_batch, no_views (stored_arrays v.values) named.stored, named.stored, values, message.same_body, column, same) refl

pub dictionary_again : (p : DictionaryBatchTree) → IsBack p → RoundTripOverExtensions (p.1.1 ∷ []) → DictionaryRoundTrips p
unfolding dictionary_bytes
dictionary_again p message over =
    let body : List ℕ = columns_body (p.1.1 ∷ []) in
    record {
      parts = message.parts;
      message = record {
        again = λ rest. rw (append_assoc (dictionary_head p) body rest) (message.again rest);
        version = message.version;
        head_long = message.long;
        body_long = ap length message.same_body;
      };
      kind = message.kind;
      values = λ once s reads. values_known p once s message over reads;
      over = over;
    }

-- ---- a record batch after its pending dictionaries

-- the appendable ids after these dictionaries
abbrev pub fresh_with : ProjectedSchemaModel → List ℤ → DictionaryEntries → List ℤ
fresh_with p appendable [] = appendable
fresh_with p appendable (e ∷ es) = fresh_with p (spec_appendable_after p e.0 appendable) es

-- the state after these dictionaries
abbrev pub behind_values : StateTree → DictionaryEntries → StateTree
behind_values s es = record { picked = s.picked; known = known_with s.known es; appendable = fresh_with s.picked s.appendable es }

-- a message of the current version is read by its kind
by_kind : (s : StateTree) (m : MessageModel) (kind : MessageKind) → m.root.version ≡ V5 → m.root.kind ≡ kind → message_in s m ≡ message_by_kind kind s m
unfolding message_in
by_kind s m kind version is = ap (λ (v : MetadataVersion). allowed v) version ∙ ap (λ (k : MessageKind). message_by_kind k s m) is
  where
    allowed : MetadataVersion → Result (Option RecordBatchTree × StateTree) IpcReadError
    allowed v = spec_check_projected_version v s.picked.schema.fields s.picked.steps >>= λ read. message_by_kind m.root.kind s m

-- a batch of all values of an id is read, and its values are known
values_next : (e : ℤ × Layout) → DictionaryRoundTrips (whole e) → (s : StateTree) (rest : List ℕ) → CanReadDictionary false s (whole e) → next_in s (dictionary_bytes (whole e) ++ rest) ≡ next_in (known_more s e) rest
values_next e ok s rest reads =
    let m : MessageModel = ok.parts in
    let known : message_in s m ≡ Ok (None, known_more s e) = by_kind s m DictionaryBatch ok.message.version ok.kind ∙ rw (ok.values false s reads) refl in
    by_message s (dictionary_bytes (whole e) ++ rest) ∙ rw (ok.message.again rest, known) refl

all_values_next : (es : DictionaryEntries) (s : StateTree) (rest : List ℕ) → AllByRecursion DictionaryRoundTrips (map whole es) → AllByRecursion (IsNamed s.picked.seen.named) es → AreInOrder s.known es → next_in s (flat_map dictionary_bytes (map whole es) ++ rest) ≡ next_in (behind_values s es) rest
all_values_next [] s rest ok named order = refl
all_values_next (e ∷ es) s rest ok named order =
    let ps : List DictionaryBatchTree = map whole es in
    let behind : List ℕ = flat_map dictionary_bytes ps ++ rest in
    let bytes : flat_map dictionary_bytes (whole e ∷ ps) ++ rest ≡ dictionary_bytes (whole e) ++ behind =
    ap (λ (x : List ℕ). x ++ rest) (flat_map-cons dictionary_bytes (whole e) ps) ∙ append_assoc (dictionary_bytes (whole e)) (flat_map dictionary_bytes ps) rest in
    let reads : CanReadDictionary false s (whole e) = record { named = named.0; inside = covers_all s.known (own_entries (suc (number_of e.0)) e.1) order.0; comes = refl } in
    ap (next_in s) bytes ∙ values_next e ok.0 s behind reads ∙ all_values_next es (known_more s e) rest ok.1 named.1 order.1

-- a written record batch is the next one
batch_next : (b : RecordBatchTree) → RecordBatchRoundTrips b → (s : StateTree) (rest : List ℕ) → CanReadBatch s b → next_in s (batch_bytes b ++ rest) ≡ Ok ((Some (decoded_record_batch s.known b), s), rest)
batch_next b ok s rest reads =
    let m : MessageModel = ok.parts in
    let read : message_in s m ≡ Ok (Some (decoded_record_batch s.known b), s) = by_kind s m RecordBatch ok.message.version ok.kind ∙ rw (ok.columns s reads) refl in
    by_message s (batch_bytes b ++ rest) ∙ rw (ok.message.again rest, read) refl

over_each : (es : DictionaryEntries) → AllByRecursion DictionaryRoundTrips (map whole es) → AllByRecursion (λ e. RoundTripOverExtensions (e.1 ∷ [])) es
over_each [] ok = tt
over_each (e ∷ es) ok = (ok.0.over, over_each es ok.1)

-- a state after what was written, of a written schema
pub record IsBehind (s : StateTree) (emitted : DictionaryEntries) : Type 0 where
  pub whole : HasAllColumns s
  pub form : check_fields s.picked.schema.fields ≡ Ok tt
  pub follows : Follows s.known emitted

-- a state after a record batch
abbrev pub behind_batch : StateTree → DictionaryEntries → RecordBatchTree → StateTree
behind_batch s emitted b = behind_values s (pending_by emitted b)

pub part_known : (s : StateTree) (emitted : DictionaryEntries) (b : RecordBatchTree) → BatchRoundTrips (stream_dictionary_batches emitted b) b → IsBehind s emitted → AreAllKnown s.known emitted b.columns
part_known s emitted b ok behind = columns_known s.known emitted b.columns behind.follows (over_each (pending_by emitted b) ok.dictionaries)

pub part_named : (s : StateTree) (emitted : DictionaryEntries) (b : RecordBatchTree) → BatchRoundTrips (stream_dictionary_batches emitted b) b → IsBehind s emitted → spec_are_columns (column_types s.picked.schema) b.rows b.columns ≡ true → AreNamed s.picked.schema.fields b.columns
part_named s emitted b ok behind columns = are_named s.picked.schema.fields b.columns behind.form (types_are (column_types s.picked.schema) b.rows b.columns columns) ok.fits

pub still_behind : (s : StateTree) (emitted : DictionaryEntries) (b : RecordBatchTree) → BatchRoundTrips (stream_dictionary_batches emitted b) b → IsBehind s emitted → IsBehind (behind_batch s emitted b) (emitted_after emitted b)
still_behind s emitted b ok behind = record { whole = record { steps = behind.whole.steps; arrays = behind.whole.arrays; seen = behind.whole.seen }; form = behind.form; follows = (part_known s emitted b ok behind).follows }

-- a record batch after its pending dictionaries is the next one, and these are known
pub part_next : (s : StateTree) (emitted : DictionaryEntries) (b : RecordBatchTree) (rest : List ℕ) → BatchRoundTrips (stream_dictionary_batches emitted b) b → IsBehind s emitted → spec_are_columns (column_types s.picked.schema) b.rows b.columns ≡ true
    → next_in s (encoded_batch stream_dictionary_batches emitted b ++ rest) ≡ Ok ((Some (decoded_record_batch (known_after s.known emitted b) b), behind_batch s emitted b), rest)
unfolding encoded_batch
part_next s emitted b rest ok behind columns =
    let es : DictionaryEntries = pending_by emitted b in
    let all : AreAllKnown s.known emitted b.columns = part_known s emitted b ok behind in
    let named : AreNamed s.picked.schema.fields b.columns = part_named s emitted b ok behind columns in
    let each : AllByRecursion (IsNamed (seen_of_fields s.picked.schema.fields).named) es = columns_needed_of (IsNamed (seen_of_fields s.picked.schema.fields).named) emitted 0 b.columns named.each in
    let here : AllByRecursion (IsNamed s.picked.seen.named) es = subst (λ (seen : DictionaryTypesModel). AllByRecursion (IsNamed seen.named) es) (sym behind.whole.seen) each in
    let next : StateTree = behind_batch s emitted b in
    let reads : CanReadBatch next b = record { whole = record { steps = behind.whole.steps; arrays = behind.whole.arrays; seen = behind.whole.seen }; columns = columns; named = named; known = covers_all next.known (columns_own 0 b.columns) all.own } in
    ap (next_in s) (append_assoc (flat_map dictionary_bytes (stream_dictionary_batches emitted b)) (batch_bytes b) rest)
    ∙ all_values_next es s (batch_bytes b ++ rest) ok.dictionaries here all.order
    ∙ batch_next b ok.batch next rest reads

-- ---- record batches in order

pub end_read : (s : StateTree) (rest : List ℕ) → next_in s (end_of_stream ++ rest) ≡ Ok ((None, s), rest)
end_read s rest = by_message s (end_of_stream ++ rest) ∙ rw (end_of_stream_is_read rest) refl

-- a record batch without an error has the columns of the schema
pub columns_if : (are : Bool) (r : Option IpcWriteError) → (if are then r else Some Columns) ≡ None → are ≡ true
columns_if true r h = refl
columns_if false r h = cc

pub has_columns : (types : List TypeTree) (emitted : DictionaryEntries) (b : RecordBatchTree) → batch_error types emitted b ≡ None → spec_are_columns types b.rows b.columns ≡ true
has_columns types emitted b h = columns_if (spec_are_columns types b.rows b.columns) _ h

-- record batches are read in order, up to the end-of-stream marker
pub batches_again : (s : StateTree) (emitted : DictionaryEntries) (bs : List RecordBatchTree) (rest : List ℕ) → BatchesRoundTrip stream_dictionary_batches emitted bs → IsBehind s emitted → batches_error (column_types s.picked.schema) emitted bs ≡ None
    → batches_in s (encoded_batches stream_dictionary_batches emitted bs ++ (end_of_stream ++ rest)) ≡ Ok (decoded_batches_from s.known emitted bs, rest)
unfolding encoded_batches
batches_again s emitted [] rest ok behind none = rw (one_by_one s (end_of_stream ++ rest), end_read s rest) refl
batches_again s emitted (b ∷ bs) rest ok behind none =
    let others : List ℕ = encoded_batches stream_dictionary_batches (emitted_after emitted b) bs ++ (end_of_stream ++ rest) in
    let bytes : (encoded_batch stream_dictionary_batches emitted b ++ encoded_batches stream_dictionary_batches (emitted_after emitted b) bs) ++ (end_of_stream ++ rest) ≡ encoded_batch stream_dictionary_batches emitted b ++ others = append_assoc (encoded_batch stream_dictionary_batches emitted b) (encoded_batches stream_dictionary_batches (emitted_after emitted b) bs) (end_of_stream ++ rest) in
    let columns = has_columns (column_types s.picked.schema) emitted b (first_accepts (batch_error (column_types s.picked.schema) emitted b) (batches_error (column_types s.picked.schema) (emitted_after emitted b) bs) none) in
    let more = others_accept (batch_error (column_types s.picked.schema) emitted b) (batches_error (column_types s.picked.schema) (emitted_after emitted b) bs) none in
    let next : StateTree = behind_batch s emitted b in
    let back = batches_again next (emitted_after emitted b) bs rest ok.1 (still_behind s emitted b ok.0 behind) more in
    rw (bytes, one_by_one s (encoded_batch stream_dictionary_batches emitted b ++ others), part_next s emitted b others ok.0 behind columns, back) refl

-- with the same rows and slots
same_batch : (s : StateTree) (emitted : DictionaryEntries) (b : RecordBatchTree) → BatchRoundTrips (stream_dictionary_batches emitted b) b → IsBehind s emitted → IsSameBatch b (decoded_record_batch (known_after s.known emitted b) b)
same_batch s emitted b ok behind =
    let back = columns_again (known_after s.known emitted b) b.columns ok.batch.over (covers_all (known_after s.known emitted b) (columns_own 0 b.columns) (part_known s emitted b ok behind).own) in
    record { rows = refl; types = back.types; slots = back.slots }

same_each : (s : StateTree) (emitted : DictionaryEntries) (bs : List RecordBatchTree) → BatchesRoundTrip stream_dictionary_batches emitted bs → IsBehind s emitted → AreSameBatches bs (decoded_batches_from s.known emitted bs)
same_each s emitted [] ok behind = tt
same_each s emitted (b ∷ bs) ok behind = (same_batch s emitted b ok.0 behind, same_each (behind_batch s emitted b) (emitted_after emitted b) bs ok.1 (still_behind s emitted b ok.0 behind))

-- ---- streams

-- the state after a written schema
abbrev pub written_start : SchemaModel → StateTree
written_start s = start (all_written s)

nothing_follows : Follows [] []
nothing_follows id c h = cc

pub starts_behind : (s : SchemaModel) → check_fields s.fields ≡ Ok tt → IsBehind (written_start s) []
starts_behind s form = record { whole = record { steps = refl; arrays = written_as_stored s form; seen = refl }; form = form; follows = nothing_follows }

pub same_batches : (s : SchemaModel) (bs : List RecordBatchTree) → check_fields s.fields ≡ Ok tt → BatchesRoundTrip stream_dictionary_batches [] bs → AreSameBatches bs (decoded_batches bs)
same_batches s bs form ok = same_each (written_start s) [] bs ok (starts_behind s form)

pub stream_round_trips : (s : SchemaModel) (bs : List RecordBatchTree) (rest : List ℕ) → ((after : List ℕ) → stream_projected_schema_at all (schema_message s ++ after) ≡ Ok (all_written s, after)) → check_fields s.fields ≡ Ok tt → batches_error (column_types s) [] bs ≡ None → BatchesRoundTrip stream_dictionary_batches [] bs
    → stream_in (encoded_stream s bs ++ rest) ≡ Ok (decoded_stream s bs (length (encoded_stream s bs)))
unfolding encoded_messages projected_stream_in
stream_round_trips s bs rest keyed form none ok =
    let behind : List ℕ = encoded_batches stream_dictionary_batches [] bs ++ (end_of_stream ++ rest) in
    let bytes : encoded_stream s bs ++ rest ≡ schema_message s ++ behind = simp append_assoc in
    let size : length (encoded_stream s bs ++ rest) - length rest ≡ length (encoded_stream s bs) = omega (arith, length-append (encoded_stream s bs) rest) in
    let again : length (schema_message s ++ behind) - length rest ≡ length (encoded_stream s bs) = ap (λ (x : List ℕ). length x - length rest) (sym bytes) ∙ size in
    rw (bytes, keyed behind, batches_again (written_start s) [] bs rest ok (starts_behind s form) none, again) refl
