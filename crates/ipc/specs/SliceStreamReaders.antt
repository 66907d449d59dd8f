-- A reader of a stream in memory.
use Rattle.std.specs.Prelude.{◌≡◌, ℕ, zero, suc, ℤ, Bool, List, [], ◌∷◌, Option, Some, None, Result, Ok, refl}
use Rattle.std.specs.Coded.{Coded, code_by, coded×, coded_list, coded_option, coded_bool, coded_ℕ, coded_ℤ}
use Rattle.nest_memory.specs.TypeTree.{Letters, Entries, TypeTree, FieldTree, field}
use Rattle.nest_memory.specs.TypeCode.{coded_type}
use Rattle.nest_model.specs.LayoutCode.{coded_layout}
use Rattle.ipc_flatbuf.specs.ReadResults.{◌>>=◌}
use Rattle.ipc_flatbuf.specs.declared.error.IpcReadError.{IpcReadError}
use Rattle.ipc_flatbuf.specs.declared.projection.SkippedField.{SkippedField}
use Rattle.ipc_flatbuf.specs.declared.projection.FieldAction.{FieldAction}
use Rattle.ipc_flatbuf.specs.declared.projection.FieldAction.TheVariants.{Read, Skip}
use Rattle.ipc_flatbuf.specs.declared.projection.StoredArray.{StoredArray}
use Rattle.ipc_flatbuf.specs.declared.projection.StoredArray.TheVariants.{Plain, View, Decimal32, Decimal64, Skipped}
use Rattle.ipc_schema.specs.Dictionaries.{ValueTypeModel, DictionaryTypesModel}
use Rattle.ipc_schema.specs.Projections.{ProjectionModel, all}
use Rattle.ipc_schema.specs.ProjectedSchemas.{ProjectedSchemaModel, stream_projected_schema_at}
use Rattle.ipc_schema.specs.Schemas.{SchemaModel}
use Rattle.ipc.specs.Streams.{RecordBatchTree, Known, StateTree, start, next_in, batches_in, projected_stream_in}

-- a reader: its state, and the bytes left, none after the end or an error
pub record SliceStreamReaderTree : Type 0 where
  pub state : StateTree
  pub left : List ℕ

-- the reader of the stream at the start of bytes
unfoldable pub reader_in : ProjectionModel → List ℕ → Result SliceStreamReaderTree IpcReadError
reader_in picks bytes = stream_projected_schema_at picks bytes >>= λ picked. Ok (record { state = start picked.0; left = picked.1 })

-- the state after the schema message at the start of bytes
abbrev pub state_in : List ℕ → Result StateTree IpcReadError
state_in bytes = stream_projected_schema_at all bytes >>= λ picked. Ok (start picked.0)

-- a reader without bytes left
abbrev pub finished : StateTree → SliceStreamReaderTree
finished s = record { state = s; left = [] }

-- the reader after a record batch, or after the end
abbrev pub next_reader : Option RecordBatchTree → StateTree → List ℕ → SliceStreamReaderTree
next_reader None s left = finished s
next_reader (Some batch) s left = record { state = s; left = left }

-- the next record batch of a reader, and the reader after it
unfoldable pub next_of : SliceStreamReaderTree → Result (Option RecordBatchTree × SliceStreamReaderTree) IpcReadError
next_of r = next_in r.state r.left >>= λ next. Ok (next.0.0, next_reader next.0.0 next.0.1 next.1)

-- all record batches of a reader
abbrev pub batches_of : SliceStreamReaderTree → Result (List RecordBatchTree) IpcReadError
batches_of r = batches_in r.state r.left >>= λ x. Ok x.0

-- a record batch before others
abbrev pub before : Option RecordBatchTree → Result (List RecordBatchTree) IpcReadError → Result (List RecordBatchTree) IpcReadError
before None others = Ok []
before (Some batch) others = others >>= λ batches. Ok (batch ∷ batches)

-- the next record batch of a reader, and all of the reader after it
abbrev pub next_and_others : SliceStreamReaderTree → Result (List RecordBatchTree) IpcReadError
next_and_others r = next_of r >>= λ next. before next.0 (batches_of next.1)

-- all record batches of the reader of bytes
abbrev pub read_one_by_one : ProjectionModel → List ℕ → Result (List RecordBatchTree) IpcReadError
read_one_by_one picks bytes = reader_in picks bytes >>= batches_of

-- the record batches of a stream
abbrev pub batches_of_stream : ProjectionModel → List ℕ → Result (List RecordBatchTree) IpcReadError
batches_of_stream picks bytes = projected_stream_in picks bytes >>= λ stream. Ok stream.batches

-- ---- an encoding of readers, by which ghost values are compared

abbrev letters : Coded Letters
letters = coded_list coded_ℕ

abbrev entries : Coded Entries
entries = coded_list (coded× letters letters)

abbrev FieldParts : Type 0
FieldParts = (Letters × TypeTree) × (Bool × Entries)

abbrev parts_of_field : FieldTree → FieldParts
parts_of_field (field n t b es) = ((n, t), (b, es))

abbrev field_of_parts : FieldParts → FieldTree
field_of_parts p = field p.0.0 p.0.1 p.1.0 p.1.1

pub field_again : (f : FieldTree) → field_of_parts (parts_of_field f) ≡ f
field_again (field n t b es) = refl

abbrev coded_field : Coded FieldTree
coded_field = code_by FieldParts (coded× (coded× letters coded_type) (coded× coded_bool entries)) parts_of_field field_of_parts field_again

abbrev pub coded_schema : Coded SchemaModel
coded_schema = code_by (List FieldTree × Entries) (coded× (coded_list coded_field) entries) (λ s. (s.fields, s.metadata)) (λ p. record { fields = p.0; metadata = p.1 }) (λ _. refl)

abbrev coded_span : Coded SkippedField
coded_span =
    code_by ((ℕ × (ℕ × ℕ)) × (Bool × Bool)) (coded× (coded× coded_ℕ (coded× coded_ℕ coded_ℕ)) (coded× coded_bool coded_bool)) (λ s. ((s.nodes, (s.buffers, s.views)), (s.has_union, s.has_dictionary)))
    (λ p. record { nodes = p.0.0; buffers = p.0.1.0; views = p.0.1.1; has_union = p.1.0; has_dictionary = p.1.1 }) (λ _. refl)

abbrev span_of : FieldAction → Option SkippedField
span_of Read = None
span_of (Skip s) = Some s

abbrev step_of : Option SkippedField → FieldAction
step_of None = Read
step_of (Some s) = Skip s

pub step_again : (s : FieldAction) → step_of (span_of s) ≡ s
step_again Read = refl
step_again (Skip s) = refl

abbrev coded_step : Coded FieldAction
coded_step = code_by (Option SkippedField) (coded_option coded_span) span_of step_of step_again

-- how an array is stored, as a number or as a skipped field
abbrev parts_of_array : StoredArray → ℕ × Option SkippedField
parts_of_array View = (0, None)
parts_of_array Decimal32 = (1, None)
parts_of_array Decimal64 = (2, None)
parts_of_array (Plain buffers) = (suc (suc (suc buffers)), None)
parts_of_array (Skipped span) = (0, Some span)

abbrev numbered_array : ℕ → StoredArray
numbered_array zero = View
numbered_array (suc zero) = Decimal32
numbered_array (suc (suc zero)) = Decimal64
numbered_array (suc (suc (suc buffers))) = Plain buffers

abbrev array_of_parts : ℕ × Option SkippedField → StoredArray
array_of_parts (n, None) = numbered_array n
array_of_parts (n, Some span) = Skipped span

pub array_again : (a : StoredArray) → array_of_parts (parts_of_array a) ≡ a
array_again View = refl
array_again Decimal32 = refl
array_again Decimal64 = refl
array_again (Plain buffers) = refl
array_again (Skipped span) = refl

abbrev coded_array : Coded StoredArray
coded_array = code_by (ℕ × Option SkippedField) (coded× coded_ℕ (coded_option coded_span)) parts_of_array array_of_parts array_again

abbrev coded_values : Coded ValueTypeModel
coded_values = code_by (TypeTree × List ℤ) (coded× coded_type (coded_list coded_ℤ)) (λ v. (v.values, v.inside)) (λ p. record { values = p.0; inside = p.1 }) (λ _. refl)

abbrev coded_seen : Coded DictionaryTypesModel
coded_seen = code_by (List ℤ × List (ℤ × ValueTypeModel)) (coded× (coded_list coded_ℤ) (coded_list (coded× coded_ℤ coded_values))) (λ s. (s.ids, s.named)) (λ p. record { ids = p.0; named = p.1 }) (λ _. refl)

abbrev coded_picked : Coded ProjectedSchemaModel
coded_picked =
    code_by (SchemaModel × (List FieldAction × (List StoredArray × DictionaryTypesModel))) (coded× coded_schema (coded× (coded_list coded_step) (coded× (coded_list coded_array) coded_seen))) (λ s. (s.schema, (s.steps, (s.arrays, s.seen))))
    (λ p. record { schema = p.0; steps = p.1.0; arrays = p.1.1.0; seen = p.1.1.1 }) (λ _. refl)

abbrev pub coded_known : Coded Known
coded_known = coded_list (coded× coded_ℤ coded_layout)

abbrev pub coded_state : Coded StateTree
coded_state =
    code_by (ProjectedSchemaModel × (Known × List ℤ)) (coded× coded_picked (coded× coded_known (coded_list coded_ℤ))) (λ s. (s.picked, (s.known, s.appendable))) (λ p. record { picked = p.0; known = p.1.0; appendable = p.1.1 }) (λ _. refl)

abbrev pub coded_reader : Coded SliceStreamReaderTree
coded_reader = code_by (StateTree × List ℕ) (coded× coded_state (coded_list coded_ℕ)) (λ r. (r.state, r.left)) (λ p. record { state = p.0; left = p.1 }) (λ _. refl)
