-- The projection of all columns is the schema, and it round-trips.
use Rattle.std.specs.Prelude.{◌≡◌, ◌<◌, ◌^◌, ℕ, zero, suc, ◌+◌, ◌-◌, pos, true, false, List, [], ◌∷◌, ◌++◌, map, Option, Result, Ok, Err, refl}
use Rattle.std.proofs.Common.{ap, sym, ◌∙◌}
use Rattle.std.specs.List.{list_any}
use Rattle.std.specs.Int.{w16}
use Rattle.std.specs.Ordering.{int_eq}
use Rattle.nest_memory.specs.TypeTree.{FieldTree}
use Rattle.ipc_flatbuf.specs.ReadResults.{◌>>=◌, check}
use Rattle.ipc_flatbuf.specs.declared.error.IpcReadError.{IpcReadError}
use Rattle.ipc_flatbuf.specs.declared.error.IpcReadError.TheVariants.{Endianness}
use Rattle.ipc_flatbuf.specs.declared.projection.FieldAction.{FieldAction}
use Rattle.ipc_flatbuf.specs.declared.projection.FieldAction.TheVariants.{Read}
use Rattle.ipc_flatbuf.specs.StoredArrays.{reads_as_stored}
use Rattle.ipc_flatbuf.specs.Flatbuffers as words
use Rattle.ipc_flatbuf.specs.Flatbuffers.{signed_at, spec_offset_at, spec_offset_field, spec_read_table, spec_items_at}
use Rattle.ipc_flatbuf.specs.VectorLaws.{ReadsBackAs}
use Rattle.ipc_flatbuf.specs.Messages.{MessageModel, message_at}
use Rattle.ipc_flatbuf.specs.MessageBytes.{metadata_size}
use Rattle.ipc_flatbuf.specs.declared.message.types.MetadataVersion as versions
use Rattle.ipc_flatbuf.specs.declared.message.types.MetadataVersion.TheVariants.{V4, V5}
use Rattle.ipc_schema.specs.Dictionaries.{DictionaryTypesModel, Progress, no_dictionaries, progress}
use Rattle.ipc_schema.specs.FieldVectors.{tables_in_turn}
use Rattle.ipc_schema.specs.DictionaryIds.{types_after_all}
use Rattle.ipc_schema.specs.Schemas.{SchemaModel, spec_metadata_at, spec_field_at, spec_schema_at, schema_parts, spec_read_schema, stored_schema_of_stream}
use Rattle.ipc_schema.specs.SchemaBytes.{schema_message}
use Rattle.ipc_schema.specs.SchemaLaws.{SchemaFits, part_of, schema_cost, table_round_trips, stored_round_trips}
use Rattle.ipc_schema.specs.StoredTypes.{read_field}
use Rattle.ipc_schema.specs.StoredArrays.{arrays_of_each}
use Rattle.ipc_schema.specs.StoredArrayLaws.{fields_as_stored, fields_same, fields_read}
use Rattle.ipc_schema.specs.WriteChecks.{check_fields}
use Rattle.ipc_schema.specs.Unions.{have_union, spec_check_version}
use Rattle.ipc_schema.specs.Projections.{ProjectionModel, all}
use Rattle.ipc_schema.specs.ProjectedSchemas.{ProjectedItem, read, ProjectedFields, ProjectedSchemaModel, with_item, spec_projected_fields_at, spec_has_union, spec_check_projected_version, spec_projected_schema_at, spec_projected_schema_in_message, stream_projected_schema_at}

-- the action of each field is Read
abbrev pub read_actions : List FieldTree → List FieldAction
read_actions fields = map (λ f. Read) fields

-- the projection of all columns of a schema as it is stored
abbrev pub all_projected : SchemaModel → DictionaryTypesModel → ProjectedSchemaModel
all_projected s seen = record { schema = spec_read_schema s; steps = read_actions s.fields; arrays = arrays_of_each s.fields; seen = seen }

-- the projection of all columns of a schema that was written, which is read as it is stored
abbrev pub all_written : SchemaModel → ProjectedSchemaModel
all_written s = record { schema = s; steps = read_actions s.fields; arrays = arrays_of_each s.fields; seen = types_after_all 64 0 s.fields no_dictionaries }

-- a schema that can be written is read as it is stored
pub written_is_read : (s : SchemaModel) → check_fields s.fields ≡ Ok tt → spec_read_schema s ≡ s
written_is_read s form = rw (fields_same s.fields (fields_as_stored s.fields form)) refl

written_same : (s : SchemaModel) → check_fields s.fields ≡ Ok tt → all_projected s (types_after_all 64 0 s.fields no_dictionaries) ≡ all_written s
written_same s form = rw (fields_same s.fields (fields_as_stored s.fields form)) refl

-- its arrays are read as they are stored
pub written_as_stored : (s : SchemaModel) → check_fields s.fields ≡ Ok tt → reads_as_stored (all_written s).arrays ≡ true
written_as_stored s form = fields_read s.fields (fields_as_stored s.fields form)

-- ---- steps of reading in turn

bind_step : {A B C : Type 0} (read : Result A IpcReadError) (f : A → Result B IpcReadError) (g : A → Result C IpcReadError) (k : C → Result B IpcReadError) → ((x : A) → f x ≡ (g x >>= k)) → (read >>= f) ≡ ((read >>= g) >>= k)
bind_step (Ok x) f g k h = h x
bind_step (Err e) f g k h = refl

abbrev with_steps : List FieldTree × Progress → Result (ProjectedFields × Progress) IpcReadError
with_steps x = Ok (record { steps = read_actions x.0; fields = map read_field x.0; arrays = arrays_of_each x.0 }, x.1)

abbrev one_picked : FieldTree → Result (ProjectedFields × Progress) IpcReadError → Result (ProjectedFields × Progress) IpcReadError
one_picked first others = others >>= λ x. Ok (with_item (read first) x.0, x.1)

abbrev one_row : FieldTree → Result (List FieldTree × Progress) IpcReadError → Result (List FieldTree × Progress) IpcReadError
one_row first others = others >>= λ x. Ok (first ∷ x.0, x.1)

more_rows : (first : FieldTree) (rows : Result (List FieldTree × Progress) IpcReadError) (picked : Result (ProjectedFields × Progress) IpcReadError) → picked ≡ (rows >>= with_steps) → one_picked first picked ≡ (one_row first rows >>= with_steps)
unfolding arrays_of_each
more_rows first (Ok x) picked e = rw e refl
more_rows first (Err f) picked e = rw e refl

abbrev as_item : FieldTree × Progress → Result (ProjectedItem × Progress) IpcReadError
as_item f = Ok (read f.0, f.1)

abbrev item_then : (Progress → Result (ProjectedFields × Progress) IpcReadError) → ProjectedItem × Progress → Result (ProjectedFields × Progress) IpcReadError
item_then picked first = picked first.1 >>= λ x. Ok (with_item first.0 x.0, x.1)

abbrev field_then : (Progress → Result (List FieldTree × Progress) IpcReadError) → FieldTree × Progress → Result (List FieldTree × Progress) IpcReadError
field_then rows first = rows first.1 >>= λ x. Ok (first.0 ∷ x.0, x.1)

rows_from : (field : Result (FieldTree × Progress) IpcReadError) (picked : Progress → Result (ProjectedFields × Progress) IpcReadError) (rows : Progress → Result (List FieldTree × Progress) IpcReadError) → ((p : Progress) → picked p ≡ (rows p >>= with_steps))
    → ((field >>= as_item) >>= item_then picked) ≡ ((field >>= field_then rows) >>= with_steps)
rows_from (Ok f) picked rows h = more_rows f.0 (rows f.1) (picked f.1) (h f.1)
rows_from (Err e) picked rows h = refl

rows_same : (bytes : List ℕ) (i n position : ℕ) (so_far : Progress) → spec_projected_fields_at all bytes i n position so_far ≡ (tables_in_turn (spec_field_at 64 bytes) bytes n position so_far >>= with_steps)
unfolding spec_projected_fields_at tables_in_turn arrays_of_each
rows_same bytes i zero position so_far = refl
rows_same bytes i (suc n) position so_far =
    bind_step (spec_offset_at bytes position) _ _ with_steps
    (λ to. rows_from (spec_field_at 64 bytes to so_far) (λ p. spec_projected_fields_at all bytes (i + 1) n (position + 4) p) (λ p. tables_in_turn (spec_field_at 64 bytes) bytes n (position + 4) p) (λ p. rows_same bytes (i + 1) n (position + 4) p))

-- ---- schemas

abbrev with_all : (SchemaModel × DictionaryTypesModel) × ℕ → Result (ProjectedSchemaModel × ℕ) IpcReadError
with_all x = Ok (all_projected x.0.0 x.0.1, x.1)

abbrev all_fields : List FieldTree × Progress → ProjectedFields × Progress
all_fields x = (record { steps = read_actions x.0; fields = map read_field x.0; arrays = arrays_of_each x.0 }, x.1)

rows_then : (rows : Result (List FieldTree × Progress) IpcReadError) (f : ProjectedFields × Progress → Result (ProjectedSchemaModel × ℕ) IpcReadError) (g : List FieldTree × Progress → Result ((SchemaModel × DictionaryTypesModel) × ℕ) IpcReadError)
    → ((x : List FieldTree × Progress) → f (all_fields x) ≡ (g x >>= with_all)) → ((rows >>= with_steps) >>= f) ≡ ((rows >>= g) >>= with_all)
rows_then (Ok x) f g h = h x
rows_then (Err e) f g h = refl

-- the projection of all columns of the schema at a position
abbrev pub all_at : List ℕ → ℕ → ℕ → Result (ProjectedSchemaModel × ℕ) IpcReadError
all_at bytes position left = spec_schema_at bytes position left >>= λ x. Ok (all_projected x.0.0 x.0.1, x.1)

pub projection_of_all_is_schema : (bytes : List ℕ) (position left : ℕ) → spec_projected_schema_at all bytes position left ≡ all_at bytes position left
unfolding spec_projected_schema_at spec_schema_at
projection_of_all_is_schema bytes position left =
    bind_step (spec_read_table bytes position left) _ _ with_all
    (λ table. bind_step (words.field (signed_at w16 bytes) (pos 0) bytes table.0 0) _ _ with_all
    (λ endianness. bind_step (check (int_eq endianness (pos 0)) Endianness) _ _ with_all
    (λ little. bind_step (spec_offset_field bytes table.0 1) _ _ with_all
    (λ to. bind_step (spec_items_at 4 bytes to table.1) _ _ with_all
    (λ items. rw (rows_same bytes 0 items.0.count items.0.first (progress items.1 no_dictionaries))
    (rows_then (tables_in_turn (spec_field_at 64 bytes) bytes items.0.count items.0.first (progress items.1 no_dictionaries)) _ _
    (λ fields. bind_step (spec_offset_field bytes table.0 2) _ _ with_all
    (λ to. bind_step (spec_metadata_at bytes to fields.1.left) _ _ with_all
    (λ metadata. refl)))))))))

-- the table of a schema round-trips at any position
pub projected_table_round_trips : (s : SchemaModel) → SchemaFits s → ReadsBackAs (spec_projected_schema_at all) 16 (part_of s) (all_written s) (schema_cost s)
projected_table_round_trips s fits =
    let again = table_round_trips s fits in
    record {
      law = λ whole p q left after h small at le. projection_of_all_is_schema whole q left ∙ ap (λ (read : Result ((SchemaModel × DictionaryTypesModel) × ℕ) IpcReadError). read >>= with_all) (again.law whole p q left after h small at le)
          ∙ ap (λ (w : ProjectedSchemaModel). Ok (w, left - schema_cost s)) (written_same s fits.form);
      long = again.long;
    }

-- ---- streams

none_passed : (fields : List FieldTree) → list_any spec_has_union (read_actions fields) ≡ false
none_passed [] = refl
none_passed (f ∷ fields) = none_passed fields

allowed_v : (version : versions.MetadataVersion) (read : Result (Unit {0}) IpcReadError) → (read >>= λ r. spec_check_version version false) ≡ read
allowed_v V4 (Ok tt) = refl
allowed_v V5 (Ok tt) = refl
allowed_v V4 (Err e) = refl
allowed_v V5 (Err e) = refl

allowed_same : (version : versions.MetadataVersion) (fields : List FieldTree) → spec_check_projected_version version (map read_field fields) (read_actions fields) ≡ spec_check_version version (have_union (map read_field fields))
allowed_same version fields = rw (none_passed fields) (allowed_v version (spec_check_version version (have_union (map read_field fields))))

abbrev stream_all : (SchemaModel × DictionaryTypesModel) × List ℕ → Result (ProjectedSchemaModel × List ℕ) IpcReadError
stream_all x = Ok (all_projected x.0.0 x.0.1, x.1)

abbrev all_left : (SchemaModel × DictionaryTypesModel) × ℕ → ProjectedSchemaModel × ℕ
all_left x = (all_projected x.0.0 x.0.1, x.1)

schema_then : (read : Result ((SchemaModel × DictionaryTypesModel) × ℕ) IpcReadError) (f : ProjectedSchemaModel × ℕ → Result (ProjectedSchemaModel × List ℕ) IpcReadError) (g : (SchemaModel × DictionaryTypesModel) × ℕ → Result ((SchemaModel × DictionaryTypesModel) × List ℕ) IpcReadError)
    → ((x : (SchemaModel × DictionaryTypesModel) × ℕ) → f (all_left x) ≡ (g x >>= stream_all)) → ((read >>= with_all) >>= f) ≡ ((read >>= g) >>= stream_all)
schema_then (Ok x) f g h = h x
schema_then (Err e) f g h = refl

-- the projection of all columns of the schema of a stream
abbrev pub all_of_stream : List ℕ → Result (ProjectedSchemaModel × List ℕ) IpcReadError
all_of_stream bytes = stored_schema_of_stream bytes >>= λ x. Ok (all_projected x.0.0 x.0.1, x.1)

-- the same of the schema of a message, with the bytes after it
abbrev with_rest : List ℕ → ProjectedSchemaModel → Result (ProjectedSchemaModel × List ℕ) IpcReadError
with_rest rest s = Ok (s, rest)

abbrev schema_before : ProjectionModel → Option MessageModel → List ℕ → Result (ProjectedSchemaModel × List ℕ) IpcReadError
schema_before picks first rest =
    schema_parts first >>= λ parts. spec_projected_schema_at picks parts.metadata parts.root.header parts.root.left >>= λ picked. spec_check_projected_version parts.root.version picked.0.schema.fields picked.0.steps >>= λ allowed. Ok (picked.0, rest)

before_rest : (picks : ProjectionModel) (first : Option MessageModel) (rest : List ℕ) → schema_before picks first rest ≡ (spec_projected_schema_in_message picks first >>= with_rest rest)
unfolding spec_projected_schema_in_message
before_rest picks first rest =
    bind_step (schema_parts first) _ _ (with_rest rest)
    (λ parts. bind_step (spec_projected_schema_at picks parts.metadata parts.root.header parts.root.left) _ _ (with_rest rest)
    (λ picked. bind_step (spec_check_projected_version parts.root.version picked.0.schema.fields picked.0.steps) _ _ (with_rest rest) (λ allowed. refl)))

pub stream_projection_of_all_is_schema : (bytes : List ℕ) → stream_projected_schema_at all bytes ≡ all_of_stream bytes
unfolding stream_projected_schema_at stored_schema_of_stream
stream_projection_of_all_is_schema bytes =
    bind_step (message_at bytes) _ _ stream_all
    (λ first. sym (before_rest all first.0 first.1) ∙ bind_step (schema_parts first.0) _ _ stream_all
    (λ parts. rw (projection_of_all_is_schema parts.metadata parts.root.header parts.root.left)
    (schema_then (spec_schema_at parts.metadata parts.root.header parts.root.left) _ _
    (λ schema. rw (allowed_same parts.root.version schema.0.0.fields) (bind_step (spec_check_version parts.root.version (have_union (map read_field schema.0.0.fields))) _ _ stream_all (λ allowed. refl))))))

-- the message of a schema round-trips, and the bytes after it are left
pub projected_stream_round_trips : (s : SchemaModel) (rest : List ℕ) → SchemaFits s → metadata_size (schema_message s) < 2 ^ 31 → stream_projected_schema_at all (schema_message s ++ rest) ≡ Ok (all_written s, rest)
projected_stream_round_trips s rest fits small =
    stream_projection_of_all_is_schema (schema_message s ++ rest) ∙ ap (λ (read : Result ((SchemaModel × DictionaryTypesModel) × List ℕ) IpcReadError). read >>= stream_all) (stored_round_trips s rest fits small) ∙ ap (λ (w : ProjectedSchemaModel). Ok (w, rest)) (written_same s fits.form)
