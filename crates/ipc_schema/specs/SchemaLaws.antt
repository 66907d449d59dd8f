-- Schemas round-trip.
use Rattle.std.proofs.Common.{◌≡◌, ℕ, ◌+◌, ◌-◌, ◌*◌, ◌^◌, ◌<◌, ◌≤◌, List, [], ◌++◌, length, Some, None, Ok, refl, append_assoc, arith}
use Rattle.std.proofs.lemmas.List.{length-append}
use Rattle.ipc_flatbuf.specs.Flatbuffers.{spec_offset_at, spec_field_position, spec_read_table, spec_items_at}
use Rattle.ipc_flatbuf.specs.PartBytes.{u32_bytes}
use Rattle.ipc_flatbuf.specs.FlatbufferLaws.{From, From-length, From_next}
use Rattle.ipc_flatbuf.specs.TemplateLaws.{From_at, offset_in, table_in, visit_in, field_in, field_out}
use Rattle.ipc_flatbuf.specs.VectorLaws.{ReadsBackAs, table_vector_is_long}
use Rattle.ipc_schema.specs.FieldVectors.{table_vector_is_read, tables_are_read}
use Rattle.ipc_schema.specs.Dictionaries.{DictionaryTypesModel, no_dictionaries, progress}
use Rattle.ipc_schema.specs.DictionaryIds.{total, count_all, types_after_all}
use Rattle.ipc_flatbuf.specs.Messages.{message_at}
use Rattle.ipc_flatbuf.specs.MessageBytes.{root_bytes, message_bytes, metadata_size, framed_bytes, padding}
use Rattle.ipc_flatbuf.specs.MessageLaws.{padded, padded_long, padding_long, framed_long, root_long, written_parts, message_round_trips, written_part}
use Rattle.ipc_flatbuf.specs.declared.message.types.MessageKind.TheVariants as kinds
use Rattle.ipc_schema.specs.Schemas.{SchemaModel, spec_metadata_at, spec_field_at, spec_schema_at, stored_schema_of_stream, stream_schema_at}
use Rattle.ipc_schema.specs.StoredArrayLaws.{fields_as_stored, fields_same}
use Rattle.ipc_schema.specs.WriteChecks.{check_fields}
use Rattle.ipc_schema.specs.SchemaBytes.{each_bytes, fields_bytes, entries_bytes, schema_bytes, schema_message}
use Rattle.ipc_schema.specs.MetadataLaws.{AreUtf8, AreSorted, entries_cost, entries_pay, metadata_round_trips}
use Rattle.ipc_schema.specs.FieldLaws.{AllFit, field_cost, fields_round_trip, fields_pay, fields_count}

-- the strings of a Rust Schema are UTF-8 and its metadata sorted, and it can be written
pub record SchemaFits (s : SchemaModel) : Type 0 where
  pub form : check_fields s.fields ≡ Ok tt
  pub fields : AllFit s.fields
  pub texts : AreUtf8 s.metadata
  pub rising : AreSorted s.metadata

-- a schema, and its dictionaries with the ids that are written
abbrev pub with_dictionary_ids : SchemaModel → SchemaModel × DictionaryTypesModel
with_dictionary_ids s = (s, types_after_all 64 0 s.fields no_dictionaries)

-- the cost of reading the vectors of a schema
abbrev pub row_cost : SchemaModel → ℕ
row_cost s = 4 + length (each_bytes 64 0 s.fields) * 4 + total (field_cost 64) s.fields

unfoldable pub schema_cost : SchemaModel → ℕ
schema_cost s = 8 + row_cost s + entries_cost s.metadata

abbrev pub part_of : SchemaModel → List ℕ
part_of s = schema_bytes (fields_bytes s.fields) (entries_bytes s.metadata)

pub part_long : (s : SchemaModel) → length (part_of s) ≡ 32 + length (fields_bytes s.fields) + length (entries_bytes s.metadata)
unfolding schema_bytes u32_bytes
part_long s = omega (arith, length-append (fields_bytes s.fields) (entries_bytes s.metadata))

-- the message is longer than its part
pub message_long : (s : SchemaModel) → 56 + length (part_of s) ≤ length (schema_message s)
unfolding schema_message
message_long s =
    let metadata : List ℕ = root_bytes kinds.Schema 0 16 (part_of s) in
    let framed : length (message_bytes kinds.Schema 0 16 (part_of s)) ≡ length (framed_bytes metadata) = unfold message_bytes in refl in
    omega (arith, framed, framed_long metadata, root_long kinds.Schema 0 16 (part_of s))

pub schema_pays : (s : SchemaModel) → SchemaFits s → schema_cost s ≤ length (part_of s)
unfolding schema_cost
schema_pays s fits = omega (arith, part_long s, fields_pay s.fields fits.form fits.fields, table_vector_is_long 24 (each_bytes 64 0 s.fields), entries_pay s.metadata)

keyed_again : (s : SchemaModel) (whole : List ℕ) (p q left : ℕ) (after : List ℕ) → SchemaFits s → From whole p (part_of s ++ after) → length whole < 2 ^ 32 → q ≡ p + 16 → schema_cost s ≤ left → spec_schema_at whole q left ≡ Ok (with_dictionary_ids s, left - schema_cost s)
unfolding spec_schema_at schema_bytes u32_bytes spec_items_at schema_cost
keyed_again s whole p q left after fits h small at le =
    let row : List ℕ = fields_bytes s.fields in
    let metadata : List ℕ = entries_bytes s.metadata in
    let part : List ℕ = part_of s ++ after in
    let n : ℕ = length (each_bytes 64 0 s.fields) in
    let ends = From-length whole p part h in
    let long : 32 + length row + length metadata ≤ length part = omega (arith, length-append (row ++ metadata) after, length-append row metadata) in
    let v : spec_read_table whole (p + 16) left ≡ Ok (table_in p 16 10, left - 8) = visit_in whole p part 16 10 left h (omega arith) (omega arith) (omega arith) (omega arith) refl refl refl (omega arith) in
    let f0 : spec_field_position whole (table_in p 16 10) 0 ≡ Ok None = field_out whole p part 16 10 0 h (omega arith) (omega arith) refl in
    let f1 : spec_field_position whole (table_in p 16 10) 1 ≡ Ok (Some (p + 16 + 4)) = field_in whole p part 16 10 1 4 h (omega arith) (omega arith) (omega arith) refl in
    let f2 : spec_field_position whole (table_in p 16 10) 2 ≡ Ok (Some (p + 16 + 8)) = field_in whole p part 16 10 2 8 h (omega arith) (omega arith) (omega arith) refl in
    let o1 : spec_offset_at whole (p + 16 + 4) ≡ Ok (p + 16 + 4 + 12) = offset_in whole p part 20 (p + 16 + 4) 12 h (omega arith) (omega arith) (omega arith) refl in
    let o2 : spec_offset_at whole (p + 16 + 8) ≡ Ok (p + 16 + 8 + (8 + length row)) = offset_in whole p part 24 (p + 16 + 8) (8 + length row) h (omega arith) (omega arith) (omega arith) refl in
    let first : From whole (p + 16 + 4 + 12) (row ++ (metadata ++ after)) = From_at whole p (p + 16 + 4 + 12) 32 part (row ++ (metadata ++ after)) h (omega arith) (omega arith) (append_assoc row metadata after) in
    let second : From whole (p + 16 + 4 + 12 + length row) (metadata ++ after) = From_next whole (p + 16 + 4 + 12) row (metadata ++ after) first in
    let there : p + 16 + 8 + (8 + length row) ≡ p + 16 + 4 + 12 + length row = omega arith in
    let start : ℕ = left - 8 - (4 + n * 4) in
    let few : count_all s.fields ≤ 2 ^ 62 = omega (arith, fields_count 64 s.fields 0, table_vector_is_long 24 (each_bytes 64 0 s.fields)) in
    let r = table_vector_is_read 24 (each_bytes 64 0 s.fields) whole (p + 16 + 4 + 12) (left - 8) (metadata ++ after) first small (omega arith) in
    let r' = tables_are_read (spec_field_at 64) 24 (each_bytes 64 0 s.fields) s.fields (progress start no_dictionaries) (progress (start - total (field_cost 64) s.fields) (types_after_all 64 0 s.fields no_dictionaries)) whole (p + 16 + 4 + 12) (metadata ++ after) (fields_round_trip s.fields fits.form fits.fields few start (omega arith)) first small in
    let rest : ℕ = left - 8 - (4 + n * 4) - total (field_cost 64) s.fields in
    let m : spec_metadata_at whole (Some (p + 16 + 4 + 12 + length row)) rest ≡ Ok (s.metadata, rest - entries_cost s.metadata) = metadata_round_trips s.metadata whole (p + 16 + 4 + 12 + length row) rest after fits.texts fits.rising second small (omega arith) in
    let spent : rest - entries_cost s.metadata ≡ left - (8 + row_cost s + entries_cost s.metadata) = omega arith in
    rw (at, v, f0, f1, o1, r, r', f2, o2, there, m, spent) refl

-- the part round-trips at any position
pub table_round_trips : (s : SchemaModel) → SchemaFits s → ReadsBackAs spec_schema_at 16 (part_of s) (with_dictionary_ids s) (schema_cost s)
table_round_trips s fits = record {
  law = λ whole p q left after h small at le. keyed_again s whole p q left after fits h small at le;
  long = omega (arith, part_long s);
}

-- the message round-trips, and the bytes after it are left
module _ (s : SchemaModel) (fits : SchemaFits s) where
  abbrev metadata : List ℕ
  metadata = root_bytes kinds.Schema 0 16 (part_of s)

  message_is : (rest : List ℕ) → metadata_size (schema_message s) < 2 ^ 31 → message_at (message_bytes kinds.Schema 0 16 (part_of s) ++ rest) ≡ Ok (Some (written_parts kinds.Schema 16 (part_of s) []), rest)
  unfolding schema_message
  message_is rest small =
      let framed : length (message_bytes kinds.Schema 0 16 (part_of s)) ≡ length (framed_bytes metadata) = unfold message_bytes in refl in
      message_round_trips kinds.Schema 16 (part_of s) [] rest (omega arith) (omega arith) small

  table_is_read : metadata_size (schema_message s) < 2 ^ 31 → spec_schema_at (padded metadata) 64 (64 * length (padded metadata) - 8) ≡ Ok (with_dictionary_ids s, 64 * length (padded metadata) - 8 - schema_cost s)
  unfolding schema_message
  table_is_read small =
      let whole : List ℕ = padded metadata in
      let framed : length (message_bytes kinds.Schema 0 16 (part_of s)) ≡ length (framed_bytes metadata) = unfold message_bytes in refl in
      let short : length whole < 2 ^ 31 = omega (arith, framed, framed_long metadata, padding_long (length metadata), padded_long metadata) in
      let h : From whole 48 (part_of s ++ padding (length metadata)) = written_part kinds.Schema 0 16 (part_of s) in
      let enough : schema_cost s ≤ 64 * length whole - 8 = omega (arith, schema_pays s fits, root_long kinds.Schema 0 16 (part_of s), padded_long metadata) in
      keyed_again s whole 48 64 (64 * length whole - 8) (padding (length metadata)) fits h (omega arith) (omega arith) enough

pub stored_round_trips : (s : SchemaModel) (rest : List ℕ) → SchemaFits s → metadata_size (schema_message s) < 2 ^ 31 → stored_schema_of_stream (schema_message s ++ rest) ≡ Ok (with_dictionary_ids s, rest)
unfolding stored_schema_of_stream schema_message
stored_round_trips s rest fits small = rw (message_is s fits rest small, table_is_read s fits small) refl

pub stream_round_trips : (s : SchemaModel) (rest : List ℕ) → SchemaFits s → metadata_size (schema_message s) < 2 ^ 31 → stream_schema_at (schema_message s ++ rest) ≡ Ok (with_dictionary_ids s, rest)
unfolding stream_schema_at
stream_round_trips s rest fits small = rw (stored_round_trips s rest fits small, fields_same s.fields (fields_as_stored s.fields fits.form)) refl
