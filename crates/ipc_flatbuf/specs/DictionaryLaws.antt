-- Dictionary batches round-trip.
use Rattle.std.proofs.Common.{◌≡◌, ℕ, ◌+◌, ◌-◌, ◌*◌, ◌^◌, ◌<◌, ◌≤◌, List, ◌++◌, length, Some, Ok, refl, sym, subst, arith}
use Rattle.std.specs.Prelude.{Bool, ℤ, pos}
use Rattle.std.specs.Int.{w8, w64}
use Rattle.std.specs.Int.RustNames.{FitsSigned}
use Rattle.ipc_flatbuf.specs.Flatbuffers.{number_at, signed_at, spec_offset_at, field, spec_field_position, spec_offset_field, spec_read_table}
use Rattle.ipc_flatbuf.specs.PartBytes.{i64_bytes}
use Rattle.ipc_flatbuf.specs.FlatbufferLaws.{From, number_in}
use Rattle.ipc_flatbuf.specs.TemplateLaws.{From_at, i64_in, offset_in, table_in, visit_in, field_in}
use Rattle.ipc_flatbuf.specs.declared.tables.FlatbufferTable.{FlatbufferTable}
use Rattle.ipc_flatbuf.specs.Messages.{MessageModel, message_at}
use Rattle.ipc_flatbuf.specs.MessageBytes.{root_bytes, message_bytes, metadata_size, framed_bytes, padding}
use Rattle.ipc_flatbuf.specs.MessageLaws.{padded, padded_long, padding_long, framed_long, root_long, written_parts, message_round_trips, written_part}
use Rattle.ipc_flatbuf.specs.declared.message.types.MessageKind.TheVariants.{DictionaryBatch}
use Rattle.ipc_flatbuf.specs.declared.message.types.MetadataVersion.TheVariants.{V5}
use Rattle.ipc_flatbuf.specs.Batches.{BatchModel, spec_all_within, batch_at}
use Rattle.ipc_flatbuf.specs.BatchBytes.{batch_part_bytes}
use Rattle.ipc_flatbuf.specs.BatchLaws.{BatchFits, least_head, batch_long, batch_part_round_trips}
use Rattle.ipc_flatbuf.specs.DictionaryBytes.{delta_byte, dictionary_part_head, dictionary_part_bytes, dictionary_message}

pub dictionary_long : (delta : Bool) (id : ℤ) (b : BatchModel) → length (dictionary_part_bytes delta id b) ≡ 32 + length (batch_part_bytes b)
unfolding dictionary_part_bytes dictionary_part_head i64_bytes
dictionary_long delta id b = omega arith

-- the metadata of the message is at least as long as the part of its batch
pub dictionary_part_is_shorter : (delta : Bool) (id : ℤ) (b : BatchModel) (body : ℕ) → length (batch_part_bytes b) ≤ metadata_size (dictionary_message delta id b body)
unfolding dictionary_message
dictionary_part_is_shorter delta id b body =
    let part : List ℕ = dictionary_part_bytes delta id b in
    let metadata : List ℕ = root_bytes DictionaryBatch body 12 part in
    let framed : length (message_bytes DictionaryBatch body 12 part) ≡ length (framed_bytes metadata) = unfold message_bytes in refl in
    omega (arith, framed, framed_long metadata, root_long DictionaryBatch body 12 part, dictionary_long delta id b)

-- ---- the fields of the table, at any position

id_again : (delta : Bool) (id : ℤ) (b : BatchModel) (whole : List ℕ) (p : ℕ) (after : List ℕ) → FitsSigned w64 id → From whole p (dictionary_part_bytes delta id b ++ after) → field (signed_at w64 whole) (pos 0) whole (table_in p 12 10) 0 ≡ Ok id
unfolding dictionary_part_bytes dictionary_part_head i64_bytes
id_again delta id b whole p after fits h =
    let part : List ℕ = dictionary_part_bytes delta id b ++ after in
    let position : spec_field_position whole (table_in p 12 10) 0 ≡ Ok (Some (p + 12 + 12)) = field_in whole p part 12 10 0 12 h (omega arith) (omega arith) (omega arith) refl in
    let number : signed_at w64 whole (p + 12 + 12) ≡ Ok id = i64_in whole p part 24 (p + 12 + 12) id h (omega arith) (omega arith) fits refl in
    rw (position, number) refl

place_again : (delta : Bool) (id : ℤ) (b : BatchModel) (whole : List ℕ) (p : ℕ) (after : List ℕ) → From whole p (dictionary_part_bytes delta id b ++ after) → spec_offset_field whole (table_in p 12 10) 1 ≡ Ok (Some (p + 48))
unfolding dictionary_part_bytes dictionary_part_head i64_bytes
place_again delta id b whole p after h =
    let part : List ℕ = dictionary_part_bytes delta id b ++ after in
    let position : spec_field_position whole (table_in p 12 10) 1 ≡ Ok (Some (p + 12 + 4)) = field_in whole p part 12 10 1 4 h (omega arith) (omega arith) (omega arith) refl in
    let to : spec_offset_at whole (p + 12 + 4) ≡ Ok (p + 12 + 4 + 32) = offset_in whole p part 16 (p + 12 + 4) 32 h (omega arith) (omega arith) (omega arith) refl in
    let there : p + 12 + 4 + 32 ≡ p + 48 = omega arith in
    rw (position, to, there) refl

delta_again : (delta : Bool) (id : ℤ) (b : BatchModel) (whole : List ℕ) (p : ℕ) (after : List ℕ) → From whole p (dictionary_part_bytes delta id b ++ after) → field (number_at w8 whole) 0 whole (table_in p 12 10) 2 ≡ Ok (delta_byte delta)
unfolding dictionary_part_bytes dictionary_part_head i64_bytes
delta_again delta id b whole p after h =
    let part : List ℕ = dictionary_part_bytes delta id b ++ after in
    let position : spec_field_position whole (table_in p 12 10) 2 ≡ Ok (Some (p + 12 + 8)) = field_in whole p part 12 10 2 8 h (omega arith) (omega arith) (omega arith) refl in
    let flag : number_at w8 whole (p + 12 + 8) ≡ Ok (delta_byte delta) = number_in w8 whole p part 20 (p + 12 + 8) h (omega arith) (omega arith) in
    rw (position, flag) refl

visited_again : (delta : Bool) (id : ℤ) (b : BatchModel) (whole : List ℕ) (p left : ℕ) (after : List ℕ) → From whole p (dictionary_part_bytes delta id b ++ after) → 8 ≤ left → spec_read_table whole (p + 12) left ≡ Ok (table_in p 12 10, left - 8)
unfolding dictionary_part_bytes dictionary_part_head i64_bytes
visited_again delta id b whole p left after h le = visit_in whole p (dictionary_part_bytes delta id b ++ after) 12 10 left h (omega arith) (omega arith) (omega arith) (omega arith) refl refl refl le

-- the part of the record batch
behind_head : (delta : Bool) (id : ℤ) (b : BatchModel) (whole : List ℕ) (p : ℕ) (after : List ℕ) → From whole p (dictionary_part_bytes delta id b ++ after) → From whole (p + 32) (batch_part_bytes b ++ after)
unfolding dictionary_part_bytes dictionary_part_head i64_bytes
behind_head delta id b whole p after h = From_at whole p (p + 32) 32 (dictionary_part_bytes delta id b ++ after) (batch_part_bytes b ++ after) h (omega arith) refl refl

-- ---- the message

-- the message is read as a dictionary batch with its body, whatever follows; each field of its table has the value that was written
pub record DictionaryRoundTrips (delta : Bool) (id : ℤ) (b : BatchModel) (message body : List ℕ) : Type 0 where
  pub parts : MessageModel
  pub table : FlatbufferTable
  pub left : ℕ
  pub position : ℕ
  pub again : (rest : List ℕ) → message_at (message ++ (body ++ rest)) ≡ Ok (Some parts, rest)
  pub kind : parts.root.kind ≡ DictionaryBatch
  pub version : parts.root.version ≡ V5
  pub long : 8 + length parts.metadata ≡ length message
  pub same_body : parts.body ≡ body
  pub visited : spec_read_table parts.metadata parts.root.header parts.root.left ≡ Ok (table, left)
  pub same_id : field (signed_at w64 parts.metadata) (pos 0) parts.metadata table 0 ≡ Ok id
  pub batch_place : spec_offset_field parts.metadata table 1 ≡ Ok (Some position)
  pub same_delta : field (number_at w8 parts.metadata) 0 parts.metadata table 2 ≡ Ok (delta_byte delta)
  pub same_batch : batch_at parts.metadata position left parts.root.body_length ≡ Ok b

pub dictionary_round_trips : (delta : Bool) (id : ℤ) (b : BatchModel) (body : List ℕ) → FitsSigned w64 id → BatchFits b → length body < 2 ^ 63 → spec_all_within (length body) b.buffers ≡ Ok tt → metadata_size (dictionary_message delta id b (length body)) < 2 ^ 31
    → DictionaryRoundTrips delta id b (dictionary_message delta id b (length body)) body
unfolding dictionary_message
dictionary_round_trips delta id b body named fits short inside small =
    let part : List ℕ = dictionary_part_bytes delta id b in
    let metadata : List ℕ = root_bytes DictionaryBatch (length body) 12 part in
    let whole : List ℕ = padded metadata in
    let after : List ℕ = padding (length metadata) in
    let left : ℕ = 64 * length whole - 8 in
    let framed : length (message_bytes DictionaryBatch (length body) 12 part) ≡ length (framed_bytes metadata) = unfold message_bytes in refl in
    let few : length whole < 2 ^ 31 = omega (arith, framed, framed_long metadata, padding_long (length metadata), padded_long metadata) in
    let h : From whole 48 (part ++ after) = written_part DictionaryBatch (length body) 12 part in
    let enough : 128 + 16 * length b.nodes + 16 * length b.buffers ≤ length whole = omega (arith, least_head b.compression, batch_long b, dictionary_long delta id b, root_long DictionaryBatch (length body) 12 part, padded_long metadata) in
    record {
      parts = written_parts DictionaryBatch 12 part body;
      table = table_in 48 12 10;
      left = left - 8;
      position = 96;
      again = λ rest. message_round_trips DictionaryBatch 12 part body rest short (omega arith) small;
      kind = refl;
      version = refl;
      long = omega (arith, framed, framed_long metadata, padding_long (length metadata), padded_long metadata);
      same_body = refl;
      visited = visited_again delta id b whole 48 left after h (omega arith);
      same_id = id_again delta id b whole 48 after named h;
      batch_place = place_again delta id b whole 48 after h;
      same_delta = delta_again delta id b whole 48 after h;
      same_batch = batch_part_round_trips b whole 80 96 (left - 8) (length body) after fits inside (behind_head delta id b whole 48 after h) refl (omega arith) (omega arith);
    }

-- for each body of that length which contains all buffers
abbrev pub DictionaryRoundTripsWithBodies : Bool → ℤ → BatchModel → ℕ → Type 0
DictionaryRoundTripsWithBodies delta id b long = (body : List ℕ) → length body ≡ long → spec_all_within long b.buffers ≡ Ok tt → metadata_size (dictionary_message delta id b long) < 2 ^ 31 → DictionaryRoundTrips delta id b (dictionary_message delta id b long) body

pub dictionary_round_trips_with_bodies : (delta : Bool) (id : ℤ) (b : BatchModel) (long : ℕ) → FitsSigned w64 id → BatchFits b → long < 2 ^ 63 → DictionaryRoundTripsWithBodies delta id b long
dictionary_round_trips_with_bodies delta id b long named fits short = λ body e inside small.
    subst (λ (n : ℕ). DictionaryRoundTrips delta id b (dictionary_message delta id b n) body) e
    (dictionary_round_trips delta id b body named fits (omega (arith, e, short)) (subst (λ (n : ℕ). spec_all_within n b.buffers ≡ Ok tt) (sym e) inside) (subst (λ (n : ℕ). metadata_size (dictionary_message delta id b n) < 2 ^ 31) (sym e) small))
