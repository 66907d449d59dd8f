-- Messages round-trip.
use Rattle.std.proofs.Common.{Bool, true, false, leb, eqb, ◌≡◌, ℕ, ◌+◌, ◌-◌, ◌*◌, ◌%◌, ◌^◌, ◌<◌, ◌≤◌, List, [], ◌∷◌, ◌++◌, length, drop, Option, Some, None, Result, Ok, Err, refl, sym, ◌∙◌, append_assoc, arith}
use Rattle.std.specs.Prelude.{pos, ◌==◌, if◌then◌else◌}
use Rattle.std.specs.Int.{w8, w16, w32, w64, from_le_bytes, cast_signed}
use Rattle.std.proofs.lemmas.Bool.{le-leb, ne_eqb}
use Rattle.std.proofs.lemmas.Bool.Decides.{Decides-eqb}
use Rattle.std.proofs.lemmas.Nat.{from_le_bytes-to_le_bytes_4}
use Rattle.std.proofs.lemmas.List.{length-append, length-take, take_at, drop_at}
use Rattle.std.proofs.lemmas.Int.{ints}
use Rattle.ipc_flatbuf.specs.ReadResults.{◌>>=◌}
use Rattle.ipc_flatbuf.specs.declared.error.IpcReadError.{IpcReadError}
use Rattle.ipc_flatbuf.specs.declared.error.IpcReadError.TheVariants.{Truncated, MetadataLength}
use Rattle.ipc_flatbuf.specs.Flatbuffers.{spec_non_negative, number_at, signed_at, spec_offset_at, spec_field_position, spec_read_table}
use Rattle.ipc_flatbuf.specs.PartBytes.{u32_bytes, i64_bytes}
use Rattle.ipc_flatbuf.specs.FlatbufferLaws.{From, From-length, number_in}
use Rattle.ipc_flatbuf.specs.TemplateLaws.{From_at, i16_in, i64_in, offset_in, table_in, visit_in, field_in}
use Rattle.ipc_flatbuf.specs.declared.message.types.MessageKind.{MessageKind}
use Rattle.ipc_flatbuf.specs.declared.message.types.MessageKind.TheVariants.{Schema, DictionaryBatch, RecordBatch}
use Rattle.ipc_flatbuf.specs.declared.message.types.MetadataVersion.TheVariants.{V5}
use Rattle.ipc_flatbuf.specs.declared.message.types.MessageRoot.{MessageRoot}
use Rattle.ipc_flatbuf.specs.Messages.{MessageModel, root_at, spec_kind_of, spec_first_bytes, spec_after_continuation, spec_sized_message, spec_message_of_size, message_at}
use Rattle.ipc_flatbuf.specs.MessageBytes.{header_tag, root_bytes, padding, framed_bytes, metadata_size, end_of_stream, message_bytes}

kind_round_trips : (kind : MessageKind) → spec_kind_of (header_tag kind) ≡ Ok kind
kind_round_trips Schema = refl
kind_round_trips DictionaryBatch = refl
kind_round_trips RecordBatch = refl

-- the root table of metadata of size bytes
abbrev pub root_of : MessageKind → ℕ → ℕ → ℕ → MessageRoot
root_of kind body_length head size = record { version = V5; kind = kind; header = 48 + head; left = 64 * size - 8; body_length = body_length }

-- the root round-trips, whatever follows it
pub root_round_trips : (kind : MessageKind) (body_length head : ℕ) (part whole after : List ℕ) → body_length < 2 ^ 63 → head < 2 ^ 31 → From whole 0 (root_bytes kind body_length head part ++ after) → length whole < 2 ^ 32 → root_at whole ≡ Ok (root_of kind body_length head (length whole))
unfolding root_at root_bytes u32_bytes i64_bytes
root_round_trips kind body_length head part whole after fits near h small =
    let all : List ℕ = root_bytes kind body_length head part ++ after in
    let long : 48 ≤ length all = omega arith in
    let ends = From-length whole 0 all h in
    let left : ℕ = 64 * length whole in
    let root : spec_offset_at whole 0 ≡ Ok 24 = offset_in whole 0 all 0 0 24 h (omega arith) refl (omega arith) refl in
    let inner : List ℕ = drop 8 all in
    let here : From whole 8 inner = From_at whole 0 8 8 all inner h (omega arith) refl refl in
    let v : spec_read_table whole 24 left ≡ Ok (table_in 8 16 12, left - 8) = visit_in whole 8 inner 16 12 left here (omega arith) (omega arith) (omega arith) (omega arith) refl refl refl (omega arith) in
    let f0 : spec_field_position whole (table_in 8 16 12) 0 ≡ Ok (Some 40) = field_in whole 8 inner 16 12 0 16 here (omega arith) (omega arith) (omega arith) refl in
    let f1 : spec_field_position whole (table_in 8 16 12) 1 ≡ Ok (Some 42) = field_in whole 8 inner 16 12 1 18 here (omega arith) (omega arith) (omega arith) refl in
    let f2 : spec_field_position whole (table_in 8 16 12) 2 ≡ Ok (Some 28) = field_in whole 8 inner 16 12 2 4 here (omega arith) (omega arith) (omega arith) refl in
    let f3 : spec_field_position whole (table_in 8 16 12) 3 ≡ Ok (Some 32) = field_in whole 8 inner 16 12 3 8 here (omega arith) (omega arith) (omega arith) refl in
    let version : signed_at w16 whole 40 ≡ Ok (pos 4) = i16_in whole 0 all 40 40 (pos 4) h (omega arith) refl (omega (arith, ints)) refl in
    let tag : number_at w8 whole 42 ≡ Ok (header_tag kind) = number_in w8 whole 0 all 42 42 h (omega arith) refl in
    let to : spec_offset_at whole 28 ≡ Ok (28 + (20 + head)) = offset_in whole 0 all 28 28 (20 + head) h (omega arith) refl (omega arith) refl in
    let header : 28 + (20 + head) ≡ 48 + head = omega arith in
    let body : signed_at w64 whole 32 ≡ Ok (pos body_length) = i64_in whole 0 all 32 32 (pos body_length) h (omega arith) refl (omega (arith, ints)) refl in
    rw (root, v, f0, version, f1, tag, kind_round_trips kind, f2, to, f3, body, header) refl

-- the part that follows the root
pub part_follows_root : (kind : MessageKind) (body_length head : ℕ) (part whole after : List ℕ) → From whole 0 (root_bytes kind body_length head part ++ after) → From whole 48 (part ++ after)
unfolding root_bytes u32_bytes i64_bytes
part_follows_root kind body_length head part whole after h =
    From_at whole 0 48 48 (root_bytes kind body_length head part ++ after) (part ++ after) h (omega arith) refl refl

pub root_long : (kind : MessageKind) (body_length head : ℕ) (part : List ℕ) → length (root_bytes kind body_length head part) ≡ 48 + length part
unfolding root_bytes u32_bytes i64_bytes
root_long kind body_length head part = omega arith

-- ---- in a stream

pub padding_long : (n : ℕ) → length (padding n) ≡ (8 - n % 8) % 8
padding_long n = omega (arith, length-take {A = ℕ} ((8 - n % 8) % 8) (0 ∷ 0 ∷ 0 ∷ 0 ∷ 0 ∷ 0 ∷ 0 ∷ 0 ∷ []))

pub framed_long : (metadata : List ℕ) → length (framed_bytes metadata) ≡ 8 + length metadata + (8 - length metadata % 8) % 8
unfolding framed_bytes u32_bytes
framed_long metadata = omega (arith, padding_long (length metadata), length-append metadata (padding (length metadata)))

front_is : (first rest : List ℕ) → spec_first_bytes (length first) (first ++ rest) ≡ Ok (first, rest)
unfolding spec_first_bytes
front_is first rest =
    let fits : leb (length first) (length (first ++ rest)) ≡ true = le-leb _ _ (omega (arith, length-append first rest)) in
    rw (fits, take_at first rest (length first) refl, drop_at first rest (length first) refl) refl

-- metadata with its padding
abbrev pub padded : List ℕ → List ℕ
padded metadata = metadata ++ padding (length metadata)

-- the message that is written
abbrev pub written_parts : MessageKind → ℕ → List ℕ → List ℕ → MessageModel
written_parts kind head part body =
    let metadata = padded (root_bytes kind (length body) head part) in
    record { root = root_of kind (length body) head (length metadata); metadata = metadata; body = body }

pub padded_long : (metadata : List ℕ) → length (padded metadata) ≡ length metadata + length (padding (length metadata))
padded_long metadata = length-append metadata (padding (length metadata))

mark_is : (bytes : List ℕ) → spec_after_continuation ((255 ∷ 255 ∷ 255 ∷ 255 ∷ []) ++ bytes) ≡ Ok bytes
unfolding spec_after_continuation
mark_is bytes = rw (front_is (255 ∷ 255 ∷ 255 ∷ 255 ∷ []) bytes) refl

sized_is : (n : ℕ) (bytes : List ℕ) (parts : MessageModel × List ℕ) → 0 < n → n < 2 ^ 31 → spec_message_of_size n bytes ≡ Ok parts → spec_sized_message (u32_bytes n ++ bytes) ≡ Ok (Some parts.0, parts.1)
unfolding spec_sized_message
sized_is n bytes parts some small is =
    let first : spec_first_bytes 4 (u32_bytes n ++ bytes) ≡ Ok (u32_bytes n, bytes) = unfold u32_bytes in front_is (u32_bytes n) bytes in
    let number : from_le_bytes w32 (u32_bytes n) ≡ n = unfold u32_bytes in from_le_bytes-to_le_bytes_4 n (omega arith) in
    let signed : cast_signed w32 n ≡ pos n = omega (arith, ints) in
    let not_zero : eqb n 0 ≡ false = grind arith in
    rw (first, number, signed, not_zero, is) refl

parts_is : (n : ℕ) (metadata body rest : List ℕ) (root : MessageRoot) → n ≡ length metadata → root_at metadata ≡ Ok root → root.body_length ≡ length body → spec_message_of_size n (metadata ++ (body ++ rest)) ≡ Ok (record { root = root; metadata = metadata; body = body }, rest)
unfolding spec_message_of_size
parts_is n metadata body rest root size is long = rw (size, front_is metadata (body ++ rest), is, long, front_is body rest) refl

-- encapsulated metadata with a valid root is read, with the body that follows it
pub framed_round_trips : (metadata body rest : List ℕ) (root : MessageRoot) → 0 < length metadata → metadata_size (framed_bytes metadata) < 2 ^ 31 → root_at (padded metadata) ≡ Ok root → root.body_length ≡ length body
    → message_at (framed_bytes metadata ++ (body ++ rest)) ≡ Ok (Some (record { root = root; metadata = padded metadata; body = body }), rest)
unfolding message_at framed_bytes
framed_round_trips metadata body rest root some small is long =
    let n : ℕ = length metadata + length (padding (length metadata)) in
    let behind : List ℕ = padded metadata ++ (body ++ rest) in
    let few : n < 2 ^ 31 = omega (arith, framed_long metadata, padding_long (length metadata)) in
    let parts : spec_message_of_size n behind ≡ Ok (record { root = root; metadata = padded metadata; body = body }, rest) = parts_is n (padded metadata) body rest root (sym (padded_long metadata)) is long in
    let sized = sized_is n behind (record { root = root; metadata = padded metadata; body = body }, rest) (omega arith) few parts in
    let regrouped : (u32_bytes n ++ padded metadata) ++ (body ++ rest) ≡ u32_bytes n ++ behind = append_assoc (u32_bytes n) (padded metadata) (body ++ rest) in
    let all : List ℕ = (255 ∷ 255 ∷ 255 ∷ 255 ∷ []) ++ (u32_bytes n ++ behind) in
    let some_bytes : eqb (length all) 0 ≡ false = ne_eqb (length all) 0 (λ e. omega (arith, e)) in
    rw (regrouped, some_bytes, mark_is (u32_bytes n ++ behind), sized) refl

-- The continuation indicator is optional: what can be read with it is read alike without it.
abbrev pub ContinuationIsOptional : Type 0
ContinuationIsOptional = (bytes : List ℕ) (next : Option MessageModel × List ℕ) → message_at ((255 ∷ 255 ∷ 255 ∷ 255 ∷ []) ++ bytes) ≡ Ok next → message_at bytes ≡ Ok next

sized_after : (bytes : List ℕ) → message_at ((255 ∷ 255 ∷ 255 ∷ 255 ∷ []) ++ bytes) ≡ spec_sized_message bytes
unfolding message_at
sized_after bytes =
    let all : List ℕ = (255 ∷ 255 ∷ 255 ∷ 255 ∷ []) ++ bytes in
    let some_bytes : eqb (length all) 0 ≡ false = ne_eqb (length all) 0 (λ e. omega (arith, e)) in
    rw (some_bytes, mark_is bytes) refl

abbrev by_length : Result (List ℕ × List ℕ) IpcReadError → Result (Option MessageModel × List ℕ) IpcReadError
by_length read = read >>= λ long. spec_non_negative MetadataLength (cast_signed w32 (from_le_bytes w32 long.0)) >>= λ size. if size == 0 then Ok (None, long.1) else (spec_message_of_size size long.1 >>= λ parts. Ok (Some parts.0, parts.1))

sized_by_length : (bytes : List ℕ) → spec_sized_message bytes ≡ by_length (spec_first_bytes 4 bytes)
unfolding spec_sized_message
sized_by_length bytes = refl

-- as a length the indicator would be -1
without_mark : (bytes : List ℕ) (next : Option MessageModel × List ℕ) (first : Result (List ℕ × List ℕ) IpcReadError) → spec_sized_message bytes ≡ Ok next → by_length first ≡ Ok next
    → ((first >>= λ mark. Ok (if from_le_bytes w32 mark.0 == 4294967295 then mark.1 else bytes)) >>= spec_sized_message) ≡ Ok next
without_mark bytes next (Err error) sized h = cc
without_mark bytes next (Ok word) sized h = marked (from_le_bytes w32 word.0 == 4294967295) refl
  where
    marked : (mark : Bool) → (from_le_bytes w32 word.0 == 4294967295) ≡ mark → spec_sized_message (if mark then word.1 else bytes) ≡ Ok next
    marked false e = sized
    marked true e =
        let negative : by_length (Ok word) ≡ Err MetadataLength = rw ((Decides-eqb (from_le_bytes w32 word.0) 4294967295).0 e) refl in
        cc

sized_alone : (bytes : List ℕ) (next : Option MessageModel × List ℕ) → spec_sized_message bytes ≡ Ok next → message_at bytes ≡ Ok next
unfolding message_at spec_after_continuation
sized_alone [] next sized =
    let short : spec_sized_message [] ≡ Err Truncated = unfold spec_sized_message spec_first_bytes in refl in
    cc
sized_alone (b ∷ bytes) next sized =
    let some_bytes : eqb (length (b ∷ bytes)) 0 ≡ false = ne_eqb (length (b ∷ bytes)) 0 (λ e. omega (arith, e)) in
    rw some_bytes (without_mark (b ∷ bytes) next (spec_first_bytes 4 (b ∷ bytes)) sized (sym (sized_by_length (b ∷ bytes)) ∙ sized))

pub continuation_is_optional : ContinuationIsOptional
continuation_is_optional bytes next h = sized_alone bytes next (sym (sized_after bytes) ∙ h)

-- the end-of-stream marker ends a stream
pub end_of_stream_is_read : (rest : List ℕ) → message_at (end_of_stream ++ rest) ≡ Ok (None, rest)
unfolding message_at spec_sized_message
end_of_stream_is_read rest =
    let bytes : List ℕ = (0 ∷ 0 ∷ 0 ∷ 0 ∷ []) ++ rest in
    let some_bytes : eqb (length (end_of_stream ++ rest)) 0 ≡ false = ne_eqb (length (end_of_stream ++ rest)) 0 (λ e. omega (arith, e)) in
    rw (some_bytes, mark_is bytes, front_is (0 ∷ 0 ∷ 0 ∷ 0 ∷ []) rest) refl

-- ---- what is written

-- a message and its body round-trip, and the bytes after them are left
pub message_round_trips : (kind : MessageKind) (head : ℕ) (part body rest : List ℕ) → length body < 2 ^ 63 → head < 2 ^ 31 → metadata_size (message_bytes kind (length body) head part) < 2 ^ 31
    → message_at (message_bytes kind (length body) head part ++ (body ++ rest)) ≡ Ok (Some (written_parts kind head part body), rest)
unfolding message_bytes
message_round_trips kind head part body rest fits near small =
    let metadata : List ℕ = root_bytes kind (length body) head part in
    let whole : List ℕ = padded metadata in
    let long = root_long kind (length body) head part in
    let root : root_at whole ≡ Ok (root_of kind (length body) head (length whole)) =
    root_round_trips kind (length body) head part whole (padding (length metadata)) fits near (record { is = refl; within = omega arith }) (omega (arith, framed_long metadata, padding_long (length metadata), padded_long metadata)) in
    framed_round_trips metadata body rest (root_of kind (length body) head (length whole)) (omega (arith, long)) small root refl

-- the part is at 48 of the metadata
pub written_part : (kind : MessageKind) (body_length head : ℕ) (part : List ℕ) → From (padded (root_bytes kind body_length head part)) 48 (part ++ padding (length (root_bytes kind body_length head part)))
written_part kind body_length head part =
    part_follows_root kind body_length head part (padded (root_bytes kind body_length head part)) (padding (length (root_bytes kind body_length head part))) (record { is = refl; within = omega arith })
