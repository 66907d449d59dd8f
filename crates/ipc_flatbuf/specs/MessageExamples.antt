-- Worked examples: messages without the continuation indicator, as they were written before version 0.15 of the format.
use Rattle.std.specs.Prelude.{◌≡◌, ℕ, List, [], ◌∷◌, ◌++◌, None, Some, Ok, Err, refl}
use Rattle.ipc_flatbuf.specs.declared.error.IpcReadError.TheVariants.{MetadataLength, Truncated}
use Rattle.ipc_flatbuf.specs.Flatbuffers.{spec_offset_at, spec_back_from, spec_table_at, spec_field_position, spec_charge_budget, spec_read_table}
use Rattle.ipc_flatbuf.specs.Messages.{MessageModel, root_at, spec_first_bytes, spec_after_continuation, spec_message_of_size, spec_sized_message, message_at}
use Rattle.ipc_flatbuf.specs.declared.message.types.MessageKind.TheVariants.{Schema}
use Rattle.ipc_flatbuf.specs.declared.message.types.MetadataVersion.TheVariants.{V5}

-- the metadata of a schema message of another writer, for one field of 32-bit integers
abbrev pub legacy_metadata : List ℕ
legacy_metadata =
    16 ∷ 0 ∷ 0 ∷ 0 ∷ 0 ∷ 0 ∷ 10 ∷ 0 ∷ 12 ∷ 0 ∷ 6 ∷ 0 ∷ 5 ∷ 0 ∷ 8 ∷ 0 ∷ 10 ∷ 0 ∷ 0 ∷ 0 ∷ 0 ∷ 1 ∷ 4 ∷ 0 ∷ 12 ∷ 0 ∷ 0 ∷ 0 ∷ 8 ∷ 0 ∷ 8 ∷ 0 ∷ 0 ∷ 0 ∷ 4 ∷ 0 ∷ 8 ∷ 0 ∷ 0 ∷ 0 ∷ 4 ∷ 0 ∷ 0 ∷ 0 ∷ 1 ∷ 0 ∷ 0 ∷ 0 ∷ 20 ∷ 0 ∷ 0 ∷ 0 ∷ 16 ∷ 0 ∷ 20 ∷ 0 ∷ 8 ∷ 0 ∷ 6 ∷ 0 ∷ 7 ∷ 0 ∷ 12 ∷ 0 ∷ 0 ∷ 0 ∷ 16 ∷ 0 ∷ 16 ∷ 0 ∷ 0 ∷ 0 ∷ 0 ∷ 0 ∷ 1 ∷ 2 ∷ 16 ∷ 0 ∷ 0 ∷ 0 ∷ 28 ∷ 0 ∷ 0 ∷ 0 ∷ 4 ∷ 0 ∷ 0 ∷ 0 ∷ 0 ∷ 0 ∷ 0 ∷ 0 ∷ 1 ∷ 0 ∷ 0 ∷ 0 ∷ 97 ∷ 0 ∷ 0 ∷ 0 ∷ 8 ∷ 0 ∷ 12 ∷ 0 ∷ 8 ∷ 0 ∷ 7 ∷ 0 ∷ 8 ∷ 0 ∷ 0 ∷ 0 ∷ 0 ∷ 0 ∷ 0 ∷ 1 ∷ 32 ∷ 0 ∷ 0 ∷ 0 ∷ 0 ∷ 0 ∷ 0 ∷ 0 ∷ []

-- the message: the length of the metadata, 124, and the metadata
abbrev pub legacy_schema : List ℕ
legacy_schema = 124 ∷ 0 ∷ 0 ∷ 0 ∷ legacy_metadata

abbrev pub legacy_schema_of : MessageModel
legacy_schema_of = record { root = record { version = V5; kind = Schema; header = 36; left = 7928; body_length = 0 }; metadata = legacy_metadata; body = [] }

-- the end-of-stream marker: 0 as the length
abbrev pub legacy_end_of_stream : List ℕ
legacy_end_of_stream = 0 ∷ 0 ∷ 0 ∷ 0 ∷ []

pub schema_parts : message_at (legacy_schema ++ legacy_end_of_stream) ≡ Ok (Some legacy_schema_of, legacy_end_of_stream)
unfolding spec_offset_at spec_back_from spec_table_at spec_field_position spec_charge_budget spec_read_table root_at spec_first_bytes spec_after_continuation spec_message_of_size spec_sized_message message_at
schema_parts = refl

pub end_parts : message_at legacy_end_of_stream ≡ Ok (None, [])
unfolding spec_first_bytes spec_after_continuation spec_sized_message message_at
end_parts = refl

-- -2 as the length, without the continuation indicator and with it
pub negative_without : message_at (254 ∷ 255 ∷ 255 ∷ 255 ∷ []) ≡ Err MetadataLength
unfolding spec_first_bytes spec_after_continuation spec_sized_message message_at
negative_without = refl

pub negative_with : message_at (255 ∷ 255 ∷ 255 ∷ 255 ∷ 254 ∷ 255 ∷ 255 ∷ 255 ∷ []) ≡ Err MetadataLength
unfolding spec_first_bytes spec_after_continuation spec_sized_message message_at
negative_with = refl

-- text is no message: its first 4 letters are a length
pub text_fails : message_at (105 ∷ 100 ∷ 44 ∷ 110 ∷ 10 ∷ []) ≡ Err Truncated
unfolding spec_first_bytes spec_after_continuation spec_message_of_size spec_sized_message message_at
text_fails = refl
