-- Worked examples: the root table of a message, and the first error where several fields are wrong (Message.fbs: table Message).
use Rattle.std.specs.Prelude.{◌≡◌, ℕ, List, [], ◌∷◌, Ok, Err, refl}
use Rattle.ipc_flatbuf.specs.declared.error.IpcReadError.TheVariants.{ApparentSize, BodyLength, Flatbuffer, HeaderType, Truncated, Version}
use Rattle.ipc_flatbuf.specs.Flatbuffers.{spec_offset_at, spec_back_from, spec_table_at, spec_field_position, spec_charge_budget, spec_read_table}
use Rattle.ipc_flatbuf.specs.Messages.{root_at, spec_first_bytes, spec_message_of_size}
use Rattle.ipc_flatbuf.specs.declared.message.types.MessageKind.TheVariants.{RecordBatch}
use Rattle.ipc_flatbuf.specs.declared.message.types.MessageRoot.{MessageRoot}
use Rattle.ipc_flatbuf.specs.declared.message.types.MetadataVersion as versions
use Rattle.ipc_flatbuf.specs.declared.message.types.MetadataVersion.TheVariants.{V4, V5}

-- the metadata: where the table has its version and its header, 0 where they are absent; the version, the kind of the header, and a byte of the length of the body
abbrev pub root_bytes : ℕ → ℕ → ℕ → ℕ → ℕ → List ℕ
root_bytes at_version at_header version kind sign =
    16 ∷ 0 ∷ 0 ∷ 0 ∷ 12 ∷ 0 ∷ 20 ∷ 0 ∷ at_version ∷ 0 ∷ 6 ∷ 0 ∷ at_header ∷ 0 ∷ 12 ∷ 0 ∷ 12 ∷ 0 ∷ 0 ∷ 0 ∷ version ∷ 0 ∷ kind ∷ 0 ∷ 4 ∷ 0 ∷ 0 ∷ 0 ∷ sign ∷ sign ∷ sign ∷ sign ∷ sign ∷ sign ∷ sign ∷ sign ∷ []

abbrev pub root_of : versions.MetadataVersion → ℕ → MessageRoot
root_of version header = record { version = version; kind = RecordBatch; header = header; left = 2296; body_length = 0 }

pub version_5 : root_at (root_bytes 4 8 4 3 0) ≡ Ok (root_of V5 28)
unfolding spec_offset_at spec_back_from spec_table_at spec_field_position spec_charge_budget spec_read_table root_at
version_5 = refl

pub version_4 : root_at (root_bytes 4 8 3 3 0) ≡ Ok (root_of V4 28)
unfolding spec_offset_at spec_back_from spec_table_at spec_field_position spec_charge_budget spec_read_table root_at
version_4 = refl

-- version 3, a header of no kind, and -1 as the length of the body
pub version_3 : root_at (root_bytes 4 8 2 9 255) ≡ Err Version
unfolding spec_offset_at spec_back_from spec_table_at spec_field_position spec_charge_budget spec_read_table root_at
version_3 = refl

-- an absent version is version 1
pub no_version : root_at (root_bytes 0 8 4 3 0) ≡ Err Version
unfolding spec_offset_at spec_back_from spec_table_at spec_field_position spec_charge_budget spec_read_table root_at
no_version = refl

-- a tensor, and -1 as the length of the body
pub tensor : root_at (root_bytes 4 8 4 4 255) ≡ Err HeaderType
unfolding spec_offset_at spec_back_from spec_table_at spec_field_position spec_charge_budget spec_read_table root_at
tensor = refl

-- no header, and -1 as the length of the body
pub no_header : root_at (root_bytes 4 0 4 3 255) ≡ Err HeaderType
unfolding spec_offset_at spec_back_from spec_table_at spec_field_position spec_charge_budget spec_read_table root_at
no_header = refl

pub negative_body : root_at (root_bytes 4 8 4 3 255) ≡ Err BodyLength
unfolding spec_offset_at spec_back_from spec_table_at spec_field_position spec_charge_budget spec_read_table root_at
negative_body = refl

-- the metadata is one byte short, which is found before its errors
pub short_metadata : spec_message_of_size 37 (root_bytes 4 8 2 3 0) ≡ Err Truncated
unfolding spec_first_bytes spec_message_of_size
short_metadata = refl

-- the table, and its vtable behind it
abbrev pub later_vtable : List ℕ
later_vtable =
    4 ∷ 0 ∷ 0 ∷ 0 ∷ 236 ∷ 255 ∷ 255 ∷ 255 ∷ 4 ∷ 0 ∷ 3 ∷ 0 ∷ 4 ∷ 0 ∷ 0 ∷ 0 ∷ 0 ∷ 0 ∷ 0 ∷ 0 ∷ 0 ∷ 0 ∷ 0 ∷ 0 ∷ 12 ∷ 0 ∷ 20 ∷ 0 ∷ 4 ∷ 0 ∷ 6 ∷ 0 ∷ 8 ∷ 0 ∷ 12 ∷ 0 ∷ []

pub later : root_at later_vtable ≡ Ok (root_of V5 16)
unfolding spec_offset_at spec_back_from spec_table_at spec_field_position spec_charge_budget spec_read_table root_at
later = refl

-- the table begins one byte past the metadata
pub table_outside : root_at (5 ∷ 0 ∷ 0 ∷ 0 ∷ []) ≡ Err Flatbuffer
unfolding spec_offset_at spec_table_at spec_read_table root_at
table_outside = refl

-- a table takes 8 bytes of the budget
pub no_budget : spec_read_table later_vtable 4 7 ≡ Err ApparentSize
unfolding spec_back_from spec_table_at spec_charge_budget spec_read_table
no_budget = refl
