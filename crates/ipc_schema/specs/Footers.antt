-- The parts of a file footer, the blocks of a file, and the ends of a file (Columnar format, IPC File Format; File.fbs:
-- table Footer, struct Block).
use Rattle.std.specs.Prelude.{ℕ, ◌+◌, ◌-◌, ℤ, pos, negsuc, nat_eq, Bool, false, ◌&&◌, List, map, sum, length, take, drop, codes, Option, Some, None, Result, Ok, Err, nat_le, unsigned_abs}
use Rattle.std.specs.Int.{w32, w64, from_le_bytes, cast_signed}
use Rattle.std.specs.List.{list_all, starts_with, ends_with}
use Rattle.ipc_flatbuf.specs.ReadResults.{◌>>=◌, check}
use Rattle.ipc_flatbuf.specs.declared.error.IpcReadError.{IpcReadError}
use Rattle.ipc_flatbuf.specs.declared.error.IpcReadError.TheVariants.{Version, Truncated, Magic, FooterLength, MissingSchema}
use Rattle.ipc_flatbuf.specs.Flatbuffers.{spec_non_negative, signed_at, spec_offset_field, vector_at}
use Rattle.ipc_flatbuf.specs.declared.tables.FlatbufferTable.{FlatbufferTable}
use Rattle.ipc_schema.specs.Schemas.{SchemaModel, schema_of}
use Rattle.ipc_schema.specs.declared.schema.Schema.{Schema}
use Rattle.ipc_schema.specs.declared.footer.types.Block.{Block}

-- ---- parts of the footer

-- a footer to be written
pub record FooterModel : Type 0 where
  pub schema : SchemaModel
  pub dictionaries : List Block
  pub batches : List Block

-- the footer of a Rust Schema
abbrev pub footer_with : Schema → List Block → List Block → FooterModel
footer_with schema dictionaries batches = record { schema = schema_of schema; dictionaries = dictionaries; batches = batches }

-- struct Block, with 4 bytes of padding after metaDataLength
abbrev pub spec_block_at : List ℕ → ℕ → Result Block IpcReadError
spec_block_at bytes position = do
  offset ← signed_at w64 bytes position
  metadata ← signed_at w32 bytes (position + 8)
  body ← signed_at w64 bytes (position + 16)
  Ok (record { offset = offset; metadata_length = metadata; body_length = body })

-- versions V1 to V5, V1 where it is absent (Schema.fbs, enum MetadataVersion); the version of each message decides
abbrev pub spec_check_footer_version : ℤ → Result (Unit {0}) IpcReadError
spec_check_footer_version number = spec_non_negative Version number >>= λ n. check (nat_le n 4) Version

abbrev pub spec_schema_position : Option ℕ → Result ℕ IpcReadError
spec_schema_position None = Err MissingSchema
spec_schema_position (Some position) = Ok position

-- the blocks in a field of the table Footer
unfoldable pub spec_blocks_in : List ℕ → FlatbufferTable → ℕ → ℕ → Result (List Block × ℕ) IpcReadError
spec_blocks_in bytes table id left = do
  to ← spec_offset_field bytes table id
  vector_at (spec_block_at bytes) 24 bytes to left

-- the blocks of the dictionary batches and of the record batches
unfoldable pub spec_block_lists_at : List ℕ → FlatbufferTable → ℕ → Result (List Block × List Block) IpcReadError
spec_block_lists_at bytes table left = do
  dictionaries ← spec_blocks_in bytes table 2 left
  batches ← spec_blocks_in bytes table 3 dictionaries.1
  Ok (dictionaries.0, batches.0)

-- ---- blocks

-- whether a message begins after the first 8 bytes of the file and ends, with its body, before a position
abbrev pub is_before : ℕ → ℤ → ℤ → ℤ → Bool
is_before end (pos offset) (pos metadata) (pos body) = nat_le 8 offset && nat_le 8 metadata && nat_le (offset + metadata + body) end
is_before end (pos offset) (pos metadata) (negsuc body) = false
is_before end (pos offset) (negsuc metadata) body = false
is_before end (negsuc offset) metadata body = false

abbrev pub is_block_before : ℕ → Block → Bool
is_block_before end b = is_before end b.offset b.metadata_length b.body_length

-- the length of a message with its body
abbrev pub spec_block_length : Block → ℕ
spec_block_length b = unsigned_abs b.metadata_length + unsigned_abs b.body_length

-- whether each block ends before a position, and their total length does not exceed it, so that overlapping blocks need
-- no more memory than the file
abbrev pub spec_blocks_before : ℕ → List Block → Bool
spec_blocks_before end blocks = list_all (is_block_before end) blocks && nat_le (sum (map spec_block_length blocks)) end

-- the bytes of the message of a block with its body
abbrev pub spec_block_bytes : List ℕ → Block → List ℕ
spec_block_bytes bytes b = take (spec_block_length b) (drop (unsigned_abs b.offset) bytes)

-- ---- the file

-- the magic ARROW1 of a file
abbrev pub magic : List ℕ
magic = codes "ARROW1"

abbrev pub has_magic : List ℕ → Bool
has_magic bytes = starts_with nat_eq bytes magic && ends_with nat_eq bytes magic

-- a file has 18 bytes or more, and begins and ends with the magic
abbrev pub check_ends : List ℕ → Result (Unit {0}) IpcReadError
check_ends bytes = do
  long ← check (nat_le 18 (length bytes)) Truncated
  check (has_magic bytes) Magic

-- the length of the footer, which is between the footer and the magic; 8 bytes or more precede the footer
abbrev pub footer_length : List ℕ → Result ℕ IpcReadError
footer_length bytes = do
  long ← spec_non_negative FooterLength (cast_signed w32 (from_le_bytes w32 (drop (length bytes - 10) bytes)))
  within ← check (nat_le 1 long && nat_le (18 + long) (length bytes)) FooterLength
  Ok long

-- the position of a footer of long bytes
abbrev pub footer_position : ℕ → List ℕ → ℕ
footer_position long bytes = length bytes - (10 + long)
