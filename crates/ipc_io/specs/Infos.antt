-- What the metadata of a stream or a file says, in the order of reading. No body of a message is read.
use Rattle.std.specs.Prelude.{◌≡◌, ℕ, zero, suc, ◌&&◌, ◌==◌, ⊤, List, [], ◌∷◌, ◌++◌, length, unsigned_abs, Option, None, Some, Result, Ok, Err}
use Rattle.ipc_flatbuf.specs.ReadResults.{◌>>=◌, FailsOrRunsOut, check}
use Rattle.ipc_flatbuf.specs.declared.error.IpcReadError as read_errors
use Rattle.ipc_flatbuf.specs.declared.error.IpcReadError.TheVariants.{Block as BlockError, Memory}
use Rattle.ipc_flatbuf.specs.Messages.{MessageModel, message_at, root_at}
use Rattle.ipc_flatbuf.specs.declared.message.types.MessageKind.{MessageKind}
use Rattle.ipc_flatbuf.specs.declared.message.types.MessageKind.TheVariants.{DictionaryBatch, RecordBatch}
use Rattle.ipc_schema.specs.Projections.{ProjectionModel, at}
use Rattle.ipc_schema.specs.ProjectedFooters.{projected_footer_in}
use Rattle.ipc_schema.specs.ProjectedSchemas.{stream_projected_schema_at}
use Rattle.ipc_schema.specs.declared.footer.types.Block.{Block}
use Rattle.ipc_io.specs.BatchInfos.{info_as, message_info, record_batches}
use Rattle.ipc_io.specs.FileMetadata.{block_front, metadata_at}
use Rattle.ipc_io.specs.declared.batch_info.BatchInfo.{BatchInfo}
use Rattle.ipc_io.specs.declared.error.ReadError.{ReadError}
use Rattle.ipc_io.specs.declared.error.ReadError.TheVariants.{Ipc, Io}
use Rattle.ipc_io.specs.declared.info.InfoError.{InfoError}
use Rattle.ipc_io.specs.declared.info.IpcInfo.{IpcInfo}

-- ---- lists of batches

-- the batches up to the end or the first error, and that error
pub record InfoList : Type 0 where
  pub read : List BatchInfo
  pub error : Option read_errors.IpcReadError

abbrev pub complete : List BatchInfo → InfoList
complete infos = record { read = infos; error = None }

abbrev pub broken : List BatchInfo → read_errors.IpcReadError → InfoList
broken infos error = record { read = infos; error = Some error }

-- batches before a list
abbrev pub prefixed : List BatchInfo → InfoList → InfoList
prefixed infos others = record { read = infos ++ others.read; error = others.error }

-- a batch before a list, which is not read if the batch has an error
abbrev pub preceded : Result BatchInfo read_errors.IpcReadError → InfoList → InfoList
preceded (Ok info) others = prefixed (info ∷ []) others
preceded (Err error) others = broken [] error

abbrev pub joined_by : List BatchInfo → Option read_errors.IpcReadError → InfoList → InfoList
joined_by infos None others = prefixed infos others
joined_by infos (Some error) others = broken infos error

-- a list after another, which is not read if the first has an error
abbrev pub joined : InfoList → InfoList → InfoList
joined first others = joined_by first.read first.error others

-- ---- streams

abbrev pub infos_of_next : (List ℕ → InfoList) → Option MessageModel → List ℕ → InfoList
infos_of_next others None behind = complete []
infos_of_next others (Some m) behind = preceded (message_info m) (others behind)

abbrev pub infos_by : (List ℕ → InfoList) → Result (Option MessageModel × List ℕ) read_errors.IpcReadError → InfoList
infos_by others (Ok next) = infos_of_next others next.0 next.1
infos_by others (Err error) = broken [] error

-- of at most this many messages
unfoldable pub infos_within : ℕ → List ℕ → InfoList
infos_within zero bytes = complete []
infos_within (suc most) bytes = infos_by (infos_within most) (message_at bytes)

-- the batches of the messages up to the end of the stream; each message has at least one byte
abbrev pub infos_in : List ℕ → InfoList
infos_in bytes = infos_within (suc (length bytes)) bytes

-- ---- files

-- the batch in the metadata of a block, which it fills up to the body
unfoldable pub info_in_metadata : MessageKind → Block → List ℕ → List ℕ → Result BatchInfo read_errors.IpcReadError
info_in_metadata wanted b metadata behind = do
  root ← root_at metadata
  fills ← check (length behind == 0 && root.body_length == unsigned_abs b.body_length) BlockError
  info_as wanted root metadata

-- the same from the bytes of the block before the body
abbrev pub info_in_front : MessageKind → Block → List ℕ → Result BatchInfo read_errors.IpcReadError
info_in_front wanted b front = metadata_at front >>= λ x. info_in_metadata wanted b x.0 x.1

abbrev pub block_info_in : MessageKind → List ℕ → Block → Result BatchInfo read_errors.IpcReadError
block_info_in wanted bytes b = info_in_front wanted b (block_front bytes b)

-- the batches of these blocks, whose messages must be of a kind
unfoldable pub block_infos_in : MessageKind → List Block → List ℕ → InfoList
block_infos_in wanted [] bytes = complete []
block_infos_in wanted (b ∷ bs) bytes = preceded (block_info_in wanted bytes b) (block_infos_in wanted bs bytes)

-- the dictionary batches of a file, then its record batches
abbrev pub file_infos_in : List Block → List Block → List ℕ → InfoList
file_infos_in dictionaries batches bytes = joined (block_infos_in DictionaryBatch dictionaries bytes) (block_infos_in RecordBatch batches bytes)

-- ---- streams and files with their schemas

-- no column is read, so a column may be of any type
abbrev pub no_column : ProjectionModel
no_column = at []

-- the number of columns of a schema, and the batches
pub record InfoTree : Type 0 where
  pub columns : ℕ
  pub batches : InfoList

abbrev pub stream_info_in : List ℕ → Result InfoTree read_errors.IpcReadError
stream_info_in bytes = stream_projected_schema_at no_column bytes >>= λ first. Ok (record { columns = length first.0.steps; batches = infos_in first.1 })

abbrev pub file_info_in : List ℕ → Result InfoTree read_errors.IpcReadError
file_info_in bytes = projected_footer_in no_column bytes >>= λ f. Ok (record { columns = length f.picked.steps; batches = file_infos_in f.dictionaries f.batches bytes })

-- ---- what was read

-- one more batch was read, or the end was reached; or this is the first error
abbrev pub ReadsInfo : Option InfoList → Option InfoList → Result (Option BatchInfo) ReadError → Type 0
ReadsInfo None new result = Unit {0}
ReadsInfo (Some old) None (Ok next) = ⊥
ReadsInfo (Some old) (Some new) (Ok None) = old ≡ complete []
ReadsInfo (Some old) (Some new) (Ok (Some info)) = old ≡ prefixed (info ∷ []) new
ReadsInfo (Some old) new (Err (Ipc error)) = (error ≡ Memory → ⊥) → old ≡ broken [] error
ReadsInfo (Some old) new (Err (Io e)) = Unit {0}

-- these are all batches of a list; or those before this first error
abbrev pub ReadsInfos : Option InfoList → List BatchInfo → Result ⊤ ReadError → Type 0
ReadsInfos None infos result = Unit {0}
ReadsInfos (Some whole) infos (Ok done) = whole ≡ complete infos
ReadsInfos (Some whole) infos (Err (Ipc error)) = (error ≡ Memory → ⊥) → whole ≡ broken infos error
ReadsInfos (Some whole) infos (Err (Io e)) = Unit {0}

-- the value of an IpcInfo
abbrev pub info_tree : IpcInfo → InfoTree
info_tree info = record { columns = info.columns; batches = complete info.batches.items }

-- the batches have this first error, after this many record batches
abbrev pub HasErrorAfter : ℕ → read_errors.IpcReadError → Result InfoTree read_errors.IpcReadError → Type 0
HasErrorAfter k error (Ok info) = (info.batches.error ≡ Some error) × (k ≡ record_batches info.batches.read)
HasErrorAfter k error (Err e) = ⊥

-- an error in the schema or the footer, or in a record batch or a dictionary batch before it
abbrev pub IsFirstError : Result InfoTree read_errors.IpcReadError → Option ℕ → ReadError → Type 0
IsFirstError decoded None (Ipc error) = FailsOrRunsOut error decoded
IsFirstError decoded (Some k) (Ipc error) = (error ≡ Memory → ⊥) → HasErrorAfter k error decoded
IsFirstError decoded batch (Io e) = Unit {0}

-- the info is what was decoded, or the error is the first
abbrev pub ReturnsDecoded : Result InfoTree read_errors.IpcReadError → Result IpcInfo InfoError → Type 0
ReturnsDecoded decoded (Ok info) = decoded ≡ Ok (info_tree info)
ReturnsDecoded decoded (Err stop) = IsFirstError decoded stop.batch stop.error

-- the same of the bytes of a reader, if they are known
abbrev pub ReturnsInfo : (List ℕ → Result InfoTree read_errors.IpcReadError) → Option (List ℕ) → Result IpcInfo InfoError → Type 0
ReturnsInfo decoded None result = Unit {0}
ReturnsInfo decoded (Some bytes) result = ReturnsDecoded (decoded bytes) result
