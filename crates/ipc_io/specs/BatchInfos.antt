-- What the metadata of a record batch or a dictionary batch says (Message.fbs, tables Message, RecordBatch and DictionaryBatch).
use Rattle.std.specs.Prelude.{ℕ, List, Result, Ok, Err, nat_lt, if◌then◌else◌}
use Rattle.std.specs.Int.{w8}
use Rattle.std.specs.List.{sum_by}
use Rattle.ipc_flatbuf.specs.ReadResults.{◌>>=◌}
use Rattle.ipc_flatbuf.specs.declared.error.IpcReadError.{IpcReadError}
use Rattle.ipc_flatbuf.specs.declared.error.IpcReadError.TheVariants.{HeaderType}
use Rattle.ipc_flatbuf.specs.Batches.{BatchModel, batch_at}
use Rattle.ipc_flatbuf.specs.Flatbuffers.{number_at, field, spec_offset_field, spec_read_table}
use Rattle.ipc_flatbuf.specs.Messages.{MessageModel}
use Rattle.ipc_flatbuf.specs.declared.message.types.MessageKind.{MessageKind}
use Rattle.ipc_flatbuf.specs.declared.message.types.MessageKind.TheVariants.{Schema, DictionaryBatch, RecordBatch}
use Rattle.ipc_flatbuf.specs.declared.message.types.MessageRoot.{MessageRoot}
use Rattle.ipc.specs.Streams.{spec_data_position}
use Rattle.ipc_io.specs.declared.batch_info.BatchInfo.{BatchInfo}
use Rattle.ipc_io.specs.declared.batch_info.BatchKind.{BatchKind}
use Rattle.ipc_io.specs.declared.batch_info.BatchKind.TheVariants.{Records, Dictionary, Delta}

-- a dictionary batch by its flag isDelta
abbrev pub dictionary_kind : ℕ → BatchKind
dictionary_kind flag = if nat_lt 0 flag then Delta else Dictionary

-- a batch of this kind, by the root table of its message and its own table
abbrev pub info_of : MessageRoot → BatchKind → BatchModel → BatchInfo
info_of root kind batch = record { version = root.version; kind = kind; rows = batch.rows; compression = batch.compression }

-- table RecordBatch
unfoldable pub record_batch_info : MessageRoot → List ℕ → Result BatchInfo IpcReadError
record_batch_info root metadata = batch_at metadata root.header root.left root.body_length >>= λ batch. Ok (info_of root Records batch)

-- table DictionaryBatch
unfoldable pub dictionary_info : MessageRoot → List ℕ → Result BatchInfo IpcReadError
dictionary_info root metadata = do
  table ← spec_read_table metadata root.header root.left
  to ← spec_offset_field metadata table.0 1
  position ← spec_data_position to
  flag ← field (number_at w8 metadata) 0 metadata table.0 2
  batch ← batch_at metadata position table.1 root.body_length
  Ok (info_of root (dictionary_kind flag) batch)

-- ---- messages that must be of a kind

abbrev pub record_batch_by : MessageKind → MessageRoot → List ℕ → Result BatchInfo IpcReadError
record_batch_by Schema root metadata = Err HeaderType
record_batch_by DictionaryBatch root metadata = Err HeaderType
record_batch_by RecordBatch root metadata = record_batch_info root metadata

abbrev pub dictionary_by : MessageKind → MessageRoot → List ℕ → Result BatchInfo IpcReadError
dictionary_by Schema root metadata = Err HeaderType
dictionary_by DictionaryBatch root metadata = dictionary_info root metadata
dictionary_by RecordBatch root metadata = Err HeaderType

abbrev pub info_as : MessageKind → MessageRoot → List ℕ → Result BatchInfo IpcReadError
info_as Schema root metadata = Err HeaderType
info_as DictionaryBatch root metadata = dictionary_by root.kind root metadata
info_as RecordBatch root metadata = record_batch_by root.kind root metadata

-- a message after the schema; a second schema is an error
abbrev pub message_info : MessageModel → Result BatchInfo IpcReadError
message_info m = info_as m.root.kind m.root m.metadata

-- ---- numbers of batches

abbrev pub records_in : BatchKind → ℕ
records_in Records = 1
records_in Dictionary = 0
records_in Delta = 0

abbrev pub record_count : BatchInfo → ℕ
record_count info = records_in info.kind

-- the number of record batches
abbrev pub record_batches : List BatchInfo → ℕ
record_batches infos = sum_by record_count infos
