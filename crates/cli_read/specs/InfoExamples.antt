-- Batches of an input: two rows without compression, a dictionary of five values by LZ4, and a delta of one value by LZ4 in a message of version 4.
use Rattle.std.specs.Prelude.{List, [], ◌∷◌, Some, None}
use Rattle.ipc_flatbuf.specs.declared.compression.codec.CompressionCodec.TheVariants.{Lz4Frame}
use Rattle.ipc_flatbuf.specs.declared.message.types.MetadataVersion.TheVariants.{V4, V5}
use Rattle.ipc_io.specs.declared.batch_info.BatchInfo.{BatchInfo}
use Rattle.ipc_io.specs.declared.batch_info.BatchKind.TheVariants.{Records, Dictionary, Delta}

abbrev pub two_rows : BatchInfo
two_rows = record { version = V5; kind = Records; rows = 2; compression = None }

abbrev pub five_values : BatchInfo
five_values = record { version = V5; kind = Dictionary; rows = 5; compression = Some Lz4Frame }

abbrev pub one_value : BatchInfo
one_value = record { version = V4; kind = Delta; rows = 1; compression = Some Lz4Frame }

abbrev pub three_batches : List BatchInfo
three_batches = five_values ∷ two_rows ∷ one_value ∷ []
