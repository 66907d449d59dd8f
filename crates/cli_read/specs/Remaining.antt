-- The remaining record batches of an input.
use Rattle.std.specs.Prelude.{◌≡◌, ◌+◌, ℕ, List, [], take, Option, Some, None, Result, Ok}
use Rattle.ipc_flatbuf.specs.ReadResults.{FailsOrRunsOut}
use Rattle.ipc_flatbuf.specs.declared.error.IpcReadError as formats
use Rattle.ipc_schema.specs.Schemas.{SchemaModel}
use Rattle.ipc_schema.specs.declared.footer.types.Block.{Block}
use Rattle.ipc.specs.Streams.{RecordBatchTree, StateTree}
use Rattle.ipc.specs.SliceStreamReaders.{SliceStreamReaderTree, batches_of, before}
use Rattle.ipc.specs.Files.{batches_at}
use Rattle.cli_read.specs.Decoded.{Decoded, first_of_stream, table_with}
use Rattle.cli_rows.specs.declared.error.CliError.{CliError}
use Rattle.cli_rows.specs.declared.error.CliError.TheVariants.{Input, Read, Write, MismatchedColumns, IndexOutOfRange, Condition, UnknownName, Output, Memory}

-- the first of them, so many at most, and all
pub record Remaining : Type 0 where
  pub first : ℕ → Result (List RecordBatchTree) formats.IpcReadError
  pub whole : Result (List RecordBatchTree) formats.IpcReadError

abbrev pub remaining_in_stream : SliceStreamReaderTree → Remaining
remaining_in_stream r = record { first = λ k. first_of_stream k r; whole = batches_of r }

abbrev pub remaining_in_file : StateTree → List Block → List ℕ → Remaining
remaining_in_file s blocks bytes = record { first = λ k. batches_at s bytes (take k blocks); whole = batches_at s bytes blocks }

-- as a table of a schema
abbrev pub with_schema : SchemaModel → Remaining → Decoded
with_schema s l = record { first = λ k. table_with s (l.first k); whole = table_with s l.whole }

-- without a record batch nothing is decoded
abbrev pub StartsEmpty : Option Remaining → Type 0
StartsEmpty None = Unit {0}
StartsEmpty (Some l) = l.first 0 ≡ Ok []

-- a record batch was read, or there is none
abbrev pub Advances : Remaining → Remaining → Option RecordBatchTree → Type 0
Advances old new None = old.whole ≡ Ok []
Advances old new (Some b) = (new.first 0 ≡ Ok []) × ((k : ℕ) → old.first (k + 1) ≡ before (Some b) (new.first k)) × (old.whole ≡ before (Some b) new.whole)

-- the same if the bytes are known
abbrev pub ReturnsNext : Option Remaining → Option Remaining → Option RecordBatchTree → Type 0
ReturnsNext None new batch = Unit {0}
ReturnsNext (Some old) None batch = ⊥
ReturnsNext (Some old) (Some new) batch = Advances old new batch

-- reading failed, or it is the first error of the bytes
abbrev pub IsReadErrorOf : {Y : Type 0} → CliError → Result Y formats.IpcReadError → Type 0
IsReadErrorOf (Read error) read = FailsOrRunsOut error read
IsReadErrorOf Input read = Unit {0}
IsReadErrorOf Memory read = ⊥
IsReadErrorOf (Write why) read = ⊥
IsReadErrorOf MismatchedColumns read = ⊥
IsReadErrorOf IndexOutOfRange read = ⊥
IsReadErrorOf (Condition error) read = ⊥
IsReadErrorOf (UnknownName i) read = ⊥
IsReadErrorOf Output read = ⊥

abbrev pub FailsToReadNext : CliError → Option Remaining → Type 0
FailsToReadNext error None = Unit {0}
FailsToReadNext error (Some old) = IsReadErrorOf error (old.first 1)

-- the input was opened, and decodes to the schema and the remaining record batches
abbrev pub IsOpened : Option Decoded → SchemaModel → Option Remaining → Type 0
IsOpened None s left = Unit {0}
IsOpened (Some spelled) s None = ⊥
IsOpened (Some spelled) s (Some l) = spelled ≡ with_schema s l

-- or this is why not
abbrev pub FailsToOpen : CliError → Option Decoded → Type 0
FailsToOpen error None = Unit {0}
FailsToOpen error (Some spelled) = IsReadErrorOf error (spelled.first 0)
