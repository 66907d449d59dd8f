-- Errors of inputs that are concatenated.
use Rattle.std.specs.Prelude.{ℕ, Some}
use Rattle.ipc_flatbuf.specs.declared.error.IpcReadError.TheVariants.{Truncated}
use Rattle.cli_rows.specs.declared.error.CliError.TheVariants.{Read}
use Rattle.cli_write.specs.declared.concat.AppendError.{AppendError}
use Rattle.cli_write.specs.declared.concat.AppendError.TheVariants.{Batch}

-- the record batch at this index is truncated
abbrev pub truncated_batch : ℕ → AppendError
truncated_batch k = Batch (record { batch = Some k; error = Read Truncated })
