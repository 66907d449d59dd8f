-- Errors of the IPC crates as errors of the program.
use Rattle.ipc_io.specs.declared.error.ReadError as reads
use Rattle.ipc_io.specs.declared.error.ReadError.TheVariants as read
use Rattle.ipc_io.specs.declared.error.WriteError as writes
use Rattle.ipc_io.specs.declared.error.WriteError.TheVariants as write
use Rattle.cli_rows.specs.declared.error.CliError.{CliError}
use Rattle.cli_rows.specs.declared.error.CliError.TheVariants.{Input, Read, Write, Output}

abbrev pub read_error : reads.ReadError → CliError
read_error (read.Ipc error) = Read error
read_error (read.Io e) = Input

abbrev pub write_error : writes.WriteError → CliError
write_error (write.Ipc error) = Write error
write_error (write.Io e) = Output
write_error write.Failed = Output
