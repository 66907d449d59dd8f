-- Numbers that are read as signed.
use Rattle.std.proofs.Common.{ℕ, Result, Ok}
use Rattle.std.specs.Prelude.{ℤ}
use Rattle.std.specs.Int.{w64, cast_signed}
use Rattle.ipc_flatbuf.specs.ReadResults.{◌>>=◌}
use Rattle.ipc_flatbuf.specs.declared.error.IpcReadError.{IpcReadError}

abbrev pub signed_is : Result ℕ IpcReadError → Result ℤ IpcReadError
signed_is read = read >>= λ n. Ok (cast_signed w64 n)
