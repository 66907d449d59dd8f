-- Inputs with given record batches, complete or followed by an error.
use Rattle.std.specs.Prelude.{ℕ, nat_lt, length, take, Ok, Err, if◌then◌else◌}
use Rattle.ipc_flatbuf.specs.declared.error.IpcReadError.{IpcReadError}
use Rattle.cli_read.specs.Decoded.{Decoded}
use Rattle.cli_rows.specs.Tables.{TableTree}

-- the first record batches of a table, so many at most
abbrev pub first_batches : TableTree → ℕ → TableTree
first_batches h k = record { schema = h.schema; batches = take k h.batches }

abbrev pub complete_input : TableTree → Decoded
complete_input h = record { first = λ k. Ok (first_batches h k); whole = Ok h }

abbrev pub broken_input : TableTree → IpcReadError → Decoded
broken_input h error = record { first = λ k. if nat_lt (length h.batches) k then Err error else Ok (first_batches h k); whole = Err error }

-- an input whose schema is not decoded
abbrev pub unreadable_input : IpcReadError → Decoded
unreadable_input error = record { first = λ k. Err error; whole = Err error }
