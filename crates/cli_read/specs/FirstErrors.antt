-- The first record batches of an input, read without an error.
use Rattle.std.specs.Prelude.{◌⊎◌, ◌<◌, ℕ, IsOk, Option, Some, None}
use Rattle.cli_rows.specs.declared.error.BatchError.{BatchError}
use Rattle.cli_read.specs.Decoded.{Decoded}

-- so many record batches decode, or there are fewer and all decode
abbrev pub ReadsFirst : ℕ → Option Decoded → Type 0
ReadsFirst count None = Unit {0}
ReadsFirst count (Some s) = IsOk (s.first count) ⊎ IsOk s.whole

-- the error is before any record batch, or in one of so many
abbrev pub IsAmong : ℕ → Option ℕ → Type 0
IsAmong count None = Unit {0}
IsAmong count (Some k) = k < count

abbrev pub IsInFirst : ℕ → BatchError → Type 0
IsInFirst count error = IsAmong count error.batch
