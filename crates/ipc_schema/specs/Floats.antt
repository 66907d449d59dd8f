-- The precision of floating-point types by its number (Schema.fbs, enum Precision).
use Rattle.std.specs.Prelude.{ℕ, Result, Ok, Err, ◌==◌, if◌then◌else◌}
use Rattle.ipc_flatbuf.specs.declared.error.IpcReadError.{IpcReadError}
use Rattle.ipc_flatbuf.specs.declared.error.IpcReadError.TheVariants.{TypeRange}
use Rattle.nest_memory.specs.declared.datatypes.floats.Precision.{Precision}
use Rattle.nest_memory.specs.declared.datatypes.floats.Precision.TheVariants.{Half, Single, Double}

abbrev pub spec_precision_number : Precision → ℕ
spec_precision_number Half = 0
spec_precision_number Single = 1
spec_precision_number Double = 2

abbrev pub spec_numbered_precision : ℕ → Result Precision IpcReadError
spec_numbered_precision n = if n == 0 then Ok Half else (if n == 1 then Ok Single else (if n == 2 then Ok Double else Err TypeRange))
