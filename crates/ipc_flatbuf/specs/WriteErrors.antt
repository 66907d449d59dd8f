-- The errors of writing a part of a flatbuffer.
use Rattle.std.specs.Prelude.{◌≡◌, ℕ, ◌^◌, ◌≤◌, ◌⊎◌}
use Rattle.std.proofs.Common.{inl, inr, arith}
use Rattle.ipc_flatbuf.specs.declared.error.IpcWriteError.{IpcWriteError}
use Rattle.ipc_flatbuf.specs.declared.error.IpcWriteError.TheVariants.{Memory, Size}

-- Memory, or Size where the part has 2^31 bytes or more
abbrev pub IsSizeError : IpcWriteError → ℕ → Type 0
IsSizeError why long = (why ≡ Memory) ⊎ ((why ≡ Size) × (2 ^ 31 ≤ long))

-- an error of a part is an error of what contains it
pub size_error_of_whole : (why : IpcWriteError) (part whole : ℕ) → part ≤ whole → IsSizeError why part → IsSizeError why whole
size_error_of_whole why part whole le (inl memory) = inl memory
size_error_of_whole why part whole le (inr (size, long)) = inr (size, omega arith)
