-- Slots that are read one after the other.
use Rattle.std.specs.Prelude.{ℕ, zero, suc, List, [], ◌∷◌, ◌++◌, Result, Ok}
use Rattle.ipc_flatbuf.specs.ReadResults.{◌>>=◌}
use Rattle.ipc_flatbuf.specs.declared.error.IpcReadError.{IpcReadError}

-- what a function returns for each slot below `slots`, or its error for the first slot that has one
abbrev pub each_slot : {A : Type 0} → (ℕ → Result A IpcReadError) → ℕ → Result (List A) IpcReadError
each_slot f zero = Ok []
each_slot f (suc n) = each_slot f n >>= λ xs. f n >>= λ x. Ok (xs ++ x ∷ [])
