-- The errors of a push.
use Rattle.std.specs.Prelude.{◌≡◌, ◌⊎◌, Option, Some, alloc_error}
use Rattle.nest_memory.specs.declared.error.Error.{Error}
use Rattle.nest_memory.specs.declared.error.Error.TheVariants.{Memory}

-- the error is this refusal, or that of a failed allocation
abbrev pub IsRefusal : Option Error → Error → Type 0
IsRefusal refusal e = (e ≡ Memory alloc_error) ⊎ (refusal ≡ Some e)
