-- The result of decoding: a value, or the first error in the order of the buffers and of their bytes.
use Rattle.std.specs.Prelude.{◌≡◌, Bool, true, false, Result, Ok, Err}
use Rattle.ipc_flatbuf.specs.declared.compression.error.CompressionError.{CompressionError}
use Rattle.ipc_flatbuf.specs.declared.compression.error.CompressionError.TheVariants.{Memory}

-- continues after a success
infixl 10 ◌>>=◌
abbrev pub ◌>>=◌ : {A B : Type 0} → Result A CompressionError → (A → Result B CompressionError) → Result B CompressionError
(Ok x) >>= f = f x
(Err e) >>= f = Err e

-- the error where a condition is false
abbrev pub check : Bool → CompressionError → Result (Unit {0}) CompressionError
check true error = Ok tt
check false error = Err error

-- a result of a codec, with an error of this crate
abbrev pub with_error : {A E : Type 0} → (E → CompressionError) → Result A E → Result A CompressionError
with_error error_of (Ok x) = Ok x
with_error error_of (Err e) = Err (error_of e)

-- the code returned this error: it is the specified one, or Memory
abbrev pub FailsOrRunsOut : {Y : Type 0} → CompressionError → Result Y CompressionError → Type 0
FailsOrRunsOut error read = (error ≡ Memory → ⊥) → read ≡ Err error

-- the code returned the specified result, its value seen through view; an allocation can fail instead
abbrev pub ReturnsOrRunsOut : {X Y : Type 0} → (X → Y) → Result X CompressionError → Result Y CompressionError → Type 0
ReturnsOrRunsOut view (Ok x) read = read ≡ Ok (view x)
ReturnsOrRunsOut view (Err error) read = FailsOrRunsOut error read

-- the code returned the specified result, its value seen through view; it does not allocate
abbrev pub Returns : {X Y : Type 0} → (X → Y) → Result X CompressionError → Result Y CompressionError → Type 0
Returns view (Ok x) read = read ≡ Ok (view x)
Returns view (Err error) read = read ≡ Err error
