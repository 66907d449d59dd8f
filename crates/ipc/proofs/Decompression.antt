-- Errors of decompression as errors of reading, and flags of buffers.
use Rattle.std.proofs.Common.{◌≡◌, ℕ, ◌+◌, ◌<◌, Bool, true, List, [], ◌∷◌, ◌++◌, length, take, get_or, Result, Err, sym, ap, ◌∙◌}
use Rattle.std.specs.Prelude.{pos}
use Rattle.std.proofs.lemmas.List.{map-append, take_more}
use Rattle.ipc_flatbuf.specs.declared.batch.parts.BufferSpec.{BufferSpec}
use Rattle.ipc_flatbuf.specs.declared.error.IpcReadError.{IpcReadError}
use Rattle.ipc_flatbuf.specs.declared.compression.error.CompressionError.{CompressionError}
use Rattle.ipc_flatbuf.specs.ReadResults.{FailsOrRunsOut}
use Rattle.ipc_flatbuf.specs.Compression.{read_error_of}
use Rattle.ipc_arrays.specs.CompressionResults as decoding
use Rattle.ipc_arrays.specs.Stored.{with_read_error}
use Rattle.ipc.specs.PlainBuffers.{all_needed}

-- an error other than Memory is not read as Memory
pub read_fails : {A : Type 0} (e : CompressionError) (f : IpcReadError) (read : Result A CompressionError) → f ≡ read_error_of e → decoding.FailsOrRunsOut e read → FailsOrRunsOut f (with_read_error read)
read_fails {A} e f read is h = λ known. ap with_read_error (h (λ memory. known (is ∙ ap read_error_of memory))) ∙ ap (λ (g : IpcReadError). Err g) (sym is)

-- one more flag
pub needed_more : (buffers : List BufferSpec) (i : ℕ) (old new : List Bool) → i < length buffers → new ≡ old ++ true ∷ [] → old ≡ all_needed (take i buffers) → new ≡ all_needed (take (i + 1) buffers)
needed_more buffers i old new within pushed so_far =
    let none : BufferSpec = record { offset = pos 0; length = pos 0 } in
    pushed ∙ ap (λ (flags : List Bool). flags ++ true ∷ []) so_far ∙ sym (ap all_needed (take_more buffers i none within) ∙ map-append (λ (buffer : BufferSpec). true) (take i buffers) (get_or buffers i none ∷ []))
