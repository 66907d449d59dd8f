-- The compressed body of a record batch (Message.fbs: table BodyCompression, method BUFFER).
use Rattle.std.specs.Prelude.{◌≡◌, ℕ, List, ◌++◌, length, Ok}
use Rattle.std.specs.List.{AllZip}
use Rattle.ipc_flatbuf.specs.declared.batch.parts.BufferSpec.{BufferSpec}
use Rattle.ipc_arrays.specs.BodyBuffers.{padded, body_of, buffer_specs}
use Rattle.ipc_arrays.specs.PlainBodies.{buffer_slice, buffer_spec}
use Rattle.ipc_arrays.specs.WrittenBuffers.{IsWrittenBuffer}

-- the bytes of each buffer of a body
abbrev pub AreContents : List ℕ → List BufferSpec → List (List ℕ) → Type 0
AreContents body buffers contents = AllZip (λ buffer content. buffer_slice body buffer.offset buffer.length ≡ Ok content) buffers contents

-- compressed buffers of these contents
abbrev pub AreWrittenBuffers : List (List ℕ) → List (List ℕ) → Type 0
AreWrittenBuffers buffers contents = AllZip IsWrittenBuffer buffers contents

-- new is old with a compressed buffer of this content at its end, padded; spec has its offset, and its length without the padding
pub record AppendsPadded (content old : List ℕ) (spec : BufferSpec) (new : List ℕ) : Type 0 where
  pub buffer : List ℕ
  pub written : IsWrittenBuffer buffer content
  pub spec_is : spec ≡ buffer_spec (length old) buffer
  pub bytes : new ≡ old ++ padded buffer

-- This body has a compressed buffer for each content, one after the other, each padded to a multiple of 8 bytes.
pub record CompressesBody (contents : List (List ℕ)) (specs : List BufferSpec) (body : List ℕ) : Type 0 where
  pub buffers : List (List ℕ)
  pub written : AreWrittenBuffers buffers contents
  pub specs_are : specs ≡ buffer_specs 0 buffers
  pub body_is : body ≡ body_of buffers
