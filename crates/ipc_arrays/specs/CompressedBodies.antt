-- The body of compressed buffers, laid out as a body without compression.
use Rattle.std.specs.Prelude.{◌≡◌, ℕ, ◌+◌, Bool, List, [], ◌∷◌, Ok, if◌then◌else◌}
use Rattle.ipc_flatbuf.specs.declared.compression.codec.CompressionCodec.{CompressionCodec}
use Rattle.ipc_arrays.specs.CompressedBuffers.{decompressed}
use Rattle.ipc_arrays.specs.BodyBuffers.{body_of, buffer_specs}
use Rattle.ipc_arrays.specs.PlainBodies.{is_needed_at, spec_plain_body}

-- each buffer decodes to the content at its index
abbrev pub AreDecodedTo : CompressionCodec → List (List ℕ) → List (List ℕ) → Type 0
AreDecodedTo codec [] [] = Unit {0}
AreDecodedTo codec [] (content ∷ contents) = ⊥
AreDecodedTo codec (buffer ∷ buffers) [] = ⊥
AreDecodedTo codec (buffer ∷ buffers) (content ∷ contents) = (decompressed codec buffer ≡ Ok content) × AreDecodedTo codec buffers contents

-- the contents from index i on; those that are not needed are empty
unfoldable pub needed_contents : List Bool → ℕ → List (List ℕ) → List (List ℕ)
needed_contents needed i [] = []
needed_contents needed i (content ∷ contents) = (if is_needed_at needed i then content else []) ∷ needed_contents needed (i + 1) contents

-- where the buffers decode to these contents, their plain body is the body of the contents that are needed
abbrev pub ReadsAsContents : CompressionCodec → List (List ℕ) → List (List ℕ) → List Bool → Type 0
ReadsAsContents codec buffers contents needed =
    AreDecodedTo codec buffers contents
    → spec_plain_body codec (body_of buffers) (buffer_specs 0 buffers) needed ≡ Ok (buffer_specs 0 (needed_contents needed 0 contents), body_of (needed_contents needed 0 contents))
