-- A worked example of a compressed body: an empty buffer, and one whose frame is not shorter.
use Rattle.std.specs.Prelude.{ℕ, pos, List, [], ◌∷◌, refl}
use Rattle.std.proofs.Common.{inl, inr}
use Rattle.ipc_flatbuf.specs.declared.batch.parts.BufferSpec.{BufferSpec}
use Rattle.ipc_arrays.specs.BodyBuffers.{padded, body_of, buffer_specs}
use Rattle.ipc_arrays.specs.CompressedBuffers.{spec_next_size, content_of, decompressed}
use Rattle.ipc_arrays.specs.WrittenBuffers.{after_length}
use Rattle.ipc.specs.CompressedBodies.{CompressesBody}

abbrev pub worked_contents : List (List ℕ)
worked_contents = [] ∷ (97 ∷ 98 ∷ 99 ∷ []) ∷ []

-- 11 bytes: a length of -1 and the buffer itself; the padding is not counted
abbrev pub worked_buffers : List BufferSpec
worked_buffers = record { offset = pos 0; length = pos 0 } ∷ record { offset = pos 0; length = pos 11 } ∷ []

abbrev pub worked_body : List ℕ
worked_body = 255 ∷ 255 ∷ 255 ∷ 255 ∷ 255 ∷ 255 ∷ 255 ∷ 255 ∷ 97 ∷ 98 ∷ 99 ∷ 0 ∷ 0 ∷ 0 ∷ 0 ∷ 0 ∷ []

pub example_body : CompressesBody worked_contents worked_buffers worked_body
unfolding decompressed spec_next_size content_of after_length buffer_specs body_of padded
example_body = record {
  buffers = [] ∷ (255 ∷ 255 ∷ 255 ∷ 255 ∷ 255 ∷ 255 ∷ 255 ∷ 255 ∷ 97 ∷ 98 ∷ 99 ∷ []) ∷ [];
  written = (record { decodes = refl; shape = inl (refl, refl) }, (record { decodes = refl; shape = inr (inr refl) }, tt));
  specs_are = refl;
  body_is = refl;
}
