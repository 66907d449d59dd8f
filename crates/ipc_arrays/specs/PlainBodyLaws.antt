-- Buffers of a body without compression are read where they are laid out.
use Rattle.std.proofs.Common.{◌≡◌, ℕ, ◌+◌, true, false, leb, Bool, List, [], ◌∷◌, ◌++◌, length, take, drop, Ok, refl, sym, ap, ◌∙◌, append_assoc, arith}
use Rattle.std.specs.Prelude.{pos, if◌then◌else◌}
use Rattle.std.proofs.lemmas.Bool.{le-leb}
use Rattle.std.proofs.lemmas.List.{append-nil, length-append, take_at}
use Rattle.std.proofs.lemmas.List.Concat.{flat_map-cons, flat_map-append}
use Rattle.ipc_flatbuf.specs.FlatbufferLaws.{From, From-length, From_next}
use Rattle.ipc_flatbuf.specs.MessageBytes.{padding}
use Rattle.ipc_flatbuf.specs.declared.batch.parts.BufferSpec.{BufferSpec}
use Rattle.ipc_flatbuf.specs.declared.compression.codec.CompressionCodec.{CompressionCodec}
use Rattle.ipc_arrays.specs.CompressedBuffers.{decompressed}
use Rattle.ipc_arrays.specs.BodyBuffers.{padded, body_of, buffer_specs}
use Rattle.ipc_arrays.specs.BodyBufferLaws.{body_more}
use Rattle.ipc_arrays.specs.PlainBodies.{buffer_slice, buffer_spec, is_needed_at, needed_slice, decompressed_buffer, decompressed_buffers, spec_plain_body}
use Rattle.ipc_arrays.specs.CompressedBodies.{AreDecodedTo, needed_contents, ReadsAsContents}

pub body_push : (buffers : List (List ℕ)) (bytes : List ℕ) → body_of (buffers ++ bytes ∷ []) ≡ body_of buffers ++ padded bytes
unfolding body_of
body_push buffers bytes = flat_map-append padded buffers (bytes ∷ []) ∙ ap (λ (r : List ℕ). body_of buffers ++ r) (flat_map-cons padded bytes [] ∙ append-nil (padded bytes))

pub specs_push : (offset : ℕ) (buffers : List (List ℕ)) (bytes : List ℕ) → buffer_specs offset (buffers ++ bytes ∷ []) ≡ buffer_specs offset buffers ++ buffer_spec (offset + length (body_of buffers)) bytes ∷ []
unfolding buffer_specs body_of
specs_push offset [] bytes = let e : offset ≡ offset + 0 = omega arith in ap (λ (n : ℕ). buffer_spec n bytes ∷ []) e
specs_push offset (first ∷ buffers) bytes =
    let long : length (body_of (first ∷ buffers)) ≡ length (padded first) + length (body_of buffers) = ap length (body_more first buffers) ∙ length-append (padded first) (body_of buffers) in
    let e : offset + length (padded first) + length (body_of buffers) ≡ offset + length (body_of (first ∷ buffers)) = omega arith in
    ap (λ (rs : List BufferSpec). buffer_spec offset first ∷ rs) (specs_push (offset + length (padded first)) buffers bytes)
    ∙ ap (λ (n : ℕ). buffer_spec offset first ∷ (buffer_specs (offset + length (padded first)) buffers ++ buffer_spec n bytes ∷ [])) e

slice_is : (whole : List ℕ) (offset : ℕ) (bytes rest : List ℕ) → From whole offset (bytes ++ rest) → buffer_slice whole (pos offset) (pos (length bytes)) ≡ Ok bytes
unfolding buffer_slice
slice_is whole offset bytes rest h =
    let fits : leb (offset + length bytes) (length whole) ≡ true = le-leb _ _ (omega (arith, From-length whole offset (bytes ++ rest) h, length-append bytes rest)) in
    let cut : take (length bytes) (drop offset whole) ≡ bytes = ap (take (length bytes)) h.is ∙ take_at bytes rest (length bytes) refl in
    rw (fits, cut) refl

-- the first buffer of a body is read
pub first_is : (whole : List ℕ) (offset : ℕ) (bytes : List ℕ) (buffers : List (List ℕ)) (tail : List ℕ) → From whole offset (body_of (bytes ∷ buffers) ++ tail) → buffer_slice whole (pos offset) (pos (length bytes)) ≡ Ok bytes
unfolding padded
first_is whole offset bytes buffers tail h =
    let gap : List ℕ = padding (length bytes) in
    let e : body_of (bytes ∷ buffers) ++ tail ≡ bytes ++ (gap ++ (body_of buffers ++ tail)) = ap (λ (x : List ℕ). x ++ tail) (body_more bytes buffers) ∙ append_assoc (padded bytes) (body_of buffers) tail ∙ append_assoc bytes gap (body_of buffers ++ tail) in
    slice_is whole offset bytes (gap ++ (body_of buffers ++ tail)) (record { is = h.is ∙ e; within = h.within })

-- the others follow it
pub others_are : (whole : List ℕ) (offset : ℕ) (bytes : List ℕ) (buffers : List (List ℕ)) (tail : List ℕ) → From whole offset (body_of (bytes ∷ buffers) ++ tail) → From whole (offset + length (padded bytes)) (body_of buffers ++ tail)
others_are whole offset bytes buffers tail h =
    let e : body_of (bytes ∷ buffers) ++ tail ≡ padded bytes ++ (body_of buffers ++ tail) = ap (λ (x : List ℕ). x ++ tail) (body_more bytes buffers) ∙ append_assoc (padded bytes) (body_of buffers) tail in
    From_next whole offset (padded bytes) (body_of buffers ++ tail) (record { is = h.is ∙ e; within = h.within })

-- ---- the body of compressed buffers

nothing_is : (codec : CompressionCodec) → decompressed codec [] ≡ Ok []
unfolding decompressed
nothing_is codec = refl

one_is : (codec : CompressionCodec) (body : List ℕ) (needed : Bool) (offset : ℕ) (buffer content : List ℕ) → buffer_slice body (pos offset) (pos (length buffer)) ≡ Ok buffer → decompressed codec buffer ≡ Ok content
    → decompressed_buffer codec body needed (buffer_spec offset buffer) ≡ Ok (if needed then content else [])
unfolding decompressed_buffer needed_slice
one_is codec body true offset buffer content slice is = rw slice is
one_is codec body false offset buffer content slice is = nothing_is codec

contents_are : (codec : CompressionCodec) (needed : List Bool) (i : ℕ) (buffers contents : List (List ℕ)) (body : List ℕ) (offset : ℕ) → AreDecodedTo codec buffers contents → From body offset (body_of buffers ++ [])
    → decompressed_buffers codec body needed i (buffer_specs offset buffers) ≡ Ok (needed_contents needed i contents)
unfolding decompressed_buffers buffer_specs needed_contents
contents_are codec needed i [] [] body offset decoded from = refl
contents_are codec needed i [] (content ∷ contents) body offset decoded from = absurd decoded
contents_are codec needed i (buffer ∷ buffers) [] body offset decoded from = absurd decoded
contents_are codec needed i (buffer ∷ buffers) (content ∷ contents) body offset decoded from =
    let first : decompressed_buffer codec body (is_needed_at needed i) (buffer_spec offset buffer) ≡ Ok (if is_needed_at needed i then content else []) =
    one_is codec body (is_needed_at needed i) offset buffer content (first_is body offset buffer buffers [] from) decoded.0 in
    let others : decompressed_buffers codec body needed (i + 1) (buffer_specs (offset + length (padded buffer)) buffers) ≡ Ok (needed_contents needed (i + 1) contents) =
    contents_are codec needed (i + 1) buffers contents body (offset + length (padded buffer)) decoded.1 (others_are body offset buffer buffers [] from) in
    rw (first, others) refl

pub reads_as_contents : (codec : CompressionCodec) (buffers contents : List (List ℕ)) (needed : List Bool) → ReadsAsContents codec buffers contents needed
unfolding spec_plain_body
reads_as_contents codec buffers contents needed decoded =
    let from : From (body_of buffers) 0 (body_of buffers ++ []) = record { is = sym (append-nil (body_of buffers)); within = omega arith } in
    rw (contents_are codec needed 0 buffers contents (body_of buffers) 0 decoded from) refl
