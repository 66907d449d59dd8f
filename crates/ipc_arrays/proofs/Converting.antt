-- Buffers and arrays of a record batch that loops convert.
use Rattle.std.proofs.Common.{◌≡◌, ℕ, suc, ◌+◌, ◌-◌, ◌*◌, ◌<◌, ◌≤◌, leb, true, false, List, [], ◌∷◌, ◌++◌, length, get_or, take, drop, map, Result, Ok, Err, refl, sym, ap, ◌∙◌, append_assoc, arith}
use Rattle.std.specs.Prelude.{ℤ, pos, replicate, Option, None}
use Rattle.std.specs.Int.{w128}
use Rattle.std.proofs.lemmas.Grind.{replicate_next}
use Rattle.std.proofs.lemmas.List.{append-nil, length-append, drop_more, drop_all, take_at}
use Rattle.std.proofs.lemmas.Bool.{le-leb, lt-leb}
use Rattle.std.proofs.lemmas.List.Concat.{flat_map-cons}
use Rattle.ipc_flatbuf.specs.ReadResults.{◌>>=◌, FailsOrRunsOut}
use Rattle.ipc_flatbuf.specs.Compression.{read_error_of}
use Rattle.ipc_flatbuf.specs.MessageBytes.{padding}
use Rattle.ipc_flatbuf.specs.declared.batch.parts.BufferSpec.{BufferSpec}
use Rattle.ipc_flatbuf.specs.declared.compression.codec.CompressionCodec.{CompressionCodec}
use Rattle.ipc_flatbuf.specs.declared.compression.error.CompressionError.{CompressionError}
use Rattle.ipc_flatbuf.specs.declared.error.IpcReadError.{IpcReadError}
use Rattle.ipc_flatbuf.specs.declared.error.IpcReadError.TheVariants.{BufferCount}
use Rattle.ipc_flatbuf.specs.declared.projection.StoredArray.{StoredArray}
use Rattle.ipc_arrays.specs.BodyBuffers.{padded, body_of, buffer_specs}
use Rattle.ipc_arrays.specs.BodyBufferLaws.{body_more, body_append, body_none, buffer_specs_append}
use Rattle.ipc_arrays.specs.CompressedBuffers.{with_content}
use Rattle.ipc_arrays.specs.Decoding.{buffer_slice, decoded_values}
use Rattle.ipc_arrays.specs.PlainBodyLaws.{others_are}
use Rattle.ipc_flatbuf.specs.FlatbufferLaws.{From, From-length}
use Rattle.ipc_arrays.specs.CompressionResults as decoding
use Rattle.ipc_arrays.specs.FixedWidth.{ByteFormat, signed_format, decoded_natives, values_bytes}
use Rattle.ipc_arrays.specs.Projection.{ProjectionState, skip_first}
use Rattle.ipc_arrays.specs.declared.cursor.NodeCounts.{NodeCounts}
use Rattle.ipc_arrays.specs.Stored.{widened, decimal_contents, first_variadic_count, taken_buffers, taken_view_buffers, without_counts, with_array, with_read_error, plain_content, stored_content, stored_contents, ConvertedArrays, converted_arrays, converted_array, converted_each, Converted, with_bytes, with_buffer, with_contents, with_stored, with_arrays}

abbrev pub Laid : Type 0
Laid = List BufferSpec × List ℕ

-- ---- contents at the end of a body

pub laid_none : (laid : Laid) → with_contents laid [] ≡ laid
unfolding buffer_specs
laid_none laid =
    let bytes : laid.1 ++ body_of [] ≡ laid.1 = ap (λ (x : List ℕ). laid.1 ++ x) body_none ∙ append-nil laid.1 in
    let specs : laid.0 ++ [] ≡ laid.0 = append-nil laid.0 in
    λ w. (specs w, bytes w)

pub laid_more : (laid : Laid) (a b : List (List ℕ)) → with_contents (with_contents laid a) b ≡ with_contents laid (a ++ b)
laid_more laid a b =
    let long : length (laid.1 ++ body_of a) ≡ length laid.1 + length (body_of a) = length-append laid.1 (body_of a) in
    let specs : (laid.0 ++ buffer_specs (length laid.1) a) ++ buffer_specs (length (laid.1 ++ body_of a)) b ≡ laid.0 ++ buffer_specs (length laid.1) (a ++ b) =
    append_assoc laid.0 (buffer_specs (length laid.1) a) (buffer_specs (length (laid.1 ++ body_of a)) b)
    ∙ ap (λ (n : ℕ). laid.0 ++ (buffer_specs (length laid.1) a ++ buffer_specs n b)) long
    ∙ ap (λ (xs : List BufferSpec). laid.0 ++ xs) (sym (buffer_specs_append (length laid.1) a b)) in
    let bytes : (laid.1 ++ body_of a) ++ body_of b ≡ laid.1 ++ body_of (a ++ b) = append_assoc laid.1 (body_of a) (body_of b) ∙ ap (λ (xs : List ℕ). laid.1 ++ xs) (sym (body_append a b)) in
    λ w. (specs w, bytes w)

laid_one : (laid : Laid) (content : List ℕ) → with_contents laid (content ∷ []) ≡ (laid.0 ++ record { offset = pos (length laid.1); length = pos (length content) } ∷ [], laid.1 ++ padded content)
unfolding buffer_specs
laid_one laid content =
    let bytes : body_of (content ∷ []) ≡ padded content = body_more content [] ∙ ap (λ (x : List ℕ). padded content ++ x) body_none ∙ append-nil (padded content) in
    λ w. (laid.0 ++ record { offset = pos (length laid.1); length = pos (length content) } ∷ [], laid.1 ++ bytes w)

-- buffers that are appended one after the other
pub two_laid : (laid first second : Laid) (a b : List ℕ) → first ≡ with_contents laid (a ∷ []) → second ≡ with_contents first (b ∷ []) → second ≡ with_contents laid (a ∷ b ∷ [])
two_laid laid first second a b first_is second_is = second_is ∙ ap (λ (x : Laid). with_contents x (b ∷ [])) first_is ∙ laid_more laid (a ∷ []) (b ∷ [])

pub three_laid : (laid first second third : Laid) (a b c : List ℕ) → first ≡ with_contents laid (a ∷ []) → second ≡ with_contents first (b ∷ []) → third ≡ with_contents second (c ∷ []) → third ≡ with_contents laid (a ∷ b ∷ c ∷ [])
three_laid laid first second third a b c first_is second_is third_is =
    third_is ∙ ap (λ (x : Laid). with_contents x (c ∷ [])) (two_laid laid first second a b first_is second_is) ∙ laid_more laid (a ∷ b ∷ []) (c ∷ [])

-- a buffer that ends
pub ended : (old_specs new_specs : List BufferSpec) (old mid new content : List ℕ) (start : ℕ) → mid ≡ old ++ content → start ≡ length old → new_specs ≡ old_specs ++ record { offset = pos start; length = pos (length mid - start) } ∷ [] → new ≡ mid ++ padding (length mid - start)
    → (new_specs, new) ≡ with_contents (old_specs, old) (content ∷ [])
unfolding padded
ended old_specs new_specs old mid new content start mid_is start_is specs_are new_is =
    let size : length mid - start ≡ length content = omega (arith, ap length mid_is, length-append old content) in
    let specs : new_specs ≡ old_specs ++ record { offset = pos (length old); length = pos (length content) } ∷ [] = specs_are ∙ (λ w. old_specs ++ record { offset = pos (start_is w); length = pos (size w) } ∷ []) in
    let bytes : new ≡ old ++ padded content = new_is ∙ (λ w. mid_is w ++ padding (size w)) ∙ append_assoc old content (padding (length content)) in
    (λ w. (specs w, bytes w)) ∙ sym (laid_one (old_specs, old) content)

pub stored_ended : (read : Result (List ℕ) IpcReadError) (old_specs new_specs : List BufferSpec) (old mid new : List ℕ) (start : ℕ) → with_bytes old read ≡ Ok mid → start ≡ length old
    → new_specs ≡ old_specs ++ record { offset = pos start; length = pos (length mid - start) } ∷ [] → new ≡ mid ++ padding (length mid - start) → with_buffer (old_specs, old) read ≡ Ok (new_specs, new)
stored_ended (Ok content) old_specs new_specs old mid new start mid_is start_is specs_are new_is =
    let e : mid ≡ old ++ content = cc in
    ap (λ (laid : Laid). Ok laid) (sym (ended old_specs new_specs old mid new content start e start_is specs_are new_is))
stored_ended (Err e) old_specs new_specs old mid new start mid_is start_is specs_are new_is = absurd (cc)

pub bytes_fail : (read : Result (List ℕ) IpcReadError) (laid : Laid) (e : IpcReadError) → FailsOrRunsOut e (with_bytes laid.1 read) → FailsOrRunsOut e (with_buffer laid read)
bytes_fail (Ok content) laid e fails = λ known. let wrong = fails known in cc
bytes_fail (Err f) laid e fails = λ known. let is = fails known in cc

pub decompression_fails : (read : Result (List ℕ) CompressionError) (out : List ℕ) (e : CompressionError) (f : IpcReadError) → f ≡ read_error_of e → decoding.FailsOrRunsOut e (with_content out read) → FailsOrRunsOut f (with_bytes out (with_read_error read))
decompression_fails (Ok content) out e f is fails = λ known. let wrong = fails (λ memory. known (is ∙ ap read_error_of memory)) in absurd (cc)
decompression_fails (Err g) out e f is fails = λ known.
    let same : Err g ≡ Err e = fails (λ memory. known (is ∙ ap read_error_of memory)) in
    let e_is : g ≡ e = cc in
    ap (λ (x : IpcReadError). Err x) (ap read_error_of e_is ∙ sym is)

-- ---- a loop over buffers

first_stored : (laid : Laid) (read : Result (List ℕ) IpcReadError) (others : Result (List (List ℕ)) IpcReadError) (new : Laid) → with_buffer laid read ≡ Ok new → with_stored laid (read >>= λ first. others >>= λ more. Ok (first ∷ more)) ≡ with_stored new others
first_stored laid (Ok content) (Ok more) new is =
    let e : new ≡ with_contents laid (content ∷ []) = cc in
    ap (λ (x : Laid). Ok x) (sym (laid_more laid (content ∷ []) more) ∙ ap (λ (x : Laid). with_contents x more) (sym e))
first_stored laid (Ok content) (Err e) new is = refl
first_stored laid (Err e) others new is = absurd (cc)

first_fails : (laid : Laid) (read : Result (List ℕ) IpcReadError) (others : Result (List (List ℕ)) IpcReadError) (e : IpcReadError) → with_buffer laid read ≡ Err e → with_stored laid (read >>= λ first. others >>= λ more. Ok (first ∷ more)) ≡ Err e
first_fails laid (Ok content) others e is = absurd (cc)
first_fails laid (Err f) others e is = let same : f ≡ e = cc in ap (λ (x : IpcReadError). Err x) same

module _ (codec : Option CompressionCodec) (body : List ℕ) (buffers : List BufferSpec) (i : ℕ) (laid : Laid) (total : Result Laid IpcReadError) where
  pub stored_goes_on : (d : BufferSpec) (new : Laid) → i < length buffers → with_buffer laid (stored_content codec body (get_or buffers i d)) ≡ Ok new → with_stored laid (stored_contents codec body (drop i buffers)) ≡ total
      → with_stored new (stored_contents codec body (drop (i + 1) buffers)) ≡ total
  unfolding stored_contents
  stored_goes_on d new lt is so_far =
      let one : with_stored laid (stored_contents codec body (drop i buffers)) ≡ with_stored new (stored_contents codec body (drop (i + 1) buffers)) =
      rw (drop_more buffers i d lt) (first_stored laid (stored_content codec body (get_or buffers i d)) (stored_contents codec body (drop (i + 1) buffers)) new is) in
      sym one ∙ so_far

  pub stored_ends : (d : BufferSpec) (e : IpcReadError) → i < length buffers → FailsOrRunsOut e (with_buffer laid (stored_content codec body (get_or buffers i d))) → with_stored laid (stored_contents codec body (drop i buffers)) ≡ total → FailsOrRunsOut e total
  unfolding stored_contents
  stored_ends d e lt fails so_far = λ known.
      let one : with_stored laid (stored_contents codec body (drop i buffers)) ≡ Err e =
      rw (drop_more buffers i d lt) (first_fails laid (stored_content codec body (get_or buffers i d)) (stored_contents codec body (drop (i + 1) buffers)) e (fails known)) in
      sym so_far ∙ one

  pub stored_is_done : length buffers ≤ i → with_stored laid (stored_contents codec body (drop i buffers)) ≡ total → total ≡ Ok laid
  unfolding stored_contents
  stored_is_done le so_far =
      let one : with_stored laid (stored_contents codec body (drop i buffers)) ≡ Ok laid = rw (drop_all i buffers le) (ap (λ (x : Laid). Ok x) (laid_none laid)) in
      sym so_far ∙ one

-- ---- the same, where the contents are kept as slices

abbrev pub with_slices : List (List ℕ) → Result (List (List ℕ)) IpcReadError → Result (List (List ℕ)) IpcReadError
with_slices front read = read >>= λ others. Ok (front ++ others)

pub slices_start : (read : Result (List (List ℕ)) IpcReadError) → with_slices [] read ≡ read
slices_start (Ok others) = refl
slices_start (Err e) = refl

regroup : (front : List (List ℕ)) (bytes : List ℕ) (read : Result (List (List ℕ)) IpcReadError) → with_slices front (read >>= λ others. Ok (bytes ∷ others)) ≡ with_slices (front ++ bytes ∷ []) read
regroup front bytes (Ok others) = ap (λ (xs : List (List ℕ)). Ok xs) (sym (append_assoc front (bytes ∷ []) others))
regroup front bytes (Err e) = refl

plainly : (read r : Result (List ℕ) IpcReadError) → read ≡ r → (read >>= λ bytes. Ok bytes) ≡ r
plainly (Ok bytes) r is = is
plainly (Err e) r is = is

-- without a codec the content of a buffer is its bytes
pub as_stored : (body : List ℕ) (buffer : BufferSpec) (r : Result (List ℕ) IpcReadError) → buffer_slice body buffer.offset buffer.length ≡ r → stored_content None body buffer ≡ r
unfolding stored_content plain_content
as_stored body buffer r is = plainly (buffer_slice body buffer.offset buffer.length) r is

module _ (body : List ℕ) (buffers : List BufferSpec) (i : ℕ) (front : List (List ℕ)) (total : Result (List (List ℕ)) IpcReadError) where
  pub slices_go_on : (d : BufferSpec) (bytes : List ℕ) → i < length buffers → stored_content None body (get_or buffers i d) ≡ Ok bytes → with_slices front (stored_contents None body (drop i buffers)) ≡ total
      → with_slices (front ++ bytes ∷ []) (stored_contents None body (drop (i + 1) buffers)) ≡ total
  unfolding stored_contents
  slices_go_on d bytes lt is so_far =
      let one : with_slices front (stored_contents None body (drop i buffers)) ≡ with_slices (front ++ bytes ∷ []) (stored_contents None body (drop (i + 1) buffers)) =
      rw (drop_more buffers i d lt, is) (regroup front bytes (stored_contents None body (drop (i + 1) buffers))) in
      sym one ∙ so_far

  pub slices_end : (d : BufferSpec) (e : IpcReadError) → i < length buffers → stored_content None body (get_or buffers i d) ≡ Err e → with_slices front (stored_contents None body (drop i buffers)) ≡ total → total ≡ Err e
  unfolding stored_contents
  slices_end d e lt is so_far =
      let one : with_slices front (stored_contents None body (drop i buffers)) ≡ Err e = rw (drop_more buffers i d lt, is) refl in
      sym so_far ∙ one

  pub slices_are_done : length buffers ≤ i → with_slices front (stored_contents None body (drop i buffers)) ≡ total → total ≡ Ok front
  unfolding stored_contents
  slices_are_done le so_far =
      let one : with_slices front (stored_contents None body (drop i buffers)) ≡ Ok front = rw (drop_all i buffers le) (ap (λ (xs : List (List ℕ)). Ok xs) (append-nil front)) in
      sym so_far ∙ one

-- ---- the decompressed buffers of an array

one_content : (body : List ℕ) (offset : ℕ) (bytes : List ℕ) → buffer_slice body (pos offset) (pos (length bytes)) ≡ Ok bytes → stored_content None body (record { offset = pos offset; length = pos (length bytes) }) ≡ Ok bytes
unfolding stored_content plain_content
one_content body offset bytes is = rw is refl

first_slice : (body : List ℕ) (offset : ℕ) (bytes : List ℕ) (buffers : List (List ℕ)) → From body offset (body_of (bytes ∷ buffers) ++ []) → buffer_slice body (pos offset) (pos (length bytes)) ≡ Ok bytes
unfolding buffer_slice
first_slice body offset bytes buffers from =
    let e : body_of (bytes ∷ buffers) ++ [] ≡ bytes ++ (padding (length bytes) ++ (body_of buffers ++ [])) = unfold padded in (ap (λ (x : List ℕ). x ++ []) (body_more bytes buffers) ∙ append_assoc (padded bytes) (body_of buffers) [] ∙ append_assoc bytes (padding (length bytes)) (body_of buffers ++ [])) in
    let is : drop offset body ≡ bytes ++ (padding (length bytes) ++ (body_of buffers ++ [])) = from.is ∙ e in
    let within : offset + length bytes ≤ length body = omega (arith, From-length body offset (body_of (bytes ∷ buffers) ++ []) from, ap length e, length-append bytes (padding (length bytes) ++ (body_of buffers ++ []))) in
    let fits : leb (offset + length bytes) (length body) ≡ true = le-leb _ _ within in
    let cut : take (length bytes) (drop offset body) ≡ bytes = ap (take (length bytes)) is ∙ take_at bytes (padding (length bytes) ++ (body_of buffers ++ [])) (length bytes) refl in
    rw (fits, cut) refl

contents_of_body : (body : List ℕ) (offset : ℕ) (contents : List (List ℕ)) → From body offset (body_of contents ++ []) → stored_contents None body (buffer_specs offset contents) ≡ Ok contents
unfolding stored_contents buffer_specs
contents_of_body body offset [] from = refl
contents_of_body body offset (bytes ∷ contents) from =
    rw (one_content body offset bytes (first_slice body offset bytes contents from), contents_of_body body (offset + length (padded bytes)) contents (others_are body offset bytes contents [] from)) refl

-- what the buffers hold is what they hold after decompression
pub decompressed_are : (read : Result (List (List ℕ)) IpcReadError) (laid : Laid) (specs : List BufferSpec) (bytes : List ℕ) → laid ≡ ([], []) → with_stored laid read ≡ Ok (specs, bytes) → read ≡ stored_contents None bytes specs
decompressed_are (Ok contents) laid specs bytes none is =
    let found : Laid = (buffer_specs 0 contents, body_of contents) in
    let last : Laid = with_contents laid contents in
    let wanted : Laid = (specs, bytes) in
    let all : last ≡ wanted = cc in
    let first : last ≡ found = ap (λ (x : Laid). with_contents x contents) none in
    let e : found ≡ wanted = sym first ∙ all in
    let specs_are : buffer_specs 0 contents ≡ specs = ap (λ (x : Laid). x.0) e in
    let bytes_are : body_of contents ≡ bytes = ap (λ (x : Laid). x.1) e in
    let from : From (body_of contents) 0 (body_of contents ++ []) = record { is = sym (append-nil (body_of contents)); within = omega arith } in
    sym (contents_of_body (body_of contents) 0 contents from) ∙ (λ w. stored_contents None (bytes_are w) (specs_are w))
decompressed_are (Err e) laid specs bytes none is = absurd (cc)

pub not_decompressed : (read : Result (List (List ℕ)) IpcReadError) (laid : Laid) (e : IpcReadError) → FailsOrRunsOut e (with_stored laid read) → FailsOrRunsOut e read
not_decompressed (Ok contents) laid e fails = λ known. let wrong = fails known in absurd (cc)
not_decompressed (Err g) laid e fails = λ known. let is = fails known in cc

-- ---- empty buffers

pub empty_more : (laid mid new : Laid) (i : ℕ) → mid ≡ with_contents laid (replicate i []) → new ≡ with_contents mid ([] ∷ []) → new ≡ with_contents laid (replicate (i + 1) [])
empty_more laid mid new i so_far is =
    is ∙ ap (λ (x : Laid). with_contents x ([] ∷ [])) so_far ∙ laid_more laid (replicate i []) ([] ∷ []) ∙ ap (λ (xs : List (List ℕ)). with_contents laid xs) (sym (replicate_next i []))

-- ---- widened values

module _ (format : ByteFormat) where
  pub widened_more : (out new bytes from next goal : List ℕ) (slots i : ℕ) (zs : List ℤ) → i < slots → zs ≡ format.numbers from → next ≡ drop format.size from → new ≡ out ++ (signed_format w128).bytes zs
      → out ++ values_bytes (signed_format w128) (decoded_natives format (slots - i) from) ≡ goal → new ++ values_bytes (signed_format w128) (decoded_natives format (slots - (i + 1)) next) ≡ goal
  unfolding decoded_natives values_bytes
  widened_more out new bytes from next goal slots i zs lt value far is so_far =
      let wide = (signed_format w128).bytes in
      let k : slots - i ≡ suc (slots - (i + 1)) = omega arith in
      let rest : List (List ℤ) = decoded_natives format (slots - (i + 1)) next in
      let one : values_bytes (signed_format w128) (decoded_natives format (slots - i) from) ≡ wide zs ++ values_bytes (signed_format w128) rest =
      rw (k, ← far, ← value) (flat_map-cons wide zs rest) in
      ap (λ (x : List ℕ). x ++ values_bytes (signed_format w128) rest) is ∙ append_assoc out (wide zs) (values_bytes (signed_format w128) rest) ∙ ap (λ (x : List ℕ). out ++ x) (sym one) ∙ so_far

  pub widened_is : (slots : ℕ) (bytes out new : List ℕ) → leb (slots * format.size) (length bytes) ≡ true → new ≡ out ++ values_bytes (signed_format w128) (decoded_natives format slots bytes) → with_bytes out (widened format slots bytes) ≡ Ok new
  unfolding widened decoded_values
  widened_is slots bytes out new enough is = rw (enough, is) refl

  pub widened_done : (out from goal : List ℕ) (slots i : ℕ) → slots ≤ i → out ++ values_bytes (signed_format w128) (decoded_natives format (slots - i) from) ≡ goal → out ≡ goal
  unfolding decoded_natives values_bytes
  widened_done out from goal slots i le so_far =
      let k : slots - i ≡ 0 = omega arith in
      let one : out ++ values_bytes (signed_format w128) (decoded_natives format (slots - i) from) ≡ out = rw k (append-nil out) in
      sym one ∙ so_far

-- ---- a loop over arrays

abbrev Arrays : Type 0
Arrays = Result (ConvertedArrays × ProjectionState) IpcReadError

abbrev joined : Arrays → (ProjectionState → Arrays) → Arrays
joined read others = read >>= λ first. others first.1 >>= λ more. Ok (converted_arrays (first.0.contents ++ more.0.contents) (first.0.more ++ more.0.more), more.1)

others_after : (before : Converted) (arrays : ConvertedArrays) (others : Arrays) → with_arrays before (others >>= λ more. Ok (converted_arrays (arrays.contents ++ more.0.contents) (arrays.more ++ more.0.more), more.1)) ≡ with_arrays (with_contents before.0 arrays.contents, before.1 ++ arrays.more) others
others_after before arrays (Ok more) =
    let laid = laid_more before.0 arrays.contents more.0.contents in
    let kept = append_assoc before.1 arrays.more more.0.more in
    sym (λ w. Ok ((laid w, kept w), more.1))
others_after before arrays (Err e) = refl

first_converted : (before : Converted) (read : Arrays) (others : ProjectionState → Arrays) (new : Converted) (after : ProjectionState) → with_arrays before read ≡ Ok (new, after) → with_arrays before (joined read others) ≡ with_arrays new (others after)
first_converted before (Ok first) others new after is =
    let found : Converted × ProjectionState = ((with_contents before.0 first.0.contents, before.1 ++ first.0.more), first.1) in
    let wanted : Converted × ProjectionState = (new, after) in
    let e : found ≡ wanted = cc in
    others_after before first.0 (others first.1) ∙ ap (λ (x : Converted × ProjectionState). with_arrays x.0 (others x.1)) e
first_converted before (Err e) others new after is = absurd (cc)

array_fails : (before : Converted) (read : Arrays) (others : ProjectionState → Arrays) (e : IpcReadError) → with_arrays before read ≡ Err e → with_arrays before (joined read others) ≡ Err e
array_fails before (Ok first) others e is = absurd (cc)
array_fails before (Err f) others e is = let same : f ≡ e = cc in ap (λ (x : IpcReadError). Err x) same

pub nothing_converted : (before : Converted) → (with_contents before.0 [], before.1 ++ []) ≡ before
nothing_converted before = let laid = laid_none before.0 in let kept = append-nil before.1 in λ w. (laid w, kept w)

module _ (codec : Option CompressionCodec) (body : List ℕ) (arrays : List StoredArray) (i : ℕ) (before : Converted) (ahead : ProjectionState) (total : Result (Converted × ProjectionState) IpcReadError) where
  pub arrays_go_on : (d : StoredArray) (new : Converted) (after : ProjectionState) → i < length arrays → with_arrays before (converted_array codec body (get_or arrays i d) ahead) ≡ Ok (new, after) → with_arrays before (converted_each codec body (drop i arrays) ahead) ≡ total
      → with_arrays new (converted_each codec body (drop (i + 1) arrays) after) ≡ total
  unfolding converted_each
  arrays_go_on d new after lt is so_far =
      let one : with_arrays before (converted_each codec body (drop i arrays) ahead) ≡ with_arrays new (converted_each codec body (drop (i + 1) arrays) after) =
      rw (drop_more arrays i d lt) (first_converted before (converted_array codec body (get_or arrays i d) ahead) (converted_each codec body (drop (i + 1) arrays)) new after is) in
      sym one ∙ so_far

  pub arrays_end : (d : StoredArray) (e : IpcReadError) → i < length arrays → FailsOrRunsOut e (with_arrays before (converted_array codec body (get_or arrays i d) ahead)) → with_arrays before (converted_each codec body (drop i arrays) ahead) ≡ total → FailsOrRunsOut e total
  unfolding converted_each
  arrays_end d e lt fails so_far = λ known.
      let one : with_arrays before (converted_each codec body (drop i arrays) ahead) ≡ Err e =
      rw (drop_more arrays i d lt) (array_fails before (converted_array codec body (get_or arrays i d) ahead) (converted_each codec body (drop (i + 1) arrays)) e (fails known)) in
      sym so_far ∙ one

  pub arrays_are_done : length arrays ≤ i → with_arrays before (converted_each codec body (drop i arrays) ahead) ≡ total → total ≡ Ok (before, ahead)
  unfolding converted_each
  arrays_are_done le so_far =
      let one : with_arrays before (converted_each codec body (drop i arrays) ahead) ≡ Ok (before, ahead) = rw (drop_all i arrays le) (ap (λ (x : Converted). Ok (x, ahead)) (nothing_converted before)) in
      sym so_far ∙ one

-- ---- one array

pub views_missing : (ahead : ProjectionState) (count : ℕ) (others : List ℤ) → first_variadic_count ahead.more ≡ Ok (count, others) → length ahead.rest.buffers < count → taken_view_buffers ahead ≡ Err BufferCount
unfolding taken_view_buffers taken_buffers skip_first
views_missing ahead count others is lt =
    let short : leb (count + 2) (length ahead.rest.buffers) ≡ false = lt-leb _ _ (omega arith) in
    rw (is, short) refl

-- an array that is read keeps no variadic counts
module _ (laid : Laid) (more : List ℤ) where
  pub counts_ok : (new : Laid) (after : ProjectionState) (read : Result (List (List ℕ) × ProjectionState) IpcReadError) → with_array laid read ≡ Ok (new, after) → with_arrays (laid, more) (without_counts read) ≡ Ok ((new, more), after)
  counts_ok new after (Ok contents) is =
      let found : Laid × ProjectionState = (with_contents laid contents.0, contents.1) in
      let wanted : Laid × ProjectionState = (new, after) in
      let e : found ≡ wanted = cc in
      (λ w. Ok ((found.0, append-nil more w), found.1)) ∙ ap (λ (y : Laid × ProjectionState). Ok ((y.0, more), y.1)) e
  counts_ok new after (Err f) is = absurd (cc)

  pub counts_err : (e : IpcReadError) (read : Result (List (List ℕ) × ProjectionState) IpcReadError) → FailsOrRunsOut e (with_array laid read) → FailsOrRunsOut e (with_arrays (laid, more) (without_counts read))
  counts_err e (Ok contents) is = λ known. let wrong = is known in absurd (cc)
  counts_err e (Err f) is = λ known. let same = is known in cc

-- ---- the buffers of decimals

two_items : {A : Type 0} (f : A → List ℕ) (xs : List A) (d e : A) → 2 ≤ length xs → length xs < 3 → map f xs ≡ f (get_or xs 0 d) ∷ f (get_or xs 1 e) ∷ []
two_items f [] d e le lt = absurd (omega arith)
two_items f (x ∷ []) d e le lt = absurd (omega arith)
two_items f (x ∷ y ∷ []) d e le lt = refl
two_items f (x ∷ y ∷ z ∷ xs) d e le lt = absurd (omega arith)

module _ (format : ByteFormat) (counts : NodeCounts) (laid mid : Laid) where
  wide_done : (bits values : List ℕ) (new : Laid) (read : Result (List ℕ) IpcReadError) → mid ≡ with_contents laid (bits ∷ []) → with_buffer mid read ≡ Ok new → with_stored laid (read >>= λ wide. Ok (bits ∷ wide ∷ [])) ≡ Ok new
  wide_done bits values new (Ok wide) mid_is is =
      let last : Laid = with_contents mid (wide ∷ []) in
      let e : last ≡ new = cc in
      ap (λ (x : Laid). Ok x) (sym (two_laid laid mid last bits wide mid_is refl) ∙ e)
  wide_done bits values new (Err f) mid_is is = absurd (cc)

  wide_fails : (bits values : List ℕ) (e : IpcReadError) (read : Result (List ℕ) IpcReadError) → FailsOrRunsOut e (with_buffer mid read) → FailsOrRunsOut e (with_stored laid (read >>= λ wide. Ok (bits ∷ wide ∷ [])))
  wide_fails bits values e (Ok wide) fails = λ known. let wrong = fails known in absurd (cc)
  wide_fails bits values e (Err f) fails = λ known. let is = fails known in cc

  pub decimals_done : {A : Type 0} (f : A → List ℕ) (xs : List A) (d e : A) (new : Laid) → 2 ≤ length xs → length xs < 3 → mid ≡ with_contents laid (f (get_or xs 0 d) ∷ []) → with_buffer mid (widened format counts.slots (f (get_or xs 1 e))) ≡ Ok new
      → with_stored laid (decimal_contents format counts (map f xs)) ≡ Ok new
  unfolding decimal_contents
  decimals_done f xs d e new le lt mid_is is =
      rw (two_items f xs d e le lt) (wide_done (f (get_or xs 0 d)) (f (get_or xs 1 e)) new (widened format counts.slots (f (get_or xs 1 e))) mid_is is)

  pub decimals_fail : {A : Type 0} (f : A → List ℕ) (xs : List A) (d : A) (error : IpcReadError) → 2 ≤ length xs → length xs < 3 → FailsOrRunsOut error (with_buffer mid (widened format counts.slots (f (get_or xs 1 d))))
      → FailsOrRunsOut error (with_stored laid (decimal_contents format counts (map f xs)))
  unfolding decimal_contents
  decimals_fail f xs d error le lt fails =
      rw (two_items f xs d d le lt) (wide_fails (f (get_or xs 0 d)) (f (get_or xs 1 d)) error (widened format counts.slots (f (get_or xs 1 d))) fails)
