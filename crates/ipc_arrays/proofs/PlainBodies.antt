-- Laying out a plain body buffer by buffer, as a loop does.
use Rattle.std.proofs.Common.{◌≡◌, ℕ, zero, suc, ◌+◌, ◌-◌, ◌≤◌, ◌<◌, Bool, List, [], ◌∷◌, ◌++◌, length, drop, get_or, Some, Result, Ok, Err, refl, sym, ap, subst, ◌∙◌, append_assoc, arith}
use Rattle.std.specs.Prelude.{pos, slice_get}
use Rattle.std.proofs.lemmas.List.{append-nil, length-append, drop_more, drop_all}
use Rattle.ipc_flatbuf.specs.FlatbufferLaws.{From}
use Rattle.ipc_flatbuf.specs.MessageBytes.{padding}
use Rattle.ipc_flatbuf.specs.declared.batch.parts.BufferSpec.{BufferSpec}
use Rattle.ipc_flatbuf.specs.declared.compression.codec.CompressionCodec.{CompressionCodec}
use Rattle.ipc_flatbuf.specs.declared.compression.error.CompressionError.{CompressionError}
use Rattle.ipc_arrays.specs.CompressionResults.{◌>>=◌, FailsOrRunsOut}
use Rattle.ipc_arrays.specs.CompressedBuffers.{with_content}
use Rattle.ipc_arrays.specs.BodyBuffers.{padded, body_of, buffer_specs}
use Rattle.ipc_arrays.specs.PlainBodies.{buffer_slice, buffer_spec, laid_out, is_needed_at, decompressed_buffer, decompressed_buffers, spec_plain_body, DecodesEachBuffer}
use Rattle.ipc_arrays.specs.PlainBodyLaws.{body_push, specs_push, first_is, others_are}

-- ---- one buffer

pub padded_is : (read : Result (List ℕ) CompressionError) (old mid new : List ℕ) (offset size : ℕ) → with_content old read ≡ Ok mid → offset ≡ length old → size ≡ length mid - offset → new ≡ mid ++ padding size
    → laid_out old read ≡ Ok (record { offset = pos offset; length = pos size }, new)
unfolding padded
padded_is (Ok content) old mid new offset size is offset_is long padding_is =
    let e : mid ≡ old ++ content = cc in
    let size_is : size ≡ length content = omega (arith, ap length e, length-append old content) in
    let new_is : new ≡ old ++ (content ++ padding (length content)) = padding_is ∙ ap (λ (xs : List ℕ). xs ++ padding size) e ∙ ap (λ (n : ℕ). (old ++ content) ++ padding n) size_is ∙ append_assoc old content (padding (length content)) in
    rw (offset_is, size_is, new_is) refl
padded_is (Err e) old mid new offset size is offset_is long padding_is = absurd (cc)

-- ---- the loop

-- the contents so far, followed by the others
abbrev pub with_done : List (List ℕ) → Result (List (List ℕ)) CompressionError → Result (List (List ℕ)) CompressionError
with_done done read = read >>= λ others. Ok (done ++ others)

regroup : (done : List (List ℕ)) (bytes : List ℕ) (read : Result (List (List ℕ)) CompressionError) → with_done done (read >>= λ others. Ok (bytes ∷ others)) ≡ with_done (done ++ bytes ∷ []) read
regroup done bytes (Ok others) = ap (λ (xs : List (List ℕ)). Ok xs) (simp append_assoc)
regroup done bytes (Err e) = refl

nothing_done : (read : Result (List (List ℕ)) CompressionError) → with_done [] read ≡ read
nothing_done (Ok others) = refl
nothing_done (Err e) = refl

-- the buffers before index i are laid out
pub record IsLaidOut (codec : CompressionCodec) (body : List ℕ) (buffers : List BufferSpec) (needed : List Bool) (i : ℕ) (specs : List BufferSpec) (plain : List ℕ) : Type 0 where
  pub contents : List (List ℕ)
  pub specs_are : specs ≡ buffer_specs 0 contents
  pub plain_is : plain ≡ body_of contents
  pub read : with_done contents (decompressed_buffers codec body needed i (drop i buffers)) ≡ decompressed_buffers codec body needed 0 buffers

-- an equation of a buffer that is laid out
pub laid_out_is : (read : Result (List ℕ) CompressionError) (plain new : List ℕ) (spec : BufferSpec) → laid_out plain read ≡ Ok (spec, new) → (bytes : List ℕ) × (read ≡ Ok bytes) × (spec ≡ buffer_spec (length plain) bytes) × (new ≡ plain ++ padded bytes)
laid_out_is (Ok bytes) plain new spec is = let e : (buffer_spec (length plain) bytes, plain ++ padded bytes) ≡ (spec, new) = cc in (bytes, refl, sym (ap (λ (x : BufferSpec × List ℕ). x.0) e), sym (ap (λ (x : BufferSpec × List ℕ). x.1) e))
laid_out_is (Err e) plain new spec is = cc

zero_more : (n : ℕ) → n ≡ 0 + n
zero_more n = omega arith

failed : (read : Result (List ℕ) CompressionError) (plain : List ℕ) (e : CompressionError) → laid_out plain read ≡ Err e → read ≡ Err e
failed (Ok bytes) plain e is = cc
failed (Err f) plain e is = cc

-- ---- the law

-- what the first buffer and the others decode to
buffers_are : (first : Result (List ℕ) CompressionError) (others : Result (List (List ℕ)) CompressionError) (contents : List (List ℕ)) → (first >>= λ bytes. others >>= λ more. Ok (bytes ∷ more)) ≡ Ok contents
    → (bytes : List ℕ) × (more : List (List ℕ)) × (first ≡ Ok bytes) × (others ≡ Ok more) × (contents ≡ bytes ∷ more)
buffers_are (Ok bytes) (Ok more) contents is = let e : contents ≡ bytes ∷ more = cc in (bytes, more, refl, refl, e)
buffers_are (Ok bytes) (Err e) contents is = absurd (cc)
buffers_are (Err e) others contents is = absurd (cc)

count_is : (codec : CompressionCodec) (body : List ℕ) (needed : List Bool) (k : ℕ) (buffers : List BufferSpec) (contents : List (List ℕ)) (offset : ℕ) → decompressed_buffers codec body needed k buffers ≡ Ok contents → length (buffer_specs offset contents) ≡ length buffers
unfolding decompressed_buffers buffer_specs
count_is codec body needed k [] contents offset is = let e : contents ≡ [] = cc in ap (λ (xs : List (List ℕ)). length (buffer_specs offset xs)) e
count_is codec body needed k (first ∷ buffers) contents offset is =
    let h = buffers_are (decompressed_buffer codec body (is_needed_at needed k) first) (decompressed_buffers codec body needed (k + 1) buffers) contents is in
    ap (λ (xs : List (List ℕ)). length (buffer_specs offset xs)) h.4 ∙ ap suc (count_is codec body needed (k + 1) buffers h.1 (offset + length (padded h.0)) h.3)

each_is : (codec : CompressionCodec) (body : List ℕ) (needed : List Bool) (k : ℕ) (buffers : List BufferSpec) (contents : List (List ℕ)) (whole : List ℕ) (offset : ℕ) → decompressed_buffers codec body needed k buffers ≡ Ok contents → From whole offset (body_of contents ++ [])
    → (i : ℕ) (buffer plain : BufferSpec) → slice_get buffers i ≡ Some buffer → slice_get (buffer_specs offset contents) i ≡ Some plain → buffer_slice whole plain.offset plain.length ≡ decompressed_buffer codec body (is_needed_at needed (k + i)) buffer
unfolding decompressed_buffers buffer_specs
each_is codec body needed k [] contents whole offset is from i buffer plain found plain_found = absurd (cc)
each_is codec body needed k (first ∷ buffers) contents whole offset is from zero buffer plain found plain_found =
    let h = buffers_are (decompressed_buffer codec body (is_needed_at needed k) first) (decompressed_buffers codec body needed (k + 1) buffers) contents is in
    let whole_from : From whole offset (body_of (h.0 ∷ h.1) ++ []) = subst (λ (xs : List (List ℕ)). From whole offset (body_of xs ++ [])) h.4 from in
    let at_first : Some (buffer_spec offset h.0) ≡ Some plain = ap (λ (xs : List (List ℕ)). slice_get (buffer_specs offset xs) 0) (sym h.4) ∙ plain_found in
    let is_plain : plain ≡ buffer_spec offset h.0 = cc in
    let is_first : first ≡ buffer = cc in
    let same : k ≡ k + 0 = omega arith in
    ap (λ (b : BufferSpec). buffer_slice whole b.offset b.length) is_plain ∙ first_is whole offset h.0 h.1 [] whole_from ∙ sym h.2
    ∙ ap (λ (b : BufferSpec). decompressed_buffer codec body (is_needed_at needed k) b) is_first ∙ ap (λ (n : ℕ). decompressed_buffer codec body (is_needed_at needed n) buffer) same
each_is codec body needed k (first ∷ buffers) contents whole offset is from (suc i) buffer plain found plain_found =
    let h = buffers_are (decompressed_buffer codec body (is_needed_at needed k) first) (decompressed_buffers codec body needed (k + 1) buffers) contents is in
    let whole_from : From whole offset (body_of (h.0 ∷ h.1) ++ []) = subst (λ (xs : List (List ℕ)). From whole offset (body_of xs ++ [])) h.4 from in
    let at_next : slice_get (buffer_specs (offset + length (padded h.0)) h.1) i ≡ Some plain = ap (λ (xs : List (List ℕ)). slice_get (buffer_specs offset xs) (suc i)) (sym h.4) ∙ plain_found in
    let same : k + 1 + i ≡ k + suc i = omega arith in
    each_is codec body needed (k + 1) buffers h.1 whole (offset + length (padded h.0)) h.3 (others_are whole offset h.0 h.1 [] whole_from) i buffer plain found at_next ∙ ap (λ (n : ℕ). decompressed_buffer codec body (is_needed_at needed n) buffer) same

module _ (codec : CompressionCodec) (body : List ℕ) (buffers : List BufferSpec) (needed : List Bool) where
  pub laid_out_start : (specs : List BufferSpec) (plain : List ℕ) → specs ≡ [] → plain ≡ [] → IsLaidOut codec body buffers needed 0 specs plain
  unfolding buffer_specs body_of
  laid_out_start specs plain no_specs no_bytes = record {
    contents = [];
    specs_are = no_specs;
    plain_is = no_bytes;
    read = nothing_done (decompressed_buffers codec body needed 0 buffers);
  }

  pub laid_out_more : (i : ℕ) (d : BufferSpec) (flag : Bool) (spec : BufferSpec) (specs : List BufferSpec) (plain new : List ℕ) → i < length buffers → flag ≡ is_needed_at needed i
      → laid_out plain (decompressed_buffer codec body flag (get_or buffers i d)) ≡ Ok (spec, new) → IsLaidOut codec body buffers needed i specs plain → IsLaidOut codec body buffers needed (i + 1) (specs ++ spec ∷ []) new
  unfolding decompressed_buffers
  laid_out_more i d flag spec specs plain new lt flag_is is so_far =
      let h = laid_out_is (decompressed_buffer codec body flag (get_or buffers i d)) plain new spec is in
      let first : decompressed_buffer codec body (is_needed_at needed i) (get_or buffers i d) ≡ Ok h.0 = ap (λ (b : Bool). decompressed_buffer codec body b (get_or buffers i d)) (sym flag_is) ∙ h.1 in
      let one : with_done so_far.contents (decompressed_buffers codec body needed i (drop i buffers)) ≡ with_done (so_far.contents ++ h.0 ∷ []) (decompressed_buffers codec body needed (i + 1) (drop (i + 1) buffers)) =
      rw (drop_more buffers i d lt, first) (regroup so_far.contents h.0 (decompressed_buffers codec body needed (i + 1) (drop (i + 1) buffers))) in
      let laid : spec ≡ buffer_spec (0 + length (body_of so_far.contents)) h.0 = h.2 ∙ ap (λ (bytes : List ℕ). buffer_spec (length bytes) h.0) so_far.plain_is ∙ ap (λ (n : ℕ). buffer_spec n h.0) (zero_more (length (body_of so_far.contents))) in
      record {
        contents = so_far.contents ++ h.0 ∷ [];
        specs_are = ap (λ (xs : List BufferSpec). xs ++ spec ∷ []) so_far.specs_are ∙ ap (λ (b : BufferSpec). buffer_specs 0 so_far.contents ++ b ∷ []) laid ∙ sym (specs_push 0 so_far.contents h.0);
        plain_is = h.3 ∙ ap (λ (bytes : List ℕ). bytes ++ padded h.0) so_far.plain_is ∙ sym (body_push so_far.contents h.0);
        read = sym one ∙ so_far.read;
      }

  pub laid_out_fails : (i : ℕ) (d : BufferSpec) (flag : Bool) (specs : List BufferSpec) (plain : List ℕ) (e : CompressionError) → i < length buffers → flag ≡ is_needed_at needed i
      → FailsOrRunsOut e (laid_out plain (decompressed_buffer codec body flag (get_or buffers i d))) → IsLaidOut codec body buffers needed i specs plain → FailsOrRunsOut e (spec_plain_body codec body buffers needed)
  unfolding decompressed_buffers spec_plain_body
  laid_out_fails i d flag specs plain e lt flag_is fails so_far isnt =
      let first : decompressed_buffer codec body (is_needed_at needed i) (get_or buffers i d) ≡ Err e =
      ap (λ (b : Bool). decompressed_buffer codec body b (get_or buffers i d)) (sym flag_is) ∙ failed (decompressed_buffer codec body flag (get_or buffers i d)) plain e (fails isnt) in
      let one : with_done so_far.contents (decompressed_buffers codec body needed i (drop i buffers)) ≡ Err e = rw (drop_more buffers i d lt, first) refl in
      let all : decompressed_buffers codec body needed 0 buffers ≡ Err e = sym so_far.read ∙ one in
      rw all refl

  all_are : (i : ℕ) (specs : List BufferSpec) (plain : List ℕ) → length buffers ≤ i → (so_far : IsLaidOut codec body buffers needed i specs plain) → decompressed_buffers codec body needed 0 buffers ≡ Ok so_far.contents
  unfolding decompressed_buffers
  all_are i specs plain le so_far =
      let one : with_done so_far.contents (decompressed_buffers codec body needed i (drop i buffers)) ≡ Ok so_far.contents = rw (drop_all i buffers le) (ap (λ (xs : List (List ℕ)). Ok xs) (append-nil so_far.contents)) in
      sym so_far.read ∙ one

  pub laid_out_all : (i : ℕ) (specs : List BufferSpec) (plain : List ℕ) → length buffers ≤ i → IsLaidOut codec body buffers needed i specs plain → spec_plain_body codec body buffers needed ≡ Ok (specs, plain)
  unfolding spec_plain_body
  laid_out_all i specs plain le so_far = rw (all_are i specs plain le so_far, so_far.specs_are, so_far.plain_is) refl

  pub laid_out_count : (i : ℕ) (specs : List BufferSpec) (plain : List ℕ) → length buffers ≤ i → IsLaidOut codec body buffers needed i specs plain → length specs ≡ length buffers
  laid_out_count i specs plain le so_far = ap length so_far.specs_are ∙ count_is codec body needed 0 buffers so_far.contents 0 (all_are i specs plain le so_far)

  pub laid_out_decodes : (i : ℕ) (specs : List BufferSpec) (plain : List ℕ) → length buffers ≤ i → IsLaidOut codec body buffers needed i specs plain → DecodesEachBuffer codec body buffers needed specs plain
  laid_out_decodes i specs plain le so_far j buffer spec found spec_found =
      let same : 0 + j ≡ j = omega arith in
      let whole_from : From plain 0 (body_of so_far.contents ++ []) = record { is = so_far.plain_is ∙ sym (append-nil (body_of so_far.contents)); within = omega arith } in
      let found_in_specs : slice_get (buffer_specs 0 so_far.contents) j ≡ Some spec = ap (λ (rs : List BufferSpec). slice_get rs j) (sym so_far.specs_are) ∙ spec_found in
      each_is codec body needed 0 buffers so_far.contents plain 0 (all_are i specs plain le so_far) whole_from j buffer spec found found_in_specs ∙ ap (λ (n : ℕ). decompressed_buffer codec body (is_needed_at needed n) buffer) same
