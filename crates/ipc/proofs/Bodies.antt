-- Compressing a body buffer by buffer, as a loop does.
use Rattle.std.proofs.Common.{◌≡◌, ℕ, zero, suc, ◌+◌, ◌<◌, ◌≤◌, true, false, List, [], ◌∷◌, ◌++◌, length, take, drop, get_or, Result, Ok, Err, refl, sym, ap, subst, ◌∙◌, append_assoc, length-append, arith}
use Rattle.std.specs.Prelude.{◌-◌, ℤ, pos, negsuc, nat_abs, Bool}
use Rattle.std.proofs.lemmas.List.{take_all}
use Rattle.ipc_flatbuf.specs.ReadResults.{◌>>=◌, check}
use Rattle.ipc_flatbuf.specs.declared.error.IpcReadError.{IpcReadError}
use Rattle.ipc_flatbuf.specs.declared.error.IpcReadError.TheVariants.{BufferRange}
use Rattle.ipc_flatbuf.specs.declared.compression.error.CompressionError.{CompressionError}
use Rattle.ipc_flatbuf.specs.declared.batch.parts.BufferSpec.{BufferSpec}
use Rattle.ipc_flatbuf.specs.Batches.{spec_is_within, spec_each_within, spec_all_within}
use Rattle.ipc_flatbuf.specs.MessageBytes.{padding}
use Rattle.ipc_arrays.specs.BodyBuffers.{padded, body_of, buffer_specs}
use Rattle.ipc_arrays.specs.PlainBodies.{buffer_slice, buffer_spec}
use Rattle.ipc_arrays.specs.PlainBodyLaws.{body_push, specs_push}
use Rattle.ipc_arrays.specs.WrittenBuffers.{IsWrittenBuffer, AppendsBuffer}
use Rattle.ipc.specs.CompressedBodies.{AreContents, AreWrittenBuffers, AppendsPadded, CompressesBody}

-- ---- each buffer is within the body

passed : (b : Bool) (rest : Result (Unit {0}) IpcReadError) → (check b BufferRange >>= λ one. rest) ≡ Ok tt → (b ≡ true) × (rest ≡ Ok tt)
passed true rest h = (refl, h)
passed false rest h = cc

each_within : (size : ℕ) (buffers : List BufferSpec) (i : ℕ) (d : BufferSpec) → spec_each_within size buffers ≡ Ok tt → i < length buffers → spec_is_within size (get_or buffers i d).offset (get_or buffers i d).length ≡ true
unfolding spec_each_within
each_within size [] i d h lt = absurd (omega (arith, lt))
each_within size (b ∷ buffers) zero d h lt = (passed (spec_is_within size b.offset b.length) (spec_each_within size buffers) h).0
each_within size (b ∷ buffers) (suc i) d h lt = each_within size buffers i d (passed (spec_is_within size b.offset b.length) (spec_each_within size buffers) h).1 (omega (arith, lt))

first_passed : (read : Result (Unit {0}) IpcReadError) (next : Unit {0} → Result (Unit {0}) IpcReadError) → (read >>= next) ≡ Ok tt → read ≡ Ok tt
first_passed (Ok u) next h = refl
first_passed (Err e) next h = cc

pub is_within : (size : ℕ) (buffers : List BufferSpec) (i : ℕ) (d : BufferSpec) → spec_all_within size buffers ≡ Ok tt → i < length buffers → spec_is_within size (get_or buffers i d).offset (get_or buffers i d).length ≡ true
unfolding spec_all_within
is_within size buffers i d h lt = each_within size buffers i d (first_passed (spec_each_within size buffers) _ h) lt

-- its bytes
pub slice_is : (body : List ℕ) (offset size : ℤ) → spec_is_within (length body) offset size ≡ true → buffer_slice body offset size ≡ Ok (take (nat_abs offset + nat_abs size - nat_abs offset) (drop (nat_abs offset) body))
unfolding buffer_slice
slice_is body (pos offset) (pos size) h = let e : offset + size - offset ≡ size = omega arith in rw (h, e) refl
slice_is body (pos offset) (negsuc size) h = cc
slice_is body (negsuc offset) size h = cc

-- ---- a compressed buffer with its padding

pub padded_is : (content old mid new : List ℕ) (offset size : ℕ) → AppendsBuffer old mid content → offset ≡ length old → size ≡ length mid - offset → new ≡ mid ++ padding size → AppendsPadded content old (record { offset = pos offset; length = pos size }) new
unfolding padded
padded_is content old mid new offset size appended offset_is long padding_is =
    let buffer : List ℕ = appended.0 in
    let size_is : size ≡ length buffer = omega (arith, long, offset_is, ap length appended.2, length-append old buffer) in
    record {
      buffer = buffer;
      written = appended.1;
      spec_is = λ w. record { offset = pos (offset_is w); length = pos (size_is w) };
      bytes = padding_is ∙ ap (λ (xs : List ℕ). xs ++ padding size) appended.2 ∙ ap (λ (n : ℕ). (old ++ buffer) ++ padding n) size_is ∙ append_assoc old buffer (padding (length buffer));
    }

-- ---- the loop

-- the buffers before index i are compressed
abbrev pub CompressesFirst : List ℕ → List BufferSpec → ℕ → List BufferSpec → List ℕ → Type 0
CompressesFirst body buffers i specs out = (contents : List (List ℕ)) → AreContents body buffers contents → CompressesBody (take i contents) specs out

pub none_compressed : (body : List ℕ) (buffers specs : List BufferSpec) (out : List ℕ) → specs ≡ [] → out ≡ [] → CompressesFirst body buffers 0 specs out
unfolding buffer_specs body_of
none_compressed body buffers specs out no_specs no_bytes = λ contents are. record { buffers = []; written = tt; specs_are = no_specs; body_is = no_bytes }

-- the content at an index
record ContentAt (body : List ℕ) (b : BufferSpec) (contents : List (List ℕ)) (i : ℕ) : Type 0 where
  content : List ℕ
  is : buffer_slice body b.offset b.length ≡ Ok content
  more : take (i + 1) contents ≡ take i contents ++ content ∷ []

next : (i : ℕ) → suc i + 1 ≡ suc (i + 1)
next i = omega arith

content_at : (body : List ℕ) (buffers : List BufferSpec) (contents : List (List ℕ)) (i : ℕ) (d : BufferSpec) → AreContents body buffers contents → i < length buffers → ContentAt body (get_or buffers i d) contents i
content_at body [] contents i d are lt = absurd (omega (arith, lt))
content_at body (b ∷ buffers) [] i d are lt = absurd are
content_at body (b ∷ buffers) (c ∷ contents) zero d are lt = record { content = c; is = are.0; more = refl }
content_at body (b ∷ buffers) (c ∷ contents) (suc i) d are lt =
    let rest = content_at body buffers contents i d are.1 (omega (arith, lt)) in
    record { content = rest.content; is = rest.is; more = ap (λ (n : ℕ). take n (c ∷ contents)) (next i) ∙ ap (λ (cs : List (List ℕ)). c ∷ cs) rest.more }

written_push : (buffers contents : List (List ℕ)) (buffer content : List ℕ) → AreWrittenBuffers buffers contents → IsWrittenBuffer buffer content → AreWrittenBuffers (buffers ++ buffer ∷ []) (contents ++ content ∷ [])
written_push [] [] buffer content are is = (is, tt)
written_push [] (c ∷ contents) buffer content are is = absurd are
written_push (b ∷ buffers) [] buffer content are is = absurd are
written_push (b ∷ buffers) (c ∷ contents) buffer content are is = (are.0, written_push buffers contents buffer content are.1 is)

same_bytes : (read : Result (List ℕ) CompressionError) (xs ys : List ℕ) → read ≡ Ok xs → read ≡ Ok ys → ys ≡ xs
same_bytes read xs ys h k = cc

pub one_compressed : (body : List ℕ) (buffers : List BufferSpec) (i : ℕ) (d : BufferSpec) (content : List ℕ) (specs more : List BufferSpec) (spec : BufferSpec) (out new : List ℕ) → i < length buffers
    → buffer_slice body (get_or buffers i d).offset (get_or buffers i d).length ≡ Ok content → AppendsPadded content out spec new → more ≡ specs ++ spec ∷ [] → CompressesFirst body buffers i specs out → CompressesFirst body buffers (i + 1) more new
one_compressed body buffers i d content specs more spec out new lt slice appended pushed so_far = λ contents are.
    let here : ContentAt body (get_or buffers i d) contents i = content_at body buffers contents i d are lt in
    let done = so_far contents are in
    let same : content ≡ here.content = same_bytes (buffer_slice body (get_or buffers i d).offset (get_or buffers i d).length) here.content content here.is slice in
    let written : IsWrittenBuffer appended.buffer here.content = subst (IsWrittenBuffer appended.buffer) same appended.written in
    let long : length out ≡ 0 + length (body_of done.buffers) = omega (arith, ap length done.body_is) in
    record {
      buffers = done.buffers ++ appended.buffer ∷ [];
      written = subst (λ (cs : List (List ℕ)). AreWrittenBuffers (done.buffers ++ appended.buffer ∷ []) cs) (sym here.more) (written_push done.buffers (take i contents) appended.buffer here.content done.written written);
      specs_are = pushed ∙ ap (λ (xs : List BufferSpec). xs ++ spec ∷ []) done.specs_are ∙ ap (λ (x : BufferSpec). buffer_specs 0 done.buffers ++ x ∷ []) (appended.spec_is ∙ ap (λ (n : ℕ). buffer_spec n appended.buffer) long) ∙ sym (specs_push 0 done.buffers appended.buffer);
      body_is = appended.bytes ∙ ap (λ (xs : List ℕ). xs ++ padded appended.buffer) done.body_is ∙ sym (body_push done.buffers appended.buffer);
    }

as_long : (body : List ℕ) (buffers : List BufferSpec) (contents : List (List ℕ)) → AreContents body buffers contents → length contents ≡ length buffers
as_long body [] [] are = refl
as_long body [] (c ∷ contents) are = absurd are
as_long body (b ∷ buffers) [] are = absurd are
as_long body (b ∷ buffers) (c ∷ contents) are = ap suc (as_long body buffers contents are.1)

pub all_compressed : (body : List ℕ) (buffers : List BufferSpec) (i : ℕ) (specs : List BufferSpec) (out : List ℕ) → length buffers ≤ i → CompressesFirst body buffers i specs out → (contents : List (List ℕ)) → AreContents body buffers contents → CompressesBody contents specs out
all_compressed body buffers i specs out le so_far = λ contents are.
    subst (λ (cs : List (List ℕ)). CompressesBody cs specs out) (take_all i contents (omega (arith, as_long body buffers contents are, le))) (so_far contents are)
