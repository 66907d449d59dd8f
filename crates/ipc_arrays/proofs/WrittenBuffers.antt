-- A buffer that is written decodes to its content.
use Rattle.std.proofs.Common.{◌≡◌, ℕ, inl, inr, ◌-◌, ◌^◌, ◌≤◌, ◌<◌, true, false, leb, eqb, List, [], ◌++◌, length, Some, None, Ok, refl, sym, ap, ◌∙◌, arith}
use Rattle.std.specs.Prelude.{ℤ, pos, negsuc}
use Rattle.std.specs.Int.{w64, to_le_bytes, cast_unsigned}
use Rattle.std.proofs.lemmas.Bool.{ne_eqb, eq-eqb, le-leb}
use Rattle.std.proofs.lemmas.Int.{to_z_pos}
use Rattle.std.proofs.lemmas.List.{append-nil}
use Rattle.std.proofs.lemmas.Nat.{from_le_bytes-to_le_bytes_8}
use Rattle.lz4_frame.specs.FrameEncodings.{RoundTrips, IsWrittenFrame}
use Rattle.ipc_flatbuf.specs.declared.compression.codec.CompressionCodec.TheVariants.{Lz4Frame}
use Rattle.ipc_arrays.specs.CompressedBuffers.{spec_decoded, spec_content_of_size, spec_next_size, content_of, decompressed}
use Rattle.ipc_arrays.specs.WrittenBuffers.{after_length, AppendsBuffer}

-- the stated length of a content is read
size_again : (size : ℕ) (bytes : List ℕ) → size < 2 ^ 63 → spec_next_size (after_length (pos size) bytes) ≡ Ok (Some size, bytes)
unfolding spec_next_size after_length
size_again size bytes lt =
    let long : 8 ≤ length (to_le_bytes w64 size ++ bytes) = omega arith in
    let enough : leb 8 (length (to_le_bytes w64 size ++ bytes)) ≡ true = le-leb 8 (length (to_le_bytes w64 size ++ bytes)) long in
    let below : size < 2 ^ 64 = omega arith in
    rw (enough, from_le_bytes-to_le_bytes_8 size below, to_z_pos w64 size lt) refl

minus_one_again : (bytes : List ℕ) → spec_next_size (after_length (negsuc 0) bytes) ≡ Ok (None, bytes)
unfolding spec_next_size after_length
minus_one_again bytes =
    let long : 8 ≤ length (to_le_bytes w64 (2 ^ 64 - 1) ++ bytes) = omega arith in
    let enough : leb 8 (length (to_le_bytes w64 (2 ^ 64 - 1) ++ bytes)) ≡ true = le-leb 8 (length (to_le_bytes w64 (2 ^ 64 - 1) ++ bytes)) long in
    rw enough refl

not_empty : (stated : ℤ) (bytes : List ℕ) → eqb (length (after_length stated bytes)) 0 ≡ false
unfolding after_length
not_empty stated bytes =
    let some : length (to_le_bytes w64 (cast_unsigned w64 stated) ++ bytes) ≡ 0 → ⊥ = omega arith in
    ne_eqb (length (to_le_bytes w64 (cast_unsigned w64 stated) ++ bytes)) 0 some

compressed_again : (content frame : List ℕ) → length content < 2 ^ 63 → RoundTrips content frame → decompressed Lz4Frame (after_length (pos (length content)) frame) ≡ Ok content
unfolding decompressed content_of spec_content_of_size spec_decoded
compressed_again content frame lt again =
    let le : length content ≤ length content = omega arith in
    let same : eqb (length content) (length content) ≡ true = eq-eqb (length content) (length content) refl in
    rw (not_empty (pos (length content)) frame, size_again (length content) frame lt, again (length content) le, same) refl

stored_again : (content : List ℕ) → decompressed Lz4Frame (after_length (negsuc 0) content) ≡ Ok content
unfolding decompressed content_of
stored_again content = rw (not_empty (negsuc 0) content, minus_one_again content) refl

empty_again : decompressed Lz4Frame [] ≡ Ok []
unfolding decompressed
empty_again = refl

-- ---- what is appended

pub empty_is : (old new content : List ℕ) → content ≡ [] → new ≡ old → AppendsBuffer old new content
empty_is old new content nothing same = ([], record { decodes = empty_again ∙ ap (λ (bytes : List ℕ). Ok bytes) (sym nothing); shape = inl (refl, nothing) }, same ∙ sym (append-nil old))

pub compressed_is : (old new content frame : List ℕ) → IsWrittenFrame content frame → RoundTrips content frame → length frame < length content → length content < 2 ^ 63 → new ≡ old ++ after_length (pos (length content)) frame → AppendsBuffer old new content
compressed_is old new content frame written again shorter small is = (after_length (pos (length content)) frame, record { decodes = compressed_again content frame small again; shape = inr (inl (frame, written, shorter, refl)) }, is)

pub stored_is : (old new content : List ℕ) → new ≡ old ++ after_length (negsuc 0) content → AppendsBuffer old new content
stored_is old new content is = (after_length (negsuc 0) content, record { decodes = stored_again content; shape = inr (inr refl) }, is)
