-- The buffers that a view array is converted to are read as its strings.
use Rattle.std.proofs.Common.{◌≡◌, ℕ, ◌+◌, ◌-◌, ◌^◌, ◌<◌, ◌*◌, leb, Bool, true, false, List, [], ◌∷◌, ◌++◌, length, map, Ok, refl, sym, ap, subst, ◌∙◌, arith}
use Rattle.std.specs.Prelude.{pos}
use Rattle.std.specs.Int.{w64}
use Rattle.std.specs.Int.RustNames.{FitsSigned}
use Rattle.std.specs.List.{AllByRecursion, concat}
use Rattle.std.proofs.lemmas.Bool.{le-leb}
use Rattle.std.proofs.lemmas.Int.{ints}
use Rattle.std.proofs.lemmas.List.{append-nil, length-append, take_all}
use Rattle.ipc_flatbuf.specs.FlatbufferLaws.{From}
use Rattle.ipc_flatbuf.specs.ReadResults.{◌>>=◌, check}
use Rattle.ipc_flatbuf.specs.declared.error.IpcReadError.TheVariants.{BufferTooShort}
use Rattle.nest_memory.specs.Native.{unsigned}
use Rattle.nest_memory.specs.Rising.{ends_from}
use Rattle.nest_memory.specs.TypeTree.{TypeTree}
use Rattle.nest_model.specs.Layout.{binary}
use Rattle.nest_model.specs.Part.{Validity, count_rows}
use Rattle.ipc_arrays.specs.BodyBuffers.{padded, body_of, buffer_specs}
use Rattle.ipc_arrays.specs.BodyBufferLaws.{next_behind}
use Rattle.ipc_arrays.specs.Decoding.{binary_parts, decoded_validity, decoded_validity_buffer, decoded_offsets, decoded_data, decoded_variable_size_head, decoded_binary_parts, decoded_binary, checked_utf8, decoded_utf8}
use Rattle.ipc_arrays.specs.DecodingLaws.{found}
use Rattle.ipc_arrays.specs.EachSlot.{each_slot}
use Rattle.ipc_arrays.specs.EachSlotLaws.{IsEach, each_is}
use Rattle.ipc_arrays.specs.Encoding.{rebased, offset_bytes}
use Rattle.ipc_arrays.specs.EncodingLaws.{Later, rest_with, buffer_again, no_buffers}
use Rattle.ipc_arrays.specs.FixedWidth.{offset_format}
use Rattle.ipc_arrays.specs.FixedWidthLaws.{ValueRoundTrips, round_trip_i64}
use Rattle.ipc_arrays.specs.PackedStrings.{packed_offsets, packed_bytes}
use Rattle.ipc_arrays.specs.PackedStringLaws.{packed_rise, packed_last, rows_long}
use Rattle.ipc_arrays.specs.Stored.{string_contents, view_contents}
use Rattle.ipc_arrays.specs.VariableSizeLaws.{offsets_again}
use Rattle.ipc_arrays.specs.Views.{viewed_string, viewed_strings, packed_strings, spec_packed_views}
use Rattle.ipc_arrays.specs.declared.cursor.NodeCounts.{NodeCounts}

-- Let a view array have this validity and these strings. The buffers that it is converted to decode to a large binary array of the strings,
-- and to the large UTF-8 array of the strings if they are UTF-8. (A string of 2^63 bytes is not in memory.)
abbrev pub ViewsAreRead : Type 0
ViewsAreRead =
    (counts : NodeCounts) (bits views : List ℕ) (variadic strings contents : List (List ℕ)) (validity : Validity) (t : TypeTree) (later : Later)
    → decoded_validity counts bits ≡ Ok validity → viewed_strings validity counts.slots views variadic ≡ Ok strings → length (packed_bytes strings) < 2 ^ 63 → view_contents counts (bits ∷ views ∷ variadic) ≡ Ok contents
    → (decoded_binary true t counts (body_of contents) (rest_with later (buffer_specs 0 contents)) ≡ Ok (binary true t (packed_offsets strings) (packed_bytes strings) validity, rest_with later []))
    × (decoded_utf8 true t counts (body_of contents) (rest_with later (buffer_specs 0 contents)) ≡ (checked_utf8 true t (binary_parts (packed_offsets strings) (packed_bytes strings) validity) >>= λ a. Ok (a, rest_with later [])))

-- ---- offsets

less_zero : (ns : List ℕ) → map (λ n. n - 0) ns ≡ ns
less_zero [] = refl
less_zero (n ∷ ns) = let e : n - 0 ≡ n = omega arith in (λ w. e w ∷ less_zero ns w)

ends_round_trip : (a : ℕ) (ss : List (List ℕ)) → a + length (concat ss) < 2 ^ 63 → AllByRecursion (ValueRoundTrips (offset_format true)) (map unsigned (a ∷ ends_from a (map length ss)))
ends_round_trip a [] small =
    let fits : FitsSigned w64 (pos a) = omega (arith, ints, small) in
    (round_trip_i64 (pos a) fits, tt)
ends_round_trip a (s ∷ ss) small =
    let fits : FitsSigned w64 (pos a) = omega (arith, ints, small) in
    (round_trip_i64 (pos a) fits, ends_round_trip (a + length s) ss (omega (arith, small, length-append s (concat ss))))

offsets_read : (ss : List (List ℕ)) (slots : ℕ) → length ss ≡ slots → length (packed_bytes ss) < 2 ^ 63 → decoded_offsets true slots (offset_bytes true (packed_offsets ss)) ≡ Ok (packed_offsets ss)
offsets_read ss slots many small =
    let same : rebased (packed_offsets ss) ≡ packed_offsets ss = less_zero (packed_offsets ss) in
    let all : AllByRecursion (ValueRoundTrips (offset_format true)) (map unsigned (packed_offsets ss)) = ends_round_trip 0 ss (omega (arith, small)) in
    let trips : AllByRecursion (ValueRoundTrips (offset_format true)) (map unsigned (rebased (packed_offsets ss))) = subst (λ (os : List ℕ). AllByRecursion (ValueRoundTrips (offset_format true)) (map unsigned os)) (sym same) all in
    let rows : slots ≡ count_rows (packed_offsets ss) = sym (rows_long ss ∙ many) in
    (λ w. decoded_offsets true (rows w) (offset_bytes true (sym same w))) ∙ offsets_again true (packed_offsets ss) (packed_rise ss) trips ∙ ap (λ (os : List ℕ). Ok os) same

-- there are as many strings as slots
one_each : (validity : Validity) (slots : ℕ) (views : List ℕ) (variadic strings : List (List ℕ)) → viewed_strings validity slots views variadic ≡ Ok strings → length strings ≡ slots
unfolding viewed_strings
one_each validity slots views variadic strings is = by (leb (slots * 16) (length views)) is
  where
    by : (b : Bool) → (check b BufferTooShort >>= λ enough. each_slot (viewed_string validity views variadic) slots) ≡ Ok strings → length strings ≡ slots
    by true is = (found (IsEach (viewed_string validity views variadic) slots) (each_slot (viewed_string validity views variadic) slots) strings is (each_is (viewed_string validity views variadic) slots)).long
    by false is = absurd (cc)

-- ---- buffers

parts_read : (counts : NodeCounts) (bits : List ℕ) (strings : List (List ℕ)) (validity : Validity) (later : Later) → decoded_validity counts bits ≡ Ok validity → length strings ≡ counts.slots → length (packed_bytes strings) < 2 ^ 63
    → decoded_binary_parts true counts (body_of (string_contents bits (packed_strings strings))) (rest_with later (buffer_specs 0 (string_contents bits (packed_strings strings)))) ≡ Ok (binary_parts (packed_offsets strings) (packed_bytes strings) validity, rest_with later [])
unfolding string_contents packed_strings decoded_binary_parts decoded_variable_size_head decoded_validity_buffer decoded_data
parts_read counts bits strings validity later valid many small =
    let offsets : List ℕ = offset_bytes true (packed_offsets strings) in
    let bytes : List ℕ = packed_bytes strings in
    let contents : List (List ℕ) = bits ∷ offsets ∷ bytes ∷ [] in
    let whole : List ℕ = body_of contents in
    let none : buffer_specs 0 contents ≡ buffer_specs 0 contents ++ [] = sym (append-nil (buffer_specs 0 contents)) in
    let from : From whole 0 (body_of contents ++ []) = record { is = sym (append-nil whole); within = omega arith } in
    let first = buffer_again whole 0 bits (offsets ∷ bytes ∷ []) [] later [] from in
    let after_first = next_behind whole 0 bits (offsets ∷ bytes ∷ []) [] from in
    let second = buffer_again whole (0 + length (padded bits)) offsets (bytes ∷ []) [] later [] after_first in
    let after_second = next_behind whole (0 + length (padded bits)) offsets (bytes ∷ []) [] after_first in
    let third = buffer_again whole (0 + length (padded bits) + length (padded offsets)) bytes [] [] later [] after_second in
    let fits : leb (length bytes) (length bytes) ≡ true = le-leb _ _ (omega arith) in
    rw (none, first, valid, second, offsets_read strings counts.slots many small, third, packed_last strings, fits, take_all (length bytes) bytes (omega arith), no_buffers (0 + length (padded bits) + length (padded offsets) + length (padded bytes))) refl

pub views_are_read : ViewsAreRead
unfolding view_contents spec_packed_views decoded_binary decoded_utf8
views_are_read counts bits views variadic strings contents validity t later valid viewed small is =
    let converted : view_contents counts (bits ∷ views ∷ variadic) ≡ Ok (string_contents bits (packed_strings strings)) = rw (valid, viewed) refl in
    let contents_are : contents ≡ string_contents bits (packed_strings strings) = cc in
    let parts = parts_read counts bits strings validity later valid (one_each validity counts.slots views variadic strings viewed) small in
    (rw (contents_are, parts) refl, rw (contents_are, parts) refl)
