-- Flat arrays round-trip, wherever they are in a body.
use Rattle.std.proofs.Common.{◌≡◌, ℕ, zero, suc, ◌+◌, ◌*◌, ◌/◌, ◌%◌, ◌<◌, ◌≤◌, Bool, true, false, not, eqb, leb, ltb, List, [], ◌∷◌, ◌++◌, length, get_or, map, Some, None, Ok, refl, sym, ap, subst, ◌∙◌, arith}
use Rattle.std.specs.Prelude.{ℤ, pos, count_by, Option, if◌then◌else◌, ◌&&◌}
use Rattle.std.specs.List.{AllByRecursion}
use Rattle.std.proofs.Math.Nat.{div-add-mod}
use Rattle.std.proofs.lemmas.Bool.{le-leb, lt-ltb}
use Rattle.std.proofs.lemmas.List.{append-nil, take_all}
use Rattle.std.proofs.lemmas.List.Sums.{sum_by-cons, count_by-le-length}
use Rattle.ipc_flatbuf.specs.FlatbufferLaws.{From}
use Rattle.ipc_flatbuf.specs.declared.batch.parts.FieldNode.{FieldNode}
use Rattle.ipc_flatbuf.specs.declared.batch.parts.BufferSpec.{BufferSpec}
use Rattle.nest_memory.specs.Bits.{bits_from}
use Rattle.nest_memory.specs.Sublist.{sublist}
use Rattle.nest_memory.specs.Native.{unsigned}
use Rattle.nest_memory.specs.Rising.{last_of}
use Rattle.nest_memory.specs.TypeTree as types
use Rattle.nest_memory.specs.TypeTree.{TypeTree, size_of, key_type, value_type}
use Rattle.nest_memory.specs.Physical.{physical_type, primitive_tree, binary_of_width, utf8_of_width}
use Rattle.nest_memory.specs.declared.datatypes.IntegerType.{IntegerType}
use Rattle.nest_memory.specs.declared.datatypes.IntegerType.TheVariants as integers
use Rattle.nest_memory.specs.declared.datatypes.physical_type.PhysicalType.{PhysicalType}
use Rattle.nest_memory.specs.declared.datatypes.physical_type.PhysicalType.TheVariants as physical
use Rattle.nest_memory.specs.declared.datatypes.physical_type.PrimitiveType.{PrimitiveType}
use Rattle.nest_memory.specs.declared.datatypes.physical_type.PrimitiveType.TheVariants as primitives
use Rattle.nest_model.specs.Accessors.{validity_of, key_at}
use Rattle.nest_model.specs.Array.{TopFits, AreKeys, AreOffsets}
use Rattle.nest_model.specs.Fits.{ValidityFits, IsLogically, EachValidNames, covered}
use Rattle.nest_model.specs.Slice.{slice_layout, slice_offsets}
use Rattle.nest_model.specs.Layout.{Layout, null, boolean, primitive, binary, utf8, fixed_size_binary, fixed_size_list, list as list_of, map as map_of, struct, union, dictionary, layout_type}
use Rattle.nest_model.specs.Meaning.{len, slot}
use Rattle.nest_model.specs.Nullness.{null_count, is_null_at}
use Rattle.nest_model.specs.NullnessLaws.{null_count-bits, null_count-none}
use Rattle.nest_model.specs.Part.{Validity, valid_at, count_rows, to_index as named_place}
use Rattle.nest_model.specs.Slot as slots
use Rattle.nest_model.specs.Slot.{Slot}
use Rattle.ipc_arrays.specs.Decoding.{Rest, first_counts, decoded_node, decoded_buffer, decoded_validity_buffer, decoded_bits, decoded_validity, decoded_bytes, decoded_data, are_utf8, checked_length, decoded_boolean, decoded_primitive, decoded_fixed_size_binary, decoded_variable_size_head, decoded_binary_parts, decoded_binary, decoded_utf8, decoded_values, decoded_keys_as, are_keys_in_range, first_values, decoded_dictionary_values, decoded_dictionary, decoded_fixed_width, decoded_flat, decoded_offsets, decoded_array}
use Rattle.ipc_arrays.specs.DictionaryKeys.{key_primitive, key_format, zero_at_nulls, is_same_logical_type}
use Rattle.ipc_arrays.specs.DictionaryKeyLaws.{blanked_long}
use Rattle.ipc_arrays.specs.DictionaryLaws.{key_sized, dictionary_kind, logically_so, each_named, blank_twice, key_stays, names_stay}
use Rattle.ipc_arrays.specs.declared.cursor.NodeCounts.{NodeCounts}
use Rattle.ipc_arrays.specs.declared.cursor.ExpectedLength.{ExpectedLength}
use Rattle.ipc_arrays.specs.Bitmaps.{bitmap_bytes}
use Rattle.ipc_arrays.specs.BitmapLaws.{packed_long, packed_again}
use Rattle.ipc_arrays.specs.BodyBuffers.{padded, body_of, buffer_specs}
use Rattle.ipc_arrays.specs.BodyBufferLaws.{next_again, next_behind}
use Rattle.ipc_arrays.specs.FixedWidth.{ByteFormat, format_of, offset_format, type_format, values_bytes}
use Rattle.ipc_arrays.specs.FixedWidthLaws.{ValueRoundTrips, IsSized, form_sized, natives_again}
use Rattle.ipc_arrays.specs.VariableSizeLaws.{string_again, last_covered, offsets_again, texts_again}
use Rattle.ipc_arrays.specs.Encoding.{normalized_validity, normalized_keys, normalized_flat, rebased, validity_bytes, normalized_validity_bytes, bytes_by, offset_bytes, string_buffers, flat_buffers, field_node_of, own_dictionaries, dictionaries_of}

abbrev pub RoundTripsInFormat : Option ByteFormat → List (List ℤ) → Type 0
RoundTripsInFormat None values = ⊥
RoundTripsInFormat (Some format) values = AllByRecursion (ValueRoundTrips format) values

-- each offset round-trips
abbrev pub OffsetsRoundTrip : Bool → List ℕ → Type 0
OffsetsRoundTrip large os = AllByRecursion (ValueRoundTrips (offset_format large)) (map unsigned (rebased os))

-- each key round-trips, also that of a null slot
abbrev pub KeysRoundTrip : Layout → Type 0
KeysRoundTrip (primitive k t values validity) = RoundTripsInFormat (format_of k) (zero_at_nulls validity values)
KeysRoundTrip ks = ⊥

-- an array can be written, and each of its values round-trips
abbrev pub ValuesRoundTrip : Layout → Type 0
ValuesRoundTrip (null t n) = Unit {0}
ValuesRoundTrip (boolean t bits validity) = Unit {0}
ValuesRoundTrip (primitive k t values validity) = RoundTripsInFormat (format_of k) values
ValuesRoundTrip (fixed_size_binary t bs validity) = Unit {0}
ValuesRoundTrip (binary large t os bs validity) = OffsetsRoundTrip large os
ValuesRoundTrip (utf8 large t os bs validity) = OffsetsRoundTrip large os
ValuesRoundTrip (dictionary t ks c) = KeysRoundTrip ks
ValuesRoundTrip a = ⊥

pub record IsWritable (a : Layout) : Type 0 where
  pub fits : TopFits a
  pub numbers : ValuesRoundTrip a

-- each integer of a buffer of a union round-trips
abbrev pub NumbersRoundTrip : ByteFormat → List ℤ → Type 0
NumbersRoundTrip format zs = AllByRecursion (ValueRoundTrips format) (map (λ z. z ∷ []) zs)

abbrev pub UnionPartsRoundTrip : List ℤ → Option (List ℤ) → Type 0
UnionPartsRoundTrip ks None = NumbersRoundTrip type_format ks
UnionPartsRoundTrip ks (Some os) = NumbersRoundTrip type_format ks × NumbersRoundTrip (offset_format false) os

-- the values of the n slots from index o on round-trip, without those of children
abbrev pub OwnBuffersRoundTrip : Layout → ℕ → ℕ → Type 0
OwnBuffersRoundTrip (fixed_size_list t c va) o n = Unit {0}
OwnBuffersRoundTrip (list_of large t os c va) o n = OffsetsRoundTrip large (sublist os o (n + 1))
OwnBuffersRoundTrip (map_of t os c va) o n = OffsetsRoundTrip false (sublist os o (n + 1))
OwnBuffersRoundTrip (struct t cs va) o n = Unit {0}
OwnBuffersRoundTrip (union t ks cs os start) o n = UnionPartsRoundTrip (sublist ks o n) (slice_offsets os o n)
OwnBuffersRoundTrip a o n = ValuesRoundTrip (slice_layout a o n)

-- ---- validities

counted : (b : Bool) (bits : List Bool) → count_by not (b ∷ bits) ≡ (if not b then 1 else 0) + count_by not bits
counted b bits = sum_by-cons (λ y. if not y then 1 else 0) b bits

-- if no bit is 0, all are 1
all_set : (bits : List Bool) → count_by not bits ≡ 0 → (i : ℕ) → get_or bits i true ≡ true
all_set [] none i = refl
all_set (true ∷ bits) none zero = refl
all_set (true ∷ bits) none (suc i) = all_set bits (omega (arith, counted true bits, none)) i
all_set (false ∷ bits) none i = absurd (omega (arith, counted false bits, none))

and_false : (b : Bool) → (b && false) ≡ false
and_false true = refl
and_false false = refl

pub eqb-same : (n : ℕ) → eqb n n ≡ true
eqb-same n = grind arith

pub eqb-zero : (n : ℕ) → eqb n 0 ≡ true → n ≡ 0
eqb-zero n e = grind arith

abbrev pub null_bits : Validity → ℕ
null_bits None = 0
null_bits (Some bits) = count_by not bits

bits_read : (bits : List Bool) → decoded_bits (length bits) (bitmap_bytes bits) ≡ Ok bits
unfolding decoded_bits
bits_read bits =
    let enough : leb (length bits) (8 * length (bitmap_bytes bits)) ≡ true = le-leb _ _ (omega (arith, packed_long bits)) in
    let bytes : bits_from (bitmap_bytes bits) 0 (length bits) ≡ bits = ap (λ (x : List ℕ). bits_from x 0 (length bits)) (sym (append-nil (bitmap_bytes bits))) ∙ packed_again bits [] in
    rw (enough, bytes) refl

bits_again : (bits : List Bool) (b : Bool) → eqb (count_by not bits) 0 ≡ b → decoded_validity (record { slots = length bits; nulls = count_by not bits }) (validity_bytes (normalized_validity (Some bits))) ≡ Ok (normalized_validity (Some bits))
unfolding decoded_validity
bits_again bits true e = rw e refl
bits_again bits false e = rw (e, and_false, bits_read bits, eqb-same (count_by not bits)) refl

validity_again : (va : Validity) (n : ℕ) → ValidityFits va n → decoded_validity (record { slots = n; nulls = null_bits va }) (validity_bytes (normalized_validity va)) ≡ Ok (normalized_validity va)
unfolding decoded_validity
validity_again None n fits = refl
validity_again (Some bits) n fits =
    subst (λ (m : ℕ). decoded_validity (record { slots = m; nulls = count_by not bits }) (validity_bytes (normalized_validity (Some bits))) ≡ Ok (normalized_validity (Some bits))) fits
    (bits_again bits (eqb (count_by not bits) 0) refl)

-- the null count of an array with this validity
pub nulls_are : (a : Layout) (va : Validity) → is_null_at a 0 ≡ not (valid_at va 0) → validity_of a ≡ va → ValidityFits va (len a) → null_count a ≡ null_bits va
nulls_are a None some e fits = null_count-none a some e
nulls_are a (Some bits) some e fits = null_count-bits a bits e fits

pub unset_few : (va : Validity) (n : ℕ) → ValidityFits va n → null_bits va ≤ n
unset_few None n fits = omega arith
unset_few (Some bits) n fits = omega (arith, fits, count_by-le-length not bits)

-- ---- parts of an array, wherever they are in a body

-- the field nodes and dictionary values of the arrays that follow
pub record Later : Type 0 where
  pub nodes : List FieldNode
  pub dictionaries : List (Option Layout)

abbrev pub rest_with : Later → List BufferSpec → Rest
rest_with ns buffers = record { nodes = ns.nodes; buffers = buffers; dictionaries = ns.dictionaries }

-- these followed by others
abbrev pub before : List Layout → Later → Later
before arrays ns = record { nodes = map field_node_of arrays ++ ns.nodes; dictionaries = dictionaries_of arrays ++ ns.dictionaries }

-- an array followed by others, once its field node is read
abbrev pub begun : Layout → Later → Later
begun a ns = record { nodes = ns.nodes; dictionaries = own_dictionaries a ++ ns.dictionaries }

pub buffer_again : (whole : List ℕ) (place : ℕ) (bytes : List ℕ) (buffers : List (List ℕ)) (tail : List ℕ) (ns : Later) (more : List BufferSpec) → From whole place (body_of (bytes ∷ buffers) ++ tail)
    → decoded_buffer whole (rest_with ns (buffer_specs place (bytes ∷ buffers) ++ more)) ≡ Ok (bytes, rest_with ns (buffer_specs (place + length (padded bytes)) buffers ++ more))
unfolding decoded_buffer
buffer_again whole place bytes buffers tail ns more h = rw (next_again whole place bytes buffers tail more h) refl

pub node_again : (expected : ExpectedLength) (n nulls : ℕ) (ns : Later) (buffers : List BufferSpec) → nulls ≤ n → checked_length expected n ≡ Ok tt
    → decoded_node expected (rest_with (record { nodes = record { length = pos n; null_count = pos nulls } ∷ ns.nodes; dictionaries = ns.dictionaries }) buffers) ≡ Ok (record { slots = n; nulls = nulls }, rest_with ns buffers)
unfolding decoded_node first_counts
node_again expected n nulls ns buffers few is =
    let fits : leb nulls n ≡ true = le-leb _ _ few in
    rw (fits, is) refl

pub head_again : (n : ℕ) (va : Validity) (whole : List ℕ) (place : ℕ) (buffers : List (List ℕ)) (tail : List ℕ) (ns : Later) (more : List BufferSpec) → ValidityFits va n → From whole place (body_of (normalized_validity_bytes va ∷ buffers) ++ tail)
    → decoded_validity_buffer (record { slots = n; nulls = null_bits va }) whole (rest_with ns (buffer_specs place (normalized_validity_bytes va ∷ buffers) ++ more))
    ≡ Ok (normalized_validity va, rest_with ns (buffer_specs (place + length (padded (normalized_validity_bytes va))) buffers ++ more))
unfolding decoded_validity_buffer
head_again n va whole place buffers tail ns more fits h = rw (buffer_again whole place (normalized_validity_bytes va) buffers tail ns more h, validity_again va n fits) refl

pub no_buffers : (place : ℕ) → buffer_specs place [] ≡ []
unfolding buffer_specs
no_buffers place = refl

-- ---- kinds

-- the counts of an array, and the rest
abbrev pub counts : ℕ → Validity → NodeCounts
counts n va = record { slots = n; nulls = null_bits va }

boolean_again : (t : TypeTree) (bits : List Bool) (va : Validity) (whole : List ℕ) (place : ℕ) (tail : List ℕ) (ns : Later) (more : List BufferSpec)
    → ValidityFits va (length bits) → From whole place (body_of (normalized_validity_bytes va ∷ bitmap_bytes bits ∷ []) ++ tail)
    → decoded_boolean t (counts (length bits) va) whole (rest_with ns (buffer_specs place (normalized_validity_bytes va ∷ bitmap_bytes bits ∷ []) ++ more)) ≡ Ok (boolean t bits (normalized_validity va), rest_with ns more)
unfolding decoded_boolean
boolean_again t bits va whole place tail ns more fits h =
    let bytes : List ℕ = bitmap_bytes bits in
    let first = head_again (length bits) va whole place (bytes ∷ []) tail ns more fits h in
    let next : ℕ = place + length (padded (normalized_validity_bytes va)) in
    let second = buffer_again whole next bytes [] tail ns more (next_behind whole place (normalized_validity_bytes va) (bytes ∷ []) tail h) in
    rw (first, second, no_buffers (next + length (padded bytes)), bits_read bits) refl

native_again : (format : ByteFormat) (k : PrimitiveType) (t : TypeTree) (values : List (List ℤ)) (va : Validity) (whole : List ℕ) (place : ℕ) (tail : List ℕ) (ns : Later) (more : List BufferSpec)
    → IsSized format → ValidityFits va (length values) → AllByRecursion (ValueRoundTrips format) values → From whole place (body_of (normalized_validity_bytes va ∷ values_bytes format values ∷ []) ++ tail)
    → decoded_primitive format k t (counts (length values) va) whole (rest_with ns (buffer_specs place (normalized_validity_bytes va ∷ values_bytes format values ∷ []) ++ more)) ≡ Ok (primitive k t values (normalized_validity va), rest_with ns more)
unfolding decoded_primitive
native_again format k t values va whole place tail ns more sized fits round_trips h =
    let bytes : List ℕ = values_bytes format values in
    let first = head_again (length values) va whole place (bytes ∷ []) tail ns more fits h in
    let next : ℕ = place + length (padded (normalized_validity_bytes va)) in
    let second = buffer_again whole next bytes [] tail ns more (next_behind whole place (normalized_validity_bytes va) (bytes ∷ []) tail h) in
    rw (first, second, no_buffers (next + length (padded bytes)), natives_again format values sized round_trips) refl

native_by : (o : Option ByteFormat) (k : PrimitiveType) (t : TypeTree) (values : List (List ℤ)) (va : Validity) (whole : List ℕ) (place : ℕ) (tail : List ℕ) (ns : Later) (more : List BufferSpec)
    → format_of k ≡ o → ValidityFits va (length values) → RoundTripsInFormat o values → From whole place (body_of (normalized_validity_bytes va ∷ bytes_by o values ∷ []) ++ tail)
    → decoded_fixed_width o k t (counts (length values) va) whole (rest_with ns (buffer_specs place (normalized_validity_bytes va ∷ bytes_by o values ∷ []) ++ more)) ≡ Ok (primitive k t values (normalized_validity va), rest_with ns more)
native_by None k t values va whole place tail ns more e fits round_trips h = absurd round_trips
native_by (Some format) k t values va whole place tail ns more e fits round_trips h = native_again format k t values va whole place tail ns more (form_sized k format e) fits round_trips h

all_bytes : (bs : List ℕ) → decoded_bytes (length bs) bs ≡ Ok bs
unfolding decoded_bytes
all_bytes bs =
    let enough : leb (length bs) (length bs) ≡ true = le-leb _ _ (omega arith) in
    rw (enough, take_all (length bs) bs (omega arith)) refl

fixed_size_binary_again : (t : TypeTree) (bs : List ℕ) (va : Validity) (n : ℕ) (whole : List ℕ) (place : ℕ) (tail : List ℕ) (ns : Later) (more : List BufferSpec)
    → 0 < size_of t → n * size_of t ≡ length bs → ValidityFits va n → From whole place (body_of (normalized_validity_bytes va ∷ bs ∷ []) ++ tail)
    → decoded_fixed_size_binary t (counts n va) whole (rest_with ns (buffer_specs place (normalized_validity_bytes va ∷ bs ∷ []) ++ more)) ≡ Ok (fixed_size_binary t bs (normalized_validity va), rest_with ns more)
unfolding decoded_fixed_size_binary
fixed_size_binary_again t bs va n whole place tail ns more some all fits h =
    let first = head_again n va whole place (bs ∷ []) tail ns more fits h in
    let next : ℕ = place + length (padded (normalized_validity_bytes va)) in
    let second = buffer_again whole next bs [] tail ns more (next_behind whole place (normalized_validity_bytes va) (bs ∷ []) tail h) in
    let sized : ltb 0 (size_of t) ≡ true = lt-ltb _ _ some in
    rw (sized, first, second, no_buffers (next + length (padded bs)), all, all_bytes bs) refl

-- a validity and offsets, followed by other buffers
pub rows_again : (large : Bool) (os : List ℕ) (va : Validity) (n : ℕ) (buffers : List (List ℕ)) (whole : List ℕ) (place : ℕ) (tail : List ℕ) (ns : Later) (more : List BufferSpec)
    → AreOffsets os → count_rows os ≡ n → OffsetsRoundTrip large os → ValidityFits va n → From whole place (body_of (normalized_validity_bytes va ∷ offset_bytes large (rebased os) ∷ buffers) ++ tail)
    → decoded_variable_size_head large (counts n va) whole (rest_with ns (buffer_specs place (normalized_validity_bytes va ∷ offset_bytes large (rebased os) ∷ buffers) ++ more))
    ≡ Ok (record { offsets = rebased os; validity = normalized_validity va }, rest_with ns (buffer_specs (place + length (padded (normalized_validity_bytes va)) + length (padded (offset_bytes large (rebased os)))) buffers ++ more))
unfolding decoded_variable_size_head
rows_again large os va n buffers whole place tail ns more are rows round_trips fits h =
    let offsets : List ℕ = offset_bytes large (rebased os) in
    let first = head_again n va whole place (offsets ∷ buffers) tail ns more fits h in
    let next : ℕ = place + length (padded (normalized_validity_bytes va)) in
    let from = next_behind whole place (normalized_validity_bytes va) (offsets ∷ buffers) tail h in
    let second = buffer_again whole next offsets buffers tail ns more from in
    let read : decoded_offsets large n offsets ≡ Ok (rebased os) = ap (λ (m : ℕ). decoded_offsets large m offsets) (sym rows) ∙ offsets_again large os are round_trips in
    rw (first, second, read) refl

-- what follows them
pub rows_behind : (large : Bool) (os : List ℕ) (va : Validity) (buffers : List (List ℕ)) (whole : List ℕ) (place : ℕ) (tail : List ℕ)
    → From whole place (body_of (normalized_validity_bytes va ∷ offset_bytes large (rebased os) ∷ buffers) ++ tail)
    → From whole (place + length (padded (normalized_validity_bytes va)) + length (padded (offset_bytes large (rebased os)))) (body_of buffers ++ tail)
rows_behind large os va buffers whole place tail h =
    let offsets : List ℕ = offset_bytes large (rebased os) in
    next_behind whole (place + length (padded (normalized_validity_bytes va))) offsets buffers tail (next_behind whole place (normalized_validity_bytes va) (offsets ∷ buffers) tail h)

strings_again : (large : Bool) (os bs : List ℕ) (va : Validity) (whole : List ℕ) (place : ℕ) (tail : List ℕ) (ns : Later) (more : List BufferSpec)
    → AreOffsets os → last_of os ≤ length bs → OffsetsRoundTrip large os → ValidityFits va (count_rows os) → From whole place (body_of (string_buffers large os bs va) ++ tail)
    → decoded_binary_parts large (counts (count_rows os) va) whole (rest_with ns (buffer_specs place (string_buffers large os bs va) ++ more)) ≡ Ok (record { offsets = rebased os; bytes = covered os bs; validity = normalized_validity va }, rest_with ns more)
unfolding decoded_binary_parts decoded_data
strings_again large os bs va whole place tail ns more are within round_trips fits h =
    let offsets : List ℕ = offset_bytes large (rebased os) in
    let bytes : List ℕ = covered os bs in
    let first = rows_again large os va (count_rows os) (bytes ∷ []) whole place tail ns more are refl round_trips fits h in
    let next : ℕ = place + length (padded (normalized_validity_bytes va)) + length (padded offsets) in
    let third = buffer_again whole next bytes [] tail ns more (rows_behind large os va (bytes ∷ []) whole place tail h) in
    let last : last_of (rebased os) ≡ length bytes = last_covered os bs are within in
    let fits : leb (length bytes) (length bytes) ≡ true = le-leb _ _ (omega arith) in
    rw (first, third, last, fits, take_all (length bytes) bytes (omega arith), no_buffers (next + length (padded bytes))) refl

binary_again : (large : Bool) (t : TypeTree) (os bs : List ℕ) (va : Validity) (whole : List ℕ) (place : ℕ) (tail : List ℕ) (ns : Later) (more : List BufferSpec)
    → TopFits (binary large t os bs va) → OffsetsRoundTrip large os → From whole place (body_of (string_buffers large os bs va) ++ tail)
    → decoded_binary large t (counts (count_rows os) va) whole (rest_with ns (buffer_specs place (string_buffers large os bs va) ++ more)) ≡ Ok (normalized_flat (binary large t os bs va), rest_with ns more)
unfolding decoded_binary
binary_again large t os bs va whole place tail ns more fits round_trips h = rw (strings_again large os bs va whole place tail ns more fits.0 fits.1.0 round_trips fits.1.1.0 h) refl

text_again : (large : Bool) (t : TypeTree) (os bs : List ℕ) (va : Validity) (whole : List ℕ) (place : ℕ) (tail : List ℕ) (ns : Later) (more : List BufferSpec)
    → TopFits (utf8 large t os bs va) → OffsetsRoundTrip large os → From whole place (body_of (string_buffers large os bs va) ++ tail)
    → decoded_utf8 large t (counts (count_rows os) va) whole (rest_with ns (buffer_specs place (string_buffers large os bs va) ++ more)) ≡ Ok (normalized_flat (utf8 large t os bs va), rest_with ns more)
unfolding decoded_utf8
text_again large t os bs va whole place tail ns more fits round_trips h =
    let texts : are_utf8 (rebased os) (covered os bs) ≡ true = texts_again os bs fits.0 fits.1.1.0 in
    rw (strings_again large os bs va whole place tail ns more fits.0 fits.1.0 round_trips fits.1.1.1.0 h, texts) refl

whole_slots : (m s : ℕ) → m % s ≡ 0 → m / s * s ≡ m
whole_slots m s e = omega (arith, div-add-mod m s, e)

-- the null count of an array as it is written
abbrev pub nulls_of : Layout → ℕ
nulls_of (null t n) = n
nulls_of a = null_bits (validity_of a)

-- the physical type of an array without children
abbrev pub is_leaf : PhysicalType → Bool
is_leaf physical.Null = true
is_leaf physical.Boolean = true
is_leaf (physical.Primitive k) = true
is_leaf physical.FixedSizeBinary = true
is_leaf physical.Binary = true
is_leaf physical.LargeBinary = true
is_leaf physical.Utf8 = true
is_leaf physical.LargeUtf8 = true
is_leaf (physical.Dictionary k) = true
is_leaf p = false

-- the same of extension types
leaf_in : (t s : TypeTree) (c : NodeCounts) (whole : List ℕ) (rest : Rest) → is_leaf (physical_type s) ≡ true → decoded_array t s c whole rest ≡ decoded_flat (physical_type s) t c whole rest
leaf_in t (types.extension x s m) c whole rest e = leaf_in t s c whole rest e
leaf_in t (types.list f) c whole rest e = cc
leaf_in t (types.large_list f) c whole rest e = cc
leaf_in t (types.map f b) c whole rest e = cc
leaf_in t (types.fixed_size_list f n) c whole rest e = cc
leaf_in t (types.struct fs) c whole rest e = cc
leaf_in t (types.union fs ids mode) c whole rest e = cc
leaf_in t s c whole rest e = refl

kind_in : (t : TypeTree) (p : PhysicalType) (c : NodeCounts) (whole : List ℕ) (rest : Rest) → physical_type t ≡ p → is_leaf p ≡ true → decoded_array t t c whole rest ≡ decoded_flat p t c whole rest
kind_in t p c whole rest e leaf = leaf_in t t c whole rest (ap is_leaf e ∙ leaf) ∙ ap (λ (q : PhysicalType). decoded_flat q t c whole rest) e

-- by the width of their offsets
binary_kind : (large : Bool) (t : TypeTree) (c : NodeCounts) (whole : List ℕ) (rest : Rest) → physical_type t ≡ binary_of_width large → decoded_array t t c whole rest ≡ decoded_binary large t c whole rest
binary_kind true t c whole rest e = kind_in t physical.LargeBinary c whole rest e refl
binary_kind false t c whole rest e = kind_in t physical.Binary c whole rest e refl

text_kind : (large : Bool) (t : TypeTree) (c : NodeCounts) (whole : List ℕ) (rest : Rest) → physical_type t ≡ utf8_of_width large → decoded_array t t c whole rest ≡ decoded_utf8 large t c whole rest
text_kind true t c whole rest e = kind_in t physical.LargeUtf8 c whole rest e refl
text_kind false t c whole rest e = kind_in t physical.Utf8 c whole rest e refl

-- ---- keys

normalized_valid : (bits : List Bool) (i : ℕ) (b : Bool) → eqb (count_by not bits) 0 ≡ b → valid_at (Some bits) i ≡ valid_at (normalized_validity (Some bits)) i
normalized_valid bits i true e = rw e (all_set bits (eqb-zero (count_by not bits) e) i)
normalized_valid bits i false e = rw e refl

pub valid_again : (va : Validity) (i : ℕ) → valid_at va i ≡ valid_at (normalized_validity va) i
valid_again None i = refl
valid_again (Some bits) i = normalized_valid bits i (eqb (count_by not bits) 0) refl

-- keys round-trip, wherever they are in a body
keys_again : (format : ByteFormat) (k : PrimitiveType) (values : List (List ℤ)) (va : Validity) (whole : List ℕ) (place : ℕ) (tail : List ℕ) (ns : Later) (more : List BufferSpec)
    → IsSized format → ValidityFits va (length values) → AllByRecursion (ValueRoundTrips format) (zero_at_nulls va values) → From whole place (body_of (normalized_validity_bytes va ∷ values_bytes format (zero_at_nulls va values) ∷ []) ++ tail)
    → decoded_keys_as format k (counts (length values) va) whole (rest_with ns (buffer_specs place (normalized_validity_bytes va ∷ values_bytes format (zero_at_nulls va values) ∷ []) ++ more)) ≡ Ok (primitive k (primitive_tree k) (zero_at_nulls va values) (normalized_validity va), rest_with ns more)
unfolding decoded_keys_as
keys_again format k values va whole place tail ns more sized fits round_trips h =
    let keys : List (List ℤ) = zero_at_nulls va values in
    let bytes : List ℕ = values_bytes format keys in
    let first = head_again (length values) va whole place (bytes ∷ []) tail ns more fits h in
    let next : ℕ = place + length (padded (normalized_validity_bytes va)) in
    let second = buffer_again whole next bytes [] tail ns more (next_behind whole place (normalized_validity_bytes va) (bytes ∷ []) tail h) in
    let read : decoded_values format (length values) bytes ≡ Ok keys = ap (λ (n : ℕ). decoded_values format n bytes) (sym (blanked_long va values)) ∙ natives_again format keys sized round_trips in
    let blank : zero_at_nulls (normalized_validity va) keys ≡ keys = blank_twice va (normalized_validity va) values (valid_again va) in
    rw (first, second, no_buffers (next + length (padded bytes)), read, blank) refl

-- and so do dictionary-encoded arrays over the next values
keyed_again : (k : IntegerType) (t u : TypeTree) (values : List (List ℤ)) (va : Validity) (c : Layout) (whole : List ℕ) (place : ℕ) (tail : List ℕ) (ns : Later) (more : List BufferSpec)
    → key_type t ≡ Some k → IsLogically (value_type t) (layout_type c) → EachValidNames va (primitive (key_primitive k) u values va) (len c) → ValidityFits va (length values) → AllByRecursion (ValueRoundTrips (key_format k)) (zero_at_nulls va values)
    → From whole place (body_of (normalized_validity_bytes va ∷ values_bytes (key_format k) (zero_at_nulls va values) ∷ []) ++ tail)
    → decoded_array t t (counts (length values) va) whole (rest_with (record { nodes = ns.nodes; dictionaries = Some c ∷ ns.dictionaries }) (buffer_specs place (normalized_validity_bytes va ∷ values_bytes (key_format k) (zero_at_nulls va values) ∷ []) ++ more))
    ≡ Ok (dictionary t (primitive (key_primitive k) (primitive_tree (key_primitive k)) (zero_at_nulls va values) (normalized_validity va)) c, rest_with ns more)
unfolding first_values decoded_dictionary_values decoded_dictionary
keyed_again k t u values va c whole place tail ns more kind logical named fits round_trips h =
    let keys : Layout = primitive (key_primitive k) (primitive_tree (key_primitive k)) (zero_at_nulls va values) (normalized_validity va) in
    let first = keys_again (key_format k) (key_primitive k) values va whole place tail (record { nodes = ns.nodes; dictionaries = Some c ∷ ns.dictionaries }) more (key_sized k) fits round_trips h in
    let typed : is_same_logical_type (value_type t) (layout_type c) ≡ true = logically_so (value_type t) (layout_type c) logical in
    let there : are_keys_in_range keys (len c) ≡ true = each_named keys (len c) (names_stay (key_primitive k) (key_primitive k) u (primitive_tree (key_primitive k)) va (normalized_validity va) values (len c) (valid_again va) named) in
    kind_in t (physical.Dictionary k) _ whole _ (dictionary_kind t k kind) refl ∙ rw (first, typed, there) refl

-- native types that are not those of keys
no_keys : {A : Type 0} → false ≡ true → A
no_keys h = cc

dictionary_again : (t : TypeTree) (ks c : Layout) (whole : List ℕ) (place : ℕ) (tail : List ℕ) (ns : Later) (more : List BufferSpec) → IsWritable (dictionary t ks c) → From whole place (body_of (flat_buffers (dictionary t ks c)) ++ tail)
    → decoded_array t t (record { slots = len ks; nulls = null_bits (validity_of ks) }) whole (rest_with (begun (dictionary t ks c) ns) (buffer_specs place (flat_buffers (dictionary t ks c)) ++ more)) ≡ Ok (dictionary t (normalized_keys ks) c, rest_with ns more)
dictionary_again t (primitive primitives.Int8 u vs va) c whole place tail ns more ok h =
    keyed_again integers.Int8 t u vs va c whole place tail ns more ok.fits.1.1.0 ok.fits.1.1.1.0 ok.fits.1.1.1.1 ok.fits.0.1.0 ok.numbers h
dictionary_again t (primitive primitives.Int16 u vs va) c whole place tail ns more ok h =
    keyed_again integers.Int16 t u vs va c whole place tail ns more ok.fits.1.1.0 ok.fits.1.1.1.0 ok.fits.1.1.1.1 ok.fits.0.1.0 ok.numbers h
dictionary_again t (primitive primitives.Int32 u vs va) c whole place tail ns more ok h =
    keyed_again integers.Int32 t u vs va c whole place tail ns more ok.fits.1.1.0 ok.fits.1.1.1.0 ok.fits.1.1.1.1 ok.fits.0.1.0 ok.numbers h
dictionary_again t (primitive primitives.Int64 u vs va) c whole place tail ns more ok h =
    keyed_again integers.Int64 t u vs va c whole place tail ns more ok.fits.1.1.0 ok.fits.1.1.1.0 ok.fits.1.1.1.1 ok.fits.0.1.0 ok.numbers h
dictionary_again t (primitive primitives.UInt8 u vs va) c whole place tail ns more ok h =
    keyed_again integers.UInt8 t u vs va c whole place tail ns more ok.fits.1.1.0 ok.fits.1.1.1.0 ok.fits.1.1.1.1 ok.fits.0.1.0 ok.numbers h
dictionary_again t (primitive primitives.UInt16 u vs va) c whole place tail ns more ok h =
    keyed_again integers.UInt16 t u vs va c whole place tail ns more ok.fits.1.1.0 ok.fits.1.1.1.0 ok.fits.1.1.1.1 ok.fits.0.1.0 ok.numbers h
dictionary_again t (primitive primitives.UInt32 u vs va) c whole place tail ns more ok h =
    keyed_again integers.UInt32 t u vs va c whole place tail ns more ok.fits.1.1.0 ok.fits.1.1.1.0 ok.fits.1.1.1.1 ok.fits.0.1.0 ok.numbers h
dictionary_again t (primitive primitives.UInt64 u vs va) c whole place tail ns more ok h =
    keyed_again integers.UInt64 t u vs va c whole place tail ns more ok.fits.1.1.0 ok.fits.1.1.1.0 ok.fits.1.1.1.1 ok.fits.0.1.0 ok.numbers h
dictionary_again t (primitive k u vs va) c whole place tail ns more ok h = no_keys ok.fits.0.0
dictionary_again t ks c whole place tail ns more ok h = absurd ok.fits.0

-- an array without children is read, wherever it is in a body, and the bytes after it are not
pub flat_again : (a : Layout) (whole : List ℕ) (place : ℕ) (tail : List ℕ) (ns : Later) (more : List BufferSpec) → IsWritable a → From whole place (body_of (flat_buffers a) ++ tail)
    → decoded_array (layout_type a) (layout_type a) (record { slots = len a; nulls = nulls_of a }) whole (rest_with (begun (normalized_flat a) ns) (buffer_specs place (flat_buffers a) ++ more)) ≡ Ok (normalized_flat a, rest_with ns more)
flat_again (null t n) whole place tail ns more ok h = kind_in t physical.Null _ whole _ ok.fits.1.0 refl ∙ rw (no_buffers place) refl
flat_again (boolean t bits va) whole place tail ns more ok h = kind_in t physical.Boolean _ whole _ ok.fits.1.1.0 refl ∙ boolean_again t bits va whole place tail ns more ok.fits.1.0 h
flat_again (primitive k t values va) whole place tail ns more ok h =
    kind_in t (physical.Primitive k) _ whole _ ok.fits.1.1.0 refl
    ∙ native_by (format_of k) k t values va whole place tail ns more refl ok.fits.1.0 ok.numbers h
flat_again (fixed_size_binary t bs va) whole place tail ns more ok h =
    let a : Layout = fixed_size_binary t bs va in
    let all : len a * size_of t ≡ length bs = whole_slots (length bs) (size_of t) ok.fits.1.1.1.0 in
    kind_in t physical.FixedSizeBinary _ whole _ ok.fits.1.0 refl
    ∙ fixed_size_binary_again t bs va (len a) whole place tail ns more ok.fits.1.1.0 all ok.fits.1.1.1.1.0 h
flat_again (binary large t os bs va) whole place tail ns more ok h = binary_kind large t _ whole _ ok.fits.1.1.1.0 ∙ binary_again large t os bs va whole place tail ns more ok.fits ok.numbers h
flat_again (utf8 large t os bs va) whole place tail ns more ok h = text_kind large t _ whole _ ok.fits.1.1.1.1.0 ∙ text_again large t os bs va whole place tail ns more ok.fits ok.numbers h
flat_again (dictionary t ks c) whole place tail ns more ok h = dictionary_again t ks c whole place tail ns more ok h
flat_again a whole place tail ns more ok h = absurd ok.numbers

either : (b : Bool) (x y z : Slot) → (b ≡ true → x ≡ y) → (if b then x else z) ≡ (if b then y else z)
either true x y z h = h refl
either false x y z h = refl

-- the slots of keys, null or not
key_same : (t : TypeTree) (ks c : Layout) (i : ℕ) → AreKeys ks → i < len ks → slot (dictionary t (normalized_keys ks) c) i ≡ slot (dictionary t ks c) i
key_same t (primitive k u vs va) c i are lt =
    let old : Slot = slot c (named_place (key_at (primitive k u vs va) i)) in
    let new : Slot = slot c (named_place (key_at (normalized_keys (primitive k u vs va)) i)) in
    sym (ap (λ (b : Bool). if b then new else slots.null) (valid_again va i))
    ∙ either (valid_at va i) new old slots.null (λ valid. ap (λ (z : ℤ). slot c (named_place z)) (key_stays va vs i lt valid))
key_same t ks c i are lt = absurd are

-- the array that is read has the same slots
pub flat_same : (a : Layout) (i : ℕ) → IsWritable a → i < len a → slot (normalized_flat a) i ≡ slot a i
flat_same (boolean t bits va) i ok h = sym (ap (λ (b : Bool). if b then slots.boolean (get_or bits i false) else slots.null) (valid_again va i))
flat_same (primitive k t values va) i ok h = sym (ap (λ (b : Bool). if b then slots.number (get_or values i []) else slots.null) (valid_again va i))
flat_same (fixed_size_binary t bs va) i ok h = sym (ap (λ (b : Bool). if b then slots.bytes (sublist bs (i * size_of t) (size_of t)) else slots.null) (valid_again va i))
flat_same (binary large t os bs va) i ok h = sym (λ w. if valid_again va i w then slots.bytes (string_again os bs i ok.fits.0 h w) else slots.null)
flat_same (utf8 large t os bs va) i ok h = sym (λ w. if valid_again va i w then slots.utf8 (string_again os bs i ok.fits.0 h w) else slots.null)
flat_same (null t n) i ok h = refl
flat_same (dictionary t ks c) i ok h = key_same t ks c i ok.fits.0 h
flat_same a i ok h = absurd ok.numbers
