-- Columns round-trip, with all their descendants.
use Rattle.std.proofs.Common.{◌≡◌, ℕ, zero, suc, ◌+◌, ◌-◌, ◌*◌, ◌/◌, ◌<◌, ◌≤◌, Bool, true, false, eqb, leb, ltb, List, [], ◌∷◌, ◌++◌, length, get_or, map, Some, None, Ok, refl, sym, ap, subst, ◌∙◌, append_assoc, arith}
use Rattle.std.specs.Prelude.{ℤ, pos, negsuc, Option, if◌then◌else◌, ◌&&◌, Result, Err, nat_le, nat_lt}
use Rattle.std.specs.List.{All, AllByRecursion, list_all}
use Rattle.std.proofs.lemmas.Bool.{le-leb, lt-ltb}
use Rattle.std.proofs.lemmas.List.{append-nil, map-append, length-map}
use Rattle.std.proofs.lemmas.List.Concat.{flat_map-cons, flat_map-append}
use Rattle.ipc_flatbuf.specs.FlatbufferLaws.{From, From_next}
use Rattle.ipc_flatbuf.specs.ReadResults.{◌>>=◌, check}
use Rattle.ipc_flatbuf.specs.declared.error.IpcReadError.{IpcReadError}
use Rattle.ipc_flatbuf.specs.declared.error.IpcReadError.TheVariants.{TypeRange, UnsupportedType}
use Rattle.ipc_flatbuf.specs.declared.batch.parts.FieldNode.{FieldNode}
use Rattle.ipc_flatbuf.specs.declared.batch.parts.BufferSpec.{BufferSpec}
use Rattle.nest_memory.specs.Sublist.{sublist}
use Rattle.nest_memory.specs.Physical.{physical_type, list_of_width}
use Rattle.nest_memory.specs.Rising.{last_of}
use Rattle.nest_memory.specs.TypeTree as types
use Rattle.nest_memory.specs.TypeTree.{TypeTree, FieldTrees, no_fields, more_fields, field_type, count_fields, item_type, size_of, fields_of, ids_of, is_dense, has_pairs}
use Rattle.nest_memory.specs.declared.datatypes.UnionMode.{UnionMode}
use Rattle.nest_memory.specs.declared.datatypes.UnionMode.TheVariants.{Dense, Sparse}
use Rattle.nest_memory.specs.declared.datatypes.physical_type.PhysicalType.TheVariants as physical
use Rattle.nest_model.specs.Accessors.{validity_of}
use Rattle.nest_model.specs.Array.{AreOffsets, TopFits}
use Rattle.nest_model.specs.Checks.{most_fields, type_count}
use Rattle.nest_model.specs.Slice.{slice_layout}
use Rattle.nest_model.specs.SliceLaws.{len-cut, slot-cut, type-cut}
use Rattle.nest_model.specs.Fits.{ValidityFits, EachType, EachOffsetNames, IdsCount, IdsInRange, Names, MeansField, child_len}
use Rattle.nest_model.specs.FitsLaws.{parts-cut, top-fits-cut}
use Rattle.nest_model.specs.Layout.{Layout, Layouts, null, boolean, primitive, binary, utf8, fixed_size_binary, fixed_size_list, list as list_of, map as map_of, struct, union, dictionary, no_layouts, more_layouts, layout_type, count_layouts}
use Rattle.nest_model.specs.Meaning.{len, first_len, slot, each, picked, of_field, run}
use Rattle.nest_model.specs.Part.{Validity, begin, extent, sliced_validity, valid_at, count_rows, field_named, to_index}
use Rattle.nest_model.specs.Runs.{length-cut, get_or-cut, rows-cut, valid-cut, product-sum, product-within, run-ext}
use Rattle.nest_model.specs.SameArray.{IsSameArray}
use Rattle.nest_model.specs.SameArrayLaws.{same-from_places}
use Rattle.nest_model.specs.Slot as slots
use Rattle.nest_model.specs.Slot.{Slot, seal}
use Rattle.nest_array.specs.WindowParts.{WindowParts, window_parts}
use Rattle.ipc_arrays.specs.Decoding.{Rest, checked_length, decoded_validity_buffer, decoded_values, decoded_variable_size_head, list_over, map_over, decoded_types, decoded_union_parts, union_child_length, are_known_types, is_field_below, is_index_below, are_offsets_in_children, are_type_ids, union_over, decoded_array, decoded_child, decoded_children, decoded_column, decoded_each, decoded_columns}
use Rattle.ipc_arrays.specs.DictionaryLaws.{names_so}
use Rattle.ipc_arrays.specs.BodyBuffers.{padded, body_of, buffer_specs}
use Rattle.ipc_arrays.specs.BodyBufferLaws.{body_append, buffer_specs_append, next_behind}
use Rattle.ipc_arrays.specs.FixedWidth.{ByteFormat, offset_format, type_format, only, values_bytes}
use Rattle.ipc_arrays.specs.FixedWidthLaws.{IsSized, offset_sized, natives_again}
use Rattle.ipc_arrays.specs.VariableSizeLaws.{rebased_at, rebased_long}
use Rattle.ipc_arrays.specs.declared.cursor.NodeCounts.{NodeCounts}
use Rattle.ipc_arrays.specs.declared.cursor.ExpectedLength.{ExpectedLength}
use Rattle.ipc_arrays.specs.declared.cursor.ExpectedLength.TheVariants.{Rows, Exactly, AtLeast, Any}
use Rattle.ipc_arrays.specs.Encoding.{normalized_validity, normalized_flat, normalized_slice, normalized, normalized_each, normalized_all, sparse_begin, rebased, normalized_validity_bytes, offset_bytes, numbers_bytes, own_buffers, own_dictionaries, dictionaries_of, flat_buffers, field_node_of, preorder, buffers_of, columns_body, each_window, whole_windows, windows_below, normalized_window, window_arrays, written_arrays, is_supported, is_flat_layout, RoundTrip}
use Rattle.ipc_arrays.specs.EncodingLaws.{null_bits, counts, Later, rest_with, before, begun, nulls_of, ValuesRoundTrip, IsWritable, OffsetsRoundTrip, NumbersRoundTrip, OwnBuffersRoundTrip, node_again, buffer_again, head_again, rows_again, rows_behind, no_buffers, flat_again, flat_same, valid_again, eqb-same, eqb-zero}
use Rattle.ipc_arrays.specs.NormalizedLaws.{normalized_len, normalized_type, nulls_in, nulls_few, slice_fits, normalized_node, written_more, written_none, each_written, all_written, flat_normalized}

-- A window round-trips: wherever it is in a body, it is read as an array with the same slots, and the bytes after it are not read.
pub record WindowRoundTrips (w : WindowParts) : Type 0 where
  pub read : (expected : ExpectedLength) (whole : List ℕ) (base : ℕ) (tail : List ℕ) (ns : Later) (more : List BufferSpec)
      → checked_length expected w.count ≡ Ok tt → From whole base (body_of (buffers_of (preorder (normalized_window w))) ++ tail)
      → decoded_column (layout_type w.array) expected whole (rest_with (before (preorder (normalized_window w)) ns) (buffer_specs base (buffers_of (preorder (normalized_window w))) ++ more))
      ≡ Ok (normalized_window w, rest_with ns more)
  pub slots : (i : ℕ) → i < w.count → slot (normalized_window w) i ≡ slot w.array (w.offset + i)
  pub long : len (normalized_window w) ≡ w.count

pub buffers_more : (s : Layout) (arrays : List Layout) → buffers_of (s ∷ arrays) ≡ own_buffers s ++ buffers_of arrays
unfolding buffers_of
buffers_more s arrays = flat_map-cons own_buffers s arrays

pub buffers_none : buffers_of [] ≡ []
unfolding buffers_of
buffers_none = refl

pub buffers_append : (front rest : List Layout) → buffers_of (front ++ rest) ≡ buffers_of front ++ buffers_of rest
unfolding buffers_of
buffers_append front rest = flat_map-append own_buffers front rest

-- ---- the array of a type, by its storage type

abbrev of_item : Option TypeTree → ExpectedLength → List ℕ → Rest → Result (Layout × Rest) IpcReadError
of_item None expected whole rest = Err UnsupportedType
of_item (Some t) expected whole rest = decoded_column t expected whole rest

list_in : (large : Bool) (t s : TypeTree) (c : NodeCounts) (whole : List ℕ) (rest : Rest) → physical_type s ≡ list_of_width large
    → decoded_array t s c whole rest ≡ (decoded_variable_size_head large c whole rest >>= λ head. of_item (item_type s) Any whole head.1 >>= λ items. list_over large t head.0 items)
list_in large t (types.extension x s m) c whole rest k = list_in large t s c whole rest k
list_in true t (types.large_list (types.field x s b es)) c whole rest k = refl
list_in false t (types.list (types.field x s b es)) c whole rest k = refl
list_in true t s c whole rest k = cc
list_in false t s c whole rest k = cc

map_in : (t s : TypeTree) (c : NodeCounts) (whole : List ℕ) (rest : Rest) → physical_type s ≡ physical.Map
    → decoded_array t s c whole rest ≡ (check (has_pairs s) TypeRange >>= λ pairs. decoded_variable_size_head false c whole rest >>= λ head. of_item (item_type s) Any whole head.1 >>= λ entries. map_over t head.0 entries)
map_in t (types.extension x s m) c whole rest k = map_in t s c whole rest k
map_in t (types.map (types.field x s b es) sorted) c whole rest k = refl
map_in t s c whole rest k = cc

sized_in : (t s : TypeTree) (c : NodeCounts) (whole : List ℕ) (rest : Rest) → physical_type s ≡ physical.FixedSizeList
    → decoded_array t s c whole rest ≡ (check (nat_lt 0 (size_of s)) TypeRange >>= λ some. decoded_validity_buffer c whole rest >>= λ head. of_item (item_type s) (Exactly (c.slots * size_of s)) whole head.1 >>= λ items. Ok (fixed_size_list t items.0 head.0, items.1))
sized_in t (types.extension x s m) c whole rest k = sized_in t s c whole rest k
sized_in t (types.fixed_size_list (types.field x s b es) n) c whole rest k = refl
sized_in t s c whole rest k = cc

record_in : (t s : TypeTree) (c : NodeCounts) (whole : List ℕ) (rest : Rest) → physical_type s ≡ physical.Struct
    → decoded_array t s c whole rest ≡ (check (nat_lt 0 (count_fields (fields_of s))) TypeRange >>= λ some. decoded_validity_buffer c whole rest >>= λ head. decoded_children (fields_of s) (Exactly c.slots) whole head.1 >>= λ children. Ok (struct t children.0 head.0, children.1))
record_in t (types.extension x s m) c whole rest k = record_in t s c whole rest k
record_in t (types.struct fs) c whole rest k = refl
record_in t s c whole rest k = cc

abbrev mode_by : Bool → UnionMode
mode_by true = Dense
mode_by false = Sparse

abbrev union_by : Bool → TypeTree → FieldTrees → Option (List ℤ) → NodeCounts → List ℕ → Rest → Result (Layout × Rest) IpcReadError
union_by dense t fs ids c whole rest =
    check (nat_le (count_fields fs) most_fields && are_type_ids ids (count_fields fs)) TypeRange >>= λ formed. decoded_union_parts (mode_by dense) ids (count_fields fs) c whole rest >>= λ parts_read. decoded_children fs (union_child_length (mode_by dense) c.slots) whole parts_read.1 >>= λ children. union_over t ids parts_read.0 children

union_in : (t s : TypeTree) (c : NodeCounts) (whole : List ℕ) (rest : Rest) → physical_type s ≡ physical.Union → decoded_array t s c whole rest ≡ union_by (is_dense s) t (fields_of s) (ids_of s) c whole rest
union_in t (types.extension x s m) c whole rest k = union_in t s c whole rest k
union_in t (types.union fs ids Dense) c whole rest k = refl
union_in t (types.union fs ids Sparse) c whole rest k = refl
union_in t s c whole rest k = cc

-- ---- a window, by its own buffers and its descendants

-- its own buffers and those of its descendants are read by its counts
abbrev IsRead : Layout → ℕ → ℕ → List Layout → Type 0
IsRead a o n below =
    (whole : List ℕ) (base : ℕ) (tail : List ℕ) (ns : Later) (more : List BufferSpec) → From whole base (body_of (own_buffers (normalized_slice a o n) ++ buffers_of below) ++ tail)
    → decoded_array (layout_type a) (layout_type a) (record { slots = n; nulls = nulls_in a o n }) whole (rest_with (begun (normalized_slice a o n) (before below ns)) (buffer_specs base (own_buffers (normalized_slice a o n) ++ buffers_of below) ++ more))
    ≡ Ok (normalized_slice a o n, rest_with ns more)

-- so it is read with its field node
column_again : (a : Layout) (o n : ℕ) (below : List Layout) (expected : ExpectedLength) (whole : List ℕ) (base : ℕ) (tail : List ℕ) (ns : Later) (more : List BufferSpec)
    → field_node_of (normalized_slice a o n) ≡ record { length = pos n; null_count = pos (nulls_in a o n) } → nulls_in a o n ≤ n → checked_length expected n ≡ Ok tt → IsRead a o n below
    → From whole base (body_of (buffers_of (normalized_slice a o n ∷ below)) ++ tail)
    → decoded_column (layout_type a) expected whole (rest_with (before (normalized_slice a o n ∷ below) ns) (buffer_specs base (buffers_of (normalized_slice a o n ∷ below)) ++ more)) ≡ Ok (normalized_slice a o n, rest_with ns more)
column_again a o n below expected whole base tail ns more node few is read h =
    let s : Layout = normalized_slice a o n in
    let split : buffers_of (s ∷ below) ≡ own_buffers s ++ buffers_of below = buffers_more s below in
    let from : From whole base (body_of (own_buffers s ++ buffers_of below) ++ tail) = subst (λ (x : List (List ℕ)). From whole base (body_of x ++ tail)) split h in
    let buffers : List BufferSpec = buffer_specs base (own_buffers s ++ buffers_of below) ++ more in
    let later : Later = begun s (before below ns) in
    let first = node_again expected n (nulls_in a o n) later buffers few is in
    let start : before (s ∷ below) ns ≡ record { nodes = record { length = pos n; null_count = pos (nulls_in a o n) } ∷ later.nodes; dictionaries = later.dictionaries } =
    λ w. record { nodes = node w ∷ later.nodes; dictionaries = append_assoc (own_dictionaries s) (dictionaries_of below) ns.dictionaries w } in
    (λ w. decoded_column (layout_type a) expected whole (rest_with (start w) (buffer_specs base (split w) ++ more)))
    ∙ (rw first (read whole base tail ns more from))

window_again : (a : Layout) (o n : ℕ) (below : List Layout) → TopFits a → is_supported a ≡ true → o + n ≤ len a → preorder (normalized_slice a o n) ≡ normalized_slice a o n ∷ below → IsRead a o n below
    → ((i : ℕ) → i < n → slot (normalized_slice a o n) i ≡ slot a (o + i)) → WindowRoundTrips (window_parts a o n)
window_again a o n below fits format le arrays read same = record {
  read = λ expected whole base tail ns more is h.
      let from : From whole base (body_of (buffers_of (normalized_slice a o n ∷ below)) ++ tail) = subst (λ (x : List Layout). From whole base (body_of (buffers_of x) ++ tail)) arrays h in
      (λ w. decoded_column (layout_type a) expected whole (rest_with (before (arrays w) ns) (buffer_specs base (buffers_of (arrays w)) ++ more)))
      ∙ column_again a o n below expected whole base tail ns more (normalized_node a o n fits format le) (nulls_few a o n fits le) is read from;
  slots = same;
  long = normalized_len a o n le;
}

-- ---- windows without children

-- the validity of a slice
validity_cut : (a : Layout) (o n : ℕ) → validity_of (slice_layout a o n) ≡ sliced_validity (validity_of a) o n
validity_cut (null t m) o n = refl
validity_cut (boolean t bs va) o n = refl
validity_cut (primitive k t vs va) o n = refl
validity_cut (binary l t os bs va) o n = refl
validity_cut (utf8 l t os bs va) o n = refl
validity_cut (fixed_size_binary t bs va) o n = refl
validity_cut (fixed_size_list t c va) o n = refl
validity_cut (list_of l t os c va) o n = refl
validity_cut (map_of t os c va) o n = refl
validity_cut (struct t cs va) o n = refl
validity_cut (union t ks cs os start) o n = refl
validity_cut (dictionary t ks c) o n = validity_cut ks o n

flat_nulls : (a : Layout) (o n : ℕ) → is_flat_layout a ≡ true → nulls_of (slice_layout a o n) ≡ nulls_in a o n
flat_nulls (null t m) o n flat = refl
flat_nulls (boolean t bs va) o n flat = refl
flat_nulls (primitive k t vs va) o n flat = refl
flat_nulls (binary l t os bs va) o n flat = refl
flat_nulls (utf8 l t os bs va) o n flat = refl
flat_nulls (fixed_size_binary t bs va) o n flat = refl
flat_nulls (dictionary t ks c) o n flat = ap null_bits (validity_cut ks o n)
flat_nulls a o n flat = cc

flat_numbers : (a : Layout) (o n : ℕ) → is_flat_layout a ≡ true → OwnBuffersRoundTrip a o n → ValuesRoundTrip (slice_layout a o n)
flat_numbers (null t m) o n flat h = h
flat_numbers (boolean t bs va) o n flat h = h
flat_numbers (primitive k t vs va) o n flat h = h
flat_numbers (binary l t os bs va) o n flat h = h
flat_numbers (utf8 l t os bs va) o n flat h = h
flat_numbers (fixed_size_binary t bs va) o n flat h = h
flat_numbers (dictionary t ks c) o n flat h = h
flat_numbers a o n flat h = cc

flat_slot : (a : Layout) (o n i : ℕ) → is_flat_layout a ≡ true → i < n → slot (slice_layout a o n) i ≡ slot a (o + i)
flat_slot a o n i flat lt = slot-cut a o n i lt

flat_read : (a : Layout) (o n : ℕ) → is_flat_layout a ≡ true → o + n ≤ len a → IsWritable (slice_layout a o n) → IsRead a o n []
flat_read a o n flat le ok whole base tail ns more h =
    let b : Layout = slice_layout a o n in
    let normalized_so : normalized_slice a o n ≡ normalized_flat b = flat_normalized a o n flat in
    let alone : own_buffers (normalized_slice a o n) ++ buffers_of [] ≡ flat_buffers b = (λ w. own_buffers (normalized_so w) ++ buffers_none w) ∙ append-nil (flat_buffers b) in
    let from : From whole base (body_of (flat_buffers b) ++ tail) = subst (λ (x : List (List ℕ)). From whole base (body_of x ++ tail)) alone h in
    (λ w. decoded_array (sym (type-cut a o n) w) (sym (type-cut a o n) w) (record { slots = sym (len-cut a o n le) w; nulls = sym (flat_nulls a o n flat) w }) whole (rest_with (begun (normalized_so w) ns) (buffer_specs base (alone w) ++ more)))
    ∙ flat_again b whole base tail ns more ok from
    ∙ (λ w. Ok (sym normalized_so w, rest_with ns more))

flat_window : (a : Layout) (o n : ℕ) → TopFits a → is_flat_layout a ≡ true → is_supported a ≡ true → o + n ≤ len a → OwnBuffersRoundTrip a o n → preorder (normalized_slice a o n) ≡ normalized_slice a o n ∷ [] → WindowRoundTrips (window_parts a o n)
flat_window a o n fits flat format le round_trips arrays =
    let ok : IsWritable (slice_layout a o n) = record { fits = top-fits-cut a o n fits le; numbers = flat_numbers a o n flat round_trips } in
    window_again a o n [] fits format le arrays (flat_read a o n flat le ok)
    (λ i lt. ap (λ (s : Layout). slot s i) (flat_normalized a o n flat) ∙ flat_same (slice_layout a o n) i ok (omega (arith, len-cut a o n le)) ∙ flat_slot a o n i flat lt)

-- ---- lists and maps

-- the bounds of the items of a window
pub record AreWithin (os : List ℕ) (o n : ℕ) : Type 0 where
  pub rise : (i j : ℕ) → i ≤ j → j ≤ n → begin os (o + i) ≤ begin os (o + j)
  first : begin (rebased (sublist os o (n + 1))) 0 ≡ 0
  at : (i : ℕ) → i ≤ n → begin (rebased (sublist os o (n + 1))) i ≡ begin os (o + i) - begin os o
  last : last_of (rebased (sublist os o (n + 1))) ≡ begin os (o + n) - begin os o
  end : begin os (o + n) ≤ last_of os

pub are_within : (os : List ℕ) (o n : ℕ) → AreOffsets os → o + n ≤ count_rows os → AreWithin os o n
are_within os o n h le =
    let part : List ℕ = sublist os o (n + 1) in
    let some : 0 < length os = h.0 in
    let long : length part ≡ n + 1 = length-cut os o (n + 1) (omega (arith, some)) in
    let start : o + 0 ≡ o = omega arith in
    let base : (i : ℕ) → i ≤ n → begin (rebased part) i ≡ begin os (o + i) - begin os o =
    λ i at. rebased_at part i (omega (arith, long)) ∙ (λ w. get_or-cut os o (n + 1) i 0 (omega arith) w - (get_or-cut os o (n + 1) 0 0 (omega arith) ∙ ap (λ (k : ℕ). begin os k) start) w) in
    let end : length (rebased part) - 1 ≡ n = omega (arith, rebased_long part, long) in
    record {
      rise = λ i j a b. h.1 (o + i) (o + j) (omega arith) (omega (arith, some));
      first = base 0 (omega arith) ∙ (let z : begin os (o + 0) - begin os o ≡ 0 = omega (arith, ap (λ (k : ℕ). begin os k) start) in z);
      at = base;
      last = ap (λ (k : ℕ). begin (rebased part) k) end ∙ base n (omega arith);
      end = h.1 (o + n) (length os - 1) (omega (arith, some)) (omega (arith, some));
    }

-- the items of a list
row_again : (os : List ℕ) (c sc : Layout) (o n i : ℕ) → AreWithin os o n → ((j : ℕ) → j < begin os (o + n) - begin os o → slot sc j ≡ slot c (begin os o + j)) → i < n
    → run (slot sc) (begin (rebased (sublist os o (n + 1))) i) (extent (rebased (sublist os o (n + 1))) i) ≡ run (slot c) (begin os (o + i)) (extent os (o + i))
row_again os c sc o n i h items lt =
    let part : List ℕ = rebased (sublist os o (n + 1)) in
    let next : o + (i + 1) ≡ o + i + 1 = omega arith in
    let here : begin part i ≡ begin os (o + i) - begin os o = h.at i (omega arith) in
    let there : begin part (i + 1) ≡ begin os (o + i + 1) - begin os o = h.at (i + 1) (omega arith) ∙ ap (λ (k : ℕ). begin os k - begin os o) next in
    let zero_is : o + 0 ≡ o = omega arith in
    let low : begin os o ≤ begin os (o + i) = omega (arith, h.rise 0 i (omega arith) (omega arith), ap (λ (k : ℕ). begin os k) zero_is) in
    let mid : begin os (o + i) ≤ begin os (o + i + 1) = omega (arith, h.rise i (i + 1) (omega arith) (omega arith), ap (λ (k : ℕ). begin os k) next) in
    let high : begin os (o + i + 1) ≤ begin os (o + n) = omega (arith, h.rise (i + 1) n (omega arith) (omega arith), ap (λ (k : ℕ). begin os k) next) in
    let long : extent part i ≡ extent os (o + i) = omega (arith, here, there, low, mid) in
    ap (λ (m : ℕ). run (slot sc) (begin part i) m) long
    ∙ run-ext (slot sc) (slot c) (begin part i) (begin os (o + i)) (extent os (o + i))
    (λ j k.
    let e : begin os o + (begin part i + j) ≡ begin os (o + i) + j = omega (arith, here, low) in
    items (begin part i + j) (omega (arith, here, k, low, mid, high)) ∙ ap (slot c) e)

list_slot : (os : List ℕ) (c sc : Layout) (va : Validity) (o n i : ℕ) → AreWithin os o n → ((j : ℕ) → j < begin os (o + n) - begin os o → slot sc j ≡ slot c (begin os o + j)) → i < n
    → (if valid_at (normalized_validity (sliced_validity va o n)) i then slots.list (seal (run (slot sc) (begin (rebased (sublist os o (n + 1))) i) (extent (rebased (sublist os o (n + 1))) i))) else slots.null)
    ≡ (if valid_at va (o + i) then slots.list (seal (run (slot c) (begin os (o + i)) (extent os (o + i)))) else slots.null)
list_slot os c sc va o n i h items lt =
    let valid : valid_at (normalized_validity (sliced_validity va o n)) i ≡ valid_at va (o + i) = sym (valid_again (sliced_validity va o n) i) ∙ valid-cut va o n i lt in
    (λ w. if valid w then slots.list (seal (row_again os c sc o n i h items lt w)) else slots.null)

abbrev paired : {H : Type 0} → H → Layout × Rest → Result (H × (Layout × Rest)) IpcReadError
paired h y = Ok (h, y)

-- the items follow the offsets
items_again : (large : Bool) (t : TypeTree) (os : List ℕ) (c : Layout) (va : Validity) (o n : ℕ) (whole : List ℕ) (base : ℕ) (tail : List ℕ) (ns : Later) (more : List BufferSpec)
    → AreOffsets os → o + n ≤ count_rows os → OffsetsRoundTrip large (sublist os o (n + 1)) → ValidityFits va (count_rows os) → item_type t ≡ Some (layout_type c) → WindowRoundTrips (window_parts c (begin os o) (begin os (o + n) - begin os o))
    → From whole base (body_of (normalized_validity_bytes (sliced_validity va o n) ∷ offset_bytes large (rebased (sublist os o (n + 1))) ∷ buffers_of (preorder (normalized_slice c (begin os o) (begin os (o + n) - begin os o)))) ++ tail)
    → (decoded_variable_size_head large (counts n (sliced_validity va o n)) whole (rest_with (before (preorder (normalized_slice c (begin os o) (begin os (o + n) - begin os o))) ns)
    (buffer_specs base (normalized_validity_bytes (sliced_validity va o n) ∷ offset_bytes large (rebased (sublist os o (n + 1))) ∷ buffers_of (preorder (normalized_slice c (begin os o) (begin os (o + n) - begin os o)))) ++ more)) >>= λ head. of_item (item_type t) Any whole head.1 >>= λ items. paired head.0 items)
    ≡ paired (record { offsets = rebased (sublist os o (n + 1)); validity = normalized_validity (sliced_validity va o n) }) (normalized_slice c (begin os o) (begin os (o + n) - begin os o), rest_with ns more)
items_again large t os c va o n whole base tail ns more are le round_trips fits typed child h =
    let v : Validity = sliced_validity va o n in
    let part : List ℕ = sublist os o (n + 1) in
    let below : List Layout = preorder (normalized_slice c (begin os o) (begin os (o + n) - begin os o)) in
    let part_are : AreOffsets part = parts-cut (list_of large t os c va) o n are le in
    let first = rows_again large part v n (buffers_of below) whole base tail (before below ns) more part_are (rows-cut os o n le) round_trips (slice_fits va (count_rows os) o n fits le) h in
    let next : ℕ = base + length (padded (normalized_validity_bytes v)) + length (padded (offset_bytes large (rebased part))) in
    let second = child.read Any whole next tail ns more refl (rows_behind large part v (buffers_of below) whole base tail h) in
    rw (first, typed, second) refl

within_items : (os : List ℕ) (c : Layout) (o n : ℕ) → AreWithin os o n → WindowRoundTrips (window_parts c (begin os o) (begin os (o + n) - begin os o))
    → leb (last_of (rebased (sublist os o (n + 1)))) (len (normalized_slice c (begin os o) (begin os (o + n) - begin os o))) ≡ true
within_items os c o n h child = le-leb _ _ (omega (arith, h.last, child.long))

abbrev through : {H : Type 0} → (H → Layout × Rest → Result (Layout × Rest) IpcReadError) → Result (Layout × Rest) IpcReadError → Result (H × (Layout × Rest)) IpcReadError → Result (Layout × Rest) IpcReadError
through g other (Ok x) = g x.0 x.1
through g other (Err e) = other

joined : {H : Type 0} (s : Result (Layout × Rest) IpcReadError) (h : H) (g : H → Layout × Rest → Result (Layout × Rest) IpcReadError) (head : H) (items : Layout × Rest)
    → (s >>= λ y. paired h y) ≡ paired head items → (s >>= λ y. g h y) ≡ g head items
joined (Ok y) h g head items e = ap (through g (g h y)) e
joined (Err y) h g head items e = cc

passes : {B : Type 0} (b : Bool) (error : IpcReadError) (r : Result B IpcReadError) → b ≡ true → (check b error >>= λ ok. r) ≡ r
passes b error r e = rw e refl

after : {H : Type 0} (r : Result (H × Rest) IpcReadError) (f : H × Rest → Result (Layout × Rest) IpcReadError) (g : H → Layout × Rest → Result (Layout × Rest) IpcReadError) (head : H) (items : Layout × Rest)
    → (r >>= λ x. f x >>= λ y. paired x.0 y) ≡ paired head items → (r >>= λ x. f x >>= λ y. g x.0 y) ≡ g head items
after (Ok x) f g head items e = joined (f x) x.0 g head items e
after (Err x) f g head items e = cc

list_window : (large : Bool) (t : TypeTree) (os : List ℕ) (c : Layout) (va : Validity) (o n : ℕ) → TopFits (list_of large t os c va) → o + n ≤ count_rows os → OffsetsRoundTrip large (sublist os o (n + 1))
    → WindowRoundTrips (window_parts c (begin os o) (begin os (o + n) - begin os o)) → WindowRoundTrips (window_parts (list_of large t os c va) o n)
list_window large t os c va o n fits le round_trips child =
    let within = are_within os o n fits.0 le in
    let sc : Layout = normalized_slice c (begin os o) (begin os (o + n) - begin os o) in
    window_again (list_of large t os c va) o n (preorder sc) fits refl le refl
    (λ whole base tail ns more h.
    let items = items_again large t os c va o n whole base tail ns more fits.0 le round_trips fits.1.1.0 fits.1.1.1.1.0 child h in
    list_in large t t _ whole _ fits.1.1.1.0
    ∙ after (decoded_variable_size_head large (counts n (sliced_validity va o n)) whole _) (λ head. of_item (item_type t) Any whole head.1) (λ head items. list_over large t head items) _ _ items
    ∙ rw (within_items os c o n within child) refl)
    (λ i lt. list_slot os c sc va o n i within child.slots lt)

map_window : (t : TypeTree) (os : List ℕ) (c : Layout) (va : Validity) (o n : ℕ) → TopFits (map_of t os c va) → o + n ≤ count_rows os → OffsetsRoundTrip false (sublist os o (n + 1))
    → WindowRoundTrips (window_parts c (begin os o) (begin os (o + n) - begin os o)) → WindowRoundTrips (window_parts (map_of t os c va) o n)
map_window t os c va o n fits le round_trips child =
    let within = are_within os o n fits.0 le in
    let sc : Layout = normalized_slice c (begin os o) (begin os (o + n) - begin os o) in
    let pairs : has_pairs t ≡ true = fits.1.1.1.0 in
    window_again (map_of t os c va) o n (preorder sc) fits refl le refl
    (λ whole base tail ns more h.
    let items = items_again false t os c va o n whole base tail ns more fits.0 le round_trips fits.1.1.1.1.1.0 fits.1.1.1.1.0 child h in
    map_in t t _ whole _ fits.1.1.0
    ∙ passes (has_pairs t) TypeRange _ pairs
    ∙ (after (decoded_variable_size_head false (counts n (sliced_validity va o n)) whole _) (λ head. of_item (item_type t) Any whole head.1) (λ head items. map_over t head items) _ _ items)
    ∙ rw (within_items os c o n within child) refl)
    (λ i lt. list_slot os c sc va o n i within child.slots lt)

-- ---- fixed-size lists

sized_window : (t : TypeTree) (c : Layout) (va : Validity) (o n : ℕ) → TopFits (fixed_size_list t c va) → o + n ≤ len c / size_of t → WindowRoundTrips (window_parts c (o * size_of t) (n * size_of t)) → WindowRoundTrips (window_parts (fixed_size_list t c va) o n)
sized_window t c va o n fits le child =
    let v : Validity = sliced_validity va o n in
    let size : ℕ = size_of t in
    let below : List Layout = preorder (normalized_slice c (o * size) (n * size)) in
    let some : ltb 0 size ≡ true = lt-ltb _ _ fits.1.1.0 in
    let same : eqb (n * size) (n * size) ≡ true = eqb-same (n * size) in
    window_again (fixed_size_list t c va) o n below fits refl le refl
    (λ whole base tail ns more h.
    let first = head_again n v whole base (buffers_of below) tail (before below ns) more (slice_fits va (len c / size) o n fits.1.1.1.1.1.0 le) h in
    let next : ℕ = base + length (padded (normalized_validity_bytes v)) in
    let second = child.read (Exactly (n * size)) whole next tail ns more (rw same refl) (next_behind whole base (normalized_validity_bytes v) (buffers_of below) tail h) in
    sized_in t t _ whole _ fits.1.0 ∙ rw (some, first, fits.1.1.1.0, second) refl)
    (λ i lt.
    let valid : valid_at (normalized_validity v) i ≡ valid_at va (o + i) = sym (valid_again v i) ∙ valid-cut va o n i lt in
    let items : run (slot (normalized_slice c (o * size) (n * size))) (i * size) size ≡ run (slot c) ((o + i) * size) size =
    run-ext (slot (normalized_slice c (o * size) (n * size))) (slot c) (i * size) ((o + i) * size) size
    (λ j k.
    let e : o * size + (i * size + j) ≡ (o + i) * size + j = omega (arith, product-sum o i size) in
    child.slots (i * size + j) (product-within i j n size lt k) ∙ ap (slot c) e) in
    (λ w. if valid w then slots.list (seal (items w)) else slots.null))

-- ---- children of structs and unions

abbrev normalized_windows : List WindowParts → Layouts
normalized_windows [] = no_layouts
normalized_windows (w ∷ ws) = more_layouts (normalized_window w) (normalized_windows ws)

each_all : (cs : Layouts) (o n : ℕ) → normalized_windows (each_window cs o n) ≡ normalized_each cs o n
each_all no_layouts o n = refl
each_all (more_layouts c cs) o n = ap (λ (x : Layouts). more_layouts (normalized_slice c o n) x) (each_all cs o n)

whole_all : (cs : Layouts) → normalized_windows (whole_windows cs) ≡ normalized_all cs
whole_all no_layouts = refl
whole_all (more_layouts c cs) = ap (λ (x : Layouts). more_layouts (normalized_slice c 0 (len c)) x) (whole_all cs)

-- arrays of the types of fields, each of the expected length
abbrev AreOf : FieldTrees → ExpectedLength → List WindowParts → Type 0
AreOf no_fields expected [] = Unit {0}
AreOf no_fields expected (w ∷ ws) = ⊥
AreOf (more_fields f fs) expected [] = ⊥
AreOf (more_fields f fs) expected (w ∷ ws) = ((layout_type w.array ≡ field_type f) × (checked_length expected w.count ≡ Ok tt)) × AreOf fs expected ws

each_of : (fs : FieldTrees) (expected : ExpectedLength) (cs : Layouts) (o n : ℕ) → EachType fs cs → checked_length expected n ≡ Ok tt → AreOf fs expected (each_window cs o n)
each_of no_fields expected no_layouts o n h e = tt
each_of no_fields expected (more_layouts c cs) o n h e = absurd h
each_of (more_fields f fs) expected no_layouts o n h e = absurd h
each_of (more_fields f fs) expected (more_layouts c cs) o n h e = ((h.0, e), each_of fs expected cs o n h.1 e)

whole_of : (fs : FieldTrees) (cs : Layouts) → EachType fs cs → AreOf fs Any (whole_windows cs)
whole_of no_fields no_layouts h = tt
whole_of no_fields (more_layouts c cs) h = absurd h
whole_of (more_fields f fs) no_layouts h = absurd h
whole_of (more_fields f fs) (more_layouts c cs) h = ((h.0, refl), whole_of fs cs h.1)

one_in : (f : types.FieldTree) (t : TypeTree) (expected : ExpectedLength) (whole : List ℕ) (rest : Rest) → t ≡ field_type f → decoded_child f expected whole rest ≡ decoded_column t expected whole rest
one_in (types.field x s b es) t expected whole rest e = ap (λ (u : TypeTree). decoded_column u expected whole rest) (sym e)

-- arrays followed by others
dictionaries_split : (front rest : List Layout) (others : List (Option Layout)) → dictionaries_of (front ++ rest) ++ others ≡ dictionaries_of front ++ (dictionaries_of rest ++ others)
dictionaries_split [] rest others = refl
dictionaries_split (a ∷ front) rest others =
    append_assoc (own_dictionaries a) (dictionaries_of (front ++ rest)) others
    ∙ ap (λ (x : List (Option Layout)). own_dictionaries a ++ x) (dictionaries_split front rest others)
    ∙ sym (append_assoc (own_dictionaries a) (dictionaries_of front) (dictionaries_of rest ++ others))

nodes_split : (front rest : List Layout) (ns : List FieldNode) → map field_node_of (front ++ rest) ++ ns ≡ map field_node_of front ++ (map field_node_of rest ++ ns)
nodes_split front rest ns = ap (λ (x : List FieldNode). x ++ ns) (map-append field_node_of front rest) ∙ append_assoc (map field_node_of front) (map field_node_of rest) ns

before_split : (front rest : List Layout) (ns : Later) → before (front ++ rest) ns ≡ before front (before rest ns)
before_split front rest ns = λ w. record { nodes = nodes_split front rest ns.nodes w; dictionaries = dictionaries_split front rest ns.dictionaries w }

buffer_specs_split : (front rest : List Layout) (base : ℕ) (more : List BufferSpec)
    → buffer_specs base (buffers_of (front ++ rest)) ++ more ≡ buffer_specs base (buffers_of front) ++ (buffer_specs (base + length (body_of (buffers_of front))) (buffers_of rest) ++ more)
buffer_specs_split front rest base more =
    ap (λ (x : List (List ℕ)). buffer_specs base x ++ more) (buffers_append front rest)
    ∙ ap (λ (x : List BufferSpec). x ++ more) (buffer_specs_append base (buffers_of front) (buffers_of rest))
    ∙ append_assoc (buffer_specs base (buffers_of front)) (buffer_specs (base + length (body_of (buffers_of front))) (buffers_of rest)) more

body_split : (front rest : List Layout) (tail : List ℕ) → body_of (buffers_of (front ++ rest)) ++ tail ≡ body_of (buffers_of front) ++ (body_of (buffers_of rest) ++ tail)
body_split front rest tail =
    ap (λ (x : List (List ℕ)). body_of x ++ tail) (buffers_append front rest)
    ∙ ap (λ (x : List ℕ). x ++ tail) (body_append (buffers_of front) (buffers_of rest))
    ∙ append_assoc (body_of (buffers_of front)) (body_of (buffers_of rest)) tail

fields_again : (fs : FieldTrees) (expected : ExpectedLength) (ws : List WindowParts) (whole : List ℕ) (base : ℕ) (tail : List ℕ) (ns : Later) (more : List BufferSpec) → AreOf fs expected ws → AllByRecursion WindowRoundTrips ws
    → From whole base (body_of (buffers_of (window_arrays ws)) ++ tail)
    → decoded_children fs expected whole (rest_with (before (window_arrays ws) ns) (buffer_specs base (buffers_of (window_arrays ws)) ++ more)) ≡ Ok (normalized_windows ws, rest_with ns more)
fields_again no_fields expected [] whole base tail ns more of_ again h =
    (λ w. Ok (no_layouts, rest_with (before (written_none w) ns) (buffer_specs base (buffers_of (written_none w)) ++ more)))
    ∙ (λ w. Ok (no_layouts, rest_with ns (buffer_specs base (buffers_none w) ++ more)))
    ∙ (λ w. Ok (no_layouts, rest_with ns (no_buffers base w ++ more)))
fields_again no_fields expected (w ∷ ws) whole base tail ns more of_ again h = absurd of_
fields_again (more_fields f fs) expected [] whole base tail ns more of_ again h = absurd of_
fields_again (more_fields f fs) expected (w ∷ ws) whole base tail ns more of_ again h =
    let here : List Layout = preorder (normalized_window w) in
    let others : List Layout = window_arrays ws in
    let next : ℕ = base + length (body_of (buffers_of here)) in
    let all : window_arrays (w ∷ ws) ≡ here ++ others = written_more w ws in
    let nodes : before (window_arrays (w ∷ ws)) ns ≡ before here (before others ns) = ap (λ (x : List Layout). before x ns) all ∙ before_split here others ns in
    let buffers : buffer_specs base (buffers_of (window_arrays (w ∷ ws))) ++ more ≡ buffer_specs base (buffers_of here) ++ (buffer_specs next (buffers_of others) ++ more) =
    ap (λ (x : List Layout). buffer_specs base (buffers_of x) ++ more) all ∙ buffer_specs_split here others base more in
    let body : body_of (buffers_of (window_arrays (w ∷ ws))) ++ tail ≡ body_of (buffers_of here) ++ (body_of (buffers_of others) ++ tail) =
    ap (λ (x : List Layout). body_of (buffers_of x) ++ tail) all ∙ body_split here others tail in
    let from : From whole base (body_of (buffers_of here) ++ (body_of (buffers_of others) ++ tail)) = record { is = h.is ∙ body; within = h.within } in
    let first : decoded_child f expected whole (rest_with (before here (before others ns)) (buffer_specs base (buffers_of here) ++ (buffer_specs next (buffers_of others) ++ more))) ≡ Ok (normalized_window w, rest_with (before others ns) (buffer_specs next (buffers_of others) ++ more)) =
    one_in f (layout_type w.array) expected whole _ of_.0.0
    ∙ again.0.read expected whole base (body_of (buffers_of others) ++ tail) (before others ns) (buffer_specs next (buffers_of others) ++ more) of_.0.1 from in
    let second = fields_again fs expected ws whole next tail ns more of_.1 again.1 (From_next whole base (body_of (buffers_of here)) (body_of (buffers_of others) ++ tail) from) in
    (λ k. decoded_children (more_fields f fs) expected whole (rest_with (nodes k) (buffers k)))
    ∙ rw (first, second) refl

-- ---- structs

each_again : (cs : Layouts) (o n i : ℕ) → AllByRecursion WindowRoundTrips (each_window cs o n) → i < n → each (normalized_each cs o n) i ≡ each cs (o + i)
each_again no_layouts o n i again lt = refl
each_again (more_layouts c cs) o n i again lt = λ w. slots.more_slots (again.0.slots i lt w) (each_again cs o n i again.1 lt w)

record_window : (t : TypeTree) (cs : Layouts) (va : Validity) (o n : ℕ) → TopFits (struct t cs va) → o + n ≤ first_len cs → AllByRecursion WindowRoundTrips (each_window cs o n) → WindowRoundTrips (window_parts (struct t cs va) o n)
record_window t cs va o n fits le children =
    let v : Validity = sliced_validity va o n in
    let ws : List WindowParts = each_window cs o n in
    let below : List Layout = window_arrays ws in
    let some : ltb 0 (count_fields (fields_of t)) ≡ true = lt-ltb _ _ fits.1.1.0 in
    let same : eqb n n ≡ true = eqb-same n in
    let expected : checked_length (Exactly n) n ≡ Ok tt = rw same refl in
    window_again (struct t cs va) o n below fits refl le (ap (λ (x : List Layout). normalized_slice (struct t cs va) o n ∷ x) (each_written cs o n))
    (λ whole base tail ns more h.
    let first = head_again n v whole base (buffers_of below) tail (before below ns) more (slice_fits va (first_len cs) o n fits.1.1.1.1.1.1.0 le) h in
    let next : ℕ = base + length (padded (normalized_validity_bytes v)) in
    let second = fields_again (fields_of t) (Exactly n) ws whole next tail ns more (each_of (fields_of t) (Exactly n) cs o n fits.1.1.1.1.0 expected) children (next_behind whole base (normalized_validity_bytes v) (buffers_of below) tail h) in
    record_in t t _ whole _ fits.1.0 ∙ rw (some, first, second) (ap (λ (x : Layouts). Ok (struct t x (normalized_validity v), rest_with ns more)) (each_all cs o n)))
    (λ i lt.
    let valid : valid_at (normalized_validity v) i ≡ valid_at va (o + i) = sym (valid_again v i) ∙ valid-cut va o n i lt in
    (λ w. if valid w then slots.record_of (each_again cs o n i children lt w) else slots.null))

-- ---- unions

-- the invariants of a union without those of its children
record UnionFits (t : TypeTree) (ks : List ℤ) (cs : Layouts) (os : Option (List ℤ)) (start : ℕ) : Type 0 where
  kind : physical_type t ≡ physical.Union
  formed : (nat_le (count_fields (fields_of t)) most_fields && are_type_ids (ids_of t) (count_fields (fields_of t))) ≡ true
  typed : EachType (fields_of t) cs
  meant : All (λ k. is_field_below (field_named (ids_of t) k) (count_fields (fields_of t)) ≡ true) ks

means_so : (m : Option ℕ) (n : ℕ) → MeansField m n → is_field_below m n ≡ true
means_so None n h = absurd h
means_so (Some f) n h = lt-ltb _ _ h

all_so : {A : Type 0} (p : A → Bool) (xs : List A) → All (λ x. p x ≡ true) xs → list_all p xs ≡ true
all_so p [] h = refl
all_so p (x ∷ xs) h = rw (h 0 x (omega arith)) (all_so p xs (λ i d lt. h (suc i) d (omega arith)))

ids_so : (ids : Option (List ℤ)) (n : ℕ) → IdsCount ids n → IdsInRange ids → are_type_ids ids n ≡ true
ids_so None n count range = refl
ids_so (Some ids) n count range =
    let same : eqb (length ids) n ≡ true = ap (eqb (length ids)) (sym count) ∙ eqb-same (length ids) in
    rw same (all_so (λ z. is_index_below z type_count) ids (λ i d lt. names_so (get_or ids i d) type_count (range i d lt)))

union_fits : (t : TypeTree) (ks : List ℤ) (cs : Layouts) (os : Option (List ℤ)) (start : ℕ) → TopFits (union t ks cs os start) → UnionFits t ks cs os start
union_fits t ks cs os start fits =
    let f = fits.1 in
    let count : count_layouts cs ≡ count_fields (fields_of t) = f.1.0 in
    let few : leb (count_fields (fields_of t)) most_fields ≡ true = le-leb _ _ (omega (arith, f.1.1.0, count)) in
    let g = f.1.1.1.1.1.1 in
    let ids : are_type_ids (ids_of t) (count_fields (fields_of t)) ≡ true = ap (are_type_ids (ids_of t)) (sym count) ∙ ids_so (ids_of t) (count_layouts cs) g.0 g.1.0 in
    record {
      kind = f.0;
      formed = rw (few, ids) refl;
      typed = f.1.1.1.0;
      meant = λ i d lt. ap (is_field_below (field_named (ids_of t) (get_or ks i d))) (sym count) ∙ means_so (field_named (ids_of t) (get_or ks i d)) (count_layouts cs) (g.1.1.0 i d lt);
    }

cut_all : {A : Type 0} (P : A → Type 0) (xs : List A) (o n : ℕ) → o + n ≤ length xs → All P xs → All P (sublist xs o n)
cut_all P xs o n le h = λ i d lt. let e = length-cut xs o n le in subst P (sym (get_or-cut xs o n i d (omega arith))) (h (o + i) d (omega arith))

only_again : (zs : List ℤ) → map only (map (λ z. z ∷ []) zs) ≡ zs
only_again [] = refl
only_again (z ∷ zs) = ap (λ (x : List ℤ). z ∷ x) (only_again zs)

type_sized : IsSized type_format
type_sized = record { long = λ zs. refl; some = omega arith }

numbers_again : (format : ByteFormat) (zs : List ℤ) (n : ℕ) → IsSized format → length zs ≡ n → NumbersRoundTrip format zs → decoded_values format n (numbers_bytes format zs) ≡ Ok (map (λ z. z ∷ []) zs)
numbers_again format zs n sized long round_trips =
    let values : List (List ℤ) = map (λ z. z ∷ []) zs in
    let count : n ≡ length values = sym (length-map zs (λ (z : ℤ). z ∷ []) ∙ long) in
    ap (λ (m : ℕ). decoded_values format m (values_bytes format values)) count ∙ natives_again format values sized round_trips

types_again : (ids : Option (List ℤ)) (fields n : ℕ) (zs : List ℤ) → length zs ≡ n → NumbersRoundTrip type_format zs → are_known_types ids fields zs ≡ true → decoded_types ids fields n (numbers_bytes type_format zs) ≡ Ok zs
unfolding decoded_types
types_again ids fields n zs long round_trips meant = rw (numbers_again type_format zs n type_sized long round_trips, only_again zs, meant) refl

pub of_same : (m : Option ℕ) (f g : ℕ → Slot) → ((k : ℕ) → m ≡ Some k → f k ≡ g k) → of_field m f ≡ of_field m g
of_same None f g h = refl
of_same (Some k) f g h = h k refl

-- ---- sparse unions

picked_each : (f : ℕ) (cs : Layouts) (b n k i : ℕ) → AllByRecursion WindowRoundTrips (each_window cs b n) → i < n → picked f (normalized_each cs b n) k i ≡ picked f cs k (b + i)
picked_each f no_layouts b n k i again lt = refl
picked_each f (more_layouts c cs) b n zero i again lt = λ w. slots.pick f (normalized_type c b n w) (again.0.slots i lt w)
picked_each f (more_layouts c cs) b n (suc k) i again lt = picked_each f cs b n k i again.1 lt

not_zero : (n : ℕ) (b : Bool) → eqb n 0 ≡ b → 0 < n → eqb n 0 ≡ false
not_zero n true e h = absurd (omega (arith, h, eqb-zero n e))
not_zero n false e h = e

pub some_begin : (start o n : ℕ) → 0 < n → sparse_begin start o n ≡ start + o
some_begin start o n h = rw (not_zero n (eqb n 0) refl h) refl

sparse_slot : (t : TypeTree) (ks : List ℤ) (cs : Layouts) (start o n i : ℕ) → AllByRecursion WindowRoundTrips (each_window cs (sparse_begin start o n) n) → i < n → slot (normalized_slice (union t ks cs None start) o n) i ≡ slot (union t ks cs None start) (o + i)
sparse_slot t ks cs start o n i again lt =
    let b : ℕ = sparse_begin start o n in
    let at : b + (0 + i) ≡ start + (o + i) = omega (arith, some_begin start o n (omega arith)) in
    ap (λ (z : ℤ). of_field (field_named (ids_of t) z) (λ f. picked f (normalized_each cs b n) f (0 + i))) (get_or-cut ks o n i (pos 0) lt)
    ∙ of_same (field_named (ids_of t) (get_or ks (o + i) (pos 0))) (λ f. picked f (normalized_each cs b n) f (0 + i)) (λ f. picked f cs f (start + (o + i)))
    (λ f e. picked_each f cs b n f (0 + i) again (omega arith) ∙ ap (picked f cs f) at)

sparse_read : (t : TypeTree) (ks : List ℤ) (cs : Layouts) (start o n : ℕ) → TopFits (union t ks cs None start) → o + n ≤ length ks → NumbersRoundTrip type_format (sublist ks o n) → AllByRecursion WindowRoundTrips (each_window cs (sparse_begin start o n) n)
    → IsRead (union t ks cs None start) o n (window_arrays (each_window cs (sparse_begin start o n) n))
unfolding decoded_union_parts
sparse_read t ks cs start o n fits le round_trips children whole base tail ns more h =
    let u = union_fits t ks cs None start fits in
    let part : List ℤ = sublist ks o n in
    let bytes : List ℕ = numbers_bytes type_format part in
    let ws : List WindowParts = each_window cs (sparse_begin start o n) n in
    let below : List Layout = window_arrays ws in
    let sparse : is_dense t ≡ false = fits.1.1.1.1.1.1.0 in
    let same : leb n n ≡ true = le-leb _ _ (omega arith) in
    let expected : checked_length (AtLeast n) n ≡ Ok tt = rw same refl in
    let first = buffer_again whole base bytes (buffers_of below) tail (before below ns) more h in
    let meant : are_known_types (ids_of t) (count_fields (fields_of t)) part ≡ true = all_so (λ z. is_field_below (field_named (ids_of t) z) (count_fields (fields_of t))) part (cut_all (λ z. is_field_below (field_named (ids_of t) z) (count_fields (fields_of t)) ≡ true) ks o n le u.meant) in
    let read = types_again (ids_of t) (count_fields (fields_of t)) n part (length-cut ks o n le) round_trips meant in
    let next : ℕ = base + length (padded bytes) in
    let second = fields_again (fields_of t) (AtLeast n) ws whole next tail ns more (each_of (fields_of t) (AtLeast n) cs (sparse_begin start o n) n u.typed expected) children (next_behind whole base bytes (buffers_of below) tail h) in
    union_in t t _ whole _ u.kind
    ∙ rw (sparse, u.formed, first, read, second) (ap (λ (x : Layouts). Ok (union t part x None 0, rest_with ns more)) (each_all cs (sparse_begin start o n) n))

-- ---- dense unions

child_long : (cs : Layouts) (f : Option ℕ) → child_len (normalized_all cs) f ≡ child_len cs f
child_long no_layouts f = refl
child_long (more_layouts c cs) None = refl
child_long (more_layouts c cs) (Some zero) = normalized_len c 0 (len c) (omega arith)
child_long (more_layouts c cs) (Some (suc f)) = child_long cs (Some f)

picked_whole : (f : ℕ) (cs : Layouts) (k p : ℕ) → AllByRecursion WindowRoundTrips (whole_windows cs) → p < child_len cs (Some k) → picked f (normalized_all cs) k p ≡ picked f cs k p
picked_whole f no_layouts k p again lt = refl
picked_whole f (more_layouts c cs) zero p again lt = λ w. slots.pick f (normalized_type c 0 (len c) w) ((again.0.slots p lt ∙ (let z : 0 + p ≡ p = omega arith in ap (slot c) z)) w)
picked_whole f (more_layouts c cs) (suc k) p again lt = picked_whole f cs k p again.1 lt

pub place_named : (z : ℤ) (n : ℕ) → Names z n → to_index z < n
place_named (pos k) n h = h
place_named (negsuc k) n h = absurd h

dense_slot : (t : TypeTree) (ks : List ℤ) (cs : Layouts) (os : List ℤ) (start o n i : ℕ) → o + n ≤ length ks → EachOffsetNames (ids_of t) ks os cs → AllByRecursion WindowRoundTrips (whole_windows cs) → i < n
    → slot (normalized_slice (union t ks cs (Some os) start) o n) i ≡ slot (union t ks cs (Some os) start) (o + i)
dense_slot t ks cs os start o n i le there again lt =
    let z : ℤ = get_or ks (o + i) (pos 0) in
    let p : ℕ = to_index (get_or os (o + i) (pos 0)) in
    (λ w. of_field (field_named (ids_of t) (get_or-cut ks o n i (pos 0) lt w)) (λ f. picked f (normalized_all cs) f (to_index (get_or-cut os o n i (pos 0) lt w))))
    ∙ of_same (field_named (ids_of t) z) (λ f. picked f (normalized_all cs) f p) (λ f. picked f cs f p)
    (λ f e. picked_whole f cs f p again (place_named (get_or os (o + i) (pos 0)) (child_len cs (Some f)) (subst (λ (m : Option ℕ). Names (get_or os (o + i) (pos 0)) (child_len cs m)) e (there (o + i) (omega arith)))))

slots_named : (ids : Option (List ℤ)) (cs : Layouts) (ks os : List ℤ) → length os ≡ length ks → EachOffsetNames ids ks os cs → are_offsets_in_children ids cs ks os ≡ true
slots_named ids cs [] os e h = refl
slots_named ids cs (z ∷ ks) [] e h = absurd (omega arith)
slots_named ids cs (z ∷ ks) (p ∷ os) e h = rw (names_so p (child_len cs (field_named ids z)) (h 0 (omega arith))) (slots_named ids cs ks os (omega arith) (λ i lt. h (suc i) (omega arith)))

cut_named : (ids : Option (List ℤ)) (cs : Layouts) (ks os : List ℤ) (o n : ℕ) → o + n ≤ length ks → EachOffsetNames ids ks os cs → EachOffsetNames ids (sublist ks o n) (sublist os o n) (normalized_all cs)
cut_named ids cs ks os o n le h = λ i lt.
    let at : i < n = omega (arith, length-cut ks o n le) in
    subst (λ (m : ℕ). Names (get_or (sublist os o n) i (pos 0)) m) (sym (child_long cs (field_named ids (get_or (sublist ks o n) i (pos 0)))))
    (subst (λ (z : ℤ). Names (get_or (sublist os o n) i (pos 0)) (child_len cs (field_named ids z))) (sym (get_or-cut ks o n i (pos 0) at))
    (subst (λ (z : ℤ). Names z (child_len cs (field_named ids (get_or ks (o + i) (pos 0))))) (sym (get_or-cut os o n i (pos 0) at)) (h (o + i) (omega arith))))

dense_read : (t : TypeTree) (ks : List ℤ) (cs : Layouts) (os : List ℤ) (start o n : ℕ) → TopFits (union t ks cs (Some os) start) → o + n ≤ length ks → NumbersRoundTrip type_format (sublist ks o n) → NumbersRoundTrip (offset_format false) (sublist os o n)
    → AllByRecursion WindowRoundTrips (whole_windows cs) → IsRead (union t ks cs (Some os) start) o n (window_arrays (whole_windows cs))
unfolding decoded_union_parts
dense_read t ks cs os start o n fits le round_trips offsets_round_trip children whole base tail ns more h =
    let u = union_fits t ks cs (Some os) start fits in
    let part : List ℤ = sublist ks o n in
    let places : List ℤ = sublist os o n in
    let bytes : List ℕ = numbers_bytes type_format part in
    let offsets : List ℕ = numbers_bytes (offset_format false) places in
    let ws : List WindowParts = whole_windows cs in
    let below : List Layout = window_arrays ws in
    let dense : is_dense t ≡ true = fits.1.1.1.1.1.1.0 in
    let many : length os ≡ length ks = fits.1.1.1.1.1.0 in
    let first = buffer_again whole base bytes (offsets ∷ buffers_of below) tail (before below ns) more h in
    let meant : are_known_types (ids_of t) (count_fields (fields_of t)) part ≡ true = all_so (λ z. is_field_below (field_named (ids_of t) z) (count_fields (fields_of t))) part (cut_all (λ z. is_field_below (field_named (ids_of t) z) (count_fields (fields_of t)) ≡ true) ks o n le u.meant) in
    let read = types_again (ids_of t) (count_fields (fields_of t)) n part (length-cut ks o n le) round_trips meant in
    let next : ℕ = base + length (padded bytes) in
    let from = next_behind whole base bytes (offsets ∷ buffers_of below) tail h in
    let second = buffer_again whole next offsets (buffers_of below) tail (before below ns) more from in
    let places_long : length places ≡ n = length-cut os o n (omega arith) in
    let places_read = numbers_again (offset_format false) places n (offset_sized false) places_long offsets_round_trip in
    let far : ℕ = next + length (padded offsets) in
    let third = fields_again (fields_of t) Any ws whole far tail ns more (whole_of (fields_of t) cs u.typed) children (next_behind whole next offsets (buffers_of below) tail from) in
    let there : are_offsets_in_children (ids_of t) (normalized_all cs) part places ≡ true = slots_named (ids_of t) (normalized_all cs) part places (places_long ∙ sym (length-cut ks o n le)) (cut_named (ids_of t) cs ks os o n le fits.1.1.1.1.1.1.1.1.1.1.0) in
    union_in t t _ whole _ u.kind
    ∙ rw (dense, u.formed, first, read, second, places_read, only_again places, third, whole_all cs, there) refl

-- ---- windows of any kind

pub again : (a : Layout) (o n : ℕ) → TopFits a → is_supported a ≡ true → o + n ≤ len a → OwnBuffersRoundTrip a o n → AllByRecursion WindowRoundTrips (windows_below a o n) → WindowRoundTrips (window_parts a o n)
again (fixed_size_list t c va) o n fits format le round_trips children = sized_window t c va o n fits le children.0
again (list_of large t os c va) o n fits format le round_trips children = list_window large t os c va o n fits le round_trips children.0
again (map_of t os c va) o n fits format le round_trips children = map_window t os c va o n fits le round_trips children.0
again (struct t cs va) o n fits format le round_trips children = record_window t cs va o n fits le children
again (union t ks cs None start) o n fits format le round_trips children =
    window_again (union t ks cs None start) o n (window_arrays (each_window cs (sparse_begin start o n) n)) fits refl le (ap (λ (x : List Layout). normalized_slice (union t ks cs None start) o n ∷ x) (each_written cs (sparse_begin start o n) n))
    (sparse_read t ks cs start o n fits le round_trips children) (λ i lt. sparse_slot t ks cs start o n i children lt)
again (union t ks cs (Some os) start) o n fits format le round_trips children =
    window_again (union t ks cs (Some os) start) o n (window_arrays (whole_windows cs)) fits refl le (ap (λ (x : List Layout). normalized_slice (union t ks cs (Some os) start) o n ∷ x) (all_written cs))
    (dense_read t ks cs os start o n fits le round_trips.0 round_trips.1 children) (λ i lt. dense_slot t ks cs os start o n i le fits.1.1.1.1.1.1.1.1.1.1.0 children lt)
again (null t m) o n fits format le round_trips children = flat_window (null t m) o n fits refl refl le round_trips refl
again (boolean t bs va) o n fits format le round_trips children = flat_window (boolean t bs va) o n fits refl refl le round_trips refl
again (primitive k t vs va) o n fits format le round_trips children = flat_window (primitive k t vs va) o n fits format format le round_trips refl
again (binary large t os bs va) o n fits format le round_trips children = flat_window (binary large t os bs va) o n fits refl refl le round_trips refl
again (utf8 large t os bs va) o n fits format le round_trips children = flat_window (utf8 large t os bs va) o n fits refl refl le round_trips refl
again (fixed_size_binary t bs va) o n fits format le round_trips children = flat_window (fixed_size_binary t bs va) o n fits refl refl le round_trips refl
again (dictionary t ks c) o n fits format le round_trips children = flat_window (dictionary t ks c) o n fits refl refl le round_trips refl

-- ---- columns

abbrev pub ColumnRoundTrips : Layout → Type 0
ColumnRoundTrips a = WindowRoundTrips (window_parts a 0 (len a))

columns_again : (columns : List Layout) (rows : ℕ) (whole : List ℕ) (base : ℕ) (tail : List ℕ) (ns : Later) (more : List BufferSpec) → AllByRecursion ColumnRoundTrips columns → AllByRecursion (λ a. len a ≡ rows) columns → From whole base (columns_body columns ++ tail)
    → decoded_each (map layout_type columns) rows whole (rest_with (before (written_arrays columns) ns) (buffer_specs base (buffers_of (written_arrays columns)) ++ more)) ≡ Ok (map normalized columns, rest_with ns more)
unfolding decoded_each
columns_again [] rows whole base tail ns more ok long h =
    let none : buffer_specs base (buffers_of (written_arrays [])) ≡ [] = unfold written_arrays buffers_of buffer_specs in refl in
    let nodes : written_arrays [] ≡ [] = unfold written_arrays in refl in
    rw (none, nodes) refl
columns_again (a ∷ columns) rows whole base tail ns more ok long h =
    let here : List Layout = preorder (normalized a) in
    let others : List Layout = written_arrays columns in
    let next : ℕ = base + length (body_of (buffers_of here)) in
    let all : written_arrays (a ∷ columns) ≡ here ++ others = unfold written_arrays in flat_map-cons (λ (x : Layout). preorder (normalized x)) a columns in
    let nodes : before (written_arrays (a ∷ columns)) ns ≡ before here (before others ns) = ap (λ (x : List Layout). before x ns) all ∙ before_split here others ns in
    let buffers : buffer_specs base (buffers_of (written_arrays (a ∷ columns))) ++ more ≡ buffer_specs base (buffers_of here) ++ (buffer_specs next (buffers_of others) ++ more) =
    ap (λ (x : List Layout). buffer_specs base (buffers_of x) ++ more) all ∙ buffer_specs_split here others base more in
    let body : columns_body (a ∷ columns) ++ tail ≡ body_of (buffers_of here) ++ (body_of (buffers_of others) ++ tail) =
    ap (λ (x : List Layout). body_of (buffers_of x) ++ tail) all ∙ body_split here others tail in
    let from : From whole base (body_of (buffers_of here) ++ (body_of (buffers_of others) ++ tail)) = record { is = h.is ∙ body; within = h.within } in
    let same : eqb (len a) rows ≡ true = ap (eqb (len a)) (sym long.0) ∙ eqb-same (len a) in
    let expected : checked_length (Rows rows) (len a) ≡ Ok tt = rw same refl in
    let first = ok.0.read (Rows rows) whole base (body_of (buffers_of others) ++ tail) (before others ns) (buffer_specs next (buffers_of others) ++ more) expected from in
    let second = columns_again columns rows whole next tail ns more ok.1 long.1 (From_next whole base (body_of (buffers_of here)) (body_of (buffers_of others) ++ tail) from) in
    (λ w. decoded_each (map layout_type (a ∷ columns)) rows whole (rest_with (nodes w) (buffers w)))
    ∙ rw (first, second) refl

batch_again : (columns : List Layout) (rows : ℕ) → AllByRecursion ColumnRoundTrips columns → AllByRecursion (λ a. len a ≡ rows) columns
    → decoded_columns (map layout_type columns) rows (columns_body columns) (record { nodes = map field_node_of (written_arrays columns); buffers = buffer_specs 0 (buffers_of (written_arrays columns)); dictionaries = dictionaries_of (written_arrays columns) }) ≡ Ok (map normalized columns)
unfolding decoded_columns
batch_again columns rows ok long =
    let whole : List ℕ = columns_body columns in
    let all : Later = record { nodes = map field_node_of (written_arrays columns); dictionaries = dictionaries_of (written_arrays columns) } in
    let none : Later = record { nodes = []; dictionaries = [] } in
    let buffers : List BufferSpec = buffer_specs 0 (buffers_of (written_arrays columns)) in
    let start : From whole 0 (columns_body columns ++ []) = record { is = sym (append-nil whole); within = omega arith } in
    let whole_all : all ≡ before (written_arrays columns) none = λ w. record { nodes = sym (append-nil all.nodes) w; dictionaries = sym (append-nil all.dictionaries) w } in
    let each : decoded_each (map layout_type columns) rows whole (rest_with all buffers) ≡ Ok (map normalized columns, rest_with none []) =
    (λ w. decoded_each (map layout_type columns) rows whole (rest_with (whole_all w) (sym (append-nil buffers) w)))
    ∙ columns_again columns rows whole 0 [] none [] ok long start in
    rw each refl

whole_same : (a : Layout) → ColumnRoundTrips a → IsSameArray a (normalized a)
whole_same a ok =
    let at : (i : ℕ) → 0 + i ≡ i = λ i. omega arith in
    same-from_places a (normalized a) (sym (normalized_type a 0 (len a))) (sym ok.long) (λ i lt. sym (ok.slots i lt ∙ ap (slot a) (at i)))

all_same : (columns : List Layout) → AllByRecursion ColumnRoundTrips columns → AllByRecursion (λ a. IsSameArray a (normalized a)) columns
all_same [] ok = tt
all_same (a ∷ columns) ok = (whole_same a ok.0, all_same columns ok.1)

pub all_read_back : (columns : List Layout) → AllByRecursion ColumnRoundTrips columns → RoundTrip columns
all_read_back columns ok = record { read = λ rows long. batch_again columns rows ok long; same = all_same columns ok }
