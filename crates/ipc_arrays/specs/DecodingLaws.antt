-- An array that is read has the requested data type and the length of its field node; children have the length that their parent requires.
use Rattle.std.proofs.Common.{◌≡◌, ℕ, zero, suc, ◌+◌, ◌*◌, ◌/◌, ◌<◌, ◌≤◌, Bool, true, false, eqb, leb, ltb, List, [], ◌∷◌, length, take, drop, map, Result, Ok, Err, Option, Some, None, refl, sym, ap, subst, ◌∙◌, arith}
use Rattle.std.specs.Prelude.{ℤ, ◌&&◌, IfOk, if◌then◌else◌}
use Rattle.std.specs.List.{range_with_len}
use Rattle.std.proofs.Math.Nat.{mul-div_cancel}
use Rattle.std.proofs.lemmas.Bool.{eqb-true, leb-true, ltb-true, and_parts}
use Rattle.std.proofs.lemmas.List.{length-map, length-take-le}
use Rattle.std.proofs.lemmas.List.FromFn.{length-range_with_len}
use Rattle.std.proofs.lemmas.Result.{IfOk-weaker}
use Rattle.ipc_flatbuf.specs.ReadResults.{◌>>=◌, check}
use Rattle.ipc_flatbuf.specs.declared.error.IpcReadError.{IpcReadError}
use Rattle.ipc_flatbuf.specs.declared.error.IpcReadError.TheVariants.{TypeRange, BufferTooShort, Offsets, OffsetPastChild, Utf8, UnionType, UnionOffset, MissingDictionary, KeyRange}
use Rattle.nest_memory.specs.Bits.{bit, bits_from}
use Rattle.nest_memory.specs.Physical.{physical_type, primitive_tree}
use Rattle.nest_memory.specs.Rising.{are_offsets, last_of, to_nat}
use Rattle.nest_memory.specs.TypeTree as types
use Rattle.nest_memory.specs.TypeTree.{TypeTree, FieldTree, FieldTrees, field, no_fields, more_fields, field_type, logical_type, item_type, count_fields, size_of, fields_of, ids_of, is_dense, is_dense_mode, is_pair, has_pairs, value_type}
use Rattle.nest_memory.specs.declared.datatypes.IntegerType.{IntegerType}
use Rattle.nest_memory.specs.declared.datatypes.UnionMode.{UnionMode}
use Rattle.nest_memory.specs.declared.datatypes.UnionMode.TheVariants.{Dense, Sparse}
use Rattle.nest_memory.specs.declared.datatypes.physical_type.PhysicalType.{PhysicalType}
use Rattle.nest_memory.specs.declared.datatypes.physical_type.PhysicalType.TheVariants as physical
use Rattle.nest_memory.specs.declared.datatypes.physical_type.PrimitiveType.{PrimitiveType}
use Rattle.nest_model.specs.Accessors.{key_kind, key_type_of}
use Rattle.nest_model.specs.Checks.{most_fields}
use Rattle.nest_model.specs.Fits.{EachType}
use Rattle.nest_model.specs.Layout.{Layout, Layouts, no_layouts, more_layouts, layout_type, utf8}
use Rattle.nest_model.specs.Meaning.{len, first_len}
use Rattle.nest_model.specs.Part.{count_rows}
use Rattle.ipc_arrays.specs.DictionaryKeys.{key_primitive, key_format, AreZeroAtNulls, AreKeysOf, is_same_logical_type}
use Rattle.ipc_arrays.specs.DictionaryKeyLaws.{blanked_long, blank_key, native_key, keyed_type}
use Rattle.ipc_arrays.specs.EachSlot.{each_slot}
use Rattle.ipc_arrays.specs.EachSlotLaws.{IsEach, each_is}
use Rattle.ipc_arrays.specs.PackedStringLaws.{rows_long as rows_packed}
use Rattle.ipc_arrays.specs.FixedWidth.{ByteFormat, format_of, offset_format, type_format, only, decoded_natives}
use Rattle.ipc_arrays.specs.Decoding.{Rest, VariableSizeHead, BinaryParts, UnionParts, are_utf8, first_counts, decoded_bits, decoded_values, decoded_bytes, checked_offsets, decoded_offsets, decoded_data, checked_length, decoded_node, decoded_buffer, decoded_validity_buffer, decoded_boolean, decoded_primitive, decoded_fixed_size_binary, decoded_variable_size_head, decoded_binary_parts, decoded_binary, string_of_slot, packed_slots, utf8_parts, checked_utf8, decoded_utf8, decoded_keys_as, decoded_keys, are_keys_in_range, dictionary_over, decoded_dictionary_values, decoded_dictionary, decoded_fixed_width, decoded_flat, are_type_ids, are_known_types, decoded_types, decoded_union_parts, union_child_length, are_union_offsets_valid, decoded_array, decoded_child, decoded_children}
use Rattle.ipc_arrays.specs.declared.cursor.NodeCounts.{NodeCounts}
use Rattle.ipc_arrays.specs.declared.cursor.ExpectedLength.{ExpectedLength}
use Rattle.ipc_arrays.specs.declared.cursor.ExpectedLength.TheVariants.{Rows, Exactly, AtLeast, Any}

-- ---- facts about arrays that are read

module _ {A B : Type 0} (P : B → Type 0) where
  pub after : (r : Result A IpcReadError) (f : A → Result B IpcReadError) → ((x : A) → r ≡ Ok x → IfOk (f x) P) → IfOk (r >>= f) P
  after (Ok x) f holds = holds x refl
  after (Err e) f holds = tt

pub checked : {B : Type 0} (P : B → Type 0) (b : Bool) (e : IpcReadError) (f : Unit {0} → Result B IpcReadError) → (b ≡ true → IfOk (f tt) P) → IfOk (check b e >>= f) P
checked P true e f holds = holds refl
checked P false e f holds = tt

pub found : {A : Type 0} (P : A → Type 0) (r : Result A IpcReadError) (x : A) → r ≡ Ok x → IfOk r P → P x
found P r x e h = subst (λ s. IfOk s P) e h

-- of this data type and length
abbrev pub IsOf : TypeTree → ℕ → Layout × Rest → Type 0
IsOf t n y = (layout_type y.0 ≡ t) × (len y.0 ≡ n)

-- ---- buffers

values_long : (format : ByteFormat) (n : ℕ) (bytes : List ℕ) → length (decoded_natives format n bytes) ≡ n
unfolding decoded_natives
values_long format zero bytes = refl
values_long format (suc n) bytes = ap suc (values_long format n (drop format.size bytes))

natives_long : (format : ByteFormat) (slots : ℕ) (bytes : List ℕ) → IfOk (decoded_values format slots bytes) (λ values. length values ≡ slots)
unfolding decoded_values
natives_long format slots bytes =
    checked (λ values. length values ≡ slots) (leb (slots * format.size) (length bytes)) BufferTooShort (λ enough. Ok (decoded_natives format slots bytes))
    (λ e. values_long format slots bytes)

pub bits_long : (slots : ℕ) (bytes : List ℕ) → IfOk (decoded_bits slots bytes) (λ bits. length bits ≡ slots)
unfolding decoded_bits bits_from
bits_long slots bytes =
    checked (λ (bits : List Bool). length bits ≡ slots) (leb slots (8 * length bytes)) BufferTooShort (λ enough. Ok (map (bit bytes) (range_with_len 0 slots)))
    (λ e. length-map (range_with_len 0 slots) (bit bytes) ∙ length-range_with_len 0 slots)

bytes_long : (size : ℕ) (bytes : List ℕ) → IfOk (decoded_bytes size bytes) (λ values. length values ≡ size)
unfolding decoded_bytes
bytes_long size bytes =
    checked (λ (values : List ℕ). length values ≡ size) (leb size (length bytes)) BufferTooShort (λ enough. Ok (take size bytes))
    (λ e. length-take-le size bytes (leb-true _ _ e))

offsets_by : (slots : ℕ) (read : Result (List ℕ) IpcReadError) (b : Bool) → (b ≡ true → slots ≡ 0) → IfOk read (λ os. length os ≡ slots + 1) → IfOk (if b then Ok (0 ∷ []) else read) (λ os. length os ≡ slots + 1)
offsets_by slots read true none h = omega (arith, none refl)
offsets_by slots read false none h = h

offsets_long : (large : Bool) (slots : ℕ) (bytes : List ℕ) → IfOk (decoded_offsets large slots bytes) (λ os. length os ≡ slots + 1)
unfolding decoded_offsets checked_offsets
offsets_long large slots bytes =
    offsets_by slots _ (eqb slots 0) (λ e. eqb-true slots 0 e)
    (after (λ (os : List ℕ). length os ≡ slots + 1) (decoded_values (offset_format large) (slots + 1) bytes) checked_offsets
    (λ values e.
    checked (λ (os : List ℕ). length os ≡ slots + 1) (are_offsets (map only values)) Offsets (λ rising. Ok (map to_nat (map only values)))
    (λ rising. length-map (map only values) to_nat ∙ length-map values only ∙ found _ _ _ e (natives_long (offset_format large) (slots + 1) bytes))))

-- ---- arrays without children

rows_long : (large : Bool) (counts : NodeCounts) (body : List ℕ) (rest : Rest) → IfOk (decoded_variable_size_head large counts body rest) (λ x. count_rows x.0.offsets ≡ counts.slots)
unfolding decoded_variable_size_head
rows_long large counts body rest =
    after (λ (x : VariableSizeHead × Rest). count_rows x.0.offsets ≡ counts.slots) (decoded_validity_buffer counts body rest) _
    (λ head e. after (λ (x : VariableSizeHead × Rest). count_rows x.0.offsets ≡ counts.slots) (decoded_buffer body head.1) _
    (λ first g. after (λ (x : VariableSizeHead × Rest). count_rows x.0.offsets ≡ counts.slots) (decoded_offsets large counts.slots first.0) _
    (λ offsets h. let long = found (λ (os : List ℕ). length os ≡ counts.slots + 1) _ _ h (offsets_long large counts.slots first.0) in omega (arith, long))))

strings_long : (large : Bool) (counts : NodeCounts) (body : List ℕ) (rest : Rest) → IfOk (decoded_binary_parts large counts body rest) (λ x. count_rows x.0.offsets ≡ counts.slots)
unfolding decoded_binary_parts
strings_long large counts body rest =
    after (λ x. count_rows x.0.offsets ≡ counts.slots) (decoded_variable_size_head large counts body rest) _
    (λ head e. after (λ x. count_rows x.0.offsets ≡ counts.slots) (decoded_buffer body head.1) _
    (λ second g. after (λ x. count_rows x.0.offsets ≡ counts.slots) (decoded_data (last_of head.0.offsets) second.0) _
    (λ bytes h. found (λ (x : VariableSizeHead × Rest). count_rows x.0.offsets ≡ counts.slots) _ _ e (rows_long large counts body rest))))

boolean_is : (t : TypeTree) (counts : NodeCounts) (body : List ℕ) (rest : Rest) → IfOk (decoded_boolean t counts body rest) (IsOf t counts.slots)
unfolding decoded_boolean
boolean_is t counts body rest =
    after (IsOf t counts.slots) (decoded_validity_buffer counts body rest) _
    (λ head e. after (IsOf t counts.slots) (decoded_buffer body head.1) _
    (λ bytes g. after (IsOf t counts.slots) (decoded_bits counts.slots bytes.0) _
    (λ bits h. (refl, found (λ (bs : List Bool). length bs ≡ counts.slots) _ _ h (bits_long counts.slots bytes.0)))))

native_is : (format : ByteFormat) (k : PrimitiveType) (t : TypeTree) (counts : NodeCounts) (body : List ℕ) (rest : Rest) → IfOk (decoded_primitive format k t counts body rest) (IsOf t counts.slots)
unfolding decoded_primitive
native_is format k t counts body rest =
    after (IsOf t counts.slots) (decoded_validity_buffer counts body rest) _
    (λ head e. after (IsOf t counts.slots) (decoded_buffer body head.1) _
    (λ bytes g. after (IsOf t counts.slots) (decoded_values format counts.slots bytes.0) _
    (λ values h. (refl, found (λ (vs : List (List ℤ)). length vs ≡ counts.slots) _ _ h (natives_long format counts.slots bytes.0)))))

form_is : (o : Option ByteFormat) (k : PrimitiveType) (t : TypeTree) (counts : NodeCounts) (body : List ℕ) (rest : Rest) → IfOk (decoded_fixed_width o k t counts body rest) (IsOf t counts.slots)
form_is None k t counts body rest = tt
form_is (Some format) k t counts body rest = native_is format k t counts body rest

fixed_size_binary_is : (t : TypeTree) (counts : NodeCounts) (body : List ℕ) (rest : Rest) → IfOk (decoded_fixed_size_binary t counts body rest) (IsOf t counts.slots)
unfolding decoded_fixed_size_binary
fixed_size_binary_is t counts body rest =
    checked (IsOf t counts.slots) (ltb 0 (size_of t)) TypeRange _
    (λ some. after (IsOf t counts.slots) (decoded_validity_buffer counts body rest) _
    (λ head e. after (IsOf t counts.slots) (decoded_buffer body head.1) _
    (λ bytes g. after (IsOf t counts.slots) (decoded_bytes (counts.slots * size_of t) bytes.0) _
    (λ values h.
    let long = found (λ (bs : List ℕ). length bs ≡ counts.slots * size_of t) _ _ h (bytes_long (counts.slots * size_of t) bytes.0) in
    (refl, ap (λ (n : ℕ). n / size_of t) long ∙ mul-div_cancel counts.slots (ltb-true _ _ some))))))

binary_is : (large : Bool) (t : TypeTree) (counts : NodeCounts) (body : List ℕ) (rest : Rest) → IfOk (decoded_binary large t counts body rest) (IsOf t counts.slots)
unfolding decoded_binary
binary_is large t counts body rest =
    after (IsOf t counts.slots) (decoded_binary_parts large counts body rest) _
    (λ s e. (refl, found (λ x. count_rows x.0.offsets ≡ counts.slots) _ _ e (strings_long large counts body rest)))

text_of_is : (large : Bool) (t : TypeTree) (s : BinaryParts) (n : ℕ) → count_rows s.offsets ≡ n → IfOk (checked_utf8 large t s) (λ a. (layout_type a ≡ t) × (len a ≡ n))
text_of_is large t s n h =
    after (λ (a : Layout). (layout_type a ≡ t) × (len a ≡ n)) (utf8_parts s) _
    (λ p e. (refl, found (λ (q : BinaryParts). count_rows q.offsets ≡ n) (utf8_parts s) p e (parts_long s n h)))
  where
    packed_long : (s : BinaryParts) (n : ℕ) → count_rows s.offsets ≡ n → IfOk (packed_slots s) (λ q. count_rows q.offsets ≡ n)
    packed_long s n h =
        after (λ (q : BinaryParts). count_rows q.offsets ≡ n) (each_slot (string_of_slot s) (count_rows s.offsets)) _
        (λ strings e. rows_packed strings ∙ (found (IsEach (string_of_slot s) (count_rows s.offsets)) _ strings e (each_is (string_of_slot s) (count_rows s.offsets))).long ∙ h)

    parts_long : (s : BinaryParts) (n : ℕ) → count_rows s.offsets ≡ n → IfOk (utf8_parts s) (λ q. count_rows q.offsets ≡ n)
    parts_long s n h = by (are_utf8 s.offsets s.bytes)
      where
        by : (b : Bool) → IfOk (if b then Ok s else packed_slots s) (λ q. count_rows q.offsets ≡ n)
        by true = h
        by false = packed_long s n h

text_is : (large : Bool) (t : TypeTree) (counts : NodeCounts) (body : List ℕ) (rest : Rest) → IfOk (decoded_utf8 large t counts body rest) (IsOf t counts.slots)
unfolding decoded_utf8
text_is large t counts body rest =
    after (IsOf t counts.slots) (decoded_binary_parts large counts body rest) _
    (λ s e. after (IsOf t counts.slots) (checked_utf8 large t s.0) _
    (λ a g.
    found (λ (b : Layout). (layout_type b ≡ t) × (len b ≡ counts.slots)) (checked_utf8 large t s.0) a g
    (text_of_is large t s.0 counts.slots (found (λ (x : BinaryParts × Rest). count_rows x.0.offsets ≡ counts.slots) _ _ e (strings_long large counts body rest)))))

-- ---- dictionaries

-- keys of an integer type, of a length, 0 at nulls
pub record AreRead (k : Option IntegerType) (n : ℕ) (ks : Layout) : Type 0 where
  pub typed : key_type_of ks ≡ k
  pub long : len ks ≡ n
  pub blank : AreZeroAtNulls ks

keys_by_are : (format : ByteFormat) (k : PrimitiveType) (counts : NodeCounts) (body : List ℕ) (rest : Rest) → IfOk (decoded_keys_as format k counts body rest) (λ x. AreRead (key_kind k) counts.slots x.0)
unfolding decoded_keys_as
keys_by_are format k counts body rest =
    after (λ (x : Layout × Rest). AreRead (key_kind k) counts.slots x.0) (decoded_validity_buffer counts body rest) _
    (λ head e. after (λ (x : Layout × Rest). AreRead (key_kind k) counts.slots x.0) (decoded_buffer body head.1) _
    (λ bytes g. after (λ (x : Layout × Rest). AreRead (key_kind k) counts.slots x.0) (decoded_values format counts.slots bytes.0) _
    (λ values h.
    let size = blanked_long head.0 values in
    record {
      typed = refl;
      long = size ∙ found (λ (vs : List (List ℤ)). length vs ≡ counts.slots) _ _ h (natives_long format counts.slots bytes.0);
      blank = λ i lt none. blank_key k (primitive_tree k) head.0 values i (omega (arith, lt, size)) none;
    })))

pub keys_are : (k : IntegerType) (counts : NodeCounts) (body : List ℕ) (rest : Rest) → IfOk (decoded_keys k counts body rest) (λ x. AreRead (Some k) counts.slots x.0)
keys_are k counts body rest =
    subst (λ (o : Option IntegerType). IfOk (decoded_keys k counts body rest) (λ x. AreRead o counts.slots x.0)) (native_key k) (keys_by_are (key_format k) (key_primitive k) counts body rest)

over_is : (t : TypeTree) (ks values : Layout) → IfOk (dictionary_over t ks values) (λ a. (layout_type a ≡ t) × (len a ≡ len ks))
over_is t ks values =
    checked (λ (a : Layout). (layout_type a ≡ t) × (len a ≡ len ks)) (is_same_logical_type (value_type t) (layout_type values)) MissingDictionary _
    (λ same. checked (λ (a : Layout). (layout_type a ≡ t) × (len a ≡ len ks)) (are_keys_in_range ks (len values)) KeyRange _ (λ named. (refl, refl)))

dictionary_is : (k : IntegerType) (t : TypeTree) (counts : NodeCounts) (body : List ℕ) (rest : Rest) → IfOk (decoded_dictionary k t counts body rest) (IsOf t counts.slots)
unfolding decoded_dictionary
dictionary_is k t counts body rest =
    after (IsOf t counts.slots) (decoded_keys k counts body rest) _
    (λ keys e. after (IsOf t counts.slots) (decoded_dictionary_values keys.1) _
    (λ values g. after (IsOf t counts.slots) (dictionary_over t keys.0 values.0) _
    (λ a h.
    let known = found (λ (b : Layout). (layout_type b ≡ t) × (len b ≡ len keys.0)) _ _ h (over_is t keys.0 values.0) in
    (known.0, known.1 ∙ (found (λ (x : Layout × Rest). AreRead (Some k) counts.slots x.0) _ _ e (keys_are k counts body rest)).long))))

-- keys that are read for a dictionary type
pub keys_of_type : (k : IntegerType) (t : TypeTree) (counts : NodeCounts) (body : List ℕ) (rest : Rest) (x : Layout × Rest) → physical_type t ≡ physical.Dictionary k → decoded_keys k counts body rest ≡ Ok x → AreKeysOf t x.0
keys_of_type k t counts body rest x h e =
    let type = keyed_type t k h in
    let known = found (λ (x : Layout × Rest). AreRead (Some k) counts.slots x.0) _ _ e (keys_are k counts body rest) in
    record { kind = type.0; typed = type.1 ∙ sym known.typed; blank = known.blank }

-- ---- arrays without children

kind_is : (p : PhysicalType) (t : TypeTree) (counts : NodeCounts) (body : List ℕ) (rest : Rest) → IfOk (decoded_flat p t counts body rest) (IsOf t counts.slots)
kind_is physical.Null t counts body rest = (refl, refl)
kind_is physical.Boolean t counts body rest = boolean_is t counts body rest
kind_is (physical.Primitive k) t counts body rest = form_is (format_of k) k t counts body rest
kind_is physical.FixedSizeBinary t counts body rest = fixed_size_binary_is t counts body rest
kind_is physical.Binary t counts body rest = binary_is false t counts body rest
kind_is physical.LargeBinary t counts body rest = binary_is true t counts body rest
kind_is physical.Utf8 t counts body rest = text_is false t counts body rest
kind_is physical.LargeUtf8 t counts body rest = text_is true t counts body rest
kind_is (physical.Dictionary k) t counts body rest = dictionary_is k t counts body rest
kind_is p t counts body rest = tt

-- ---- children

-- the length is the expected one
abbrev pub Suits : ExpectedLength → ℕ → Type 0
Suits (Rows n) slots = slots ≡ n
Suits (Exactly n) slots = slots ≡ n
Suits (AtLeast n) slots = n ≤ slots
Suits Any slots = Unit {0}

abbrev pub EachSuits : ExpectedLength → Layouts → Type 0
EachSuits expected no_layouts = Unit {0}
EachSuits expected (more_layouts c cs) = Suits expected (len c) × EachSuits expected cs

passed : (b : Bool) (e : IpcReadError) (x : Unit {0}) → check b e ≡ Ok x → b ≡ true
passed true e x h = refl
passed false e x h = cc

wanted_suits : (expected : ExpectedLength) (slots : ℕ) (x : Unit {0}) → checked_length expected slots ≡ Ok x → Suits expected slots
wanted_suits (Rows n) slots x h = eqb-true _ _ (passed _ _ x h)
wanted_suits (Exactly n) slots x h = eqb-true _ _ (passed _ _ x h)
wanted_suits (AtLeast n) slots x h = leb-true _ _ (passed _ _ x h)
wanted_suits Any slots x h = tt

node_suits : (expected : ExpectedLength) (rest : Rest) → IfOk (decoded_node expected rest) (λ x. Suits expected x.0.slots)
unfolding decoded_node
node_suits expected rest =
    after (λ (x : NodeCounts × Rest). Suits expected x.0.slots) (first_counts rest.nodes) _
    (λ node e. after (λ (x : NodeCounts × Rest). Suits expected x.0.slots) (checked_length expected node.0.slots) _
    (λ same g. wanted_suits expected node.0.slots same g))

first_is : (fs : FieldTrees) (cs : Layouts) (n : ℕ) → 0 < count_fields fs → EachType fs cs → EachSuits (Exactly n) cs → first_len cs ≡ n
first_is no_fields cs n some typed suits = absurd (omega (arith, some))
first_is (more_fields f fs) no_layouts n some typed suits = absurd typed
first_is (more_fields f fs) (more_layouts c cs) n some typed suits = suits.0

-- ---- unions

pub types_long : (ids : Option (List ℤ)) (fields slots : ℕ) (bytes : List ℕ) → IfOk (decoded_types ids fields slots bytes) (λ ks. (length ks ≡ slots) × (are_known_types ids fields ks ≡ true))
unfolding decoded_types
types_long ids fields slots bytes =
    after (λ (ks : List ℤ). (length ks ≡ slots) × (are_known_types ids fields ks ≡ true)) (decoded_values type_format slots bytes) _
    (λ values e. checked (λ (ks : List ℤ). (length ks ≡ slots) × (are_known_types ids fields ks ≡ true)) (are_known_types ids fields (map only values)) UnionType _
    (λ meant. (length-map values only ∙ found (λ (vs : List (List ℤ)). length vs ≡ slots) _ _ e (natives_long type_format slots bytes), meant)))

-- a dense union alone has offsets, one for each slot
abbrev pub OffsetsFor : UnionMode → ℕ → Option (List ℤ) → Type 0
OffsetsFor Sparse n None = Unit {0}
OffsetsFor Sparse n (Some os) = ⊥
OffsetsFor Dense n None = ⊥
OffsetsFor Dense n (Some os) = length os ≡ n

pub record AreDecodedUnionParts (mode : UnionMode) (ids : Option (List ℤ)) (fields slots : ℕ) (parts : UnionParts) : Type 0 where
  pub types : length parts.types ≡ slots
  pub means : are_known_types ids fields parts.types ≡ true
  pub offsets : OffsetsFor mode slots parts.offsets

pub union_parts_are : (mode : UnionMode) (ids : Option (List ℤ)) (fields : ℕ) (counts : NodeCounts) (body : List ℕ) (rest : Rest) → IfOk (decoded_union_parts mode ids fields counts body rest) (λ x. AreDecodedUnionParts mode ids fields counts.slots x.0)
unfolding decoded_union_parts
union_parts_are Sparse ids fields counts body rest =
    after (λ (x : UnionParts × Rest). AreDecodedUnionParts Sparse ids fields counts.slots x.0) (decoded_buffer body rest) _
    (λ first e. after (λ (x : UnionParts × Rest). AreDecodedUnionParts Sparse ids fields counts.slots x.0) (decoded_types ids fields counts.slots first.0) _
    (λ ks g.
    let known = found (λ (ks : List ℤ). (length ks ≡ counts.slots) × (are_known_types ids fields ks ≡ true)) _ _ g (types_long ids fields counts.slots first.0) in
    record { types = known.0; means = known.1; offsets = tt }))
union_parts_are Dense ids fields counts body rest =
    after (λ (x : UnionParts × Rest). AreDecodedUnionParts Dense ids fields counts.slots x.0) (decoded_buffer body rest) _
    (λ first e. after (λ (x : UnionParts × Rest). AreDecodedUnionParts Dense ids fields counts.slots x.0) (decoded_types ids fields counts.slots first.0) _
    (λ ks g. after (λ (x : UnionParts × Rest). AreDecodedUnionParts Dense ids fields counts.slots x.0) (decoded_buffer body first.1) _
    (λ second h. after (λ (x : UnionParts × Rest). AreDecodedUnionParts Dense ids fields counts.slots x.0) (decoded_values (offset_format false) counts.slots second.0) _
    (λ offsets k.
    let known = found (λ (ks : List ℤ). (length ks ≡ counts.slots) × (are_known_types ids fields ks ≡ true)) _ _ g (types_long ids fields counts.slots first.0) in
    let long = found (λ (vs : List (List ℤ)). length vs ≡ counts.slots) _ _ k (natives_long (offset_format false) counts.slots second.0) in
    record { types = known.0; means = known.1; offsets = length-map offsets only ∙ long }))))

-- ---- extension types

pub kind_stored : (t : TypeTree) → physical_type t ≡ physical_type (logical_type t)
kind_stored (types.extension x t m) = kind_stored t
kind_stored t = refl

pub item_stored : (t : TypeTree) → item_type t ≡ item_type (logical_type t)
item_stored (types.extension x t m) = item_stored t
item_stored t = refl

pub size_stored : (t : TypeTree) → size_of t ≡ size_of (logical_type t)
size_stored (types.extension x t m) = size_stored t
size_stored t = refl

pub fields_stored : (t : TypeTree) → fields_of t ≡ fields_of (logical_type t)
fields_stored (types.extension x t m) = fields_stored t
fields_stored t = refl

pub ids_stored : (t : TypeTree) → ids_of t ≡ ids_of (logical_type t)
ids_stored (types.extension x t m) = ids_stored t
ids_stored t = refl

pub dense_stored : (t : TypeTree) → is_dense t ≡ is_dense (logical_type t)
dense_stored (types.extension x t m) = dense_stored t
dense_stored t = refl

pub pairs_stored : (t : TypeTree) → has_pairs t ≡ has_pairs (logical_type t)
pairs_stored (types.extension x t m) = pairs_stored t
pairs_stored t = refl

-- ---- arrays of every kind

mutual
  pub array_is : (t s : TypeTree) (counts : NodeCounts) (body : List ℕ) (rest : Rest) → logical_type t ≡ logical_type s → IfOk (decoded_array t s counts body rest) (IsOf t counts.slots)
  array_is t (types.extension x s m) counts body rest h = array_is t s counts body rest h
  array_is t (types.list f) counts body rest h =
      after (IsOf t counts.slots) (decoded_variable_size_head false counts body rest) _
      (λ head e. after (IsOf t counts.slots) (decoded_child f Any body head.1) _
      (λ items g. checked (IsOf t counts.slots) (leb (last_of head.0.offsets) (len items.0)) OffsetPastChild _
      (λ within. (refl, found (λ (x : VariableSizeHead × Rest). count_rows x.0.offsets ≡ counts.slots) _ _ e (rows_long false counts body rest)))))
  array_is t (types.large_list f) counts body rest h =
      after (IsOf t counts.slots) (decoded_variable_size_head true counts body rest) _
      (λ head e. after (IsOf t counts.slots) (decoded_child f Any body head.1) _
      (λ items g. checked (IsOf t counts.slots) (leb (last_of head.0.offsets) (len items.0)) OffsetPastChild _
      (λ within. (refl, found (λ (x : VariableSizeHead × Rest). count_rows x.0.offsets ≡ counts.slots) _ _ e (rows_long true counts body rest)))))
  array_is t (types.map f b) counts body rest h =
      checked (IsOf t counts.slots) (is_pair (field_type f)) TypeRange _
      (λ pairs. after (IsOf t counts.slots) (decoded_variable_size_head false counts body rest) _
      (λ head e. after (IsOf t counts.slots) (decoded_child f Any body head.1) _
      (λ entries g. checked (IsOf t counts.slots) (leb (last_of head.0.offsets) (len entries.0)) OffsetPastChild _
      (λ within. (refl, found (λ (x : VariableSizeHead × Rest). count_rows x.0.offsets ≡ counts.slots) _ _ e (rows_long false counts body rest))))))
  array_is t (types.fixed_size_list f n) counts body rest h =
      checked (IsOf t counts.slots) (ltb 0 n) TypeRange _
      (λ some. after (IsOf t counts.slots) (decoded_validity_buffer counts body rest) _
      (λ head e. after (IsOf t counts.slots) (decoded_child f (Exactly (counts.slots * n)) body head.1) _
      (λ items g.
      let known = found (λ (y : Layout × Rest). (layout_type y.0 ≡ field_type f) × Suits (Exactly (counts.slots * n)) (len y.0)) _ _ g (item_is f (Exactly (counts.slots * n)) body head.1) in
      let size : size_of t ≡ n = size_stored t ∙ ap size_of h in
      (refl, (λ i. known.1 i / size i) ∙ mul-div_cancel counts.slots (ltb-true _ _ some)))))
  array_is t (types.struct fs) counts body rest h =
      checked (IsOf t counts.slots) (ltb 0 (count_fields fs)) TypeRange _
      (λ some. after (IsOf t counts.slots) (decoded_validity_buffer counts body rest) _
      (λ head e. after (IsOf t counts.slots) (decoded_children fs (Exactly counts.slots) body head.1) _
      (λ children g.
      let known = found (λ (y : Layouts × Rest). EachType fs y.0 × EachSuits (Exactly counts.slots) y.0) _ _ g (items_are fs (Exactly counts.slots) body head.1) in
      (refl, first_is fs children.0 counts.slots (ltb-true _ _ some) known.0 known.1))))
  array_is t (types.union fs ids mode) counts body rest h =
      checked (IsOf t counts.slots) (leb (count_fields fs) most_fields && are_type_ids ids (count_fields fs)) TypeRange _
      (λ formed. after (IsOf t counts.slots) (decoded_union_parts mode ids (count_fields fs) counts body rest) _
      (λ parts e. after (IsOf t counts.slots) (decoded_children fs (union_child_length mode counts.slots) body parts.1) _
      (λ children g. checked (IsOf t counts.slots) (are_union_offsets_valid ids children.0 parts.0.types parts.0.offsets) UnionOffset _
      (λ there. (refl, (found (λ (x : UnionParts × Rest). AreDecodedUnionParts mode ids (count_fields fs) counts.slots x.0) _ _ e (union_parts_are mode ids (count_fields fs) counts body rest)).types)))))
  array_is t s counts body rest h = kind_is (physical_type s) t counts body rest

  pub item_is : (f : FieldTree) (expected : ExpectedLength) (body : List ℕ) (rest : Rest) → IfOk (decoded_child f expected body rest) (λ y. (layout_type y.0 ≡ field_type f) × Suits expected (len y.0))
  item_is (field x s b es) expected body rest =
      after (λ (y : Layout × Rest). (layout_type y.0 ≡ s) × Suits expected (len y.0)) (decoded_node expected rest) _
      (λ node e.
      let suits = found (λ (x : NodeCounts × Rest). Suits expected x.0.slots) _ _ e (node_suits expected rest) in
      IfOk-weaker (decoded_array s s node.0 body node.1) _ _ (λ y known. (known.0, subst (Suits expected) (sym known.1) suits)) (array_is s s node.0 body node.1 refl))

  pub items_are : (fs : FieldTrees) (expected : ExpectedLength) (body : List ℕ) (rest : Rest) → IfOk (decoded_children fs expected body rest) (λ y. EachType fs y.0 × EachSuits expected y.0)
  items_are no_fields expected body rest = (tt, tt)
  items_are (more_fields f fs) expected body rest =
      after (λ (y : Layouts × Rest). EachType (more_fields f fs) y.0 × EachSuits expected y.0) (decoded_child f expected body rest) _
      (λ first e. after (λ (y : Layouts × Rest). EachType (more_fields f fs) y.0 × EachSuits expected y.0) (decoded_children fs expected body first.1) _
      (λ others g.
      let one = found (λ (y : Layout × Rest). (layout_type y.0 ≡ field_type f) × Suits expected (len y.0)) _ _ e (item_is f expected body rest) in
      let more = found (λ (y : Layouts × Rest). EachType fs y.0 × EachSuits expected y.0) _ _ g (items_are fs expected body first.1) in
      ((one.0, more.0), (one.1, more.1))))
