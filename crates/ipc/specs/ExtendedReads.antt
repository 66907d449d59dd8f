-- Arrays without child arrays over extended dictionaries: they decode to an array, and to the same one.
use Rattle.std.proofs.Common.{◌≡◌, ℕ, ◌+◌, ◌*◌, ◌%◌, ◌<◌, ◌≤◌, Bool, true, false, eqb, leb, ltb, List, [], ◌∷◌, length, get_or, map, Result, Ok, Err, Option, Some, None, refl, sym, ap, subst, ◌∙◌, arith}
use Rattle.std.specs.Prelude.{ℤ, pos, negsuc, ◌&&◌, ◌||◌, IsSome, not, count_by, IfOk, if◌then◌else◌}
use Rattle.std.specs.Str.{is_utf8}
use Rattle.std.specs.List.{list_all, range_with_len}
use Rattle.std.proofs.lemmas.Bool.{leb-true, ltb-true, lt-ltb, and_parts, and_from}
use Rattle.std.proofs.lemmas.List.{length-map, length-take-le}
use Rattle.std.proofs.lemmas.List.FromFn.{length-range_with_len, get_or-range_with_len}
use Rattle.std.proofs.lemmas.List.Sums.{AllPass-from_list_all}
use Rattle.std.proofs.lemmas.Str.{IsUtf8-from_is_utf8}
use Rattle.ipc_flatbuf.specs.ReadResults.{◌>>=◌, check}
use Rattle.ipc_flatbuf.specs.declared.batch.parts.FieldNode.{FieldNode}
use Rattle.ipc_flatbuf.specs.declared.batch.parts.BufferSpec.{BufferSpec}
use Rattle.ipc_flatbuf.specs.declared.error.IpcReadError.{IpcReadError}
use Rattle.ipc_flatbuf.specs.declared.error.IpcReadError.TheVariants.{TypeRange, BufferTooShort, NullCount, Offsets, OffsetPastChild, Utf8, MissingDictionary, KeyRange}
use Rattle.nest_memory.specs.Sublist.{sublist}
use Rattle.nest_memory.specs.Physical.{physical_type, primitive_tree, binary_of_width, utf8_of_width}
use Rattle.nest_memory.specs.Rising.{are_offsets, numbers, last_of, to_nat}
use Rattle.nest_memory.specs.TypeTree.{TypeTree, size_of, value_type, logical_type}
use Rattle.nest_memory.specs.TypeEq.{same_type, same_type-decides}
use Rattle.nest_memory.specs.declared.datatypes.IntegerType.{IntegerType}
use Rattle.nest_memory.specs.declared.datatypes.IntegerType.TheVariants as integers
use Rattle.nest_memory.specs.declared.datatypes.physical_type.PhysicalType.{PhysicalType}
use Rattle.nest_memory.specs.declared.datatypes.physical_type.PhysicalType.TheVariants as physical
use Rattle.nest_memory.specs.declared.datatypes.physical_type.PrimitiveType.{PrimitiveType}
use Rattle.nest_memory.proofs.Rises.{never_fall_as, offsets_some}
use Rattle.nest_model.specs.Accessors.{validity_of, key_at, key_kind}
use Rattle.nest_model.specs.Array.{AreOffsets, AreKeys, TopFits, ChildrenFit, IsArray}
use Rattle.nest_model.specs.Fits.{ValidityFits, EachUtf8, EachValidNames, IsLogically}
use Rattle.nest_model.specs.Layout.{Layout, null, boolean, primitive, binary, utf8, fixed_size_binary, dictionary, layout_type}
use Rattle.nest_model.specs.Meaning.{len}
use Rattle.nest_model.specs.Part.{Validity, begin, extent, count_rows, valid_at}
use Rattle.nest_model.specs.Runs.{product-exact}
use Rattle.nest_model.specs.SameArray.{IsSameArray}
use Rattle.nest_model.specs.SameArrayLaws.{same-refl}
use Rattle.ipc_arrays.proofs.Nested.{names_so}
use Rattle.ipc_arrays.specs.Decoding.{Rest, VariableSizeHead, BinaryParts, utf8_parts, first_counts, first_buffer, decoded_validity, decoded_bits, decoded_values, decoded_bytes, checked_offsets, decoded_offsets, decoded_data, checked_length, decoded_node, decoded_buffer, decoded_validity_buffer, decoded_boolean, decoded_primitive, decoded_fixed_size_binary, decoded_variable_size_head, decoded_binary_parts, decoded_binary, checked_utf8, decoded_utf8, is_key_in_range, is_index_below, decoded_keys_as, decoded_keys, are_keys_in_range, dictionary_over, first_values, decoded_dictionary_values, decoded_dictionary, decoded_fixed_width, decoded_flat, validity_if_nulls}
use Rattle.ipc_arrays.specs.DictionaryKeys.{key_primitive, key_format, is_same_logical_type, zero_at_nulls}
use Rattle.ipc_arrays.specs.DecodingLaws.{AreRead, after, checked, found, bits_long, keys_are, keys_of_type}
use Rattle.ipc_arrays.specs.ReplacedValues.{IsExtendedBy, grown_long}
use Rattle.ipc_arrays.specs.Utf8Laws.{AreUtf8Parts, utf8_parts_fit}
use Rattle.ipc_arrays.specs.FixedWidth.{ByteFormat, format_of, offset_format, only}
use Rattle.ipc_arrays.specs.declared.cursor.NodeCounts.{NodeCounts}
use Rattle.ipc_arrays.specs.declared.cursor.ExpectedLength.{ExpectedLength}
use Rattle.ipc.specs.ExtendedDictionaries.{AllExtended, HasExtendedDictionaries, AreAllArrays, ReadTogether}
use Rattle.ipc.specs.ExtendedSlots.{keyed_same}

-- ---- the next step

module _ {A B C D : Type 0} (R : A → B → Type 0) (S : C → D → Type 0) where
  pub then_read : (r : Result A IpcReadError) (s : Result B IpcReadError) (f : A → Result C IpcReadError) (g : B → Result D IpcReadError) → ReadTogether R r s → ((x : A) (y : B) → r ≡ Ok x → R x y → ReadTogether S (f x) (g y)) → ReadTogether S (r >>= f) (s >>= g)
  then_read (Ok x) (Ok y) f g h next = next x y refl h
  then_read (Ok x) (Err e) f g h next = absurd h
  then_read (Err e) s f g h next = tt

module _ {C D : Type 0} (S : C → D → Type 0) where
  -- both read the same
  pub then_same : {A : Type 0} (P : A → Type 0) (r : Result A IpcReadError) (f : A → Result C IpcReadError) (g : A → Result D IpcReadError) → IfOk r P → ((x : A) → r ≡ Ok x → P x → ReadTogether S (f x) (g x)) → ReadTogether S (r >>= f) (r >>= g)
  then_same P (Ok x) f g h next = next x refl h
  then_same P (Err e) f g h next = tt

  pub then_checked : (b c : Bool) (e : IpcReadError) (f : Unit {0} → Result C IpcReadError) (g : Unit {0} → Result D IpcReadError) → (b ≡ true → c ≡ true) → (b ≡ true → ReadTogether S (f tt) (g tt)) → ReadTogether S (check b e >>= f) (check c e >>= g)
  then_checked true true e f g h next = next refl
  then_checked true false e f g h next = absurd (by (h refl))
    where
      by : false ≡ true → ⊥
      by x = cc
  then_checked false c e f g h next = tt

-- ---- parts

-- the rest is over extended dictionaries too, and arrays stay arrays
pub record GoesOn (from to over : Rest) : Type 0 where
  pub arrays : AreAllArrays from.dictionaries → AreAllArrays to.dictionaries
  pub grown : HasExtendedDictionaries to over

pub on_and_on : (r u v w z : Rest) → GoesOn r u v → GoesOn u w z → GoesOn r w z
on_and_on r u v w z h k = record { arrays = λ all. k.arrays (h.arrays all); grown = k.grown }

-- both read the same part, which has a property
pub record IsPart {A : Type 0} (P : A → Type 0) (from : Rest) (x y : A × Rest) : Type 0 where
  pub same : y.0 ≡ x.0
  pub holds : P x.0
  pub on : GoesOn from x.1 y.1

module _ {A C D : Type 0} (P : A → Type 0) (from : Rest) (S : C → D → Type 0) where
  pub then_part : (r s : Result (A × Rest) IpcReadError) (f : A × Rest → Result C IpcReadError) (g : A × Rest → Result D IpcReadError) → ReadTogether (IsPart P from) r s
      → ((a : A) (u v : Rest) → r ≡ Ok (a, u) → P a → GoesOn from u v → ReadTogether S (f (a, u)) (g (a, v))) → ReadTogether S (r >>= f) (s >>= g)
  then_part r s f g h next =
      then_read (IsPart P from) S r s f g h
      (λ x y e k. subst (λ (a : A). ReadTogether S (f x) (g (a, y.1))) (sym k.same) (next x.0 x.1 y.1 e k.holds k.on))

abbrev pub Anything : {A : Type 0} → A → Type 0
Anything a = Unit {0}

pub any_read : {A : Type 0} (r : Result A IpcReadError) → IfOk r Anything
any_read (Ok x) = tt
any_read (Err e) = tt

pub node_next : (wanted : ExpectedLength) (r s : Rest) → HasExtendedDictionaries r s → ReadTogether (IsPart Anything r) (decoded_node wanted r) (decoded_node wanted s)
unfolding decoded_node
node_next wanted r s h =
    let read : List FieldNode → Rest → Result (NodeCounts × Rest) IpcReadError = λ nodes rest. first_counts nodes >>= λ node. checked_length wanted node.0.slots >>= λ same. Ok (node.0, record { nodes = node.1; buffers = rest.buffers; dictionaries = rest.dictionaries }) in
    subst (λ (nodes : List FieldNode). ReadTogether (IsPart {A = NodeCounts} Anything r) (read r.nodes r) (read nodes s)) (sym h.nodes)
    (then_same (IsPart {A = NodeCounts} Anything r) Anything (first_counts r.nodes) _ _ (any_read (first_counts r.nodes))
    (λ node e g. then_same (IsPart {A = NodeCounts} Anything r) Anything (checked_length wanted node.0.slots) _ _ (any_read (checked_length wanted node.0.slots))
    (λ same k x. record { same = refl; holds = tt; on = record { arrays = λ all. all; grown = record { nodes = refl; buffers = h.buffers; dictionaries = h.dictionaries } } })))

pub buffer_next : (body : List ℕ) (r s : Rest) → HasExtendedDictionaries r s → ReadTogether (IsPart Anything r) (decoded_buffer body r) (decoded_buffer body s)
unfolding decoded_buffer
buffer_next body r s h =
    let read : List BufferSpec → Rest → Result (List ℕ × Rest) IpcReadError = λ buffers rest. first_buffer body buffers >>= λ bytes. Ok (bytes.0, record { nodes = rest.nodes; buffers = bytes.1; dictionaries = rest.dictionaries }) in
    subst (λ (buffers : List BufferSpec). ReadTogether (IsPart {A = List ℕ} Anything r) (read r.buffers r) (read buffers s)) (sym h.buffers)
    (then_same (IsPart {A = List ℕ} Anything r) Anything (first_buffer body r.buffers) _ _ (any_read (first_buffer body r.buffers))
    (λ bytes e g. record { same = refl; holds = tt; on = record { arrays = λ all. all; grown = record { nodes = h.nodes; buffers = refl; dictionaries = h.dictionaries } } }))

-- ---- the properties of parts

no_more : (nulls slots : ℕ) (bits : List Bool) → length bits ≡ slots → ValidityFits (validity_if_nulls nulls bits) slots
no_more nulls slots bits long = by (eqb nulls 0)
  where
    by : (b : Bool) → ValidityFits (if b then None else Some bits) slots
    by true = tt
    by false = long

validity_fits : (counts : NodeCounts) (bytes : List ℕ) → IfOk (decoded_validity counts bytes) (λ va. ValidityFits va counts.slots)
unfolding decoded_validity
validity_fits counts bytes =
    either (eqb (length bytes) 0 && eqb counts.nulls 0) _
    (after (λ (va : Validity). ValidityFits va counts.slots) (decoded_bits counts.slots bytes) _
    (λ bits e. checked (λ (va : Validity). ValidityFits va counts.slots) (eqb (count_by not bits) counts.nulls) NullCount _
    (λ agreed. no_more counts.nulls counts.slots bits (found (λ (bits : List Bool). length bits ≡ counts.slots) _ _ e (bits_long counts.slots bytes)))))
  where
    either : (b : Bool) (read : Result Validity IpcReadError) → IfOk read (λ va. ValidityFits va counts.slots) → IfOk (if b then Ok None else read) (λ va. ValidityFits va counts.slots)
    either true read h = tt
    either false read h = h

bytes_fit : (size : ℕ) (bytes : List ℕ) → IfOk (decoded_bytes size bytes) (λ values. length values ≡ size)
unfolding decoded_bytes
bytes_fit size bytes =
    checked (λ (values : List ℕ). length values ≡ size) (leb size (length bytes)) BufferTooShort _
    (λ e. length-take-le size bytes (leb-true _ _ e))

covered_fit : (last : ℕ) (bytes : List ℕ) → IfOk (decoded_data last bytes) (λ values. last ≤ length values)
unfolding decoded_data
covered_fit last bytes =
    checked (λ (values : List ℕ). last ≤ length values) (leb last (length bytes)) OffsetPastChild _
    (λ e. omega (arith, length-take-le last bytes (leb-true _ _ e)))

numbers_are : (values : List (List ℤ)) → numbers only values ≡ map to_nat (map only values)
unfolding numbers
numbers_are [] = refl
numbers_are (v ∷ values) = ap (λ (ns : List ℕ). to_nat (only v) ∷ ns) (numbers_are values)

some_rise : (values : List (List ℤ)) → are_offsets (map only values) ≡ true → AreOffsets (map to_nat (map only values))
some_rise values rising = (
  omega (arith, offsets_some only values rising, length-map values only, length-map (map only values) to_nat),
  never_fall_as only values (map to_nat (map only values)) (numbers_are values) rising,
)

only_zero : AreOffsets (0 ∷ [])
only_zero = (omega arith, λ i j le lt. let e : i ≡ j = omega arith in subst (λ (k : ℕ). get_or (0 ∷ []) k 0 ≤ get_or (0 ∷ []) j 0) (sym e) (omega arith))

offsets_fit : (large : Bool) (slots : ℕ) (bytes : List ℕ) → IfOk (decoded_offsets large slots bytes) AreOffsets
unfolding decoded_offsets checked_offsets
offsets_fit large slots bytes =
    either (eqb slots 0) _
    (after AreOffsets (decoded_values (offset_format large) (slots + 1) bytes) _
    (λ values e. checked AreOffsets (are_offsets (map only values)) Offsets _ (λ rising. some_rise values rising)))
  where
    either : (b : Bool) (read : Result (List ℕ) IpcReadError) → IfOk read AreOffsets → IfOk (if b then Ok (0 ∷ []) else read) AreOffsets
    either true read h = only_zero
    either false read h = h

pub head_next : (counts : NodeCounts) (body : List ℕ) (r s : Rest) → HasExtendedDictionaries r s → ReadTogether (IsPart (λ (va : Validity). ValidityFits va counts.slots) r) (decoded_validity_buffer counts body r) (decoded_validity_buffer counts body s)
unfolding decoded_validity_buffer
head_next counts body r s h =
    let Fit : Validity → Type 0 = λ va. ValidityFits va counts.slots in
    then_part Anything r (IsPart Fit r) (decoded_buffer body r) (decoded_buffer body s) _ _ (buffer_next body r s h)
    (λ bits u v e any on. then_same (IsPart Fit r) Fit (decoded_validity counts bits) _ _ (validity_fits counts bits)
    (λ va g fits. record { same = refl; holds = fits; on = on }))

-- the first and last offsets of rows
pub record RowsFit (slots : ℕ) (head : VariableSizeHead) : Type 0 where
  pub offsets : AreOffsets head.offsets
  pub valid : ValidityFits head.validity slots

pub rows_next : (large : Bool) (counts : NodeCounts) (body : List ℕ) (r s : Rest) → HasExtendedDictionaries r s → ReadTogether (IsPart (RowsFit counts.slots) r) (decoded_variable_size_head large counts body r) (decoded_variable_size_head large counts body s)
unfolding decoded_variable_size_head
rows_next large counts body r s h =
    let Fit : VariableSizeHead → Type 0 = RowsFit counts.slots in
    then_part (λ (va : Validity). ValidityFits va counts.slots) r (IsPart Fit r) (decoded_validity_buffer counts body r) (decoded_validity_buffer counts body s) _ _ (head_next counts body r s h)
    (λ va u v e valid on. then_part Anything u (IsPart Fit r) (decoded_buffer body u) (decoded_buffer body v) _ _ (buffer_next body u v on.grown)
    (λ bytes w z g any further. then_same (IsPart Fit r) AreOffsets (decoded_offsets large counts.slots bytes) _ _ (offsets_fit large counts.slots bytes)
    (λ os k are. record { same = refl; holds = record { offsets = are; valid = valid }; on = on_and_on r u v w z on further })))

-- ---- arrays

-- an array, if the dictionaries are arrays; the same one over both, with the rest
pub record IsRead (from : Rest) (x y : Layout × Rest) : Type 0 where
  pub fits : TopFits x.0
  pub below : AreAllArrays from.dictionaries → ChildrenFit x.0
  pub same : IsSameArray x.0 y.0
  pub on : GoesOn from x.1 y.1

-- the same with this length
pub record IsReadOf (slots : ℕ) (from : Rest) (x y : Layout × Rest) : Type 0 where
  pub fits : len x.0 ≡ slots → TopFits x.0
  pub below : AreAllArrays from.dictionaries → ChildrenFit x.0
  pub same : IsSameArray x.0 y.0
  pub on : GoesOn from x.1 y.1

pub so_many : (t : TypeTree) (slots : ℕ) (from : Rest) (r s : Result (Layout × Rest) IpcReadError) → IfOk r (λ x. (layout_type x.0 ≡ t) × (len x.0 ≡ slots)) → ReadTogether (IsReadOf slots from) r s → ReadTogether (IsRead from) r s
so_many t slots from (Ok x) (Ok y) is h = record { fits = h.fits is.1; below = h.below; same = h.same; on = h.on }
so_many t slots from (Ok x) (Err e) is h = h
so_many t slots from (Err e) s is h = h

-- an array without child arrays
leaf : (slots : ℕ) (a : Layout) (from u v : Rest) → (len a ≡ slots → TopFits a) → ChildrenFit a → GoesOn from u v → IsReadOf slots from (a, u) (a, v)
leaf slots a from u v fits below on = record { fits = fits; below = λ all. below; same = same-refl a; on = on }

valid_as : (va : Validity) (n slots : ℕ) → n ≡ slots → ValidityFits va slots → ValidityFits va n
valid_as va n slots e h = subst (ValidityFits va) (sym e) h

module _ (t : TypeTree) (counts : NodeCounts) (body : List ℕ) (r s : Rest) (h : HasExtendedDictionaries r s) where
  Fit : Validity → Type 0
  Fit va = ValidityFits va counts.slots

  boolean_next : physical_type t ≡ physical.Boolean → ReadTogether (IsReadOf counts.slots r) (decoded_boolean t counts body r) (decoded_boolean t counts body s)
  unfolding decoded_boolean
  boolean_next kind =
      then_part (λ (va : Validity). ValidityFits va counts.slots) r (IsReadOf counts.slots r) (decoded_validity_buffer counts body r) (decoded_validity_buffer counts body s) _ _ (head_next counts body r s h)
      (λ va u v e valid on. then_part Anything u (IsReadOf counts.slots r) (decoded_buffer body u) (decoded_buffer body v) _ _ (buffer_next body u v on.grown)
      (λ bytes w z g any further. then_same (IsReadOf counts.slots r) Anything (decoded_bits counts.slots bytes) _ _ (any_read (decoded_bits counts.slots bytes))
      (λ bits k _. leaf counts.slots (boolean t bits va) r w z (λ long. (tt, (valid_as va (length bits) counts.slots long valid, (kind, tt)))) tt (on_and_on r u v w z on further))))

  native_next : (form : ByteFormat) (k : PrimitiveType) → physical_type t ≡ physical.Primitive k → ReadTogether (IsReadOf counts.slots r) (decoded_primitive form k t counts body r) (decoded_primitive form k t counts body s)
  unfolding decoded_primitive
  native_next form k kind =
      then_part (λ (va : Validity). ValidityFits va counts.slots) r (IsReadOf counts.slots r) (decoded_validity_buffer counts body r) (decoded_validity_buffer counts body s) _ _ (head_next counts body r s h)
      (λ va u v e valid on. then_part Anything u (IsReadOf counts.slots r) (decoded_buffer body u) (decoded_buffer body v) _ _ (buffer_next body u v on.grown)
      (λ bytes w z g any further. then_same (IsReadOf counts.slots r) Anything (decoded_values form counts.slots bytes) _ _ (any_read (decoded_values form counts.slots bytes))
      (λ values q _. leaf counts.slots (primitive k t values va) r w z (λ long. (tt, (valid_as va (length values) counts.slots long valid, (kind, tt)))) tt (on_and_on r u v w z on further))))

  form_next : (o : Option ByteFormat) (k : PrimitiveType) → physical_type t ≡ physical.Primitive k → ReadTogether (IsReadOf counts.slots r) (decoded_fixed_width o k t counts body r) (decoded_fixed_width o k t counts body s)
  form_next None k kind = tt
  form_next (Some form) k kind = native_next form k kind

  sized_bytes_next : physical_type t ≡ physical.FixedSizeBinary → ReadTogether (IsReadOf counts.slots r) (decoded_fixed_size_binary t counts body r) (decoded_fixed_size_binary t counts body s)
  unfolding decoded_fixed_size_binary
  sized_bytes_next kind =
      then_checked (IsReadOf counts.slots r) (ltb 0 (size_of t)) (ltb 0 (size_of t)) TypeRange _ _ (λ e. e)
      (λ some. then_part (λ (va : Validity). ValidityFits va counts.slots) r (IsReadOf counts.slots r) (decoded_validity_buffer counts body r) (decoded_validity_buffer counts body s) _ _ (head_next counts body r s h)
      (λ va u v e valid on. then_part Anything u (IsReadOf counts.slots r) (decoded_buffer body u) (decoded_buffer body v) _ _ (buffer_next body u v on.grown)
      (λ bytes w z g any further. then_same (IsReadOf counts.slots r) (λ (bs : List ℕ). length bs ≡ counts.slots * size_of t) (decoded_bytes (counts.slots * size_of t) bytes) _ _ (bytes_fit (counts.slots * size_of t) bytes)
      (λ bs q exact.
      let whole : length bs % size_of t ≡ 0 = ap (λ (n : ℕ). n % size_of t) exact ∙ product-exact counts.slots (size_of t) in
      leaf counts.slots (fixed_size_binary t bs va) r w z
      (λ long. (tt, (kind, (ltb-true _ _ some, (whole, (valid_as va (len (fixed_size_binary t bs va)) counts.slots long valid, tt)))))) tt (on_and_on r u v w z on further)))))

-- binary arrays
pub record StringsFit (slots : ℕ) (s : BinaryParts) : Type 0 where
  pub offsets : AreOffsets s.offsets
  pub within : last_of s.offsets ≤ length s.bytes
  pub valid : ValidityFits s.validity slots

module _ (large : Bool) (t : TypeTree) (counts : NodeCounts) (body : List ℕ) (r s : Rest) (h : HasExtendedDictionaries r s) where
  strings_next : ReadTogether (IsPart (StringsFit counts.slots) r) (decoded_binary_parts large counts body r) (decoded_binary_parts large counts body s)
  unfolding decoded_binary_parts
  strings_next =
      then_part (RowsFit counts.slots) r (IsPart (StringsFit counts.slots) r) (decoded_variable_size_head large counts body r) (decoded_variable_size_head large counts body s) _ _ (rows_next large counts body r s h)
      (λ head u v e rows on. then_part Anything u (IsPart (StringsFit counts.slots) r) (decoded_buffer body u) (decoded_buffer body v) _ _ (buffer_next body u v on.grown)
      (λ bytes w z g any further. then_same (IsPart (StringsFit counts.slots) r) (λ (bs : List ℕ). last_of head.offsets ≤ length bs) (decoded_data (last_of head.offsets) bytes) _ _ (covered_fit (last_of head.offsets) bytes)
      (λ bs q within. record { same = refl; holds = record { offsets = rows.offsets; within = within; valid = rows.valid }; on = on_and_on r u v w z on further })))

  binary_next : physical_type t ≡ binary_of_width large → ReadTogether (IsReadOf counts.slots r) (decoded_binary large t counts body r) (decoded_binary large t counts body s)
  unfolding decoded_binary
  binary_next kind =
      then_part (StringsFit counts.slots) r (IsReadOf counts.slots r) (decoded_binary_parts large counts body r) (decoded_binary_parts large counts body s) _ _ strings_next
      (λ x u v e is on. leaf counts.slots (binary large t x.offsets x.bytes x.validity) r u v (λ long. (is.offsets, (is.within, (valid_as x.validity (count_rows x.offsets) counts.slots long is.valid, (kind, tt))))) tt on)

  text_next : physical_type t ≡ utf8_of_width large → ReadTogether (IsReadOf counts.slots r) (decoded_utf8 large t counts body r) (decoded_utf8 large t counts body s)
  unfolding decoded_utf8
  text_next kind =
      then_part (StringsFit counts.slots) r (IsReadOf counts.slots r) (decoded_binary_parts large counts body r) (decoded_binary_parts large counts body s) _ _ strings_next
      (λ x u v e is on. then_same (IsReadOf counts.slots r) (IsTexts x) (checked_utf8 large t x) _ _ (texts_are x is)
      (λ a q texts. leaf counts.slots a r u v (λ long. fits_as x a texts is long kind) (below_as x a texts) on))
    where
      IsTexts : BinaryParts → Layout → Type 0
      IsTexts x a = (p : BinaryParts) × (a ≡ utf8 large t p.offsets p.bytes p.validity) × AreUtf8Parts (count_rows x.offsets) x.validity p

      texts_are : (x : BinaryParts) → StringsFit counts.slots x → IfOk (checked_utf8 large t x) (IsTexts x)
      texts_are x is = after (IsTexts x) (utf8_parts x) _ (λ p e. (p, refl, found (AreUtf8Parts (count_rows x.offsets) x.validity) (utf8_parts x) p e (utf8_parts_fit x is.offsets is.within)))

      fits_as : (x : BinaryParts) (a : Layout) → IsTexts x a → StringsFit counts.slots x → len a ≡ counts.slots → physical_type t ≡ utf8_of_width large → TopFits a
      fits_as x a texts is long k =
          let valid : ValidityFits texts.0.validity counts.slots = subst (λ va. ValidityFits va counts.slots) (sym texts.2.validity) is.valid in
          subst TopFits (sym texts.1) (texts.2.rising, (texts.2.within, (texts.2.texts, (valid_as texts.0.validity (count_rows texts.0.offsets) counts.slots (sym (ap len texts.1) ∙ long) valid, (k, tt)))))

      below_as : (x : BinaryParts) (a : Layout) → IsTexts x a → ChildrenFit a
      below_as x a texts = subst ChildrenFit (sym texts.1) tt

-- ---- dictionary arrays

-- the next values, and what they are extended to
pub record IsKnownNext (from : Rest) (x y : Layout × Rest) : Type 0 where
  pub grown : IsExtendedBy x.0 y.0
  pub fits : AreAllArrays from.dictionaries → IsArray x.0
  pub on : GoesOn from x.1 y.1

known_next : (r s : Rest) → HasExtendedDictionaries r s → ReadTogether (IsKnownNext r) (decoded_dictionary_values r) (decoded_dictionary_values s)
unfolding decoded_dictionary_values first_values
known_next r s h = by r.dictionaries s.dictionaries h.dictionaries (λ all. all)
  where
    with_rest : Rest → List (Option Layout) → Result (Layout × Rest) IpcReadError
    with_rest rest xs = first_values xs >>= λ values. Ok (values.0, record { nodes = rest.nodes; buffers = rest.buffers; dictionaries = values.1 })

    by : (xs ys : List (Option Layout)) → AllExtended xs ys → (AreAllArrays r.dictionaries → AreAllArrays xs) → ReadTogether (IsKnownNext r) (with_rest r xs) (with_rest s ys)
    by [] ys g fits = tt
    by (None ∷ xs) ys g fits = tt
    by (Some c ∷ xs) [] g fits = absurd g
    by (Some c ∷ xs) (None ∷ ys) g fits = absurd g.0
    by (Some c ∷ xs) (Some d ∷ ys) g fits =
        record { grown = g.0; fits = λ all. (fits all).0; on = record { arrays = λ all. (fits all).1; grown = record { nodes = h.nodes; buffers = h.buffers; dictionaries = g.1 } } }

logically_grown : (u : Option TypeTree) (c d : Layout) → IsExtendedBy c d → is_same_logical_type u (layout_type c) ≡ true → is_same_logical_type u (layout_type d) ≡ true
logically_grown None c d h e = e
logically_grown (Some u) c d h e = ap (same_type (logical_type u)) h.logical ∙ e

names_more : (z : ℤ) (n m : ℕ) → n ≤ m → is_index_below z n ≡ true → is_index_below z m ≡ true
names_more (pos k) n m le e = lt-ltb _ _ (omega (arith, ltb-true _ _ e))
names_more (negsuc k) n m le e = e

keys_name_more : (ks : Layout) (n m : ℕ) → n ≤ m → are_keys_in_range ks n ≡ true → are_keys_in_range ks m ≡ true
keys_name_more ks n m le e = weaker (range_with_len 0 (len ks)) e
  where
    one : (b : Bool) (z : ℤ) → (not b || is_index_below z n) ≡ true → (not b || is_index_below z m) ≡ true
    one true z h = names_more z n m le h
    one false z h = h

    weaker : (is : List ℕ) → list_all (is_key_in_range ks n) is ≡ true → list_all (is_key_in_range ks m) is ≡ true
    weaker [] all = refl
    weaker (i ∷ is) all =
        let both = and_parts (is_key_in_range ks n i) (list_all (is_key_in_range ks n) is) all in
        and_from (is_key_in_range ks m i) (list_all (is_key_in_range ks m) is) (one (valid_at (validity_of ks) i) (key_at ks i) both.0) (weaker is both.1)

valid_keys_name : (ks : Layout) (n : ℕ) → are_keys_in_range ks n ≡ true → EachValidNames (validity_of ks) ks n
valid_keys_name ks n e i lt valid =
    let places : List ℕ = range_with_len 0 (len ks) in
    let position : get_or places i 0 ≡ i = get_or-range_with_len 0 (len ks) i 0 lt ∙ (let e : 0 + i ≡ i = omega arith in e) in
    let there : i < length places = omega (arith, lt, length-range_with_len 0 (len ks)) in
    let test : is_key_in_range ks n i ≡ true = ap (is_key_in_range ks n) (sym position) ∙ AllPass-from_list_all (is_key_in_range ks n) places e i 0 there in
    names_so (key_at ks i) n (by (valid_at (validity_of ks) i) (is_index_below (key_at ks i) n) valid test)
  where
    by : (b c : Bool) → b ≡ true → (not b || c) ≡ true → c ≡ true
    by true c e h = h
    by false c e h = cc

key_tree : (k : IntegerType) → physical_type (primitive_tree (key_primitive k)) ≡ physical.Primitive (key_primitive k)
key_tree integers.Int8 = refl
key_tree integers.Int16 = refl
key_tree integers.Int32 = refl
key_tree integers.Int64 = refl
key_tree integers.UInt8 = refl
key_tree integers.UInt16 = refl
key_tree integers.UInt32 = refl
key_tree integers.UInt64 = refl

is_key : (k : IntegerType) → IsSome (key_kind (key_primitive k))
is_key integers.Int8 = refl
is_key integers.Int16 = refl
is_key integers.Int32 = refl
is_key integers.Int64 = refl
is_key integers.UInt8 = refl
is_key integers.UInt16 = refl
is_key integers.UInt32 = refl
is_key integers.UInt64 = refl

logically_are : (u : Option TypeTree) (t : TypeTree) → is_same_logical_type u t ≡ true → IsLogically u t
logically_are None t e = cc
logically_are (Some u) t e = sym ((same_type-decides (logical_type u) (logical_type t)).0 e)

module _ (k : IntegerType) (t : TypeTree) (counts : NodeCounts) (body : List ℕ) (r s : Rest) (h : HasExtendedDictionaries r s) where
  AreKeysIf : Layout → Type 0
  AreKeysIf ks = len ks ≡ counts.slots → AreKeys ks

  keys_next : ReadTogether (IsPart (λ ks. len ks ≡ counts.slots → AreKeys ks) r) (decoded_keys k counts body r) (decoded_keys k counts body s)
  unfolding decoded_keys_as
  keys_next =
      let IsKeys : Layout × Rest → Layout × Rest → Type 0 = IsPart (λ ks. len ks ≡ counts.slots → AreKeys ks) r in
      then_part (λ (va : Validity). ValidityFits va counts.slots) r IsKeys (decoded_validity_buffer counts body r) (decoded_validity_buffer counts body s) _ _ (head_next counts body r s h)
      (λ va u v e valid on. then_part Anything u IsKeys (decoded_buffer body u) (decoded_buffer body v) _ _ (buffer_next body u v on.grown)
      (λ bytes w z g any further. then_same IsKeys Anything (decoded_values (key_format k) counts.slots bytes) _ _ (any_read (decoded_values (key_format k) counts.slots bytes))
      (λ values q _. record {
        same = refl;
        holds = λ long. (is_key k, (valid_as va (length (zero_at_nulls va values)) counts.slots long valid, (key_tree k, tt)));
        on = on_and_on r u v w z on further;
      })))

  keyed_fits : (ks c : Layout) (u : Rest) → physical_type t ≡ physical.Dictionary k → decoded_keys k counts body r ≡ Ok (ks, u) → AreKeys ks → is_same_logical_type (value_type t) (layout_type c) ≡ true → are_keys_in_range ks (len c) ≡ true → TopFits (dictionary t ks c)
  keyed_fits ks c u kind e keys logical named =
      let of = keys_of_type k t counts body r (ks, u) kind e in
      (keys, (of.kind, (of.typed, (logically_are (value_type t) (layout_type c) logical, valid_keys_name ks (len c) named))))

  record IsOverValues (ks c d a b : Layout) : Type 0 where
    first : a ≡ dictionary t ks c
    second : b ≡ dictionary t ks d
    logical : is_same_logical_type (value_type t) (layout_type c) ≡ true
    named : are_keys_in_range ks (len c) ≡ true

  over_next : (ks c d : Layout) → IsExtendedBy c d → ReadTogether (IsOverValues ks c d) (dictionary_over t ks c) (dictionary_over t ks d)
  over_next ks c d grown =
      then_checked (IsOverValues ks c d) (is_same_logical_type (value_type t) (layout_type c)) (is_same_logical_type (value_type t) (layout_type d)) MissingDictionary _ _ (logically_grown (value_type t) c d grown)
      (λ logical. then_checked (IsOverValues ks c d) (are_keys_in_range ks (len c)) (are_keys_in_range ks (len d)) KeyRange _ _ (keys_name_more ks (len c) (len d) (grown_long c d grown))
      (λ named. record { first = refl; second = refl; logical = logical; named = named }))

  same_values : (ks c d : Layout) → IsExtendedBy c d → are_keys_in_range ks (len c) ≡ true → (a b : Layout) → a ≡ dictionary t ks c → b ≡ dictionary t ks d → IsSameArray a b
  same_values ks c d grown named a b e g =
      subst (λ (x : Layout). IsSameArray x b) (sym e) (subst (IsSameArray (dictionary t ks c)) (sym g) (keyed_same t ks c d (valid_keys_name ks (len c) named) grown))

  dictionary_next : physical_type t ≡ physical.Dictionary k → ReadTogether (IsReadOf counts.slots r) (decoded_dictionary k t counts body r) (decoded_dictionary k t counts body s)
  unfolding decoded_dictionary
  dictionary_next kind =
      then_part (λ ks. len ks ≡ counts.slots → AreKeys ks) r (IsReadOf counts.slots r) (decoded_keys k counts body r) (decoded_keys k counts body s) _ _ keys_next
      (λ ks u v e keys on. then_read (IsKnownNext u) (IsReadOf counts.slots r) (decoded_dictionary_values u) (decoded_dictionary_values v) _ _ (known_next u v on.grown)
      (λ x y g known.
      let long : len ks ≡ counts.slots = (found (λ (z : Layout × Rest). AreRead (Some k) counts.slots z.0) _ _ e (keys_are k counts body r)).long in
      then_read (IsOverValues ks x.0 y.0) (IsReadOf counts.slots r) (dictionary_over t ks x.0) (dictionary_over t ks y.0) _ _ (over_next ks x.0 y.0 known.grown)
      (λ a b q over. record {
        fits = λ _. subst TopFits (sym over.first) (keyed_fits ks x.0 u kind e (keys long) over.logical over.named);
        below = λ all. subst ChildrenFit (sym over.first) (known.fits (on.arrays all));
        same = same_values ks x.0 y.0 known.grown over.named a b over.first over.second;
        on = on_and_on r u v x.1 y.1 on known.on;
      })))

-- ---- arrays of every kind

pub kind_next : (p : PhysicalType) (t : TypeTree) (counts : NodeCounts) (body : List ℕ) (r s : Rest) → physical_type t ≡ p → HasExtendedDictionaries r s → ReadTogether (IsReadOf counts.slots r) (decoded_flat p t counts body r) (decoded_flat p t counts body s)
kind_next physical.Null t counts body r s kind h = leaf counts.slots (null t counts.slots) r r s (λ long. (tt, (kind, tt))) tt (record { arrays = λ all. all; grown = h })
kind_next physical.Boolean t counts body r s kind h = boolean_next t counts body r s h kind
kind_next (physical.Primitive k) t counts body r s kind h = form_next t counts body r s h (format_of k) k kind
kind_next physical.FixedSizeBinary t counts body r s kind h = sized_bytes_next t counts body r s h kind
kind_next physical.Binary t counts body r s kind h = binary_next false t counts body r s h kind
kind_next physical.LargeBinary t counts body r s kind h = binary_next true t counts body r s h kind
kind_next physical.Utf8 t counts body r s kind h = text_next false t counts body r s h kind
kind_next physical.LargeUtf8 t counts body r s kind h = text_next true t counts body r s h kind
kind_next (physical.Dictionary k) t counts body r s kind h = dictionary_next k t counts body r s h kind
kind_next p t counts body r s kind h = tt
