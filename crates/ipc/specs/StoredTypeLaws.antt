-- What is read by a data type is read by its storage type, as the same array under that type: extension types are transparent.
use Rattle.std.specs.Prelude.{◌≡◌, ℕ, ◌*◌, ◌/◌, ℤ, pos, Bool, true, false, if◌then◌else◌, nat_lt, nat_le, List, [], ◌∷◌, map, length, get_or, Option, Some, None, Result, Ok, Err, refl}
use Rattle.std.proofs.Common.{sym, ap, ◌∙◌}
use Rattle.ipc_flatbuf.specs.ReadResults.{◌>>=◌, check}
use Rattle.ipc_flatbuf.specs.declared.error.IpcReadError.{IpcReadError}
use Rattle.ipc_flatbuf.specs.declared.error.IpcReadError.TheVariants.{TypeRange, OffsetPastChild, Utf8, MissingDictionary, KeyRange, UnionOffset}
use Rattle.nest_memory.specs.Sublist.{sublist}
use Rattle.nest_memory.specs.Physical.{physical_type}
use Rattle.nest_memory.specs.Rising.{last_of}
use Rattle.nest_memory.specs.TypeTree as types
use Rattle.nest_memory.specs.TypeTree.{TypeTree, FieldTree, field_type, count_fields, logical_type, size_of, value_type, is_pair}
use Rattle.nest_memory.specs.declared.datatypes.IntegerType.{IntegerType}
use Rattle.nest_memory.specs.declared.datatypes.physical_type.PhysicalType.{PhysicalType}
use Rattle.nest_memory.specs.declared.datatypes.physical_type.PhysicalType.TheVariants as physical
use Rattle.nest_memory.specs.declared.datatypes.physical_type.PrimitiveType.{PrimitiveType}
use Rattle.nest_model.specs.Accessors.{with_type}
use Rattle.nest_model.specs.Layout.{Layout, boolean, utf8, fixed_size_binary, fixed_size_list, union, dictionary, layout_type}
use Rattle.nest_model.specs.Meaning.{len, slot, run, slots_of, union_index, of_field, picked}
use Rattle.nest_model.specs.Part.{valid_at, field_named}
use Rattle.nest_model.specs.Slot as slots
use Rattle.nest_model.specs.Slot.{seal}
use Rattle.ipc_arrays.specs.Decoding.{Rest, VariableSizeHead, BinaryParts, decoded_buffer, decoded_validity_buffer, decoded_bits, decoded_values, decoded_bytes, decoded_variable_size_head, decoded_binary_parts, utf8_parts, decoded_boolean, decoded_primitive, decoded_fixed_size_binary, decoded_binary, decoded_utf8, decoded_keys, are_keys_in_range, dictionary_over, decoded_dictionary_values, decoded_dictionary, decoded_fixed_width, decoded_flat, list_over, map_over, decoded_union_parts, union_child_length, are_union_offsets_valid, decoded_array, decoded_child, decoded_children, decoded_node, decoded_column, decoded_each, checked_exhausted, decoded_columns}
use Rattle.ipc_arrays.specs.DictionaryKeys.{is_same_logical_type}
use Rattle.ipc_arrays.specs.DecodingLaws.{size_stored, ids_stored}
use Rattle.ipc_arrays.specs.FixedWidth.{ByteFormat, format_of}
use Rattle.ipc_arrays.specs.declared.cursor.NodeCounts.{NodeCounts}
use Rattle.ipc_arrays.specs.declared.cursor.ExpectedLength.{ExpectedLength}
use Rattle.ipc_arrays.specs.declared.cursor.ExpectedLength.TheVariants.{Rows, Exactly, Any}
use Rattle.ipc.specs.KnownDictionaries.{stored_values}

-- ---- results

-- a result, seen by a function
abbrev answered : {A B : Type 0} → (A → B) → Result A IpcReadError → Result B IpcReadError
answered F (Ok x) = Ok (F x)
answered F (Err e) = Err e

then_answered : {A B C : Type 0} (F : B → C) (r : Result A IpcReadError) (f : A → Result B IpcReadError) (g : A → Result C IpcReadError) → ((x : A) → g x ≡ answered F (f x)) → (r >>= g) ≡ answered F (r >>= f)
then_answered F (Ok x) f g same = same x
then_answered F (Err e) f g same = refl

behind_answered : {A B C D : Type 0} (F : A → B) (G : C → D) (r : Result A IpcReadError) (f : A → Result C IpcReadError) (g : B → Result D IpcReadError) → ((x : A) → g (F x) ≡ answered G (f x)) → (answered F r >>= g) ≡ answered G (r >>= f)
behind_answered F G (Ok x) f g same = same x
behind_answered F G (Err e) f g same = refl

-- ---- data types that are read alike

-- both read the same: the size, and the type of the values
record AreStoredAlike (t u : TypeTree) : Type 0 where
  size : size_of u ≡ size_of t
  values : value_type u ≡ value_type t

abbrev retyped : TypeTree → Layout × Rest → Layout × Rest
retyped u x = (with_type x.0 u, x.1)

boolean_by : (t u : TypeTree) (counts : NodeCounts) (body : List ℕ) (rest : Rest) → decoded_boolean u counts body rest ≡ answered (retyped u) (decoded_boolean t counts body rest)
unfolding decoded_boolean
boolean_by t u counts body rest =
    then_answered (retyped u) (decoded_validity_buffer counts body rest) _ _
    (λ head. then_answered (retyped u) (decoded_buffer body head.1) _ _
    (λ bytes. then_answered (retyped u) (decoded_bits counts.slots bytes.0) _ _ (λ bits. refl)))

native_by : (form : ByteFormat) (k : PrimitiveType) (t u : TypeTree) (counts : NodeCounts) (body : List ℕ) (rest : Rest) → decoded_primitive form k u counts body rest ≡ answered (retyped u) (decoded_primitive form k t counts body rest)
unfolding decoded_primitive
native_by form k t u counts body rest =
    then_answered (retyped u) (decoded_validity_buffer counts body rest) _ _
    (λ head. then_answered (retyped u) (decoded_buffer body head.1) _ _
    (λ bytes. then_answered (retyped u) (decoded_values form counts.slots bytes.0) _ _ (λ values. refl)))

form_by : (o : Option ByteFormat) (k : PrimitiveType) (t u : TypeTree) (counts : NodeCounts) (body : List ℕ) (rest : Rest) → decoded_fixed_width o k u counts body rest ≡ answered (retyped u) (decoded_fixed_width o k t counts body rest)
form_by None k t u counts body rest = refl
form_by (Some form) k t u counts body rest = native_by form k t u counts body rest

fixed_size_binary_by : (t u : TypeTree) (counts : NodeCounts) (body : List ℕ) (rest : Rest) → size_of u ≡ size_of t → decoded_fixed_size_binary u counts body rest ≡ answered (retyped u) (decoded_fixed_size_binary t counts body rest)
unfolding decoded_fixed_size_binary
fixed_size_binary_by t u counts body rest same =
    (λ w. check (nat_lt 0 (same w)) TypeRange >>= λ some. decoded_validity_buffer counts body rest >>= λ head. decoded_buffer body head.1 >>= λ bytes. decoded_bytes (counts.slots * same w) bytes.0 >>= λ values. Ok (fixed_size_binary u values head.0, bytes.1))
    ∙ then_answered (retyped u) (check (nat_lt 0 (size_of t)) TypeRange) _ _
    (λ some. then_answered (retyped u) (decoded_validity_buffer counts body rest) _ _
    (λ head. then_answered (retyped u) (decoded_buffer body head.1) _ _
    (λ bytes. then_answered (retyped u) (decoded_bytes (counts.slots * size_of t) bytes.0) _ _ (λ values. refl))))

binary_by : (large : Bool) (t u : TypeTree) (counts : NodeCounts) (body : List ℕ) (rest : Rest) → decoded_binary large u counts body rest ≡ answered (retyped u) (decoded_binary large t counts body rest)
unfolding decoded_binary
binary_by large t u counts body rest = then_answered (retyped u) (decoded_binary_parts large counts body rest) _ _ (λ s. refl)

text_by : (large : Bool) (t u : TypeTree) (counts : NodeCounts) (body : List ℕ) (rest : Rest) → decoded_utf8 large u counts body rest ≡ answered (retyped u) (decoded_utf8 large t counts body rest)
unfolding decoded_utf8
text_by large t u counts body rest = then_answered (retyped u) (decoded_binary_parts large counts body rest) _ _ (λ s. of_parts s.1 (utf8_parts s.0))
  where
    of_parts : (left : Rest) (r : Result BinaryParts IpcReadError) → ((r >>= λ p. Ok (utf8 large u p.offsets p.bytes p.validity)) >>= λ a. Ok (a, left)) ≡ answered (retyped u) ((r >>= λ p. Ok (utf8 large t p.offsets p.bytes p.validity)) >>= λ a. Ok (a, left))
    of_parts left (Ok p) = refl
    of_parts left (Err e) = refl

over_by : (t u : TypeTree) (ks values : Layout) → value_type u ≡ value_type t → dictionary_over u ks values ≡ answered (λ a. with_type a u) (dictionary_over t ks values)
over_by t u ks values same =
    (λ w. check (is_same_logical_type (same w) (layout_type values)) MissingDictionary >>= λ typed. check (are_keys_in_range ks (len values)) KeyRange >>= λ named. Ok (dictionary u ks values))
    ∙ then_answered (λ a. with_type a u) (check (is_same_logical_type (value_type t) (layout_type values)) MissingDictionary) _ _
    (λ typed. then_answered (λ a. with_type a u) (check (are_keys_in_range ks (len values)) KeyRange) _ _ (λ named. refl))

dictionary_by : (k : IntegerType) (t u : TypeTree) (counts : NodeCounts) (body : List ℕ) (rest : Rest) → value_type u ≡ value_type t → decoded_dictionary k u counts body rest ≡ answered (retyped u) (decoded_dictionary k t counts body rest)
unfolding decoded_dictionary
dictionary_by k t u counts body rest same =
    then_answered (retyped u) (decoded_keys k counts body rest) _ _
    (λ keys. then_answered (retyped u) (decoded_dictionary_values keys.1) _ _
    (λ values. ap (λ r. r >>= λ a. Ok (a, values.1)) (over_by t u keys.0 values.0 same)
    ∙ behind_answered (λ a. with_type a u) (retyped u) (dictionary_over t keys.0 values.0) _ _ (λ a. refl)))

kind_by : (p : PhysicalType) (t u : TypeTree) (counts : NodeCounts) (body : List ℕ) (rest : Rest) → AreStoredAlike t u → decoded_flat p u counts body rest ≡ answered (retyped u) (decoded_flat p t counts body rest)
kind_by physical.Null t u counts body rest same = refl
kind_by physical.Boolean t u counts body rest same = boolean_by t u counts body rest
kind_by (physical.Primitive k) t u counts body rest same = form_by (format_of k) k t u counts body rest
kind_by physical.FixedSizeBinary t u counts body rest same = fixed_size_binary_by t u counts body rest same.size
kind_by physical.Binary t u counts body rest same = binary_by false t u counts body rest
kind_by physical.LargeBinary t u counts body rest same = binary_by true t u counts body rest
kind_by physical.Utf8 t u counts body rest same = text_by false t u counts body rest
kind_by physical.LargeUtf8 t u counts body rest same = text_by true t u counts body rest
kind_by (physical.Dictionary k) t u counts body rest same = dictionary_by k t u counts body rest same.values
kind_by p t u counts body rest same = refl

-- rows with their items
items_by : (large : Bool) (f : FieldTree) (u : TypeTree) (one other : VariableSizeHead → Layout × Rest → Result (Layout × Rest) IpcReadError) (counts : NodeCounts) (body : List ℕ) (rest : Rest)
    → ((head : VariableSizeHead) (items : Layout × Rest) → other head items ≡ answered (retyped u) (one head items))
    → (decoded_variable_size_head large counts body rest >>= λ head. decoded_child f Any body head.1 >>= λ items. other head.0 items) ≡ answered (retyped u) (decoded_variable_size_head large counts body rest >>= λ head. decoded_child f Any body head.1 >>= λ items. one head.0 items)
items_by large f u one other counts body rest same =
    then_answered (retyped u) (decoded_variable_size_head large counts body rest) _ _
    (λ head. then_answered (retyped u) (decoded_child f Any body head.1) _ _ (λ items. same head.0 items))

list_by : (large : Bool) (t u : TypeTree) (head : VariableSizeHead) (items : Layout × Rest) → list_over large u head items ≡ answered (retyped u) (list_over large t head items)
list_by large t u head items = then_answered (retyped u) (check (nat_le (last_of head.offsets) (len items.0)) OffsetPastChild) _ _ (λ within. refl)

map_by : (t u : TypeTree) (head : VariableSizeHead) (entries : Layout × Rest) → map_over u head entries ≡ answered (retyped u) (map_over t head entries)
map_by t u head entries = then_answered (retyped u) (check (nat_le (last_of head.offsets) (len entries.0)) OffsetPastChild) _ _ (λ within. refl)

array_by : (t u s : TypeTree) (counts : NodeCounts) (body : List ℕ) (rest : Rest) → AreStoredAlike t u → decoded_array u s counts body rest ≡ answered (retyped u) (decoded_array t s counts body rest)
array_by t u (types.extension x s m) counts body rest same = array_by t u s counts body rest same
array_by t u (types.list f) counts body rest same = items_by false f u (list_over false t) (list_over false u) counts body rest (list_by false t u)
array_by t u (types.large_list f) counts body rest same = items_by true f u (list_over true t) (list_over true u) counts body rest (list_by true t u)
array_by t u (types.map f b) counts body rest same =
    then_answered (retyped u) (check (is_pair (field_type f)) TypeRange) _ _ (λ pairs. items_by false f u (map_over t) (map_over u) counts body rest (map_by t u))
array_by t u (types.fixed_size_list f n) counts body rest same =
    then_answered (retyped u) (check (nat_lt 0 n) TypeRange) _ _
    (λ some. then_answered (retyped u) (decoded_validity_buffer counts body rest) _ _
    (λ head. then_answered (retyped u) (decoded_child f (Exactly (counts.slots * n)) body head.1) _ _ (λ items. refl)))
array_by t u (types.struct fs) counts body rest same =
    then_answered (retyped u) (check (nat_lt 0 (count_fields fs)) TypeRange) _ _
    (λ some. then_answered (retyped u) (decoded_validity_buffer counts body rest) _ _
    (λ head. then_answered (retyped u) (decoded_children fs (Exactly counts.slots) body head.1) _ _ (λ children. refl)))
array_by t u (types.union fs ids mode) counts body rest same =
    then_answered (retyped u) (check _ TypeRange) _ _
    (λ formed. then_answered (retyped u) (decoded_union_parts mode ids (count_fields fs) counts body rest) _ _
    (λ picks. then_answered (retyped u) (decoded_children fs (union_child_length mode counts.slots) body picks.1) _ _
    (λ children. then_answered (retyped u) (check (are_union_offsets_valid ids children.0 picks.0.types picks.0.offsets) UnionOffset) _ _ (λ there. refl))))
array_by t u s counts body rest same = kind_by (physical_type s) t u counts body rest same

-- ---- storage types

logical_values : (t : TypeTree) → value_type (logical_type t) ≡ value_type t
logical_values (types.extension x t m) = logical_values t
logical_values t = refl

pub logical_twice : (t : TypeTree) → logical_type (logical_type t) ≡ logical_type t
logical_twice (types.extension x t m) = logical_twice t
logical_twice t = refl

-- a data type is read as its storage type
stored_by : (t s : TypeTree) (counts : NodeCounts) (body : List ℕ) (rest : Rest) → decoded_array t (logical_type s) counts body rest ≡ decoded_array t s counts body rest
stored_by t (types.extension x s m) counts body rest = stored_by t s counts body rest
stored_by t s counts body rest = refl

column_by : (t : TypeTree) (wanted : ExpectedLength) (body : List ℕ) (rest : Rest) → decoded_column (logical_type t) wanted body rest ≡ answered (retyped (logical_type t)) (decoded_column t wanted body rest)
column_by t wanted body rest =
    let u : TypeTree = logical_type t in
    let same : AreStoredAlike t u = record { size = sym (size_stored t); values = logical_values t } in
    then_answered (retyped u) (decoded_node wanted rest) _ _ (λ node. stored_by u t node.0 body node.1 ∙ array_by t u t node.0 body node.1 same)

abbrev all_retyped : TypeTree → List Layout → List Layout
all_retyped u columns = map (λ a. with_type a u) columns

each_by : (t : TypeTree) (rows : ℕ) (body : List ℕ) (rest : Rest) → decoded_each (logical_type t ∷ []) rows body rest ≡ answered (λ x. (all_retyped (logical_type t) x.0, x.1)) (decoded_each (t ∷ []) rows body rest)
unfolding decoded_each
each_by t rows body rest =
    let u : TypeTree = logical_type t in
    ap (λ r. r >>= λ first. decoded_each [] rows body first.1 >>= λ others. Ok (first.0 ∷ others.0, others.1)) (column_by t (Rows rows) body rest)
    ∙ behind_answered (retyped u) (λ x. (all_retyped u x.0, x.1)) (decoded_column t (Rows rows) body rest) _ _ (λ first. refl)

columns_by : (t : TypeTree) (rows : ℕ) (body : List ℕ) (rest : Rest) → decoded_columns (logical_type t ∷ []) rows body rest ≡ answered (all_retyped (logical_type t)) (decoded_columns (t ∷ []) rows body rest)
unfolding decoded_columns
columns_by t rows body rest =
    let u : TypeTree = logical_type t in
    ap (λ r. r >>= λ columns. checked_exhausted columns.1 >>= λ all. Ok columns.0) (each_by t rows body rest)
    ∙ behind_answered (λ x. (all_retyped u x.0, x.1)) (all_retyped u) (decoded_each (t ∷ []) rows body rest) _ _
    (λ columns. then_answered (all_retyped u) (checked_exhausted columns.1) _ _ (λ all. refl))

-- a single column is read by its storage type
pub read_stored : (t : TypeTree) (rows : ℕ) (body : List ℕ) (rest : Rest) (a : Layout) → decoded_columns (t ∷ []) rows body rest ≡ Ok (a ∷ []) → decoded_columns (logical_type t ∷ []) rows body rest ≡ Ok (with_type a (logical_type t) ∷ [])
read_stored t rows body rest a h = columns_by t rows body rest ∙ ap (answered (all_retyped (logical_type t))) h

-- ---- it has the same slots

pub stored_type : (a : Layout) → layout_type (stored_values a) ≡ logical_type (layout_type a)
stored_type (boolean t bs va) = refl
stored_type a = refl

stored_len : (a : Layout) → len (stored_values a) ≡ len a
stored_len (fixed_size_binary t bs va) = ap (λ (n : ℕ). length bs / n) (sym (size_stored t))
stored_len (fixed_size_list t c va) = ap (λ (n : ℕ). len c / n) (sym (size_stored t))
stored_len a = refl

stored_slot : (a : Layout) (i : ℕ) → slot (stored_values a) i ≡ slot a i
stored_slot (fixed_size_binary t bs va) i = ap (λ (n : ℕ). if valid_at va i then slots.bytes (sublist bs (i * n) n) else slots.null) (sym (size_stored t))
stored_slot (fixed_size_list t c va) i = ap (λ (n : ℕ). if valid_at va i then slots.list (seal (run (slot c) (i * n) n)) else slots.null) (sym (size_stored t))
stored_slot (union t ks cs os start) i = ap (λ (ids : Option (List ℤ)). of_field (field_named ids (get_or ks i (pos 0))) (λ f. picked f cs f (union_index os start i))) (sym (ids_stored t))
stored_slot a i = refl

pub stored_slots : (a : Layout) → slots_of (stored_values a) ≡ slots_of a
stored_slots a = λ w. run (λ i. stored_slot a i w) 0 (stored_len a w)
