-- A column uses exactly the buffers of its data type. The projected columns do not depend on buffers that are not needed.
use Rattle.std.proofs.Common.{◌≡◌, ℕ, zero, suc, ◌+◌, ◌-◌, ◌*◌, ◌≤◌, Bool, true, false, eqb, leb, List, [], ◌∷◌, ◌++◌, length, drop, map, replicate, Option, Some, None, Result, Ok, Err, refl, sym, ap, ◌∙◌, subst, append_assoc, arith}
use Rattle.std.specs.Prelude.{ℤ, ◌&&◌, IfOk, if◌then◌else◌, nat_le, nat_lt}
use Rattle.std.proofs.lemmas.Bool.{leb-true, le-leb}
use Rattle.std.proofs.lemmas.List.{drop-drop, length-drop, replicate-append-replicate}
use Rattle.ipc_flatbuf.specs.ReadResults.{◌>>=◌, check}
use Rattle.ipc_flatbuf.specs.declared.error.IpcReadError.{IpcReadError}
use Rattle.ipc_flatbuf.specs.declared.error.IpcReadError.TheVariants.{TypeRange, NodeCount, BufferCount, OffsetPastChild, UnionOffset}
use Rattle.ipc_flatbuf.specs.declared.batch.parts.FieldNode.{FieldNode}
use Rattle.ipc_flatbuf.specs.declared.batch.parts.BufferSpec.{BufferSpec}
use Rattle.ipc_flatbuf.specs.declared.projection.SkippedField.{SkippedField}
use Rattle.ipc_flatbuf.specs.declared.projection.FieldAction.{FieldAction}
use Rattle.ipc_flatbuf.specs.declared.projection.FieldAction.TheVariants.{Read, Skip}
use Rattle.ipc_flatbuf.specs.Flatbuffers.{spec_non_negative}
use Rattle.nest_memory.specs.Physical.{physical_type, primitive_tree}
use Rattle.nest_memory.specs.Rising.{last_of}
use Rattle.nest_memory.specs.TypeTree as types
use Rattle.nest_memory.specs.TypeTree.{TypeTree, FieldTree, FieldTrees, field, no_fields, more_fields, field_type, count_fields, size_of, is_pair}
use Rattle.nest_memory.specs.declared.datatypes.IntegerType.{IntegerType}
use Rattle.nest_memory.specs.declared.datatypes.UnionMode.{UnionMode}
use Rattle.nest_memory.specs.declared.datatypes.UnionMode.TheVariants.{Dense, Sparse}
use Rattle.nest_memory.specs.declared.datatypes.physical_type.PhysicalType.{PhysicalType}
use Rattle.nest_memory.specs.declared.datatypes.physical_type.PhysicalType.TheVariants as physical
use Rattle.nest_memory.specs.declared.datatypes.physical_type.PrimitiveType.{PrimitiveType}
use Rattle.nest_model.specs.Checks.{most_fields}
use Rattle.nest_model.specs.Layout.{Layout, boolean, primitive, binary, fixed_size_binary, fixed_size_list, list as list_of, map as map_of, struct, union, no_layouts, more_layouts}
use Rattle.nest_model.specs.Meaning.{len}
use Rattle.nest_model.specs.Part.{Validity}
use Rattle.ipc_arrays.specs.DictionaryKeys.{key_format, key_primitive, zero_at_nulls}
use Rattle.ipc_arrays.specs.FixedWidth.{ByteFormat, format_of, offset_format, only}
use Rattle.ipc_arrays.specs.Decoding.{Rest, with_buffers, variable_size_head, union_parts, binary_parts, buffer_slice, first_counts, first_buffer, first_values, decoded_bits, decoded_validity, decoded_values, decoded_bytes, decoded_offsets, decoded_data, checked_length, decoded_node, decoded_buffer, decoded_validity_buffer, decoded_boolean, decoded_primitive, decoded_fixed_size_binary, decoded_variable_size_head, decoded_binary_parts, decoded_binary, checked_utf8, decoded_utf8, decoded_keys_as, decoded_keys, dictionary_over, decoded_dictionary_values, decoded_dictionary, decoded_fixed_width, decoded_flat, are_type_ids, decoded_types, decoded_union_parts, union_child_length, are_union_offsets_valid, decoded_array, decoded_child, decoded_children, decoded_column, checked_exhausted}
use Rattle.ipc_arrays.specs.Projection.{ProjectionState, skip_first, skipped_views, skipped_column, decoded_steps, decoded_projection}
use Rattle.ipc_arrays.specs.BufferCounts.{spec_flat_buffer_count, spec_union_buffer_count, buffer_count, child_buffer_count, children_buffer_count, array_skipped}
use Rattle.ipc_arrays.specs.NeededBuffers.{column_skipped, flags, spec_needed_buffers}
use Rattle.ipc_arrays.specs.declared.cursor.NodeCounts.{NodeCounts}
use Rattle.ipc_arrays.specs.declared.cursor.ExpectedLength.{ExpectedLength}
use Rattle.ipc_arrays.specs.declared.cursor.ExpectedLength.TheVariants.{Rows, Exactly, Any}

-- what is read, and the nodes and buffers that remain
abbrev Outcome : Type 0 → Type 0
Outcome X = Result (X × Rest) IpcReadError

abbrev Reader : Type 0 → Type 0
Reader X = List ℕ → Rest → Outcome X

-- as many buffers in both lists, with the same bytes or the same error where a buffer is needed
abbrev pub AreAlike : List ℕ → List ℕ → List Bool → List BufferSpec → List BufferSpec → Type 0
AreAlike body other needed [] [] = Unit {0}
AreAlike body other needed [] (c ∷ cs) = ⊥
AreAlike body other needed (b ∷ bs) [] = ⊥
AreAlike body other [] (b ∷ bs) (c ∷ cs) = AreAlike body other [] bs cs
AreAlike body other (true ∷ needed) (b ∷ bs) (c ∷ cs) = (buffer_slice body b.offset b.length ≡ buffer_slice other c.offset c.length) × AreAlike body other needed bs cs
AreAlike body other (false ∷ needed) (b ∷ bs) (c ∷ cs) = AreAlike body other needed bs cs

record IsAlike (body other : List ℕ) (needed : List Bool) (r s : Rest) : Type 0 where
  pub nodes : r.nodes ≡ s.nodes
  pub buffers : AreAlike body other needed r.buffers s.buffers
  pub dictionaries : r.dictionaries ≡ s.dictionaries

-- one error, or one value; then the buffers after the first n of bs remain, and the others are alike
abbrev Agree : {X : Type 0} → List ℕ → List ℕ → ℕ → List Bool → List BufferSpec → Outcome X → Outcome X → Type 0
Agree body other n needed bs (Ok x) (Ok y) = (x.0 ≡ y.0) × IsAlike body other needed x.1 y.1 × (x.1.buffers ≡ drop n bs)
Agree body other n needed bs (Ok x) (Err f) = ⊥
Agree body other n needed bs (Err e) (Ok y) = ⊥
Agree body other n needed bs (Err e) (Err f) = e ≡ f

-- a reader that uses the first n buffers and no other
abbrev Uses : {X : Type 0} → ℕ → Reader X → Type 0
Uses n read = (body other : List ℕ) (needed : List Bool) (r s : Rest) → IsAlike body other (replicate n true ++ needed) r s → Agree body other n needed r.buffers (read body r) (read other s)

-- ---- one after the other

shifted : {Y : Type 0} (body other : List ℕ) (n m k : ℕ) (needed : List Bool) (bs cs : List BufferSpec) (p q : Outcome Y) → n + m ≡ k → cs ≡ drop n bs → Agree body other m needed cs p q → Agree body other k needed bs p q
shifted body other n m k needed bs cs (Ok x) (Ok y) sum is agree = (agree.0, agree.1, agree.2 ∙ ap (drop m) is ∙ drop-drop m n bs ∙ ap (λ (j : ℕ). drop j bs) sum)
shifted body other n m k needed bs cs (Ok x) (Err f) sum is agree = agree
shifted body other n m k needed bs cs (Err e) (Ok y) sum is agree = agree
shifted body other n m k needed bs cs (Err e) (Err f) sum is agree = agree

module _ {X Y : Type 0} where
  both_agree : (body other : List ℕ) (n m k : ℕ) (needed : List Bool) (bs : List BufferSpec) (p q : Outcome X) (next : X → Reader Y) → n + m ≡ k → ((x : X) → Uses m (next x)) → Agree body other n (replicate m true ++ needed) bs p q
      → Agree body other k needed bs (p >>= λ x. next x.0 body x.1) (q >>= λ y. next y.0 other y.1)
  both_agree body other n m k needed bs (Ok x) (Ok y) next sum uses agree =
      subst (λ (z : X). Agree body other k needed bs (next x.0 body x.1) (next z other y.1)) agree.0
      (shifted body other n m k needed bs x.1.buffers (next x.0 body x.1) (next x.0 other y.1) sum agree.2 (uses x.0 body other needed x.1 y.1 agree.1))
  both_agree body other n m k needed bs (Ok x) (Err f) next sum uses agree = absurd agree
  both_agree body other n m k needed bs (Err e) (Ok y) next sum uses agree = absurd agree
  both_agree body other n m k needed bs (Err e) (Err f) next sum uses agree = agree

  both : (n m k : ℕ) (read : Reader X) (next : X → Reader Y) → n + m ≡ k → Uses n read → ((x : X) → Uses m (next x)) → Uses k (λ body rest. read body rest >>= λ x. next x.0 body x.1)
  both n m k read next sum first others = λ body other needed r s is.
      let split : replicate k true ++ needed ≡ replicate n true ++ (replicate m true ++ needed) = ap (λ (j : ℕ). replicate j true ++ needed) (sym sum) ∙ ap (λ (fs : List Bool). fs ++ needed) (sym (replicate-append-replicate n m true)) ∙ append_assoc (replicate n true) (replicate m true) needed in
      both_agree body other n m k needed r.buffers (read body r) (read other s) next sum others (first body other (replicate m true ++ needed) r s (subst (λ (fs : List Bool). IsAlike body other fs r s) split is))

  -- a value made of it
  made_agree : (body other : List ℕ) (n : ℕ) (needed : List Bool) (bs : List BufferSpec) (p q : Outcome X) (f : X → Y) → Agree body other n needed bs p q → Agree body other n needed bs (p >>= λ x. Ok (f x.0, x.1)) (q >>= λ y. Ok (f y.0, y.1))
  made_agree body other n needed bs (Ok x) (Ok y) f agree = (ap f agree.0, agree.1, agree.2)
  made_agree body other n needed bs (Ok x) (Err e) f agree = absurd agree
  made_agree body other n needed bs (Err e) (Ok y) f agree = absurd agree
  made_agree body other n needed bs (Err e) (Err g) f agree = agree

  made : (n : ℕ) (read : Reader X) (f : X → Y) → Uses n read → Uses n (λ body rest. read body rest >>= λ x. Ok (f x.0, x.1))
  made n read f uses = λ body other needed r s is. made_agree body other n needed r.buffers (read body r) (read other s) f (uses body other needed r s is)

module _ {X A Y : Type 0} where
  -- a part that may fail, and a value made of both
  part_agrees : (body other : List ℕ) (n : ℕ) (needed : List Bool) (bs : List BufferSpec) (x y : X × Rest) (part : Result A IpcReadError) (f : X → A → Y) → x.0 ≡ y.0 → IsAlike body other needed x.1 y.1 → x.1.buffers ≡ drop n bs
      → Agree body other n needed bs (part >>= λ a. Ok (f x.0 a, x.1)) (part >>= λ a. Ok (f y.0 a, y.1))
  part_agrees body other n needed bs x y (Ok a) f same alike is = (ap (λ (z : X). f z a) same, alike, is)
  part_agrees body other n needed bs x y (Err e) f same alike is = refl

  parts_agree : (body other : List ℕ) (n : ℕ) (needed : List Bool) (bs : List BufferSpec) (p q : Outcome X) (part : X → Result A IpcReadError) (f : X → A → Y) → Agree body other n needed bs p q
      → Agree body other n needed bs (p >>= λ x. part x.0 >>= λ a. Ok (f x.0 a, x.1)) (q >>= λ y. part y.0 >>= λ a. Ok (f y.0 a, y.1))
  parts_agree body other n needed bs (Ok x) (Ok y) part f agree =
      subst (λ (z : X). Agree body other n needed bs (part x.0 >>= λ a. Ok (f x.0 a, x.1)) (part z >>= λ a. Ok (f y.0 a, y.1))) agree.0 (part_agrees body other n needed bs x y (part x.0) f agree.0 agree.1 agree.2)
  parts_agree body other n needed bs (Ok x) (Err e) part f agree = absurd agree
  parts_agree body other n needed bs (Err e) (Ok y) part f agree = absurd agree
  parts_agree body other n needed bs (Err e) (Err g) part f agree = agree

  with_part : (n : ℕ) (read : Reader X) (part : X → Result A IpcReadError) (f : X → A → Y) → Uses n read → Uses n (λ body rest. read body rest >>= λ x. part x.0 >>= λ a. Ok (f x.0 a, x.1))
  with_part n read part f uses = λ body other needed r s is. parts_agree body other n needed r.buffers (read body r) (read other s) part f (uses body other needed r s is)

-- a check before it
behind : {A Y : Type 0} (n : ℕ) (first : Result A IpcReadError) (next : A → Reader Y) → ((a : A) → Uses n (next a)) → Uses n (λ body rest. first >>= λ a. next a body rest)
behind n (Ok a) next uses = uses a
behind n (Err e) next uses = λ body other needed r s is. refl

none_used : {X : Type 0} (x : X) → Uses 0 (λ body rest. Ok (x, rest))
none_used x = λ body other needed r s is. (refl, is, refl)

-- ---- nodes, buffers, dictionaries

abbrev with_nodes : Rest → List FieldNode → Rest
with_nodes rest nodes = record { nodes = nodes; buffers = rest.buffers; dictionaries = rest.dictionaries }

counts_agree : (body other : List ℕ) (needed : List Bool) (r s : Rest) (counts : NodeCounts) (nodes : List FieldNode) (check : Result (Unit {0}) IpcReadError) → IsAlike body other needed r s
    → Agree body other 0 needed r.buffers (check >>= λ same. Ok (counts, with_nodes r nodes)) (check >>= λ same. Ok (counts, with_nodes s nodes))
counts_agree body other needed r s counts nodes (Ok u) is = (refl, record { nodes = refl; buffers = is.buffers; dictionaries = is.dictionaries }, refl)
counts_agree body other needed r s counts nodes (Err e) is = refl

nodes_agree : (body other : List ℕ) (needed : List Bool) (r s : Rest) (expected : ExpectedLength) (first : Result (NodeCounts × List FieldNode) IpcReadError) → IsAlike body other needed r s
    → Agree body other 0 needed r.buffers (first >>= λ node. checked_length expected node.0.slots >>= λ same. Ok (node.0, with_nodes r node.1)) (first >>= λ node. checked_length expected node.0.slots >>= λ same. Ok (node.0, with_nodes s node.1))
nodes_agree body other needed r s expected (Ok node) is = counts_agree body other needed r s node.0 node.1 (checked_length expected node.0.slots) is
nodes_agree body other needed r s expected (Err e) is = refl

node_uses : (expected : ExpectedLength) → Uses 0 (λ body rest. decoded_node expected rest)
unfolding decoded_node
node_uses expected = λ body other needed r s is.
    subst (λ (nodes : List FieldNode). Agree body other 0 needed r.buffers (decoded_node expected r) (first_counts nodes >>= λ node. checked_length expected node.0.slots >>= λ same. Ok (node.0, with_nodes s node.1))) is.nodes
    (nodes_agree body other needed r s expected (first_counts r.nodes) is)

abbrev with_dictionaries : Rest → List (Option Layout) → Rest
with_dictionaries rest dictionaries = record { nodes = rest.nodes; buffers = rest.buffers; dictionaries = dictionaries }

values_agree : (body other : List ℕ) (needed : List Bool) (r s : Rest) (first : Result (Layout × List (Option Layout)) IpcReadError) → IsAlike body other needed r s
    → Agree body other 0 needed r.buffers (first >>= λ values. Ok (values.0, with_dictionaries r values.1)) (first >>= λ values. Ok (values.0, with_dictionaries s values.1))
values_agree body other needed r s (Ok values) is = (refl, record { nodes = is.nodes; buffers = is.buffers; dictionaries = refl }, refl)
values_agree body other needed r s (Err e) is = refl

values_use : Uses 0 (λ body rest. decoded_dictionary_values rest)
unfolding decoded_dictionary_values
values_use = λ body other needed r s is.
    subst (λ (dictionaries : List (Option Layout)). Agree body other 0 needed r.buffers (decoded_dictionary_values r) (first_values dictionaries >>= λ values. Ok (values.0, with_dictionaries s values.1))) is.dictionaries
    (values_agree body other needed r s (first_values r.dictionaries) is)

abbrev pair_with : List BufferSpec → List ℕ → Result (List ℕ × List BufferSpec) IpcReadError
pair_with bs bytes = Ok (bytes, bs)

abbrev then_rest : Rest → List BufferSpec → Result (List ℕ) IpcReadError → Outcome (List ℕ)
then_rest rest bs slice = (slice >>= pair_with bs) >>= λ bytes. Ok (bytes.0, with_buffers rest bytes.1)

slices_agree : (body other : List ℕ) (needed : List Bool) (r s : Rest) (bs cs : List BufferSpec) (slice : Result (List ℕ) IpcReadError) → r.nodes ≡ s.nodes → r.dictionaries ≡ s.dictionaries → AreAlike body other needed bs cs
    → (b : BufferSpec) → Agree body other 1 needed (b ∷ bs) (then_rest r bs slice) (then_rest s cs slice)
slices_agree body other needed r s bs cs (Ok bytes) nodes dictionaries alike b = (refl, record { nodes = nodes; buffers = alike; dictionaries = dictionaries }, refl)
slices_agree body other needed r s bs cs (Err e) nodes dictionaries alike b = refl

buffers_agree : (body other : List ℕ) (needed : List Bool) (r s : Rest) (bs cs : List BufferSpec) → r.nodes ≡ s.nodes → r.dictionaries ≡ s.dictionaries → AreAlike body other (true ∷ needed) bs cs
    → Agree body other 1 needed bs (first_buffer body bs >>= λ bytes. Ok (bytes.0, with_buffers r bytes.1)) (first_buffer other cs >>= λ bytes. Ok (bytes.0, with_buffers s bytes.1))
unfolding first_buffer
buffers_agree body other needed r s [] [] nodes dictionaries alike = refl
buffers_agree body other needed r s [] (c ∷ cs) nodes dictionaries alike = absurd alike
buffers_agree body other needed r s (b ∷ bs) [] nodes dictionaries alike = absurd alike
buffers_agree body other needed r s (b ∷ bs) (c ∷ cs) nodes dictionaries alike =
    subst (λ (slice : Result (List ℕ) IpcReadError). Agree body other 1 needed (b ∷ bs) (then_rest r bs (buffer_slice body b.offset b.length)) (then_rest s cs slice)) alike.0
    (slices_agree body other needed r s bs cs (buffer_slice body b.offset b.length) nodes dictionaries alike.1 b)

buffer_uses : Uses 1 decoded_buffer
unfolding decoded_buffer
buffer_uses = λ body other needed r s is. buffers_agree body other needed r s r.buffers s.buffers is.nodes is.dictionaries is.buffers

-- one more buffer, and a value made of what was read before and its bytes
then_buffer : {X A Y : Type 0} (n : ℕ) (read : Reader X) (part : X → List ℕ → Result A IpcReadError) (f : X → A → Y) → Uses n read → Uses (n + 1) (λ body rest. read body rest >>= λ x. decoded_buffer body x.1 >>= λ bytes. part x.0 bytes.0 >>= λ a. Ok (f x.0 a, bytes.1))
then_buffer n read part f uses =
    both n 1 (n + 1) read (λ x body rest. decoded_buffer body rest >>= λ bytes. part x bytes.0 >>= λ a. Ok (f x a, bytes.1)) refl uses
    (λ x. with_part 1 decoded_buffer (λ bytes. part x bytes) (λ bytes a. f x a) buffer_uses)

-- ---- arrays without children

validity_uses : (counts : NodeCounts) → Uses 1 (decoded_validity_buffer counts)
unfolding decoded_validity_buffer
validity_uses counts = with_part 1 decoded_buffer (λ bytes. decoded_validity counts bytes) (λ bytes validity. validity) buffer_uses

head_uses : (large : Bool) (counts : NodeCounts) → Uses 2 (decoded_variable_size_head large counts)
unfolding decoded_variable_size_head
head_uses large counts = then_buffer 1 (decoded_validity_buffer counts) (λ validity bytes. decoded_offsets large counts.slots bytes) (λ validity offsets. variable_size_head offsets validity) (validity_uses counts)

binary_parts_use : (large : Bool) (counts : NodeCounts) → Uses 3 (decoded_binary_parts large counts)
unfolding decoded_binary_parts
binary_parts_use large counts =
    then_buffer 2 (decoded_variable_size_head large counts) (λ head bytes. decoded_data (last_of head.offsets) bytes) (λ head bytes. binary_parts head.offsets bytes head.validity) (head_uses large counts)

boolean_uses : (t : TypeTree) (counts : NodeCounts) → Uses 2 (decoded_boolean t counts)
unfolding decoded_boolean
boolean_uses t counts = then_buffer 1 (decoded_validity_buffer counts) (λ validity bytes. decoded_bits counts.slots bytes) (λ validity bits. boolean t bits validity) (validity_uses counts)

primitive_uses : (format : ByteFormat) (k : PrimitiveType) (t : TypeTree) (counts : NodeCounts) → Uses 2 (decoded_primitive format k t counts)
unfolding decoded_primitive
primitive_uses format k t counts = then_buffer 1 (decoded_validity_buffer counts) (λ validity bytes. decoded_values format counts.slots bytes) (λ validity values. primitive k t values validity) (validity_uses counts)

fixed_width_uses : (format : Option ByteFormat) (k : PrimitiveType) (t : TypeTree) (counts : NodeCounts) → Uses 2 (decoded_fixed_width format k t counts)
fixed_width_uses None k t counts = λ body other needed r s is. refl
fixed_width_uses (Some format) k t counts = primitive_uses format k t counts

fixed_size_binary_uses : (t : TypeTree) (counts : NodeCounts) → Uses 2 (decoded_fixed_size_binary t counts)
unfolding decoded_fixed_size_binary
fixed_size_binary_uses t counts =
    behind 2 (check (nat_lt 0 (size_of t)) TypeRange) (λ some body rest. decoded_validity_buffer counts body rest >>= λ head. decoded_buffer body head.1 >>= λ bytes. decoded_bytes (counts.slots * size_of t) bytes.0 >>= λ values. Ok (fixed_size_binary t values head.0, bytes.1))
    (λ some. then_buffer 1 (decoded_validity_buffer counts) (λ validity bytes. decoded_bytes (counts.slots * size_of t) bytes) (λ validity values. fixed_size_binary t values validity) (validity_uses counts))

binary_uses : (large : Bool) (t : TypeTree) (counts : NodeCounts) → Uses 3 (decoded_binary large t counts)
unfolding decoded_binary
binary_uses large t counts = made 3 (decoded_binary_parts large counts) (λ s. binary large t s.offsets s.bytes s.validity) (binary_parts_use large counts)

utf8_uses : (large : Bool) (t : TypeTree) (counts : NodeCounts) → Uses 3 (decoded_utf8 large t counts)
unfolding decoded_utf8
utf8_uses large t counts = with_part 3 (decoded_binary_parts large counts) (λ s. checked_utf8 large t s) (λ s a. a) (binary_parts_use large counts)

keys_use : (format : ByteFormat) (k : PrimitiveType) (counts : NodeCounts) → Uses 2 (decoded_keys_as format k counts)
unfolding decoded_keys_as
keys_use format k counts = then_buffer 1 (decoded_validity_buffer counts) (λ validity bytes. decoded_values format counts.slots bytes) (λ validity values. primitive k (primitive_tree k) (zero_at_nulls validity values) validity) (validity_uses counts)

dictionary_uses : (k : IntegerType) (t : TypeTree) (counts : NodeCounts) → Uses 2 (decoded_dictionary k t counts)
unfolding decoded_dictionary
dictionary_uses k t counts =
    both 2 0 2 (decoded_keys k counts) (λ keys body rest. decoded_dictionary_values rest >>= λ values. dictionary_over t keys values.0 >>= λ a. Ok (a, values.1)) refl (keys_use (key_format k) (key_primitive k) counts)
    (λ keys. with_part 0 (λ body rest. decoded_dictionary_values rest) (λ values. dictionary_over t keys values) (λ values a. a) values_use)

flat_uses : (p : PhysicalType) (t : TypeTree) (counts : NodeCounts) → Uses (spec_flat_buffer_count p) (decoded_flat p t counts)
flat_uses physical.Null t counts = λ body other needed r s is. (refl, is, refl)
flat_uses physical.Boolean t counts = boolean_uses t counts
flat_uses (physical.Primitive k) t counts = fixed_width_uses (format_of k) k t counts
flat_uses physical.FixedSizeBinary t counts = fixed_size_binary_uses t counts
flat_uses physical.Binary t counts = binary_uses false t counts
flat_uses physical.LargeBinary t counts = binary_uses true t counts
flat_uses physical.Utf8 t counts = utf8_uses false t counts
flat_uses physical.LargeUtf8 t counts = utf8_uses true t counts
flat_uses (physical.Dictionary k) t counts = dictionary_uses k t counts
flat_uses p t counts = λ body other needed r s is. refl

-- ---- nested arrays

union_parts_use : (mode : UnionMode) (ids : Option (List ℤ)) (fields : ℕ) (counts : NodeCounts) → Uses (spec_union_buffer_count mode) (decoded_union_parts mode ids fields counts)
unfolding decoded_union_parts
union_parts_use Sparse ids fields counts = with_part 1 decoded_buffer (λ bytes. decoded_types ids fields counts.slots bytes) (λ bytes types. union_parts types None) buffer_uses
union_parts_use Dense ids fields counts =
    both 1 1 2 decoded_buffer (λ bytes body rest. decoded_types ids fields counts.slots bytes >>= λ types. decoded_buffer body rest >>= λ second. decoded_values (offset_format false) counts.slots second.0 >>= λ offsets. Ok (union_parts types (Some (map only offsets)), second.1)) refl buffer_uses
    (λ bytes. behind 1 (decoded_types ids fields counts.slots bytes) (λ types body rest. decoded_buffer body rest >>= λ second. decoded_values (offset_format false) counts.slots second.0 >>= λ offsets. Ok (union_parts types (Some (map only offsets)), second.1))
    (λ types. with_part 1 decoded_buffer (λ second. decoded_values (offset_format false) counts.slots second) (λ second offsets. union_parts types (Some (map only offsets))) buffer_uses))

mutual
  array_uses : (t s : TypeTree) (counts : NodeCounts) → Uses (buffer_count s) (decoded_array t s counts)
  array_uses t (types.extension x s m) counts = array_uses t s counts
  array_uses t (types.list f) counts =
      both 2 (child_buffer_count f) (2 + child_buffer_count f) (decoded_variable_size_head false counts) (λ head body rest. decoded_child f Any body rest >>= λ items. check (nat_le (last_of head.offsets) (len items.0)) OffsetPastChild >>= λ within. Ok (list_of false t head.offsets items.0 head.validity, items.1)) refl (head_uses false counts)
      (λ head. with_part (child_buffer_count f) (decoded_child f Any) (λ items. check (nat_le (last_of head.offsets) (len items)) OffsetPastChild) (λ items within. list_of false t head.offsets items head.validity) (child_uses f Any))
  array_uses t (types.large_list f) counts =
      both 2 (child_buffer_count f) (2 + child_buffer_count f) (decoded_variable_size_head true counts) (λ head body rest. decoded_child f Any body rest >>= λ items. check (nat_le (last_of head.offsets) (len items.0)) OffsetPastChild >>= λ within. Ok (list_of true t head.offsets items.0 head.validity, items.1)) refl (head_uses true counts)
      (λ head. with_part (child_buffer_count f) (decoded_child f Any) (λ items. check (nat_le (last_of head.offsets) (len items)) OffsetPastChild) (λ items within. list_of true t head.offsets items head.validity) (child_uses f Any))
  array_uses t (types.map f b) counts =
      behind (2 + child_buffer_count f) (check (is_pair (field_type f)) TypeRange) (λ pairs body rest. decoded_variable_size_head false counts body rest >>= λ head. decoded_child f Any body head.1 >>= λ entries. check (nat_le (last_of head.0.offsets) (len entries.0)) OffsetPastChild >>= λ within. Ok (map_of t head.0.offsets entries.0 head.0.validity, entries.1))
      (λ pairs. both 2 (child_buffer_count f) (2 + child_buffer_count f) (decoded_variable_size_head false counts) (λ head body rest. decoded_child f Any body rest >>= λ entries. check (nat_le (last_of head.offsets) (len entries.0)) OffsetPastChild >>= λ within. Ok (map_of t head.offsets entries.0 head.validity, entries.1)) refl (head_uses false counts)
      (λ head. with_part (child_buffer_count f) (decoded_child f Any) (λ entries. check (nat_le (last_of head.offsets) (len entries)) OffsetPastChild) (λ entries within. map_of t head.offsets entries head.validity) (child_uses f Any)))
  array_uses t (types.fixed_size_list f n) counts =
      behind (1 + child_buffer_count f) (check (nat_lt 0 n) TypeRange) (λ some body rest. decoded_validity_buffer counts body rest >>= λ head. decoded_child f (Exactly (counts.slots * n)) body head.1 >>= λ items. Ok (fixed_size_list t items.0 head.0, items.1))
      (λ some. both 1 (child_buffer_count f) (1 + child_buffer_count f) (decoded_validity_buffer counts) (λ validity body rest. decoded_child f (Exactly (counts.slots * n)) body rest >>= λ items. Ok (fixed_size_list t items.0 validity, items.1)) refl (validity_uses counts)
      (λ validity. made (child_buffer_count f) (decoded_child f (Exactly (counts.slots * n))) (λ items. fixed_size_list t items validity) (child_uses f (Exactly (counts.slots * n)))))
  array_uses t (types.struct fs) counts =
      behind (1 + children_buffer_count fs) (check (nat_lt 0 (count_fields fs)) TypeRange) (λ some body rest. decoded_validity_buffer counts body rest >>= λ head. decoded_children fs (Exactly counts.slots) body head.1 >>= λ children. Ok (struct t children.0 head.0, children.1))
      (λ some. both 1 (children_buffer_count fs) (1 + children_buffer_count fs) (decoded_validity_buffer counts) (λ validity body rest. decoded_children fs (Exactly counts.slots) body rest >>= λ children. Ok (struct t children.0 validity, children.1)) refl (validity_uses counts)
      (λ validity. made (children_buffer_count fs) (decoded_children fs (Exactly counts.slots)) (λ children. struct t children validity) (children_use fs (Exactly counts.slots))))
  array_uses t (types.union fs ids mode) counts =
      let length : ExpectedLength = union_child_length mode counts.slots in
      behind (spec_union_buffer_count mode + children_buffer_count fs) (check (nat_le (count_fields fs) most_fields && are_type_ids ids (count_fields fs)) TypeRange)
      (λ formed body rest. decoded_union_parts mode ids (count_fields fs) counts body rest >>= λ parts. decoded_children fs length body parts.1 >>= λ children. check (are_union_offsets_valid ids children.0 parts.0.types parts.0.offsets) UnionOffset >>= λ there. Ok (union t parts.0.types children.0 parts.0.offsets 0, children.1))
      (λ formed. both (spec_union_buffer_count mode) (children_buffer_count fs) (spec_union_buffer_count mode + children_buffer_count fs) (decoded_union_parts mode ids (count_fields fs) counts)
      (λ parts body rest. decoded_children fs length body rest >>= λ children. check (are_union_offsets_valid ids children.0 parts.types parts.offsets) UnionOffset >>= λ there. Ok (union t parts.types children.0 parts.offsets 0, children.1)) refl (union_parts_use mode ids (count_fields fs) counts)
      (λ parts. with_part (children_buffer_count fs) (decoded_children fs length) (λ children. check (are_union_offsets_valid ids children parts.types parts.offsets) UnionOffset) (λ children there. union t parts.types children parts.offsets 0) (children_use fs length)))
  array_uses t s counts = flat_uses (physical_type s) t counts

  child_uses : (f : FieldTree) (expected : ExpectedLength) → Uses (child_buffer_count f) (decoded_child f expected)
  child_uses (field x s b es) expected = both 0 (buffer_count s) (buffer_count s) (λ body rest. decoded_node expected rest) (λ counts body rest. decoded_array s s counts body rest) (omega arith) (node_uses expected) (λ counts. array_uses s s counts)

  children_use : (fs : FieldTrees) (expected : ExpectedLength) → Uses (children_buffer_count fs) (decoded_children fs expected)
  children_use no_fields expected = none_used no_layouts
  children_use (more_fields f fs) expected =
      both (child_buffer_count f) (children_buffer_count fs) (child_buffer_count f + children_buffer_count fs) (decoded_child f expected) (λ first body rest. decoded_children fs expected body rest >>= λ others. Ok (more_layouts first others.0, others.1)) refl (child_uses f expected)
      (λ first. made (children_buffer_count fs) (decoded_children fs expected) (λ others. more_layouts first others) (children_use fs expected))

column_uses : (t : TypeTree) (expected : ExpectedLength) → Uses (buffer_count t) (decoded_column t expected)
column_uses t expected = both 0 (buffer_count t) (buffer_count t) (λ body rest. decoded_node expected rest) (λ counts body rest. decoded_array t t counts body rest) (omega arith) (node_uses expected) (λ counts. array_uses t t counts)

-- ---- a column uses its buffers

alike_self : (body : List ℕ) (needed : List Bool) (bs : List BufferSpec) → AreAlike body body needed bs bs
alike_self body needed [] = tt
alike_self body [] (b ∷ bs) = alike_self body [] bs
alike_self body (true ∷ needed) (b ∷ bs) = (refl, alike_self body needed bs)
alike_self body (false ∷ needed) (b ∷ bs) = alike_self body needed bs

left_behind : {X : Type 0} (body : List ℕ) (n : ℕ) (needed : List Bool) (bs : List BufferSpec) (read : Outcome X) → Agree body body n needed bs read read → IfOk read (λ x. x.1.buffers ≡ drop n bs)
left_behind body n needed bs (Ok x) agree = agree.2
left_behind body n needed bs (Err e) agree = tt

-- the buffers after those of its data type remain
abbrev pub ColumnsUseTheirBuffers : Type 0
ColumnsUseTheirBuffers = (t : TypeTree) (expected : ExpectedLength) (body : List ℕ) (rest : Rest) → IfOk (decoded_column t expected body rest) (λ x. x.1.buffers ≡ drop (buffer_count t) rest.buffers)

pub columns_use_their_buffers : ColumnsUseTheirBuffers
columns_use_their_buffers t expected body rest =
    left_behind body (buffer_count t) [] rest.buffers (decoded_column t expected body rest)
    (column_uses t expected body body [] rest rest (record { nodes = refl; buffers = alike_self body (replicate (buffer_count t) true ++ []) rest.buffers; dictionaries = refl }))

-- ---- skipped columns

alike_long : (body other : List ℕ) (needed : List Bool) (bs cs : List BufferSpec) → AreAlike body other needed bs cs → length bs ≡ length cs
alike_long body other needed [] [] alike = refl
alike_long body other needed [] (c ∷ cs) alike = absurd alike
alike_long body other needed (b ∷ bs) [] alike = absurd alike
alike_long body other [] (b ∷ bs) (c ∷ cs) alike = ap suc (alike_long body other [] bs cs alike)
alike_long body other (true ∷ needed) (b ∷ bs) (c ∷ cs) alike = ap suc (alike_long body other needed bs cs alike.1)
alike_long body other (false ∷ needed) (b ∷ bs) (c ∷ cs) alike = ap suc (alike_long body other needed bs cs alike)

alike_behind : (body other : List ℕ) (n : ℕ) (needed : List Bool) (bs cs : List BufferSpec) → n ≤ length bs → AreAlike body other (replicate n false ++ needed) bs cs → AreAlike body other needed (drop n bs) (drop n cs)
alike_behind body other zero needed bs cs le alike = alike
alike_behind body other (suc n) needed [] cs le alike = absurd (omega (arith, le))
alike_behind body other (suc n) needed (b ∷ bs) [] le alike = absurd alike
alike_behind body other (suc n) needed (b ∷ bs) (c ∷ cs) le alike = alike_behind body other n needed bs cs (omega (arith, le)) alike

-- the parts of a success
passed : {A B : Type 0} (r : Result A IpcReadError) (f : A → Result B IpcReadError) (y : B) → (r >>= f) ≡ Ok y → (x : A) × (r ≡ Ok x) × (f x ≡ Ok y)
passed (Ok x) f y h = (x, refl, h)
passed (Err e) f y h = cc

same_value : {A : Type 0} (x y : A) → ◌≡◌ {A = Result A IpcReadError} (Ok x) (Ok y) → x ≡ y
same_value x y h = cc

taken : (error : IpcReadError) (n : ℕ) (bs rest : List BufferSpec) (b : Bool) → (if b then Ok (drop n bs) else Err error) ≡ Ok rest → (b ≡ true) × (rest ≡ drop n bs)
taken error n bs rest true h = (refl, sym (same_value (drop n bs) rest h))
taken error n bs rest false h = cc

first_fits : (error : IpcReadError) (n : ℕ) (bs rest : List BufferSpec) → skip_first error n bs ≡ Ok rest → (n ≤ length bs) × (rest ≡ drop n bs)
unfolding skip_first
first_fits error n bs rest h =
    let t = taken error n bs rest (leb n (length bs)) h in
    (leb-true n (length bs) t.0, t.1)

first_skips : (error : IpcReadError) (n : ℕ) (bs : List BufferSpec) → n ≤ length bs → skip_first error n bs ≡ Ok (drop n bs)
unfolding skip_first
first_skips error n bs le = let fits : leb n (length bs) ≡ true = le-leb n (length bs) le in rw fits refl

array_fits : (t : TypeTree) (bs rest : List BufferSpec) → array_skipped t bs ≡ Ok rest → (buffer_count t ≤ length bs) × (rest ≡ drop (buffer_count t) bs)
unfolding array_skipped
array_fits t bs rest h = first_fits BufferCount (buffer_count t) bs rest h

-- as many buffers are skipped of each list of the same length
record IsSkip (skip : List BufferSpec → Result (List BufferSpec × List ℤ) IpcReadError) (bs rest : List BufferSpec) (more : List ℤ) : Type 0 where
  pub count : ℕ
  pub within : count ≤ length bs
  pub is : rest ≡ drop count bs
  pub alike : (cs : List BufferSpec) → length bs ≡ length cs → skip cs ≡ Ok (drop count cs, more)

skip_both : (n : ℕ) (bs mid rest : List BufferSpec) (more : List ℤ) (next : List BufferSpec → Result (List BufferSpec × List ℤ) IpcReadError) → skip_first BufferCount n bs ≡ Ok mid → IsSkip next mid rest more → IsSkip (λ cs. skip_first BufferCount n cs >>= next) bs rest more
skip_both n bs mid rest more next h k =
    let fits = first_fits BufferCount n bs mid h in
    let long : length mid ≡ length bs - n = ap length fits.1 ∙ length-drop n bs in
    record {
      count = n + k.count;
      within = omega (arith, long, fits.0, k.within);
      is = k.is ∙ ap (drop k.count) fits.1 ∙ drop-drop k.count n bs;
      alike = λ cs e.
          let first : skip_first BufferCount n cs ≡ Ok (drop n cs) = first_skips BufferCount n cs (omega (arith, e, fits.0)) in
          let same : length mid ≡ length (drop n cs) = long ∙ ap (λ (j : ℕ). j - n) e ∙ sym (length-drop n cs) in
          rw (first, k.alike (drop n cs) same, drop-drop k.count n cs) refl;
    }

views_skip : (n : ℕ) (more others : List ℤ) (bs rest : List BufferSpec) → skipped_views n more bs ≡ Ok (rest, others) → IsSkip (skipped_views n more) bs rest others
unfolding skipped_views
views_skip zero more others bs rest h =
    let e = same_value {A = List BufferSpec × List ℤ} (bs, more) (rest, others) h in
    record {
      count = 0;
      within = omega arith;
      is = sym (ap (λ (x : List BufferSpec × List ℤ). x.0) e);
      alike = λ cs same. ap (λ (ms : List ℤ). Ok (cs, ms)) (ap (λ (x : List BufferSpec × List ℤ). x.1) e);
    }
views_skip (suc n) [] others bs rest h = cc
views_skip (suc n) (c ∷ more) others bs rest h =
    let size = passed (spec_non_negative BufferCount c) (λ size. skip_first BufferCount size bs >>= skipped_views n more) (rest, others) h in
    let mid = passed (skip_first BufferCount size.0 bs) (skipped_views n more) (rest, others) size.2 in
    let all = skip_both size.0 bs mid.0 rest others (skipped_views n more) mid.1 (views_skip n more others mid.0 rest mid.2) in
    record { count = all.count; within = all.within; is = all.is; alike = λ cs e. ap (λ (r : Result ℕ IpcReadError). r >>= λ k. skip_first BufferCount k cs >>= skipped_views n more) size.1 ∙ all.alike cs e }

column_skip : (p : SkippedField) (more others : List ℤ) (bs rest : List BufferSpec) → column_skipped p more bs ≡ Ok (rest, others) → IsSkip (column_skipped p more) bs rest others
unfolding column_skipped
column_skip p more others bs rest h =
    let mid = passed (skip_first BufferCount p.buffers bs) (skipped_views p.views more) (rest, others) h in
    skip_both p.buffers bs mid.0 rest others (skipped_views p.views more) mid.1 (views_skip p.views more others mid.0 rest mid.2)

regrouped : {A B C : Type 0} (r : Result A IpcReadError) (f : A → Result B IpcReadError) (g : B → Result C IpcReadError) → (r >>= λ x. f x >>= g) ≡ ((r >>= f) >>= g)
regrouped (Ok x) f g = refl
regrouped (Err e) f g = refl

then_alike : {A B : Type 0} (r : Result A IpcReadError) (f g : A → Result B IpcReadError) → ((x : A) → f x ≡ g x) → (r >>= f) ≡ (r >>= g)
then_alike (Ok x) f g same = same x
then_alike (Err e) f g same = refl

abbrev state : Rest → List BufferSpec → List ℤ → List FieldNode → ProjectionState
state rest buffers more nodes = record { rest = record { nodes = nodes; buffers = buffers; dictionaries = rest.dictionaries }; more = more }

abbrev views_state : Rest → List FieldNode → List BufferSpec × List ℤ → Result ProjectionState IpcReadError
views_state rest nodes views = Ok (state rest views.0 views.1 nodes)

-- a column is skipped if its nodes are
skipped_is : (p : SkippedField) (r : Rest) (more others : List ℤ) (rest : List BufferSpec) → column_skipped p more r.buffers ≡ Ok (rest, others)
    → skipped_column p (record { rest = r; more = more }) ≡ (skip_first NodeCount p.nodes r.nodes >>= λ nodes. Ok (state r rest others nodes))
unfolding skipped_column column_skipped
skipped_is p r more others rest h =
    then_alike (skip_first NodeCount p.nodes r.nodes) (λ nodes. skip_first BufferCount p.buffers r.buffers >>= λ buffers. skipped_views p.views more buffers >>= views_state r nodes) (λ nodes. Ok (state r rest others nodes))
    (λ nodes. regrouped (skip_first BufferCount p.buffers r.buffers) (skipped_views p.views more) (views_state r nodes) ∙ ap (λ (views : Result (List BufferSpec × List ℤ) IpcReadError). views >>= views_state r nodes) h)

-- ---- the steps of a projection

flags_are : (bs rest : List BufferSpec) (n : ℕ) (flag : Bool) → n ≤ length bs → rest ≡ drop n bs → flags bs rest flag ≡ replicate n flag
flags_are bs rest n flag le is =
    let k : length bs - length rest ≡ n = omega (arith, ap length is, length-drop n bs, le) in
    ap (λ (j : ℕ). replicate j flag) k

abbrev Columns : Type 0
Columns = Outcome (List Layout)

-- one error, or the same columns; then the same nodes and as many buffers remain
abbrev SameColumns : Columns → Columns → Type 0
SameColumns (Ok x) (Ok y) = (x.0 ≡ y.0) × (x.1.nodes ≡ y.1.nodes) × (length x.1.buffers ≡ length y.1.buffers)
SameColumns (Ok x) (Err f) = ⊥
SameColumns (Err e) (Ok y) = ⊥
SameColumns (Err e) (Err f) = e ≡ f

with_first : (a b : Layout) (p q : Columns) → a ≡ b → SameColumns p q → SameColumns (p >>= λ xs. Ok (a ∷ xs.0, xs.1)) (q >>= λ ys. Ok (b ∷ ys.0, ys.1))
with_first a b (Ok x) (Ok y) e same = (ap (λ (z : Layout). z ∷ x.0) e ∙ ap (λ (zs : List Layout). b ∷ zs) same.0, same.1, same.2)
with_first a b (Ok x) (Err f) e same = absurd same
with_first a b (Err f) (Ok y) e same = absurd same
with_first a b (Err f) (Err g) e same = same

nodes_then : (first : Result (List FieldNode) IpcReadError) (f g : List FieldNode → Columns) → ((nodes : List FieldNode) → SameColumns (f nodes) (g nodes)) → SameColumns (first >>= f) (first >>= g)
nodes_then (Ok nodes) f g same = same nodes
nodes_then (Err e) f g same = refl

module _ (rows : ℕ) (body other : List ℕ) where
  column_then : (n : ℕ) (needed : List Bool) (bs : List BufferSpec) (p q : Outcome Layout) (f g : Rest → Columns) → Agree body other n needed bs p q → ((u v : Rest) → u.buffers ≡ drop n bs → IsAlike body other needed u v → SameColumns (f u) (g v))
      → SameColumns (p >>= λ x. f x.1 >>= λ xs. Ok (x.0 ∷ xs.0, xs.1)) (q >>= λ y. g y.1 >>= λ ys. Ok (y.0 ∷ ys.0, ys.1))
  column_then n needed bs (Ok x) (Ok y) f g agree next = with_first x.0 y.0 (f x.1) (g y.1) agree.0 (next x.1 y.1 agree.2 agree.1)
  column_then n needed bs (Ok x) (Err e) f g agree next = absurd agree
  column_then n needed bs (Err e) (Ok y) f g agree next = absurd agree
  column_then n needed bs (Err e) (Err h) f g agree next = agree

  none_left : (needed : List Bool) (r s : Rest) → IsAlike body other needed r s → SameColumns (Ok ([], r)) (Ok ([], s))
  none_left needed r s is = (refl, is.nodes, alike_long body other needed r.buffers s.buffers is.buffers)

  steps_agree : (steps : List FieldAction) (columns : List TypeTree) (more : List ℤ) (needed : List Bool) (r s : Rest) → spec_needed_buffers steps columns more r.buffers ≡ Ok needed → IsAlike body other needed r s
      → SameColumns (decoded_steps steps columns rows body (record { rest = r; more = more })) (decoded_steps steps columns rows other (record { rest = s; more = more }))
  unfolding decoded_steps spec_needed_buffers
  steps_agree [] columns more needed r s h is = none_left needed r s is
  steps_agree (Skip p ∷ steps) columns more needed r s h is =
      let skip = passed (column_skipped p more r.buffers) (λ rest. spec_needed_buffers steps columns rest.1 rest.0 >>= λ others. Ok (flags r.buffers rest.0 false ++ others)) needed h in
      let rest : List BufferSpec = skip.0.0 in
      let more' : List ℤ = skip.0.1 in
      let others = passed (spec_needed_buffers steps columns more' rest) (λ others. Ok (flags r.buffers rest false ++ others)) needed skip.2 in
      let k : IsSkip (column_skipped p more) r.buffers rest more' = column_skip p more more' r.buffers rest skip.1 in
      let flagged : needed ≡ replicate k.count false ++ others.0 = sym (same_value (flags r.buffers rest false ++ others.0) needed others.2) ∙ ap (λ (fs : List Bool). fs ++ others.0) (flags_are r.buffers rest k.count false k.within k.is) in
      let rest' : List BufferSpec = drop k.count s.buffers in
      let behind : AreAlike body other others.0 rest rest' =
      subst (λ (bs : List BufferSpec). AreAlike body other others.0 bs rest') (sym k.is) (alike_behind body other k.count others.0 r.buffers s.buffers k.within (subst (λ (fs : List Bool). AreAlike body other fs r.buffers s.buffers) flagged is.buffers)) in
      let there : column_skipped p more s.buffers ≡ Ok (rest', more') = k.alike s.buffers (alike_long body other needed r.buffers s.buffers is.buffers) in
      let f : List FieldNode → Columns = λ nodes. decoded_steps steps columns rows body (state r rest more' nodes) in
      let g : List FieldNode → Columns = λ nodes. decoded_steps steps columns rows other (state s rest' more' nodes) in
      let both : SameColumns (skip_first NodeCount p.nodes r.nodes >>= f) (skip_first NodeCount p.nodes s.nodes >>= g) =
      subst (λ (nodes : List FieldNode). SameColumns (skip_first NodeCount p.nodes r.nodes >>= f) (skip_first NodeCount p.nodes nodes >>= g)) is.nodes
      (nodes_then (skip_first NodeCount p.nodes r.nodes) f g (λ nodes. steps_agree steps columns more' others.0 (state r rest more' nodes).rest (state s rest' more' nodes).rest others.1 (record { nodes = refl; buffers = behind; dictionaries = is.dictionaries }))) in
      let one : (skipped_column p (record { rest = r; more = more }) >>= decoded_steps steps columns rows body) ≡ (skip_first NodeCount p.nodes r.nodes >>= f) =
      ap (λ (x : Result ProjectionState IpcReadError). x >>= decoded_steps steps columns rows body) (skipped_is p r more more' rest skip.1) ∙ sym (regrouped (skip_first NodeCount p.nodes r.nodes) (λ nodes. Ok (state r rest more' nodes)) (decoded_steps steps columns rows body)) in
      let two : (skipped_column p (record { rest = s; more = more }) >>= decoded_steps steps columns rows other) ≡ (skip_first NodeCount p.nodes s.nodes >>= g) =
      ap (λ (x : Result ProjectionState IpcReadError). x >>= decoded_steps steps columns rows other) (skipped_is p s more more' rest' there) ∙ sym (regrouped (skip_first NodeCount p.nodes s.nodes) (λ nodes. Ok (state s rest' more' nodes)) (decoded_steps steps columns rows other)) in
      subst (λ (x : Columns). SameColumns x (skipped_column p (record { rest = s; more = more }) >>= decoded_steps steps columns rows other)) (sym one) (subst (SameColumns (skip_first NodeCount p.nodes r.nodes >>= f)) (sym two) both)
  steps_agree (Read ∷ steps) [] more needed r s h is = none_left needed r s is
  steps_agree (Read ∷ steps) (t ∷ columns) more needed r s h is =
      let first = passed (array_skipped t r.buffers) (λ rest. spec_needed_buffers steps columns more rest >>= λ others. Ok (flags r.buffers rest true ++ others)) needed h in
      let rest : List BufferSpec = first.0 in
      let others = passed (spec_needed_buffers steps columns more rest) (λ others. Ok (flags r.buffers rest true ++ others)) needed first.2 in
      let n : ℕ = buffer_count t in
      let fits = array_fits t r.buffers rest first.1 in
      let flagged : needed ≡ replicate n true ++ others.0 = sym (same_value (flags r.buffers rest true ++ others.0) needed others.2) ∙ ap (λ (fs : List Bool). fs ++ others.0) (flags_are r.buffers rest n true fits.0 fits.1) in
      column_then n others.0 r.buffers (decoded_column t (Rows rows) body r) (decoded_column t (Rows rows) other s) (λ u. decoded_steps steps columns rows body (record { rest = u; more = more })) (λ v. decoded_steps steps columns rows other (record { rest = v; more = more }))
      (column_uses t (Rows rows) body other others.0 r s (subst (λ (fs : List Bool). IsAlike body other fs r s) flagged is))
      (λ u v left alike. steps_agree steps columns more others.0 u v (subst (λ (bs : List BufferSpec). spec_needed_buffers steps columns more bs ≡ Ok others.0) (fits.1 ∙ sym left) others.1) alike)

left_same : (r s : Rest) → r.nodes ≡ s.nodes → length r.buffers ≡ length s.buffers → checked_exhausted r ≡ checked_exhausted s
left_same r s nodes long = λ w. check (eqb (length (nodes w)) 0) NodeCount >>= λ none. check (eqb (long w) 0) BufferCount

all_same : (p q : Columns) → SameColumns p q → (p >>= λ xs. checked_exhausted xs.1 >>= λ all. Ok xs.0) ≡ (q >>= λ ys. checked_exhausted ys.1 >>= λ all. Ok ys.0)
all_same (Ok x) (Ok y) same =
    ap (λ (left : Result (Unit {0}) IpcReadError). left >>= λ all. Ok x.0) (left_same x.1 y.1 same.1 same.2) ∙ ap (λ (xs : List Layout). checked_exhausted y.1 >>= λ all. Ok xs) same.0
all_same (Ok x) (Err f) same = absurd same
all_same (Err e) (Ok y) same = absurd same
all_same (Err e) (Err f) same = ap (λ (g : IpcReadError). Err g) same

-- other bytes in buffers that are not needed make no difference
abbrev pub UnneededBuffersDoNotMatter : Type 0
UnneededBuffersDoNotMatter = (steps : List FieldAction) (columns : List TypeTree) (rows : ℕ) (body other : List ℕ) (ahead : ProjectionState) (buffers : List BufferSpec) (needed : List Bool)
    → spec_needed_buffers steps columns ahead.more ahead.rest.buffers ≡ Ok needed → AreAlike body other needed ahead.rest.buffers buffers
    → decoded_projection steps columns rows body ahead ≡ decoded_projection steps columns rows other (record { rest = record { nodes = ahead.rest.nodes; buffers = buffers; dictionaries = ahead.rest.dictionaries }; more = ahead.more })

pub unneeded_buffers_do_not_matter : UnneededBuffersDoNotMatter
unfolding decoded_projection
unneeded_buffers_do_not_matter steps columns rows body other ahead buffers needed h alike =
    let s : Rest = with_buffers ahead.rest buffers in
    all_same (decoded_steps steps columns rows body ahead) (decoded_steps steps columns rows other (record { rest = s; more = ahead.more }))
    (steps_agree rows body other steps columns ahead.more needed ahead.rest s h (record { nodes = refl; buffers = alike; dictionaries = refl }))
