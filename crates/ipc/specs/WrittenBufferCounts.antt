-- A written column has exactly the buffers of its data type, so that all buffers of a record batch are needed where every column is read.
use Rattle.std.proofs.Common.{◌≡◌, ℕ, ◌+◌, ◌-◌, ◌*◌, ◌≤◌, Bool, true, false, leb, List, [], ◌∷◌, ◌++◌, length, drop, map, replicate, Option, Some, None, Ok, refl, sym, ap, ◌∙◌, arith}
use Rattle.std.specs.Prelude.{ℤ, IsTrue}
use Rattle.std.specs.List.{AllByRecursion}
use Rattle.std.proofs.lemmas.Bool.{le-leb}
use Rattle.std.proofs.lemmas.List.{length-append, length-drop, replicate-append-replicate}
use Rattle.std.proofs.lemmas.List.Concat.{flat_map-cons}
use Rattle.ipc_flatbuf.specs.declared.batch.parts.BufferSpec.{BufferSpec}
use Rattle.nest_memory.specs.Physical.{physical_type, list_of_width, binary_of_width, utf8_of_width}
use Rattle.nest_memory.specs.TypeTree as types
use Rattle.nest_memory.specs.TypeTree.{TypeTree, FieldTrees, no_fields, more_fields, item_type, size_of, fields_of, is_dense}
use Rattle.nest_memory.specs.declared.datatypes.UnionMode.TheVariants.{Dense, Sparse}
use Rattle.nest_memory.specs.declared.datatypes.physical_type.PhysicalType.{PhysicalType}
use Rattle.nest_memory.specs.declared.datatypes.physical_type.PhysicalType.TheVariants as physical
use Rattle.nest_model.specs.Array.{IsArray, AreArrays, AreKeys}
use Rattle.nest_model.specs.Fits.{EachType, is_dictionary}
use Rattle.nest_model.specs.Layout.{Layout, Layouts, null, boolean, primitive, binary, utf8, fixed_size_binary, fixed_size_list, list as list_of, map as map_of, struct, union, dictionary, no_layouts, more_layouts, layout_type}
use Rattle.nest_model.specs.Meaning.{len}
use Rattle.nest_model.specs.Part.{begin}
use Rattle.ipc_arrays.specs.BufferCounts.{spec_flat_buffer_count, buffer_count, children_buffer_count, array_skipped}
use Rattle.ipc_arrays.specs.Projection.{skip_first, every_column}
use Rattle.ipc_arrays.specs.NeededBuffers.{spec_needed_buffers}
use Rattle.ipc_arrays.specs.Encoding.{normalized_slice, normalized, normalized_each, normalized_all, sparse_begin, own_buffers, preorder, preorder_all, buffers_of, written_arrays}

-- ---- by data type

abbrev is_flat_kind : PhysicalType → Bool
is_flat_kind physical.List = false
is_flat_kind physical.LargeList = false
is_flat_kind physical.FixedSizeList = false
is_flat_kind physical.Struct = false
is_flat_kind physical.Union = false
is_flat_kind physical.Map = false
is_flat_kind p = true

flat_count : (t : TypeTree) → is_flat_kind (physical_type t) ≡ true → buffer_count t ≡ spec_flat_buffer_count (physical_type t)
flat_count (types.extension x s m) h = flat_count s h
flat_count (types.list f) h = cc
flat_count (types.large_list f) h = cc
flat_count (types.fixed_size_list f n) h = cc
flat_count (types.map f b) h = cc
flat_count (types.struct fs) h = cc
flat_count (types.union fs ids mode) h = cc
flat_count t h = refl

kind_count : (t : TypeTree) (p : PhysicalType) → physical_type t ≡ p → is_flat_kind p ≡ true → buffer_count t ≡ spec_flat_buffer_count p
kind_count t p is flat = flat_count t (ap is_flat_kind is ∙ flat) ∙ ap spec_flat_buffer_count is

binary_count : (large : Bool) (t : TypeTree) → physical_type t ≡ binary_of_width large → buffer_count t ≡ 3
binary_count true t is = kind_count t physical.LargeBinary is refl
binary_count false t is = kind_count t physical.Binary is refl

utf8_count : (large : Bool) (t : TypeTree) → physical_type t ≡ utf8_of_width large → buffer_count t ≡ 3
utf8_count true t is = kind_count t physical.LargeUtf8 is refl
utf8_count false t is = kind_count t physical.Utf8 is refl

dictionary_count : (t : TypeTree) → IsTrue (is_dictionary t) → buffer_count t ≡ 2
dictionary_count (types.extension x s m) h = dictionary_count s h
dictionary_count (types.dictionary k v o) h = refl
dictionary_count t h = cc

-- a list has its own buffers and those of its items
abbrev own_count : PhysicalType → ℕ
own_count physical.FixedSizeList = 1
own_count p = 2

item_is : (s u : TypeTree) → ◌≡◌ {A = Option TypeTree} (Some s) (Some u) → s ≡ u
item_is s u h = cc

no_item : (u : TypeTree) → ◌≡◌ {A = Option TypeTree} None (Some u) → ⊥
no_item u h = cc

item_count : (t u : TypeTree) → item_type t ≡ Some u → buffer_count t ≡ own_count (physical_type t) + buffer_count u
item_count (types.extension x s m) u h = item_count s u h
item_count (types.list (types.field x s b es)) u h = ap (λ (v : TypeTree). 2 + buffer_count v) (item_is s u h)
item_count (types.large_list (types.field x s b es)) u h = ap (λ (v : TypeTree). 2 + buffer_count v) (item_is s u h)
item_count (types.map (types.field x s b es) sorted) u h = ap (λ (v : TypeTree). 2 + buffer_count v) (item_is s u h)
item_count (types.fixed_size_list (types.field x s b es) n) u h = ap (λ (v : TypeTree). 1 + buffer_count v) (item_is s u h)
item_count t u h = absurd (no_item u h)

list_own : (large : Bool) (t : TypeTree) → physical_type t ≡ list_of_width large → own_count (physical_type t) ≡ 2
list_own true t is = ap own_count is
list_own false t is = ap own_count is

struct_count : (t : TypeTree) → physical_type t ≡ physical.Struct → buffer_count t ≡ 1 + children_buffer_count (fields_of t)
struct_count (types.extension x s m) h = struct_count s h
struct_count (types.struct fs) h = refl
struct_count t h = cc

abbrev union_own : Bool → ℕ
union_own true = 2
union_own false = 1

union_count : (t : TypeTree) → physical_type t ≡ physical.Union → buffer_count t ≡ union_own (is_dense t) + children_buffer_count (fields_of t)
union_count (types.extension x s m) h = union_count s h
union_count (types.union fs ids Dense) h = refl
union_count (types.union fs ids Sparse) h = refl
union_count t h = cc

-- ---- by array

abbrev count_of : List Layout → ℕ
count_of arrays = length (buffers_of arrays)

none_count : count_of [] ≡ 0
unfolding buffers_of
none_count = refl

more_count : (a : Layout) (arrays : List Layout) → count_of (a ∷ arrays) ≡ length (own_buffers a) + count_of arrays
unfolding buffers_of
more_count a arrays = ap length (flat_map-cons own_buffers a arrays) ∙ length-append (own_buffers a) (buffers_of arrays)

both_count : (front rest : List Layout) → count_of (front ++ rest) ≡ count_of front + count_of rest
both_count [] rest = let none = none_count in omega arith
both_count (a ∷ front) rest =
    let one = more_count a (front ++ rest) in
    let other = more_count a front in
    let more = both_count front rest in
    omega arith

one_count : (a : Layout) (n : ℕ) → length (own_buffers a) ≡ n → count_of (a ∷ []) ≡ n
one_count a n long =
    let one = more_count a [] in
    let none = none_count in
    omega arith

two_keys : (t : TypeTree) (ks c : Layout) (o n : ℕ) → AreKeys ks → count_of (preorder (normalized_slice (dictionary t ks c) o n)) ≡ 2
two_keys t (primitive k u values va) c o n keys = one_count (normalized_slice (dictionary t (primitive k u values va) c) o n) 2 refl
two_keys t ks c o n keys = absurd keys

mutual
  counts : (a : Layout) (o n : ℕ) → IsArray a → count_of (preorder (normalized_slice a o n)) ≡ buffer_count (layout_type a)
  counts (null t m) o n is = one_count (normalized_slice (null t m) o n) 0 refl ∙ sym (kind_count t physical.Null is.0.1.0 refl)
  counts (boolean t bits va) o n is = one_count (normalized_slice (boolean t bits va) o n) 2 refl ∙ sym (kind_count t physical.Boolean is.0.1.1.0 refl)
  counts (primitive k t values va) o n is = one_count (normalized_slice (primitive k t values va) o n) 2 refl ∙ sym (kind_count t (physical.Primitive k) is.0.1.1.0 refl)
  counts (binary large t os bs va) o n is = one_count (normalized_slice (binary large t os bs va) o n) 3 refl ∙ sym (binary_count large t is.0.1.1.1.0)
  counts (utf8 large t os bs va) o n is = one_count (normalized_slice (utf8 large t os bs va) o n) 3 refl ∙ sym (utf8_count large t is.0.1.1.1.1.0)
  counts (fixed_size_binary t bs va) o n is = one_count (normalized_slice (fixed_size_binary t bs va) o n) 2 refl ∙ sym (kind_count t physical.FixedSizeBinary is.0.1.0 refl)
  counts (dictionary t ks c) o n is = two_keys t ks c o n is.0.0 ∙ sym (dictionary_count t is.0.1.0)
  counts (fixed_size_list t c va) o n is =
      let below = counts c (o * size_of t) (n * size_of t) is.1 in
      let own : own_count (physical_type t) ≡ 1 = ap own_count is.0.1.0 in
      more_count (normalized_slice (fixed_size_list t c va) o n) (preorder (normalized_slice c (o * size_of t) (n * size_of t))) ∙ ap (λ (k : ℕ). 1 + k) below ∙ ap (λ (k : ℕ). k + buffer_count (layout_type c)) (sym own) ∙ sym (item_count t (layout_type c) is.0.1.1.1.0)
  counts (list_of large t os c va) o n is =
      let below = counts c (begin os o) (begin os (o + n) - begin os o) is.1 in
      let own : own_count (physical_type t) ≡ 2 = list_own large t is.0.1.1.1.0 in
      more_count (normalized_slice (list_of large t os c va) o n) (preorder (normalized_slice c (begin os o) (begin os (o + n) - begin os o))) ∙ ap (λ (k : ℕ). 2 + k) below ∙ ap (λ (k : ℕ). k + buffer_count (layout_type c)) (sym own) ∙ sym (item_count t (layout_type c) is.0.1.1.1.1.0)
  counts (map_of t os c va) o n is =
      let below = counts c (begin os o) (begin os (o + n) - begin os o) is.1 in
      let own : own_count (physical_type t) ≡ 2 = ap own_count is.0.1.1.0 in
      more_count (normalized_slice (map_of t os c va) o n) (preorder (normalized_slice c (begin os o) (begin os (o + n) - begin os o))) ∙ ap (λ (k : ℕ). 2 + k) below ∙ ap (λ (k : ℕ). k + buffer_count (layout_type c)) (sym own) ∙ sym (item_count t (layout_type c) is.0.1.1.1.1.0)
  counts (struct t cs va) o n is =
      more_count (normalized_slice (struct t cs va) o n) (preorder_all (normalized_each cs o n)) ∙ ap (λ (k : ℕ). 1 + k) (each_counts (fields_of t) cs o n is.0.1.1.1.1.0 is.1) ∙ sym (struct_count t is.0.1.0)
  counts (union t ks cs None start) o n is =
      let own : union_own (is_dense t) ≡ 1 = ap union_own is.0.1.1.1.1.1.1.0 in
      more_count (normalized_slice (union t ks cs None start) o n) (preorder_all (normalized_each cs (sparse_begin start o n) n)) ∙ ap (λ (k : ℕ). 1 + k) (each_counts (fields_of t) cs (sparse_begin start o n) n is.0.1.1.1.1.0 is.1)
      ∙ ap (λ (k : ℕ). k + children_buffer_count (fields_of t)) (sym own) ∙ sym (union_count t is.0.1.0)
  counts (union t ks cs (Some os) start) o n is =
      let own : union_own (is_dense t) ≡ 2 = ap union_own is.0.1.1.1.1.1.1.0 in
      more_count (normalized_slice (union t ks cs (Some os) start) o n) (preorder_all (normalized_all cs)) ∙ ap (λ (k : ℕ). 2 + k) (all_counts (fields_of t) cs is.0.1.1.1.1.0 is.1)
      ∙ ap (λ (k : ℕ). k + children_buffer_count (fields_of t)) (sym own) ∙ sym (union_count t is.0.1.0)

  each_counts : (fs : FieldTrees) (cs : Layouts) (o n : ℕ) → EachType fs cs → AreArrays cs → count_of (preorder_all (normalized_each cs o n)) ≡ children_buffer_count fs
  each_counts no_fields no_layouts o n typed are = none_count
  each_counts no_fields (more_layouts c cs) o n typed are = absurd typed
  each_counts (more_fields f fs) no_layouts o n typed are = absurd typed
  each_counts (more_fields (types.field x s b es) fs) (more_layouts c cs) o n typed are =
      let first : count_of (preorder (normalized_slice c o n)) ≡ buffer_count s = counts c o n are.0 ∙ ap buffer_count typed.0 in
      let others = each_counts fs cs o n typed.1 are.1 in
      both_count (preorder (normalized_slice c o n)) (preorder_all (normalized_each cs o n)) ∙ (λ w. first w + others w)

  all_counts : (fs : FieldTrees) (cs : Layouts) → EachType fs cs → AreArrays cs → count_of (preorder_all (normalized_all cs)) ≡ children_buffer_count fs
  all_counts no_fields no_layouts typed are = none_count
  all_counts no_fields (more_layouts c cs) typed are = absurd typed
  all_counts (more_fields f fs) no_layouts typed are = absurd typed
  all_counts (more_fields (types.field x s b es) fs) (more_layouts c cs) typed are =
      let first : count_of (preorder (normalized_slice c 0 (len c))) ≡ buffer_count s = counts c 0 (len c) are.0 ∙ ap buffer_count typed.0 in
      let others = all_counts fs cs typed.1 are.1 in
      both_count (preorder (normalized_slice c 0 (len c))) (preorder_all (normalized_all cs)) ∙ (λ w. first w + others w)

-- ---- all buffers are needed

column_taken : (t : TypeTree) (buffers : List BufferSpec) → buffer_count t ≤ length buffers → array_skipped t buffers ≡ Ok (drop (buffer_count t) buffers)
unfolding array_skipped skip_first
column_taken t buffers le = let fits : leb (buffer_count t) (length buffers) ≡ true = le-leb _ _ le in rw fits refl

pub all_are_needed : (columns : List Layout) (buffers : List BufferSpec) (more : List ℤ) → AllByRecursion IsArray columns → length buffers ≡ length (buffers_of (written_arrays columns)) → spec_needed_buffers (every_column (map layout_type columns)) (map layout_type columns) more buffers ≡ Ok (replicate (length buffers) true)
unfolding spec_needed_buffers
all_are_needed [] buffers more are long =
    let none : length buffers ≡ 0 = long ∙ unfold written_arrays in none_count in
    ap (λ (k : ℕ). Ok (replicate k true)) (sym none)
all_are_needed (a ∷ columns) buffers more are long =
    let k : ℕ = buffer_count (layout_type a) in
    let rest : List BufferSpec = drop k buffers in
    let all : written_arrays (a ∷ columns) ≡ preorder (normalized a) ++ written_arrays columns = unfold written_arrays in flat_map-cons (λ (x : Layout). preorder (normalized x)) a columns in
    let both : length buffers ≡ k + length (buffers_of (written_arrays columns)) = long ∙ ap count_of all ∙ both_count (preorder (normalized a)) (written_arrays columns) ∙ ap (λ (n : ℕ). n + count_of (written_arrays columns)) (counts a 0 (len a) are.0) in
    let few : length rest ≡ length (buffers_of (written_arrays columns)) = omega (arith, length-drop k buffers, both) in
    let taken : array_skipped (layout_type a) buffers ≡ Ok rest = column_taken (layout_type a) buffers (omega (arith, both)) in
    let own : length buffers - length rest ≡ k = omega (arith, both, few) in
    let others = all_are_needed columns rest more are.1 few in
    let total : replicate k true ++ replicate (length rest) true ≡ replicate (length buffers) true = replicate-append-replicate k (length rest) true ∙ ap (λ (n : ℕ). replicate n true) (omega (arith, both, few)) in
    rw (taken, others, own) (ap (λ (fs : List Bool). Ok fs) total)
