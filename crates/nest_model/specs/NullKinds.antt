-- Null and empty arrays by the kind of their data type, ignoring extensions: parts, errors and depth of the type.
use Rattle.std.specs.Prelude.{Option, Some, None, replicate, not, ◌&&◌, nat_eq, nat_lt}
use Rattle.std.proofs.Common.{◌≡◌, ℕ, suc, ◌+◌, ◌*◌, ◌<◌, ◌≤◌, ℤ, Bool, true, false, List, [], refl, ap, ◌∙◌, arith}
use Rattle.nest_memory.specs.declared.datatypes.IntegerType.{IntegerType}
use Rattle.nest_memory.specs.declared.datatypes.IntervalUnit.TheVariants.{YearMonth, DayTime, MonthDayNano}
use Rattle.nest_memory.specs.declared.datatypes.UnionMode.{UnionMode}
use Rattle.nest_memory.specs.declared.datatypes.physical_type.PhysicalType.{PhysicalType}
use Rattle.nest_memory.specs.declared.datatypes.physical_type.PhysicalType.TheVariants as physical
use Rattle.nest_memory.specs.declared.datatypes.physical_type.PrimitiveType.{PrimitiveType}
use Rattle.nest_memory.specs.declared.error.Error.{Error}
use Rattle.nest_memory.specs.declared.error.Error.TheVariants.{OutOfSpec, InvalidArgumentError, Overflow}
use Rattle.nest_memory.specs.declared.error.SpecError.TheVariants as spec
use Rattle.nest_memory.specs.declared.error.ArgumentError.TheVariants as argument
use Rattle.nest_memory.specs.Physical.{physical_type, list_of_width, binary_of_width, utf8_of_width}
use Rattle.nest_memory.specs.TypeTree as types
use Rattle.nest_memory.specs.TypeTree.{TypeTree, FieldTree, field, FieldTrees, no_fields, more_fields, field_type, count_fields, item_type, size_of, fields_of, ids_of, mode_of, is_dense_mode, has_pairs, is_pair, key_type, value_type}
use Rattle.nest_model.specs.declared.fill.Fill.{Fill}
use Rattle.nest_model.specs.declared.fill.Fill.TheVariants.{Nothing}
use Rattle.nest_model.specs.Checks.{refuse_if, first_of, is_past, most_fields, most_picks}
use Rattle.nest_model.specs.Layout as layouts
use Rattle.nest_model.specs.Accessors.{with_type}
use Rattle.nest_model.specs.Slot as slots
use Rattle.nest_model.specs.Nulls.{null_slot, values_below, ids_count_differs, has_bad_id, error_of, fields_error, float_error, union_error}
use Rattle.nest_model.specs.NullLayout.{none_valid, native_of_key, type_of_key, native_nulls, flat_nulls, null_type, null_offsets, null_array, null_children}

-- A weight of data types. A data type weighs more than each of its children, so recursion on it ends.
abbrev mutual
  pub type_weight : TypeTree → ℕ
  type_weight (types.list f) = suc (field_weight f)
  type_weight (types.large_list f) = suc (field_weight f)
  type_weight (types.fixed_size_list f s) = suc (field_weight f)
  type_weight (types.map f b) = suc (field_weight f)
  type_weight (types.struct fs) = suc (fields_weight fs)
  type_weight (types.union fs ids mode) = suc (fields_weight fs)
  type_weight (types.dictionary k t b) = suc (type_weight t)
  type_weight (types.extension x t m) = suc (type_weight t)
  type_weight t = 0

  pub field_weight : FieldTree → ℕ
  field_weight (field x t b es) = type_weight t

  pub fields_weight : FieldTrees → ℕ
  fields_weight no_fields = 0
  fields_weight (more_fields f fs) = suc (field_weight f + fields_weight fs)

pub field-weight : (f : FieldTree) → type_weight (field_type f) ≡ field_weight f
field-weight (field x t b es) = refl

pub item-lighter : (t u : TypeTree) → item_type t ≡ Some u → type_weight u < type_weight t
item-lighter (types.list f) u h = let e : field_type f ≡ u = cc in omega (arith, field-weight f, ap type_weight e)
item-lighter (types.large_list f) u h = let e : field_type f ≡ u = cc in omega (arith, field-weight f, ap type_weight e)
item-lighter (types.fixed_size_list f s) u h = let e : field_type f ≡ u = cc in omega (arith, field-weight f, ap type_weight e)
item-lighter (types.map f b) u h = let e : field_type f ≡ u = cc in omega (arith, field-weight f, ap type_weight e)
item-lighter (types.extension x t m) u h = let l = item-lighter t u h in omega arith
item-lighter t u h = cc

pub value-lighter : (t u : TypeTree) → value_type t ≡ Some u → type_weight u < type_weight t
value-lighter (types.dictionary k v b) u h = let e : v ≡ u = cc in omega (arith, ap type_weight e)
value-lighter (types.extension x t m) u h = let l = value-lighter t u h in omega arith
value-lighter t u h = cc

pub fields-lighter : (t : TypeTree) → fields_weight (fields_of t) ≤ type_weight t
fields-lighter (types.struct fs) = omega arith
fields-lighter (types.union fs ids mode) = omega arith
fields-lighter (types.extension x t m) = let l = fields-lighter t in omega arith
fields-lighter t = omega arith

-- Parts.
pub null-parts : (t : TypeTree) (n : ℕ) (d : Fill) → physical_type t ≡ physical.Null → null_array t n d ≡ layouts.null t n
null-parts types.null n d h = refl
null-parts (types.extension x t m) n d h = ap (λ a. with_type a (types.extension x t m)) (null-parts t n d h)
null-parts t n d h = cc

pub boolean-parts : (t : TypeTree) (n : ℕ) (d : Fill) → physical_type t ≡ physical.Boolean → null_array t n d ≡ layouts.boolean t (replicate n false) (none_valid d n)
boolean-parts types.boolean n d h = refl
boolean-parts (types.extension x t m) n d h = ap (λ a. with_type a (types.extension x t m)) (boolean-parts t n d h)
boolean-parts t n d h = cc

pub native-parts : (k : PrimitiveType) (t : TypeTree) (n : ℕ) (d : Fill) → physical_type t ≡ physical.Primitive k → null_array t n d ≡ native_nulls k t n d
native-parts k types.binary n d h = cc
native-parts k types.large_binary n d h = cc
native-parts k types.utf8 n d h = cc
native-parts k types.large_utf8 n d h = cc
native-parts k (types.fixed_size_binary s) n d h = cc
native-parts k (types.list f) n d h = cc
native-parts k (types.large_list f) n d h = cc
native-parts k (types.fixed_size_list f s) n d h = cc
native-parts k (types.map f b) n d h = cc
native-parts k (types.struct fs) n d h = cc
native-parts k (types.union fs ids mode) n d h = cc
native-parts k (types.dictionary j t b) n d h = cc
native-parts k (types.extension x t m) n d h = ap (λ a. with_type a (types.extension x t m)) (native-parts k t n d h)
native-parts k t n d h = ap (λ p. flat_nulls p t n d) h

pub binary-parts : (large : Bool) (t : TypeTree) (n : ℕ) (d : Fill) → physical_type t ≡ binary_of_width large → null_array t n d ≡ layouts.binary large t (replicate (suc n) 0) [] (none_valid d n)
binary-parts false types.binary n d h = refl
binary-parts true types.large_binary n d h = refl
binary-parts large (types.extension x t m) n d h = ap (λ a. with_type a (types.extension x t m)) (binary-parts large t n d h)
binary-parts false t n d h = cc
binary-parts true t n d h = cc

pub text-parts : (large : Bool) (t : TypeTree) (n : ℕ) (d : Fill) → physical_type t ≡ utf8_of_width large → null_array t n d ≡ layouts.utf8 large t (replicate (suc n) 0) [] (none_valid d n)
text-parts false types.utf8 n d h = refl
text-parts true types.large_utf8 n d h = refl
text-parts large (types.extension x t m) n d h = ap (λ a. with_type a (types.extension x t m)) (text-parts large t n d h)
text-parts false t n d h = cc
text-parts true t n d h = cc

pub bytes-parts : (t : TypeTree) (n : ℕ) (d : Fill) → physical_type t ≡ physical.FixedSizeBinary → null_array t n d ≡ layouts.fixed_size_binary t (replicate (n * size_of t) 0) (none_valid d n)
bytes-parts (types.fixed_size_binary s) n d h = refl
bytes-parts (types.extension x t m) n d h = ap (λ a. with_type a (types.extension x t m)) (bytes-parts t n d h)
bytes-parts t n d h = cc

pub list-parts : (large : Bool) (t u : TypeTree) (n : ℕ) (d : Fill) → physical_type t ≡ list_of_width large → item_type t ≡ Some u → null_array t n d ≡ layouts.list large t (replicate (suc n) 0) (null_array u 0 Nothing) (none_valid d n)
list-parts false (types.list (field x v b es)) u n d h e = let q : v ≡ u = cc in ap (λ w. layouts.list false (types.list (field x v b es)) (replicate (suc n) 0) (null_array w 0 Nothing) (none_valid d n)) q
list-parts true (types.large_list (field x v b es)) u n d h e = let q : v ≡ u = cc in ap (λ w. layouts.list true (types.large_list (field x v b es)) (replicate (suc n) 0) (null_array w 0 Nothing) (none_valid d n)) q
list-parts large (types.extension x t m) u n d h e = ap (λ a. with_type a (types.extension x t m)) (list-parts large t u n d h e)
list-parts false t u n d h e = cc
list-parts true t u n d h e = cc

pub sized-parts : (t u : TypeTree) (n : ℕ) (d : Fill) → physical_type t ≡ physical.FixedSizeList → item_type t ≡ Some u → null_array t n d ≡ layouts.fixed_size_list t (null_array u (n * size_of t) d) (none_valid d n)
sized-parts (types.fixed_size_list (field x v b es) s) u n d h e = let q : v ≡ u = cc in ap (λ w. layouts.fixed_size_list (types.fixed_size_list (field x v b es) s) (null_array w (n * s) d) (none_valid d n)) q
sized-parts (types.extension x t m) u n d h e = ap (λ a. with_type a (types.extension x t m)) (sized-parts t u n d h e)
sized-parts t u n d h e = cc

pub map-parts : (t u : TypeTree) (n : ℕ) (d : Fill) → physical_type t ≡ physical.Map → item_type t ≡ Some u → null_array t n d ≡ layouts.map t (replicate (suc n) 0) (null_array u 0 Nothing) (none_valid d n)
map-parts (types.map (field x v b es) s) u n d h e = let q : v ≡ u = cc in ap (λ w. layouts.map (types.map (field x v b es) s) (replicate (suc n) 0) (null_array w 0 Nothing) (none_valid d n)) q
map-parts (types.extension x t m) u n d h e = ap (λ a. with_type a (types.extension x t m)) (map-parts t u n d h e)
map-parts t u n d h e = cc

pub struct-parts : (t : TypeTree) (n : ℕ) (d : Fill) → physical_type t ≡ physical.Struct → null_array t n d ≡ layouts.struct t (null_children (fields_of t) n d) (none_valid d n)
struct-parts (types.struct fs) n d h = refl
struct-parts (types.extension x t m) n d h = ap (λ a. with_type a (types.extension x t m)) (struct-parts t n d h)
struct-parts t n d h = cc

pub union-parts : (t : TypeTree) (mode : UnionMode) (n : ℕ) (d : Fill) → mode_of t ≡ Some mode → null_array t n d ≡ layouts.union t (replicate n (null_type (ids_of t))) (null_children (fields_of t) n d) (null_offsets mode n) 0
union-parts (types.union fs ids m) mode n d e = let q : m ≡ mode = cc in ap (λ o. layouts.union (types.union fs ids m) (replicate n (null_type ids)) (null_children fs n d) (null_offsets o n) 0) q
union-parts (types.extension x t m) mode n d e = ap (λ a. with_type a (types.extension x t m)) (union-parts t mode n d e)
union-parts t mode n d e = cc

pub dictionary-parts : (t u : TypeTree) (k : IntegerType) (n : ℕ) (d : Fill) → key_type t ≡ Some k → value_type t ≡ Some u
    → null_array t n d ≡ layouts.dictionary t (native_nulls (native_of_key k) (type_of_key k) n d) (null_array u (values_below d) d)
dictionary-parts (types.dictionary j v b) u k n d h e =
    let p : j ≡ k = cc in
    let q : v ≡ u = cc in
    λ i. layouts.dictionary (types.dictionary j v b) (native_nulls (native_of_key (p i)) (type_of_key (p i)) n d) (null_array (q i) (values_below d) d)
dictionary-parts (types.extension x t m) u k n d h e = ap (λ a. with_type a (types.extension x t m)) (dictionary-parts t u k n d h e)
dictionary-parts t u k n d h e = cc

-- Kinds without a product of lengths and without children: nulls, Booleans, native values.
abbrev pub is_plain : PhysicalType → Bool
is_plain physical.Null = true
is_plain physical.Boolean = true
is_plain (physical.Primitive k) = true
is_plain p = false

pub plain-first_error : (t : TypeTree) (n : ℕ) (d : Fill) → is_plain (physical_type t) ≡ true → error_of t n d ≡ float_error (physical_type t)
plain-first_error (types.interval YearMonth) n d h = refl
plain-first_error (types.interval DayTime) n d h = refl
plain-first_error (types.interval MonthDayNano) n d h = refl
plain-first_error types.binary n d h = cc
plain-first_error types.large_binary n d h = cc
plain-first_error types.utf8 n d h = cc
plain-first_error types.large_utf8 n d h = cc
plain-first_error (types.fixed_size_binary s) n d h = cc
plain-first_error (types.list f) n d h = cc
plain-first_error (types.large_list f) n d h = cc
plain-first_error (types.fixed_size_list f s) n d h = cc
plain-first_error (types.map f b) n d h = cc
plain-first_error (types.struct fs) n d h = cc
plain-first_error (types.union fs ids mode) n d h = cc
plain-first_error (types.dictionary j t b) n d h = cc
plain-first_error (types.extension x t m) n d h = plain-first_error t n d h
plain-first_error t n d h = refl

pub binary-first_error : (large : Bool) (t : TypeTree) (n : ℕ) (d : Fill) → physical_type t ≡ binary_of_width large → error_of t n d ≡ refuse_if (is_past (n + 1)) Overflow None
binary-first_error false types.binary n d h = refl
binary-first_error true types.large_binary n d h = refl
binary-first_error large (types.extension x t m) n d h = binary-first_error large t n d h
binary-first_error false t n d h = cc
binary-first_error true t n d h = cc

pub text-first_error : (large : Bool) (t : TypeTree) (n : ℕ) (d : Fill) → physical_type t ≡ utf8_of_width large → error_of t n d ≡ refuse_if (is_past (n + 1)) Overflow None
text-first_error false types.utf8 n d h = refl
text-first_error true types.large_utf8 n d h = refl
text-first_error large (types.extension x t m) n d h = text-first_error large t n d h
text-first_error false t n d h = cc
text-first_error true t n d h = cc

pub bytes-first_error : (t : TypeTree) (n : ℕ) (d : Fill) → physical_type t ≡ physical.FixedSizeBinary → error_of t n d ≡ refuse_if (nat_eq (size_of t) 0) (OutOfSpec spec.ZeroSize) (refuse_if (is_past (n * size_of t)) Overflow None)
bytes-first_error (types.fixed_size_binary s) n d h = refl
bytes-first_error (types.extension x t m) n d h = bytes-first_error t n d h
bytes-first_error t n d h = cc

pub list-first_error : (large : Bool) (t u : TypeTree) (n : ℕ) (d : Fill) → physical_type t ≡ list_of_width large → item_type t ≡ Some u → error_of t n d ≡ refuse_if (is_past (n + 1)) Overflow (error_of u 0 Nothing)
list-first_error false (types.list (field x v b es)) u n d h e = let q : v ≡ u = cc in ap (λ w. refuse_if (is_past (n + 1)) Overflow (error_of w 0 Nothing)) q
list-first_error true (types.large_list (field x v b es)) u n d h e = let q : v ≡ u = cc in ap (λ w. refuse_if (is_past (n + 1)) Overflow (error_of w 0 Nothing)) q
list-first_error large (types.extension x t m) u n d h e = list-first_error large t u n d h e
list-first_error false t u n d h e = cc
list-first_error true t u n d h e = cc

pub sized-first_error : (t u : TypeTree) (n : ℕ) (d : Fill) → physical_type t ≡ physical.FixedSizeList → item_type t ≡ Some u
    → error_of t n d ≡ refuse_if (nat_eq (size_of t) 0) (OutOfSpec spec.ZeroSize) (refuse_if (is_past (n * size_of t)) Overflow (error_of u (n * size_of t) d))
sized-first_error (types.fixed_size_list (field x v b es) s) u n d h e =
    let q : v ≡ u = cc in ap (λ w. refuse_if (nat_eq s 0) (OutOfSpec spec.ZeroSize) (refuse_if (is_past (n * s)) Overflow (error_of w (n * s) d))) q
sized-first_error (types.extension x t m) u n d h e = sized-first_error t u n d h e
sized-first_error t u n d h e = cc

pub map-first_error : (t u : TypeTree) (n : ℕ) (d : Fill) → physical_type t ≡ physical.Map → item_type t ≡ Some u
    → error_of t n d ≡ refuse_if (not (has_pairs t)) (InvalidArgumentError argument.MapInner) (refuse_if (is_past (n + 1)) Overflow (error_of u 0 Nothing))
map-first_error (types.map (field x v b es) s) u n d h e =
    let q : v ≡ u = cc in ap (λ w. refuse_if (not (is_pair v)) (InvalidArgumentError argument.MapInner) (refuse_if (is_past (n + 1)) Overflow (error_of w 0 Nothing))) q
map-first_error (types.extension x t m) u n d h e = map-first_error t u n d h e
map-first_error t u n d h e = cc

pub struct-first_error : (t : TypeTree) (n : ℕ) (d : Fill) → physical_type t ≡ physical.Struct → error_of t n d ≡ refuse_if (nat_eq (count_fields (fields_of t)) 0) (OutOfSpec spec.NoFields) (fields_error (fields_of t) n d)
struct-first_error (types.struct fs) n d h = refl
struct-first_error (types.extension x t m) n d h = struct-first_error t n d h
struct-first_error t n d h = cc

pub dictionary-first_error : (t u : TypeTree) (n : ℕ) (d : Fill) → value_type t ≡ Some u → error_of t n d ≡ error_of u (values_below d) d
dictionary-first_error (types.dictionary j v b) u n d e = let q : v ≡ u = cc in ap (λ w. error_of w (values_below d) d) q
dictionary-first_error (types.extension x t m) u n d e = dictionary-first_error t u n d e
dictionary-first_error t u n d e = cc

pub union-first_error : (t : TypeTree) (mode : UnionMode) (n : ℕ) (d : Fill) → mode_of t ≡ Some mode → error_of t n d ≡ union_error (count_fields (fields_of t)) (ids_of t) mode n (fields_error (fields_of t) n d)
union-first_error (types.union fs ids m) mode n d e = let q : m ≡ mode = cc in ap (λ o. union_error (count_fields fs) ids o n (fields_error fs n d)) q
union-first_error (types.extension x t m) mode n d e = union-first_error t mode n d e
union-first_error t mode n d e = cc

-- A data type's own error precedes those of its children.
first-refused : (b : Bool) (e : Error) (own rest : Option Error) → refuse_if b e (first_of own rest) ≡ first_of (refuse_if b e own) rest
first-refused true e own rest = refl
first-refused false e own rest = refl

pub union-own : (count : ℕ) (ids : Option (List ℤ)) (mode : UnionMode) (n : ℕ) (rest : Option Error) → union_error count ids mode n rest ≡ first_of (union_error count ids mode n None) rest
union-own count ids mode n rest =
    let e5 = first-refused (is_dense_mode mode && nat_lt most_picks n) Overflow None rest in
    let e4 = first-refused (nat_eq count 0 && nat_lt 0 n) (OutOfSpec spec.UnionType) _ rest in
    let e3 = first-refused (has_bad_id ids) (OutOfSpec spec.IdRange) _ rest in
    let e2 = first-refused (ids_count_differs ids count) (OutOfSpec spec.IdCount) _ rest in
    let e1 = first-refused (nat_lt most_fields count) (OutOfSpec spec.TooManyFields) _ rest in
    ap (λ o. refuse_if (nat_lt most_fields count) (OutOfSpec spec.TooManyFields) (refuse_if (ids_count_differs ids count) (OutOfSpec spec.IdCount) (refuse_if (has_bad_id ids) (OutOfSpec spec.IdRange) (refuse_if (nat_eq count 0 && nat_lt 0 n) (OutOfSpec spec.UnionType) o)))) e5
    ∙ ap (λ o. refuse_if (nat_lt most_fields count) (OutOfSpec spec.TooManyFields) (refuse_if (ids_count_differs ids count) (OutOfSpec spec.IdCount) (refuse_if (has_bad_id ids) (OutOfSpec spec.IdRange) o))) e4
    ∙ ap (λ o. refuse_if (nat_lt most_fields count) (OutOfSpec spec.TooManyFields) (refuse_if (ids_count_differs ids count) (OutOfSpec spec.IdCount) o)) e3
    ∙ ap (λ o. refuse_if (nat_lt most_fields count) (OutOfSpec spec.TooManyFields) o) e2
    ∙ e1

-- A null slot of any data type except unions is `Null`.
pub native-slot : (k : PrimitiveType) (t : TypeTree) → physical_type t ≡ physical.Primitive k → null_slot t ≡ slots.null
native-slot k (types.union fs ids mode) h = cc
native-slot k (types.extension x t m) h = native-slot k t h
native-slot k t h = refl
