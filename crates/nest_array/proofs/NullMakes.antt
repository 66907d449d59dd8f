-- What the constructors of null arrays require of data types without an error, by physical type.
use Rattle.std.specs.Prelude.{Some, None, IsSome, not, nat_eq, nat_lt, ◌&&◌, ◌^◌, List as Seq, [], ◌∷◌, get_or}
use Rattle.std.proofs.Common.{◌≡◌, ℕ, zero, suc, ◌+◌, ◌*◌, ◌<◌, ◌≤◌, Bool, true, false, List, length, refl, ap, sym, ◌∙◌, arith}
use Rattle.nest_memory.specs.Physical.{physical_type, list_of_width}
use Rattle.nest_memory.specs.TypeOf.{field_of, field_list_of}
use Rattle.nest_memory.specs.TypeTree as types
use Rattle.nest_memory.specs.TypeTree.{TypeTree, FieldTree, field, field_type, count_fields, item_type, size_of, fields_of, ids_of, mode_of, is_dense, is_dense_mode, is_pair, has_pairs, key_type, value_type}
use Rattle.nest_memory.specs.declared.datatypes.IntegerType.{IntegerType}
use Rattle.nest_memory.specs.declared.datatypes.UnionMode.{UnionMode}
use Rattle.nest_memory.specs.declared.datatypes.field.Field.{Field}
use Rattle.nest_memory.specs.declared.datatypes.physical_type.PhysicalType.TheVariants as physical
use Rattle.nest_memory.specs.declared.error.ArgumentError.TheVariants as argument
use Rattle.nest_memory.specs.declared.error.Error.TheVariants.{OutOfSpec, InvalidArgumentError, Overflow}
use Rattle.nest_memory.specs.declared.error.SpecError.TheVariants as spec
use Rattle.nest_model.specs.declared.fill.Fill.{Fill}
use Rattle.nest_model.specs.declared.fill.Fill.TheVariants.{Nothing}
use Rattle.nest_model.specs.Checks.{refuse_if, is_past, most_fields, most_picks}
use Rattle.nest_model.specs.Decide.{refuse-none, first-none}
use Rattle.nest_model.specs.Fits.{is_dictionary}
use Rattle.nest_model.specs.MadeNullLaws.{not-past}
use Rattle.nest_model.specs.NullKinds.{type_weight, field_weight, fields_weight, field-weight, list-first_error, sized-first_error, map-first_error, struct-first_error, dictionary-first_error}
use Rattle.nest_model.specs.NullLaws.{not-above}
use Rattle.nest_model.specs.NullLayout.{null_array, null_item, null_children}
use Rattle.nest_model.specs.Nulls.{values_below, ids_count_differs, has_bad_id, error_of, field_error, fields_error}
use Rattle.nest_array.specs.declared.any.AnyArray.{AnyArray}
use Rattle.nest_array.specs.Seen.{layout_of, layouts_of}

-- lists of both offset widths
pub list-item : (large : Bool) (t : TypeTree) → physical_type t ≡ list_of_width large → IsSome (item_type t)
list-item false (types.list f) h = refl
list-item true (types.large_list f) h = refl
list-item large (types.extension x t m) h = list-item large t h
list-item false t h = cc
list-item true t h = cc

pub list-long : (large : Bool) (t : TypeTree) (n : ℕ) (d : Fill) → physical_type t ≡ list_of_width large → error_of t n d ≡ None → n + 1 < 2 ^ 64
list-long false (types.list f) n d h e = not-past (n + 1) _ e
list-long true (types.large_list f) n d h e = not-past (n + 1) _ e
list-long large (types.extension x t m) n d h e = list-long large t n d h e
list-long false t n d h e = cc
list-long true t n d h e = cc

pub list-below : (large : Bool) (t u : TypeTree) (n : ℕ) (d : Fill) → physical_type t ≡ list_of_width large → item_type t ≡ Some u → error_of t n d ≡ None → error_of u 0 Nothing ≡ None
list-below large t u n d h i e = (refuse-none _ _ _ (sym (list-first_error large t u n d h i) ∙ e)).1

-- maps
pub map-item : (t : TypeTree) → physical_type t ≡ physical.Map → IsSome (item_type t)
map-item (types.map f b) h = refl
map-item (types.extension x t m) h = map-item t h
map-item t h = cc

pub map-long : (t : TypeTree) (n : ℕ) (d : Fill) → physical_type t ≡ physical.Map → error_of t n d ≡ None → n + 1 < 2 ^ 64
map-long (types.map f b) n d h e = let r = refuse-none (not (is_pair (field_type f))) _ _ e in not-past (n + 1) _ r.1
map-long (types.extension x t m) n d h e = map-long t n d h e
map-long t n d h e = cc

pub map-below : (t u : TypeTree) (n : ℕ) (d : Fill) → physical_type t ≡ physical.Map → item_type t ≡ Some u → error_of t n d ≡ None → error_of u 0 Nothing ≡ None
map-below t u n d h i e =
    let own = refuse_if (is_past (n + 1)) Overflow (error_of u 0 Nothing) in
    let r = refuse-none (not (has_pairs t)) (InvalidArgumentError argument.MapInner) own (sym (map-first_error t u n d h i) ∙ e) in
    (refuse-none (is_past (n + 1)) Overflow (error_of u 0 Nothing) r.1).1

-- fixed-size lists
pub sized-item : (t : TypeTree) → physical_type t ≡ physical.FixedSizeList → IsSome (item_type t)
sized-item (types.fixed_size_list f s) h = refl
sized-item (types.extension x t m) h = sized-item t h
sized-item t h = cc

pub sized-long : (t : TypeTree) (n : ℕ) (d : Fill) → physical_type t ≡ physical.FixedSizeList → error_of t n d ≡ None → n * size_of t < 2 ^ 64
sized-long (types.fixed_size_list f s) n d h e = let r = refuse-none (nat_eq s 0) _ _ e in not-past (n * s) _ r.1
sized-long (types.extension x t m) n d h e = sized-long t n d h e
sized-long t n d h e = cc

pub sized-below : (t u : TypeTree) (n : ℕ) (d : Fill) → physical_type t ≡ physical.FixedSizeList → item_type t ≡ Some u → error_of t n d ≡ None → error_of u (n * size_of t) d ≡ None
sized-below t u n d h i e =
    let own = refuse_if (is_past (n * size_of t)) Overflow (error_of u (n * size_of t) d) in
    let r = refuse-none (nat_eq (size_of t) 0) (OutOfSpec spec.ZeroSize) own (sym (sized-first_error t u n d h i) ∙ e) in
    (refuse-none (is_past (n * size_of t)) Overflow (error_of u (n * size_of t) d) r.1).1

-- fixed-size binary
pub bytes-long : (t : TypeTree) (n : ℕ) (d : Fill) → physical_type t ≡ physical.FixedSizeBinary → error_of t n d ≡ None → n * size_of t < 2 ^ 64
bytes-long (types.fixed_size_binary s) n d h e = let r = refuse-none (nat_eq s 0) _ _ e in not-past (n * s) _ r.1
bytes-long (types.extension x t m) n d h e = bytes-long t n d h e
bytes-long t n d h e = cc

-- structs
pub struct-below : (t : TypeTree) (n : ℕ) (d : Fill) → physical_type t ≡ physical.Struct → error_of t n d ≡ None → fields_error (fields_of t) n d ≡ None
struct-below t n d h e = (refuse-none _ _ _ (sym (struct-first_error t n d h) ∙ e)).1

-- unions
pub union-mode : (t : TypeTree) → physical_type t ≡ physical.Union → (mode : UnionMode) × (mode_of t ≡ Some mode)
union-mode (types.union fs ids mode) h = (mode, refl)
union-mode (types.extension x t m) h = union-mode t h
union-mode t h = cc

pub union-ids : (t : TypeTree) (n : ℕ) (d : Fill) → physical_type t ≡ physical.Union → error_of t n d ≡ None → has_bad_id (ids_of t) ≡ false
union-ids (types.union fs ids mode) n d h e =
    let a = refuse-none (nat_lt most_fields (count_fields fs)) _ _ e in
    let b = refuse-none (ids_count_differs ids (count_fields fs)) _ _ a.1 in
    (refuse-none (has_bad_id ids) _ _ b.1).0
union-ids (types.extension x t m) n d h e = union-ids t n d h e
union-ids t n d h e = cc

dense-short : (b : Bool) (n : ℕ) → (b && nat_lt most_picks n) ≡ false → b ≡ true → n ≤ most_picks
dense-short true n h e = not-above most_picks n h
dense-short false n h e = cc

pub union-short : (t : TypeTree) (n : ℕ) (d : Fill) → physical_type t ≡ physical.Union → error_of t n d ≡ None → is_dense t ≡ true → n ≤ most_picks
union-short (types.union fs ids mode) n d h e k =
    let a = refuse-none (nat_lt most_fields (count_fields fs)) _ _ e in
    let b = refuse-none (ids_count_differs ids (count_fields fs)) _ _ a.1 in
    let c = refuse-none (has_bad_id ids) _ _ b.1 in
    let f = refuse-none (nat_eq (count_fields fs) 0 && nat_lt 0 n) _ _ c.1 in
    dense-short (is_dense_mode mode) n (refuse-none _ _ _ f.1).0 k
union-short (types.extension x t m) n d h e k = union-short t n d h e k
union-short t n d h e k = cc

pub union-below : (t : TypeTree) (n : ℕ) (d : Fill) → physical_type t ≡ physical.Union → error_of t n d ≡ None → fields_error (fields_of t) n d ≡ None
union-below (types.union fs ids mode) n d h e =
    let a = refuse-none (nat_lt most_fields (count_fields fs)) _ _ e in
    let b = refuse-none (ids_count_differs ids (count_fields fs)) _ _ a.1 in
    let c = refuse-none (has_bad_id ids) _ _ b.1 in
    let f = refuse-none (nat_eq (count_fields fs) 0 && nat_lt 0 n) _ _ c.1 in
    (refuse-none _ _ _ f.1).1
union-below (types.extension x t m) n d h e = union-below t n d h e
union-below t n d h e = cc

-- dictionaries
pub dictionary-kind : (t : TypeTree) (k : IntegerType) → physical_type t ≡ physical.Dictionary k → is_dictionary t ≡ true
dictionary-kind (types.dictionary j v b) k h = refl
dictionary-kind (types.extension x t m) k h = dictionary-kind t k h
dictionary-kind t k h = cc

pub dictionary-key : (t : TypeTree) → is_dictionary t ≡ true → key_type t ≡ None → ⊥
dictionary-key (types.dictionary j v b) h e = cc
dictionary-key (types.extension x t m) h e = dictionary-key t h e
dictionary-key t h e = cc

pub dictionary-value : (t : TypeTree) → is_dictionary t ≡ true → IsSome (value_type t)
dictionary-value (types.dictionary j v b) h = refl
dictionary-value (types.extension x t m) h = dictionary-value t h
dictionary-value t h = cc

pub dictionary-below : (t u : TypeTree) (n : ℕ) (d : Fill) → value_type t ≡ Some u → error_of t n d ≡ None → error_of u (values_below d) d ≡ None
dictionary-below t u n d h e = sym (dictionary-first_error t u n d h) ∙ e

-- one field
pub field-lighter : (fs : List Field) (i : ℕ) (f : Field) → i < length fs → field_weight (field_of (get_or fs i f)) < fields_weight (field_list_of fs)
field-lighter [] i f h = absurd (omega arith)
field-lighter (g ∷ gs) zero f h = omega arith
field-lighter (g ∷ gs) (suc i) f h = omega (arith, field-lighter gs i f (omega arith))

pub weight-of : (f : FieldTree) (t : TypeTree) → t ≡ field_type f → type_weight t ≡ field_weight f
weight-of f t e = ap type_weight e ∙ field-weight f

pub first_error-of : (f : FieldTree) (t : TypeTree) (n : ℕ) (d : Fill) → t ≡ field_type f → error_of t n d ≡ field_error f n d
first_error-of (field x v b es) t n d e = ap (λ u. error_of u n d) e

item-of : (f : FieldTree) (n : ℕ) (d : Fill) → null_array (field_type f) n d ≡ null_item f n d
item-of (field x v b es) n d = refl

pub field-below : (fs : List Field) (i n : ℕ) (d : Fill) (f : Field) → i < length fs → fields_error (field_list_of fs) n d ≡ None → field_error (field_of (get_or fs i f)) n d ≡ None
field-below [] i n d f h e = absurd (omega arith)
field-below (g ∷ gs) zero n d f h e = (first-none _ _ e).0
field-below (g ∷ gs) (suc i) n d f h e = field-below gs i n d f (omega arith) (first-none _ _ e).1

pub all-nulls : (xs : Seq AnyArray) (fs : List Field) (n : ℕ) (v : Fill) → length xs ≡ length fs → ((k : ℕ) (d : AnyArray) (f : Field) → k < length fs → layout_of (get_or xs k d) ≡ null_array (field_type (field_of (get_or fs k f))) n v)
    → layouts_of xs ≡ null_children (field_list_of fs) n v
all-nulls [] [] n v e h = refl
all-nulls [] (f ∷ fs) n v e h = absurd (omega arith)
all-nulls (x ∷ xs) [] n v e h = absurd (omega arith)
all-nulls (x ∷ xs) (f ∷ fs) n v e h =
    let a : layout_of x ≡ null_item (field_of f) n v = h 0 x f (omega arith) ∙ item-of (field_of f) n v in
    let b = all-nulls xs fs n v (omega arith) (λ k d g l. h (suc k) d g (omega arith)) in
    cc
