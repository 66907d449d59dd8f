-- Null and empty arrays of a data type: their slots, and the error if there is no such array.
-- The definitions are this library's own.
use Rattle.std.specs.Prelude.{◌≡◌, ℕ, zero, suc, ◌+◌, ◌*◌, ℤ, pos, negsuc, Bool, true, false, not, ◌&&◌, nat_eq, nat_lt, List, [], ◌∷◌, length, replicate, Option, Some, None}
use Rattle.nest_memory.specs.TypeTree as types
use Rattle.nest_memory.specs.TypeTree.{TypeTree, FieldTree, field, FieldTrees, no_fields, more_fields, field_type, count_fields, is_dense_mode, is_pair}
use Rattle.nest_model.specs.declared.fill.Fill.{Fill}
use Rattle.nest_model.specs.declared.fill.Fill.TheVariants.{Nulls, Nothing}
use Rattle.nest_model.specs.Part.{last_position}
use Rattle.nest_model.specs.Slot as slots
use Rattle.nest_model.specs.Slot.{Slot}
use Rattle.nest_model.specs.Meaning.{of_field}
use Rattle.nest_model.specs.Checks.{refuse_if, first_of, is_past, most_fields, most_picks, type_count}
use Rattle.nest_memory.specs.declared.error.SpecError.TheVariants as spec
use Rattle.nest_memory.specs.declared.error.ArgumentError.TheVariants as argument
use Rattle.nest_memory.specs.declared.error.Error.{Error}
use Rattle.nest_memory.specs.declared.error.Error.TheVariants.{OutOfSpec, InvalidArgumentError, Overflow, NotYetImplemented}
use Rattle.nest_memory.specs.declared.datatypes.physical_type.PhysicalType.{PhysicalType}
use Rattle.nest_memory.specs.declared.datatypes.physical_type.PhysicalType.TheVariants as physical
use Rattle.nest_memory.specs.declared.datatypes.physical_type.PrimitiveType.TheVariants as primitives
use Rattle.nest_memory.specs.declared.datatypes.UnionMode.{UnionMode}

-- The field of a union's null slot: the one that the first id names, or field 0 if there are no ids.
abbrev pub null_field : Option (List ℤ) → Option ℕ
null_field None = Some 0
null_field (Some []) = None
null_field (Some (z ∷ zs)) = last_position (z ∷ zs) z

-- A null slot. For a union it is the pick of a null slot of one field, otherwise `Null`.
abbrev mutual
  pub null_slot : TypeTree → Slot
  null_slot (types.union fs ids mode) = of_field (null_field ids) (λ f. null_pick f fs f)
  null_slot (types.extension n t m) = null_slot t
  null_slot t = slots.null

  -- The pick of a null slot of field f, which is field k of these fields.
  pub null_pick : ℕ → FieldTrees → ℕ → Slot
  null_pick f no_fields k = slots.null
  null_pick f (more_fields g fs) zero = null_of f g
  null_pick f (more_fields g fs) (suc k) = null_pick f fs k

  pub null_of : ℕ → FieldTree → Slot
  null_of f (field n t b es) = slots.pick f t (null_slot t)

abbrev pub null_slots : TypeTree → ℕ → List Slot
null_slots t n = replicate n (null_slot t)

-- Union Layout: whether an integer is a type id, whether all are, whether their number differs from that of the fields,
-- and whether one is not a type id.
abbrev pub is_id : ℤ → Bool
is_id (pos n) = nat_lt n type_count
is_id (negsuc n) = false

abbrev pub are_ids : List ℤ → Bool
are_ids [] = true
are_ids (z ∷ zs) = is_id z && are_ids zs

abbrev pub ids_count_differs : Option (List ℤ) → ℕ → Bool
ids_count_differs None n = false
ids_count_differs (Some ids) n = not (nat_eq (length ids) n)

abbrev pub has_bad_id : Option (List ℤ) → Bool
has_bad_id None = false
has_bad_id (Some ids) = not (are_ids ids)

-- The error of native values: null arrays of floats are not supported.
abbrev pub float_error : PhysicalType → Option Error
float_error (physical.Primitive primitives.Float16) = Some NotYetImplemented
float_error (physical.Primitive primitives.Float32) = Some NotYetImplemented
float_error (physical.Primitive primitives.Float64) = Some NotYetImplemented
float_error p = None

-- The first error of a union of n null slots: its own, otherwise `rest`, which is that of its fields.
abbrev pub union_error : ℕ → Option (List ℤ) → UnionMode → ℕ → Option Error → Option Error
union_error count ids mode n rest =
    refuse_if (nat_lt most_fields count) (OutOfSpec spec.TooManyFields)
    (refuse_if (ids_count_differs ids count) (OutOfSpec spec.IdCount)
    (refuse_if (has_bad_id ids) (OutOfSpec spec.IdRange)
    (refuse_if (nat_eq count 0 && nat_lt 0 n) (OutOfSpec spec.UnionType)
    (refuse_if (is_dense_mode mode && nat_lt most_picks n) Overflow
    rest))))

-- The number of values of a dictionary: one null value in a null array, none in an empty one.
abbrev pub values_below : Fill → ℕ
values_below Nulls = 1
values_below Nothing = 0

-- An array of n slots can have this fill: `Nothing` requires that n is 0.
abbrev pub Fills : Fill → ℕ → Type 0
Fills Nulls n = Unit {0}
Fills Nothing n = n ≡ 0

-- The first error of an array of n null slots. The data type is checked first, then the product of length and size,
-- then the children from left to right. The child of a list or map is empty.
abbrev mutual
  pub error_of : TypeTree → ℕ → Fill → Option Error
  error_of types.float16 n fill = Some NotYetImplemented
  error_of types.float32 n fill = Some NotYetImplemented
  error_of types.float64 n fill = Some NotYetImplemented
  error_of types.binary n fill = refuse_if (is_past (n + 1)) Overflow None
  error_of types.large_binary n fill = refuse_if (is_past (n + 1)) Overflow None
  error_of types.utf8 n fill = refuse_if (is_past (n + 1)) Overflow None
  error_of types.large_utf8 n fill = refuse_if (is_past (n + 1)) Overflow None
  error_of (types.fixed_size_binary s) n fill = refuse_if (nat_eq s 0) (OutOfSpec spec.ZeroSize) (refuse_if (is_past (n * s)) Overflow None)
  error_of (types.list f) n fill = refuse_if (is_past (n + 1)) Overflow (field_error f 0 Nothing)
  error_of (types.large_list f) n fill = refuse_if (is_past (n + 1)) Overflow (field_error f 0 Nothing)
  error_of (types.fixed_size_list f s) n fill = refuse_if (nat_eq s 0) (OutOfSpec spec.ZeroSize) (refuse_if (is_past (n * s)) Overflow (field_error f (n * s) fill))
  error_of (types.map f b) n fill = refuse_if (not (is_pair (field_type f))) (InvalidArgumentError argument.MapInner) (refuse_if (is_past (n + 1)) Overflow (field_error f 0 Nothing))
  error_of (types.struct fs) n fill = refuse_if (nat_eq (count_fields fs) 0) (OutOfSpec spec.NoFields) (fields_error fs n fill)
  error_of (types.union fs ids mode) n fill = union_error (count_fields fs) ids mode n (fields_error fs n fill)
  error_of (types.dictionary k t b) n fill = error_of t (values_below fill) fill
  error_of (types.extension x t m) n fill = error_of t n fill
  error_of t n fill = None

  pub field_error : FieldTree → ℕ → Fill → Option Error
  field_error (field x t b es) n fill = error_of t n fill

  pub fields_error : FieldTrees → ℕ → Fill → Option Error
  fields_error no_fields n fill = None
  fields_error (more_fields f fs) n fill = first_of (field_error f n fill) (fields_error fs n fill)

-- The first error of an array of n null slots, and of an empty array.
abbrev pub type_error : TypeTree → ℕ → Option Error
type_error t n = error_of t n Nulls

abbrev pub empty_error : TypeTree → Option Error
empty_error t = error_of t 0 Nothing
