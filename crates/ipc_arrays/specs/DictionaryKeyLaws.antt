-- Laws of dictionary keys: keys of null slots, their native types, and dictionary types.
use Rattle.std.proofs.Common.{◌≡◌, ℕ, ◌<◌, Bool, true, false, List, length, get_or, None, Some, refl, sym, ap, ◌∙◌, arith}
use Rattle.std.specs.Prelude.{ℤ, pos, if◌then◌else◌, IsSome}
use Rattle.std.proofs.lemmas.List.{get_or-map}
use Rattle.std.proofs.lemmas.List.FromFn.{length-map-range_with_len, get_or-map-range_with_len, fill_by_all}
use Rattle.nest_memory.specs.Native.{parts_of}
use Rattle.nest_memory.specs.Physical.{physical_type}
use Rattle.nest_memory.specs.TypeTree as types
use Rattle.nest_memory.specs.TypeTree.{TypeTree, key_type}
use Rattle.nest_memory.specs.declared.datatypes.IntegerType.{IntegerType}
use Rattle.nest_memory.specs.declared.datatypes.IntegerType.TheVariants as integers
use Rattle.nest_memory.specs.declared.datatypes.physical_type.PhysicalType.TheVariants as physical
use Rattle.nest_memory.specs.declared.datatypes.physical_type.PrimitiveType.{PrimitiveType}
use Rattle.nest_memory.specs.declared.datatypes.physical_type.PrimitiveType.TheVariants as primitives
use Rattle.nest_model.specs.Accessors.{key_at, key_kind, as_integer}
use Rattle.nest_model.specs.Fits.{is_dictionary}
use Rattle.nest_model.specs.Layout.{primitive}
use Rattle.nest_model.specs.Part.{Validity, valid_at}
use Rattle.ipc_arrays.specs.DictionaryKeys.{key_primitive, null_key, key_or_zero, zero_at_nulls}

-- ---- keys of null slots

pub blank_place : (va : Validity) (values : List (List ℤ)) (i : ℕ) → i < length values → (d : List ℤ) → get_or (zero_at_nulls va values) i d ≡ key_or_zero va values i
unfolding zero_at_nulls
blank_place va values i lt d = get_or-map-range_with_len (key_or_zero va values) 0 (length values) i i d lt (omega arith)

pub blanked_long : (va : Validity) (values : List (List ℤ)) → length (zero_at_nulls va values) ≡ length values
unfolding zero_at_nulls
blanked_long va values = length-map-range_with_len (key_or_zero va values) 0 (length values)

-- if all keys are valid, none is set to 0
pub blanked_none : (values : List (List ℤ)) → zero_at_nulls None values ≡ values
unfolding zero_at_nulls
blanked_none values = sym (fill_by_all (key_or_zero None values) values (length values) null_key refl (λ k lt. refl))

pub blank_key : (k : PrimitiveType) (t : TypeTree) (va : Validity) (values : List (List ℤ)) (i : ℕ) → i < length values → valid_at va i ≡ false → key_at (primitive k t (zero_at_nulls va values) va) i ≡ pos 0
blank_key k t va values i lt none =
    let long = blanked_long va values in
    let place : get_or (zero_at_nulls va values) i null_key ≡ null_key = blank_place va values i lt null_key ∙ ap (λ (b : Bool). if b then get_or values i null_key else null_key) none in
    get_or-map as_integer (zero_at_nulls va values) i null_key (pos 0) (omega (arith, lt, long)) ∙ ap as_integer place

-- ---- native types of keys

pub native_key : (k : IntegerType) → key_kind (key_primitive k) ≡ Some k
native_key integers.Int8 = refl
native_key integers.Int16 = refl
native_key integers.Int32 = refl
native_key integers.Int64 = refl
native_key integers.UInt8 = refl
native_key integers.UInt16 = refl
native_key integers.UInt32 = refl
native_key integers.UInt64 = refl

-- each is one number
pub key_parts : (k : PrimitiveType) → IsSome (key_kind k) → parts_of k ≡ 1
key_parts primitives.Int256 h = cc
key_parts primitives.DaysMs h = cc
key_parts primitives.MonthDayNano h = cc
key_parts k h = refl

-- ---- types of dictionaries

pub keyed_type : (t : TypeTree) (k : IntegerType) → physical_type t ≡ physical.Dictionary k → (is_dictionary t ≡ true) × (key_type t ≡ Some k)
keyed_type (types.dictionary j v b) k h = (refl, cc)
keyed_type (types.extension x t m) k h = keyed_type t k h
keyed_type t k h = cc
