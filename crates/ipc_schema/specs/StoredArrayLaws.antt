-- The arrays of a schema that is written are stored as they are read.
use Rattle.std.proofs.Common.{◌≡◌, ℕ, zero, suc, Bool, true, false, List, [], ◌∷◌, ◌++◌, map, Option, Some, None, Result, Ok, refl, ap, sym, subst}
use Rattle.std.specs.Prelude.{◌&&◌, ◌||◌, not, is_some}
use Rattle.std.specs.List.{AllByRecursion}
use Rattle.nest_memory.specs.TypeTree as types
use Rattle.nest_memory.specs.TypeTree.{Letters, Entries, TypeTree, FieldTree, field, FieldTrees, no_fields, more_fields, field_type, logical_type}
use Rattle.nest_memory.specs.declared.datatypes.floats.Precision.{Precision}
use Rattle.nest_memory.specs.declared.datatypes.floats.Precision.TheVariants.{Half, Single, Double}
use Rattle.nest_memory.specs.Floats.{spec_is_float_name, spec_float_type, spec_precision_of, spec_is_float}
use Rattle.nest_memory.specs.FloatLaws.{float_is}
use Rattle.ipc_flatbuf.specs.declared.error.IpcWriteError.{IpcWriteError}
use Rattle.ipc_flatbuf.specs.declared.error.IpcWriteError.TheVariants as reasons
use Rattle.ipc_flatbuf.specs.declared.projection.StoredArray.{StoredArray}
use Rattle.ipc_flatbuf.specs.declared.projection.StoredArray.TheVariants.{Plain, View, Decimal32, Decimal64, Skipped}
use Rattle.ipc_flatbuf.specs.StoredArrays.{reads_as_stored, reads_views, spec_is_read_as_stored}
use Rattle.ipc_schema.specs.Types.{field_list, spec_children_of}
use Rattle.ipc_schema.specs.Extensions.{extension_name, extension_metadata, spec_has_key, spec_is_extension, spec_storage_type, values_type, spec_table_type}
use Rattle.ipc_schema.specs.WriteChecks.{and_then_check, spec_require, is_not_nested_extension, spec_can_encode, spec_has_free_name, spec_has_no_reserved_key, spec_check_type, spec_check_own, spec_check_each, spec_check_field, check_fields}
use Rattle.ipc_schema.specs.TypeLaws.{both, passes}
use Rattle.ipc_schema.specs.StoredTypes.{spec_named_storage, spec_other_storage, read_type, read_field, read_fields}
use Rattle.ipc_schema.specs.StoredArrays.{stored_arrays, field_arrays, arrays_of_fields, arrays_of_each}

-- a type and a field that are read as they are stored
pub record IsAsStored (type : TypeTree) : Type 0 where
  pub same : read_type type ≡ type
  pub arrays : reads_as_stored (stored_arrays type) ≡ true

pub record FieldIsAsStored (f : FieldTree) : Type 0 where
  pub same : read_field f ≡ f
  pub arrays : reads_as_stored (field_arrays f) ≡ true

abbrev AreAsStored : List FieldTree → Type 0
AreAsStored fs = AllByRecursion FieldIsAsStored fs

-- ---- lists

both_read : (xs ys : List StoredArray) → reads_as_stored xs ≡ true → reads_as_stored ys ≡ true → reads_as_stored (xs ++ ys) ≡ true
both_read [] ys a b = b
both_read (x ∷ xs) ys a b =
    let parts = and_parts (spec_is_read_as_stored x) (reads_as_stored xs) a in
    rw parts.0 (both_read xs ys parts.1 b)
  where
    and_parts : (p q : Bool) → (p && q) ≡ true → (p ≡ true) × (q ≡ true)
    and_parts true q h = (refl, h)
    and_parts false q h = absurd (cc h)

-- no view array is read
pub no_views : (arrays : List StoredArray) → reads_as_stored arrays ≡ true → reads_views arrays ≡ false
no_views [] are = refl
no_views (Plain n ∷ arrays) are = no_views arrays are
no_views (Skipped span ∷ arrays) are = no_views arrays are
no_views (View ∷ arrays) are = absurd (cc are)
no_views (Decimal32 ∷ arrays) are = absurd (cc are)
no_views (Decimal64 ∷ arrays) are = absurd (cc are)

trees_same : (fs : FieldTrees) → AreAsStored (field_list fs) → read_fields fs ≡ fs
trees_same no_fields are = refl
trees_same (more_fields f fs) are =
    let rest = trees_same fs are.1 in
    λ i. more_fields (are.0.same i) (rest i)

trees_read : (fs : FieldTrees) → AreAsStored (field_list fs) → reads_as_stored (arrays_of_fields fs) ≡ true
trees_read no_fields are = refl
trees_read (more_fields f fs) are = both_read (field_arrays f) (arrays_of_fields fs) are.0.arrays (trees_read fs are.1)

-- ---- the type of a type table

-- a type that can be written is not stored otherwise
pub is_not_stored_otherwise : (type : TypeTree) → spec_check_type type ≡ Ok tt → spec_other_storage type ≡ None
is_not_stored_otherwise (types.extension a b c) form = rw (passes (spec_is_float (types.extension a b c)) reasons.Type form) refl
is_not_stored_otherwise type form = refl

float_as_stored : (p : Precision) → IsAsStored (spec_float_type p)
float_as_stored Half = record { same = refl; arrays = refl }
float_as_stored Single = record { same = refl; arrays = refl }
float_as_stored Double = record { same = refl; arrays = refl }

float_by : (type : TypeTree) (precision : Option Precision) → spec_precision_of type ≡ precision → is_some precision ≡ true → IsAsStored type
float_by type None is some = absurd (cc some)
float_by type (Some p) is some = subst IsAsStored (sym (float_is type p is)) (float_as_stored p)

table_as_stored : (type : TypeTree) → spec_check_type type ≡ Ok tt → AreAsStored (spec_children_of type) → IsAsStored type
table_as_stored (types.list f) form are = record { same = ap types.list are.0.same; arrays = are.0.arrays }
table_as_stored (types.large_list f) form are = record { same = ap types.large_list are.0.same; arrays = are.0.arrays }
table_as_stored (types.fixed_size_list f size) form are = record { same = ap (λ (g : FieldTree). types.fixed_size_list g size) are.0.same; arrays = are.0.arrays }
table_as_stored (types.map f sorted) form are = record { same = ap (λ (g : FieldTree). types.map g sorted) are.0.same; arrays = are.0.arrays }
table_as_stored (types.struct fs) form are = record { same = ap types.struct (trees_same fs are); arrays = trees_read fs are }
table_as_stored (types.union fs ids mode) form are = record { same = ap (λ (gs : FieldTrees). types.union gs ids mode) (trees_same fs are); arrays = trees_read fs are }
table_as_stored (types.dictionary a b c) form are = absurd (cc form)
table_as_stored (types.extension a b c) form are = float_by (types.extension a b c) (spec_precision_of (types.extension a b c)) refl (passes (spec_is_float (types.extension a b c)) reasons.Type form)
table_as_stored type form are = record { same = refl; arrays = refl }

-- the same without extension types, which is the value type of a dictionary
float_logical : (p : Precision) → reads_as_stored (stored_arrays (logical_type (spec_float_type p))) ≡ true
float_logical Half = refl
float_logical Single = refl
float_logical Double = refl

logical_by : (type : TypeTree) (precision : Option Precision) → spec_precision_of type ≡ precision → is_some precision ≡ true → reads_as_stored (stored_arrays (logical_type type)) ≡ true
logical_by type None is some = absurd (cc some)
logical_by type (Some p) is some = subst (λ (t : TypeTree). reads_as_stored (stored_arrays (logical_type t)) ≡ true) (sym (float_is type p is)) (float_logical p)

logical_as_stored : (type : TypeTree) → spec_check_type type ≡ Ok tt → IsAsStored type → reads_as_stored (stored_arrays (logical_type type)) ≡ true
logical_as_stored (types.extension a b c) form is = logical_by (types.extension a b c) (spec_precision_of (types.extension a b c)) refl (passes (spec_is_float (types.extension a b c)) reasons.Type form)
logical_as_stored type form is = is.arrays

-- ---- the type of a field

values_as_stored : (type : TypeTree) → IsAsStored (values_type type) → IsAsStored type
values_as_stored (types.dictionary key values ordered) is = record { same = ap (λ (t : TypeTree). types.dictionary key t ordered) is.same; arrays = refl }
values_as_stored type is = is

free_parts : (float name : Bool) (storage : Option StoredArray) → float ≡ false → (float || not (name || is_some storage)) ≡ true → storage ≡ None
free_parts true name storage plain h = absurd (cc plain)
free_parts false true storage plain h = absurd (cc h)
free_parts false false None plain h = refl
free_parts false false (Some array) plain h = absurd (cc h)

storage_as_stored : (type : TypeTree) → spec_has_free_name type ≡ true → IsAsStored (spec_storage_type type) → IsAsStored type
storage_as_stored (types.extension title type text) free is = by_kind (spec_is_float (types.extension title type text)) refl
  where
    by_kind : (float : Bool) → spec_is_float (types.extension title type text) ≡ float → IsAsStored (types.extension title type text)
    by_kind true e = subst IsAsStored (rw e refl) is
    by_kind false e =
        let named : spec_named_storage title ≡ None = free_parts (spec_is_float (types.extension title type text)) (spec_is_float_name title) (spec_named_storage title) e free in
        let other : spec_other_storage (types.extension title type text) ≡ None = rw (e, named) refl in
        let storage : spec_storage_type (types.extension title type text) ≡ type = rw e refl in
        let inner : IsAsStored type = subst IsAsStored storage is in
        record { same = rw other (ap (λ (t : TypeTree). types.extension title t text) inner.same); arrays = rw other inner.arrays }
storage_as_stored type free is = is

-- ---- fields

abbrev IsForm : (FieldTree → Result (Unit {0}) IpcWriteError) → Type 0
IsForm form = (f : FieldTree) → form f ≡ Ok tt → FieldIsAsStored f

own_parts : (name : Letters) (type : TypeTree) (nullable : Bool) (entries : Entries) → spec_check_own (field name type nullable entries) ≡ Ok tt → (spec_has_free_name type ≡ true) × (spec_check_type (spec_table_type type) ≡ Ok tt)
unfolding spec_check_own
own_parts name type nullable entries h =
    let free : Result (Unit {0}) IpcWriteError = spec_require (spec_has_no_reserved_key type entries) reasons.Extension in
    let encodes : Result (Unit {0}) IpcWriteError = spec_require (spec_can_encode (spec_storage_type type)) reasons.Dictionary in
    let first = both (spec_require (is_not_nested_extension type) reasons.Extension) (and_then_check encodes (and_then_check free (spec_check_type (spec_table_type type)))) h in
    let second = both encodes (and_then_check free (spec_check_type (spec_table_type type))) first.1 in
    let third = both free (spec_check_type (spec_table_type type)) second.1 in
    (first_of (spec_has_free_name type) (not (spec_has_key extension_name entries) && not (spec_is_extension type && spec_has_key extension_metadata entries)) (passes (spec_has_no_reserved_key type entries) reasons.Extension third.0), third.1)
  where
    first_of : (p q : Bool) → (p && q) ≡ true → p ≡ true
    first_of true q h = refl
    first_of false q h = absurd (cc h)

each_as_stored : (form : FieldTree → Result (Unit {0}) IpcWriteError) → IsForm form → (fs : List FieldTree) → spec_check_each form fs ≡ Ok tt → AreAsStored fs
unfolding spec_check_each
each_as_stored form one [] h = tt
each_as_stored form one (f ∷ fs) h =
    let parts = both (form f) (spec_check_each form fs) h in
    (one f parts.0, each_as_stored form one fs parts.1)

field_as_stored : (depth : ℕ) → IsForm (spec_check_field depth)
unfolding spec_check_field
field_as_stored zero f h = absurd (cc h)
field_as_stored (suc depth) (field name type nullable entries) h =
    let parts = both (spec_check_own (field name type nullable entries)) (spec_check_each (spec_check_field depth) (spec_children_of (spec_table_type type))) h in
    let own = own_parts name type nullable entries parts.0 in
    let inner = each_as_stored (spec_check_field depth) (field_as_stored depth) (spec_children_of (spec_table_type type)) parts.1 in
    let is = storage_as_stored type own.0 (values_as_stored (spec_storage_type type) (table_as_stored (spec_table_type type) own.1 inner)) in
    record { same = ap (λ (t : TypeTree). field name t nullable entries) is.same; arrays = is.arrays }

-- the values of a dictionary-encoded field that can be written
pub values_read_as_stored : (depth : ℕ) (f : FieldTree) → spec_check_field depth f ≡ Ok tt → reads_as_stored (stored_arrays (logical_type (spec_table_type (field_type f)))) ≡ true
unfolding spec_check_field
values_read_as_stored zero f h = absurd (cc h)
values_read_as_stored (suc depth) (field name type nullable entries) h =
    let parts = both (spec_check_own (field name type nullable entries)) (spec_check_each (spec_check_field depth) (spec_children_of (spec_table_type type))) h in
    let own = own_parts name type nullable entries parts.0 in
    let inner = each_as_stored (spec_check_field depth) (field_as_stored depth) (spec_children_of (spec_table_type type)) parts.1 in
    logical_as_stored (spec_table_type type) own.1 (table_as_stored (spec_table_type type) own.1 inner)

pub fields_as_stored : (fs : List FieldTree) → check_fields fs ≡ Ok tt → AreAsStored fs
fields_as_stored fs form = each_as_stored (spec_check_field 64) (field_as_stored 64) fs form

-- fields that can be written are read as they are stored
pub fields_same : (fs : List FieldTree) → AreAsStored fs → map read_field fs ≡ fs
fields_same [] are = refl
fields_same (f ∷ fs) are =
    let rest = fields_same fs are.1 in
    λ i. are.0.same i ∷ rest i

pub fields_read : (fs : List FieldTree) → AreAsStored fs → reads_as_stored (arrays_of_each fs) ≡ true
unfolding arrays_of_each
fields_read [] are = refl
fields_read (f ∷ fs) are = both_read (field_arrays f) (arrays_of_each fs) are.0.arrays (fields_read fs are.1)
