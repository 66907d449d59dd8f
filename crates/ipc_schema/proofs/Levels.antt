-- One level of a field.
use Rattle.std.proofs.Common.{◌≡◌, ℕ, zero, suc, ◌+◌, ◌-◌, ◌<◌, ◌≤◌, true, false, length, List, Ok, Err, refl, sym, ap, ◌∙◌, subst, arith}
use Rattle.std.specs.Prelude.{◌||◌, Option}
use Rattle.std.specs.List.{AllByRecursion, list_any}
use Rattle.std.specs.Str.{is_utf8}
use Rattle.nest_memory.specs.TypeTree.{FieldTree, field_type}
use Rattle.ipc_flatbuf.specs.declared.error.IpcReadError.TheVariants as errors
use Rattle.ipc_flatbuf.specs.declared.error.IpcWriteError.{IpcWriteError}
use Rattle.ipc_flatbuf.specs.declared.error.IpcWriteError.TheVariants as reasons
use Rattle.ipc_flatbuf.specs.PartBytes.{table_vector_bytes, string_bytes}
use Rattle.ipc_schema.specs.Extensions.{spec_storage_type, spec_table_type}
use Rattle.ipc_schema.specs.Dictionaries.{Progress}
use Rattle.ipc_schema.specs.Types.{spec_children_of}
use Rattle.ipc_schema.specs.Unions.{spec_is_union, spec_field_has_union}
use Rattle.ipc_schema.specs.WriteChecks.{and_then_check, spec_check_own, spec_check_each, spec_check_field}
use Rattle.ipc_schema.specs.SchemaBytes.{spec_type_number, type_bytes, entries_bytes, field_bytes, each_bytes}
use Rattle.ipc_schema.specs.MetadataLaws.{AreUtf8, AreSorted}
use Rattle.ipc_schema.specs.TypeLaws.{TypeFits, both}
use Rattle.ipc_schema.specs.FieldLaws.{FieldFits, name_of, nullable_of, own_type, all_of, table_bytes, bytes_are, fits_are, count_is, field_parts_long}
use Rattle.ipc_schema.specs.declared.dictionaries.Encoding.{Encoding}
use Rattle.ipc_schema.specs.DictionaryIds.{index_type_of, spec_encoding_of, next_after_own, total, count_dictionaries}
use Rattle.ipc_schema.specs.DictionaryIdLaws.{behind_counts, behind_at_most}
use Rattle.ipc_schema.specs.Schemas.{spec_field_over, spec_field_at}

pub level_is : (depth : ℕ) (bytes : List ℕ) (position : ℕ) (so_far : Progress) → 0 < depth → spec_field_at depth bytes position so_far ≡ spec_field_over (spec_field_at (depth - 1) bytes) bytes position so_far
unfolding spec_field_at
level_is depth bytes position so_far deep = let k : depth ≡ suc (depth - 1) = omega arith in ap (λ (n : ℕ). spec_field_at n bytes position so_far) k

pub no_level : (depth : ℕ) (bytes : List ℕ) (position : ℕ) (so_far : Progress) → depth ≡ 0 → spec_field_at depth bytes position so_far ≡ Err errors.Depth
unfolding spec_field_at
no_level depth bytes position so_far none = ap (λ (n : ℕ). spec_field_at n bytes position so_far) none

-- ---- the bytes of a field

pub form_level : (depth : ℕ) (f : FieldTree) → 0 < depth → spec_check_field depth f ≡ and_then_check (spec_check_own f) (spec_check_each (spec_check_field (depth - 1)) (spec_children_of (spec_table_type (field_type f))))
unfolding spec_check_field
form_level depth f deep = let k : depth ≡ suc (depth - 1) = omega arith in ap (λ (n : ℕ). spec_check_field n f) k

pub no_form : (depth : ℕ) (f : FieldTree) → depth ≡ 0 → spec_check_field depth f ≡ Err reasons.Depth
unfolding spec_check_field
no_form depth f none = ap (λ (n : ℕ). spec_check_field n f) none

pub own_ends : (depth : ℕ) (f : FieldTree) (why : IpcWriteError) → 0 < depth → spec_check_own f ≡ Err why → spec_check_field depth f ≡ Err why
own_ends depth f why deep own = form_level depth f deep ∙ rw own refl

pub own_goes_on : (depth : ℕ) (f : FieldTree) → 0 < depth → spec_check_own f ≡ Ok tt → spec_check_field depth f ≡ spec_check_each (spec_check_field (depth - 1)) (spec_children_of (spec_table_type (field_type f)))
own_goes_on depth f deep own = form_level depth f deep ∙ rw own refl

pub deep_is : (depth : ℕ) (f : FieldTree) → spec_check_field depth f ≡ Ok tt → 0 < depth
unfolding spec_check_field
deep_is zero f form = absurd (cc form)
deep_is (suc depth) f form = omega arith

-- the checks of a field and of its children
pub forms_are : (depth : ℕ) (f : FieldTree) → spec_check_field depth f ≡ Ok tt → (spec_check_own f ≡ Ok tt) × (spec_check_each (spec_check_field (depth - 1)) (spec_children_of (spec_table_type (field_type f))) ≡ Ok tt)
forms_are depth f form = both (spec_check_own f) (spec_check_each (spec_check_field (depth - 1)) (spec_children_of (spec_table_type (field_type f)))) (sym (form_level depth f (deep_is depth f form)) ∙ form)

pub bytes_level : (depth next : ℕ) (f : FieldTree) → 0 < depth → field_bytes depth next f ≡ table_bytes (spec_encoding_of next (field_type f)) f (table_vector_bytes 24 (each_bytes (depth - 1) (next_after_own (field_type f) next) (spec_children_of (own_type f))))
bytes_level depth next f deep =
    let k : depth ≡ suc (depth - 1) = omega arith in
    ap (λ (n : ℕ). field_bytes n next f) k ∙ bytes_are (depth - 1) next f

pub fits_level : (depth : ℕ) (f : FieldTree) → 0 < depth → is_utf8 (name_of f) ≡ true → TypeFits (own_type f) → AreUtf8 (all_of f) → AreSorted (all_of f) → AllByRecursion (FieldFits (depth - 1)) (spec_children_of (own_type f)) → FieldFits depth f
fits_level depth f deep utf8 fits texts rising inner =
    let k : suc (depth - 1) ≡ depth = omega arith in
    subst (λ (n : ℕ). FieldFits n f) k (fits_are (depth - 1) f utf8 fits texts rising inner)

pub count_level : (depth : ℕ) (f : FieldTree) → 0 < depth → count_dictionaries depth f ≡ next_after_own (field_type f) (total (count_dictionaries (depth - 1)) (spec_children_of (own_type f)))
count_level depth f deep =
    let k : depth ≡ suc (depth - 1) = omega arith in
    ap (λ (n : ℕ). count_dictionaries n f) k ∙ count_is (depth - 1) f

-- the next id after a field, by that after its children
pub behind_level : (depth next : ℕ) (f : FieldTree) → 0 < depth → next_after_own (field_type f) next + total (count_dictionaries (depth - 1)) (spec_children_of (own_type f)) ≡ next + count_dictionaries depth f
behind_level depth next f deep =
    let inner : ℕ = total (count_dictionaries (depth - 1)) (spec_children_of (own_type f)) in
    behind_counts (index_type_of (spec_storage_type (field_type f))) next inner ∙ ap (λ (n : ℕ). next + n) (sym (count_level depth f deep))

pub inner_long : (depth next : ℕ) (f : FieldTree) → 0 < depth → next_after_own (field_type f) next + length (table_vector_bytes 24 (each_bytes (depth - 1) (next_after_own (field_type f) next) (spec_children_of (own_type f)))) ≤ next + length (field_bytes depth next f)
inner_long depth next f deep =
    let dictionary : Option Encoding = spec_encoding_of next (field_type f) in
    let row : List ℕ = table_vector_bytes 24 (each_bytes (depth - 1) (next_after_own (field_type f) next) (spec_children_of (own_type f))) in
    let long = field_parts_long (nullable_of f) (spec_type_number (own_type f)) dictionary (type_bytes (own_type f)) row (string_bytes (name_of f)) (entries_bytes (all_of f)) in
    omega (arith, ap length (bytes_level depth next f deep), long, behind_at_most (index_type_of (spec_storage_type (field_type f))) next)

-- ---- unions

pub no_union : (depth : ℕ) (f : FieldTree) → depth ≡ 0 → spec_field_has_union depth f ≡ false
unfolding spec_field_has_union
no_union depth f none = ap (λ (n : ℕ). spec_field_has_union n f) none

union_level : (depth : ℕ) (f : FieldTree) → 0 < depth → spec_field_has_union depth f ≡ (spec_is_union (spec_table_type (field_type f)) || list_any (spec_field_has_union (depth - 1)) (spec_children_of (spec_table_type (field_type f))))
unfolding spec_field_has_union
union_level depth f deep = let k : depth ≡ suc (depth - 1) = omega arith in ap (λ (n : ℕ). spec_field_has_union n f) k

pub union_here : (depth : ℕ) (f : FieldTree) → 0 < depth → spec_is_union (spec_table_type (field_type f)) ≡ true → spec_field_has_union depth f ≡ true
union_here depth f deep here = union_level depth f deep ∙ rw here refl

pub union_below : (depth : ℕ) (f : FieldTree) → 0 < depth → spec_is_union (spec_table_type (field_type f)) ≡ false → spec_field_has_union depth f ≡ list_any (spec_field_has_union (depth - 1)) (spec_children_of (spec_table_type (field_type f)))
union_below depth f deep none = union_level depth f deep ∙ rw none refl
