-- The error of a struct whose fields pass.
use Rattle.std.specs.Prelude.{nat_eq}
use Rattle.std.proofs.Common.{◌≡◌, ◌∙◌, ℕ, false, List, length, ap, sym}
use Rattle.nest_memory.specs.TypeOf.{field_list_of, count_fields-field_list_of}
use Rattle.nest_memory.specs.TypeTree as types
use Rattle.nest_memory.specs.declared.datatypes.field.Field.{Field}
use Rattle.json_read.specs.UnsupportedTypes.{unsupported_fields, has_duplicate_names, unsupported_type, unsupported_if}
use Rattle.json_read.specs.declared.error.UnsupportedTypeError.TheVariants.{DuplicateFieldNames, EmptyStruct}

pub struct-error : (fs : List Field) (n : ℕ) → n ≡ length fs → nat_eq n 0 ≡ false → has_duplicate_names (field_list_of fs) ≡ false → unsupported_type (types.struct (field_list_of fs)) ≡ unsupported_fields (field_list_of fs)
struct-error fs n e some distinct =
    ap (λ b. unsupported_if b EmptyStruct (unsupported_if (has_duplicate_names (field_list_of fs)) DuplicateFieldNames (unsupported_fields (field_list_of fs)))) (ap (λ k. nat_eq k 0) (count_fields-field_list_of fs ∙ sym e) ∙ some)
    ∙ ap (λ b. unsupported_if b DuplicateFieldNames (unsupported_fields (field_list_of fs))) distinct
