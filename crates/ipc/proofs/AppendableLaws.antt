-- Appendable ids, as a loop finds them.
use Rattle.std.proofs.Common.{◌≡◌, ℕ, ◌+◌, ◌<◌, Bool, List, [], ◌∷◌, ◌++◌, length, take, get_or, Bor, Option, Some, None, refl, sym, ap, ◌∙◌}
use Rattle.std.specs.Prelude.{ℤ, pos, if◌then◌else◌}
use Rattle.std.specs.Option.{option_map, option_copied}
use Rattle.std.proofs.lemmas.List.Elements.{filter_more}
use Rattle.ipc_schema.specs.Dictionaries as spelled
use Rattle.ipc_schema.specs.ProjectedSchemas.{ProjectedSchemaModel}
use Rattle.ipc_schema.specs.DictionaryModels.{value_type_of}
use Rattle.ipc_schema.specs.declared.dictionaries.DictionaryValueType.{DictionaryValueType}
use Rattle.ipc.specs.Streams.{spec_stays_appendable, spec_appendable_after}

-- the value of a reference
abbrev pub shown : Option (Bor DictionaryValueType) → Option spelled.ValueTypeModel
shown r = option_map (λ v. value_type_of v.now) r

pub shown_copied : (r : Option (Bor DictionaryValueType)) → shown r ≡ option_map value_type_of (option_copied r)
shown_copied None = refl
shown_copied (Some v) = refl

-- one more id is appendable, or is not
pub fresh_more : (p : ProjectedSchemaModel) (id : ℤ) (appendable : List ℤ) (i : ℕ) (ids more : List ℤ) (stays : Bool) (other : ℤ) → i < length appendable → other ≡ get_or appendable i (pos 0) → stays ≡ spec_stays_appendable p id (get_or appendable i (pos 0))
    → more ≡ ids ++ (if stays then other ∷ [] else []) → ids ≡ spec_appendable_after p id (take i appendable) → more ≡ spec_appendable_after p id (take (i + 1) appendable)
fresh_more p id appendable i ids more stays other within is found pushed so_far =
    pushed
    ∙ (λ w. so_far w ++ (if found w then is w ∷ [] else []))
    ∙ ap (λ (xs : List ℤ). id ∷ xs) (sym (filter_more (spec_stays_appendable p id) appendable i (pos 0) within))
