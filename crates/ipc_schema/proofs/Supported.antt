-- One level of a field that is checked for support.
use Rattle.std.proofs.Common.{◌≡◌, ℕ, suc, ◌-◌, ◌<◌, List, [], ◌∷◌, ◌++◌, ◌+◌, zero, length, drop, map, slice_index_or, Bor, Option, Some, None, option_map, Err, refl, sym, ap, ◌∙◌, arith}
use Rattle.std.specs.Option.{option_or}
use Rattle.std.proofs.Math.Seq.{drop-length}
use Rattle.std.proofs.lemmas.List.{length-map, length-drop}
use Rattle.ipc_flatbuf.specs.declared.error.IpcReadError.TheVariants as errors
use Rattle.ipc_schema.specs.FieldSupport.{UnsupportedFieldModel, FieldSupportModel, name_after, path_of, or_else, first_unsupported, unsupported_field_of, field_support_of, spec_support_over, spec_support_at}
use Rattle.ipc_schema.specs.declared.field_support.FieldSupport.{FieldSupport}
use Rattle.ipc_schema.specs.declared.field_support.UnsupportedField.{UnsupportedField}

pub support_level : (depth : ℕ) (bytes : List ℕ) (position left : ℕ) → 0 < depth → spec_support_at depth bytes position left ≡ spec_support_over (spec_support_at (depth - 1) bytes) bytes position left
unfolding spec_support_at
support_level depth bytes position left deep = let k : depth ≡ suc (depth - 1) = omega arith in ap (λ (n : ℕ). spec_support_at n bytes position left) k

pub no_support_level : (depth : ℕ) (bytes : List ℕ) (position left : ℕ) → depth ≡ 0 → spec_support_at depth bytes position left ≡ Err errors.Depth
unfolding spec_support_at
no_support_level depth bytes position left none = ap (λ (n : ℕ). spec_support_at n bytes position left) none

-- ---- the first unsupported field, found from the last field on

or_none : (a : Option UnsupportedFieldModel) → or_else a None ≡ a
or_none (Some field) = refl
or_none None = refl

or_assoc : (a b c : Option UnsupportedFieldModel) → or_else (or_else a b) c ≡ or_else a (or_else b c)
or_assoc (Some field) b c = refl
or_assoc None b c = refl

-- the first one of fields, or else one that is found after them
abbrev pub first_or : List FieldSupport → Option UnsupportedField → Option UnsupportedFieldModel
first_or fields found = or_else (first_unsupported (map field_support_of fields)) (option_map unsupported_field_of found)

or_of : (a b : Option UnsupportedField) → option_map unsupported_field_of (option_or a b) ≡ or_else (option_map unsupported_field_of a) (option_map unsupported_field_of b)
or_of (Some field) b = refl
or_of None b = refl

first_of_last : (fields : List FieldSupport) (f : FieldSupport) → first_unsupported (map field_support_of (fields ++ f ∷ [])) ≡ or_else (first_unsupported (map field_support_of fields)) (option_map unsupported_field_of f.unsupported)
first_of_last [] f = or_none (option_map unsupported_field_of f.unsupported)
first_of_last (g ∷ gs) f =
    let own : Option UnsupportedFieldModel = option_map unsupported_field_of g.unsupported in
    ap (λ (rest : Option _). or_else own rest) (first_of_last gs f) ∙ sym (or_assoc own (first_unsupported (map field_support_of gs)) (option_map unsupported_field_of f.unsupported))

pub nothing_found : (fields : List FieldSupport) → first_or fields None ≡ first_unsupported (map field_support_of fields)
nothing_found fields = or_none (first_unsupported (map field_support_of fields))

pub one_before : (all fields : List FieldSupport) (f : FieldSupport) (found : Option UnsupportedField) → all ≡ fields ++ f ∷ [] → first_or fields (option_or f.unsupported found) ≡ first_or all found
one_before all fields f found is =
    let own : Option UnsupportedFieldModel = option_map unsupported_field_of f.unsupported in
    let rest : Option UnsupportedFieldModel = option_map unsupported_field_of found in
    let first : Option UnsupportedFieldModel = first_unsupported (map field_support_of fields) in
    rw (is, first_of_last fields f, or_of f.unsupported found) (sym (or_assoc first own rest))

pub none_before : (fields : List FieldSupport) (found : Option UnsupportedField) → length fields ≡ 0 → option_map unsupported_field_of found ≡ first_or fields found
none_before [] found none = refl
none_before (f ∷ fs) found none = absurd (omega (arith, none))

-- ---- paths

-- the path of the last k names
abbrev pub path_of_last : ℕ → List (Bor (List ℕ)) → List ℕ
path_of_last k names = path_of (map (λ name. name.now) (drop (length names - k) names))

next_name : (n : ℕ) (names : List (Bor (List ℕ))) (d : Bor (List ℕ)) → n < length names → drop n names ≡ slice_index_or names n d ∷ drop (suc n) names
next_name n [] d less = absurd (omega (arith, less))
next_name zero (name ∷ names) d less = refl
next_name (suc n) (name ∷ names) d less = next_name n names d (omega (arith, less))

pub path_next : (k : ℕ) (names : List (Bor (List ℕ))) (d : Bor (List ℕ)) → k < length names → path_of_last (k + 1) names ≡ path_of_last k names ++ name_after k (slice_index_or names (length names - 1 - k) d).now
path_next k names d less =
    let n : ℕ = length names in
    let at : n - (k + 1) ≡ n - 1 - k = omega arith in
    let next : suc (n - 1 - k) ≡ n - k = omega (arith, less) in
    let is : drop (n - (k + 1)) names ≡ slice_index_or names (n - 1 - k) d ∷ drop (n - k) names = rw (at, ← next) (next_name (n - 1 - k) names d (omega (arith, less))) in
    let long : length (map (λ (name : Bor (List ℕ)). name.now) (drop (n - k) names)) ≡ k = length-map (drop (n - k) names) (λ name. name.now) ∙ length-drop (n - k) names ∙ omega (arith, less) in
    rw (is, long) refl

pub path_done : (names : List (Bor (List ℕ))) → path_of_last (length names) names ≡ path_of (map (λ name. name.now) names)
path_done names = let none : length names - length names ≡ 0 = omega arith in rw none refl

pub path_starts : (names : List (Bor (List ℕ))) → path_of_last 0 names ≡ []
path_starts names = let all : length names - 0 ≡ length names = omega arith in rw (all, drop-length names) refl
