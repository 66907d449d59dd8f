-- The fields that errors are in.
use Rattle.std.specs.Prelude.{◌||◌, not, bytes_eq, is_some, Option, Some, None, if◌then◌else◌}
use Rattle.std.specs.List.{list_any}
use Rattle.std.proofs.Common.{◌≡◌, ◌∙◌, ℕ, zero, suc, ◌+◌, ◌<◌, Bool, true, false, List, [], ◌∷◌, ◌++◌, length, take, drop, get_or, refl, ap, sym, arith}
use Rattle.std.proofs.lemmas.List.{drop_more, map_push, take_more}
use Rattle.std.specs.Borrow.{Bor}
use Rattle.json.specs.Json as json
use Rattle.json.specs.Json.{Json, Members, no_members, member}
use Rattle.json.specs.Value.{members_view, value_view}
use Rattle.json.specs.declared.value.Value.{Value}
use Rattle.json_read.specs.ErrorPaths.{first_member_path, first_missing_path, first_path, names_of, path_after, spec_error_path, spec_field_path, spec_member_path, spec_path_below, spec_row_path}
use Rattle.json_read.specs.FlatValues.{error_unless, first_error}
use Rattle.json_read.specs.JsonLines.{row_error}
use Rattle.json_read.specs.JsonSlots.{is_named, members_error, name_error, type_named, value_error}
use Rattle.json_read.specs.RequiredFields.{any_member, has_name, is_any_missing, is_missing, is_unexpected_member, is_unexpected_null, null_error}
use Rattle.json_read.specs.StructMembers.{field_name_at_index}
use Rattle.json_read.specs.declared.value_error.ValueError.{ValueError}
use Rattle.json_read.specs.declared.value_error.ValueError.TheVariants.{DuplicateField, UnexpectedNull, UnknownField}
use Rattle.json_read.proofs.Feeding.{eq-false, eq-same, head-apart}
use Rattle.json_read.proofs.RequiredLaws.{neither}
use Rattle.nest_memory.specs.TypeOf.{field_list_of, field_of}
use Rattle.nest_memory.specs.TypeTree as types
use Rattle.nest_memory.specs.TypeTree.{Letters, FieldTree, field, FieldTrees, no_fields, more_fields, field_type}
use Rattle.nest_memory.specs.declared.datatypes.field.Field.{Field}
use Rattle.json_write.specs.JsonText.{field_name}
use Rattle.json_write.specs.TypedSlots.{HaveDistinctNames, LacksField}

-- ---- the field of a member

pub path-at : (nulls : Bool) (fields : List Field) (k : Letters) (j : Json) (i : ℕ) (d : Field) → HaveDistinctNames (field_list_of fields) → i < length fields → field_name_at_index (field_list_of fields) i ≡ Some k
    → spec_member_path nulls (field_list_of fields) k j ≡ spec_field_path nulls (field_of (get_or fields i d)) j
path-at nulls [] k j i d a l e = absurd (omega (arith, l))
path-at nulls (f ∷ fields) k j zero d a l e =
    let named : Some (field_name (field_of f)) ≡ Some k = e in
    let same : field_name (field_of f) ≡ k = cc in
    ap (λ b. if b then spec_field_path nulls (field_of f) j else spec_member_path nulls (field_list_of fields) k j) (eq-same (field_name (field_of f)) k same)
path-at nulls (f ∷ fields) k j (suc i) d a l e =
    ap (λ b. if b then spec_field_path nulls (field_of f) j else spec_member_path nulls (field_list_of fields) k j) (eq-false (field_name (field_of f)) k (λ q. head-apart (field_name (field_of f)) k (field_list_of fields) i a.0 e q))
    ∙ path-at nulls fields k j i d a.1 (omega (arith, l)) e

pub path-nowhere : (nulls : Bool) (fs : FieldTrees) (k : Letters) (j : Json) → LacksField k fs → spec_member_path nulls fs k j ≡ Some k
path-nowhere nulls no_fields k j h = refl
path-nowhere nulls (more_fields f fs) k j h = ap (λ b. if b then spec_field_path nulls f j else spec_member_path nulls fs k j) (eq-false (field_name f) k (λ e. h.0 (sym e))) ∙ path-nowhere nulls fs k j h.1

-- ---- members, one after another

pub named-before : {A : Type 0} (n : Letters) (ms : List (Bor (List ℕ) × Value A)) → has_name n (members_view ms) ≡ list_any (λ q. bytes_eq q n) (names_of ms)
named-before n [] = refl
named-before n (m ∷ ms) = ap (λ b. bytes_eq m.0.now n || b) (named-before n ms)

module _ {A : Type 0} (p : Letters → Json → Option Letters) (ms : List (Bor (List ℕ) × Value A)) (i : ℕ) (x : Bor (List ℕ) × Value A) (lt : i < length ms) (at : x ≡ get_or ms i x) where
  here : members_view (drop i ms) ≡ member x.0.now (value_view x.1) (members_view (drop (i + 1) ms))
  here = ap members_view (drop_more ms i x lt) ∙ ap (λ (y : Bor (List ℕ) × Value A). members_view (y ∷ drop (i + 1) ms)) (sym at)

  names : names_of (take (i + 1) ms) ≡ names_of (take i ms) ++ x.0.now ∷ []
  names = ap names_of (take_more ms i x lt) ∙ map_push (λ (m : Bor (List ℕ) × Value A). m.0.now) (take i ms) (get_or ms i x) ∙ ap (λ (y : Bor (List ℕ) × Value A). names_of (take i ms) ++ y.0.now ∷ []) (sym at)

  from : (o : Option Letters) → path_after p (names_of (take i ms)) x.0.now (value_view x.1) ≡ o
      → first_member_path p (names_of (take i ms)) (members_view (drop i ms)) ≡ first_path o (first_member_path p (names_of (take i ms) ++ x.0.now ∷ []) (members_view (drop (i + 1) ms)))
  from o e =
      ap (first_member_path p (names_of (take i ms))) here
      ∙ ap (λ r. first_path r (first_member_path p (names_of (take i ms) ++ x.0.now ∷ []) (members_view (drop (i + 1) ms)))) e

  pub members-stop : (path : Letters) → path_after p (names_of (take i ms)) x.0.now (value_view x.1) ≡ Some path → first_member_path p (names_of (take i ms)) (members_view (drop i ms)) ≡ Some path
  members-stop path e = from (Some path) e

  pub members-next : path_after p (names_of (take i ms)) x.0.now (value_view x.1) ≡ None → first_member_path p (names_of (take i ms)) (members_view (drop i ms)) ≡ first_member_path p (names_of (take (i + 1) ms)) (members_view (drop (i + 1) ms))
  members-next e = from None e ∙ ap (λ ns. first_member_path p ns (members_view (drop (i + 1) ms))) (sym names)

-- ---- an object without a path has no error

if-none : (b : Bool) (path : Letters) → (if b then Some path else None) ≡ None → b ≡ false
if-none true path h = absurd cc
if-none false path h = refl

neither-path : (a b : Option Letters) → first_path a b ≡ None → (a ≡ None) × (b ≡ None)
neither-path None b h = (refl, h)
neither-path (Some path) b h = absurd cc

not-after : (b : Bool) (k : Letters) (o : Option Letters) → (if b then Some k else o) ≡ None → (b ≡ false) × (o ≡ None)
not-after true k o h = absurd cc
not-after false k o h = (refl, h)

none-of : (o : Option ValueError) → is_some o ≡ false → o ≡ None
none-of None h = refl
none-of (Some e) h = absurd cc

neither-error : (a b : Option ValueError) → a ≡ None → b ≡ None → first_error a b ≡ None
neither-error a b h k = ap (λ o. first_error o b) h ∙ k

field-valid : (f : FieldTree) (j : Json) → spec_field_path false f j ≡ None → value_error (field_type f) j ≡ None
field-valid (field n t b es) j h = none-of (value_error t j) (if-none (is_some (value_error t j)) (spec_path_below n (spec_error_path false t j)) h)

member-valid : (fs : FieldTrees) (k : Letters) (j : Json) → spec_member_path false fs k j ≡ None → (is_named k fs ≡ true) × (value_error (type_named k fs) j ≡ None)
member-valid no_fields k j h = absurd cc
member-valid (more_fields f fs) k j h = by (bytes_eq (field_name f) k) h (λ e. member-valid fs k j e)
  where
    by : (b : Bool) → (if b then spec_field_path false f j else spec_member_path false fs k j) ≡ None → (spec_member_path false fs k j ≡ None → (is_named k fs ≡ true) × (value_error (type_named k fs) j ≡ None))
        → (b || is_named k fs ≡ true) × (value_error (if b then field_type f else type_named k fs) j ≡ None)
    by true e rest = (refl, field-valid f j e)
    by false e rest = rest e

name-valid : (fs : FieldTrees) (before : List Letters) (k : Letters) → is_named k fs ≡ true → list_any (λ q. bytes_eq q k) before ≡ false → name_error fs before k ≡ None
name-valid fs before k named new = neither-error _ _ (ap (λ b. error_unless b UnknownField) named) (ap (λ b. error_unless (not b) DuplicateField) new)

members-valid : (fs : FieldTrees) (before : List Letters) (ms : Members) → first_member_path (spec_member_path false fs) before ms ≡ None → members_error fs before ms ≡ None
members-valid fs before no_members h = refl
members-valid fs before (member k j ms) h =
    let both = neither-path (path_after (spec_member_path false fs) before k j) (first_member_path (spec_member_path false fs) (before ++ k ∷ []) ms) h in
    let after = not-after (list_any (λ q. bytes_eq q k) before) k (spec_member_path false fs k j) both.0 in
    let valid = member-valid fs k j after.1 in
    neither-error _ _ (name-valid fs before k valid.0 after.0) (neither-error _ _ valid.1 (members-valid fs (before ++ k ∷ []) ms both.1))

field-present : (f : FieldTree) (j : Json) → spec_field_path true f j ≡ None → is_unexpected_null f j ≡ false
field-present (field n t b es) j h = if-none (is_unexpected_null (field n t b es) j) (spec_path_below n (spec_error_path true t j)) h

member-present : (fs : FieldTrees) (k : Letters) (j : Json) → spec_member_path true fs k j ≡ None → is_unexpected_member fs k j ≡ false
member-present no_fields k j h = refl
member-present (more_fields f fs) k j h = by (bytes_eq (field_name f) k) h (λ e. member-present fs k j e)
  where
    by : (b : Bool) → (if b then spec_field_path true f j else spec_member_path true fs k j) ≡ None → (spec_member_path true fs k j ≡ None → is_unexpected_member fs k j ≡ false) → (if b then is_unexpected_null f j else is_unexpected_member fs k j) ≡ false
    by true e rest = field-present f j e
    by false e rest = rest e

members-present : (fs : FieldTrees) (before : List Letters) (ms : Members) → first_member_path (spec_member_path true fs) before ms ≡ None → any_member (is_unexpected_member fs) ms ≡ false
members-present fs before no_members h = refl
members-present fs before (member k j ms) h =
    let both = neither-path (path_after (spec_member_path true fs) before k j) (first_member_path (spec_member_path true fs) (before ++ k ∷ []) ms) h in
    let after = not-after (list_any (λ q. bytes_eq q k) before) k (spec_member_path true fs k j) both.0 in
    neither (is_unexpected_member fs k j) (any_member (is_unexpected_member fs) ms) (member-present fs k j after.1) (members-present fs (before ++ k ∷ []) ms both.1)

none-missing : (fs : FieldTrees) (ms : Members) → first_missing_path fs ms ≡ None → is_any_missing fs ms ≡ false
none-missing no_fields ms h = refl
none-missing (more_fields f fs) ms h =
    let both = not-after (is_missing f ms) (field_name f) (first_missing_path fs ms) h in
    neither (is_missing f ms) (is_any_missing fs ms) both.0 (none-missing fs ms both.1)

pub no-path : (fs : FieldTrees) (ms : Members) → spec_row_path (types.struct fs) (json.object ms) ≡ None → row_error (types.struct fs) (json.object ms) ≡ None
no-path fs ms h = by (members_error fs [] ms) refl h
  where
    by : (o : Option ValueError) → members_error fs [] ms ≡ o → spec_error_path (not (is_some o)) (types.struct fs) (json.object ms) ≡ None → first_error o (null_error (types.struct fs) (json.object ms)) ≡ None
    by None e p =
        let both = neither-path (first_member_path (spec_member_path true fs) [] ms) (first_missing_path fs ms) p in
        ap (λ b. error_unless (not b) UnexpectedNull) (neither _ _ (members-present fs [] ms both.0) (none-missing fs ms both.1))
    by (Some r) e p =
        let both = neither-path (first_member_path (spec_member_path false fs) [] ms) (first_missing_path fs ms) p in
        let never : Some r ≡ None = sym e ∙ members-valid fs [] ms both.0 in
        absurd cc
