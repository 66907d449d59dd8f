-- Nulls in fields that are not nullable.
use Rattle.std.specs.Prelude.{◌&&◌, ◌||◌, not, bytes_eq, Some, None, if◌then◌else◌}
use Rattle.std.proofs.Common.{◌≡◌, ◌∙◌, ℕ, zero, suc, ◌<◌, Bool, true, false, List, [], ◌∷◌, length, get_or, refl, ap, sym, arith}
use Rattle.std.specs.Borrow.{Bor}
use Rattle.json.specs.Find.{is_null}
use Rattle.json.specs.Json as json
use Rattle.json.specs.Json.{Json, Items, no_items, item, Members, no_members, member}
use Rattle.json.specs.Value.{members_view}
use Rattle.json.specs.declared.value.Value.{Value}
use Rattle.json_read.specs.DistinctNames.{FieldHasDistinctFieldNames, FieldsHaveDistinctFieldNames}
use Rattle.json_read.specs.FlatValues.{error_unless}
use Rattle.json_read.specs.RequiredFields.{any_item, any_member, array_has, has_name, has_required_field, has_unexpected_null, is_any_missing, is_any_required, is_required, is_unexpected_member, is_unexpected_null, null_error, object_has}
use Rattle.json_read.specs.StructMembers.{field_name_at_index}
use Rattle.json_read.specs.declared.value_error.ValueError.TheVariants.{UnexpectedNull}
use Rattle.json_read.proofs.Feeding.{eq-false, eq-same, head-apart}
use Rattle.nest_memory.specs.TypeOf.{field_list_of, field_of}
use Rattle.nest_memory.specs.TypeTree as types
use Rattle.nest_memory.specs.TypeTree.{Letters, TypeTree, FieldTree, field, FieldTrees, no_fields, more_fields}
use Rattle.nest_memory.specs.declared.datatypes.field.Field.{Field}
use Rattle.json_write.specs.JsonText.{field_name}
use Rattle.json_write.specs.TypedSlots.{HaveDistinctNames, LacksField}

-- ---- tests

pub or-false : (a b : Bool) → a || b ≡ false → (a ≡ false) × (b ≡ false)
or-false true b h = absurd cc
or-false false b h = (refl, h)

pub neither : (a b : Bool) → a ≡ false → b ≡ false → a || b ≡ false
neither a b h k = ap (λ x. x || b) h ∙ k

or-true : (a b : Bool) → b ≡ true → a || b ≡ true
or-true true b h = refl
or-true false b h = h

either : (b x y : Bool) → x ≡ false → y ≡ false → (if b then x else y) ≡ false
either true x y h k = h
either false x y h k = k

-- ---- a type without such fields

any-item-none : (p : Json → Bool) (js : Items) → ((j : Json) → p j ≡ false) → any_item p js ≡ false
any-item-none p no_items h = refl
any-item-none p (item j js) h = neither (p j) (any_item p js) (h j) (any-item-none p js h)

any-member-none : (p : Letters → Json → Bool) (ms : Members) → ((k : Letters) (j : Json) → p k j ≡ false) → any_member p ms ≡ false
any-member-none p no_members h = refl
any-member-none p (member k j ms) h = neither (p k j) (any_member p ms) (h k j) (any-member-none p ms h)

none-missing : (fs : FieldTrees) (ms : Members) → is_any_required fs ≡ false → is_any_missing fs ms ≡ false
none-missing no_fields ms h = refl
none-missing (more_fields (field n t nullable es) fs) ms h =
    let both = or-false (not nullable || has_required_field t) (is_any_required fs) h in
    let own = or-false (not nullable) (has_required_field t) both.0 in
    neither (not nullable && not (has_name n ms)) (is_any_missing fs ms) (ap (λ x. x && not (has_name n ms)) own.0) (none-missing fs ms both.1)

array-none : (p : Json → Bool) (j : Json) → ((i : Json) → p i ≡ false) → array_has p j ≡ false
array-none p (json.array js) h = any-item-none p js h
array-none p j h = refl

object-none : (p : Letters → Json → Bool) (fs : FieldTrees) (j : Json) → is_any_required fs ≡ false → ((k : Letters) (i : Json) → p k i ≡ false) → object_has p fs j ≡ false
object-none p fs (json.object ms) r h = neither (any_member p ms) (is_any_missing fs ms) (any-member-none p ms h) (none-missing fs ms r)
object-none p fs j r h = refl

mutual
  pub no-null : (t : TypeTree) (j : Json) → has_required_field t ≡ false → has_unexpected_null t j ≡ false
  no-null (types.list f) j h = array-none (is_unexpected_null f) j (λ i. no-null-in f i h)
  no-null (types.large_list f) j h = array-none (is_unexpected_null f) j (λ i. no-null-in f i h)
  no-null (types.fixed_size_list f s) j h = array-none (is_unexpected_null f) j (λ i. no-null-in f i h)
  no-null (types.struct fs) j h = object-none (is_unexpected_member fs) fs j h (λ k i. no-null-named fs k i h)
  no-null (types.extension n t m) j h = no-null t j h
  no-null t j h = refl

  no-null-in : (f : FieldTree) (j : Json) → is_required f ≡ false → is_unexpected_null f j ≡ false
  no-null-in (field n t nullable es) j h =
      let both = or-false (not nullable) (has_required_field t) h in
      neither (not nullable && is_null j) (has_unexpected_null t j) (ap (λ x. x && is_null j) both.0) (no-null t j both.1)

  no-null-named : (fs : FieldTrees) (k : Letters) (j : Json) → is_any_required fs ≡ false → is_unexpected_member fs k j ≡ false
  no-null-named no_fields k j h = refl
  no-null-named (more_fields f fs) k j h =
      let both = or-false (is_required f) (is_any_required fs) h in
      either (bytes_eq (field_name f) k) (is_unexpected_null f j) (is_unexpected_member fs k j) (no-null-in f j both.0) (no-null-named fs k j both.1)

pub no-error : (t : TypeTree) (j : Json) → has_required_field t ≡ false → null_error t j ≡ None
no-error t j h = ap (λ b. error_unless (not b) UnexpectedNull) (no-null t j h)

-- ---- the field of a member

pub null-at : (fields : List Field) (k : Letters) (j : Json) (i : ℕ) (d : Field) → HaveDistinctNames (field_list_of fields) → i < length fields → field_name_at_index (field_list_of fields) i ≡ Some k
    → is_unexpected_member (field_list_of fields) k j ≡ is_unexpected_null (field_of (get_or fields i d)) j
null-at [] k j i d a l e = absurd (omega (arith, l))
null-at (f ∷ fields) k j zero d a l e =
    let named : Some (field_name (field_of f)) ≡ Some k = e in
    let same : field_name (field_of f) ≡ k = cc in
    ap (λ b. if b then is_unexpected_null (field_of f) j else is_unexpected_member (field_list_of fields) k j) (eq-same (field_name (field_of f)) k same)
null-at (f ∷ fields) k j (suc i) d a l e =
    ap (λ b. if b then is_unexpected_null (field_of f) j else is_unexpected_member (field_list_of fields) k j) (eq-false (field_name (field_of f)) k (λ q. head-apart (field_name (field_of f)) k (field_list_of fields) i a.0 e q))
    ∙ null-at fields k j i d a.1 (omega (arith, l)) e

pub null-nowhere : (fs : FieldTrees) (k : Letters) (j : Json) → LacksField k fs → is_unexpected_member fs k j ≡ false
null-nowhere no_fields k j h = refl
null-nowhere (more_fields f fs) k j h = ap (λ b. if b then is_unexpected_null f j else is_unexpected_member fs k j) (eq-false (field_name f) k (λ e. h.0 (sym e))) ∙ null-nowhere fs k j h.1

pub distinct-at : (fields : List Field) (i : ℕ) (d : Field) → FieldsHaveDistinctFieldNames (field_list_of fields) → i < length fields → FieldHasDistinctFieldNames (field_of (get_or fields i d))
distinct-at [] i d h l = absurd (omega (arith, l))
distinct-at (f ∷ fields) zero d h l = h.0
distinct-at (f ∷ fields) (suc i) d h l = distinct-at fields i d h.1 (omega (arith, l))

-- ---- the names of members

pub name-at : {A : Type 0} (ms : List (Bor (List ℕ) × Value A)) (i : ℕ) (d : Bor (List ℕ) × Value A) (n : Letters) → i < length ms → bytes_eq (get_or ms i d).0.now n ≡ true → has_name n (members_view ms) ≡ true
name-at [] i d n l h = absurd (omega (arith, l))
name-at (m ∷ ms) zero d n l h = ap (λ b. b || has_name n (members_view ms)) h
name-at (m ∷ ms) (suc i) d n l h = or-true (bytes_eq m.0.now n) (has_name n (members_view ms)) (name-at ms i d n (omega (arith, l)) h)
