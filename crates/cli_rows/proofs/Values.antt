-- Values of arrays by their kinds.
use Rattle.std.proofs.Common.{◌≡◌, ℕ, ◌<◌, pos, Bool, true, false, not, Option, Some, None, if◌then◌else◌, option_map, refl, sym, ap, subst, ◌∙◌, arith}
use Rattle.std.specs.Prelude.{◌↔◌, IfSome, IsTrue, bytes_eq, unwrap_or}
use Rattle.nest_memory.specs.Floats.{bits_precision, named_precision, spec_float_name, spec_precision_of}
use Rattle.nest_memory.specs.declared.datatypes.floats.Precision.{Precision}
use Rattle.nest_memory.specs.declared.datatypes.floats.Precision.TheVariants.{Half, Single, Double}
use Rattle.nest_memory.specs.declared.datatypes.physical_type.PrimitiveType.{PrimitiveType}
use Rattle.nest_memory.specs.declared.datatypes.physical_type.PrimitiveType.TheVariants as primitives
use Rattle.nest_memory.specs.Physical.{physical_type}
use Rattle.nest_memory.specs.declared.datatypes.physical_type.PhysicalType.{PhysicalType}
use Rattle.nest_memory.specs.declared.datatypes.physical_type.PhysicalType.TheVariants as physical
use Rattle.nest_memory.specs.TypeTree as types
use Rattle.nest_memory.specs.TypeTree.{Letters, TypeTree, logical_type, value_type}
use Rattle.nest_model.specs.Accessors.{child_of, key_at, keys_of, validity_of}
use Rattle.nest_model.specs.Array.{TopFits}
use Rattle.nest_model.specs.FactLaws.{dictionary-facts}
use Rattle.nest_model.specs.Fits.{IsLogically, Names, is_dictionary}
use Rattle.nest_model.specs.Layout as layouts
use Rattle.nest_model.specs.Layout.{Layout, layout_type, weight}
use Rattle.nest_model.specs.Meaning.{len}
use Rattle.nest_model.specs.Nullness.{has_keys, is_null_at}
use Rattle.nest_model.specs.Part.{valid_at}
use Rattle.nest_model.specs.Slot as slots
use Rattle.nest_model.specs.Slot.{Slot}
use Rattle.nest_array.specs.Kinds.{IsKeyed, IsPrimitive}
use Rattle.cli_rows.specs.Comparisons.{boolean_of}
use Rattle.cli_rows.specs.Conditions.{is_boolean_kind, is_valid, truth_of}
use Rattle.cli_rows.specs.Kinds.{float_kind_or, spec_column_kind, spec_has_kind, spec_value_kind}
use Rattle.cli_rows.specs.declared.select.time_literals.TemporalKind.{TemporalKind}
use Rattle.cli_rows.specs.declared.select.kinds.ValueKind.{ValueKind}
use Rattle.cli_rows.specs.declared.select.kinds.ValueKind.TheVariants as kinds

-- a kind that is not of floats is that of the type inside an extension type
unfloated : (found : Option Precision) (inner : Option ValueKind) (k : ValueKind) → ((p : Precision) → Some (kinds.Float p) ≡ Some k → ⊥) → float_kind_or found inner ≡ Some k → inner ≡ Some k
unfloated None inner k other e = e
unfloated (Some p) inner k other e = absurd (other p e)

not-number : (s : ℕ) (p : Precision) → Some (kinds.Float p) ≡ Some (kinds.Number s) → ⊥
not-number s p e = cc

not-temporal : (u : TemporalKind) (p : Precision) → Some (kinds.Float p) ≡ Some (kinds.Temporal u) → ⊥
not-temporal u p e = cc

not-string : (p : Precision) → Some (kinds.Float p) ≡ Some kinds.String → ⊥
not-string p e = cc

not-boolean : (p : Precision) → Some (kinds.Float p) ≡ Some kinds.Boolean → ⊥
not-boolean p e = cc

-- ---- floats

abbrev precision_or : Precision → Option ValueKind → Precision
precision_or q (Some (kinds.Float p)) = p
precision_or q kind = q

named : (n : Letters) (found : Option Precision) (p : Precision) → named_precision n found ≡ Some p → found ≡ Some p
named n None p e = absurd cc
named n (Some q) p e = by (bytes_eq (spec_float_name q) n) e
  where
    by : (b : Bool) → (if b then Some q else None) ≡ Some p → Some q ≡ Some p
    by true e = e
    by false e = absurd cc

-- the native type of the bits
abbrev pub bits_kind : Precision → PrimitiveType
bits_kind Half = primitives.UInt16
bits_kind Single = primitives.UInt32
bits_kind Double = primitives.UInt64

bits-physical : (t : TypeTree) (p : Precision) → bits_precision t ≡ Some p → physical_type t ≡ physical.Primitive (bits_kind p)
bits-physical types.uint16 p e = ap (λ o. physical.Primitive (bits_kind (unwrap_or o Half))) e
bits-physical types.uint32 p e = ap (λ o. physical.Primitive (bits_kind (unwrap_or o Half))) e
bits-physical types.uint64 p e = ap (λ o. physical.Primitive (bits_kind (unwrap_or o Half))) e
bits-physical t p e = absurd cc

float-extension : (n : Letters) (t : TypeTree) (p : Precision) (found : Option Precision) → (spec_value_kind t ≡ Some (kinds.Float p) → physical_type t ≡ physical.Primitive (bits_kind p)) → named_precision n (bits_precision t) ≡ found → float_kind_or found (spec_value_kind t) ≡ Some (kinds.Float p) → physical_type t ≡ physical.Primitive (bits_kind p)
float-extension n t p None inner is e = inner e
float-extension n t p (Some q) inner is e =
    let same : q ≡ p = ap (precision_or q) e in
    subst (λ (r : Precision). physical_type t ≡ physical.Primitive (bits_kind r)) same (bits-physical t q (named n (bits_precision t) q is))

float-kind : (t : TypeTree) (p : Precision) → spec_value_kind t ≡ Some (kinds.Float p) → physical_type t ≡ physical.Primitive (bits_kind p)
float-kind (types.extension n t None) p e = float-extension n t p (named_precision n (bits_precision t)) (float-kind t p) refl e
float-kind (types.extension n t (Some m)) p e = float-kind t p e
float-kind t p e = absurd cc

number-kind : (t : TypeTree) (s : ℕ) → spec_value_kind t ≡ Some (kinds.Number s) → IsPrimitive (physical_type t)
number-kind types.int8 s e = tt
number-kind types.int16 s e = tt
number-kind types.int32 s e = tt
number-kind types.int64 s e = tt
number-kind types.uint8 s e = tt
number-kind types.uint16 s e = tt
number-kind types.uint32 s e = tt
number-kind types.uint64 s e = tt
number-kind (types.duration u) s e = tt
number-kind (types.decimal p d) s e = tt
number-kind (types.extension n t m) s e = number-kind t s (unfloated (spec_precision_of (types.extension n t m)) (spec_value_kind t) (kinds.Number s) (not-number s) e)
number-kind t s e = absurd cc

temporal-kind : (t : TypeTree) (u : TemporalKind) → spec_value_kind t ≡ Some (kinds.Temporal u) → IsPrimitive (physical_type t)
temporal-kind types.date32 u e = tt
temporal-kind types.date64 u e = tt
temporal-kind (types.time32 v) u e = tt
temporal-kind (types.time64 v) u e = tt
temporal-kind (types.timestamp v z) u e = tt
temporal-kind (types.extension n t m) u e = temporal-kind t u (unfloated (spec_precision_of (types.extension n t m)) (spec_value_kind t) (kinds.Temporal u) (not-temporal u) e)
temporal-kind t u e = absurd cc

string-kind : (t : TypeTree) → spec_value_kind t ≡ Some kinds.String → spec_has_kind kinds.String (physical_type t) ≡ true
string-kind types.utf8 e = refl
string-kind types.large_utf8 e = refl
string-kind (types.extension n t m) e = string-kind t (unfloated (spec_precision_of (types.extension n t m)) (spec_value_kind t) kinds.String not-string e)
string-kind t e = absurd cc

boolean-kind : (t : TypeTree) → spec_value_kind t ≡ Some kinds.Boolean → physical_type t ≡ physical.Boolean
boolean-kind types.boolean e = refl
boolean-kind (types.extension n t m) e = boolean-kind t (unfloated (spec_precision_of (types.extension n t m)) (spec_value_kind t) kinds.Boolean not-boolean e)
boolean-kind t e = absurd cc

-- ---- the kinds of a physical type

primitive-numbers : (p : PhysicalType) (s : ℕ) → IsPrimitive p → spec_has_kind (kinds.Number s) p ≡ true
primitive-numbers (physical.Primitive k) s h = refl
primitive-numbers p s h = absurd h

primitive-times : (p : PhysicalType) (u : TemporalKind) → IsPrimitive p → spec_has_kind (kinds.Temporal u) p ≡ true
primitive-times (physical.Primitive k) u h = refl
primitive-times p u h = absurd h

bits-floats : (p : Precision) → spec_has_kind (kinds.Float p) (physical.Primitive (bits_kind p)) ≡ true
bits-floats Half = refl
bits-floats Single = refl
bits-floats Double = refl

pub has-kind : (t : TypeTree) (k : ValueKind) → spec_value_kind t ≡ Some k → spec_has_kind k (physical_type t) ≡ true
has-kind t (kinds.Number s) e = primitive-numbers (physical_type t) s (number-kind t s e)
has-kind t (kinds.Float p) e = ap (spec_has_kind (kinds.Float p)) (float-kind t p e) ∙ bits-floats p
has-kind t (kinds.Temporal u) e = primitive-times (physical_type t) u (temporal-kind t u e)
has-kind t kinds.String e = string-kind t e
has-kind t kinds.Boolean e = ap (spec_has_kind kinds.Boolean) (boolean-kind t e)

pub numbers-primitive : (s : ℕ) (p : PhysicalType) → spec_has_kind (kinds.Number s) p ≡ true → IsPrimitive p
numbers-primitive s (physical.Primitive k) e = tt
numbers-primitive s p e = absurd cc

pub times-primitive : (u : TemporalKind) (p : PhysicalType) → spec_has_kind (kinds.Temporal u) p ≡ true → IsPrimitive p
times-primitive u (physical.Primitive k) e = tt
times-primitive u p e = absurd cc

pub floats-bits : (q : Precision) (p : PhysicalType) → spec_has_kind (kinds.Float q) p ≡ true → p ≡ physical.Primitive (bits_kind q)
floats-bits Half (physical.Primitive primitives.UInt16) e = refl
floats-bits Single (physical.Primitive primitives.UInt32) e = refl
floats-bits Double (physical.Primitive primitives.UInt64) e = refl
floats-bits q p e = absurd cc

pub strings-utf8 : (p : PhysicalType) → spec_has_kind kinds.String p ≡ true → (p ≡ physical.Utf8 → ⊥) → (p ≡ physical.LargeUtf8 → ⊥) → ⊥
strings-utf8 physical.Utf8 e h k = h refl
strings-utf8 physical.LargeUtf8 e h k = k refl
strings-utf8 p e h k = cc

booleans-are : (p : PhysicalType) → spec_has_kind kinds.Boolean p ≡ true → is_boolean_kind p ≡ true
booleans-are physical.Boolean e = refl
booleans-are p e = absurd cc

pub boolean-truth : (t : TypeTree) (v : Slot) → spec_has_kind kinds.Boolean (physical_type t) ≡ true → truth_of (t, v) ≡ boolean_of v
boolean-truth t v e = ap (λ b. if b then boolean_of v else None) (booleans-are (physical_type t) e)

-- ---- columns

no-values : (t : TypeTree) → (IsKeyed (physical_type t) → ⊥) → value_type t ≡ None
no-values (types.dictionary k t b) h = absurd (h tt)
no-values (types.extension n t m) h = no-values t h
no-values t h = refl

pub unkeyed-kind : (t : TypeTree) (k : ValueKind) → (IsKeyed (physical_type t) → ⊥) → spec_column_kind t ≡ Some k → spec_has_kind k (physical_type t) ≡ true
unkeyed-kind t k h e = has-kind t k (sym (ap (λ o. unwrap_or (option_map spec_value_kind o) (spec_value_kind t)) (no-values t h)) ∙ e)

physical-logical : (t : TypeTree) → physical_type t ≡ physical_type (logical_type t)
physical-logical (types.extension n t m) = physical-logical t
physical-logical t = refl

values-kind : (o : Option TypeTree) (t u : TypeTree) (k : ValueKind) → IsLogically o u → unwrap_or (option_map spec_value_kind o) (spec_value_kind t) ≡ Some k → spec_has_kind k (physical_type u) ≡ true
values-kind None t u k h e = absurd h
values-kind (Some v) t u k h e = ap (spec_has_kind k) (physical-logical u ∙ ap physical_type h ∙ sym (physical-logical v)) ∙ has-kind v k e

-- the array of the values of a dictionary
pub keyed-kind : (a c : Layout) (k : ValueKind) → TopFits a → a ≡ layouts.dictionary (layout_type a) (keys_of a) (child_of a) → c ≡ child_of a → spec_column_kind (layout_type a) ≡ Some k → spec_has_kind k (physical_type (layout_type c)) ≡ true
keyed-kind a c k fits kind is e =
    let typed = (dictionary-facts (layout_type a) (keys_of a) (child_of a) (subst TopFits kind fits)).value_typed in
    ap (λ b. spec_has_kind k (physical_type (layout_type b))) is
    ∙ values-kind (value_type (layout_type a)) (layout_type a) (layout_type (child_of a)) k typed e

-- ---- nulls

keyed-type : (t : TypeTree) → IsTrue (is_dictionary t) → IsKeyed (physical_type t)
keyed-type (types.dictionary k t b) h = tt
keyed-type (types.extension n t m) h = keyed-type t h
keyed-type t h = absurd cc

pub unkeyed : (a : Layout) → TopFits a → (IsKeyed (physical_type (layout_type a)) → ⊥) → has_keys a ≡ false
unkeyed (layouts.dictionary t ks c) fits h = absurd (h (keyed-type t fits.1.0))
unkeyed a fits h = refl

not-null : (s : Slot) → (s ≡ slots.null → ⊥) → false ≡ not (is_valid s)
not-null slots.null h = absurd (h refl)
not-null (slots.boolean b) h = refl
not-null (slots.number zs) h = refl
not-null (slots.utf8 bs) h = refl
not-null (slots.bytes bs) h = refl
not-null (slots.list ss) h = refl
not-null (slots.record_of ss) h = refl
not-null (slots.pick f u s) h = refl

pub null-test : (b : Bool) (s : Slot) → (IsTrue b ↔ (s ≡ slots.null)) → b ≡ not (is_valid s)
null-test true s h = let e : s ≡ slots.null = h.0 refl in ap (λ v. not (is_valid v)) (sym e)
null-test false s h = not-null s (λ e. let f = h.1 e in cc)

valid-key : (b : Bool) → not b ≡ false → b ≡ true
valid-key true h = refl
valid-key false h = cc

-- a key that is not null is the index of a value
pub key-within : (a : Layout) (i k : ℕ) → TopFits a → a ≡ layouts.dictionary (layout_type a) (keys_of a) (child_of a) → i < len a → is_null_at a i ≡ false → pos k ≡ key_at (keys_of a) i → k < len (child_of a)
key-within a i k fits kind within valid is =
    let f = subst TopFits kind fits in
    let l = ap len kind in
    let v = valid-key (valid_at (validity_of (keys_of a)) i) (sym (ap (λ b. is_null_at b i) kind) ∙ valid) in
    subst (λ z. Names z (len (child_of a))) (sym is) (f.1.1.1.1 i (omega (arith, l, within)) v)

pub lighter : (a c : Layout) → a ≡ layouts.dictionary (layout_type a) (keys_of a) (child_of a) → c ≡ child_of a → weight c < weight a
lighter a c kind is = let w = ap weight kind in let v = ap weight is in omega (arith, w, v)

pub each-length : {A : Type 0} (f : A → Layout) (o : Option A) (n : ℕ) → ((c : Layout) → option_map f o ≡ Some c → len c ≡ n) → IfSome o (λ a. len (f a) ≡ n)
each-length f None n h = tt
each-length f (Some a) n h = h (f a) refl
