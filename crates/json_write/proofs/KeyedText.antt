-- The text of a dictionary is that of its values. The data type of the array of values may lack extension types of the dictionary's, which
-- changes the text of no other values than native ones.
use Rattle.std.proofs.Common.{◌≡◌, ℕ, ℤ, pos, Bool, true, false, List, [], Option, Some, None, if◌then◌else◌, refl, sym, ap, ◌∙◌, subst}
use Rattle.nest_array.proofs.Keyed.{IsDictionaryOf, keyed-slot}
use Rattle.nest_array.specs.Kinds.{IsPrimitive}
use Rattle.nest_array.specs.SeenScalar.{shown_type}
use Rattle.nest_memory.specs.FloatLaws.{float_is}
use Rattle.nest_memory.specs.Floats.{spec_bits_type, spec_precision_of}
use Rattle.nest_memory.specs.Physical.{physical_type}
use Rattle.nest_memory.specs.TypeTree as types
use Rattle.nest_memory.specs.TypeTree.{Letters, TypeTree, field, logical_type, value_type}
use Rattle.nest_memory.specs.declared.datatypes.floats.Precision.{Precision}
use Rattle.nest_memory.specs.declared.datatypes.floats.Precision.TheVariants.{Half, Single, Double}
use Rattle.nest_memory.specs.declared.datatypes.physical_type.PhysicalType.TheVariants as physical
use Rattle.nest_memory.specs.declared.datatypes.physical_type.PrimitiveType.{PrimitiveType}
use Rattle.nest_model.specs.Accessors.{child_of, key_at, keys_of, natives_of, validity_of}
use Rattle.nest_model.specs.Array.{TopFits}
use Rattle.nest_model.specs.FactLaws.{dictionary-facts}
use Rattle.nest_model.specs.Fits.{IsLogically}
use Rattle.nest_model.specs.Layout as layouts
use Rattle.nest_model.specs.Layout.{Layout, layout_type}
use Rattle.nest_model.specs.Meaning.{slot}
use Rattle.nest_model.specs.Nullness.{is_null_at}
use Rattle.nest_model.specs.Part.{to_index, valid_at}
use Rattle.nest_model.specs.Slot as slots
use Rattle.nest_model.specs.Slot.{Slot}
use Rattle.json_write.proofs.TypeFormats.{shown-native, storage}
use Rattle.json_write.specs.Formats.{extension_format, format_of_type}
use Rattle.json_write.specs.JsonText.{items_type, json_of_native, json_of_slot, members_of, slot_json}

-- ---- types without their outer extension types

items-logical : (t : TypeTree) → items_type t ≡ items_type (logical_type t)
items-logical (types.extension n t m) = items-logical t
items-logical t = refl

members-logical : (t : TypeTree) → members_of t ≡ members_of (logical_type t)
members-logical (types.extension n t m) = members-logical t
members-logical t = refl

shown-logical : (t : TypeTree) → shown_type t ≡ shown_type (logical_type t)
shown-logical (types.extension n t m) = shown-logical t
shown-logical t = refl

physical-logical : (t : TypeTree) → physical_type t ≡ physical_type (logical_type t)
physical-logical (types.extension n t m) = physical-logical t
physical-logical t = refl

bits-native : (p : Precision) → IsPrimitive (physical_type (spec_bits_type p))
bits-native Half = tt
bits-native Single = tt
bits-native Double = tt

-- an extension type of other values is no floating-point type
plain-extension : (n : Letters) (t : TypeTree) (m : Option Letters) (o : Option Precision) → spec_precision_of (types.extension n t m) ≡ o → ¬ IsPrimitive (physical_type t)
    → extension_format o (format_of_type t) ≡ format_of_type t
plain-extension n t m None e h = refl
plain-extension n t m (Some p) e h = absurd (h (subst (λ u. IsPrimitive (physical_type u)) (sym (ap storage (float_is (types.extension n t m) p e))) (bits-native p)))

format-extension : (n : Letters) (t : TypeTree) (m : Option Letters) → ¬ IsPrimitive (physical_type t) → format_of_type (types.extension n t m) ≡ format_of_type t
format-extension n t m h = plain-extension n t m (spec_precision_of (types.extension n t m)) refl h

format-logical : (t : TypeTree) → ¬ IsPrimitive (physical_type t) → format_of_type t ≡ format_of_type (logical_type t)
format-logical (types.extension n t m) h = format-extension n t m h ∙ format-logical t h
format-logical t h = refl

-- ---- the type of a dictionary and that of its array of values

no-primitive : (t u : TypeTree) → IsLogically (value_type t) u → ¬ IsPrimitive (physical_type t)
no-primitive (types.dictionary k t b) u h = λ x. x
no-primitive (types.extension n t m) u h = no-primitive t u h
no-primitive t u h = absurd h

other-primitive : (t u : TypeTree) → logical_type u ≡ logical_type t → ¬ IsPrimitive (physical_type u) → ¬ IsPrimitive (physical_type t)
other-primitive t u h other = λ x. other (subst IsPrimitive (physical-logical t ∙ ap physical_type (sym h) ∙ sym (physical-logical u)) x)

keyed-format : (t u : TypeTree) → IsLogically (value_type t) u → ¬ IsPrimitive (physical_type u) → format_of_type u ≡ format_of_type t
keyed-format (types.dictionary k t b) u h other = format-logical u other ∙ ap format_of_type h ∙ sym (format-logical t (other-primitive t u h other))
keyed-format (types.extension n t m) u h other = keyed-format t u h other ∙ sym (format-extension n t m (no-primitive t u h))
keyed-format t u h other = absurd h

keyed-items : (t u : TypeTree) → IsLogically (value_type t) u → items_type u ≡ items_type t
keyed-items (types.dictionary k t b) u h = items-logical u ∙ ap items_type h ∙ sym (items-logical t)
keyed-items (types.extension n t m) u h = keyed-items t u h
keyed-items t u h = absurd h

keyed-members : (t u : TypeTree) → IsLogically (value_type t) u → members_of u ≡ members_of t
keyed-members (types.dictionary k t b) u h = members-logical u ∙ ap members_of h ∙ sym (members-logical t)
keyed-members (types.extension n t m) u h = keyed-members t u h
keyed-members t u h = absurd h

-- the native type of the values
keyed-native : (t u : TypeTree) (k : PrimitiveType) → IsLogically (value_type t) u → physical_type u ≡ physical.Primitive k → physical_type (shown_type t) ≡ physical.Primitive k
keyed-native (types.dictionary j t b) u k h e = ap physical_type (shown-logical t ∙ ap shown_type (sym h) ∙ sym (shown-logical u)) ∙ shown-native u k e
keyed-native (types.extension n t m) u k h e = keyed-native t u k h e
keyed-native t u k h e = absurd h

-- ---- text

same-text : (t u : TypeTree) (s : Slot) → format_of_type u ≡ format_of_type t → items_type u ≡ items_type t → members_of u ≡ members_of t → json_of_slot u s ≡ json_of_slot t s
same-text t u slots.null f i m = refl
same-text t u (slots.boolean x) f i m = refl
same-text t u (slots.number zs) f i m = ap (λ v. json_of_native v (slots.number zs)) f
same-text t u (slots.utf8 x) f i m = refl
same-text t u (slots.bytes x) f i m = refl
same-text t u (slots.list ss) f i m = ap (λ w. json_of_slot (types.list (field [] w true [])) (slots.list ss)) i
same-text t u (slots.record_of ss) f i m = ap (λ fs. json_of_slot (types.struct fs) (slots.record_of ss)) m
same-text t u (slots.pick k w s) f i m = ap (λ fs. json_of_slot (types.struct fs) (slots.pick k w s)) m

-- values that are not native
pub keyed-shown : (a c : Layout) (i k : ℕ) → TopFits a → IsDictionaryOf a → is_null_at a i ≡ false → c ≡ child_of a → ¬ IsPrimitive (physical_type (layout_type c)) → pos k ≡ key_at (keys_of a) i → slot_json c k ≡ slot_json a i
keyed-shown a c i k h d v e other p =
    let typed = (dictionary-facts (layout_type a) (keys_of a) (child_of a) (subst TopFits d h)).value_typed in
    let t = layout_type a in
    let u = layout_type c in
    let like : IsLogically (value_type t) u = subst (λ b. IsLogically (value_type t) (layout_type b)) (sym e) typed in
    same-text t u (slot c k) (keyed-format t u like other) (keyed-items t u like) (keyed-members t u like)
    ∙ ap (λ b. json_of_slot t (slot b k)) e
    ∙ ap (λ z. json_of_slot t (slot (child_of a) (to_index z))) p
    ∙ sym (ap (json_of_slot t) (keyed-slot a i d v))

masked-text : (t : TypeTree) (zs : List ℤ) (v : Bool) → json_of_native (format_of_type t) (if v then slots.number zs else slots.null) ≡ json_of_slot t (if v then slots.number zs else slots.null)
masked-text t zs true = refl
masked-text t zs false = refl

-- native values have the text of their format
pub native-text : (t : TypeTree) (k : PrimitiveType) (a : Layout) (i : ℕ) → a ≡ layouts.primitive k (layout_type a) (natives_of a) (validity_of a) → json_of_native (format_of_type t) (slot a i) ≡ json_of_slot t (slot a i)
native-text t k a i e = subst (λ b. json_of_native (format_of_type t) (slot b i) ≡ json_of_slot t (slot b i)) (sym e) (masked-text t _ (valid_at (validity_of a) i))

pub native-shown-keyed : (a c : Layout) (i k : ℕ) (n : PrimitiveType) → c ≡ layouts.primitive n (layout_type c) (natives_of c) (validity_of c) → IsDictionaryOf a → is_null_at a i ≡ false → c ≡ child_of a → pos k ≡ key_at (keys_of a) i
    → json_of_native (format_of_type (layout_type a)) (slot c k) ≡ slot_json a i
native-shown-keyed a c i k n native d v e p =
    native-text (layout_type a) n c k native
    ∙ ap (λ b. json_of_slot (layout_type a) (slot b k)) e
    ∙ ap (λ z. json_of_slot (layout_type a) (slot (child_of a) (to_index z))) p
    ∙ sym (ap (json_of_slot (layout_type a)) (keyed-slot a i d v))

-- the native type of the array of values has the format of the dictionary
pub keyed-kind : (a c : Layout) (k : PrimitiveType) → TopFits a → IsDictionaryOf a → c ≡ child_of a → physical_type (layout_type c) ≡ physical.Primitive k → physical_type (shown_type (layout_type a)) ≡ physical.Primitive k
keyed-kind a c k h d e typed =
    keyed-native (layout_type a) (layout_type (child_of a)) k (dictionary-facts (layout_type a) (keys_of a) (child_of a) (subst TopFits d h)).value_typed
    (ap (λ b. physical_type (layout_type b)) (sym e) ∙ typed)
