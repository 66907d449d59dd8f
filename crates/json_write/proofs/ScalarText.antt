-- The text of a scalar, and of the members of a struct scalar.
use Rattle.std.specs.Prelude.{Some, ◌⊎◌, List as Seq}
use Rattle.std.proofs.Common.{◌≡◌, ℕ, ◌+◌, Bool, true, List, [], ◌∷◌, ◌++◌, length, codes, refl, sym, ap, ◌∙◌, inl, inr, arith, append-nil}
use Rattle.json.specs.Print.{quoted}
use Rattle.nest_array.specs.ScalarParts.{ScalarParts, slots_in, types_in}
use Rattle.nest_model.specs.Layout.{field_types, Layout, layout_type}
use Rattle.nest_array.specs.SeenScalar.{shown_type}
use Rattle.nest_memory.specs.TypeOf.{field_of, field_list_of}
use Rattle.nest_memory.specs.TypeTree as types
use Rattle.nest_memory.specs.TypeTree.{TypeTree, FieldTrees, field_type, fields_of, item_type}
use Rattle.nest_memory.specs.declared.datatypes.field.Field.{Field}
use Rattle.nest_model.specs.Meaning.{run, slot, slots_of, len}
use Rattle.nest_model.specs.Slot as slots
use Rattle.nest_model.specs.Slot.{Slot, Slots, seal, node_count, count_within}
use Rattle.json_write.specs.JsonText.{items_type, members_of, field_name, comma, json_of_slot, json_members, json_list}
use Rattle.json_write.proofs.Nesting.{items-type-of, text-step}

items-shown : (t : TypeTree) → items_type t ≡ items_type (shown_type t)
items-shown (types.dictionary k t b) = items-shown t
items-shown (types.extension n t m) = items-shown t
items-shown t = refl

pub members-shown : (t : TypeTree) → fields_of (shown_type t) ≡ members_of t
members-shown (types.dictionary k t b) = members-shown t
members-shown (types.extension n t m) = members-shown t
members-shown t = refl

pub items-text : (t : TypeTree) (a : Layout) (n : ℕ) (s : Slot) → n ≡ len a → item_type (shown_type t) ≡ Some (layout_type a) → slots.list (seal (slots_of a)) ≡ s
    → json_list (layout_type a) (run (slot a) 0 n) ≡ json_of_slot t s
items-text t a n s e h q =
    ap (λ m. json_list (layout_type a) (run (slot a) 0 m)) e
    ∙ ap (λ u. json_list u (slots_of a)) (sym (items-shown t ∙ items-type-of (shown_type t) (layout_type a) h))
    ∙ ap (json_of_slot t) q

-- the first field and its scalar
pub record FirstValue (v : ScalarParts) (f : Field) (fs : Seq Field) (vs every : Seq ScalarParts) : Type 0 where
  pub typed : v.data_type ≡ field_type (field_of f)
  pub rest_typed : field_types (field_list_of fs) ≡ types_in vs
  pub lighter : node_count v.slot + count_within (slots_in vs) ≡ count_within (slots_in every)

pub first-value : (v : ScalarParts) (f : Field) (all fs : Seq Field) (every vs : Seq ScalarParts) → all ≡ f ∷ fs → every ≡ v ∷ vs
    → field_types (field_list_of all) ≡ types_in every → FirstValue v f fs vs every
first-value v f all fs every vs e h t =
    let u : (field_type (field_of f) ∷ field_types (field_list_of fs)) ≡ (v.data_type ∷ types_in vs) =
    sym (ap (λ gs. field_types (field_list_of gs)) e) ∙ t ∙ ap types_in h in
    record { typed = cc; rest_typed = cc; lighter = sym (ap (λ ws. count_within (slots_in ws)) h) }

pub value-text : (v : ScalarParts) (f : Field) (all fs : Seq Field) (every vs : Seq ScalarParts) (after : Bool) (done name whole : List ℕ) → all ≡ f ∷ fs → every ≡ v ∷ vs
    → v.data_type ≡ field_type (field_of f) → name ≡ field_name (field_of f)
    → done ++ json_members (field_list_of all) after (slots_in every) ≡ whole
    → ((((done ++ comma after) ++ quoted name) ++ codes ":") ++ json_of_slot v.data_type v.slot) ++ json_members (field_list_of fs) true (slots_in vs) ≡ whole
value-text v f all fs every vs after done name whole e h t q w =
    let rest = json_members (field_list_of fs) true (slots_in vs) in
    text-step done (comma after) (quoted name) (json_of_slot v.data_type v.slot) rest
    ∙ ap (λ n. done ++ (comma after ++ (quoted n ++ 58 ∷ (json_of_slot v.data_type v.slot ++ rest)))) q
    ∙ ap (λ u. done ++ (comma after ++ (quoted (field_name (field_of f)) ++ 58 ∷ (json_of_slot u v.slot ++ rest)))) t
    ∙ sym (ap (λ gs. done ++ json_members (field_list_of gs) after (slots_in every)) e ∙ ap (λ ws. done ++ json_members (field_list_of (f ∷ fs)) after (slots_in ws)) h)
    ∙ w

-- no field or no scalar is left
pub values-none : (all : Seq Field) (every : Seq ScalarParts) (after : Bool) (done whole : List ℕ) → field_types (field_list_of all) ≡ types_in every → (length all ≡ 0) ⊎ (length every ≡ 0)
    → done ++ json_members (field_list_of all) after (slots_in every) ≡ whole → done ≡ whole
values-none [] [] after done whole t e w = sym (append-nil done) ∙ w
values-none [] (v ∷ vs) after done whole t e w = absurd (let z : [] ≡ (v.data_type ∷ types_in vs) = t in cc)
values-none (f ∷ fs) [] after done whole t e w = absurd (let z : (field_type (field_of f) ∷ field_types (field_list_of fs)) ≡ [] = t in cc)
values-none (f ∷ fs) (v ∷ vs) after done whole t (inl e) w = absurd (omega arith)
values-none (f ∷ fs) (v ∷ vs) after done whole t (inr e) w = absurd (omega arith)
