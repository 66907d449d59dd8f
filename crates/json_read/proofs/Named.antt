-- Names of fields by their places.
use Rattle.std.specs.Prelude.{◌≢◌, bytes_eq, Some}
use Rattle.std.proofs.Common.{◌≡◌, ℕ, zero, suc, ◌+◌, ◌<◌, ◌≤◌, List, [], ◌∷◌, length, get_or, true, false, inl, inr, refl, sym, ap, ◌∙◌, arith}
use Rattle.std.proofs.lemmas.Bool.{cases_lt}
use Rattle.std.proofs.lemmas.Slice.Eq.{bytes_eq-Decides}
use Rattle.json_read.specs.StructMembers.{field_name_at_index}
use Rattle.nest_memory.specs.TypeOf.{field_list_of, field_of}
use Rattle.nest_memory.specs.TypeTree.{Letters}
use Rattle.nest_memory.specs.declared.datatypes.field.Field.{Field}
use Rattle.json_write.specs.JsonText.{field_name}
use Rattle.json_write.specs.TypedSlots.{LacksField}

pub name-there : (fields : List Field) (i : ℕ) (f : Field) → i < length fields → field_name_at_index (field_list_of fields) i ≡ Some (field_name (field_of (get_or fields i f)))
name-there [] i f h = absurd (omega arith)
name-there (x ∷ fields) zero f h = refl
name-there (x ∷ fields) (suc i) f h = name-there fields i f (omega (arith, h))

pub none-there : (n : Letters) (fields : List Field) → ((i : ℕ) → i < length fields → field_name_at_index (field_list_of fields) i ≢ Some n) → LacksField n (field_list_of fields)
none-there n [] h = tt
none-there n (x ∷ fields) h = (λ e. h 0 (omega arith) (ap Some (sym e)), none-there n fields (λ i l. h (suc i) (omega (arith, l))))

pub named-here : (n : Letters) (fields : List Field) (i : ℕ) (f : Field) → i < length fields → f ≡ get_or fields i f → bytes_eq (field_name (field_of f)) n ≡ true → field_name_at_index (field_list_of fields) i ≡ Some n
named-here n fields i f h e t = name-there fields i f h ∙ ap (λ x. Some (field_name (field_of x))) (sym e) ∙ ap Some ((bytes_eq-Decides (field_name (field_of f)) n).0 t)

pub named-next : (n : Letters) (fields : List Field) (start i : ℕ) (f : Field) → i < length fields → f ≡ get_or fields i f → bytes_eq (field_name (field_of f)) n ≡ false
    → ((k : ℕ) → start ≤ k → k < i → field_name_at_index (field_list_of fields) k ≢ Some n) → (k : ℕ) → start ≤ k → k < i + 1 → field_name_at_index (field_list_of fields) k ≢ Some n
named-next n fields start i f h e t before k a b = elim (cases_lt k i) [
  | inl l ↦ before k a l
  | inr l ↦ λ q.
      let same : k ≡ i = omega (arith, b, l) in
      let there : field_name_at_index (field_list_of fields) i ≡ Some n = ap (field_name_at_index (field_list_of fields)) (sym same) ∙ q in
      let named : Some (field_name (field_of f)) ≡ Some n = ap (λ x. Some (field_name (field_of x))) e ∙ sym (name-there fields i f h) ∙ there in
      let p : field_name (field_of f) ≡ n = cc in
      let no : true ≡ false = sym ((bytes_eq-Decides (field_name (field_of f)) n).1 p) ∙ t in
      absurd cc
]
