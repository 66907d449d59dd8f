-- The text of a JSON array is the text of its items, joined by commas.
use Rattle.std.specs.Prelude.{false, List, [], ◌∷◌, ◌++◌, map}
use Rattle.std.specs.List.{join_with_byte}
use Rattle.std.proofs.Common.{◌≡◌, refl, ap, append-nil}
use Rattle.nest_memory.specs.TypeTree.{TypeTree}
use Rattle.nest_model.specs.Slot.{Slot, seal}
use Rattle.json_write.specs.JsonText.{json_of_slot, json_items, json_list}

items-joined : (t : TypeTree) (s : Slot) (ss : List Slot) → json_items t false (seal (s ∷ ss)) ≡ join_with_byte 44 (map (json_of_slot t) (s ∷ ss))
items-joined t s [] = append-nil (json_of_slot t s)
items-joined t s (q ∷ ss) = ap (λ x. json_of_slot t s ++ 44 ∷ x) (items-joined t q ss)

pub list-joined : (t : TypeTree) (ss : List Slot) → json_list t ss ≡ 91 ∷ (join_with_byte 44 (map (json_of_slot t) ss) ++ 93 ∷ [])
list-joined t [] = refl
list-joined t (s ∷ ss) = ap (λ x. 91 ∷ (x ++ 93 ∷ [])) (items-joined t s ss)
