-- One more item.
use Rattle.std.proofs.Common.{◌≡◌, ℕ, List, [], ◌∷◌, ◌++◌, Option, Some, None, sym, ap, ◌∙◌, map, option_map, ℤ}
use Rattle.std.specs.Borrow.{Bor}
use Rattle.std.specs.List.{slice_split}
use Rattle.std.proofs.lemmas.List.{map-append}
use Rattle.nest_model.specs.Slot.{Slot}
use Rattle.listcut_rows.specs.RowSlots.{item_slot}
use Rattle.listcut_rows.specs.Grammar.{all_of, parsed_item}
use Rattle.listcut_rows.proofs.Separated.{pieces_left, is_byte, with_front, front_grows}

module _ (items : List (Option ℤ)) (rest : Option (Bor (List ℕ))) (text : Bor (List ℕ)) (first : List ℕ) (others : List (List ℕ)) (total : Option (List Slot))
    (is : rest ≡ Some text) (next : slice_split (is_byte 44) text.now ≡ first ∷ others)
    (so_far : with_front (map item_slot items) (all_of (map parsed_item (pieces_left 44 rest))) ≡ total) where
  opened : with_front (map item_slot items) (all_of (parsed_item first ∷ map parsed_item others)) ≡ total
  opened = ap (λ pieces. with_front (map item_slot items) (all_of (map parsed_item pieces))) (sym (ap (pieces_left 44) is ∙ next)) ∙ so_far

  pub items_stop : (found : Option (Option ℤ)) → option_map item_slot found ≡ parsed_item first → found ≡ None → None ≡ total
  items_stop found read none = ap (λ o. with_front (map item_slot items) (all_of (o ∷ map parsed_item others))) (sym (ap (option_map item_slot) none) ∙ read) ∙ opened

  pub items_go : (found : Option (Option ℤ)) (item : Option ℤ) (more : List (Option ℤ)) → option_map item_slot found ≡ parsed_item first → found ≡ Some item → more ≡ items ++ item ∷ []
      → with_front (map item_slot more) (all_of (map parsed_item others)) ≡ total
  items_go found item more read some grown =
      ap (λ l. with_front l (all_of (map parsed_item others))) (ap (map item_slot) grown ∙ map-append item_slot items (item ∷ []))
      ∙ sym (front_grows (map item_slot items) (item_slot item) (all_of (map parsed_item others)))
      ∙ ap (λ o. with_front (map item_slot items) (all_of (o ∷ map parsed_item others))) (sym (ap (option_map item_slot) some) ∙ read)
      ∙ opened
