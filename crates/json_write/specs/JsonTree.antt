-- The JSON value of a slot, by the kit's grammar of RFC 8259: the JSON text prints its tokens.
use Rattle.std.specs.Prelude.{◌≡◌, ℕ, ℤ, Bool, true, false, cond, if◌then◌else◌, List, [], ◌∷◌, ◌++◌, map, flat_map, Option, Some, None}
use Rattle.std.specs.Fmt.{signed_decimal}
use Rattle.std.specs.List.{join_with_byte}
use Rattle.std.proofs.Common.{refl, sym, ap, ◌∙◌, append_assoc, append-nil}
use Rattle.json.specs.Json as json
use Rattle.json.specs.Json.{Json, Items, Members, no_items, item, no_members, member}
use Rattle.json.specs.Print.{begins, ends, print, print_from, token_text, quoted}
use Rattle.json.specs.Token.{Token}
use Rattle.json.specs.Tree.{json_tokens, items_tokens, members_tokens}
use Rattle.nest_array.specs.WindowParts.{WindowParts, window_slots}
use Rattle.nest_memory.specs.TypeTree.{TypeTree, FieldTrees, no_fields, more_fields, field_type}
use Rattle.nest_model.specs.Layout.{layout_type}
use Rattle.nest_model.specs.Slot as slots
use Rattle.nest_model.specs.Slot.{Slot, Slots, no_slots, more_slots, seal}
use Rattle.float_text.specs.Text.{float_text, is_finite}
use Rattle.json_write.specs.Floats.{float_bits, float_format, tree_of_float}
use Rattle.json_write.specs.Formats.{format_of_type, text_of_numbers}
use Rattle.json_write.specs.declared.format.ValueFormat.{ValueFormat}
use Rattle.json_write.specs.declared.format.ValueFormat.TheVariants.{Float}
use Rattle.json_write.specs.JsonText.{items_type, members_of, field_name, field_name_at, hex_byte, json_of_number, json_of_numbers, string_or, comma, json_of_slot, json_items, json_members, json_of_window}

abbrev number_items : List ℤ → Items
number_items [] = no_items
number_items (z ∷ zs) = item (json.number (signed_decimal z)) (number_items zs)

abbrev pub tree_of_number : List ℤ → Json
tree_of_number (z ∷ []) = json.number (signed_decimal z)
tree_of_number zs = json.array (number_items zs)

abbrev pub tree_of_numbers : ValueFormat → List ℤ → Json
tree_of_numbers (Float precision) (z ∷ []) = tree_of_float precision z
tree_of_numbers v zs = tree_of_number zs

abbrev pub tree_of_text : Option (List ℕ) → Json → Json
tree_of_text (Some text) j = json.string text
tree_of_text None j = j

abbrev pub tree_of_value : ValueFormat → List ℤ → Json
tree_of_value v zs = tree_of_text (text_of_numbers v zs) (tree_of_numbers v zs)

abbrev mutual
  pub tree_of_slot : TypeTree → Slot → Json
  tree_of_slot t slots.null = json.null
  tree_of_slot t (slots.boolean b) = json.boolean b
  tree_of_slot t (slots.number zs) = tree_of_value (format_of_type t) zs
  tree_of_slot t (slots.utf8 bs) = json.string bs
  tree_of_slot t (slots.bytes bs) = json.string (flat_map hex_byte bs)
  tree_of_slot t (slots.list ss) = json.array (tree_items (items_type t) ss)
  tree_of_slot t (slots.record_of ss) = json.object (tree_members (members_of t) ss)
  tree_of_slot t (slots.pick f u s) = json.object (member (field_name_at (members_of t) f) (tree_of_slot u s) no_members)

  pub tree_items : TypeTree → Slots → Items
  tree_items t no_slots = no_items
  tree_items t (more_slots s ss) = item (tree_of_slot t s) (tree_items t ss)

  pub tree_members : FieldTrees → Slots → Members
  tree_members fs no_slots = no_members
  tree_members no_fields (more_slots s ss) = no_members
  tree_members (more_fields f fs) (more_slots s ss) = member (field_name f) (tree_of_slot (field_type f) s) (tree_members fs ss)

abbrev pub tree_of_window : WindowParts → Json
tree_of_window w = json.array (tree_items (layout_type w.array) (seal (window_slots w)))

-- a token that begins a value or a member is preceded by its comma
one-token : (k : Token) (after : Bool) (rest : List Token) → begins k ≡ true → print_from after (k ∷ rest) ≡ comma after ++ (token_text k ++ print_from (ends k) rest)
unfolding print_from
one-token k true rest h = ap (λ b. cond b (44 ∷ []) [] ++ (token_text k ++ print_from (ends k) rest)) h
one-token k false rest h = refl

end-items : (after : Bool) (rest : List Token) → print_from after (Token.end_array ∷ rest) ≡ 93 ∷ print_from true rest
unfolding print_from
end-items true rest = refl
end-items false rest = refl

end-members : (after : Bool) (rest : List Token) → print_from after (Token.end_object ∷ rest) ≡ 125 ∷ print_from true rest
unfolding print_from
end-members true rest = refl
end-members false rest = refl

numbers-printed : (z : ℤ) (zs : List ℤ) (after : Bool) (rest : List Token)
    → print_from after (items_tokens (number_items (z ∷ zs)) ++ rest) ≡ comma after ++ (join_with_byte 44 (map signed_decimal (z ∷ zs)) ++ 93 ∷ print_from true rest)
numbers-printed z [] after rest =
    one-token (Token.number (signed_decimal z)) after (Token.end_array ∷ rest) refl
    ∙ ap (λ x. comma after ++ (signed_decimal z ++ x)) (end-items true rest)
numbers-printed z (y ∷ ys) after rest =
    one-token (Token.number (signed_decimal z)) after (items_tokens (number_items (y ∷ ys)) ++ rest) refl
    ∙ ap (λ x. comma after ++ (signed_decimal z ++ x)) (numbers-printed y ys true rest)
    ∙ ap (λ x. comma after ++ x) (sym (append_assoc (signed_decimal z) (44 ∷ join_with_byte 44 (map signed_decimal (y ∷ ys))) (93 ∷ print_from true rest)))

-- the brackets around what is printed inside
around : (left right inside rest : List ℕ) → left ++ (inside ++ (right ++ rest)) ≡ (left ++ (inside ++ right)) ++ rest
around left right inside rest = ap (λ x. left ++ x) (sym (append_assoc inside right rest)) ∙ sym (append_assoc left (inside ++ right) rest)

number-printed : (zs : List ℤ) (after : Bool) (rest : List Token) → print_from after (json_tokens (tree_of_number zs) ++ rest) ≡ comma after ++ (json_of_number zs ++ print_from true rest)
number-printed [] after rest = one-token Token.begin_array after (Token.end_array ∷ rest) refl ∙ ap (λ x. comma after ++ 91 ∷ x) (end-items false rest)
number-printed (z ∷ []) after rest = one-token (Token.number (signed_decimal z)) after rest refl
number-printed (z ∷ y ∷ ys) after rest =
    one-token Token.begin_array after (items_tokens (number_items (z ∷ y ∷ ys)) ++ rest) refl
    ∙ ap (λ x. comma after ++ 91 ∷ x) (numbers-printed z (y ∷ ys) false rest)
    ∙ ap (λ x. comma after ++ x) (around (91 ∷ []) (93 ∷ []) (join_with_byte 44 (map signed_decimal (z ∷ y ∷ ys))) (print_from true rest))

bits-printed : (b : Bool) (text : List ℕ) (after : Bool) (rest : List Token) → print_from after (json_tokens (if b then json.number text else json.string text) ++ rest) ≡ comma after ++ ((if b then text else quoted text) ++ print_from true rest)
bits-printed true text after rest = one-token (Token.number text) after rest refl
bits-printed false text after rest = one-token (Token.string text) after rest refl

-- a value without a text
plain-printed : (v : ValueFormat) (zs : List ℤ) (after : Bool) (rest : List Token) → print_from after (json_tokens (tree_of_numbers v zs) ++ rest) ≡ comma after ++ (json_of_numbers v zs ++ print_from true rest)
plain-printed (Float p) (z ∷ []) after rest = bits-printed (is_finite (float_format p) (float_bits p z)) (float_text (float_format p) (float_bits p z)) after rest
plain-printed v zs after rest = number-printed zs after rest

text-printed : (text : Option (List ℕ)) (v : ValueFormat) (zs : List ℤ) (after : Bool) (rest : List Token)
    → print_from after (json_tokens (tree_of_text text (tree_of_numbers v zs)) ++ rest) ≡ comma after ++ (string_or text (json_of_numbers v zs) ++ print_from true rest)
text-printed (Some text) v zs after rest = one-token (Token.string text) after rest refl
text-printed None v zs after rest = plain-printed v zs after rest

mutual
  pub slot-printed : (t : TypeTree) (s : Slot) (after : Bool) (rest : List Token) → print_from after (json_tokens (tree_of_slot t s) ++ rest) ≡ comma after ++ (json_of_slot t s ++ print_from true rest)
  slot-printed t slots.null after rest = one-token Token.null after rest refl
  slot-printed t (slots.boolean true) after rest = one-token (Token.boolean true) after rest refl
  slot-printed t (slots.boolean false) after rest = one-token (Token.boolean false) after rest refl
  slot-printed t (slots.number zs) after rest = text-printed (text_of_numbers (format_of_type t) zs) (format_of_type t) zs after rest
  slot-printed t (slots.utf8 bs) after rest = one-token (Token.string bs) after rest refl
  slot-printed t (slots.bytes bs) after rest = one-token (Token.string (flat_map hex_byte bs)) after rest refl
  slot-printed t (slots.list ss) after rest =
      one-token Token.begin_array after (items_tokens (tree_items (items_type t) ss) ++ rest) refl
      ∙ ap (λ x. comma after ++ 91 ∷ x) (items-printed (items_type t) ss false rest)
      ∙ ap (λ x. comma after ++ x) (around (91 ∷ []) (93 ∷ []) (json_items (items_type t) false ss) (print_from true rest))
  slot-printed t (slots.record_of ss) after rest =
      one-token Token.begin_object after (members_tokens (tree_members (members_of t) ss) ++ rest) refl
      ∙ ap (λ x. comma after ++ 123 ∷ x) (members-printed (members_of t) ss false rest)
      ∙ ap (λ x. comma after ++ x) (around (123 ∷ []) (125 ∷ []) (json_members (members_of t) false ss) (print_from true rest))
  slot-printed t (slots.pick f u s) after rest =
      let name = field_name_at (members_of t) f in
      let inner = json_tokens (tree_of_slot u s) in
      one-token Token.begin_object after (Token.key name ∷ ((inner ++ Token.end_object ∷ []) ++ rest)) refl
      ∙ ap (λ x. comma after ++ 123 ∷ x) (one-token (Token.key name) false ((inner ++ Token.end_object ∷ []) ++ rest) refl
      ∙ append_assoc (quoted name) (58 ∷ []) (print_from false ((inner ++ Token.end_object ∷ []) ++ rest))
      ∙ ap (λ x. quoted name ++ 58 ∷ x) (ap (print_from false) (append_assoc inner (Token.end_object ∷ []) rest) ∙ slot-printed u s false (Token.end_object ∷ rest) ∙ ap (λ x. json_of_slot u s ++ x) (end-members true rest))
      ∙ sym (append_assoc (quoted name) (58 ∷ json_of_slot u s) (125 ∷ print_from true rest)))
      ∙ ap (λ x. comma after ++ x) (around (123 ∷ []) (125 ∷ []) (quoted name ++ 58 ∷ json_of_slot u s) (print_from true rest))
      ∙ ap (λ x. comma after ++ (123 ∷ x ++ print_from true rest)) (append_assoc (quoted name) (58 ∷ json_of_slot u s) (125 ∷ []))

  pub items-printed : (t : TypeTree) (ss : Slots) (after : Bool) (rest : List Token) → print_from after (items_tokens (tree_items t ss) ++ rest) ≡ json_items t after ss ++ 93 ∷ print_from true rest
  items-printed t no_slots after rest = end-items after rest
  items-printed t (more_slots s ss) after rest =
      ap (print_from after) (append_assoc (json_tokens (tree_of_slot t s)) (items_tokens (tree_items t ss)) rest)
      ∙ slot-printed t s after (items_tokens (tree_items t ss) ++ rest)
      ∙ ap (λ x. comma after ++ (json_of_slot t s ++ x)) (items-printed t ss true rest)
      ∙ ap (λ x. comma after ++ x) (sym (append_assoc (json_of_slot t s) (json_items t true ss) (93 ∷ print_from true rest)))
      ∙ sym (append_assoc (comma after) (json_of_slot t s ++ json_items t true ss) (93 ∷ print_from true rest))

  pub members-printed : (fs : FieldTrees) (ss : Slots) (after : Bool) (rest : List Token) → print_from after (members_tokens (tree_members fs ss) ++ rest) ≡ json_members fs after ss ++ 125 ∷ print_from true rest
  members-printed fs no_slots after rest = end-members after rest
  members-printed no_fields (more_slots s ss) after rest = end-members after rest
  members-printed (more_fields f fs) (more_slots s ss) after rest =
      let name = field_name f in
      let inner = json_tokens (tree_of_slot (field_type f) s) in
      let more = members_tokens (tree_members fs ss) in
      let text = json_of_slot (field_type f) s ++ json_members fs true ss in
      one-token (Token.key name) after ((inner ++ more) ++ rest) refl
      ∙ ap (λ x. comma after ++ x) (append_assoc (quoted name) (58 ∷ []) (print_from false ((inner ++ more) ++ rest))
      ∙ ap (λ x. quoted name ++ 58 ∷ x) (ap (print_from false) (append_assoc inner more rest) ∙ slot-printed (field_type f) s false (more ++ rest) ∙ ap (λ x. json_of_slot (field_type f) s ++ x) (members-printed fs ss true rest)
      ∙ sym (append_assoc (json_of_slot (field_type f) s) (json_members fs true ss) (125 ∷ print_from true rest)))
      ∙ sym (append_assoc (quoted name) (58 ∷ text) (125 ∷ print_from true rest)))
      ∙ sym (append_assoc (comma after) (quoted name ++ 58 ∷ text) (125 ∷ print_from true rest))

nothing-left : print_from true [] ≡ []
unfolding print_from
nothing-left = refl

-- the text of a window prints the tokens of its JSON value
pub window-printed : (w : WindowParts) → json_of_window w ≡ print (json_tokens (tree_of_window w))
window-printed w =
    let t = layout_type w.array in
    let ss = seal (window_slots w) in
    sym (ap print (sym (append-nil (json_tokens (tree_of_window w))))
    ∙ one-token Token.begin_array false (items_tokens (tree_items t ss) ++ []) refl
    ∙ ap (λ x. 91 ∷ x) (items-printed t ss false [])
    ∙ ap (λ x. 91 ∷ (json_items t false ss ++ 93 ∷ x)) nothing-left)
