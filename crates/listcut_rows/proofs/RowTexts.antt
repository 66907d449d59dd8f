-- The text of rows, one item and one row after another.
use Rattle.std.proofs.Common.{◌≡◌, ℕ, ◌+◌, ◌<◌, ◌≤◌, List, [], ◌∷◌, ◌++◌, length, take, get_or, map, refl, sym, ap, ◌∙◌, append_assoc, append-nil, arith, Option, Some, None, ℤ, Bool, true, false, cond}
use Rattle.std.specs.List.{join_with_byte}
use Rattle.std.proofs.lemmas.List.{take_more, take_all, map-append, length-take}
use Rattle.std.proofs.lemmas.List.Concat.{flat_map-cons}
use Rattle.nest_memory.specs.Sublist.{sublist}
use Rattle.nest_model.specs.Runs.{get_or-cut, length-cut}
use Rattle.nest_model.specs.Slot as slots
use Rattle.nest_model.specs.Slot.{Slot, seal}
use Rattle.nest_model.specs.Part.{Validity, valid_at}
use Rattle.nest_model.specs.Layout.{Layout}
use Rattle.nest_model.specs.Meaning.{len, slot, slots_of, where_valid}
use Rattle.nest_model.specs.Reads.{slots-length, slot-place}
use Rattle.nest_flat.specs.FlatParts.{optional}
use Rattle.listcut_rows.specs.RowSlots.{item_slot}
use Rattle.listcut_rows.proofs.Sealed.{unseal-seal}
use Rattle.listcut_rows.specs.RowText.{item_text, row_text, rows_text}

-- ---- the first slots of an array

pub slots-more : (a : Layout) (i : ℕ) → i < len a → take (i + 1) (slots_of a) ≡ take i (slots_of a) ++ slot a i ∷ []
slots-more a i h =
    let k : i < length (slots_of a) = omega (arith, slots-length a) in
    take_more (slots_of a) i slots.null k ∙ ap (λ s. take i (slots_of a) ++ s ∷ []) (slot-place a i slots.null h)

pub all-slots : (a : Layout) (i : ℕ) → len a ≤ i → take i (slots_of a) ≡ slots_of a
all-slots a i h = take_all i (slots_of a) (omega (arith, slots-length a))

-- ---- items

-- the slot of an item from `get`
pub got-item : (item : Option ℤ) → optional (λ x. slots.number (x ∷ [])) item ≡ item_slot item
got-item None = refl
got-item (Some number) = refl

abbrev pub joined_items : List Slot → List ℕ
joined_items items = join_with_byte 44 (map item_text items)

join-more : (x : List ℕ) (xs : List (List ℕ)) (t : List ℕ) → join_with_byte 44 ((x ∷ xs) ++ t ∷ []) ≡ join_with_byte 44 (x ∷ xs) ++ 44 ∷ t
join-more x [] t = refl
join-more x (y ∷ more) t = ap (λ l. x ++ 44 ∷ l) (join-more y more t) ∙ sym (append_assoc x (44 ∷ join_with_byte 44 (y ∷ more)) (44 ∷ t))

joined-more : (items : List Slot) (item : Slot) → 0 < length items → joined_items (items ++ item ∷ []) ≡ joined_items items ++ 44 ∷ item_text item
joined-more [] item long = absurd (omega arith)
joined-more (x ∷ xs) item long = ap (join_with_byte 44) (map-append item_text (x ∷ xs) (item ∷ [])) ∙ join-more (item_text x) (map item_text xs) (item_text item)

module _ (xs : List Slot) (i : ℕ) (within : i < length xs) (old before between after : List ℕ) (item : Slot)
    (so_far : before ≡ old ++ joined_items (take i xs))
    (item_is : get_or xs i slots.null ≡ item) (pushed : after ≡ between ++ item_text item) where
  more : take (i + 1) xs ≡ take i xs ++ item ∷ []
  more = take_more xs i slots.null within ∙ ap (λ s. take i xs ++ s ∷ []) item_is

  -- the text of items, after another one
  pub items-next : 0 < i → between ≡ before ++ 44 ∷ [] → after ≡ old ++ joined_items (take (i + 1) xs)
  items-next later separated =
      let first = take i xs in
      let long : 0 < length first = omega (arith, length-take i xs) in
      let whole : joined_items (take (i + 1) xs) ≡ joined_items first ++ 44 ∷ item_text item = ap joined_items more ∙ joined-more first item long in
      pushed ∙ ap (λ l. l ++ item_text item) (separated ∙ ap (λ l. l ++ 44 ∷ []) so_far)
      ∙ append_assoc (old ++ joined_items first) (44 ∷ []) (item_text item) ∙ append_assoc old (joined_items first) (44 ∷ item_text item) ∙ ap (λ l. old ++ l) (sym whole)

  -- and before any
  pub items-first : i ≡ 0 → between ≡ before → after ≡ old ++ joined_items (take (i + 1) xs)
  items-first begins same =
      let none : take i xs ≡ [] = ap (λ n. take n xs) begins in
      let one : joined_items (take (i + 1) xs) ≡ item_text item = ap joined_items (more ∙ ap (λ l. l ++ item ∷ []) none) in
      pushed ∙ ap (λ l. l ++ item_text item) (same ∙ so_far ∙ ap (λ l. old ++ joined_items l) none ∙ append-nil old) ∙ ap (λ l. old ++ l) (sym one)

-- a slot of a slice
pub cut-slot : (a : Layout) (o n i : ℕ) → o + n ≤ len a → i < n → get_or (sublist (slots_of a) o n) i slots.null ≡ slot a (o + i)
cut-slot a o n i h k = get_or-cut (slots_of a) o n i slots.null k ∙ slot-place a (o + i) slots.null (omega arith)

pub cut-length : (a : Layout) (o n : ℕ) → o + n ≤ len a → length (sublist (slots_of a) o n) ≡ n
cut-length a o n h = length-cut (slots_of a) o n (omega (arith, slots-length a))

-- ---- rows

-- a list that is not null
where-valid : (valid : Bool) (s r : Slot) → r ≡ cond valid s slots.null → (r ≡ slots.null → ⊥) → r ≡ s
where-valid true s r e h = e
where-valid false s r e h = absurd (h e)

pub row-pushed : (old one two three : List ℕ) (va : Validity) (i : ℕ) (row : Slot) (items : List Slot) → row ≡ where_valid va i (slots.list (seal items)) → (row ≡ slots.null → ⊥)
    → one ≡ old ++ 91 ∷ [] → two ≡ one ++ joined_items items → three ≡ two ++ 93 ∷ [] → three ≡ old ++ row_text row
row-pushed old one two three va i row items at some opened filled closed =
    let inside = joined_items items in
    let text : row_text row ≡ 91 ∷ inside ++ 93 ∷ [] = ap row_text (where-valid (valid_at va i) (slots.list (seal items)) row at some) ∙ ap (λ ss. 91 ∷ joined_items ss ++ 93 ∷ []) (unseal-seal items) in
    closed ∙ ap (λ l. l ++ 93 ∷ []) (filled ∙ ap (λ l. l ++ inside) opened ∙ append_assoc old (91 ∷ []) inside) ∙ append_assoc old (91 ∷ inside) (93 ∷ []) ∙ ap (λ l. old ++ l) (sym text)

text-more : (rows : List Slot) (row : Slot) → rows_text (rows ++ row ∷ []) ≡ rows_text rows ++ (row_text row ++ 10 ∷ [])
text-more [] row = flat_map-cons (λ r. row_text r ++ 10 ∷ []) row [] ∙ append-nil (row_text row ++ 10 ∷ [])
text-more (x ∷ xs) row =
    flat_map-cons (λ r. row_text r ++ 10 ∷ []) x (xs ++ row ∷ []) ∙ ap (λ l. (row_text x ++ 10 ∷ []) ++ l) (text-more xs row)
    ∙ sym (append_assoc (row_text x ++ 10 ∷ []) (rows_text xs) (row_text row ++ 10 ∷ []))
    ∙ ap (λ l. l ++ (row_text row ++ 10 ∷ [])) (sym (flat_map-cons (λ r. row_text r ++ 10 ∷ []) x xs))

pub rows-next : (a : Layout) (i : ℕ) (before between after : List ℕ) → i < len a → before ≡ rows_text (take i (slots_of a)) → between ≡ before ++ row_text (slot a i) → after ≡ between ++ 10 ∷ []
    → after ≡ rows_text (take (i + 1) (slots_of a))
rows-next a i before between after within so_far pushed ended =
    ended ∙ ap (λ l. l ++ 10 ∷ []) (pushed ∙ ap (λ l. l ++ row_text (slot a i)) so_far)
    ∙ append_assoc (rows_text (take i (slots_of a))) (row_text (slot a i)) (10 ∷ [])
    ∙ sym (text-more (take i (slots_of a)) (slot a i)) ∙ ap rows_text (sym (slots-more a i within))
