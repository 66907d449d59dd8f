-- The length of the longest list of an array, one slot after another.
use Rattle.std.specs.Prelude.{if◌then◌else◌, not, Option, Some, None, Result, Ok}
use Rattle.std.proofs.Common.{◌≡◌, ℕ, zero, suc, ◌+◌, ◌-◌, ◌<◌, max, Bool, true, false, List, [], ◌∷◌, length, refl, sym, ap, subst, ◌∙◌, arith}
use Rattle.nest_array.specs.Seen.{layout_of}
use Rattle.nest_array.specs.declared.any.AnyArray.{AnyArray}
use Rattle.nest_memory.specs.declared.error.Error.{Error}
use Rattle.nest_model.specs.Accessors.{validity_of}
use Rattle.nest_model.specs.Layout.{Layout, null, boolean, primitive, binary, utf8, fixed_size_binary, fixed_size_list, list, map, struct, union, dictionary}
use Rattle.nest_model.specs.Meaning.{len, run, slot, slots_of, where_valid}
use Rattle.nest_model.specs.Nullness.{is_null_at}
use Rattle.nest_model.specs.NullnessLaws.{null_at-slot}
use Rattle.nest_model.specs.Part.{valid_at}
use Rattle.nest_model.specs.Reads.{slots-length}
use Rattle.nest_model.specs.Slot as slots
use Rattle.nest_model.specs.Slot.{Slot, Slots, seal}
use Rattle.nest_scan.specs.Items.{IsList}
use Rattle.nest_scan.specs.Elements.{IsItemOrMemory, IsItemOrNull}
use Rattle.guide.specs.Columns.{item_count, max_list_length}

not_false : (b : Bool) → not b ≡ false → b ≡ true
not_false true h = refl
not_false false h = sym h

valid : (a : Layout) (i : ℕ) → is_null_at a i ≡ false → valid_at (validity_of a) i ≡ true
valid (null t n) i h = absurd cc
valid (boolean t bs va) i h = not_false (valid_at va i) h
valid (primitive k t vs va) i h = not_false (valid_at va i) h
valid (binary l t os bs va) i h = not_false (valid_at va i) h
valid (utf8 l t os bs va) i h = not_false (valid_at va i) h
valid (fixed_size_binary t bs va) i h = not_false (valid_at va i) h
valid (fixed_size_list t c va) i h = not_false (valid_at va i) h
valid (list l t os c va) i h = not_false (valid_at va i) h
valid (map t os c va) i h = not_false (valid_at va i) h
valid (struct t cs va) i h = not_false (valid_at va i) h
valid (union t ks cs os start) i h = not_false (valid_at (validity_of (union t ks cs os start)) i) h
valid (dictionary t ks c) i h = not_false (valid_at (validity_of (dictionary t ks c)) i) h

-- sealing keeps the number of slots
counted : (xs : List Slot) → item_count (seal xs) ≡ length xs
counted [] = refl
counted (x ∷ xs) = ap suc (counted xs)

-- the first slot, and the slots after it
next : (a : Layout) (i n : ℕ) → 0 < n → run (slot a) i n ≡ slot a i ∷ run (slot a) (i + 1) (n - 1)
next a i zero h = absurd (omega arith)
next a i (suc n) h =
    let e : suc i ≡ i + 1 = omega arith in
    let d : n ≡ suc n - 1 = omega arith in
    ap (λ k. slot a i ∷ run (slot a) k n) e ∙ ap (λ m. slot a i ∷ run (slot a) (i + 1) m) d

max_assoc : (x y z : ℕ) → max (max x y) z ≡ max x (max y z)
max_assoc x y z = omega arith

-- a valid list
pub longest_row : (a c : Layout) (i n k t : ℕ) → 0 < n → is_null_at a i ≡ false → slot a i ≡ where_valid (validity_of a) i (slots.list (seal (slots_of c)))
    → max k (max_list_length (run (slot a) i n)) ≡ t → max (max k (len c)) (max_list_length (run (slot a) (i + 1) (n - 1))) ≡ t
longest_row a c i n k t h v e s =
    let is : slot a i ≡ slots.list (seal (slots_of c)) = e ∙ ap (λ b. if b then slots.list (seal (slots_of c)) else slots.null) (valid a i v) in
    let count : item_count (seal (slots_of c)) ≡ len c = counted (slots_of c) ∙ slots-length c in
    let rest = max_list_length (run (slot a) (i + 1) (n - 1)) in
    let split : max_list_length (run (slot a) i n) ≡ max (len c) rest =
    ap max_list_length (next a i n h) ∙ ap (λ x. max_list_length (x ∷ run (slot a) (i + 1) (n - 1))) is ∙ ap (λ m. max m rest) count in
    max_assoc k (len c) rest ∙ ap (max k) (sym split) ∙ s

-- a null list
pub longest_null : (a : Layout) (i n k t : ℕ) → 0 < n → is_null_at a i ≡ true → max k (max_list_length (run (slot a) i n)) ≡ t → max k (max_list_length (run (slot a) (i + 1) (n - 1))) ≡ t
longest_null a i n k t h v s =
    let rest = run (slot a) (i + 1) (n - 1) in
    ap (max k) (sym (ap max_list_length (next a i n h) ∙ ap (λ x. max_list_length (x ∷ rest)) (null_at-slot a i v))) ∙ s

-- an item of the iterator is a valid list of its length
pub longest_some : (a : Layout) (i n k t : ℕ) (row : Result (Option AnyArray) Error) (x : AnyArray) → row ≡ Ok (Some x) → IsItemOrMemory (IsItemOrNull IsList) a i row → 0 < n
    → max k (max_list_length (run (slot a) i n)) ≡ t → max (max k (len (layout_of x))) (max_list_length (run (slot a) (i + 1) (n - 1))) ≡ t
longest_some a i n k t row x e item h s =
    let there = subst (λ r. IsItemOrMemory (IsItemOrNull IsList) a i r) e item in
    longest_row a (layout_of x) i n k t h there.0 there.1.slot_is s

-- `None` of the iterator is a null list
pub longest_none : (a : Layout) (i n k t : ℕ) (row : Result (Option AnyArray) Error) → row ≡ Ok None → IsItemOrMemory (IsItemOrNull IsList) a i row → 0 < n
    → max k (max_list_length (run (slot a) i n)) ≡ t → max k (max_list_length (run (slot a) (i + 1) (n - 1))) ≡ t
longest_none a i n k t row e item h s = longest_null a i n k t h (subst (λ r. IsItemOrMemory (IsItemOrNull IsList) a i r) e item) s
