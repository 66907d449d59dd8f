-- One more window of the offsets of dense unions.
use Rattle.std.specs.Prelude.{List, Option, Some, None, map, length, get_or, replicate, unwrap_or}
use Rattle.std.specs.List.{range_with_len, sum_by}
use Rattle.std.proofs.Common.{◌≡◌, ℕ, ℤ, pos, zero, suc, ◌+◌, ◌-◌, ◌<◌, ◌≤◌, [], ◌∷◌, ◌++◌, take, refl, ap, sym, ◌∙◌, subst, arith, append-nil, append_assoc}
use Rattle.std.proofs.lemmas.List.{take_all, take_more}
use Rattle.std.proofs.lemmas.List.Sums.{sum_by-cons}
use Rattle.nest_memory.specs.Physical.{physical_type}
use Rattle.nest_memory.specs.TypeTree.{TypeTree, count_fields, fields_of, logical_type}
use Rattle.nest_memory.specs.declared.datatypes.physical_type.PhysicalType.TheVariants as physical
use Rattle.nest_model.specs.Accessors.{children_of, start_of, union_offsets_of}
use Rattle.nest_model.specs.Array.{TopFits}
use Rattle.nest_model.specs.Checks.{most_picks}
use Rattle.nest_model.specs.Layout.{Layout, layout_type, count_layouts}
use Rattle.nest_model.specs.Meaning.{len, union_index}
use Rattle.nest_array.proofs.Picks.{IsUnionOf}
use Rattle.nest_array.specs.WindowParts.{WindowParts}
use Rattle.nest_concat.specs.Parts.{field_at}
use Rattle.nest_concat.specs.Joined.{AreWithin, IsWithin}
use Rattle.nest_concat.specs.Limits.{PassesPicks}
use Rattle.nest_concat.specs.Moved.{AreAdvanced, AreFew, ArePlaced, PassesOne, moved_offset, moved_offsets, offset_by, offsets_behind}
use Rattle.nest_concat.specs.Windows.{count_of, count_slots, field_window}
use Rattle.nest_concat.proofs.Grown.{sum-more, sum-within}
use Rattle.nest_concat.proofs.Picked.{pick-inside, picks-one, some-offsets, union-is}
use Rattle.nest_concat.proofs.Unions.{facts-by}

-- the offsets of one more window
behind-push : (before ws : List WindowParts) (w : WindowParts) → offsets_behind before (ws ++ w ∷ []) ≡ offsets_behind before ws ++ map (moved_offset (before ++ ws) w) (range_with_len w.offset w.count)
behind-push before [] w =
    append-nil (map (moved_offset before w) (range_with_len w.offset w.count)) ∙ ap (λ b. map (moved_offset b w) (range_with_len w.offset w.count)) (sym (append-nil before))
behind-push before (v ∷ ws) w =
    let xs = map (moved_offset before v) (range_with_len v.offset v.count) in
    let rest = offsets_behind (before ++ v ∷ []) ws in
    ap (λ z. xs ++ z) (behind-push (before ++ v ∷ []) ws w)
    ∙ ap (λ b. xs ++ (rest ++ map (moved_offset b w) (range_with_len w.offset w.count))) (append_assoc before (v ∷ []) ws)
    ∙ sym (append_assoc xs rest (map (moved_offset (before ++ (v ∷ ws)) w) (range_with_len w.offset w.count)))

pub offsets-more : (ws : List WindowParts) (k : ℕ) (w : WindowParts) → k < length ws → w ≡ get_or ws k w
    → moved_offsets (take (k + 1) ws) ≡ moved_offsets (take k ws) ++ map (moved_offset (take k ws) w) (range_with_len w.offset w.count)
offsets-more ws k w l e = ap moved_offsets (take_more ws k w l) ∙ ap (λ v. moved_offsets (take k ws ++ v ∷ [])) (sym e) ∙ behind-push [] (take k ws) w

map-range : (f g : ℕ → ℤ) (o n : ℕ) → ((j : ℕ) → j < n → f (o + j) ≡ g (o + j)) → map f (range_with_len o n) ≡ map g (range_with_len o n)
map-range f g o zero h = refl
map-range f g o (suc n) h =
    let z : o + 0 ≡ o = omega arith in
    let a : f o ≡ g o = subst (λ i. f i ≡ g i) z (h 0 (omega arith)) in
    let b = map-range f g (o + 1) n (λ j l. let e : o + suc j ≡ o + 1 + j = omega arith in subst (λ i. f i ≡ g i) e (h (suc j) (omega arith))) in
    ap (λ x. x ∷ map f (range_with_len (o + 1) n)) a ∙ ap (λ xs. g o ∷ xs) b

-- offsets from ends and counts are those after earlier windows
pub same-offsets : (t : TypeTree) (w : WindowParts) (before : List WindowParts) (n : ℕ) (old ends counts : List ℕ) → TopFits w.array → w.offset + w.count ≤ len w.array → logical_type (layout_type w.array) ≡ logical_type t → physical_type t ≡ physical.Union
    → n ≡ count_fields (fields_of t) → ((f : ℕ) → f < n → get_or old f 0 ≡ count_slots (map (field_window f) before)) → AreAdvanced n w old ends counts
    → map (offset_by ends counts w) (range_with_len w.offset w.count) ≡ map (moved_offset before w) (range_with_len w.offset w.count)
same-offsets t w before n old ends counts h i e p m c d = map-range (offset_by ends counts w) (moved_offset before w) w.offset w.count same
  where
    same : (j : ℕ) → j < w.count → offset_by ends counts w (w.offset + j) ≡ moved_offset before w (w.offset + j)
    same j l =
        let a = w.array in
        let u = union-is t a h e p in
        let o = picks-one a (w.offset + j) h u (omega (arith, i, l)) in
        let f = o.0 in
        let q = union_index (union_offsets_of a) (start_of a) (w.offset + j) in
        let k : f < n = omega (arith, m, o.1.field_there, (facts-by t a h e p).as_many) in
        let x = d f k in
        let b = pick-inside f a w.offset w.count j q h u l o.1.means refl in
        let z : get_or counts f 0 - (get_or ends f 0 - q) ≡ count_slots (map (field_window f) before) + (q - (field_window f w).offset) = omega (arith, x.0, x.1, c f k, b.0, b.1) in
        ap (λ v. pos (get_or counts (unwrap_or v 0) 0 - (get_or ends (unwrap_or v 0) 0 - q))) o.1.means
        ∙ ap pos z
        ∙ sym (ap (λ v. pos (count_slots (map (field_window (unwrap_or v 0)) before) + (q - (field_window (unwrap_or v 0) w).offset))) o.1.means)

-- the offset of the slot fits 32 bits
pub record IsPlaced (counts ends : List ℕ) (f q : ℕ) : Type 0 where
  pub before_end : q ≤ get_or ends f 0
  pub room : get_or ends f 0 - q ≤ get_or counts f 0
  pub fits : get_or counts f 0 - (get_or ends f 0 - q) < 2147483648

pub placed : (w : WindowParts) (a : Layout) (ends counts : List ℕ) (i f q : ℕ) → a ≡ w.array → TopFits a → IsUnionOf a → ArePlaced w ends counts → i < w.count → f < count_layouts (children_of a)
    → field_at a (w.offset + i) ≡ Some f → q ≡ union_index (union_offsets_of a) (start_of a) (w.offset + i) → IsPlaced counts ends f q
placed w a ends counts i f q e h u p l m y z =
    let x = p f (subst (λ b. f < count_layouts (children_of b)) e m) in
    let b = pick-inside f w.array w.offset w.count i q (subst TopFits e h) (subst IsUnionOf e u) l (ap (λ c. field_at c (w.offset + i)) (sym e) ∙ y) (z ∙ ap (λ c. union_index (union_offsets_of c) (start_of c) (w.offset + i)) e) in
    record { before_end = omega (arith, x.0, b.1); room = omega (arith, x.0, x.1, b.0); fits = omega (arith, x.0, x.1, x.2, b.0, b.1) }

pub offset-is : (w : WindowParts) (a : Layout) (ends counts : List ℕ) (i f q : ℕ) → a ≡ w.array → field_at a i ≡ Some f → q ≡ union_index (union_offsets_of a) (start_of a) i
    → offset_by ends counts w i ≡ pos (get_or counts f 0 - (get_or ends f 0 - q))
offset-is w a ends counts i f q e y z =
    let m : field_at w.array i ≡ Some f = ap (λ c. field_at c i) (sym e) ∙ y in
    let v : union_index (union_offsets_of w.array) (start_of w.array) i ≡ q = ap (λ c. union_index (union_offsets_of c) (start_of c) i) (sym e) ∙ sym z in
    ap (λ o. pos (get_or counts (unwrap_or o 0) 0 - (get_or ends (unwrap_or o 0) 0 - union_index (union_offsets_of w.array) (start_of w.array) i))) m ∙ ap (λ x. pos (get_or counts f 0 - (get_or ends f 0 - x))) v

-- the counts of one more window
map-sum : (f : ℕ) (ws : List WindowParts) → count_slots (map (field_window f) ws) ≡ sum_by (λ w. (field_window f w).count) ws
map-sum f [] = refl
map-sum f (w ∷ ws) = omega (arith, map-sum f ws, sum_by-cons count_of (field_window f w) (map (field_window f) ws), sum_by-cons (λ (v : WindowParts). (field_window f v).count) w ws)

pub counts-more : (f : ℕ) (ws : List WindowParts) (k : ℕ) (w : WindowParts) → k < length ws → w ≡ get_or ws k w
    → count_slots (map (field_window f) (take (k + 1) ws)) ≡ count_slots (map (field_window f) (take k ws)) + (field_window f w).count
counts-more f ws k w l e = omega (arith, map-sum f (take (k + 1) ws), map-sum f (take k ws), sum-more (λ v. (field_window f v).count) ws k w l e)

-- too many slots in one window are too many in all
pub one-passes : (a : Layout) (ws : List WindowParts) (k : ℕ) (w : WindowParts) (n : ℕ) (counts : List ℕ) → (union_offsets_of a ≡ None → ⊥) → k < length ws → w ≡ get_or ws k w
    → ((f : ℕ) → f < n → get_or counts f 0 ≡ count_slots (map (field_window f) (take k ws))) → n ≡ count_layouts (children_of a) → PassesOne n w counts
    → PassesPicks (union_offsets_of a) (count_layouts (children_of a)) ws
one-passes a ws k w n counts d l e c m p =
    let s = some-offsets (union_offsets_of a) d in
    let f = p.0 in
    let b : most_picks < count_slots (map (field_window f) ws) = omega (arith, p.2, c f p.1, map-sum f (take k ws), map-sum f ws, sum-within (λ v. (field_window f v).count) ws k w l e) in
    subst (λ o. PassesPicks o (count_layouts (children_of a)) ws) (sym s.1) (f, omega (arith, p.1, m), b)

-- before the first window
zero-at : (n f : ℕ) → get_or {A = ℕ} (replicate n 0) f 0 ≡ 0
zero-at zero f = refl
zero-at (suc n) zero = refl
zero-at (suc n) (suc f) = zero-at n f

pub none-counted : (counts : List ℕ) (n : ℕ) → counts ≡ replicate 128 0 → (f : ℕ) → f < n → get_or counts f 0 ≡ count_slots (map (field_window f) [])
none-counted counts n e f l = ap (λ z. get_or z f 0) e ∙ zero-at 128 f

pub few-none : (counts : List ℕ) → counts ≡ replicate 128 0 → AreFew counts
few-none counts e = λ f. omega (arith, ap (λ z. get_or z f 0) e, zero-at 128 f)

-- facts about one of the windows
pub item-within : (t : TypeTree) (ws : List WindowParts) (k : ℕ) (w : WindowParts) → AreWithin t ws → k < length ws → w ≡ get_or ws k w → IsWithin t w
item-within t ws k w h l e = subst (IsWithin t) (sym e) (h k w l)

-- the counts of all windows are within the limit
pub picks-room : (o : Option (List ℤ)) (m n : ℕ) (ws : List WindowParts) (i : ℕ) (counts : List ℕ) → length ws ≤ i → n ≡ m → ((f : ℕ) → f < n → get_or counts f 0 ≡ count_slots (map (field_window f) (take i ws))) → AreFew counts → PassesPicks o m ws → ⊥
picks-room None m n ws i counts h e c k p = p
picks-room (Some os) m n ws i counts h e c k p =
    let f = p.0 in
    let q = c f (omega (arith, p.1, e)) ∙ ap (λ vs. count_slots (map (field_window f) vs)) (take_all i ws h) in
    let r = p.2 in
    let s = k f in
    omega (arith, q, r, s)
