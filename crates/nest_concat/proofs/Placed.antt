-- Slots by array and index, as windows of one slot.
use Rattle.std.specs.Prelude.{List, [], ◌∷◌, ◌++◌, IfErr, IfOk, length, map, get_or, take}
use Rattle.std.specs.List.{flat_map}
use Rattle.std.proofs.Common.{◌≡◌, ℕ, zero, suc, ◌+◌, ◌<◌, Result, Ok, Err, inr, refl, ap, sym, ◌∙◌, subst, arith}
use Rattle.std.proofs.lemmas.List.{get_or-map, length-map, map_more}
use Rattle.std.proofs.lemmas.List.Elements.{All-cons, All-head, All-tail}
use Rattle.nest_array.specs.Seen.{layout_of}
use Rattle.nest_array.specs.WindowParts.{WindowParts, window_parts, window_slots}
use Rattle.nest_array.specs.declared.any.AnyArray.{AnyArray}
use Rattle.nest_memory.specs.TypeTree as types
use Rattle.nest_memory.specs.TypeTree.{logical_type}
use Rattle.nest_memory.specs.declared.error.Error.{Error}
use Rattle.nest_model.specs.Array.{TopFits}
use Rattle.nest_model.specs.Layout as layouts
use Rattle.nest_model.specs.Layout.{Layout, layout_type}
use Rattle.nest_model.specs.Meaning.{len, run, slot}
use Rattle.nest_model.specs.Runs.{cut-run}
use Rattle.nest_concat.specs.Interleaved.{AreIndicesOf, IsInterleaved, IsIndexOf, RefusesInterleave, array_at, slot_of, slot_window, slot_windows}
use Rattle.nest_concat.specs.Joined.{AreArrays, AreOfOneType, AreWithin, IsJoined, IsWithin, RefusesJoin, first_array, first_type}
use Rattle.nest_concat.proofs.Nested.{all-map, of-map}

-- an array that was read
pub array-is : (xs : List AnyArray) (k : ℕ) (x : AnyArray) → k < length xs → x ≡ get_or xs k x → layout_of x ≡ array_at (map layout_of xs) k
array-is xs k x h e = ap layout_of e ∙ sym (get_or-map layout_of xs k x (layouts.null types.null 0) h)

-- a pair of indices that was read
pub place-there : (xs : List AnyArray) (ps : List (ℕ × ℕ)) (n : ℕ) → AreIndicesOf (map layout_of xs) ps → n < length ps
    → ((get_or ps n (0, 0)).0 < length xs) × ((get_or ps n (0, 0)).1 < len (array_at (map layout_of xs) (get_or ps n (0, 0)).0))
place-there xs ps n h l =
    let r = h n (0, 0) l in
    (omega (arith, r.0, length-map xs layout_of), r.1)

-- a window over one more slot
pub windows-more : (as_ : List Layout) (ps : List (ℕ × ℕ)) (n : ℕ) → n < length ps → slot_windows as_ (take (n + 1) ps) ≡ slot_windows as_ (take n ps) ++ slot_window as_ (get_or ps n (0, 0)) ∷ []
windows-more as_ ps n l = ap (λ ws. window_parts (array_at as_ 0) 0 0 ∷ ws) (map_more (slot_window as_) ps n (0, 0) l)

-- the slots of those windows are the given slots
one-slot : (as_ : List Layout) (p : ℕ × ℕ) → IsIndexOf as_ p → window_slots (slot_window as_ p) ≡ slot_of as_ p ∷ []
one-slot as_ p h =
    let a = array_at as_ p.0 in
    let z : 0 + p.1 ≡ p.1 = omega arith in
    cut-run (slot a) 0 (len a) p.1 1 (omega (arith, h.1)) ∙ ap (λ q. run (slot a) q 1) z

named-slots : (as_ : List Layout) (ps : List (ℕ × ℕ)) → AreIndicesOf as_ ps → flat_map window_slots (map (slot_window as_) ps) ≡ map (slot_of as_) ps
named-slots as_ [] h = refl
named-slots as_ (p ∷ ps) h =
    ap (λ ss. ss ++ flat_map window_slots (map (slot_window as_) ps)) (one-slot as_ p (All-head (IsIndexOf as_) p ps h))
    ∙ ap (λ ss. slot_of as_ p ∷ ss) (named-slots as_ ps (All-tail (IsIndexOf as_) p ps h))

first-is : (as_ : List Layout) → 0 < length as_ → layout_type (array_at as_ 0) ≡ first_type as_
first-is [] h = absurd (omega arith)
first-is (a ∷ as_) h = refl

pub some-arrays : (as_ : List Layout) → AreOfOneType as_ → 0 < length as_
some-arrays [] h = absurd h
some-arrays (a ∷ as_) h = omega arith

pub interleaved : (r : Result AnyArray Error) (as_ : List Layout) (ps : List (ℕ × ℕ)) (ws : List WindowParts) → ws ≡ slot_windows as_ ps → 0 < length as_ → AreIndicesOf as_ ps
    → IfOk r (λ b. IsJoined (layout_type (first_array ws)) ws (layout_of b)) → IfOk r (λ b. IsInterleaved as_ ps (layout_of b))
interleaved (Ok b) as_ ps ws e s h j =
    record { slots = j.slots ∙ ap (flat_map window_slots) e ∙ named-slots as_ ps h; same_type = j.same_type ∙ ap (λ z. layout_type (first_array z)) e ∙ first-is as_ s }
interleaved (Err x) as_ ps ws e s h j = tt

pub interleave-refused : (r : Result AnyArray Error) (as_ : List Layout) (ps : List (ℕ × ℕ)) (ws : List WindowParts) → ws ≡ slot_windows as_ ps → IfErr r (λ e. RefusesJoin e (first_array ws) ws)
    → IfErr r (λ e. RefusesInterleave e as_ ps)
interleave-refused (Ok b) as_ ps ws e h = tt
interleave-refused (Err x) as_ ps ws e h = inr (subst (λ z. RefusesJoin x (first_array z) z) e h)

-- they are within arrays of one data type
type-there : (as_ : List Layout) (k : ℕ) → AreOfOneType as_ → k < length as_ → layout_type (array_at as_ k) ≡ layout_type (array_at as_ 0)
type-there [] k h l = absurd h
type-there (a ∷ as_) zero h l = refl
type-there (a ∷ as_) (suc k) h l = h k (layouts.null types.null 0) (omega arith)

pub windows-within : (as_ : List Layout) (ps : List (ℕ × ℕ)) (ws : List WindowParts) → ws ≡ slot_windows as_ ps → AreArrays ws → AreIndicesOf as_ ps → AreOfOneType as_ → AreWithin (layout_type (first_array ws)) ws
windows-within as_ ps ws e f h o =
    let t = layout_type (array_at as_ 0) in
    let w = window_parts (array_at as_ 0) 0 0 in
    let g = subst AreArrays e f in
    let top = All-head (λ v. TopFits v.array) w (map (slot_window as_) ps) g in
    let tops = of-map (slot_window as_) (λ v. TopFits v.array) ps (All-tail (λ v. TopFits v.array) w (map (slot_window as_) ps) g) in
    let one : IsWithin t w = record { is_array = top; within = omega arith; same_type = refl } in
    let rest : AreWithin t (map (slot_window as_) ps) = all-map (slot_window as_) (IsWithin t) ps
    (λ k d l. let p = h k d l in record { is_array = tops k d l; within = omega (arith, p.1); same_type = ap logical_type (type-there as_ (get_or ps k d).0 o p.0) }) in
    subst (λ z. AreWithin (layout_type (first_array z)) z) (sym e) (All-cons (IsWithin t) w (map (slot_window as_) ps) one rest)
