-- Arrays of one data type, and the windows over all their slots.
use Rattle.std.specs.Prelude.{IfErr, IfOk, IsErrOf, List, [], ◌∷◌, ◌++◌, map, length, get_or}
use Rattle.std.specs.List.{All, flat_map}
use Rattle.std.proofs.Common.{◌≡◌, ℕ, zero, suc, true, false, ◌==◌, ◌+◌, ◌<◌, ◌≤◌, take, Result, Ok, Err, inl, inr, refl, ap, sym, ◌∙◌, subst, arith}
use Rattle.std.proofs.lemmas.List.Elements.{All-cons, All-map, All-more, All-tail}
use Rattle.std.proofs.lemmas.List.{take_all}
use Rattle.nest_memory.specs.TypeTree.{TypeTree, logical_type}
use Rattle.nest_array.specs.Seen.{layout_of}
use Rattle.nest_memory.specs.declared.error.Error.{Error}
use Rattle.nest_memory.specs.declared.error.Error.TheVariants.{Overflow}
use Rattle.nest_array.specs.WindowParts.{WindowParts, window_slots}
use Rattle.nest_array.specs.declared.any.AnyArray.{AnyArray}
use Rattle.nest_model.specs.Array.{TopFits}
use Rattle.nest_model.specs.Layout.{Layout, layout_type}
use Rattle.nest_model.specs.Meaning.{len, slots_of}
use Rattle.nest_model.specs.Reads.{slots-length}
use Rattle.nest_concat.specs.Joined.{AreArrays, AreOfOneType, AreWithin, IsConcatenated, IsJoined, IsWithin, RefusesConcatenate, RefusesJoin, first_array, first_type, whole}
use Rattle.nest_concat.specs.Laid.{joined_layout, joins_past, laid, passes}
use Rattle.nest_concat.specs.LaidLaws.{limits-pass, none-passes}
use Rattle.nest_concat.specs.Limits.{PassesLimits}
use Rattle.nest_concat.proofs.Nested.{of-map}

-- each has this data type
abbrev pub HaveType : TypeTree → List AnyArray → Type 0
HaveType t xs = All (λ a. layout_type (layout_of a) ≡ t) xs

-- one more array
pub type-more : (t : TypeTree) (xs : List AnyArray) (i : ℕ) (x : AnyArray) → i < length xs → x ≡ get_or xs i x → HaveType t (take i xs) → layout_type (layout_of x) ≡ t → HaveType t (take (i + 1) xs)
type-more t xs i x h e f g = All-more (λ a. layout_type (layout_of a) ≡ t) xs i x h f (subst (λ a. layout_type (layout_of a) ≡ t) e g)

pub types-all : (t : TypeTree) (xs : List AnyArray) (i : ℕ) → length xs ≤ i → HaveType t (take i xs) → HaveType t xs
types-all t xs i h f = subst (HaveType t) (take_all i xs h) f

pub one-other : (t : TypeTree) (xs : List AnyArray) (i : ℕ) (x : AnyArray) → i < length xs → x ≡ get_or xs i x → HaveType t xs → layout_type (layout_of x) ≡ t
one-other t xs i x h e f = ap (λ a. layout_type (layout_of a)) e ∙ f i x h

pub some-array : (n : ℕ) → false ≡ (n == 0) → 0 < n
some-array zero h = absurd (cc)
some-array (suc n) h = omega arith

pub one-from-all : (t : TypeTree) (xs : List AnyArray) (x : AnyArray) → 0 < length xs → x ≡ get_or xs 0 x → t ≡ layout_type (layout_of x) → HaveType t xs → AreOfOneType (map layout_of xs)
one-from-all t [] x h e f g = absurd (omega arith)
one-from-all t (y ∷ ys) x h e f g =
    let s : t ≡ layout_type (layout_of y) = f ∙ ap (λ z. layout_type (layout_of z)) e in
    All-map (λ b. layout_type b ≡ layout_type (layout_of y)) layout_of ys (λ k d l. All-tail (λ a. layout_type (layout_of a) ≡ t) y ys g k d l ∙ s)

pub all-from-one : (t : TypeTree) (xs : List AnyArray) (x : AnyArray) → 0 < length xs → x ≡ get_or xs 0 x → t ≡ layout_type (layout_of x) → AreOfOneType (map layout_of xs) → HaveType t xs
all-from-one t [] x h e f g = absurd (omega arith)
all-from-one t (y ∷ ys) x h e f g =
    let s : t ≡ layout_type (layout_of y) = f ∙ ap (λ z. layout_type (layout_of z)) e in
    All-cons (λ a. layout_type (layout_of a) ≡ t) y ys (sym s) (λ k d l. of-map layout_of (λ b. layout_type b ≡ layout_type (layout_of y)) ys g k d l ∙ sym s)

pub none-of-one : (xs : List AnyArray) → length xs ≡ 0 → AreOfOneType (map layout_of xs) → ⊥
none-of-one [] h g = g
none-of-one (x ∷ xs) h g = absurd (omega arith)

-- the windows over all slots
abbrev pub whole_of : AnyArray → WindowParts
whole_of a = whole (layout_of a)

whole-slots : (a : Layout) → window_slots (whole a) ≡ slots_of a
whole-slots a = take_all (len a) (slots_of a) (omega (arith, slots-length a))

wholes-slots : (xs : List AnyArray) → flat_map window_slots (map whole_of xs) ≡ flat_map slots_of (map layout_of xs)
wholes-slots [] = refl
wholes-slots (x ∷ xs) =
    ap (λ ss. ss ++ flat_map window_slots (map whole_of xs)) (whole-slots (layout_of x)) ∙ ap (λ ss. slots_of (layout_of x) ++ ss) (wholes-slots xs)

wholes-type : (xs : List AnyArray) → layout_type (first_array (map whole_of xs)) ≡ first_type (map layout_of xs)
wholes-type [] = refl
wholes-type (x ∷ xs) = refl

wholes-map : (xs : List AnyArray) → map whole (map layout_of xs) ≡ map whole_of xs
wholes-map [] = refl
wholes-map (x ∷ xs) = ap (λ ws. whole_of x ∷ ws) (wholes-map xs)

-- their concatenation, and its errors
pub wholes-joined : (r : Result AnyArray Error) (xs : List AnyArray) (ws : List WindowParts) → ws ≡ map whole_of xs → IfOk r (λ a. IsJoined (layout_type (first_array ws)) ws (layout_of a))
    → IfOk r (λ a. IsConcatenated (map layout_of xs) (layout_of a))
wholes-joined (Ok a) xs ws e h =
    record { slots = h.slots ∙ ap (flat_map window_slots) e ∙ wholes-slots xs; same_type = h.same_type ∙ ap (λ z. layout_type (first_array z)) e ∙ wholes-type xs }
wholes-joined (Err x) xs ws e h = tt

pub wholes-refused : (r : Result AnyArray Error) (xs : List AnyArray) (ws : List WindowParts) → ws ≡ map whole_of xs → IfErr r (λ e. RefusesJoin e (first_array ws) ws)
    → IfErr r (λ e. RefusesConcatenate e (map layout_of xs))
wholes-refused (Ok a) xs ws e h = tt
wholes-refused (Err x) xs ws e h = inr (subst (λ z. RefusesJoin x (first_array z) z) (e ∙ sym (wholes-map xs)) h)

wholes-are : (xs : List AnyArray) (ws : List WindowParts) → ws ≡ map whole_of xs → ws ≡ map whole (map layout_of xs)
wholes-are xs ws e = e ∙ sym (wholes-map xs)

pub wholes-laid : (r : Result AnyArray Error) (xs : List AnyArray) (ws : List WindowParts) → ws ≡ map whole_of xs → IfOk r (λ a. layout_of a ≡ laid (first_array ws) ws) → IfOk r (λ a. layout_of a ≡ joined_layout (map layout_of xs))
wholes-laid (Ok a) xs ws e h = h ∙ ap (λ z. laid (first_array z) z) (wholes-are xs ws e)
wholes-laid (Err x) xs ws e h = tt

pub wholes-room : (r : Result AnyArray Error) (xs : List AnyArray) (ws : List WindowParts) → ws ≡ map whole_of xs → IfOk r (λ _. PassesLimits (first_array ws) ws → ⊥) → IfOk r (λ _. joins_past (map layout_of xs) ≡ false)
wholes-room (Ok a) xs ws e h = let z = ap (λ y. passes (first_array y) y) (wholes-are xs ws e) in sym z ∙ none-passes (first_array ws) ws h
wholes-room (Err x) xs ws e h = tt

pub wholes-past : (r : Result AnyArray Error) (xs : List AnyArray) (ws : List WindowParts) → ws ≡ map whole_of xs → IfErr r (λ e. RefusesJoin e (first_array ws) ws) → IsErrOf r Overflow → joins_past (map layout_of xs) ≡ true
wholes-past (Ok a) xs ws e h q = cc
wholes-past (Err x) xs ws e (inl m) q = cc
wholes-past (Err x) xs ws e (inr p) q = let z = ap (λ y. passes (first_array y) y) (wholes-are xs ws e) in sym z ∙ limits-pass (first_array ws) ws p.1

pub wholes-within : (xs : List AnyArray) (ws : List WindowParts) → ws ≡ map whole_of xs → AreArrays ws → AreOfOneType (map layout_of xs) → AreWithin (layout_type (first_array ws)) ws
wholes-within [] ws e f g = absurd g
wholes-within (x ∷ xs) ws e f g =
    let t = layout_type (layout_of x) in
    let tops : All (λ a. TopFits (layout_of a)) (x ∷ xs) = of-map whole_of (λ w. TopFits w.array) (x ∷ xs) (subst AreArrays e f) in
    let types = all-from-one t (x ∷ xs) x (omega arith) refl refl g in
    let w : AreWithin t (map whole_of (x ∷ xs)) = All-map (IsWithin t) whole_of (x ∷ xs) (λ k d l. record { is_array = tops k d l; within = omega arith; same_type = ap logical_type (types k d l) }) in
    subst (λ z. AreWithin (layout_type (first_array z)) z) (sym e) w
