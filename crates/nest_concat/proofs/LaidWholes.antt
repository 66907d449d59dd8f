-- The concatenation of arrays, and dictionaries over it.
use Rattle.std.specs.Prelude.{◌≡◌, ℕ, ◌+◌, ◌<◌, ◌≤◌, ℤ, pos, negsuc, Bool, true, false, List, [], ◌∷◌, ◌++◌, map, length, get_or, if◌then◌else◌}
use Rattle.std.specs.List.{All, flat_map}
use Rattle.std.proofs.Common.{refl, ap, sym, ◌∙◌, subst, arith, append-nil, length-append}
use Rattle.std.proofs.lemmas.List.{get_or_append_left, get_or-append-add, take_all}
use Rattle.std.proofs.lemmas.List.Elements.{All-cons, All-nil}
use Rattle.nest_memory.specs.TypeTree.{TypeTree, logical_type, value_type}
use Rattle.nest_model.specs.Accessors.{key_at, validity_of}
use Rattle.nest_model.specs.Array.{IsArray}
use Rattle.nest_model.specs.FactLaws.{dictionary-facts}
use Rattle.nest_model.specs.Fits.{IsLogically, Names}
use Rattle.nest_model.specs.Layout.{Layout, dictionary, layout_type}
use Rattle.nest_model.specs.Meaning.{len, slot, slots_of}
use Rattle.nest_model.specs.Part.{to_index, valid_at}
use Rattle.nest_model.specs.Reads.{slot-place, slots-length}
use Rattle.nest_model.specs.SameArray.{IsSameArray}
use Rattle.nest_model.specs.SameArrayLaws.{same-from_places}
use Rattle.nest_model.specs.Slot as slots
use Rattle.nest_model.specs.Slot.{Slot}
use Rattle.nest_array.specs.WindowParts.{window_slots}
use Rattle.nest_concat.specs.Joinable.{MayJoin}
use Rattle.nest_concat.specs.Joined.{AreOfOneType, IsConcatenated, IsWithin, first_array, first_type, whole}
use Rattle.nest_concat.specs.Laid.{joined_layout}
use Rattle.nest_concat.proofs.LaidArrays.{is-laid}
use Rattle.nest_concat.proofs.Nested.{all-map}

whole-slots : (a : Layout) → window_slots (whole a) ≡ slots_of a
whole-slots a = take_all (len a) (slots_of a) (omega (arith, slots-length a))

wholes-slots : (as_ : List Layout) → flat_map window_slots (map whole as_) ≡ flat_map slots_of as_
wholes-slots [] = refl
wholes-slots (a ∷ as_) = ap (λ ss. ss ++ flat_map window_slots (map whole as_)) (whole-slots a) ∙ ap (λ ss. slots_of a ++ ss) (wholes-slots as_)

wholes-type : (as_ : List Layout) → layout_type (first_array (map whole as_)) ≡ first_type as_
wholes-type [] = refl
wholes-type (a ∷ as_) = refl

wholes-may : (as_ : List Layout) → AreOfOneType as_ → All IsArray as_ → MayJoin (first_array (map whole as_)) (map whole as_)
wholes-may [] h f = absurd h
wholes-may (a ∷ as_) h f =
    let t = layout_type a in
    let own : All (λ b. layout_type b ≡ t) (a ∷ as_) = All-cons (λ b. layout_type b ≡ t) a as_ refl h in
    record {
      first = refl;
      some = omega arith;
      arrays = all-map whole (λ w. IsArray w.array) (a ∷ as_) f;
      within = all-map whole (IsWithin t) (a ∷ as_) (λ i d l. record { is_array = (f i d l).0; within = omega arith; same_type = ap logical_type (own i d l) });
    }

-- it is an array, with their slots
pub wholes-joined : (as_ : List Layout) → AreOfOneType as_ → All IsArray as_ → IsArray (joined_layout as_) × IsConcatenated as_ (joined_layout as_)
wholes-joined as_ h f =
    let ws = map whole as_ in
    let x = is-laid (first_array ws) ws (wholes-may as_ h f) in
    (x.0, record { slots = x.1.slots ∙ wholes-slots as_; same_type = x.1.same_type ∙ wholes-type as_ })

pub two-joined : (a b : Layout) → layout_type b ≡ layout_type a → IsArray a → IsArray b → IsArray (joined_layout (a ∷ b ∷ [])) × IsConcatenated (a ∷ b ∷ []) (joined_layout (a ∷ b ∷ []))
two-joined a b e f g =
    let P : Layout → Type 0 = λ c. layout_type c ≡ layout_type a in
    wholes-joined (a ∷ b ∷ []) (All-cons P b [] e (All-nil P)) (All-cons IsArray a (b ∷ []) f (All-cons IsArray b [] g (All-nil IsArray)))

pub two-slots : (a b : Layout) → layout_type b ≡ layout_type a → IsArray a → IsArray b → slots_of (joined_layout (a ∷ b ∷ [])) ≡ slots_of a ++ slots_of b
two-slots a b e f g = (two-joined a b e f g).1.slots ∙ ap (λ ss. slots_of a ++ ss) (append-nil (slots_of b))

-- the slots of both arrays, by index
pub two-count : (a b : Layout) → layout_type b ≡ layout_type a → IsArray a → IsArray b → len (joined_layout (a ∷ b ∷ [])) ≡ len a + len b
two-count a b e f g =
    let c = joined_layout (a ∷ b ∷ []) in
    omega (arith, ap length (two-slots a b e f g), length-append (slots_of a) (slots_of b), slots-length a, slots-length b, slots-length c)

pub two-first : (a b : Layout) (i : ℕ) → layout_type b ≡ layout_type a → IsArray a → IsArray b → i < len a → slot (joined_layout (a ∷ b ∷ [])) i ≡ slot a i
two-first a b i e f g l =
    let c = joined_layout (a ∷ b ∷ []) in
    sym (slot-place c i slots.null (omega (arith, l, two-count a b e f g)))
    ∙ ap (λ ss. get_or ss i slots.null) (two-slots a b e f g)
    ∙ get_or_append_left (slots_of a) (slots_of b) slots.null i (omega (arith, l, slots-length a))
    ∙ slot-place a i slots.null l

pub two-behind : (a b : Layout) (i : ℕ) → layout_type b ≡ layout_type a → IsArray a → IsArray b → i < len b → slot (joined_layout (a ∷ b ∷ [])) (len a + i) ≡ slot b i
two-behind a b i e f g l =
    let c = joined_layout (a ∷ b ∷ []) in
    sym (slot-place c (len a + i) slots.null (omega (arith, l, two-count a b e f g)))
    ∙ ap (λ ss. get_or ss (len a + i) slots.null) (two-slots a b e f g)
    ∙ ap (λ n. get_or (slots_of a ++ slots_of b) (n + i) slots.null) (sym (slots-length a))
    ∙ get_or-append-add (slots_of a) (slots_of b) i slots.null
    ∙ slot-place b i slots.null l

-- keys keep their values when others are appended
names-more : (z : ℤ) (m n : ℕ) → m ≤ n → Names z m → Names z n
names-more (pos k) m n h l = omega (arith, l)
names-more (negsuc k) m n h l = l

names-place : (z : ℤ) (n : ℕ) → Names z n → to_index z < n
names-place (pos k) n h = h
names-place (negsuc k) n h = absurd h

same-where : (b : Bool) (x y : Slot) → (b ≡ true → x ≡ y) → (if b then x else slots.null) ≡ (if b then y else slots.null)
same-where true x y h = h refl
same-where false x y h = refl

pub keyed-array : (t : TypeTree) (ks c d : Layout) → IsArray (dictionary t ks c) → IsArray d → layout_type d ≡ layout_type c → IsArray (dictionary t ks (joined_layout (c ∷ d ∷ [])))
keyed-array t ks c d f g e =
    let x = dictionary-facts t ks c f.0 in
    let j = two-joined c d e f.1 g in
    let n = two-count c d e f.1 g in
    ((x.keyed, (x.typed, (x.key_typed, (subst (IsLogically (value_type t)) (sym j.1.same_type) x.value_typed, λ i l v. names-more (key_at ks i) (len c) (len (joined_layout (c ∷ d ∷ []))) (omega (arith, n)) (x.in_range i l v))))), j.0)

pub keyed-same : (t : TypeTree) (ks c d : Layout) → IsArray (dictionary t ks c) → IsArray d → layout_type d ≡ layout_type c → IsSameArray (dictionary t ks (joined_layout (c ∷ d ∷ []))) (dictionary t ks c)
keyed-same t ks c d f g e =
    let x = dictionary-facts t ks c f.0 in
    let j = joined_layout (c ∷ d ∷ []) in
    same-from_places (dictionary t ks j) (dictionary t ks c) refl refl
    (λ i l.
    let k = to_index (key_at ks i) in
    same-where (valid_at (validity_of ks) i) (slot j k) (slot c k) (λ v. two-first c d k e f.1 g (names-place (key_at ks i) (len c) (x.in_range i l v))))
