-- Arrays with concatenated children.
use Rattle.std.specs.Prelude.{IsTrue, List, [], ◌∷◌, map, length, get_or, Some}
use Rattle.std.specs.List.{All, flat_map}
use Rattle.std.proofs.Common.{◌≡◌, ℕ, ◌+◌, ◌*◌, ◌/◌, ◌%◌, ◌<◌, ◌≤◌, Bool, inl, inr, refl, ap, sym, ◌∙◌, subst, arith}
use Rattle.std.proofs.Math.Nat.{mul-div_cancel}
use Rattle.std.proofs.lemmas.List.Elements.{All-nil, All-cons}
use Rattle.std.proofs.lemmas.List.Folds.{flat_map-map}
use Rattle.std.proofs.lemmas.List.Sums.{sum_by_more_le}
use Rattle.nest_memory.specs.Sublist.{sublist}
use Rattle.nest_memory.specs.Physical.{physical_type, list_of_width}
use Rattle.nest_memory.specs.TypeTree.{TypeTree, logical_type, item_type, size_of, has_pairs}
use Rattle.nest_memory.specs.declared.datatypes.physical_type.PhysicalType.TheVariants as physical
use Rattle.nest_memory.specs.declared.error.Error.{Error}
use Rattle.nest_model.specs.Accessors.{validity_of, offsets_of, child_of}
use Rattle.nest_model.specs.Array.{AreOffsets, TopFits}
use Rattle.nest_model.specs.FactLaws.{list-facts, map-facts, fixed_size_list-facts}
use Rattle.nest_model.specs.Fits.{Fits, ValidityFits}
use Rattle.nest_model.specs.Layout.{Layout, fixed_size_list, list, map as map_of, layout_type, weight}
use Rattle.nest_model.specs.Meaning.{len, slot, slots_of, where_valid}
use Rattle.nest_model.specs.Part.{Validity, begin, extent}
use Rattle.nest_model.specs.Reads.{slots-length, list-slot, map-slot, fixed_size_list-slot}
use Rattle.nest_model.specs.Runs.{product-exact, product-fits}
use Rattle.nest_model.specs.Slot as slots
use Rattle.nest_model.specs.Slot.{Slot, seal}
use Rattle.nest_array.specs.WindowParts.{WindowParts, window_slots}
use Rattle.nest_concat.specs.Joined.{AreArrays, AreWithin, IsJoined, IsWithin, RefusesJoin, first_array}
use Rattle.nest_concat.specs.Limits.{PassesLimits}
use Rattle.nest_concat.specs.Windows.{blocks_of, count_of, count_slots, items_in, concatenated_validity}
use Rattle.nest_concat.proofs.Flats.{block-at, blocks-count}
use Rattle.nest_concat.proofs.Logical.{item-alike, kind-alike, pairs-alike, size-alike}
use Rattle.nest_concat.proofs.Pieces.{first-one, later-ones, begin-last, begin-rises}
use Rattle.nest_concat.proofs.Shapes.{list-shape, map-shape, fixed_size_list-shape}
use Rattle.nest_concat.proofs.Rows.{SpansOf, joined_ends, span-at, span_in, spans-last, spans-length, spans-rows}
use Rattle.nest_concat.proofs.Windows.{joined-fits, joined-slots, nowhere, place_of, same-slot, validity-at, window}

-- a property of each result of a function
pub all-map : {X Y : Type 0} (f : X → Y) (P : Y → Type 0) (xs : List X) → All (λ x. P (f x)) xs → All P (map f xs)
all-map f P [] h = All-nil P
all-map f P (x ∷ xs) h = All-cons P (f x) (map f xs) (first-one (λ y. P (f y)) x xs h) (all-map f P xs (later-ones (λ y. P (f y)) x xs h))

pub of-map : {X Y : Type 0} (f : X → Y) (P : Y → Type 0) (xs : List X) → All P (map f xs) → All (λ x. P (f x)) xs
of-map f P [] h = All-nil (λ x. P (f x))
of-map f P (x ∷ xs) h = All-cons (λ y. P (f y)) x xs (first-one P (f x) (map f xs) h) (of-map f P xs (later-ones P (f x) (map f xs) h))

pub place-below : (ws : List WindowParts) (k j : ℕ) → k < length ws → j < count_of (window ws k) → place_of ws k j < count_slots ws
place-below ws k j h l = omega (arith, sum_by_more_le count_of ws k nowhere h)

some-one : {A : Type 0} (x y : A) → Some x ≡ Some y → x ≡ y
some-one x y h = cc

pub first-within : (t : TypeTree) (ws : List WindowParts) → AreWithin t ws → 0 < length ws → TopFits (first_array ws) × (logical_type (layout_type (first_array ws)) ≡ logical_type t)
first-within t [] h l = absurd (omega arith)
first-within t (w ∷ ws) h l = ((h 0 w (omega arith)).is_array, (h 0 w (omega arith)).same_type)

map-some : {X Y : Type 0} (f : X → Y) (xs : List X) → 0 < length xs → 0 < length (map f xs)
map-some f [] h = absurd (omega arith)
map-some f (x ∷ xs) h = omega arith

pub first-of-map : (f : WindowParts → WindowParts) (g : Layout → Layout) (ws : List WindowParts) → ((w : WindowParts) → (f w).array ≡ g w.array) → 0 < length ws → first_array (map f ws) ≡ g (first_array ws)
first-of-map f g [] e h = absurd (omega arith)
first-of-map f g (w ∷ ws) e h = e w

-- children of one type, where f selects the child of a window
pub children-within : (f : WindowParts → WindowParts) (g : Layout → Layout) (t : TypeTree) (ws cws : List WindowParts) → ((w : WindowParts) → (f w).array ≡ g w.array)
    → AreWithin t ws → 0 < length ws → cws ≡ map f ws → AreArrays cws
    → ((a : Layout) → TopFits a → logical_type (layout_type a) ≡ logical_type t → logical_type (layout_type (g a)) ≡ logical_type (layout_type (g (first_array ws))))
    → All (λ w. (f w).offset + (f w).count ≤ len (f w).array) ws
    → (0 < length cws) × AreWithin (layout_type (first_array cws)) cws
children-within f g t ws cws m h s e r y n =
    let c = layout_type (first_array (map f ws)) in
    let z : logical_type (layout_type (g (first_array ws))) ≡ logical_type c = sym (ap (λ a. logical_type (layout_type a)) (first-of-map f g ws m s)) in
    let tops = of-map f (λ w. TopFits w.array) ws (subst AreArrays e r) in
    let a : AreWithin c (map f ws) = all-map f (IsWithin c) ws (λ i d l.
    let w = get_or ws i d in
    record { is_array = tops i d l; within = n i d l; same_type = ap (λ a. logical_type (layout_type a)) (m w) ∙ y w.array (h i d l).is_array (h i d l).same_type ∙ z }) in
    subst (λ cs. (0 < length cs) × AreWithin (layout_type (first_array cs)) cs) (sym e) (map-some f ws s, a)

-- lists
list-is : (large : Bool) (t : TypeTree) (w : WindowParts) → physical_type t ≡ list_of_width large → IsWithin t w → w.array ≡ list large (layout_type w.array) (offsets_of w.array) (child_of w.array) (validity_of w.array)
list-is large t w p f =
    list-shape large w.array f.is_array (kind-alike (layout_type w.array) t _ f.same_type p)

abbrev pub child_slots : WindowParts → List Slot
child_slots w = slots_of (child_of w.array)

list-spans : (large : Bool) (t : TypeTree) (ws : List WindowParts) → AreWithin t ws → physical_type t ≡ list_of_width large → SpansOf child_slots ws
list-spans large t ws h p = λ i d l.
    let w = get_or ws i d in
    let e = list-is large t w p (h i d l) in
    let f = list-facts large (layout_type w.array) (offsets_of w.array) (child_of w.array) (validity_of w.array) (subst TopFits e (h i d l).is_array) in
    record { rising = f.rising; inside = omega (arith, (h i d l).within, ap len e); covered = omega (arith, f.within, slots-length (child_of w.array)) }

-- the window over the items is within them
items-inside : (ws : List WindowParts) → SpansOf child_slots ws → All (λ w. (items_in w).offset + (items_in w).count ≤ len (items_in w).array) ws
items-inside ws s = λ i d l.
    let w = get_or ws i d in
    let r = s i d l in
    let a = begin-last (offsets_of w.array) (w.offset + w.count) r.rising r.inside in
    let b = begin-rises (offsets_of w.array) w.offset w.count r.rising r.inside in
    omega (arith, a, b, r.covered, slots-length (child_of w.array))

list-item : (large : Bool) (t : TypeTree) (a : Layout) → physical_type t ≡ list_of_width large → TopFits a → logical_type (layout_type a) ≡ logical_type t → item_type t ≡ Some (layout_type (child_of a))
list-item large t a p f e =
    let k = list-shape large a f (kind-alike (layout_type a) t _ e p) in
    item-alike t (layout_type a) (sym e) ∙ (list-facts large (layout_type a) (offsets_of a) (child_of a) (validity_of a) (subst TopFits k f)).items

pub list-children : (large : Bool) (t : TypeTree) (ws cws : List WindowParts) → AreWithin t ws → physical_type t ≡ list_of_width large → 0 < length ws → cws ≡ map items_in ws → AreArrays cws
    → (0 < length cws) × AreWithin (layout_type (first_array cws)) cws
list-children large t ws cws h p s e r =
    let f = first-within t ws h s in
    children-within items_in child_of t ws cws (λ w. refl) h s e r
    (λ a x y. ap logical_type (some-one _ _ (sym (list-item large t a p x y) ∙ list-item large t (first_array ws) p f.0 f.1)))
    (items-inside ws (list-spans large t ws h p))

-- the slots of concatenated items
items-slots : (ct : TypeTree) (ws : List WindowParts) (d : Layout) → IsJoined ct (map items_in ws) d → slots_of d ≡ flat_map (span_in child_slots) ws
items-slots ct ws d g = g.slots ∙ flat_map-map window_slots items_in ws

list-core : (large : Bool) (t ct : TypeTree) (ws : List WindowParts) (d : Layout) → AreWithin t ws → physical_type t ≡ list_of_width large → item_type t ≡ Some ct
    → AreOffsets (joined_ends ws) → IsJoined ct (map items_in ws) d
    → Fits (list large t (joined_ends ws) d (concatenated_validity ws)) × IsJoined t ws (list large t (joined_ends ws) d (concatenated_validity ws))
list-core large t ct ws d h p c o g =
    let es = joined_ends ws in
    let v = concatenated_validity ws in
    let s = list-spans large t ws h p in
    let n = spans-rows ws in
    let q = items-slots ct ws d g in
    let m = ap length q in
    let fits : Fits (list large t es d v) = (
      omega (arith, spans-last child_slots ws s, spans-length child_slots ws s, slots-length d),
      (subst (ValidityFits v) (sym n) (joined-fits t ws h), (p, (c ∙ ap Some (sym g.same_type), tt))),
    ) in (
      fits,
      record {
        slots = joined-slots t (list large t es d v) ws h n (λ k j l i.
            let w = window ws k in
            let x = place_of ws k j in
            let f = h k nowhere l in
            let e = list-is large t w p f in
            list-slot large t es d v x (o, fits) (omega (arith, n, place-below ws k j l i))
            ∙ same-slot _ _ _ _ (validity-at t ws k j h l i) (ap (λ ss. slots.list (seal (sublist ss (begin es x) (extent es x)))) q ∙ ap (λ ss. slots.list (seal ss)) (span-at child_slots ws k j s l i))
            ∙ sym (list-slot large (layout_type w.array) (offsets_of w.array) (child_of w.array) (validity_of w.array) (w.offset + j) (subst TopFits e f.is_array) (omega (arith, f.within, ap len e)))
            ∙ sym (ap (λ z. slot z (w.offset + j)) e));
        same_type = refl;
      },
    )

pub list-joined : (large : Bool) (t u : TypeTree) (ws cws : List WindowParts) (es : List ℕ) (d : Layout) (v : Validity) → AreWithin t ws → physical_type t ≡ list_of_width large → 0 < length ws
    → cws ≡ map items_in ws → u ≡ t → es ≡ joined_ends ws → AreOffsets es → v ≡ concatenated_validity ws → IsJoined (layout_type (first_array cws)) cws d
    → Fits (list large u es d v) × IsJoined t ws (list large u es d v)
list-joined large t u ws cws es d v h p s c e f o g j =
    let w = first-within t ws h s in
    let i = list-item large t (first_array ws) p w.0 w.1 ∙ ap (λ z. Some (layout_type z)) (sym (first-of-map items_in child_of ws (λ x. refl) s)) in
    let x = list-core large t (layout_type (first_array (map items_in ws))) ws d h p i (subst AreOffsets f o) (subst (λ z. IsJoined (layout_type (first_array z)) z d) c j) in
    let y : list large t (joined_ends ws) d (concatenated_validity ws) ≡ list large u es d v = cc in
    subst (λ z. Fits z × IsJoined t ws z) y x

-- the errors of the items are errors of the lists
child-refuses : (e : Error) (a c : Layout) (ws cws : List WindowParts) → (PassesLimits c cws → PassesLimits a ws) → RefusesJoin e c cws → RefusesJoin e a ws
child-refuses e a c ws cws f (inl m) = inl m
child-refuses e a c ws cws f (inr p) = inr (p.0, f p.1)

abbrev pub IsFirst : Layout → List WindowParts → Type 0
IsFirst a ws = (a ≡ first_array ws) × (0 < length ws)

pub child-first : (f : WindowParts → WindowParts) (a : Layout) (ws cws : List WindowParts) → ((w : WindowParts) → (f w).array ≡ child_of w.array) → IsFirst a ws → cws ≡ map f ws → first_array cws ≡ child_of a
child-first f a ws cws m h e = ap first_array e ∙ first-of-map f child_of ws m h.1 ∙ ap child_of (sym h.0)

pub list-refuses : (large : Bool) (e : Error) (a : Layout) (t : TypeTree) (os : List ℕ) (c : Layout) (va : Validity) (ws cws : List WindowParts) → a ≡ list large t os c va → IsFirst a ws → cws ≡ map items_in ws
    → RefusesJoin e (first_array cws) cws → RefusesJoin e a ws
list-refuses large e a t os c va ws cws k h q r =
    let z : first_array cws ≡ c = child-first items_in a ws cws (λ w. refl) h q ∙ ap child_of k in
    let r' : RefusesJoin e c (map items_in ws) = subst (λ y. RefusesJoin e c y) q (subst (λ y. RefusesJoin e y cws) z r) in
    subst (λ y. RefusesJoin e y ws) (sym k) (child-refuses e (list large t os c va) c ws (map items_in ws) (λ x. inr (inr x)) r')

pub list-lighter : (large : Bool) (a : Layout) (t : TypeTree) (os : List ℕ) (c : Layout) (va : Validity) (ws cws : List WindowParts) → a ≡ list large t os c va → IsFirst a ws → cws ≡ map items_in ws
    → weight (first_array cws) < weight a
list-lighter large a t os c va ws cws k h q =
    let z : first_array cws ≡ c = child-first items_in a ws cws (λ w. refl) h q ∙ ap child_of k in
    omega (arith, ap weight z, ap weight k)

-- maps
map-is : (t : TypeTree) (w : WindowParts) → physical_type t ≡ physical.Map → IsWithin t w → w.array ≡ map_of (layout_type w.array) (offsets_of w.array) (child_of w.array) (validity_of w.array)
map-is t w p f = map-shape w.array f.is_array (kind-alike (layout_type w.array) t _ f.same_type p)

map-spans : (t : TypeTree) (ws : List WindowParts) → AreWithin t ws → physical_type t ≡ physical.Map → SpansOf child_slots ws
map-spans t ws h p = λ i d l.
    let w = get_or ws i d in
    let e = map-is t w p (h i d l) in
    let f = map-facts (layout_type w.array) (offsets_of w.array) (child_of w.array) (validity_of w.array) (subst TopFits e (h i d l).is_array) in
    record { rising = f.rising; inside = omega (arith, (h i d l).within, ap len e); covered = omega (arith, f.within, slots-length (child_of w.array)) }

map-entry : (t : TypeTree) (a : Layout) → physical_type t ≡ physical.Map → TopFits a → logical_type (layout_type a) ≡ logical_type t → (item_type t ≡ Some (layout_type (child_of a))) × IsTrue (has_pairs t)
map-entry t a p f e =
    let k = map-shape a f (kind-alike (layout_type a) t _ e p) in
    let g = map-facts (layout_type a) (offsets_of a) (child_of a) (validity_of a) (subst TopFits k f) in
    (item-alike t (layout_type a) (sym e) ∙ g.entries, subst IsTrue (pairs-alike (layout_type a) t e) g.pairs)

pub map-children : (t : TypeTree) (ws cws : List WindowParts) → AreWithin t ws → physical_type t ≡ physical.Map → 0 < length ws → cws ≡ map items_in ws → AreArrays cws
    → (0 < length cws) × AreWithin (layout_type (first_array cws)) cws
map-children t ws cws h p s e r =
    let f = first-within t ws h s in
    children-within items_in child_of t ws cws (λ w. refl) h s e r
    (λ a x y. ap logical_type (some-one _ _ (sym (map-entry t a p x y).0 ∙ (map-entry t (first_array ws) p f.0 f.1).0)))
    (items-inside ws (map-spans t ws h p))

map-core : (t ct : TypeTree) (ws : List WindowParts) (d : Layout) → AreWithin t ws → physical_type t ≡ physical.Map → IsTrue (has_pairs t) → item_type t ≡ Some ct
    → AreOffsets (joined_ends ws) → IsJoined ct (map items_in ws) d
    → Fits (map_of t (joined_ends ws) d (concatenated_validity ws)) × IsJoined t ws (map_of t (joined_ends ws) d (concatenated_validity ws))
map-core t ct ws d h p y c o g =
    let es = joined_ends ws in
    let v = concatenated_validity ws in
    let s = map-spans t ws h p in
    let n = spans-rows ws in
    let q = items-slots ct ws d g in
    let m = ap length q in
    let fits : Fits (map_of t es d v) = (
      omega (arith, spans-last child_slots ws s, spans-length child_slots ws s, slots-length d),
      (p, (y, (c ∙ ap Some (sym g.same_type), (subst (ValidityFits v) (sym n) (joined-fits t ws h), tt)))),
    ) in (
      fits,
      record {
        slots = joined-slots t (map_of t es d v) ws h n (λ k j l i.
            let w = window ws k in
            let x = place_of ws k j in
            let f = h k nowhere l in
            let e = map-is t w p f in
            map-slot t es d v x (o, fits) (omega (arith, n, place-below ws k j l i))
            ∙ same-slot _ _ _ _ (validity-at t ws k j h l i) (ap (λ ss. slots.list (seal (sublist ss (begin es x) (extent es x)))) q ∙ ap (λ ss. slots.list (seal ss)) (span-at child_slots ws k j s l i))
            ∙ sym (map-slot (layout_type w.array) (offsets_of w.array) (child_of w.array) (validity_of w.array) (w.offset + j) (subst TopFits e f.is_array) (omega (arith, f.within, ap len e)))
            ∙ sym (ap (λ z. slot z (w.offset + j)) e));
        same_type = refl;
      },
    )

pub map-joined : (t u : TypeTree) (ws cws : List WindowParts) (es : List ℕ) (d : Layout) (v : Validity) → AreWithin t ws → physical_type t ≡ physical.Map → 0 < length ws
    → cws ≡ map items_in ws → u ≡ t → es ≡ joined_ends ws → AreOffsets es → v ≡ concatenated_validity ws → IsJoined (layout_type (first_array cws)) cws d
    → Fits (map_of u es d v) × IsJoined t ws (map_of u es d v)
map-joined t u ws cws es d v h p s c e f o g j =
    let w = first-within t ws h s in
    let m = map-entry t (first_array ws) p w.0 w.1 in
    let i = m.0 ∙ ap (λ z. Some (layout_type z)) (sym (first-of-map items_in child_of ws (λ x. refl) s)) in
    let x = map-core t (layout_type (first_array (map items_in ws))) ws d h p m.1 i (subst AreOffsets f o) (subst (λ z. IsJoined (layout_type (first_array z)) z d) c j) in
    let y : map_of t (joined_ends ws) d (concatenated_validity ws) ≡ map_of u es d v = cc in
    subst (λ z. Fits z × IsJoined t ws z) y x

pub map-refuses : (e : Error) (a : Layout) (t : TypeTree) (os : List ℕ) (c : Layout) (va : Validity) (ws cws : List WindowParts) → a ≡ map_of t os c va → IsFirst a ws → cws ≡ map items_in ws
    → RefusesJoin e (first_array cws) cws → RefusesJoin e a ws
map-refuses e a t os c va ws cws k h q r =
    let z : first_array cws ≡ c = child-first items_in a ws cws (λ w. refl) h q ∙ ap child_of k in
    let r' : RefusesJoin e c (map items_in ws) = subst (λ y. RefusesJoin e c y) q (subst (λ y. RefusesJoin e y cws) z r) in
    subst (λ y. RefusesJoin e y ws) (sym k) (child-refuses e (map_of t os c va) c ws (map items_in ws) (λ x. inr (inr x)) r')

pub map-lighter : (a : Layout) (t : TypeTree) (os : List ℕ) (c : Layout) (va : Validity) (ws cws : List WindowParts) → a ≡ map_of t os c va → IsFirst a ws → cws ≡ map items_in ws
    → weight (first_array cws) < weight a
map-lighter a t os c va ws cws k h q =
    let z : first_array cws ≡ c = child-first items_in a ws cws (λ w. refl) h q ∙ ap child_of k in
    omega (arith, ap weight z, ap weight k)

-- fixed-size lists
sized-is : (t : TypeTree) (w : WindowParts) → physical_type t ≡ physical.FixedSizeList → IsWithin t w → w.array ≡ fixed_size_list (layout_type w.array) (child_of w.array) (validity_of w.array)
sized-is t w p f = fixed_size_list-shape w.array f.is_array (kind-alike (layout_type w.array) t _ f.same_type p)

sized-item : (t : TypeTree) (a : Layout) → physical_type t ≡ physical.FixedSizeList → TopFits a → logical_type (layout_type a) ≡ logical_type t → (item_type t ≡ Some (layout_type (child_of a))) × (0 < size_of t)
sized-item t a p f e =
    let k = fixed_size_list-shape a f (kind-alike (layout_type a) t _ e p) in
    let g = fixed_size_list-facts (layout_type a) (child_of a) (validity_of a) (subst TopFits k f) in
    (item-alike t (layout_type a) (sym e) ∙ g.items, subst (λ z. 0 < z) (size-alike (layout_type a) t e) g.sized)

sized-inside : (t : TypeTree) (s : ℕ) (ws : List WindowParts) → AreWithin t ws → physical_type t ≡ physical.FixedSizeList → s ≡ size_of t → All (λ w. w.offset * s + w.count * s ≤ length (child_slots w)) ws
sized-inside t s ws h p z = λ i d l.
    let w = get_or ws i d in
    let f = h i d l in
    let c = child_of w.array in
    let b : w.offset + w.count ≤ len c / size_of t = omega (arith, f.within, ap len (sized-is t w p f), ap (λ n. len c / n) (size-alike (layout_type w.array) t f.same_type)) in
    omega (arith, product-fits w.offset w.count (len c) s (subst (λ y. w.offset + w.count ≤ len c / y) (sym z) b), slots-length c)

pub sized-children : (t : TypeTree) (s : ℕ) (ws cws : List WindowParts) → AreWithin t ws → physical_type t ≡ physical.FixedSizeList → s ≡ size_of t → 0 < length ws → cws ≡ map (blocks_of s) ws → AreArrays cws
    → (0 < length cws) × AreWithin (layout_type (first_array cws)) cws
sized-children t s ws cws h p z n e r =
    let f = first-within t ws h n in
    let b = sized-inside t s ws h p z in
    children-within (blocks_of s) child_of t ws cws (λ w. refl) h n e r
    (λ a x y. ap logical_type (some-one _ _ (sym (sized-item t a p x y).0 ∙ (sized-item t (first_array ws) p f.0 f.1).0)))
    (λ i d l. let w = get_or ws i d in omega (arith, b i d l, slots-length (child_of w.array)))

sized-core : (t ct : TypeTree) (ws : List WindowParts) (d : Layout) → AreWithin t ws → physical_type t ≡ physical.FixedSizeList → 0 < size_of t → item_type t ≡ Some ct
    → IsJoined ct (map (blocks_of (size_of t)) ws) d
    → Fits (fixed_size_list t d (concatenated_validity ws)) × IsJoined t ws (fixed_size_list t d (concatenated_validity ws))
sized-core t ct ws d h p z c g =
    let s = size_of t in
    let v = concatenated_validity ws in
    let b = sized-inside t s ws h p refl in
    let q : slots_of d ≡ flat_map (λ w. sublist (child_slots w) (w.offset * s) (w.count * s)) ws = g.slots ∙ flat_map-map window_slots (blocks_of s) ws in
    let l : len d ≡ count_slots ws * s = sym (slots-length d) ∙ ap length q ∙ blocks-count s child_slots ws b in
    let n : len d / s ≡ count_slots ws = ap (λ x. x / s) l ∙ mul-div_cancel (count_slots ws) z in
    let m : len d % s ≡ 0 = ap (λ x. x % s) l ∙ product-exact (count_slots ws) s in (
      (p, (z, (c ∙ ap Some (sym g.same_type), (m, (subst (ValidityFits v) (sym n) (joined-fits t ws h), tt))))),
      record {
        slots = joined-slots t (fixed_size_list t d v) ws h n (λ k j y i.
            let w = window ws k in
            let x = place_of ws k j in
            let f = h k nowhere y in
            let e = sized-is t w p f in
            fixed_size_list-slot t d v x (omega (arith, n, place-below ws k j y i))
            ∙ same-slot _ _ _ _ (validity-at t ws k j h y i) (ap (λ ss. slots.list (seal (sublist ss (x * s) s))) q ∙ ap (λ ss. slots.list (seal ss)) (block-at s child_slots ws k j b y i))
            ∙ sym (ap (λ m. where_valid (validity_of w.array) (w.offset + j) (slots.list (seal (sublist (child_slots w) ((w.offset + j) * m) m)))) (size-alike (layout_type w.array) t f.same_type))
            ∙ sym (fixed_size_list-slot (layout_type w.array) (child_of w.array) (validity_of w.array) (w.offset + j) (omega (arith, f.within, ap len e)))
            ∙ sym (ap (λ a. slot a (w.offset + j)) e));
        same_type = refl;
      },
    )

pub sized-joined : (t u : TypeTree) (s : ℕ) (ws cws : List WindowParts) (d : Layout) (v : Validity) → AreWithin t ws → physical_type t ≡ physical.FixedSizeList → s ≡ size_of t → 0 < length ws
    → cws ≡ map (blocks_of s) ws → u ≡ t → v ≡ concatenated_validity ws → IsJoined (layout_type (first_array cws)) cws d
    → Fits (fixed_size_list u d v) × IsJoined t ws (fixed_size_list u d v)
sized-joined t u s ws cws d v h p z n c e g j =
    let w = first-within t ws h n in
    let m = sized-item t (first_array ws) p w.0 w.1 in
    let c' = c ∙ ap (λ k. map (blocks_of k) ws) z in
    let i = m.0 ∙ ap (λ k. Some (layout_type k)) (sym (first-of-map (blocks_of (size_of t)) child_of ws (λ x. refl) n)) in
    let x = sized-core t (layout_type (first_array (map (blocks_of (size_of t)) ws))) ws d h p m.1 i (subst (λ k. IsJoined (layout_type (first_array k)) k d) c' j) in
    let y : fixed_size_list t d (concatenated_validity ws) ≡ fixed_size_list u d v = cc in
    subst (λ k. Fits k × IsJoined t ws k) y x

pub sized-refuses : (e : Error) (a : Layout) (t : TypeTree) (s : ℕ) (c : Layout) (va : Validity) (ws cws : List WindowParts) → a ≡ fixed_size_list t c va → s ≡ size_of t → IsFirst a ws → cws ≡ map (blocks_of s) ws
    → RefusesJoin e (first_array cws) cws → RefusesJoin e a ws
sized-refuses e a t s c va ws cws k i h q r =
    let z : first_array cws ≡ c = child-first (blocks_of s) a ws cws (λ w. refl) h q ∙ ap child_of k in
    let q' = q ∙ ap (λ n. map (blocks_of n) ws) i in
    let r' : RefusesJoin e c (map (blocks_of (size_of t)) ws) = subst (λ y. RefusesJoin e c y) q' (subst (λ y. RefusesJoin e y cws) z r) in
    subst (λ y. RefusesJoin e y ws) (sym k) (child-refuses e (fixed_size_list t c va) c ws (map (blocks_of (size_of t)) ws) (λ x. inr x) r')

pub sized-lighter : (a : Layout) (t : TypeTree) (s : ℕ) (c : Layout) (va : Validity) (ws cws : List WindowParts) → a ≡ fixed_size_list t c va → IsFirst a ws → cws ≡ map (blocks_of s) ws
    → weight (first_array cws) < weight a
sized-lighter a t s c va ws cws k h q =
    let z : first_array cws ≡ c = child-first (blocks_of s) a ws cws (λ w. refl) h q ∙ ap child_of k in
    omega (arith, ap weight z, ap weight k)
