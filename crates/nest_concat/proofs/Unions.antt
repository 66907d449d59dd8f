-- Unions with concatenated fields.
use Rattle.std.specs.Prelude.{◌⊎◌, List, Option, Some, None, map, length, get_or, unwrap_or, alloc_error}
use Rattle.std.specs.List.{All, flat_map, range_with_len, sum_by}
use Rattle.std.proofs.Common.{◌≡◌, ℕ, ℤ, pos, zero, suc, ◌+◌, ◌-◌, ◌<◌, ◌≤◌, [], ◌∷◌, ◌++◌, take, inl, inr, refl, ap, sym, ◌∙◌, subst, arith, append-nil, append_assoc, length-append}
use Rattle.std.proofs.lemmas.List.{get_or-map, get_or_append_left, get_or-append-add, length-map, take-map}
use Rattle.std.proofs.lemmas.List.Elements.{All-from_get_or}
use Rattle.std.proofs.lemmas.List.FromFn.{get_or-map-range_with_len, length-map-range_with_len}
use Rattle.std.proofs.lemmas.List.Sums.{sum_by-cons}
use Rattle.nest_memory.specs.Physical.{physical_type}
use Rattle.nest_memory.specs.TypeTree.{TypeTree, count_fields, fields_of, ids_of, is_dense, logical_type}
use Rattle.nest_memory.specs.declared.datatypes.physical_type.PhysicalType.TheVariants as physical
use Rattle.nest_memory.specs.declared.error.Error.{Error}
use Rattle.nest_memory.specs.declared.error.Error.TheVariants.{Memory, Overflow}
use Rattle.nest_model.specs.Accessors.{child_at, children_of, start_of, types_of, union_offsets_of}
use Rattle.nest_model.specs.Array.{TopFits}
use Rattle.nest_model.specs.Facts.{IsUnion}
use Rattle.nest_model.specs.Fits.{EachCovers, EachMeansField, EachType, Fits, IdsCount, IdsInRange, MeansField, Names, OffsetsByMode, OffsetsCount, SlotsThere, child_len}
use Rattle.nest_model.specs.Layout.{Layout, Layouts, union, no_layouts, more_layouts, layout_type, count_layouts, weight, weight_all}
use Rattle.nest_model.specs.Meaning.{len, of_field, picked, slot, slots_of, union_index}
use Rattle.nest_model.specs.Part.{field_named, to_index}
use Rattle.nest_model.specs.Reads.{slots-length, slot-place}
use Rattle.nest_model.specs.Runs.{get_or-cut, length-cut}
use Rattle.nest_model.specs.Slot as slots
use Rattle.nest_array.proofs.Picks.{IsUnionOf, picks-field}
use Rattle.nest_array.specs.WindowParts.{WindowParts, window_slots}
use Rattle.nest_concat.specs.Joined.{AreArrays, AreWithin, EachJoined, HasFields, IsJoined, RefusesEach, RefusesJoin, first_array}
use Rattle.nest_concat.specs.Limits.{PassesLimits, PassesPicks}
use Rattle.nest_concat.specs.Moved.{joined_offsets, moved_offset, moved_offsets, offsets_behind, type_ids_in}
use Rattle.nest_concat.specs.Parts.{field_at}
use Rattle.nest_concat.specs.Windows.{count_of, count_slots, field_window}
use Rattle.nest_concat.proofs.Logical.{dense-alike, fields-alike, ids-alike}
use Rattle.nest_concat.proofs.Nested.{all-map, children-within, first-within, place-below}
use Rattle.nest_concat.proofs.Picked.{facts-of, part-inside, pick-inside, picks-one, same-mode, sparse-count, sparse-part, union-is}
use Rattle.nest_concat.proofs.Pieces.{AreLong, flat-at, flat-length}
use Rattle.nest_concat.proofs.Records.{child_in, each-type-at, joined-at, joined-count, joined-types, record-children, record-count, type_at}
use Rattle.nest_concat.proofs.Windows.{joined-slots, locate, nowhere, place_of, values-at, values-count, window}

-- the same facts, under a data type that differs in outer extensions
union-under : (t u : TypeTree) (ks : List ℤ) (cs : Layouts) (os : Option (List ℤ)) (start : ℕ) → logical_type t ≡ logical_type u → physical_type u ≡ physical.Union → IsUnion t ks cs os start → IsUnion u ks cs os start
union-under t u ks cs os start e p f =
    let fields = fields-alike t u e in
    let ids = ids-alike t u e in
    record {
      typed = p;
      as_many = f.as_many ∙ ap count_fields fields;
      at_most = f.at_most;
      each_type = subst (λ fs. EachType fs cs) fields f.each_type;
      offsets = f.offsets;
      mode = subst (OffsetsByMode os) (dense-alike t u e) f.mode;
      ids = subst (λ is. IdsCount is (count_layouts cs)) ids f.ids;
      ids_in_range = subst IdsInRange ids f.ids_in_range;
      each_means = subst (λ is. EachMeansField is ks (count_layouts cs)) ids f.each_means;
      slots_there = subst (λ is. SlotsThere is ks cs os start) ids f.slots_there;
    }

-- the facts of a union, under a data type
pub facts-by : (t : TypeTree) (a : Layout) → TopFits a → logical_type (layout_type a) ≡ logical_type t → physical_type t ≡ physical.Union → IsUnion t (types_of a) (children_of a) (union_offsets_of a) (start_of a)
facts-by t a h e p = union-under (layout_type a) t (types_of a) (children_of a) (union_offsets_of a) (start_of a) e p (facts-of a h (union-is t a h e p))

-- each part is in its field
parts-inside : (t : TypeTree) (f : ℕ) (ws : List WindowParts) → AreWithin t ws → physical_type t ≡ physical.Union → f < count_fields (fields_of t) → All (λ w. (field_window f w).offset + (field_window f w).count ≤ len (field_window f w).array) ws
parts-inside t f ws h p l = λ i d q.
    let w = get_or ws i d in
    let x = h i d q in
    let u = union-is t w.array x.is_array x.same_type p in
    part-inside f w.array w.offset w.count x.is_array u (omega (arith, l, (facts-by t w.array x.is_array x.same_type p).as_many)) x.within

union-children : (t : TypeTree) (f : ℕ) (ws cws : List WindowParts) → AreWithin t ws → physical_type t ≡ physical.Union → 0 < length ws → f < count_fields (fields_of t) → cws ≡ map (field_window f) ws → AreArrays cws
    → (0 < length cws) × AreWithin (layout_type (first_array cws)) cws
union-children t f ws cws h p s l e r =
    let x = first-within t ws h s in
    let type : (a : Layout) → TopFits a → logical_type (layout_type a) ≡ logical_type t → layout_type (child_in f a) ≡ type_at (fields_of t) f = λ a y z.
    let q = facts-by t a y z p in
    each-type-at (fields_of t) (children_of a) f q.each_type (omega (arith, q.as_many, l)) in
    children-within (field_window f) (child_in f) t ws cws (λ w. refl) h s e r (λ a y z. ap logical_type (type a y z ∙ sym (type (first_array ws) x.0 x.1))) (parts-inside t f ws h p l)

union-count : (t : TypeTree) (cs : Layouts) (ws : List WindowParts) → AreWithin t ws → physical_type t ≡ physical.Union → 0 < length ws → cs ≡ children_of (first_array ws) → count_layouts cs ≡ count_fields (fields_of t)
union-count t cs ws h p s e = let x = first-within t ws h s in ap count_layouts e ∙ (facts-by t (first_array ws) x.0 x.1 p).as_many

-- structs and unions
pub field-children : (t : TypeTree) (f : ℕ) (ws cws : List WindowParts) → AreWithin t ws → HasFields t → 0 < length ws → f < count_fields (fields_of t) → cws ≡ map (field_window f) ws → AreArrays cws
    → (0 < length cws) × AreWithin (layout_type (first_array cws)) cws
field-children t f ws cws h (inl p) s l e r = record-children t f ws cws h p s l e r
field-children t f ws cws h (inr p) s l e r = union-children t f ws cws h p s l e r

pub field-count : (t : TypeTree) (cs : Layouts) (ws : List WindowParts) → AreWithin t ws → HasFields t → 0 < length ws → cs ≡ children_of (first_array ws) → count_layouts cs ≡ count_fields (fields_of t)
field-count t cs ws h (inl p) s e = record-count t cs ws h p s e
field-count t cs ws h (inr p) s e = union-count t cs ws h p s e

-- a slot of a window, in the result
abbrev AreInside : List WindowParts → Type 0
AreInside ws = All (λ w. w.offset + w.count ≤ len w.array) ws

slots-long : (ws : List WindowParts) → AreInside ws → AreLong window_slots count_of ws
slots-long ws h = λ i d l. let w = get_or ws i d in length-cut (slots_of w.array) w.offset w.count (omega (arith, h i d l, slots-length w.array))

joined-len : (t : TypeTree) (ws : List WindowParts) (b : Layout) → AreInside ws → IsJoined t ws b → len b ≡ count_slots ws
joined-len t ws b h g = sym (slots-length b) ∙ ap length g.slots ∙ flat-length window_slots count_of ws (slots-long ws h)

joined-slot : (t : TypeTree) (ws : List WindowParts) (b : Layout) (k j : ℕ) → AreInside ws → IsJoined t ws b → k < length ws → j < count_of (window ws k)
    → (place_of ws k j < len b) × (slot b (place_of ws k j) ≡ slot (window ws k).array ((window ws k).offset + j))
joined-slot t ws b k j h g l m =
    let w = window ws k in
    let x = place_of ws k j in
    let n : x < len b = omega (arith, place-below ws k j l m, joined-len t ws b h g) in
    let e = sym (slot-place b x slots.null n)
    ∙ ap (λ ss. get_or ss x slots.null) g.slots
    ∙ flat-at window_slots count_of ws k j nowhere slots.null (slots-long ws h) l m
    ∙ get_or-cut (slots_of w.array) w.offset w.count j slots.null m
    ∙ slot-place w.array (w.offset + j) slots.null (omega (arith, h k nowhere l, m)) in
    (n, e)

-- the position in the concatenated field of index q of a field, if window k picks it
abbrev pub moved_place : ℕ → List WindowParts → ℕ → ℕ → ℕ
moved_place f ws k q = place_of (map (field_window f) ws) k (q - (field_window f (window ws k)).offset)

inside-map : (f : ℕ) (ws : List WindowParts) → All (λ w. (field_window f w).offset + (field_window f w).count ≤ len (field_window f w).array) ws → AreInside (map (field_window f) ws)
inside-map f ws h = all-map (field_window f) (λ w. w.offset + w.count ≤ len w.array) ws h

moved-slot : (f : ℕ) (t : TypeTree) (ws : List WindowParts) (b : Layout) (k q : ℕ) → AreInside (map (field_window f) ws) → IsJoined t (map (field_window f) ws) b → k < length ws
    → ((field_window f (window ws k)).offset ≤ q) × (q < (field_window f (window ws k)).offset + (field_window f (window ws k)).count)
    → (moved_place f ws k q < len b) × (slot b (moved_place f ws k q) ≡ slot (field_window f (window ws k)).array q)
moved-slot f t ws b k q h g l i =
    let cws = map (field_window f) ws in
    let w = field_window f (window ws k) in
    let e : window cws k ≡ w = get_or-map (field_window f) ws k nowhere nowhere l in
    let m : k < length cws = omega (arith, length-map ws (field_window f)) in
    let d = q - w.offset in
    let n : d < count_of (window cws k) = omega (arith, ap count_of e, i.0, i.1) in
    let r = joined-slot t cws b k d h g m n in
    let z : w.offset + d ≡ q = omega (arith, i.0) in
    (r.0, r.1 ∙ ap (λ v. slot v.array (v.offset + d)) e ∙ ap (slot w.array) z)

-- the offsets of one union after those of others
behind-length : (before ws : List WindowParts) → length (offsets_behind before ws) ≡ count_slots ws
behind-length before [] = refl
behind-length before (w ∷ ws) =
    let xs = map (moved_offset before w) (range_with_len w.offset w.count) in
    omega (arith, length-append xs (offsets_behind (before ++ w ∷ []) ws), length-map-range_with_len (moved_offset before w) w.offset w.count, behind-length (before ++ w ∷ []) ws, sum_by-cons count_of w ws)

behind-at : (before ws : List WindowParts) (k j : ℕ) → k < length ws → j < count_of (window ws k)
    → get_or (offsets_behind before ws) (place_of ws k j) (pos 0) ≡ moved_offset (before ++ take k ws) (window ws k) ((window ws k).offset + j)
behind-at before [] k j l m = absurd (omega arith)
behind-at before (w ∷ ws) zero j l m =
    let xs = map (moved_offset before w) (range_with_len w.offset w.count) in
    let rest = offsets_behind (before ++ w ∷ []) ws in
    let z : place_of (w ∷ ws) 0 j ≡ j = omega arith in
    ap (λ i. get_or (xs ++ rest) i (pos 0)) z
    ∙ get_or_append_left xs rest (pos 0) j (omega (arith, length-map-range_with_len (moved_offset before w) w.offset w.count, m))
    ∙ get_or-map-range_with_len (moved_offset before w) w.offset w.count j (w.offset + j) (pos 0) m refl
    ∙ ap (λ b. moved_offset b w (w.offset + j)) (sym (append-nil before))
behind-at before (w ∷ ws) (suc k) j l m =
    let xs = map (moved_offset before w) (range_with_len w.offset w.count) in
    let rest = offsets_behind (before ++ w ∷ []) ws in
    let v = window ws k in
    let z : place_of (w ∷ ws) (suc k) j ≡ length xs + place_of ws k j = omega (arith, sum_by-cons count_of w (take k ws), length-map-range_with_len (moved_offset before w) w.offset w.count) in
    ap (λ i. get_or (xs ++ rest) i (pos 0)) z
    ∙ get_or-append-add xs rest (place_of ws k j) (pos 0)
    ∙ behind-at (before ++ w ∷ []) ws k j (omega arith) m
    ∙ ap (λ b. moved_offset b v (v.offset + j)) (append_assoc before (w ∷ []) (take k ws))

pub offsets-at : (ws : List WindowParts) (k j f : ℕ) → k < length ws → j < count_of (window ws k) → field_at (window ws k).array ((window ws k).offset + j) ≡ Some f
    → get_or (moved_offsets ws) (place_of ws k j) (pos 0) ≡ pos (moved_place f ws k (union_index (union_offsets_of (window ws k).array) (start_of (window ws k).array) ((window ws k).offset + j)))
offsets-at ws k j f l m e =
    let w = window ws k in
    let q = union_index (union_offsets_of w.array) (start_of w.array) (w.offset + j) in
    behind-at [] ws k j l m
    ∙ ap (λ o. pos (count_slots (map (field_window (unwrap_or o 0)) (take k ws)) + (q - (field_window (unwrap_or o 0) w).offset))) e
    ∙ ap (λ vs. pos (sum_by count_of vs + (q - (field_window f w).offset))) (sym (take-map (field_window f) k ws))

-- slots of a sparse union keep their indices
same-counts : (g : WindowParts → WindowParts) (ws : List WindowParts) (k : ℕ) → All (λ w. (g w).count ≡ w.count) ws → sum_by count_of (take k (map g ws)) ≡ sum_by count_of (take k ws)
same-counts g ws zero h = refl
same-counts g [] (suc k) h = refl
same-counts g (w ∷ ws) (suc k) h =
    let a = same-counts g ws k (λ i d l. h (suc i) d (omega arith)) in
    omega (arith, a, h 0 w (omega arith), sum_by-cons count_of (g w) (take k (map g ws)), sum_by-cons count_of w (take k ws))

same-count : (g : WindowParts → WindowParts) (ws : List WindowParts) → All (λ w. (g w).count ≡ w.count) ws → count_slots (map g ws) ≡ count_slots ws
same-count g [] h = refl
same-count g (w ∷ ws) h =
    omega (arith, same-count g ws (λ i d l. h (suc i) d (omega arith)), h 0 w (omega arith), sum_by-cons count_of (g w) (map g ws), sum_by-cons count_of w ws)

abbrev AreSparse : List WindowParts → Type 0
AreSparse ws = All (λ w. union_offsets_of w.array ≡ None) ws

all-sparse : (t : TypeTree) (ws : List WindowParts) → AreWithin t ws → physical_type t ≡ physical.Union → 0 < length ws → union_offsets_of (first_array ws) ≡ None → AreSparse ws
all-sparse t ws h p s e = λ i d l.
    let w = get_or ws i d in
    let x = h i d l in
    let y = first-within t ws h s in
    same-mode (first_array ws) w.array y.0 x.is_array (union-is t (first_array ws) y.0 y.1 p) (union-is t w.array x.is_array x.same_type p) (y.1 ∙ sym x.same_type) e

sparse-counts : (t : TypeTree) (f : ℕ) (ws : List WindowParts) → AreWithin t ws → physical_type t ≡ physical.Union → AreSparse ws → All (λ w. (field_window f w).count ≡ w.count) ws
sparse-counts t f ws h p s = λ i d l.
    let w = get_or ws i d in
    let x = h i d l in
    sparse-count f w.array w.offset w.count (union-is t w.array x.is_array x.same_type p) (s i d l)

sparse-land : (t : TypeTree) (f : ℕ) (ws : List WindowParts) (k j : ℕ) → AreWithin t ws → physical_type t ≡ physical.Union → AreSparse ws → k < length ws → j < count_of (window ws k)
    → moved_place f ws k (union_index (union_offsets_of (window ws k).array) (start_of (window ws k).array) ((window ws k).offset + j)) ≡ place_of ws k j
sparse-land t f ws k j h p s l m =
    let w = window ws k in
    let x = h k nowhere l in
    let u = union-is t w.array x.is_array x.same_type p in
    let e = sparse-part f w.array w.offset w.count u (s k nowhere l) (omega arith) in
    let y = ap (λ o. union_index o (start_of w.array) (w.offset + j)) (s k nowhere l) in
    omega (arith, y, ap (λ z. z.0) e, same-counts (field_window f) ws k (sparse-counts t f ws h p s))

-- facts about children
covers-by : (ds : Layouts) (n : ℕ) → ((g : ℕ) → g < count_layouts ds → n ≤ len (child_at ds g)) → EachCovers ds n
covers-by no_layouts n h = tt
covers-by (more_layouts d ds) n h = (h 0 (omega arith), covers-by ds n (λ g l. h (suc g) (omega arith)))

child-len : (cs : Layouts) (f : ℕ) → f < count_layouts cs → child_len cs (Some f) ≡ len (child_at cs f)
child-len no_layouts f h = absurd (omega arith)
child-len (more_layouts c cs) zero h = refl
child-len (more_layouts c cs) (suc f) h = child-len cs f (omega arith)

picked-slot : (f : ℕ) (cs : Layouts) (k i : ℕ) → k < count_layouts cs → picked f cs k i ≡ slots.pick f (layout_type (child_at cs k)) (slot (child_at cs k) i)
picked-slot f no_layouts k i h = absurd (omega arith)
picked-slot f (more_layouts c cs) zero i h = refl
picked-slot f (more_layouts c cs) (suc k) i h = picked-slot f cs k i (omega arith)

-- the pick of slot j of window k, in the concatenated fields
record Lands (t : TypeTree) (ws : List WindowParts) (ds : Layouts) (k j f : ℕ) : Type 0 where
  pub means : field_named (ids_of t) (get_or (types_of (window ws k).array) ((window ws k).offset + j) (pos 0)) ≡ Some f
  pub field : field_at (window ws k).array ((window ws k).offset + j) ≡ Some f
  pub there : f < count_layouts ds
  pub below : moved_place f ws k (union_index (union_offsets_of (window ws k).array) (start_of (window ws k).array) ((window ws k).offset + j)) < len (child_at ds f)
  pub same :
      slots.pick f (layout_type (child_at ds f)) (slot (child_at ds f) (moved_place f ws k (union_index (union_offsets_of (window ws k).array) (start_of (window ws k).array) ((window ws k).offset + j))))
      ≡ slot (window ws k).array ((window ws k).offset + j)

lands : (t : TypeTree) (ws : List WindowParts) (ds : Layouts) (k j : ℕ) → AreWithin t ws → physical_type t ≡ physical.Union → 0 < length ws → EachJoined (children_of (first_array ws)) 0 ws ds
    → k < length ws → j < count_of (window ws k) → (f : ℕ) × Lands t ws ds k j f
lands t ws ds k j h p s g l m =
    let w = window ws k in
    let a = w.array in
    let i = w.offset + j in
    let x = h k nowhere l in
    let u = union-is t a x.is_array x.same_type p in
    let n : i < len a = omega (arith, x.within, m) in
    let o = picks-one a i x.is_array u n in
    let f = o.0 in
    let q = union_index (union_offsets_of a) (start_of a) i in
    let y = first-within t ws h s in
    let cs = children_of (first_array ws) in
    let c = joined-count cs 0 ws ds g in
    let r = facts-by t (first_array ws) y.0 y.1 p in
    let v = facts-by t a x.is_array x.same_type p in
    let there : f < count_layouts cs = omega (arith, o.1.field_there, v.as_many, r.as_many) in
    let z : 0 + f ≡ f = omega arith in
    let d = subst (λ b. IsJoined (layout_type (child_at cs f)) (map (field_window b) ws) (child_at ds f)) z (joined-at cs 0 ws ds f g (omega (arith, there, c))) in
    let inside = inside-map f ws (parts-inside t f ws h p (omega (arith, there, r.as_many))) in
    let moved = moved-slot f (layout_type (child_at cs f)) ws (child_at ds f) k q inside d l (pick-inside f a w.offset w.count j q x.is_array u m o.1.means refl) in
    let ty : layout_type (child_at ds f) ≡ layout_type (child_at (children_of a) f)
    = d.same_type ∙ each-type-at (fields_of t) cs f r.each_type there ∙ sym (each-type-at (fields_of t) (children_of a) f v.each_type o.1.field_there) in
    let pick = picks-field a i f x.is_array u n o.1.means in (
      f,
      record {
        means = ap (λ is. field_named is (get_or (types_of a) i (pos 0))) (sym (ids-alike (layout_type a) t x.same_type)) ∙ o.1.means;
        field = o.1.means;
        there = omega (arith, there, c);
        below = moved.0;
        same = ap (λ b. slots.pick f b (slot (child_at ds f) (moved_place f ws k q))) ty ∙ ap (slots.pick f (layout_type (child_at (children_of a) f))) moved.1 ∙ sym pick.picks;
      },
    )

-- type ids of the windows, one window after another
types-inside : (t : TypeTree) (ws : List WindowParts) → AreWithin t ws → physical_type t ≡ physical.Union → All (λ w. w.offset + w.count ≤ length (types_of w.array)) ws
types-inside t ws h p = λ i d l.
    let w = get_or ws i d in
    let x = h i d l in
    omega (arith, x.within, ap len (union-is t w.array x.is_array x.same_type p))

type-there : (t : TypeTree) (ws : List WindowParts) (k j : ℕ) → AreWithin t ws → physical_type t ≡ physical.Union → k < length ws → j < count_of (window ws k)
    → get_or (flat_map type_ids_in ws) (place_of ws k j) (pos 0) ≡ get_or (types_of (window ws k).array) ((window ws k).offset + j) (pos 0)
type-there t ws k j h p l m = values-at (λ (w : WindowParts). types_of w.array) ws k j (pos 0) (types-inside t ws h p) l m

type-count : (t : TypeTree) (ws : List WindowParts) → AreWithin t ws → physical_type t ≡ physical.Union → length (flat_map type_ids_in ws) ≡ count_slots ws
type-count t ws h p = values-count (λ (w : WindowParts). types_of w.array) ws (types-inside t ws h p)

-- offsets that are the positions of each slot's pick
record ArePlaces (t : TypeTree) (ws : List WindowParts) (ds : Layouts) (os : Option (List ℤ)) : Type 0 where
  pub count : OffsetsCount os (count_slots ws)
  pub mode : OffsetsByMode os (is_dense t)
  pub there : SlotsThere (ids_of t) (flat_map type_ids_in ws) ds os 0
  pub each : (k j f : ℕ) → k < length ws → j < count_of (window ws k) → field_at (window ws k).array ((window ws k).offset + j) ≡ Some f
      → union_index os 0 (place_of ws k j) ≡ moved_place f ws k (union_index (union_offsets_of (window ws k).array) (start_of (window ws k).array) ((window ws k).offset + j))

sparse-indices : (t : TypeTree) (ws : List WindowParts) (ds : Layouts) → AreWithin t ws → physical_type t ≡ physical.Union → 0 < length ws → EachJoined (children_of (first_array ws)) 0 ws ds
    → union_offsets_of (first_array ws) ≡ None → ArePlaces t ws ds None
sparse-indices t ws ds h p s g e =
    let y = first-within t ws h s in
    let cs = children_of (first_array ws) in
    let r = facts-by t (first_array ws) y.0 y.1 p in
    let a = all-sparse t ws h p s e in
    let c = joined-count cs 0 ws ds g in
    record {
      count = tt;
      mode = subst (λ o. OffsetsByMode o (is_dense t)) e r.mode;
      there = covers-by ds (0 + length (flat_map type_ids_in ws)) (λ f l.
          let k : f < count_layouts cs = omega (arith, l, c) in
          let z : 0 + f ≡ f = omega arith in
          let d = subst (λ b. IsJoined (layout_type (child_at cs f)) (map (field_window b) ws) (child_at ds f)) z (joined-at cs 0 ws ds f g l) in
          let n = joined-len (layout_type (child_at cs f)) (map (field_window f) ws) (child_at ds f) (inside-map f ws (parts-inside t f ws h p (omega (arith, k, r.as_many)))) d in
          omega (arith, n, same-count (field_window f) ws (sparse-counts t f ws h p a), type-count t ws h p));
      each = λ k j f l m i. let z : 0 + place_of ws k j ≡ place_of ws k j = omega arith in z ∙ sym (sparse-land t f ws k j h p a l m);
    }

dense-indices : (t : TypeTree) (ws : List WindowParts) (ds : Layouts) (os : List ℤ) → AreWithin t ws → physical_type t ≡ physical.Union → 0 < length ws → EachJoined (children_of (first_array ws)) 0 ws ds
    → union_offsets_of (first_array ws) ≡ Some os → ArePlaces t ws ds (Some (moved_offsets ws))
dense-indices t ws ds os h p s g e =
    let y = first-within t ws h s in
    let r = facts-by t (first_array ws) y.0 y.1 p in
    let xs = flat_map type_ids_in ws in
    record {
      count = behind-length [] ws;
      mode = subst (λ o. OffsetsByMode o (is_dense t)) e r.mode;
      there = λ i l.
          let z = locate ws i (omega (arith, l, type-count t ws h p)) in
          let f = lands t ws ds z.k z.j h p s g z.window_there z.slot_there in
          let a = ap (λ x. get_or (moved_offsets ws) x (pos 0)) z.is ∙ offsets-at ws z.k z.j f.0 z.window_there z.slot_there f.1.field in
          let b : field_named (ids_of t) (get_or xs i (pos 0)) ≡ Some f.0
          = ap (λ x. field_named (ids_of t) (get_or xs x (pos 0))) z.is ∙ ap (field_named (ids_of t)) (type-there t ws z.k z.j h p z.window_there z.slot_there) ∙ f.1.means in
          let c : child_len ds (field_named (ids_of t) (get_or xs i (pos 0))) ≡ len (child_at ds f.0) = ap (child_len ds) b ∙ child-len ds f.0 f.1.there in
          subst (λ o. Names o (child_len ds (field_named (ids_of t) (get_or xs i (pos 0))))) (sym a) (omega (arith, c, f.1.below));
      each = λ k j f l m i. ap to_index (offsets-at ws k j f l m i);
    }

indices-core : (t : TypeTree) (ws : List WindowParts) (ds : Layouts) (os : Option (List ℤ)) → AreWithin t ws → physical_type t ≡ physical.Union → 0 < length ws → EachJoined (children_of (first_array ws)) 0 ws ds
    → ArePlaces t ws ds os → Fits (union t (flat_map type_ids_in ws) ds os 0) × IsJoined t ws (union t (flat_map type_ids_in ws) ds os 0)
indices-core t ws ds os h p s g o =
    let xs = flat_map type_ids_in ws in
    let y = first-within t ws h s in
    let cs = children_of (first_array ws) in
    let r = facts-by t (first_array ws) y.0 y.1 p in
    let c = joined-count cs 0 ws ds g in
    let n = type-count t ws h p in
    let means : EachMeansField (ids_of t) xs (count_layouts ds) =
    All-from_get_or (λ z. MeansField (field_named (ids_of t) z) (count_layouts ds)) xs (pos 0)
    (λ i l.
    let z = locate ws i (omega (arith, l, n)) in
    let f = lands t ws ds z.k z.j h p s g z.window_there z.slot_there in
    let e : field_named (ids_of t) (get_or xs i (pos 0)) ≡ Some f.0
    = ap (λ x. field_named (ids_of t) (get_or xs x (pos 0))) z.is ∙ ap (field_named (ids_of t)) (type-there t ws z.k z.j h p z.window_there z.slot_there) ∙ f.1.means in
    subst (λ v. MeansField v (count_layouts ds)) (sym e) f.1.there) in
    let m : count_layouts ds ≤ 127 = omega (arith, c, r.at_most) in (
      (p, (c ∙ r.as_many, (m, (joined-types (fields_of t) cs 0 ws ds r.each_type g, (subst (OffsetsCount os) (sym n) o.count, (o.mode, (subst (IdsCount (ids_of t)) (sym c) r.ids, (r.ids_in_range, (means, (o.there, tt)))))))))),
      record {
        slots = joined-slots t (union t xs ds os 0) ws h n (λ k j l i.
            let w = window ws k in
            let x = place_of ws k j in
            let f = lands t ws ds k j h p s g l i in
            let q = union_index (union_offsets_of w.array) (start_of w.array) (w.offset + j) in
            ap (λ v. of_field v (λ b. picked b ds b (union_index os 0 x))) (ap (field_named (ids_of t)) (type-there t ws k j h p l i) ∙ f.1.means)
            ∙ ap (picked f.0 ds f.0) (o.each k j f.0 l i f.1.field)
            ∙ picked-slot f.0 ds f.0 (moved_place f.0 ws k q) f.1.there
            ∙ f.1.same);
        same_type = refl;
      },
    )

union-core : (t : TypeTree) (ws : List WindowParts) (ds : Layouts) (o : Option (List ℤ)) → AreWithin t ws → physical_type t ≡ physical.Union → 0 < length ws → EachJoined (children_of (first_array ws)) 0 ws ds
    → union_offsets_of (first_array ws) ≡ o → Fits (union t (flat_map type_ids_in ws) ds (joined_offsets o ws) 0) × IsJoined t ws (union t (flat_map type_ids_in ws) ds (joined_offsets o ws) 0)
union-core t ws ds None h p s g e = indices-core t ws ds None h p s g (sparse-indices t ws ds h p s g e)
union-core t ws ds (Some os) h p s g e = indices-core t ws ds (Some (moved_offsets ws)) h p s g (dense-indices t ws ds os h p s g e)

pub union-joined : (t u : TypeTree) (a : Layout) (ws : List WindowParts) (xs : List ℤ) (cs ds : Layouts) (os : Option (List ℤ)) → AreWithin t ws → physical_type t ≡ physical.Union → 0 < length ws → a ≡ first_array ws
    → cs ≡ children_of a → EachJoined cs 0 ws ds → u ≡ t → xs ≡ flat_map type_ids_in ws → os ≡ joined_offsets (union_offsets_of a) ws → Fits (union u xs ds os 0) × IsJoined t ws (union u xs ds os 0)
union-joined t u a ws xs cs ds os h p s k c g e f q =
    let x = union-core t ws ds (union_offsets_of a) h p s (subst (λ z. EachJoined z 0 ws ds) (c ∙ ap children_of k) g) (ap union_offsets_of (sym k)) in
    let y : union t (flat_map type_ids_in ws) ds (joined_offsets (union_offsets_of a) ws) 0 ≡ union u xs ds os 0 = cc in
    subst (λ z. Fits z × IsJoined t ws z) y x

-- the errors
pub union-refuses : (e : Error) (a : Layout) (t : TypeTree) (ks : List ℤ) (cs ds : Layouts) (os : Option (List ℤ)) (start : ℕ) (ws : List WindowParts) → a ≡ union t ks cs os start → ds ≡ cs
    → RefusesEach e ds ws → RefusesJoin e a ws
union-refuses e a t ks cs ds os start ws k d r = subst (λ y. RefusesJoin e y ws) (sym k) (go (subst (λ z. RefusesEach e z ws) d r))
  where
    go : RefusesEach e cs ws → RefusesJoin e (union t ks cs os start) ws
    go (inl m) = inl m
    go (inr p) = inr (p.0, inr (inr p.1))

pub picks-refuse : (e : Error) (a : Layout) (t : TypeTree) (ks : List ℤ) (cs : Layouts) (os : Option (List ℤ)) (start : ℕ) (ws : List WindowParts) → a ≡ union t ks cs os start
    → (e ≡ Memory alloc_error) ⊎ ((e ≡ Overflow) × PassesPicks os (count_layouts cs) ws) → RefusesJoin e a ws
picks-refuse e a t ks cs os start ws k (inl m) = inl m
picks-refuse e a t ks cs os start ws k (inr p) = inr (p.0, subst (λ z. PassesLimits z ws) (sym k) (inr (inl p.1)))

pub union-lighter : (a : Layout) (t : TypeTree) (ks : List ℤ) (cs ds : Layouts) (os : Option (List ℤ)) (start : ℕ) → a ≡ union t ks cs os start → ds ≡ cs → weight_all ds < weight a
union-lighter a t ks cs ds os start k e = omega (arith, ap weight k, ap weight_all e)

pub union-kind : (a : Layout) → TopFits a → IsUnionOf a → physical_type (layout_type a) ≡ physical.Union
union-kind a h u = (facts-of a h u).typed
