-- Structs with concatenated children.
use Rattle.std.specs.Prelude.{List, map, length, get_or}
use Rattle.std.specs.List.{All, flat_map}
use Rattle.std.proofs.Common.{◌≡◌, ℕ, zero, suc, ◌+◌, ◌<◌, ◌≤◌, inl, inr, refl, ap, sym, ◌∙◌, subst, arith}
use Rattle.std.proofs.lemmas.List.Folds.{flat_map-map}
use Rattle.nest_memory.specs.Sublist.{sublist}
use Rattle.nest_memory.specs.Physical.{physical_type}
use Rattle.nest_memory.specs.TypeTree as types
use Rattle.nest_memory.specs.TypeTree.{TypeTree, logical_type, FieldTrees, no_fields, more_fields, field_type, fields_of, count_fields}
use Rattle.nest_memory.specs.declared.datatypes.physical_type.PhysicalType.TheVariants as physical
use Rattle.nest_memory.specs.declared.error.Error.{Error}
use Rattle.nest_model.specs.Accessors.{validity_of, children_of, child_at}
use Rattle.nest_model.specs.Array.{TopFits}
use Rattle.nest_model.specs.FactLaws.{struct-facts}
use Rattle.nest_model.specs.Facts.{IsStruct}
use Rattle.nest_model.specs.Fits.{Fits, ValidityFits, EachType, EachLen}
use Rattle.nest_model.specs.Layout.{Layout, Layouts, struct, no_layouts, more_layouts, layout_type, count_layouts, weight, weight_all}
use Rattle.nest_model.specs.Meaning.{len, first_len, slot, each, slots_of}
use Rattle.nest_model.specs.Part.{Validity}
use Rattle.nest_model.specs.Reads.{slots-length, slot-place}
use Rattle.nest_model.specs.Slot as slots
use Rattle.nest_model.specs.Slot.{Slot}
use Rattle.nest_array.specs.WindowParts.{WindowParts, window_parts, window_slots}
use Rattle.nest_concat.specs.Joined.{AreArrays, AreWithin, EachJoined, HasFields, IsJoined, IsWithin, RefusesEach, RefusesJoin, first_array}
use Rattle.nest_concat.specs.Limits.{PassesLimits, SomePasses}
use Rattle.nest_concat.specs.Parts.{part_of}
use Rattle.nest_concat.specs.Windows.{count_of, count_slots, field_window, concatenated_validity}
use Rattle.nest_concat.proofs.Logical.{fields-alike, kind-alike}
use Rattle.nest_concat.proofs.Nested.{children-within, first-of-map, first-within, place-below}
use Rattle.nest_concat.proofs.Shapes.{struct-shape}
use Rattle.nest_concat.proofs.Windows.{flat-ext, joined-fits, joined-slots, nowhere, place_of, same-slot, validity-at, values-at, values-count, window}

-- the data type of field f
abbrev pub type_at : FieldTrees → ℕ → TypeTree
type_at no_fields f = types.null
type_at (more_fields x xs) zero = field_type x
type_at (more_fields x xs) (suc f) = type_at xs f

pub each-type-at : (fs : FieldTrees) (cs : Layouts) (f : ℕ) → EachType fs cs → f < count_layouts cs → layout_type (child_at cs f) ≡ type_at fs f
each-type-at no_fields no_layouts f h l = absurd (omega arith)
each-type-at no_fields (more_layouts c cs) f h l = absurd h
each-type-at (more_fields x xs) no_layouts f h l = absurd h
each-type-at (more_fields x xs) (more_layouts c cs) zero h l = h.0
each-type-at (more_fields x xs) (more_layouts c cs) (suc f) h l = each-type-at xs cs f h.1 (omega arith)

each-len-at : (cs : Layouts) (n f : ℕ) → EachLen cs n → f < count_layouts cs → len (child_at cs f) ≡ n
each-len-at no_layouts n f h l = absurd (omega arith)
each-len-at (more_layouts c cs) n zero h l = h.0
each-len-at (more_layouts c cs) n (suc f) h l = each-len-at cs n f h.1 (omega arith)

each-ext : (ds bs : Layouts) (x i : ℕ) → count_layouts ds ≡ count_layouts bs → ((g : ℕ) → g < count_layouts ds → slot (child_at ds g) x ≡ slot (child_at bs g) i) → each ds x ≡ each bs i
each-ext no_layouts no_layouts x i e h = refl
each-ext no_layouts (more_layouts b bs) x i e h = absurd (omega arith)
each-ext (more_layouts d ds) no_layouts x i e h = absurd (omega arith)
each-ext (more_layouts d ds) (more_layouts b bs) x i e h =
    let a = h 0 (omega arith) in
    let r = each-ext ds bs x i (omega arith) (λ g l. h (suc g) (omega arith)) in
    ap (λ s. slots.more_slots s (each ds x)) a ∙ ap (slots.more_slots (slot b i)) r

pub joined-count : (cs : Layouts) (f : ℕ) (ws : List WindowParts) (ds : Layouts) → EachJoined cs f ws ds → count_layouts ds ≡ count_layouts cs
joined-count no_layouts f ws no_layouts h = refl
joined-count no_layouts f ws (more_layouts d ds) h = absurd h
joined-count (more_layouts c cs) f ws no_layouts h = absurd h
joined-count (more_layouts c cs) f ws (more_layouts d ds) h = ap suc (joined-count cs (suc f) ws ds h.1)

pub joined-at : (cs : Layouts) (f : ℕ) (ws : List WindowParts) (ds : Layouts) (g : ℕ) → EachJoined cs f ws ds → g < count_layouts ds
    → IsJoined (layout_type (child_at cs g)) (map (field_window (f + g)) ws) (child_at ds g)
joined-at no_layouts f ws no_layouts g h l = absurd (omega arith)
joined-at no_layouts f ws (more_layouts d ds) g h l = absurd h
joined-at (more_layouts c cs) f ws no_layouts g h l = absurd h
joined-at (more_layouts c cs) f ws (more_layouts d ds) zero h l = let z : f ≡ f + 0 = omega arith in subst (λ n. IsJoined (layout_type c) (map (field_window n) ws) d) z h.0
joined-at (more_layouts c cs) f ws (more_layouts d ds) (suc g) h l =
    let z : suc f + g ≡ f + suc g = omega arith in
    subst (λ n. IsJoined (layout_type (child_at cs g)) (map (field_window n) ws) (child_at ds g)) z (joined-at cs (suc f) ws ds g h.1 (omega arith))

pub joined-types : (fs : FieldTrees) (cs : Layouts) (f : ℕ) (ws : List WindowParts) (ds : Layouts) → EachType fs cs → EachJoined cs f ws ds → EachType fs ds
joined-types no_fields no_layouts f ws no_layouts t h = tt
joined-types no_fields no_layouts f ws (more_layouts d ds) t h = absurd h
joined-types no_fields (more_layouts c cs) f ws ds t h = absurd t
joined-types (more_fields x xs) no_layouts f ws ds t h = absurd t
joined-types (more_fields x xs) (more_layouts c cs) f ws no_layouts t h = absurd h
joined-types (more_fields x xs) (more_layouts c cs) f ws (more_layouts d ds) t h = (h.0.same_type ∙ t.0, joined-types xs cs (suc f) ws ds t.1 h.1)

each-len-by : (ds : Layouts) (n : ℕ) → ((g : ℕ) → g < count_layouts ds → len (child_at ds g) ≡ n) → EachLen ds n
each-len-by no_layouts n h = tt
each-len-by (more_layouts d ds) n h = (h 0 (omega arith), each-len-by ds n (λ g l. h (suc g) (omega arith)))

first-len-is : (ds : Layouts) (n : ℕ) → EachLen ds n → 0 < count_layouts ds → first_len ds ≡ n
first-len-is no_layouts n h l = absurd (omega arith)
first-len-is (more_layouts d ds) n h l = h.0

-- facts about the struct array of a window
record-is : (t : TypeTree) (w : WindowParts) → physical_type t ≡ physical.Struct → IsWithin t w → w.array ≡ struct (layout_type w.array) (children_of w.array) (validity_of w.array)
record-is t w p f = struct-shape w.array f.is_array (kind-alike (layout_type w.array) t _ f.same_type p)

array-facts : (t : TypeTree) (a : Layout) → physical_type t ≡ physical.Struct → TopFits a → logical_type (layout_type a) ≡ logical_type t → IsStruct t (children_of a) (validity_of a)
array-facts t a p f e =
    let k = struct-shape a f (kind-alike (layout_type a) t _ e p) in
    let r = struct-facts (layout_type a) (children_of a) (validity_of a) (subst TopFits k f) in
    let z = fields-alike (layout_type a) t e in
    record {
      typed = p;
      some_field = subst (λ fs. 0 < count_fields fs) z r.some_field;
      as_many = r.as_many ∙ ap count_fields z;
      each_type = subst (λ fs. EachType fs (children_of a)) z r.each_type;
      each_len = r.each_len;
      bits = r.bits;
    }

record-facts : (t : TypeTree) (w : WindowParts) → physical_type t ≡ physical.Struct → IsWithin t w → IsStruct t (children_of w.array) (validity_of w.array)
record-facts t w p f = array-facts t w.array p f.is_array f.same_type

-- a type of the same logical type has fields too
pub fields-kept : (t u : TypeTree) → logical_type t ≡ logical_type u → HasFields u → HasFields t
fields-kept t u e (inl p) = inl (kind-alike t u physical.Struct e p)
fields-kept t u e (inr p) = inr (kind-alike t u physical.Union e p)

abbrev pub child_in : ℕ → Layout → Layout
child_in f a = child_at (children_of a) f

-- slots of a struct are in its children at the same indices
abbrev own_slots : ℕ → WindowParts → List Slot
own_slots f w = sublist (slots_of (child_in f w.array)) w.offset w.count

pub field-part : (t : TypeTree) (f : ℕ) (w : WindowParts) → physical_type t ≡ physical.Struct → IsWithin t w → part_of f w.array w.offset w.count ≡ (w.offset, w.count)
field-part t f w p x = ap (λ a. part_of f a w.offset w.count) (record-is t w p x)

pub record-field : (w : WindowParts) (a c : Layout) (f : ℕ) → a ≡ w.array → TopFits a → w.offset + w.count ≤ len w.array → physical_type (layout_type w.array) ≡ physical.Struct
    → c ≡ child_at (children_of a) f → window_parts c w.offset w.count ≡ field_window f w
record-field w a c f e h i p k =
    let x : IsWithin (layout_type w.array) w = record { is_array = subst TopFits e h; within = i; same_type = refl } in
    let z = field-part (layout_type w.array) f w p x in
    ap (λ d. window_parts d w.offset w.count) (k ∙ ap (λ b. child_at (children_of b) f) e) ∙ ap (λ q. window_parts (child_at (children_of w.array) f) q.0 q.1) (sym z)

field-inside : (t : TypeTree) (f : ℕ) (ws : List WindowParts) → AreWithin t ws → physical_type t ≡ physical.Struct → f < count_fields (fields_of t) → All (λ w. w.offset + w.count ≤ len (child_in f w.array)) ws
field-inside t f ws h p l = λ i d q.
    let w = get_or ws i d in
    let r = record-facts t w p (h i d q) in
    let e = ap len (record-is t w p (h i d q)) in
    omega (arith, (h i d q).within, e, each-len-at (children_of w.array) (first_len (children_of w.array)) f r.each_len (omega (arith, r.as_many)))

-- a child of the array of a window has its slots
pub field-there : (w : WindowParts) (a : Layout) (f : ℕ) → a ≡ w.array → TopFits a → w.offset + w.count ≤ len w.array → physical_type (layout_type w.array) ≡ physical.Struct
    → f < count_fields (fields_of (layout_type w.array)) → (f < count_layouts (children_of a)) × (w.offset + w.count ≤ len (child_at (children_of a) f))
field-there w a f e h i p l =
    let x : IsWithin (layout_type w.array) w = record { is_array = subst TopFits e h; within = i; same_type = refl } in
    let r = record-facts (layout_type w.array) w p x in
    let s : f < count_layouts (children_of w.array) = omega (arith, r.as_many) in
    let n = each-len-at (children_of w.array) (first_len (children_of w.array)) f r.each_len s in
    let k = ap len (record-is (layout_type w.array) w p x) in
    subst (λ z. (f < count_layouts (children_of z)) × (w.offset + w.count ≤ len (child_at (children_of z) f))) (sym e) (s, omega (arith, n, k))

pub record-children : (t : TypeTree) (f : ℕ) (ws cws : List WindowParts) → AreWithin t ws → physical_type t ≡ physical.Struct → 0 < length ws → f < count_fields (fields_of t) → cws ≡ map (field_window f) ws → AreArrays cws
    → (0 < length cws) × AreWithin (layout_type (first_array cws)) cws
record-children t f ws cws h p s l e r =
    let x = first-within t ws h s in
    let type : (a : Layout) → TopFits a → logical_type (layout_type a) ≡ logical_type t → layout_type (child_in f a) ≡ type_at (fields_of t) f = λ a y z.
    let q = array-facts t a p y z in
    each-type-at (fields_of t) (children_of a) f q.each_type (omega (arith, q.as_many)) in
    children-within (field_window f) (child_in f) t ws cws (λ w. refl) h s e r
    (λ a y z. ap logical_type (type a y z ∙ sym (type (first_array ws) x.0 x.1)))
    (λ i d q. let w = get_or ws i d in let b = field-part t f w p (h i d q) in omega (arith, field-inside t f ws h p l i d q, ap (λ z. z.0) b, ap (λ z. z.1) b))

field-slots : (t : TypeTree) (f : ℕ) (ct : TypeTree) (ws : List WindowParts) (d : Layout) → AreWithin t ws → physical_type t ≡ physical.Struct → IsJoined ct (map (field_window f) ws) d → slots_of d ≡ flat_map (own_slots f) ws
field-slots t f ct ws d h p g =
    g.slots
    ∙ flat_map-map window_slots (field_window f) ws
    ∙ flat-ext (λ w. window_slots (field_window f w)) (own_slots f) ws (λ i e l. let w = get_or ws i e in ap (λ q. sublist (slots_of (child_in f w.array)) q.0 q.1) (field-part t f w p (h i e l)))

field-within : (t : TypeTree) (f : ℕ) (ws : List WindowParts) → AreWithin t ws → physical_type t ≡ physical.Struct → f < count_fields (fields_of t) → All (λ w. w.offset + w.count ≤ length (slots_of (child_in f w.array))) ws
field-within t f ws h p l = λ i d q. let w = get_or ws i d in omega (arith, field-inside t f ws h p l i d q, slots-length (child_in f w.array))

field-len : (t : TypeTree) (f : ℕ) (ct : TypeTree) (ws : List WindowParts) (d : Layout) → AreWithin t ws → physical_type t ≡ physical.Struct → f < count_fields (fields_of t)
    → IsJoined ct (map (field_window f) ws) d → len d ≡ count_slots ws
field-len t f ct ws d h p l g =
    sym (slots-length d) ∙ ap length (field-slots t f ct ws d h p g) ∙ values-count (λ (w : WindowParts). slots_of (child_in f w.array)) ws (field-within t f ws h p l)

field-slot : (t : TypeTree) (f : ℕ) (ct : TypeTree) (ws : List WindowParts) (d : Layout) (k j : ℕ) → AreWithin t ws → physical_type t ≡ physical.Struct → f < count_fields (fields_of t)
    → IsJoined ct (map (field_window f) ws) d → k < length ws → j < count_of (window ws k) → slot d (place_of ws k j) ≡ slot (child_in f (window ws k).array) ((window ws k).offset + j)
field-slot t f ct ws d k j h p l g m n =
    let w = window ws k in
    let c : WindowParts → List Slot = λ x. slots_of (child_in f x.array) in
    let x = place_of ws k j in
    sym (slot-place d x slots.null (omega (arith, place-below ws k j m n, field-len t f ct ws d h p l g)))
    ∙ ap (λ ss. get_or ss x slots.null) (field-slots t f ct ws d h p g)
    ∙ values-at c ws k j slots.null (field-within t f ws h p l) m n
    ∙ slot-place (child_in f w.array) (w.offset + j) slots.null (omega (arith, field-inside t f ws h p l k nowhere m))

record-core : (t : TypeTree) (ws : List WindowParts) (ds : Layouts) → AreWithin t ws → physical_type t ≡ physical.Struct → 0 < length ws → EachJoined (children_of (first_array ws)) 0 ws ds
    → Fits (struct t ds (concatenated_validity ws)) × IsJoined t ws (struct t ds (concatenated_validity ws))
record-core t ws ds h p s g =
    let v = concatenated_validity ws in
    let x = first-within t ws h s in
    let cs = children_of (first_array ws) in
    let q = array-facts t (first_array ws) p x.0 x.1 in
    let c = joined-count cs 0 ws ds g in
    let at : (f : ℕ) → f < count_layouts ds → IsJoined (layout_type (child_at cs f)) (map (field_window f) ws) (child_at ds f) = λ f l.
    let z : 0 + f ≡ f = omega arith in
    subst (λ n. IsJoined (layout_type (child_at cs f)) (map (field_window n) ws) (child_at ds f)) z (joined-at cs 0 ws ds f g l) in
    let lens = each-len-by ds (count_slots ws) (λ f l. field-len t f (layout_type (child_at cs f)) ws (child_at ds f) h p (omega (arith, c, q.as_many)) (at f l)) in
    let n = first-len-is ds (count_slots ws) lens (omega (arith, c, q.as_many, q.some_field)) in (
      (p, (q.some_field, (c ∙ q.as_many, (joined-types (fields_of t) cs 0 ws ds q.each_type g, (subst (EachLen ds) (sym n) lens, (subst (ValidityFits v) (sym n) (joined-fits t ws h), tt)))))),
      record {
        slots = joined-slots t (struct t ds v) ws h n (λ k j l m.
            let w = window ws k in
            let f = h k nowhere l in
            let r = record-facts t w p f in
            same-slot _ _ _ _ (validity-at t ws k j h l m)
            (ap slots.record_of (each-ext ds (children_of w.array) (place_of ws k j) (w.offset + j) (omega (arith, c, q.as_many, r.as_many))
            (λ i y. field-slot t i (layout_type (child_at cs i)) ws (child_at ds i) k j h p (omega (arith, c, q.as_many)) (at i y) l m)))
            ∙ sym (ap (λ z. slot z (w.offset + j)) (record-is t w p f)));
        same_type = refl;
      },
    )

pub record-joined : (t u : TypeTree) (ws : List WindowParts) (cs ds : Layouts) (v : Validity) → AreWithin t ws → physical_type t ≡ physical.Struct → 0 < length ws → cs ≡ children_of (first_array ws)
    → EachJoined cs 0 ws ds → u ≡ t → v ≡ concatenated_validity ws → Fits (struct u ds v) × IsJoined t ws (struct u ds v)
record-joined t u ws cs ds v h p s c g e f =
    let x = record-core t ws ds h p s (subst (λ z. EachJoined z 0 ws ds) c g) in
    let y : struct t ds (concatenated_validity ws) ≡ struct u ds v = cc in
    subst (λ z. Fits z × IsJoined t ws z) y x

-- the error of one child
passes-at : (cs : Layouts) (f g : ℕ) (ws : List WindowParts) → g < count_layouts cs → PassesLimits (child_at cs g) (map (field_window (f + g)) ws) → SomePasses cs f ws
passes-at no_layouts f g ws l h = absurd (omega arith)
passes-at (more_layouts c cs) f zero ws l h = let z : f + 0 ≡ f = omega arith in inl (subst (λ n. PassesLimits c (map (field_window n) ws)) z h)
passes-at (more_layouts c cs) f (suc g) ws l h =
    let z : f + suc g ≡ suc f + g = omega arith in
    inr (passes-at cs (suc f) g ws (omega arith) (subst (λ n. PassesLimits (child_at cs g) (map (field_window n) ws)) z h))

refuses-child : (e : Error) (cs : Layouts) (g : ℕ) (ws : List WindowParts) → g < count_layouts cs → RefusesJoin e (child_at cs g) (map (field_window g) ws) → RefusesEach e cs ws
refuses-child e cs g ws l (inl m) = inl m
refuses-child e cs g ws l (inr p) = let z : g ≡ 0 + g = omega arith in inr ((p.0, passes-at cs 0 g ws l (subst (λ n. PassesLimits (child_at cs g) (map (field_window n) ws)) z p.1)))

-- field f of the first array
pub field-first : (f : ℕ) (cs : Layouts) (ws cws : List WindowParts) → cs ≡ children_of (first_array ws) → 0 < length ws → cws ≡ map (field_window f) ws → first_array cws ≡ child_at cs f
field-first f cs ws cws c s e = ap first_array e ∙ first-of-map (field_window f) (child_in f) ws (λ w. refl) s ∙ ap (λ z. child_at z f) (sym c)

pub field-refuses : (e : Error) (f : ℕ) (cs : Layouts) (ws cws : List WindowParts) → cs ≡ children_of (first_array ws) → 0 < length ws → f < count_layouts cs → cws ≡ map (field_window f) ws
    → RefusesJoin e (first_array cws) cws → RefusesEach e cs ws
field-refuses e f cs ws cws c s l q r =
    let z = field-first f cs ws cws c s q in
    refuses-child e cs f ws l (subst (λ y. RefusesJoin e (child_at cs f) y) q (subst (λ y. RefusesJoin e y cws) z r))

pub record-refuses : (e : Error) (a : Layout) (t : TypeTree) (cs : Layouts) (va : Validity) (ws : List WindowParts) → a ≡ struct t cs va → RefusesEach e cs ws → RefusesJoin e a ws
record-refuses e a t cs va ws k r = subst (λ y. RefusesJoin e y ws) (sym k) (go r)
  where
    go : RefusesEach e cs ws → RefusesJoin e (struct t cs va) ws
    go (inl m) = inl m
    go (inr p) = inr (p.0, inr p.1)

pub record-lighter : (a : Layout) (t : TypeTree) (cs : Layouts) (va : Validity) → a ≡ struct t cs va → weight_all cs < weight a
record-lighter a t cs va k = omega (arith, ap weight k)

-- as many children as fields
pub record-count : (t : TypeTree) (cs : Layouts) (ws : List WindowParts) → AreWithin t ws → physical_type t ≡ physical.Struct → 0 < length ws → cs ≡ children_of (first_array ws) → count_layouts cs ≡ count_fields (fields_of t)
record-count t cs ws h p s e = let x = first-within t ws h s in ap count_layouts e ∙ (array-facts t (first_array ws) p x.0 x.1).as_many

-- the concatenation of one child
pub field-joined : (f : ℕ) (cs : Layouts) (ws cws : List WindowParts) (d : Layout) → cs ≡ children_of (first_array ws) → 0 < length ws → cws ≡ map (field_window f) ws
    → IsJoined (layout_type (first_array cws)) cws d → IsJoined (layout_type (child_at cs f)) (map (field_window f) ws) d
field-joined f cs ws cws d c s e j =
    let z = field-first f cs ws cws c s e in
    subst (λ y. IsJoined (layout_type (child_at cs f)) y d) e (subst (λ y. IsJoined (layout_type y) cws d) z j)
