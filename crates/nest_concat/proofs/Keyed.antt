-- Dictionaries with concatenated keys, over values that are kept or concatenated.
use Rattle.std.specs.Prelude.{◌↔◌, IsTrue, if◌then◌else◌, List, [], ◌∷◌, ◌++◌, map, length, get_or, Option, Some, None, alloc_error}
use Rattle.std.specs.List.{flat_map, sum_by}
use Rattle.std.proofs.Common.{◌≡◌, ℕ, ℤ, pos, negsuc, zero, suc, ◌+◌, ◌<◌, ◌≤◌, Bool, true, false, take, inl, inr, refl, ap, sym, ◌∙◌, subst, arith, length-append}
use Rattle.std.proofs.lemmas.List.Elements.{All-from_get_or, All-more}
use Rattle.std.proofs.lemmas.List.Sums.{sum_by-cons, sum_by_more_le}
use Rattle.std.proofs.lemmas.List.{get_or_append_left, get_or-append-add, length-map, take_all}
use Rattle.nest_memory.specs.Physical.{physical_type}
use Rattle.nest_memory.specs.TypeTree as types
use Rattle.nest_memory.specs.TypeTree.{TypeTree, logical_type, key_type, value_type}
use Rattle.nest_memory.specs.declared.datatypes.IntegerType.{IntegerType}
use Rattle.nest_memory.specs.declared.datatypes.physical_type.PhysicalType.{PhysicalType}
use Rattle.nest_memory.specs.declared.datatypes.physical_type.PhysicalType.TheVariants as physical
use Rattle.nest_memory.specs.declared.error.Error.{Error}
use Rattle.nest_memory.specs.declared.error.Error.TheVariants.{Memory}
use Rattle.nest_model.specs.Accessors.{validity_of, child_of, keys_of, key_at, key_type_of, raw_keys, as_integer as number_of}
use Rattle.nest_model.specs.Array.{AreKeys, TopFits}
use Rattle.nest_model.specs.BuilderTree.{key_count}
use Rattle.nest_model.specs.FactLaws.{dictionary-facts}
use Rattle.nest_model.specs.Facts.{IsDictionary}
use Rattle.nest_model.specs.Fits.{Fits, IsLogically, KeysInRange, Names, is_dictionary}
use Rattle.nest_model.specs.Layout.{Layout, dictionary, primitive, layout_type, weight}
use Rattle.nest_model.specs.Meaning.{len, slot, slots_of}
use Rattle.nest_model.specs.Part.{valid_at, to_index}
use Rattle.nest_model.specs.Reads.{slots-length, slot-place}
use Rattle.nest_model.specs.SameArray.{IsSameArray}
use Rattle.nest_model.specs.Slot as slots
use Rattle.nest_model.specs.Slot.{Slot}
use Rattle.nest_array.specs.Keys.{keyed_by}
use Rattle.nest_array.specs.Kinds.{IsKeyed}
use Rattle.nest_array.specs.WindowParts.{WindowParts, window_slots}
use Rattle.nest_concat.specs.Joined.{AreArrays, HaveKeys, AreOfKind, AreWithin, IsJoined, IsWithin, RefusesJoin, RefusesKeys, first_array}
use Rattle.nest_concat.specs.Lookups.{AreJoinedKeys, HaveValues, KeysPass, count_values, keys_in, moved_key, moved_keys, moved_run, most_keys, values_in}
use Rattle.nest_concat.specs.Windows.{count_of, count_slots, concatenated_validity}
use Rattle.nest_concat.proofs.Logical.{kind-alike, value-alike}
use Rattle.nest_concat.proofs.Made.{passes-length}
use Rattle.nest_concat.proofs.Nested.{children-within, first-of-map, first-within}
use Rattle.nest_concat.proofs.Pieces.{AreLong, flat-at, flat-length}
use Rattle.nest_concat.proofs.Shapes.{dictionary-shape}
use Rattle.nest_concat.proofs.Windows.{joined-slots, locate, nowhere, place_of, validity-at, window}

-- the physical type of dictionaries has their key type
keyed-type : (t : TypeTree) → IsTrue (is_dictionary t) → physical_type t ≡ physical.Dictionary (keyed_by (key_type t))
keyed-type (types.dictionary k u b) h = refl
keyed-type (types.extension n u m) h = keyed-type u h
keyed-type t h = cc

abbrev pub width_of : Layout → IntegerType
width_of a = keyed_by (key_type_of (keys_of a))

pub keyed-kind : (a : Layout) (t : TypeTree) (ks c : Layout) → TopFits a → a ≡ dictionary t ks c → physical_type (layout_type a) ≡ physical.Dictionary (width_of a)
keyed-kind a t ks c h e =
    let f = dictionary-facts t ks c (subst TopFits e h) in
    ap (λ z. physical_type (layout_type z)) e ∙ keyed-type t f.typed ∙ ap (λ k. physical.Dictionary (keyed_by k)) f.key_typed ∙ ap (λ z. physical.Dictionary (width_of z)) (sym e)

pub are-keyed : (k : IntegerType) (ws : List WindowParts) → AreOfKind (physical.Dictionary k) ws → HaveKeys ws
are-keyed k ws h = λ i d l. subst IsKeyed (sym (h i d l)) tt

-- facts about the dictionary of a window
keyed-is : (k : IntegerType) (t : TypeTree) (w : WindowParts) → physical_type t ≡ physical.Dictionary k → IsWithin t w → w.array ≡ dictionary (layout_type w.array) (keys_of w.array) (child_of w.array)
keyed-is k t w p f = dictionary-shape k w.array f.is_array (kind-alike (layout_type w.array) t _ f.same_type p)

array-keyed : (k : IntegerType) (t : TypeTree) (a : Layout) → physical_type t ≡ physical.Dictionary k → TopFits a → logical_type (layout_type a) ≡ logical_type t → IsDictionary (layout_type a) (keys_of a) (child_of a)
array-keyed k t a p f e = dictionary-facts (layout_type a) (keys_of a) (child_of a) (subst TopFits (dictionary-shape k a f (kind-alike (layout_type a) t _ e p)) f)

-- its key type
abbrev key_in : PhysicalType → Option IntegerType
key_in (physical.Dictionary k) = Some k
key_in p = None

key-in : (t : TypeTree) → key_type t ≡ key_in (physical_type t)
key-in (types.extension n u m) = key-in u
key-in t = refl

key-named : (t : TypeTree) (k : IntegerType) → physical_type t ≡ physical.Dictionary k → key_type t ≡ Some k
key-named t k h = key-in t ∙ ap key_in h

pub window-keys : (k : IntegerType) (a : Layout) → TopFits a → physical_type (layout_type a) ≡ physical.Dictionary k → (key_type_of (keys_of a) ≡ Some k) × (len (keys_of a) ≡ len a)
window-keys k a f p =
    let e = dictionary-shape k a f p in
    let g = dictionary-facts (layout_type a) (keys_of a) (child_of a) (subst TopFits e f) in
    (sym g.key_typed ∙ key-named (layout_type a) k p, sym (ap len e))

-- values of logically equal types
values-alike : (o : Option TypeTree) (u v : TypeTree) → IsLogically o u → IsLogically o v → logical_type u ≡ logical_type v
values-alike None u v h i = absurd h
values-alike (Some x) u v h i = h ∙ sym i

same-values : (k : IntegerType) (t : TypeTree) (a b : Layout) → physical_type t ≡ physical.Dictionary k → TopFits a → logical_type (layout_type a) ≡ logical_type t → TopFits b → logical_type (layout_type b) ≡ logical_type t
    → logical_type (layout_type (child_of a)) ≡ logical_type (layout_type (child_of b))
same-values k t a b p f e g h =
    let x = array-keyed k t a p f e in
    let y = array-keyed k t b p g h in
    let o = value-alike (layout_type a) (layout_type b) (e ∙ sym h) in
    values-alike (value_type (layout_type b)) (layout_type (child_of a)) (layout_type (child_of b)) (subst (λ z. IsLogically z (layout_type (child_of a))) o x.value_typed) y.value_typed

-- the windows over the values of all arrays
pub values-children : (k : IntegerType) (t : TypeTree) (ws cws : List WindowParts) → AreWithin t ws → physical_type t ≡ physical.Dictionary k → 0 < length ws → cws ≡ map values_in ws → AreArrays cws
    → (0 < length cws) × AreWithin (layout_type (first_array cws)) cws
values-children k t ws cws h p s e r =
    let f = first-within t ws h s in
    children-within values_in child_of t ws cws (λ w. refl) h s e r
    (λ a x y. same-values k t a (first_array ws) p x y f.0 f.1)
    (λ i d l. omega arith)

-- keys of windows: their number, and each by its index
run-length : (s : ℕ) (ks : Layout) (o n : ℕ) → length (moved_run s ks o n) ≡ n
run-length s ks o zero = refl
run-length s ks o (suc n) = ap suc (run-length s ks (o + 1) n)

run-at : (s : ℕ) (ks : Layout) (o n j : ℕ) → j < n → get_or (moved_run s ks o n) j (pos 0) ≡ moved_key s ks (o + j)
run-at s ks o zero j h = absurd (omega arith)
run-at s ks o (suc n) zero h = let z : o ≡ o + 0 = omega arith in ap (moved_key s ks) z
run-at s ks o (suc n) (suc j) h = let z : o + 1 + j ≡ o + suc j = omega arith in run-at s ks (o + 1) n j (omega arith) ∙ ap (moved_key s ks) z

pub keys-long : (s : ℕ) (ws : List WindowParts) → AreLong (keys_in s) count_of ws
keys-long s ws = λ i d l. let w = get_or ws i d in run-length s (keys_of w.array) w.offset w.count

kept-at : (ws : List WindowParts) (k j : ℕ) → k < length ws → j < count_of (window ws k)
    → get_or (flat_map (keys_in 0) ws) (place_of ws k j) (pos 0) ≡ moved_key 0 (keys_of (window ws k).array) ((window ws k).offset + j)
kept-at ws k j l m =
    let w = window ws k in
    flat-at (keys_in 0) count_of ws k j nowhere (pos 0) (keys-long 0 ws) l m ∙ run-at 0 (keys_of w.array) w.offset w.count j m

abbrev pub before : List WindowParts → ℕ → ℕ
before ws k = sum_by count_values (take k ws)

moved-at : (s : ℕ) (ws : List WindowParts) (k j : ℕ) → k < length ws → j < count_of (window ws k)
    → get_or (moved_keys s ws) (place_of ws k j) (pos 0) ≡ moved_key (s + before ws k) (keys_of (window ws k).array) ((window ws k).offset + j)
moved-at s [] k j l m = absurd (omega arith)
moved-at s (w ∷ ws) zero j l m =
    let z : place_of (w ∷ ws) 0 j ≡ j = omega arith in
    let y : s ≡ s + before (w ∷ ws) 0 = omega arith in
    let x = run-length s (keys_of w.array) w.offset w.count in
    ap (λ i. get_or (keys_in s w ++ moved_keys (s + count_values w) ws) i (pos 0)) z
    ∙ get_or_append_left (keys_in s w) (moved_keys (s + count_values w) ws) (pos 0) j (omega arith)
    ∙ run-at s (keys_of w.array) w.offset w.count j m
    ∙ ap (λ n. moved_key n (keys_of w.array) (w.offset + j)) y
moved-at s (w ∷ ws) (suc k) j l m =
    let x = run-length s (keys_of w.array) w.offset w.count in
    let z : place_of (w ∷ ws) (suc k) j ≡ length (keys_in s w) + place_of ws k j = omega (arith, sum_by-cons count_of w (take k ws), x) in
    let y : s + count_values w + before ws k ≡ s + before (w ∷ ws) (suc k) = omega (arith, sum_by-cons count_values w (take k ws)) in
    let v = window ws k in
    ap (λ i. get_or (keys_in s w ++ moved_keys (s + count_values w) ws) i (pos 0)) z
    ∙ get_or-append-add (keys_in s w) (moved_keys (s + count_values w) ws) (place_of ws k j) (pos 0)
    ∙ moved-at (s + count_values w) ws k j (omega arith) m
    ∙ ap (λ n. moved_key n (keys_of v.array) (v.offset + j)) y

pub moved-count : (s : ℕ) (ws : List WindowParts) → length (moved_keys s ws) ≡ count_slots ws
moved-count s [] = refl
moved-count s (w ∷ ws) =
    omega (arith, length-append (keys_in s w) (moved_keys (s + count_values w) ws), run-length s (keys_of w.array) w.offset w.count, moved-count (s + count_values w) ws, sum_by-cons count_of w ws)

-- values by their indices: new has those of each array, after s others
pub record HasValues (ws : List WindowParts) (s : ℕ → ℕ) (d : Layout) : Type 0 where
  pub there : (k p : ℕ) → k < length ws → p < count_values (window ws k) → s k + p < len d
  pub same : (k p : ℕ) → k < length ws → p < count_values (window ws k) → slot d (s k + p) ≡ slot (child_of (window ws k).array) p

-- keys by their indices
pub record HasKeys (ws : List WindowParts) (s : ℕ → ℕ) (new : Layout) : Type 0 where
  pub validity : validity_of new ≡ concatenated_validity ws
  pub count : length (raw_keys new) ≡ count_slots ws
  pub raw : (k j : ℕ) → k < length ws → j < count_of (window ws k) → key_at new (place_of ws k j) ≡ moved_key (s k) (keys_of (window ws k).array) ((window ws k).offset + j)

names-place : (z : ℤ) (n : ℕ) → Names z n → to_index z < n
names-place (pos k) n h = h
names-place (negsuc k) n h = absurd h

moved-names : (b : Bool) (m n : ℕ) → 0 < n → (b ≡ true → m < n) → Names (if b then pos m else pos 0) n
moved-names true m n h f = f refl
moved-names false m n h f = h

moved-place : (b : Bool) (m : ℕ) → b ≡ true → to_index (if b then pos m else pos 0) ≡ m
moved-place true m h = refl
moved-place false m h = cc

same-when : (p q : Bool) (x y : Slot) → p ≡ q → (q ≡ true → x ≡ y) → (if p then x else slots.null) ≡ (if q then y else slots.null)
same-when p true x y e f = ap (λ b. if b then x else slots.null) e ∙ f refl
same-when p false x y e f = ap (λ b. if b then x else slots.null) e

-- the keys of an array fit its own values
keys-count : (ks : Layout) → AreKeys ks → length (raw_keys ks) ≡ len ks
keys-count (primitive q t vs va) h = length-map vs number_of
keys-count ks h = absurd h

named-in : (k : IntegerType) (t : TypeTree) (w : WindowParts) (j : ℕ) → physical_type t ≡ physical.Dictionary k → IsWithin t w → j < w.count → valid_at (validity_of (keys_of w.array)) (w.offset + j) ≡ true
    → to_index (key_at (keys_of w.array) (w.offset + j)) < count_values w
named-in k t w j p f l v =
    let g = array-keyed k t w.array p f.is_array f.same_type in
    let e = ap len (keyed-is k t w p f) in
    names-place (key_at (keys_of w.array) (w.offset + j)) (count_values w) (g.in_range (w.offset + j) (omega (arith, f.within, e)) v)

keyed-core : (k : IntegerType) (t : TypeTree) (ws : List WindowParts) (new d : Layout) (s : ℕ → ℕ) → AreWithin t ws → physical_type t ≡ physical.Dictionary k → IsTrue (is_dictionary t) → key_type t ≡ key_type_of new
    → IsLogically (value_type t) (layout_type d) → len new ≡ count_slots ws → HasKeys ws s new → HasValues ws s d
    → Fits (dictionary t new d) × IsJoined t ws (dictionary t new d)
keyed-core k t ws new d s h p b q u n ks vs =
    let valid : (i j : ℕ) → i < length ws → j < count_of (window ws i) → valid_at (validity_of new) (place_of ws i j) ≡ valid_at (validity_of (keys_of (window ws i).array)) ((window ws i).offset + j)
    = λ i j l m.
    let w = window ws i in
    let e = ap validity_of (keyed-is k t w p (h i nowhere l)) in
    ap (λ va. valid_at va (place_of ws i j)) ks.validity ∙ validity-at t ws i j h l m ∙ ap (λ va. valid_at va (w.offset + j)) e in
    let named : (i j : ℕ) → i < length ws → j < count_of (window ws i) → valid_at (validity_of (keys_of (window ws i).array)) ((window ws i).offset + j) ≡ true
    → to_index (key_at (keys_of (window ws i).array) ((window ws i).offset + j)) < count_values (window ws i)
    = λ i j l m v. named-in k t (window ws i) j p (h i nowhere l) m v in
    let range : KeysInRange new (len d) = λ some.
    let r = locate ws some.0 (let x = some.1 in omega (arith, x, n)) in
    let v = sym (valid r.k r.j r.window_there r.slot_there) ∙ ap (valid_at (validity_of new)) (sym r.is) ∙ some.2 in
    let o : 0 < len d = omega (arith, vs.there r.k (to_index (key_at (keys_of (window ws r.k).array) ((window ws r.k).offset + r.j))) r.window_there (named r.k r.j r.window_there r.slot_there v)) in
    All-from_get_or (λ z. Names z (len d)) (raw_keys new) (pos 0)
    (λ x l.
    let a = locate ws x (omega (arith, ks.count)) in
    let w = window ws a.k in
    let z = ap (λ y. get_or (raw_keys new) y (pos 0)) a.is ∙ ks.raw a.k a.j a.window_there a.slot_there in
    let m = moved-names (valid_at (validity_of (keys_of w.array)) (w.offset + a.j)) (s a.k + to_index (key_at (keys_of w.array) (w.offset + a.j))) (len d) o
    (λ y. vs.there a.k (to_index (key_at (keys_of w.array) (w.offset + a.j))) a.window_there (named a.k a.j a.window_there a.slot_there y)) in
    subst (λ y. Names y (len d)) (sym z) m) in (
      (b, (q, (u, (range, tt)))),
      record {
        slots = joined-slots t (dictionary t new d) ws h n (λ i j l m.
            let w = window ws i in
            let x = place_of ws i j in
            let ok = keys_of w.array in
            let y = w.offset + j in
            same-when (valid_at (validity_of new) x) (valid_at (validity_of ok) y) (slot d (to_index (key_at new x))) (slot (child_of w.array) (to_index (key_at ok y))) (valid i j l m)
            (λ v.
            ap (λ z. slot d (to_index z)) (ks.raw i j l m)
            ∙ ap (slot d) (moved-place (valid_at (validity_of ok) y) (s i + to_index (key_at ok y)) v)
            ∙ vs.same i (to_index (key_at ok y)) l (named i j l m v))
            ∙ sym (ap (λ z. slot z y) (keyed-is k t w p (h i nowhere l))));
        same_type = refl;
      },
    )

-- a fact about the first array is one about the type
first-keyed : (k : IntegerType) (t : TypeTree) (a : Layout) → TopFits a → layout_type a ≡ t → physical_type t ≡ physical.Dictionary k → IsDictionary t (keys_of a) (child_of a)
first-keyed k t a f e p = subst (λ z. IsDictionary z (keys_of a) (child_of a)) e (array-keyed k t a p f (ap logical_type e))

abbrev keys-by : Bool → List WindowParts → ℕ → ℕ
keys-by moved ws k = if moved then before ws k else 0

has-keys : (moved : Bool) (ks : Layout) (ws : List WindowParts) (new : Layout) → AreJoinedKeys moved ks ws new → HasKeys ws (keys-by moved ws) new
has-keys true ks ws new h =
    record {
      validity = h.validity;
      count = ap length h.raw ∙ moved-count 0 ws;
      raw = λ k j l m.
          let z : 0 + before ws k ≡ before ws k = omega arith in
          let w = window ws k in
          ap (λ zs. get_or zs (place_of ws k j) (pos 0)) h.raw ∙ moved-at 0 ws k j l m ∙ ap (λ n. moved_key n (keys_of w.array) (w.offset + j)) z;
    }
has-keys false ks ws new h =
    record {
      validity = h.validity;
      count = ap length h.raw ∙ flat-length (keys_in 0) count_of ws (keys-long 0 ws);
      raw = λ k j l m. ap (λ zs. get_or zs (place_of ws k j) (pos 0)) h.raw ∙ kept-at ws k j l m;
    }

-- values that are kept
has-kept : (c : Layout) (ws : List WindowParts) → HaveValues c ws → HasValues ws (keys-by false ws) c
has-kept c ws h =
    let long : (k : ℕ) → k < length ws → count_values (window ws k) ≡ len c = λ k l.
    sym (slots-length (child_of (window ws k).array)) ∙ ap length (h k nowhere l).1 ∙ slots-length c in
    record {
      there = λ k p l m. omega (arith, long k l);
      same = λ k p l m.
          let w = window ws k in
          let z : 0 + p ≡ p = omega arith in
          ap (slot c) z ∙ sym (slot-place c p slots.null (omega (arith, long k l))) ∙ sym (ap (λ ss. get_or ss p slots.null) (h k nowhere l).1) ∙ slot-place (child_of w.array) p slots.null m;
    }

-- values that are concatenated
abbrev value_slots : WindowParts → List Slot
value_slots w = slots_of (child_of w.array)

values-long : (ws : List WindowParts) → AreLong value_slots count_values ws
values-long ws = λ i d l. slots-length (child_of (get_or ws i d).array)

whole-slots : (w : WindowParts) → window_slots (values_in w) ≡ value_slots w
whole-slots w = let a = child_of w.array in take_all (len a) (slots_of a) (omega (arith, slots-length a))

values-slots : (ws : List WindowParts) → flat_map window_slots (map values_in ws) ≡ flat_map value_slots ws
values-slots [] = refl
values-slots (w ∷ ws) = ap (λ ss. ss ++ flat_map window_slots (map values_in ws)) (whole-slots w) ∙ ap (λ ss. value_slots w ++ ss) (values-slots ws)

has-joined : (u : TypeTree) (ws : List WindowParts) (d : Layout) → IsJoined u (map values_in ws) d → HasValues ws (keys-by true ws) d
has-joined u ws d g =
    let q = g.slots ∙ values-slots ws in
    let n : len d ≡ sum_by count_values ws = sym (slots-length d) ∙ ap length q ∙ flat-length value_slots count_values ws (values-long ws) in
    let there : (k p : ℕ) → k < length ws → p < count_values (window ws k) → before ws k + p < len d = λ k p l m. omega (arith, n, sum_by_more_le count_values ws k nowhere l) in
    record {
      there = there;
      same = λ k p l m.
          sym (slot-place d (before ws k + p) slots.null (there k p l m))
          ∙ ap (λ ss. get_or ss (before ws k + p) slots.null) q
          ∙ flat-at value_slots count_values ws k p nowhere slots.null (values-long ws) l m
          ∙ slot-place (child_of (window ws k).array) p slots.null m;
    }

-- the dictionary over values that are kept
pub kept-joined : (a : Layout) (u : TypeTree) (ks c new d : Layout) (ws : List WindowParts) → TopFits a → a ≡ dictionary (layout_type a) ks c → AreWithin (layout_type a) ws → u ≡ layout_type a
    → AreJoinedKeys false ks ws new → HaveValues c ws → d ≡ c → Fits (dictionary u new d) × IsJoined (layout_type a) ws (dictionary u new d)
kept-joined a u ks c new d ws f e h q g s z =
    let t = layout_type a in
    let x = dictionary-facts t ks c (subst TopFits e f) in
    let p = keyed-type t x.typed in
    let y = keyed-core (keyed_by (key_type t)) t ws new c (keys-by false ws) h p x.typed (x.key_typed ∙ sym g.same_width) x.value_typed g.count (has-keys false ks ws new g) (has-kept c ws s) in
    let r : dictionary t new c ≡ dictionary u new d = cc in
    subst (λ b. Fits b × IsJoined t ws b) r y

abbrev pub IsFirst : Layout → List WindowParts → Type 0
IsFirst a ws = (a ≡ first_array ws) × (0 < length ws)

pub values-first : (a : Layout) (t : TypeTree) (ks c : Layout) (ws cws : List WindowParts) → a ≡ dictionary t ks c → IsFirst a ws → cws ≡ map values_in ws → first_array cws ≡ c
values-first a t ks c ws cws k h e = ap first_array e ∙ first-of-map values_in child_of ws (λ w. refl) h.1 ∙ ap child_of (sym h.0 ∙ k)

-- the dictionary over concatenated values
pub moved-joined : (a : Layout) (u : TypeTree) (ks c new d : Layout) (ws cws : List WindowParts) → TopFits a → a ≡ dictionary (layout_type a) ks c → IsFirst a ws → AreWithin (layout_type a) ws → cws ≡ map values_in ws → u ≡ layout_type a
    → AreJoinedKeys true ks ws new → IsJoined (layout_type (first_array cws)) cws d → Fits (dictionary u new d) × IsJoined (layout_type a) ws (dictionary u new d)
moved-joined a u ks c new d ws cws f e i h m q g j =
    let t = layout_type a in
    let x = dictionary-facts t ks c (subst TopFits e f) in
    let p = keyed-type t x.typed in
    let w : layout_type d ≡ layout_type c = j.same_type ∙ ap layout_type (values-first a t ks c ws cws e i m) in
    let v = subst (λ z. IsLogically (value_type t) z) (sym w) x.value_typed in
    let r = subst (λ z. IsJoined (layout_type (first_array cws)) z d) m j in
    let y = keyed-core (keyed_by (key_type t)) t ws new d (keys-by true ws) h p x.typed (x.key_typed ∙ sym g.same_width) v g.count (has-keys true ks ws new g) (has-joined (layout_type (first_array cws)) ws d r) in
    subst (λ b. Fits b × IsJoined t ws b) (ap (λ z. dictionary z new d) (sym q)) y

-- the errors for the keys, or the values
pub keys-refuse : (e : Error) (a : Layout) (ks c : Layout) (ws : List WindowParts) → TopFits a → a ≡ dictionary (layout_type a) ks c → (HaveValues c ws → ⊥) → RefusesKeys true e (key_count (keyed_by (key_type_of ks))) ws → RefusesJoin e a ws
keys-refuse e a ks c ws f k n r =
    let t = layout_type a in
    let x = dictionary-facts t ks c (subst TopFits k f) in
    let m : key_count (keyed_by (key_type_of ks)) ≡ most_keys t = ap (λ z. key_count (keyed_by z)) (sym x.key_typed) in
    subst (λ y. RefusesJoin e y ws) (sym k) (refused t m r)
  where
    refused : (t : TypeTree) → key_count (keyed_by (key_type_of ks)) ≡ most_keys t → RefusesKeys true e (key_count (keyed_by (key_type_of ks))) ws → RefusesJoin e (dictionary t ks c) ws
    refused t m (inl h) = inl h
    refused t m (inr (o, (b, inl p))) = inr ((o, inr (n, inl (subst (λ z. KeysPass z 0 ws) m p))))
    refused t m (inr (o, (b, inr p))) = inr ((o, inr (n, inr (passes-length c (map values_in ws) p))))

pub values-refuse : (e : Error) (a : Layout) (t : TypeTree) (ks c : Layout) (ws cws : List WindowParts) → a ≡ dictionary t ks c → IsFirst a ws → cws ≡ map values_in ws → (HaveValues c ws → ⊥)
    → RefusesJoin e (first_array cws) cws → RefusesJoin e a ws
values-refuse e a t ks c ws cws k h q n r =
    let z = values-first a t ks c ws cws k h q in
    subst (λ y. RefusesJoin e y ws) (sym k) (refused (subst (λ y. RefusesJoin e c y) q (subst (λ y. RefusesJoin e y cws) z r)))
  where
    refused : RefusesJoin e c (map values_in ws) → RefusesJoin e (dictionary t ks c) ws
    refused (inl m) = inl m
    refused (inr p) = inr (p.0, inr (n, inr p.1))

pub kept-memory : (e : Error) (n : ℕ) (ws : List WindowParts) → RefusesKeys false e n ws → e ≡ Memory alloc_error
kept-memory e n ws (inl h) = h
kept-memory e n ws (inr h) = cc

pub keyed-lighter : (a : Layout) (t : TypeTree) (ks c : Layout) (ws cws : List WindowParts) → a ≡ dictionary t ks c → IsFirst a ws → cws ≡ map values_in ws → weight (first_array cws) < weight a
keyed-lighter a t ks c ws cws k h q = omega (arith, ap weight (values-first a t ks c ws cws k h q), ap weight k)

-- arrays whose values are equal to these
pub have-more : (c a : Layout) (ws : List WindowParts) (i : ℕ) (w : WindowParts) → i < length ws → w ≡ get_or ws i w → a ≡ child_of w.array → HaveValues c (take i ws) → IsSameArray a c → HaveValues c (take (i + 1) ws)
have-more c a ws i w h e f g s =
    let t : IsSameArray (child_of w.array) c = subst (λ x. IsSameArray x c) f s in
    All-more (λ x. IsSameArray (child_of x.array) c) ws i w h g (subst (λ x. IsSameArray (child_of x.array) c) e t)

pub have-all : (c : Layout) (ws : List WindowParts) (i : ℕ) → length ws ≤ i → HaveValues c (take i ws) → HaveValues c ws
have-all c ws i h g = subst (HaveValues c) (take_all i ws h) g

pub have-here : (c a : Layout) (ws : List WindowParts) (i : ℕ) (w : WindowParts) → i < length ws → w ≡ get_or ws i w → a ≡ child_of w.array → HaveValues c ws → IsSameArray a c
have-here c a ws i w h e f g = subst (λ x. IsSameArray x c) (sym f) (subst (λ x. IsSameArray (child_of x.array) c) (sym e) (g i w h))

-- where a test fails, some array has other values
pub others-not : (c d : Layout) (ws : List WindowParts) → c ≡ d → (IsTrue false ↔ HaveValues c ws) → HaveValues d ws → ⊥
others-not c d ws e i h = let t = i.1 (subst (λ z. HaveValues z ws) (sym e) h) in cc
