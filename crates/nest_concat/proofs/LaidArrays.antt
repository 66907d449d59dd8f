-- The layout of concatenated windows is an array at every level, and has their slots.
use Rattle.std.specs.Prelude.{◌≡◌, ℕ, zero, suc, ◌+◌, ◌<◌, ◌≤◌, ℤ, Bool, true, false, List, [], ◌∷◌, map, length, get_or, take, Option, if◌then◌else◌}
use Rattle.std.specs.List.{All, flat_map, sum}
use Rattle.std.proofs.Common.{inl, inr, refl, ap, sym, ◌∙◌, subst, arith}
use Rattle.std.proofs.lemmas.List.{length-map}
use Rattle.std.proofs.lemmas.List.Sums.{sum_by-cons}
use Rattle.nest_memory.specs.TypeTree as types
use Rattle.nest_memory.specs.TypeTree.{TypeTree, count_fields, fields_of, size_of}
use Rattle.nest_model.specs.Accessors.{child_at, child_of, children_of, as_integer as number_of}
use Rattle.nest_model.specs.Array.{AreArrays as AreChildren, AreKeys, AreOffsets, IsArray}
use Rattle.nest_model.specs.FactLaws.{binary-facts, fixed_size_binary-facts, fixed_size_list-facts, list-facts, map-facts, struct-facts, text-facts, union-facts}
use Rattle.nest_model.specs.Fits.{ValidityFits}
use Rattle.nest_model.specs.FitsLaws.{fits-keeps}
use Rattle.nest_model.specs.Layout.{Layout, Layouts, null, boolean, primitive, binary, utf8, fixed_size_binary, fixed_size_list, list, map as map_of, struct, union, dictionary, no_layouts, more_layouts, count_layouts, layout_type}
use Rattle.nest_model.specs.Part.{Validity}
use Rattle.nest_memory.specs.declared.datatypes.physical_type.PrimitiveType.{PrimitiveType}
use Rattle.nest_array.specs.WindowParts.{WindowParts}
use Rattle.nest_concat.specs.Joinable.{MayJoin}
use Rattle.nest_concat.specs.Joined.{AreArrays, AreWithin, EachJoined, HasFields, IsJoined, first_array}
use Rattle.nest_concat.specs.Laid.{have_values, joined_rows, laid, laid_each, laid_keys}
use Rattle.nest_concat.specs.LaidLaws.{values-decides}
use Rattle.nest_concat.specs.Lookups.{AreJoinedKeys, joined_keys, keys_in, values_in}
use Rattle.nest_concat.specs.Windows.{blocks_of, count_of, count_slots, extents_in, field_window, items_in, concatenated_validity}
use Rattle.nest_concat.proofs.Flats.{boolean-joined, fixed-joined, null-joined, primitive-joined}
use Rattle.nest_concat.proofs.Keyed.{keyed-kind, kept-joined, keys-long, moved-count, moved-joined, values-children, width_of}
use Rattle.nest_concat.proofs.Nested.{all-map, first-of-map, list-children, list-joined, map-children, map-joined, sized-children, sized-joined}
use Rattle.nest_concat.proofs.Pieces.{begin-ends, ends-rows, flat-length}
use Rattle.nest_concat.proofs.Records.{record-joined}
use Rattle.nest_concat.proofs.Rows.{binary-joined, text-joined}
use Rattle.nest_concat.proofs.Unions.{field-children, field-count, union-joined}
use Rattle.nest_concat.proofs.Windows.{joined-fits}

-- offsets of consecutive rows never decrease
take-rises : (ls : List ℕ) (i j : ℕ) → i ≤ j → sum (take i ls) ≤ sum (take j ls)
take-rises ls zero j h = omega arith
take-rises ls (suc i) zero h = absurd (omega arith)
take-rises [] (suc i) (suc j) h = omega arith
take-rises (l ∷ ls) (suc i) (suc j) h = omega (arith, take-rises ls i j (omega arith), sum_by-cons (λ (z : ℕ). z) l (take i ls), sum_by-cons (λ (z : ℕ). z) l (take j ls))

pub rows-rise : (ws : List WindowParts) → AreOffsets (joined_rows ws)
rows-rise ws =
    let ls = flat_map extents_in ws in
    let n = ends-rows ls in
    (omega arith, λ i j h l. omega (arith, take-rises ls i j h, begin-ends ls i (omega (arith, n)), begin-ends ls j (omega (arith, n))))

-- the children of an array are arrays
none-array : IsArray (null types.null 0)
none-array = ((tt, (refl, tt)), tt)

child-array : (a : Layout) → IsArray a → IsArray (child_of a)
child-array (fixed_size_list t c va) h = h.1
child-array (list l t os c va) h = h.1
child-array (map_of t os c va) h = h.1
child-array (dictionary t ks c) h = h.1
child-array a h = none-array

fields-arrays : (a : Layout) → IsArray a → AreChildren (children_of a)
fields-arrays (struct t cs va) h = h.1
fields-arrays (union t ks cs os start) h = h.1
fields-arrays a h = tt

one-array : (cs : Layouts) (f : ℕ) → AreChildren cs → IsArray (child_at cs f)
one-array no_layouts f h = none-array
one-array (more_layouts c cs) zero h = h.0
one-array (more_layouts c cs) (suc f) h = one-array cs f h.1

-- the result is an array with the slots of the windows
abbrev pub IsLaid : TypeTree → List WindowParts → Layout → Type 0
IsLaid t ws b = IsArray b × IsJoined t ws b

first-array : (ws : List WindowParts) → 0 < length ws → All (λ w. IsArray w.array) ws → IsArray (first_array ws)
first-array [] s h = absurd (omega arith)
first-array (w ∷ ws) s h = h 0 w (omega arith)

is-array : (a : Layout) (ws : List WindowParts) → MayJoin a ws → IsArray a
is-array a ws r = subst IsArray (sym r.first) (first-array ws r.some r.arrays)

-- windows over the children that f selects can be concatenated too
child-may : (f : WindowParts → WindowParts) (g : Layout → Layout) (a : Layout) (ws : List WindowParts) → ((w : WindowParts) → (f w).array ≡ g w.array) → ((b : Layout) → IsArray b → IsArray (g b)) → MayJoin a ws
    → (AreArrays (map f ws) → (0 < length (map f ws)) × AreWithin (layout_type (first_array (map f ws))) (map f ws)) → MayJoin (g a) (map f ws)
child-may f g a ws m k r n =
    let arrays : All (λ w. IsArray w.array) (map f ws) = all-map f (λ w. IsArray w.array) ws (λ i d l. subst IsArray (sym (m (get_or ws i d))) (k (get_or ws i d).array (r.arrays i d l))) in
    let x = n (λ i d l. (arrays i d l).0) in
    let e : g a ≡ first_array (map f ws) = ap g r.first ∙ sym (first-of-map f g ws m r.some) in
    record { first = e; some = x.0; arrays = arrays; within = subst (λ z. AreWithin (layout_type z) (map f ws)) (sym e) x.1 }

-- the keys of dictionaries
wholes : (zs : List ℤ) → map number_of (map (λ z. z ∷ []) zs) ≡ zs
wholes [] = refl
wholes (z ∷ zs) = ap (λ ys. z ∷ ys) (wholes zs)

keys-count : (moved : Bool) (ws : List WindowParts) → length (joined_keys moved ws) ≡ count_slots ws
keys-count true ws = moved-count 0 ws
keys-count false ws = flat-length (keys_in 0) count_of ws (keys-long 0 ws)

pub keys-joined : (moved : Bool) (ks : Layout) (ws : List WindowParts) → AreKeys ks → AreJoinedKeys moved ks ws (laid_keys moved ks ws)
keys-joined moved (primitive k t vs va) ws h =
    let zs = joined_keys moved ws in
    record { same_width = refl; count = length-map zs (λ z. z ∷ []) ∙ keys-count moved ws; validity = refl; raw = wholes zs }
keys-joined moved ks ws h = absurd h

keys-laid : (moved : Bool) (t : TypeTree) (ks : Layout) (ws : List WindowParts) → AreWithin t ws → AreKeys ks → AreKeys (laid_keys moved ks ws)
keys-laid moved t (primitive k u vs va) ws w h =
    let zs = joined_keys moved ws in
    let n = length-map zs (λ z. z ∷ []) ∙ keys-count moved ws in
    (h.0, (subst (ValidityFits (concatenated_validity ws)) (sym n) (joined-fits t ws w), (h.1.1.0, tt)))
keys-laid moved t ks ws w h = absurd h

-- for each layout
null-laid : (t : TypeTree) (n : ℕ) (ws : List WindowParts) → MayJoin (null t n) ws → IsLaid t ws (laid (null t n) ws)
null-laid t n ws r =
    let x = null-joined t t ws (count_slots ws) r.within (is-array (null t n) ws r).0.1.0 refl refl in
    (((tt, x.0), tt), x.1)

boolean-laid : (t : TypeTree) (bs : List Bool) (va : Validity) (ws : List WindowParts) → MayJoin (boolean t bs va) ws → IsLaid t ws (laid (boolean t bs va) ws)
boolean-laid t bs va ws r =
    let x = boolean-joined t t ws _ _ r.within (is-array (boolean t bs va) ws r).0.1.1.0 refl refl refl in
    (((tt, x.0), tt), x.1)

primitive-laid : (k : PrimitiveType) (t : TypeTree) (vs : List (List ℤ)) (va : Validity) (ws : List WindowParts) → MayJoin (primitive k t vs va) ws → IsLaid t ws (laid (primitive k t vs va) ws)
primitive-laid k t vs va ws r =
    let x = primitive-joined k t t ws _ _ r.within (is-array (primitive k t vs va) ws r).0.1.1.0 refl refl refl in
    (((tt, x.0), tt), x.1)

binary-laid : (large : Bool) (t : TypeTree) (os bs : List ℕ) (va : Validity) (ws : List WindowParts) → MayJoin (binary large t os bs va) ws → IsLaid t ws (laid (binary large t os bs va) ws)
binary-laid large t os bs va ws r =
    let x = binary-joined large t t ws _ _ _ r.within (binary-facts large t os bs va (is-array (binary large t os bs va) ws r).0).typed refl refl refl refl in
    (((rows-rise ws, x.0), tt), x.1)

text-laid : (large : Bool) (t : TypeTree) (os bs : List ℕ) (va : Validity) (ws : List WindowParts) → MayJoin (utf8 large t os bs va) ws → IsLaid t ws (laid (utf8 large t os bs va) ws)
text-laid large t os bs va ws r =
    let x = text-joined large t t ws _ _ _ r.within (text-facts large t os bs va (is-array (utf8 large t os bs va) ws r).0).typed refl refl refl refl in
    (((rows-rise ws, x.0), tt), x.1)

fixed-laid : (t : TypeTree) (bs : List ℕ) (va : Validity) (ws : List WindowParts) → MayJoin (fixed_size_binary t bs va) ws → IsLaid t ws (laid (fixed_size_binary t bs va) ws)
fixed-laid t bs va ws r =
    let f = fixed_size_binary-facts t bs va (is-array (fixed_size_binary t bs va) ws r).0 in
    let x = fixed-joined t t ws (size_of t) _ _ r.within f.typed f.sized refl refl refl refl in
    (((tt, x.0), tt), x.1)

-- layouts with a child, from the result for the child
child-joined : (c d : Layout) (cws : List WindowParts) → MayJoin c cws → IsJoined (layout_type c) cws d → IsJoined (layout_type (first_array cws)) cws d
child-joined c d cws r j = subst (λ z. IsJoined (layout_type z) cws d) r.first j

sized-may : (t : TypeTree) (c : Layout) (va : Validity) (ws : List WindowParts) → MayJoin (fixed_size_list t c va) ws → MayJoin c (map (blocks_of (size_of t)) ws)
sized-may t c va ws r =
    let a = fixed_size_list t c va in
    let f = fixed_size_list-facts t c va (is-array a ws r).0 in
    child-may (blocks_of (size_of t)) child_of a ws (λ w. refl) child-array r (sized-children t (size_of t) ws (map (blocks_of (size_of t)) ws) r.within f.typed refl r.some refl)

sized-laid : (t : TypeTree) (c : Layout) (va : Validity) (ws : List WindowParts) → MayJoin (fixed_size_list t c va) ws → IsLaid (layout_type c) (map (blocks_of (size_of t)) ws) (laid c (map (blocks_of (size_of t)) ws))
    → IsLaid t ws (laid (fixed_size_list t c va) ws)
sized-laid t c va ws r d =
    let f = fixed_size_list-facts t c va (is-array (fixed_size_list t c va) ws r).0 in
    let cws = map (blocks_of (size_of t)) ws in
    let x = sized-joined t t (size_of t) ws cws (laid c cws) _ r.within f.typed refl r.some refl refl refl (child-joined c (laid c cws) cws (sized-may t c va ws r) d.1) in
    (((tt, x.0), d.0), x.1)

list-may : (large : Bool) (t : TypeTree) (os : List ℕ) (c : Layout) (va : Validity) (ws : List WindowParts) → MayJoin (list large t os c va) ws → MayJoin c (map items_in ws)
list-may large t os c va ws r =
    let a = list large t os c va in
    let f = list-facts large t os c va (is-array a ws r).0 in
    child-may items_in child_of a ws (λ w. refl) child-array r (list-children large t ws (map items_in ws) r.within f.typed r.some refl)

list-laid : (large : Bool) (t : TypeTree) (os : List ℕ) (c : Layout) (va : Validity) (ws : List WindowParts) → MayJoin (list large t os c va) ws → IsLaid (layout_type c) (map items_in ws) (laid c (map items_in ws))
    → IsLaid t ws (laid (list large t os c va) ws)
list-laid large t os c va ws r d =
    let f = list-facts large t os c va (is-array (list large t os c va) ws r).0 in
    let cws = map items_in ws in
    let x = list-joined large t t ws cws _ (laid c cws) _ r.within f.typed r.some refl refl refl (rows-rise ws) refl (child-joined c (laid c cws) cws (list-may large t os c va ws r) d.1) in
    (((rows-rise ws, x.0), d.0), x.1)

map-may : (t : TypeTree) (os : List ℕ) (c : Layout) (va : Validity) (ws : List WindowParts) → MayJoin (map_of t os c va) ws → MayJoin c (map items_in ws)
map-may t os c va ws r =
    let a = map_of t os c va in
    let f = map-facts t os c va (is-array a ws r).0 in
    child-may items_in child_of a ws (λ w. refl) child-array r (map-children t ws (map items_in ws) r.within f.typed r.some refl)

map-laid : (t : TypeTree) (os : List ℕ) (c : Layout) (va : Validity) (ws : List WindowParts) → MayJoin (map_of t os c va) ws → IsLaid (layout_type c) (map items_in ws) (laid c (map items_in ws))
    → IsLaid t ws (laid (map_of t os c va) ws)
map-laid t os c va ws r d =
    let f = map-facts t os c va (is-array (map_of t os c va) ws r).0 in
    let cws = map items_in ws in
    let x = map-joined t t ws cws _ (laid c cws) _ r.within f.typed r.some refl refl refl (rows-rise ws) refl (child-joined c (laid c cws) cws (map-may t os c va ws r) d.1) in
    (((rows-rise ws, x.0), d.0), x.1)

-- layouts with fields, from the result for each child
abbrev EachMayJoin : Layouts → ℕ → List WindowParts → Type 0
EachMayJoin cs f ws = (g : ℕ) → g < count_layouts cs → MayJoin (child_at cs g) (map (field_window (f + g)) ws)

first-may : (c : Layout) (cs : Layouts) (f : ℕ) (ws : List WindowParts) → EachMayJoin (more_layouts c cs) f ws → MayJoin c (map (field_window f) ws)
first-may c cs f ws h = let z : f + 0 ≡ f = omega arith in subst (λ n. MayJoin c (map (field_window n) ws)) z (h 0 (omega arith))

rest-may : (c : Layout) (cs : Layouts) (f : ℕ) (ws : List WindowParts) → EachMayJoin (more_layouts c cs) f ws → EachMayJoin cs (suc f) ws
rest-may c cs f ws h = λ g l. let z : f + suc g ≡ suc f + g = omega arith in subst (λ n. MayJoin (child_at cs g) (map (field_window n) ws)) z (h (suc g) (omega arith))

abbrev AreLaid : Layouts → ℕ → List WindowParts → Type 0
AreLaid cs f ws = AreChildren (laid_each cs f ws) × EachJoined cs f ws (laid_each cs f ws)

fields-may : (a : Layout) (ws : List WindowParts) → HasFields (layout_type a) → MayJoin a ws → EachMayJoin (children_of a) 0 ws
fields-may a ws k r = λ g l.
    let t = layout_type a in
    let n = field-count t (children_of a) ws r.within k r.some (ap children_of r.first) in
    let z : g ≡ 0 + g = omega arith in
    subst (λ f. MayJoin (child_at (children_of a) g) (map (field_window f) ws)) z
    (child-may (field_window g) (λ b. child_at (children_of b) g) a ws (λ w. refl) (λ b h. one-array (children_of b) g (fields-arrays b h)) r
    (field-children t g ws (map (field_window g) ws) r.within k r.some (omega (arith, n, l)) refl))

struct-laid : (t : TypeTree) (cs : Layouts) (va : Validity) (ws : List WindowParts) → MayJoin (struct t cs va) ws → AreLaid cs 0 ws → IsLaid t ws (laid (struct t cs va) ws)
struct-laid t cs va ws r d =
    let f = struct-facts t cs va (is-array (struct t cs va) ws r).0 in
    let x = record-joined t t ws cs (laid_each cs 0 ws) _ r.within f.typed r.some (ap children_of r.first) d.1 refl refl in
    (((tt, x.0), d.0), x.1)

union-laid : (t : TypeTree) (ks : List ℤ) (cs : Layouts) (os : Option (List ℤ)) (start : ℕ) (ws : List WindowParts) → MayJoin (union t ks cs os start) ws → AreLaid cs 0 ws
    → IsLaid t ws (laid (union t ks cs os start) ws)
union-laid t ks cs os start ws r d =
    let f = union-facts t ks cs os start (is-array (union t ks cs os start) ws r).0 in
    let x = union-joined t t (union t ks cs os start) ws _ cs (laid_each cs 0 ws) _ r.within f.typed r.some r.first refl d.1 refl refl refl in
    (((tt, x.0), d.0), x.1)

-- dictionaries
values-may : (t : TypeTree) (ks c : Layout) (ws : List WindowParts) → MayJoin (dictionary t ks c) ws → MayJoin c (map values_in ws)
values-may t ks c ws r =
    let a = dictionary t ks c in
    let p = keyed-kind a t ks c (is-array a ws r).0 refl in
    child-may values_in child_of a ws (λ w. refl) child-array r (values-children (width_of a) t ws (map values_in ws) r.within p r.some refl)

abbrev laid_by : Bool → TypeTree → Layout → Layout → List WindowParts → Layout
laid_by b t ks c ws = if b then dictionary t (laid_keys false ks ws) c else dictionary t (laid_keys true ks ws) (laid c (map values_in ws))

keyed-by : (b : Bool) (t : TypeTree) (ks c : Layout) (ws : List WindowParts) → have_values c ws ≡ b → MayJoin (dictionary t ks c) ws → IsLaid (layout_type c) (map values_in ws) (laid c (map values_in ws))
    → IsLaid t ws (laid_by b t ks c ws)
keyed-by true t ks c ws e r d =
    let a = dictionary t ks c in
    let top = is-array a ws r in
    let new = laid_keys false ks ws in
    let x = kept-joined a t ks c new c ws top.0 refl r.within refl (keys-joined false ks ws top.0.0) ((values-decides c ws).0 e) refl in
    let p : AreKeys new = keys-laid false t ks ws r.within top.0.0 in
    (((p, fits-keeps (dictionary t new c) p x.0), top.1), x.1)
keyed-by false t ks c ws e r d =
    let a = dictionary t ks c in
    let top = is-array a ws r in
    let cws = map values_in ws in
    let new = laid_keys true ks ws in
    let x = moved-joined a t ks c new (laid c cws) ws cws top.0 refl (r.first, r.some) r.within refl refl (keys-joined true ks ws top.0.0) (child-joined c (laid c cws) cws (values-may t ks c ws r) d.1) in
    let p : AreKeys new = keys-laid true t ks ws r.within top.0.0 in
    (((p, fits-keeps (dictionary t new (laid c cws)) p x.0), d.0), x.1)

mutual
  pub is-laid : (a : Layout) (ws : List WindowParts) → MayJoin a ws → IsLaid (layout_type a) ws (laid a ws)
  is-laid (null t n) ws r = null-laid t n ws r
  is-laid (boolean t bs va) ws r = boolean-laid t bs va ws r
  is-laid (primitive k t vs va) ws r = primitive-laid k t vs va ws r
  is-laid (binary large t os bs va) ws r = binary-laid large t os bs va ws r
  is-laid (utf8 large t os bs va) ws r = text-laid large t os bs va ws r
  is-laid (fixed_size_binary t bs va) ws r = fixed-laid t bs va ws r
  is-laid (fixed_size_list t c va) ws r = sized-laid t c va ws r (is-laid c (map (blocks_of (size_of t)) ws) (sized-may t c va ws r))
  is-laid (list large t os c va) ws r = list-laid large t os c va ws r (is-laid c (map items_in ws) (list-may large t os c va ws r))
  is-laid (map_of t os c va) ws r = map-laid t os c va ws r (is-laid c (map items_in ws) (map-may t os c va ws r))
  is-laid (struct t cs va) ws r = struct-laid t cs va ws r (are-laid cs 0 ws (fields-may (struct t cs va) ws (inl (struct-facts t cs va (is-array (struct t cs va) ws r).0).typed) r))
  is-laid (union t ks cs os start) ws r =
      union-laid t ks cs os start ws r (are-laid cs 0 ws (fields-may (union t ks cs os start) ws (inr (union-facts t ks cs os start (is-array (union t ks cs os start) ws r).0).typed) r))
  is-laid (dictionary t ks c) ws r = keyed-by (have_values c ws) t ks c ws refl r (is-laid c (map values_in ws) (values-may t ks c ws r))

  are-laid : (cs : Layouts) (f : ℕ) (ws : List WindowParts) → EachMayJoin cs f ws → AreLaid cs f ws
  are-laid no_layouts f ws h = (tt, tt)
  are-laid (more_layouts c cs) f ws h =
      let x = is-laid c (map (field_window f) ws) (first-may c cs f ws h) in
      let y = are-laid cs (suc f) ws (rest-may c cs f ws h) in
      ((x.0, y.0), (x.1, y.1))
