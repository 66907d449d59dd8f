-- Columns that differ only in the values of their dictionaries, where one may have more. They are written as the same field nodes and
-- buffers, and each round-trips over its own values.
use Rattle.std.proofs.Common.{◌≡◌, ℕ, zero, suc, ◌+◌, ◌-◌, ◌*◌, ◌/◌, ◌%◌, ◌<◌, ◌≤◌, Bool, true, false, List, [], ◌∷◌, ◌++◌, length, get_or, map, Some, None, refl, sym, ap, subst, ◌∙◌, arith, length-append}
use Rattle.std.specs.Prelude.{ℤ, pos, negsuc, Option, count_by, if◌then◌else◌}
use Rattle.std.specs.List.{AllByRecursion, range_with_len}
use Rattle.std.proofs.lemmas.List.{append-nil, get_or_append_left}
use Rattle.nest_memory.specs.Rising.{last_of}
use Rattle.nest_memory.specs.TypeTree.{TypeTree, FieldTrees, no_fields, more_fields, size_of, fields_of, ids_of, value_type, logical_type}
use Rattle.nest_model.specs.Accessors.{validity_of, key_at}
use Rattle.nest_model.specs.Array.{AreOffsets, TopFits}
use Rattle.nest_model.specs.Checks.{most_fields}
use Rattle.nest_model.specs.Fits.{ValidityFits, EachType, EachLen, EachCovers, EachMeansField, EachValidNames, IdsCount, IsLogically, Names, SlotsThere, child_len}
use Rattle.nest_model.specs.Layout.{Layout, Layouts, fixed_size_list, list as list_of, map as map_of, struct, union, dictionary, no_layouts, more_layouts, layout_type, count_layouts}
use Rattle.nest_model.specs.Meaning.{len, first_len, slot, each, picked, run, slots_of}
use Rattle.nest_model.specs.Nullness.{is_null_at}
use Rattle.nest_model.specs.Part.{begin, extent, count_rows, valid_at, field_named, to_index}
use Rattle.nest_model.specs.Reads.{slots-length, slot-place}
use Rattle.nest_model.specs.Runs.{product-sum, product-within, run-ext}
use Rattle.nest_model.specs.Slot as slots
use Rattle.nest_model.specs.Slot.{Slot, seal}
use Rattle.nest_array.specs.Seen.{layout_of, layouts_of}
use Rattle.nest_array.specs.WindowParts.{WindowParts, window_parts}
use Rattle.nest_array.specs.declared.any.AnyArray.{AnyArray}
use Rattle.ipc_arrays.specs.RoundTripLaws.{WindowRoundTrips, ColumnRoundTrips, are_within, of_same, place_named, some_begin, again, all_read_back, buffers_more}
use Rattle.ipc_arrays.specs.Encoding.{normalized_slice, normalized, normalized_each, normalized_all, sparse_begin, own_buffers, field_node_of, preorder, preorder_all, buffers_of, written_arrays, each_window, whole_windows, windows_below, is_supported, RoundTrip}
use Rattle.ipc_arrays.specs.EncodingLaws.{OwnBuffersRoundTrip}

-- values with the same slots, and the same type once extensions are resolved
pub record AreSameValues (c d : Layout) : Type 0 where
  pub logical : logical_type (layout_type d) ≡ logical_type (layout_type c)
  pub slots : slots_of d ≡ slots_of c

-- the slots of c are a prefix of those of d, and the types are the same once extensions are resolved
pub record IsExtendedBy (c d : Layout) : Type 0 where
  pub logical : logical_type (layout_type d) ≡ logical_type (layout_type c)
  pub more : List Slot
  pub slots : slots_of d ≡ slots_of c ++ more

pub grown_same : (c d : Layout) → AreSameValues c d → IsExtendedBy c d
grown_same c d h = record { logical = h.logical; more = []; slots = h.slots ∙ sym (append-nil (slots_of c)) }

-- b is a, except that its dictionary values extend those of a
abbrev mutual
  pub IsSameUpToValues : Layout → Layout → Type 0
  IsSameUpToValues (fixed_size_list t c va) b = (d : Layout) × (b ≡ fixed_size_list t d va) × IsSameUpToValues c d
  IsSameUpToValues (list_of large t os c va) b = (d : Layout) × (b ≡ list_of large t os d va) × IsSameUpToValues c d
  IsSameUpToValues (map_of t os c va) b = (d : Layout) × (b ≡ map_of t os d va) × IsSameUpToValues c d
  IsSameUpToValues (struct t cs va) b = (ds : Layouts) × (b ≡ struct t ds va) × EachSameUpToValues cs ds
  IsSameUpToValues (union t ks cs os start) b = (ds : Layouts) × (b ≡ union t ks ds os start) × EachSameUpToValues cs ds
  IsSameUpToValues (dictionary t ks c) b = (d : Layout) × (b ≡ dictionary t ks d) × IsExtendedBy c d
  IsSameUpToValues a b = b ≡ a

  pub EachSameUpToValues : Layouts → Layouts → Type 0
  EachSameUpToValues no_layouts no_layouts = Unit {0}
  EachSameUpToValues no_layouts (more_layouts d ds) = ⊥
  EachSameUpToValues (more_layouts c cs) no_layouts = ⊥
  EachSameUpToValues (more_layouts c cs) (more_layouts d ds) = IsSameUpToValues c d × EachSameUpToValues cs ds

abbrev pub AreSameUpToValues : List Layout → List Layout → Type 0
AreSameUpToValues [] [] = Unit {0}
AreSameUpToValues [] (b ∷ others) = ⊥
AreSameUpToValues (a ∷ columns) [] = ⊥
AreSameUpToValues (a ∷ columns) (b ∷ others) = IsSameUpToValues a b × AreSameUpToValues columns others

-- columns with the same types, field nodes and buffers
pub record AreEncodedAlike (columns others : List Layout) : Type 0 where
  pub types : map layout_type others ≡ map layout_type columns
  pub nodes : map field_node_of (written_arrays others) ≡ map field_node_of (written_arrays columns)
  pub buffers : buffers_of (written_arrays others) ≡ buffers_of (written_arrays columns)

-- ---- one level

pub grown_long : (c d : Layout) → IsExtendedBy c d → len c ≤ len d
grown_long c d h = omega (arith, slots-length c, slots-length d, ap length h.slots, length-append (slots_of c) h.more)

type_alike : (a b : Layout) → IsSameUpToValues a b → layout_type b ≡ layout_type a
type_alike (fixed_size_list t c va) b h = ap layout_type h.1
type_alike (list_of large t os c va) b h = ap layout_type h.1
type_alike (map_of t os c va) b h = ap layout_type h.1
type_alike (struct t cs va) b h = ap layout_type h.1
type_alike (union t ks cs os start) b h = ap layout_type h.1
type_alike (dictionary t ks c) b h = ap layout_type h.1
type_alike a b h = ap layout_type h

mutual
  pub len_alike : (a b : Layout) → IsSameUpToValues a b → len b ≡ len a
  len_alike (fixed_size_list t c va) b h = ap len h.1 ∙ ap (λ (m : ℕ). m / size_of t) (len_alike c h.0 h.2)
  len_alike (list_of large t os c va) b h = ap len h.1
  len_alike (map_of t os c va) b h = ap len h.1
  len_alike (struct t cs va) b h = ap len h.1 ∙ first_alike cs h.0 h.2
  len_alike (union t ks cs os start) b h = ap len h.1
  len_alike (dictionary t ks c) b h = ap len h.1
  len_alike a b h = ap len h

  first_alike : (cs ds : Layouts) → EachSameUpToValues cs ds → first_len ds ≡ first_len cs
  first_alike no_layouts no_layouts h = refl
  first_alike no_layouts (more_layouts d ds) h = absurd h
  first_alike (more_layouts c cs) no_layouts h = absurd h
  first_alike (more_layouts c cs) (more_layouts d ds) h = len_alike c d h.0

null_alike : (a b : Layout) (i : ℕ) → IsSameUpToValues a b → is_null_at b i ≡ is_null_at a i
null_alike (fixed_size_list t c va) b i h = ap (λ (x : Layout). is_null_at x i) h.1
null_alike (list_of large t os c va) b i h = ap (λ (x : Layout). is_null_at x i) h.1
null_alike (map_of t os c va) b i h = ap (λ (x : Layout). is_null_at x i) h.1
null_alike (struct t cs va) b i h = ap (λ (x : Layout). is_null_at x i) h.1
null_alike (union t ks cs os start) b i h = ap (λ (x : Layout). is_null_at x i) h.1
null_alike (dictionary t ks c) b i h = ap (λ (x : Layout). is_null_at x i) h.1
null_alike a b i h = ap (λ (x : Layout). is_null_at x i) h

node_alike : (a b : Layout) → IsSameUpToValues a b → field_node_of b ≡ field_node_of a
node_alike a b h = λ w. record { length = pos (len_alike a b h w); null_count = pos (count_by (λ i. null_alike a b i h w) (range_with_len 0 (len_alike a b h w))) }

own_alike : (a b : Layout) → IsSameUpToValues a b → own_buffers b ≡ own_buffers a
own_alike (fixed_size_list t c va) b h = ap own_buffers h.1
own_alike (list_of large t os c va) b h = ap own_buffers h.1
own_alike (map_of t os c va) b h = ap own_buffers h.1
own_alike (struct t cs va) b h = ap own_buffers h.1
own_alike (union t ks cs None start) b h = ap own_buffers h.1
own_alike (union t ks cs (Some os) start) b h = ap own_buffers h.1
own_alike (dictionary t ks c) b h = ap own_buffers h.1
own_alike a b h = ap own_buffers h

form_alike : (a b : Layout) → IsSameUpToValues a b → is_supported b ≡ is_supported a
form_alike (fixed_size_list t c va) b h = ap is_supported h.1
form_alike (list_of large t os c va) b h = ap is_supported h.1
form_alike (map_of t os c va) b h = ap is_supported h.1
form_alike (struct t cs va) b h = ap is_supported h.1
form_alike (union t ks cs os start) b h = ap is_supported h.1
form_alike (dictionary t ks c) b h = ap is_supported h.1
form_alike a b h = ap is_supported h

round_trip_alike : (a b : Layout) (o n : ℕ) → IsSameUpToValues a b → OwnBuffersRoundTrip a o n → OwnBuffersRoundTrip b o n
round_trip_alike (fixed_size_list t c va) b o n h round_trips = subst (λ (x : Layout). OwnBuffersRoundTrip x o n) (sym h.1) round_trips
round_trip_alike (list_of large t os c va) b o n h round_trips = subst (λ (x : Layout). OwnBuffersRoundTrip x o n) (sym h.1) round_trips
round_trip_alike (map_of t os c va) b o n h round_trips = subst (λ (x : Layout). OwnBuffersRoundTrip x o n) (sym h.1) round_trips
round_trip_alike (struct t cs va) b o n h round_trips = subst (λ (x : Layout). OwnBuffersRoundTrip x o n) (sym h.1) round_trips
round_trip_alike (union t ks cs os start) b o n h round_trips = subst (λ (x : Layout). OwnBuffersRoundTrip x o n) (sym h.1) round_trips
round_trip_alike (dictionary t ks c) b o n h round_trips = subst (λ (x : Layout). OwnBuffersRoundTrip x o n) (sym h.1) round_trips
round_trip_alike a b o n h round_trips = subst (λ (x : Layout). OwnBuffersRoundTrip x o n) (sym h) round_trips

-- ---- they are written as the same bytes

mutual
  normalized_alike : (a b : Layout) (o n : ℕ) → IsSameUpToValues a b → IsSameUpToValues (normalized_slice a o n) (normalized_slice b o n)
  normalized_alike (fixed_size_list t c va) b o n h = (normalized_slice h.0 (o * size_of t) (n * size_of t), ap (λ (x : Layout). normalized_slice x o n) h.1, normalized_alike c h.0 (o * size_of t) (n * size_of t) h.2)
  normalized_alike (list_of large t os c va) b o n h =
      (normalized_slice h.0 (begin os o) (begin os (o + n) - begin os o), ap (λ (x : Layout). normalized_slice x o n) h.1, normalized_alike c h.0 (begin os o) (begin os (o + n) - begin os o) h.2)
  normalized_alike (map_of t os c va) b o n h =
      (normalized_slice h.0 (begin os o) (begin os (o + n) - begin os o), ap (λ (x : Layout). normalized_slice x o n) h.1, normalized_alike c h.0 (begin os o) (begin os (o + n) - begin os o) h.2)
  normalized_alike (struct t cs va) b o n h = (normalized_each h.0 o n, ap (λ (x : Layout). normalized_slice x o n) h.1, each_alike cs h.0 o n h.2)
  normalized_alike (union t ks cs None start) b o n h = (normalized_each h.0 (sparse_begin start o n) n, ap (λ (x : Layout). normalized_slice x o n) h.1, each_alike cs h.0 (sparse_begin start o n) n h.2)
  normalized_alike (union t ks cs (Some os) start) b o n h = (normalized_all h.0, ap (λ (x : Layout). normalized_slice x o n) h.1, all_alike cs h.0 h.2)
  normalized_alike (dictionary t ks c) b o n h = (h.0, ap (λ (x : Layout). normalized_slice x o n) h.1, h.2)
  normalized_alike a b o n h = ap (λ (x : Layout). normalized_slice x o n) h

  each_alike : (cs ds : Layouts) (o n : ℕ) → EachSameUpToValues cs ds → EachSameUpToValues (normalized_each cs o n) (normalized_each ds o n)
  each_alike no_layouts no_layouts o n h = tt
  each_alike no_layouts (more_layouts d ds) o n h = absurd h
  each_alike (more_layouts c cs) no_layouts o n h = absurd h
  each_alike (more_layouts c cs) (more_layouts d ds) o n h = (normalized_alike c d o n h.0, each_alike cs ds o n h.1)

  all_alike : (cs ds : Layouts) → EachSameUpToValues cs ds → EachSameUpToValues (normalized_all cs) (normalized_all ds)
  all_alike no_layouts no_layouts h = tt
  all_alike no_layouts (more_layouts d ds) h = absurd h
  all_alike (more_layouts c cs) no_layouts h = absurd h
  all_alike (more_layouts c cs) (more_layouts d ds) h =
      (subst (λ (m : ℕ). IsSameUpToValues (normalized_slice c 0 (len c)) (normalized_slice d 0 m)) (sym (len_alike c d h.0)) (normalized_alike c d 0 (len c) h.0), all_alike cs ds h.1)

alike_append : (xs ys zs ws : List Layout) → AreSameUpToValues xs ys → AreSameUpToValues zs ws → AreSameUpToValues (xs ++ zs) (ys ++ ws)
alike_append [] [] zs ws h g = g
alike_append [] (y ∷ ys) zs ws h g = absurd h
alike_append (x ∷ xs) [] zs ws h g = absurd h
alike_append (x ∷ xs) (y ∷ ys) zs ws h g = (h.0, alike_append xs ys zs ws h.1 g)

mutual
  arrays_alike : (a b : Layout) → IsSameUpToValues a b → AreSameUpToValues (preorder a) (preorder b)
  arrays_alike (fixed_size_list t c va) b h = subst (λ (x : Layout). AreSameUpToValues (preorder (fixed_size_list t c va)) (preorder x)) (sym h.1) ((h.0, refl, h.2), arrays_alike c h.0 h.2)
  arrays_alike (list_of large t os c va) b h = subst (λ (x : Layout). AreSameUpToValues (preorder (list_of large t os c va)) (preorder x)) (sym h.1) ((h.0, refl, h.2), arrays_alike c h.0 h.2)
  arrays_alike (map_of t os c va) b h = subst (λ (x : Layout). AreSameUpToValues (preorder (map_of t os c va)) (preorder x)) (sym h.1) ((h.0, refl, h.2), arrays_alike c h.0 h.2)
  arrays_alike (struct t cs va) b h = subst (λ (x : Layout). AreSameUpToValues (preorder (struct t cs va)) (preorder x)) (sym h.1) ((h.0, refl, h.2), all_arrays_alike cs h.0 h.2)
  arrays_alike (union t ks cs os start) b h = subst (λ (x : Layout). AreSameUpToValues (preorder (union t ks cs os start)) (preorder x)) (sym h.1) ((h.0, refl, h.2), all_arrays_alike cs h.0 h.2)
  arrays_alike (dictionary t ks c) b h = subst (λ (x : Layout). AreSameUpToValues (preorder (dictionary t ks c)) (preorder x)) (sym h.1) ((h.0, refl, h.2), tt)
  arrays_alike a b h = subst (λ (x : Layout). AreSameUpToValues (preorder a) (preorder x)) (sym h) (refl, tt)

  all_arrays_alike : (cs ds : Layouts) → EachSameUpToValues cs ds → AreSameUpToValues (preorder_all cs) (preorder_all ds)
  all_arrays_alike no_layouts no_layouts h = tt
  all_arrays_alike no_layouts (more_layouts d ds) h = absurd h
  all_arrays_alike (more_layouts c cs) no_layouts h = absurd h
  all_arrays_alike (more_layouts c cs) (more_layouts d ds) h = alike_append (preorder c) (preorder d) (preorder_all cs) (preorder_all ds) (arrays_alike c d h.0) (all_arrays_alike cs ds h.1)

all_written_alike : (columns others : List Layout) → AreSameUpToValues columns others → AreSameUpToValues (written_arrays columns) (written_arrays others)
unfolding written_arrays
all_written_alike [] [] h = tt
all_written_alike [] (b ∷ others) h = absurd h
all_written_alike (a ∷ columns) [] h = absurd h
all_written_alike (a ∷ columns) (b ∷ others) h =
    let whole : IsSameUpToValues (normalized a) (normalized b) = subst (λ (m : ℕ). IsSameUpToValues (normalized a) (normalized_slice b 0 m)) (sym (len_alike a b h.0)) (normalized_alike a b 0 (len a) h.0) in
    alike_append (preorder (normalized a)) (preorder (normalized b)) (written_arrays columns) (written_arrays others) (arrays_alike (normalized a) (normalized b) whole) (all_written_alike columns others h.1)

nodes_alike : (xs ys : List Layout) → AreSameUpToValues xs ys → map field_node_of ys ≡ map field_node_of xs
nodes_alike [] [] h = refl
nodes_alike [] (y ∷ ys) h = absurd h
nodes_alike (x ∷ xs) [] h = absurd h
nodes_alike (x ∷ xs) (y ∷ ys) h = λ w. node_alike x y h.0 w ∷ nodes_alike xs ys h.1 w

buffers_alike : (xs ys : List Layout) → AreSameUpToValues xs ys → buffers_of ys ≡ buffers_of xs
buffers_alike [] [] h = refl
buffers_alike [] (y ∷ ys) h = absurd h
buffers_alike (x ∷ xs) [] h = absurd h
buffers_alike (x ∷ xs) (y ∷ ys) h = buffers_more y ys ∙ (λ w. own_alike x y h.0 w ++ buffers_alike xs ys h.1 w) ∙ sym (buffers_more x xs)

types_alike : (xs ys : List Layout) → AreSameUpToValues xs ys → map layout_type ys ≡ map layout_type xs
types_alike [] [] h = refl
types_alike [] (y ∷ ys) h = absurd h
types_alike (x ∷ xs) [] h = absurd h
types_alike (x ∷ xs) (y ∷ ys) h = λ w. type_alike x y h.0 w ∷ types_alike xs ys h.1 w

pub written_alike : (columns others : List Layout) → AreSameUpToValues columns others → AreEncodedAlike columns others
written_alike columns others h =
    let arrays = all_written_alike columns others h in
    record { types = types_alike columns others h; nodes = nodes_alike (written_arrays columns) (written_arrays others) arrays; buffers = buffers_alike (written_arrays columns) (written_arrays others) arrays }

-- ---- invariants of layouts

each_type : (fs : FieldTrees) (cs ds : Layouts) → EachSameUpToValues cs ds → EachType fs cs → EachType fs ds
each_type fs no_layouts no_layouts h typed = typed
each_type fs no_layouts (more_layouts d ds) h typed = absurd h
each_type fs (more_layouts c cs) no_layouts h typed = absurd h
each_type no_fields (more_layouts c cs) (more_layouts d ds) h typed = typed
each_type (more_fields f fs) (more_layouts c cs) (more_layouts d ds) h typed = (type_alike c d h.0 ∙ typed.0, each_type fs cs ds h.1 typed.1)

each_count : (cs ds : Layouts) → EachSameUpToValues cs ds → count_layouts ds ≡ count_layouts cs
each_count no_layouts no_layouts h = refl
each_count no_layouts (more_layouts d ds) h = absurd h
each_count (more_layouts c cs) no_layouts h = absurd h
each_count (more_layouts c cs) (more_layouts d ds) h = omega (arith, each_count cs ds h.1)

each_long : (cs ds : Layouts) (n : ℕ) → EachSameUpToValues cs ds → EachLen cs n → EachLen ds n
each_long no_layouts no_layouts n h long = tt
each_long no_layouts (more_layouts d ds) n h long = absurd h
each_long (more_layouts c cs) no_layouts n h long = absurd h
each_long (more_layouts c cs) (more_layouts d ds) n h long = (len_alike c d h.0 ∙ long.0, each_long cs ds n h.1 long.1)

each_covers : (cs ds : Layouts) (n : ℕ) → EachSameUpToValues cs ds → EachCovers cs n → EachCovers ds n
each_covers no_layouts no_layouts n h covers = tt
each_covers no_layouts (more_layouts d ds) n h covers = absurd h
each_covers (more_layouts c cs) no_layouts n h covers = absurd h
each_covers (more_layouts c cs) (more_layouts d ds) n h covers = (subst (λ (m : ℕ). n ≤ m) (sym (len_alike c d h.0)) covers.0, each_covers cs ds n h.1 covers.1)

child_alike : (cs ds : Layouts) (f : Option ℕ) → EachSameUpToValues cs ds → child_len ds f ≡ child_len cs f
child_alike no_layouts no_layouts f h = refl
child_alike no_layouts (more_layouts d ds) f h = absurd h
child_alike (more_layouts c cs) no_layouts f h = absurd h
child_alike (more_layouts c cs) (more_layouts d ds) None h = refl
child_alike (more_layouts c cs) (more_layouts d ds) (Some zero) h = len_alike c d h.0
child_alike (more_layouts c cs) (more_layouts d ds) (Some (suc f)) h = child_alike cs ds (Some f) h.1

slots_there : (ids : Option (List ℤ)) (ks : List ℤ) (cs ds : Layouts) (os : Option (List ℤ)) (start : ℕ) → EachSameUpToValues cs ds → SlotsThere ids ks cs os start → SlotsThere ids ks ds os start
slots_there ids ks cs ds None start h there = each_covers cs ds (start + length ks) h there
slots_there ids ks cs ds (Some os) start h there =
    λ i lt. subst (Names (get_or os i (pos 0))) (sym (child_alike cs ds (field_named ids (get_or ks i (pos 0))) h)) (there i lt)

logically_alike : (u : Option TypeTree) (s t : TypeTree) → logical_type t ≡ logical_type s → IsLogically u s → IsLogically u t
logically_alike None s t e h = h
logically_alike (Some u) s t e h = e ∙ h

names_more : (z : ℤ) (m n : ℕ) → m ≤ n → Names z m → Names z n
names_more (pos k) m n le h = omega (arith, le, h)
names_more (negsuc k) m n le h = absurd h

fits_alike : (a b : Layout) → IsSameUpToValues a b → TopFits a → TopFits b
fits_alike (fixed_size_list t c va) b h fits =
    let f = fits.1 in
    let type : layout_type c ≡ layout_type h.0 = sym (type_alike c h.0 h.2) in
    let long : len c ≡ len h.0 = sym (len_alike c h.0 h.2) in
    subst TopFits (sym h.1)
    (tt, (f.0, (f.1.0, (f.1.1.0 ∙ ap (λ (u : TypeTree). Some u) type, (subst (λ (m : ℕ). m % size_of t ≡ 0) long f.1.1.1.0, (subst (λ (m : ℕ). ValidityFits va (m / size_of t)) long f.1.1.1.1.0, tt))))))
fits_alike (list_of large t os c va) b h fits =
    let f = fits.1 in
    let type : layout_type c ≡ layout_type h.0 = sym (type_alike c h.0 h.2) in
    let long : len c ≡ len h.0 = sym (len_alike c h.0 h.2) in
    subst TopFits (sym h.1) (fits.0, (subst (λ (m : ℕ). last_of os ≤ m) long f.0, (f.1.0, (f.1.1.0, (f.1.1.1.0 ∙ ap (λ (u : TypeTree). Some u) type, tt)))))
fits_alike (map_of t os c va) b h fits =
    let f = fits.1 in
    let type : layout_type c ≡ layout_type h.0 = sym (type_alike c h.0 h.2) in
    let long : len c ≡ len h.0 = sym (len_alike c h.0 h.2) in
    subst TopFits (sym h.1) (fits.0, (subst (λ (m : ℕ). last_of os ≤ m) long f.0, (f.1.0, (f.1.1.0, (f.1.1.1.0 ∙ ap (λ (u : TypeTree). Some u) type, (f.1.1.1.1.0, tt))))))
fits_alike (struct t cs va) b h fits =
    let f = fits.1 in
    let first : first_len cs ≡ first_len h.0 = sym (first_alike cs h.0 h.2) in
    subst TopFits (sym h.1) (
      tt,
      (
        f.0,
        (
          f.1.0,
          (
            each_count cs h.0 h.2 ∙ f.1.1.0,
            (each_type (fields_of t) cs h.0 h.2 f.1.1.1.0, (subst (EachLen h.0) first (each_long cs h.0 (first_len cs) h.2 f.1.1.1.1.0), (subst (ValidityFits va) first f.1.1.1.1.1.0, tt))),
          ),
        ),
      ),
    )
fits_alike (union t ks cs os start) b h fits =
    let f = fits.1 in
    let count : count_layouts cs ≡ count_layouts h.0 = sym (each_count cs h.0 h.2) in
    let g = f.1.1.1.1.1.1 in
    subst TopFits (sym h.1) (
      tt,
      (
        f.0,
        (
          sym count ∙ f.1.0,
          (
            subst (λ (m : ℕ). m ≤ most_fields) count f.1.1.0,
            (
              each_type (fields_of t) cs h.0 h.2 f.1.1.1.0,
              (
                f.1.1.1.1.0,
                (f.1.1.1.1.1.0, (subst (IdsCount (ids_of t)) count g.0, (g.1.0, (subst (EachMeansField (ids_of t) ks) count g.1.1.0, (slots_there (ids_of t) ks cs h.0 os start h.2 g.1.1.1.0, tt))))),
              ),
            ),
          ),
        ),
      ),
    )
fits_alike (dictionary t ks c) b h fits =
    let f = fits.1 in
    let long : len c ≤ len h.0 = grown_long c h.0 h.2 in
    let named : EachValidNames (validity_of ks) ks (len h.0) = λ i lt valid. names_more (key_at ks i) (len c) (len h.0) long (f.1.1.1 i lt valid) in
    subst TopFits (sym h.1) (fits.0, (f.0, (f.1.0, (logically_alike (value_type t) (layout_type c) (layout_type h.0) h.2.logical f.1.1.0, named))))
fits_alike a b h fits = subst TopFits (sym h) fits

-- ---- the same slots

-- the slots of a window do not change when dictionary values are extended
abbrev HasSameSlots : WindowParts → Type 0
HasSameSlots w = (b : Layout) → IsSameUpToValues w.array b → (i : ℕ) → i < w.count → slot b (w.offset + i) ≡ slot w.array (w.offset + i)

-- the items of a list
row_alike : (os : List ℕ) (c d : Layout) (o n i : ℕ) → AreOffsets os → o + n ≤ count_rows os → IsSameUpToValues c d → HasSameSlots (window_parts c (begin os o) (begin os (o + n) - begin os o)) → i < n
    → run (slot d) (begin os (o + i)) (extent os (o + i)) ≡ run (slot c) (begin os (o + i)) (extent os (o + i))
row_alike os c d o n i are le h items lt =
    let rise = (are_within os o n are le).rise in
    let next : o + (i + 1) ≡ o + i + 1 = omega arith in
    let zero_is : o + 0 ≡ o = omega arith in
    let low : begin os o ≤ begin os (o + i) = omega (arith, rise 0 i (omega arith) (omega arith), ap (λ (k : ℕ). begin os k) zero_is) in
    let mid : begin os (o + i) ≤ begin os (o + i + 1) = omega (arith, rise i (i + 1) (omega arith) (omega arith), ap (λ (k : ℕ). begin os k) next) in
    let high : begin os (o + i + 1) ≤ begin os (o + n) = omega (arith, rise (i + 1) n (omega arith) (omega arith), ap (λ (k : ℕ). begin os k) next) in
    run-ext (slot d) (slot c) (begin os (o + i)) (begin os (o + i)) (extent os (o + i))
    (λ j k.
    let e : begin os o + (begin os (o + i) - begin os o + j) ≡ begin os (o + i) + j = omega (arith, low) in
    ap (slot d) (sym e) ∙ items d h (begin os (o + i) - begin os o + j) (omega (arith, k, low, mid, high)) ∙ ap (slot c) e)

sized_alike : (c d : Layout) (size o n i : ℕ) → IsSameUpToValues c d → HasSameSlots (window_parts c (o * size) (n * size)) → i < n → run (slot d) ((o + i) * size) size ≡ run (slot c) ((o + i) * size) size
sized_alike c d size o n i h items lt =
    run-ext (slot d) (slot c) ((o + i) * size) ((o + i) * size) size
    (λ j k.
    let e : o * size + (i * size + j) ≡ (o + i) * size + j = omega (arith, product-sum o i size) in
    ap (slot d) (sym e) ∙ items d h (i * size + j) (product-within i j n size lt k) ∙ ap (slot c) e)

each_same : (cs ds : Layouts) (o n i : ℕ) → EachSameUpToValues cs ds → AllByRecursion HasSameSlots (each_window cs o n) → i < n → each ds (o + i) ≡ each cs (o + i)
each_same no_layouts no_layouts o n i h all lt = refl
each_same no_layouts (more_layouts d ds) o n i h all lt = absurd h
each_same (more_layouts c cs) no_layouts o n i h all lt = absurd h
each_same (more_layouts c cs) (more_layouts d ds) o n i h all lt = λ w. slots.more_slots (all.0 d h.0 i lt w) (each_same cs ds o n i h.1 all.1 lt w)

picked_same : (f : ℕ) (cs ds : Layouts) (b n k i : ℕ) → EachSameUpToValues cs ds → AllByRecursion HasSameSlots (each_window cs b n) → i < n → picked f ds k (b + i) ≡ picked f cs k (b + i)
picked_same f no_layouts no_layouts b n k i h all lt = refl
picked_same f no_layouts (more_layouts d ds) b n k i h all lt = absurd h
picked_same f (more_layouts c cs) no_layouts b n k i h all lt = absurd h
picked_same f (more_layouts c cs) (more_layouts d ds) b n zero i h all lt = λ w. slots.pick f (type_alike c d h.0 w) (all.0 d h.0 i lt w)
picked_same f (more_layouts c cs) (more_layouts d ds) b n (suc k) i h all lt = picked_same f cs ds b n k i h.1 all.1 lt

picked_there : (f : ℕ) (cs ds : Layouts) (k p : ℕ) → EachSameUpToValues cs ds → AllByRecursion HasSameSlots (whole_windows cs) → p < child_len cs (Some k) → picked f ds k p ≡ picked f cs k p
picked_there f no_layouts no_layouts k p h all lt = refl
picked_there f no_layouts (more_layouts d ds) k p h all lt = absurd h
picked_there f (more_layouts c cs) no_layouts k p h all lt = absurd h
picked_there f (more_layouts c cs) (more_layouts d ds) zero p h all lt =
    let e : 0 + p ≡ p = omega arith in
    λ w. slots.pick f (type_alike c d h.0 w) ((ap (slot d) (sym e) ∙ all.0 d h.0 p lt ∙ ap (slot c) e) w)
picked_there f (more_layouts c cs) (more_layouts d ds) (suc k) p h all lt = picked_there f cs ds k p h.1 all.1 lt

value_same : (c d : Layout) (p : ℕ) → IsExtendedBy c d → p < len c → slot d p ≡ slot c p
value_same c d p h lt =
    let inside : p < length (slots_of c) = omega (arith, slots-length c) in
    let there : p < len d = omega (arith, grown_long c d h) in
    sym (slot-place d p slots.null there)
    ∙ ap (λ (ss : List Slot). get_or ss p slots.null) h.slots
    ∙ get_or_append_left (slots_of c) h.more slots.null p inside
    ∙ slot-place c p slots.null lt

pub same_where_valid : (b : Bool) (x y : Slot) → (b ≡ true → x ≡ y) → (if b then x else slots.null) ≡ (if b then y else slots.null)
same_where_valid true x y h = h refl
same_where_valid false x y h = refl

slot_alike : (a b : Layout) (o n i : ℕ) → TopFits a → o + n ≤ len a → IsSameUpToValues a b → AllByRecursion HasSameSlots (windows_below a o n) → i < n → slot b (o + i) ≡ slot a (o + i)
slot_alike (fixed_size_list t c va) b o n i fits le h all lt =
    ap (λ (x : Layout). slot x (o + i)) h.1
    ∙ (λ w. if valid_at va (o + i) then slots.list (seal (sized_alike c h.0 (size_of t) o n i h.2 all.0 lt w)) else slots.null)
slot_alike (list_of large t os c va) b o n i fits le h all lt =
    ap (λ (x : Layout). slot x (o + i)) h.1
    ∙ (λ w. if valid_at va (o + i) then slots.list (seal (row_alike os c h.0 o n i fits.0 le h.2 all.0 lt w)) else slots.null)
slot_alike (map_of t os c va) b o n i fits le h all lt =
    ap (λ (x : Layout). slot x (o + i)) h.1
    ∙ (λ w. if valid_at va (o + i) then slots.list (seal (row_alike os c h.0 o n i fits.0 le h.2 all.0 lt w)) else slots.null)
slot_alike (struct t cs va) b o n i fits le h all lt =
    ap (λ (x : Layout). slot x (o + i)) h.1
    ∙ (λ w. if valid_at va (o + i) then slots.record_of (each_same cs h.0 o n i h.2 all lt w) else slots.null)
slot_alike (union t ks cs None start) b o n i fits le h all lt =
    let from : ℕ = sparse_begin start o n in
    let e : from + i ≡ start + (o + i) = omega (arith, some_begin start o n (omega arith)) in
    let type : ℤ = get_or ks (o + i) (pos 0) in
    ap (λ (x : Layout). slot x (o + i)) h.1
    ∙ of_same (field_named (ids_of t) type) (λ f. picked f h.0 f (start + (o + i))) (λ f. picked f cs f (start + (o + i)))
    (λ f m. ap (picked f h.0 f) (sym e) ∙ picked_same f cs h.0 from n f i h.2 all lt ∙ ap (picked f cs f) e)
slot_alike (union t ks cs (Some os) start) b o n i fits le h all lt =
    let type : ℤ = get_or ks (o + i) (pos 0) in
    let offset : ℤ = get_or os (o + i) (pos 0) in
    let there = fits.1.1.1.1.1.1.1.1.1.1.0 in
    ap (λ (x : Layout). slot x (o + i)) h.1
    ∙ of_same (field_named (ids_of t) type) (λ f. picked f h.0 f (to_index offset)) (λ f. picked f cs f (to_index offset))
    (λ f m. picked_there f cs h.0 f (to_index offset) h.2 all (place_named offset (child_len cs (Some f)) (subst (λ (k : Option ℕ). Names offset (child_len cs k)) m (there (o + i) (omega arith)))))
slot_alike (dictionary t ks c) b o n i fits le h all lt =
    let key : ℤ = key_at ks (o + i) in
    ap (λ (x : Layout). slot x (o + i)) h.1
    ∙ same_where_valid (valid_at (validity_of ks) (o + i)) (slot h.0 (to_index key)) (slot c (to_index key))
    (λ valid. value_same c h.0 (to_index key) h.2 (place_named key (len c) (fits.1.1.1.1 (o + i) (omega arith) valid)))
slot_alike a b o n i fits le h all lt = ap (λ (x : Layout). slot x (o + i)) h

-- ---- round trips

-- over any extension of its dictionary values, a window round-trips with the same slots
pub record WindowRoundTripsOverExtensions (w : WindowParts) : Type 0 where
  pub read : (b : Layout) → IsSameUpToValues w.array b → WindowRoundTrips (window_parts b w.offset w.count)
  pub same : HasSameSlots w

all_same_slots : (ws : List WindowParts) → AllByRecursion WindowRoundTripsOverExtensions ws → AllByRecursion HasSameSlots ws
all_same_slots [] all = tt
all_same_slots (w ∷ ws) all = (all.0.same, all_same_slots ws all.1)

each_below : (cs ds : Layouts) (o n : ℕ) → EachSameUpToValues cs ds → AllByRecursion WindowRoundTripsOverExtensions (each_window cs o n) → AllByRecursion WindowRoundTrips (each_window ds o n)
each_below no_layouts no_layouts o n h all = tt
each_below no_layouts (more_layouts d ds) o n h all = absurd h
each_below (more_layouts c cs) no_layouts o n h all = absurd h
each_below (more_layouts c cs) (more_layouts d ds) o n h all = (all.0.read d h.0, each_below cs ds o n h.1 all.1)

whole_below : (cs ds : Layouts) → EachSameUpToValues cs ds → AllByRecursion WindowRoundTripsOverExtensions (whole_windows cs) → AllByRecursion WindowRoundTrips (whole_windows ds)
whole_below no_layouts no_layouts h all = tt
whole_below no_layouts (more_layouts d ds) h all = absurd h
whole_below (more_layouts c cs) no_layouts h all = absurd h
whole_below (more_layouts c cs) (more_layouts d ds) h all = (subst (λ (m : ℕ). WindowRoundTrips (window_parts d 0 m)) (sym (len_alike c d h.0)) (all.0.read d h.0), whole_below cs ds h.1 all.1)

below_alike : (a b : Layout) (o n : ℕ) → IsSameUpToValues a b → AllByRecursion WindowRoundTripsOverExtensions (windows_below a o n) → AllByRecursion WindowRoundTrips (windows_below b o n)
below_alike (fixed_size_list t c va) b o n h all = subst (λ (x : Layout). AllByRecursion WindowRoundTrips (windows_below x o n)) (sym h.1) (all.0.read h.0 h.2, tt)
below_alike (list_of large t os c va) b o n h all = subst (λ (x : Layout). AllByRecursion WindowRoundTrips (windows_below x o n)) (sym h.1) (all.0.read h.0 h.2, tt)
below_alike (map_of t os c va) b o n h all = subst (λ (x : Layout). AllByRecursion WindowRoundTrips (windows_below x o n)) (sym h.1) (all.0.read h.0 h.2, tt)
below_alike (struct t cs va) b o n h all = subst (λ (x : Layout). AllByRecursion WindowRoundTrips (windows_below x o n)) (sym h.1) (each_below cs h.0 o n h.2 all)
below_alike (union t ks cs None start) b o n h all = subst (λ (x : Layout). AllByRecursion WindowRoundTrips (windows_below x o n)) (sym h.1) (each_below cs h.0 (sparse_begin start o n) n h.2 all)
below_alike (union t ks cs (Some os) start) b o n h all = subst (λ (x : Layout). AllByRecursion WindowRoundTrips (windows_below x o n)) (sym h.1) (whole_below cs h.0 h.2 all)
below_alike (dictionary t ks c) b o n h all = subst (λ (x : Layout). AllByRecursion WindowRoundTrips (windows_below x o n)) (sym h.1) tt
below_alike a b o n h all = subst (λ (x : Layout). AllByRecursion WindowRoundTrips (windows_below x o n)) (sym h) tt

pub again_over : (a : Layout) (o n : ℕ) → TopFits a → is_supported a ≡ true → o + n ≤ len a → OwnBuffersRoundTrip a o n → AllByRecursion WindowRoundTripsOverExtensions (windows_below a o n) → WindowRoundTripsOverExtensions (window_parts a o n)
again_over a o n fits format le round_trips all =
    record {
      read = λ b h.
          let within : o + n ≤ len b = subst (λ (m : ℕ). o + n ≤ m) (sym (len_alike a b h)) le in
          again b o n (fits_alike a b h fits) (form_alike a b h ∙ format) within (round_trip_alike a b o n h round_trips) (below_alike a b o n h all);
      same = λ b h i lt. slot_alike a b o n i fits le h (all_same_slots (windows_below a o n) all) lt;
    }

each_whole : (xs : List AnyArray) (others : List Layout) → AreSameUpToValues (map layout_of xs) others → AllByRecursion WindowRoundTripsOverExtensions (whole_windows (layouts_of xs)) → AllByRecursion ColumnRoundTrips others
each_whole [] [] h all = tt
each_whole [] (b ∷ others) h all = absurd h
each_whole (x ∷ xs) [] h all = absurd h
each_whole (x ∷ xs) (b ∷ others) h all = (subst (λ (m : ℕ). WindowRoundTrips (window_parts b 0 m)) (sym (len_alike (layout_of x) b h.0)) (all.0.read b h.0), each_whole xs others h.1 all.1)

whole_same : (a b : Layout) → IsSameUpToValues a b → HasSameSlots (window_parts a 0 (len a)) → slots_of b ≡ slots_of a
whole_same a b h same = ap (run (slot b) 0) (len_alike a b h) ∙ run-ext (slot b) (slot a) 0 0 (len a) (λ i lt. same b h i lt)

slots_alike : (xs : List AnyArray) (others : List Layout) → AreSameUpToValues (map layout_of xs) others → AllByRecursion WindowRoundTripsOverExtensions (whole_windows (layouts_of xs)) → map slots_of others ≡ map slots_of (map layout_of xs)
slots_alike [] [] h all = refl
slots_alike [] (b ∷ others) h all = absurd h
slots_alike (x ∷ xs) [] h all = absurd h
slots_alike (x ∷ xs) (b ∷ others) h all = λ w. whole_same (layout_of x) b h.0 all.0.same w ∷ slots_alike xs others h.1 all.1 w

-- the other columns have the same slots, and round-trip
pub record RoundTripWithSameSlots (columns others : List Layout) : Type 0 where
  pub slots : map slots_of others ≡ map slots_of columns
  pub back : RoundTrip others

-- columns round-trip over any extension of their dictionary values
abbrev pub RoundTripOverExtensions : List Layout → Type 0
RoundTripOverExtensions columns = (others : List Layout) → AreSameUpToValues columns others → RoundTripWithSameSlots columns others

pub read_over : (xs : List AnyArray) → AllByRecursion WindowRoundTripsOverExtensions (whole_windows (layouts_of xs)) → RoundTripOverExtensions (map layout_of xs)
read_over xs all = λ others h. record { slots = slots_alike xs others h all; back = all_read_back others (each_whole xs others h all) }

-- ---- every array extends itself

values_same : (c : Layout) → IsExtendedBy c c
values_same c = grown_same c c (record { logical = refl; slots = refl })

mutual
  pub self_alike : (a : Layout) → IsSameUpToValues a a
  self_alike (fixed_size_list t c va) = (c, refl, self_alike c)
  self_alike (list_of large t os c va) = (c, refl, self_alike c)
  self_alike (map_of t os c va) = (c, refl, self_alike c)
  self_alike (struct t cs va) = (cs, refl, selves_alike cs)
  self_alike (union t ks cs os start) = (cs, refl, selves_alike cs)
  self_alike (dictionary t ks c) = (c, refl, values_same c)
  self_alike a = refl

  selves_alike : (cs : Layouts) → EachSameUpToValues cs cs
  selves_alike no_layouts = tt
  selves_alike (more_layouts c cs) = (self_alike c, selves_alike cs)

pub all_self_alike : (columns : List Layout) → AreSameUpToValues columns columns
all_self_alike [] = tt
all_self_alike (a ∷ columns) = (self_alike a, all_self_alike columns)
