-- Laws: null and empty arrays are arrays of their data type, and their slots are null slots.
use Rattle.std.specs.Prelude.{Option, Some, None, get_or, replicate, map, length, if◌then◌else◌, take, not, ◌&&◌, nat_eq, nat_lt}
use Rattle.std.specs.Ordering.{int_eq}
use Rattle.std.specs.List.{All, range_with_len}
use Rattle.std.specs.Str.{IsUtf8}
use Rattle.std.proofs.Common.{◌≡◌, ℕ, zero, suc, ◌+◌, ◌-◌, ◌*◌, ◌/◌, ◌%◌, ◌<◌, ◌≤◌, ℤ, pos, negsuc, Bool, true, false, List, [], ◌∷◌, refl, ap, sym, ◌∙◌, subst, arith}
use Rattle.std.proofs.Math.Nat.{mul-div_cancel}
use Rattle.std.proofs.Math.Seq.{take-nil, drop-nil}
use Rattle.std.proofs.lemmas.List.{get_or-replicate, length-replicate}
use Rattle.std.proofs.lemmas.Bool.Decides.{Decides-int_eq}
use Rattle.std.proofs.lemmas.List.Elements.{All-replicate, All-nil, All-cons}
use Rattle.std.proofs.lemmas.List.FromFn.{length-map-range_with_len, get_or-map-range_with_len}
use Rattle.std.proofs.lemmas.Str.{IsUtf8-nil}
use Rattle.nest_memory.specs.declared.datatypes.IntegerType.{IntegerType}
use Rattle.nest_memory.specs.declared.datatypes.IntegerType.TheVariants as integers
use Rattle.nest_memory.specs.declared.datatypes.UnionMode.{UnionMode}
use Rattle.nest_memory.specs.declared.datatypes.UnionMode.TheVariants as modes
use Rattle.nest_memory.specs.declared.datatypes.physical_type.PhysicalType.TheVariants as physical
use Rattle.nest_memory.specs.declared.datatypes.physical_type.PrimitiveType.{PrimitiveType}
use Rattle.nest_memory.specs.TypeTree as types
use Rattle.nest_memory.specs.TypeTree.{Letters, Entries, TypeTree, FieldTree, field, FieldTrees, no_fields, more_fields, field_type, count_fields, item_type, size_of, is_dense_mode, is_pair, has_pairs}
use Rattle.nest_memory.specs.Physical.{physical_type, list_of_width, binary_of_width, utf8_of_width}
use Rattle.nest_memory.specs.Sublist.{sublist}
use Rattle.nest_memory.specs.Rising.{last_of}
use Rattle.nest_model.specs.declared.fill.Fill.{Fill}
use Rattle.nest_model.specs.declared.fill.Fill.TheVariants.{Nulls, Nothing}
use Rattle.nest_model.specs.Part.{valid_at, begin, extent, count_rows, to_index, last_position, field_named}
use Rattle.nest_model.specs.Slot as slots
use Rattle.nest_model.specs.Slot.{Slot}
use Rattle.nest_model.specs.Layout.{Layout, Layouts, null, boolean, primitive, binary, utf8, fixed_size_binary, fixed_size_list, list, struct, union, dictionary, no_layouts, more_layouts, layout_type, count_layouts}
use Rattle.nest_model.specs.Layout as layouts
use Rattle.nest_model.specs.Accessors.{with_type, key_type_of}
use Rattle.nest_model.specs.Meaning.{run, len, first_len, union_index, slot, of_field, picked, slots_of}
use Rattle.nest_model.specs.Runs.{product-exact}
use Rattle.nest_model.specs.Fits.{Fits, ValidityFits, EachType, EachLen, EachCovers, Names, MeansField, EachMeansField, IdsCount, IdsInRange, OffsetsCount, OffsetsByMode, SlotsThere, child_len}
use Rattle.nest_model.specs.FitsLaws.{fits-keeps}
use Rattle.nest_model.specs.Array.{AreOffsets, AreKeys, PartsHold, ChildrenFit, AreArrays, IsArray}
use Rattle.nest_model.specs.Decide.{refuse-none, first-none, not-false}
use Rattle.nest_model.specs.Nulls.{values_below, Fills, null_field, null_slot, null_pick, null_slots, is_id, are_ids, ids_count_differs, has_bad_id, error_of, field_error, fields_error, type_error, empty_error}
use Rattle.nest_model.specs.NullLayout.{zero_value, native_of_key, type_of_key, none_valid, native_nulls, null_type, null_offsets, null_array, null_item, null_children, null_layout, empty_layout}
use Rattle.nest_model.specs.Checks.{most_fields, type_count}

-- The array has data type t and n null slots, and is valid at every level.
pub record IsNullArray (t : TypeTree) (n : ℕ) (a : Layout) : Type 0 where
  pub typed : layout_type a ≡ t
  pub long : len a ≡ n
  pub nulls : (i : ℕ) → i < n → slot a i ≡ null_slot t
  pub parts : PartsHold a
  pub fits : Fits a
  pub children : ChildrenFit a

-- Children of a struct or union, one for each field, with n null slots each.
pub record AreNullArrays (fs : FieldTrees) (n : ℕ) (cs : Layouts) : Type 0 where
  pub typed : EachType fs cs
  pub as_many : count_layouts cs ≡ count_fields fs
  pub long : EachLen cs n
  pub first_long : 0 < count_fields fs → first_len cs ≡ n
  pub picks : (f k i : ℕ) → k < count_fields fs → i < n → picked f cs k i ≡ null_pick f fs k
  pub arrays : AreArrays cs

pub is-array : (t : TypeTree) (n : ℕ) (a : Layout) → IsNullArray t n a → IsArray a
is-array t n a r = ((r.parts, fits-keeps a r.parts r.fits), r.children)

positive : (s : ℕ) → nat_eq s 0 ≡ false → 0 < s
positive zero h = cc
positive (suc s) h = omega arith

same-number : (m n : ℕ) → nat_eq m n ≡ true → m ≡ n
same-number m n h = grind (arith)

pub not-above : (m n : ℕ) → nat_lt m n ≡ false → n ≤ m
not-above m n h = grind (arith)

below : (m n : ℕ) → nat_lt m n ≡ true → m < n
below m n h = grind (arith)

-- No index is valid.
null-valid : (d : Fill) (n i : ℕ) → Fills d n → i < n → valid_at (none_valid d n) i ≡ false
null-valid Nulls n i h k = get_or-replicate n i false true k
null-valid Nothing n i h k = absurd (omega arith)

null-bits : (d : Fill) (n : ℕ) → ValidityFits (none_valid d n) n
null-bits Nulls n = length-replicate n false
null-bits Nothing n = tt

null-bits-at : (d : Fill) (n m : ℕ) → m ≡ n → ValidityFits (none_valid d n) m
null-bits-at d n m e = subst (ValidityFits (none_valid d n)) (sym e) (null-bits d n)

otherwise : (b : Bool) (s r : Slot) → b ≡ false → (if b then s else r) ≡ r
otherwise true s r h = cc
otherwise false s r h = refl

-- Offsets that are all 0.
zero-at : (n i : ℕ) → ◌≡◌ {A = ℕ} (get_or (replicate n 0) i 0) 0
zero-at zero i = refl
zero-at (suc n) zero = refl
zero-at (suc n) (suc i) = zero-at n i

zero-offsets : (n : ℕ) → AreOffsets (replicate (suc n) 0)
zero-offsets n = (
  (let e = length-replicate {A = ℕ} (suc n) 0 in omega arith),
  λ i j h k. let a = zero-at (suc n) i in let b = zero-at (suc n) j in omega arith,
)

zero-rows : (n : ℕ) → count_rows (replicate (suc n) 0) ≡ n
zero-rows n = let e = length-replicate {A = ℕ} (suc n) 0 in omega arith

zero-last : (n m : ℕ) → last_of (replicate (suc n) 0) ≤ m
zero-last n m = let e = zero-at (suc n) (length {A = ℕ} (replicate (suc n) 0) - 1) in omega arith

-- Flat arrays.
pub native-null : (k : PrimitiveType) (t : TypeTree) (n : ℕ) (d : Fill) → Fills d n → physical_type t ≡ physical.Primitive k → null_slot t ≡ slots.null → IsNullArray t n (native_nulls k t n d)
native-null k t n d h p e =
    let l = length-replicate n (zero_value k) in
    record {
      typed = refl;
      long = l;
      nulls = λ i j. otherwise (valid_at (none_valid d n) i) _ slots.null (null-valid d n i h j) ∙ sym e;
      parts = tt;
      fits = (null-bits-at d n (length (replicate n (zero_value k))) l, (p, tt));
      children = tt;
    }

binary-null : (large : Bool) (t : TypeTree) (n : ℕ) (d : Fill) → Fills d n → physical_type t ≡ binary_of_width large → null_slot t ≡ slots.null → IsNullArray t n (binary large t (replicate (suc n) 0) [] (none_valid d n))
binary-null large t n d h p e =
    record {
      typed = refl;
      long = zero-rows n;
      nulls = λ i j. otherwise (valid_at (none_valid d n) i) _ slots.null (null-valid d n i h j) ∙ sym e;
      parts = zero-offsets n;
      fits = (zero-last n 0, (null-bits-at d n (count_rows (replicate (suc n) 0)) (zero-rows n), (p, tt)));
      children = tt;
    }

text-null : (large : Bool) (t : TypeTree) (n : ℕ) (d : Fill) → Fills d n → physical_type t ≡ utf8_of_width large → null_slot t ≡ slots.null → IsNullArray t n (utf8 large t (replicate (suc n) 0) [] (none_valid d n))
text-null large t n d h p e =
    record {
      typed = refl;
      long = zero-rows n;
      nulls = λ i j. otherwise (valid_at (none_valid d n) i) _ slots.null (null-valid d n i h j) ∙ sym e;
      parts = zero-offsets n;
      fits = (zero-last n 0, (λ i j. no-bytes i, (null-bits-at d n (count_rows (replicate (suc n) 0)) (zero-rows n), (p, tt))));
      children = tt;
    }
  where
    empty-cut : (o m : ℕ) → [] ≡ sublist {A = ℕ} [] o m
    empty-cut o m = sym (ap (take m) (drop-nil o) ∙ take-nil m)

    no-bytes : (i : ℕ) → IsUtf8 (sublist [] (begin (replicate (suc n) 0) i) (extent (replicate (suc n) 0) i))
    no-bytes i = subst IsUtf8 (empty-cut (begin (replicate (suc n) 0) i) (extent (replicate (suc n) 0) i)) IsUtf8-nil

fixed-null : (s n : ℕ) (d : Fill) → Fills d n → 0 < s → IsNullArray (types.fixed_size_binary s) n (fixed_size_binary (types.fixed_size_binary s) (replicate (n * s) 0) (none_valid d n))
fixed-null s n d h z =
    let l = length-replicate {A = ℕ} (n * s) 0 in
    let q : length (replicate (n * s) 0) / s ≡ n = ap (λ m. m / s) l ∙ mul-div_cancel n z in
    record {
      typed = refl;
      long = q;
      nulls = λ i j. otherwise (valid_at (none_valid d n) i) _ slots.null (null-valid d n i h j);
      parts = tt;
      fits = (refl, (z, (ap (λ m. m % s) l ∙ product-exact n s, (null-bits-at d n (length (replicate (n * s) 0) / s) q, tt))));
      children = tt;
    }

-- Lists without items.
list-null : (large : Bool) (t u : TypeTree) (n : ℕ) (d : Fill) (c : Layout) → Fills d n → physical_type t ≡ list_of_width large → item_type t ≡ Some u → null_slot t ≡ slots.null → IsNullArray u 0 c
    → IsNullArray t n (list large t (replicate (suc n) 0) c (none_valid d n))
list-null large t u n d c h p q e r =
    record {
      typed = refl;
      long = zero-rows n;
      nulls = λ i j. otherwise (valid_at (none_valid d n) i) _ slots.null (null-valid d n i h j) ∙ sym e;
      parts = zero-offsets n;
      fits = (zero-last n (len c), (null-bits-at d n (count_rows (replicate (suc n) 0)) (zero-rows n), (p, (q ∙ ap Some (sym r.typed), tt))));
      children = is-array u 0 c r;
    }

map-null : (f : FieldTree) (b : Bool) (n : ℕ) (d : Fill) (c : Layout) → Fills d n → is_pair (field_type f) ≡ true → IsNullArray (field_type f) 0 c
    → IsNullArray (types.map f b) n (layouts.map (types.map f b) (replicate (suc n) 0) c (none_valid d n))
map-null f b n d c h p r =
    record {
      typed = refl;
      long = zero-rows n;
      nulls = λ i j. otherwise (valid_at (none_valid d n) i) _ slots.null (null-valid d n i h j);
      parts = zero-offsets n;
      fits = (zero-last n (len c), (refl, (p, (ap Some (sym r.typed), (null-bits-at d n (count_rows (replicate (suc n) 0)) (zero-rows n), tt)))));
      children = is-array (field_type f) 0 c r;
    }

sized-null : (f : FieldTree) (s n : ℕ) (d : Fill) (c : Layout) → Fills d n → 0 < s → IsNullArray (field_type f) (n * s) c
    → IsNullArray (types.fixed_size_list f s) n (fixed_size_list (types.fixed_size_list f s) c (none_valid d n))
sized-null f s n d c h z r =
    let q : len c / s ≡ n = ap (λ m. m / s) r.long ∙ mul-div_cancel n z in
    record {
      typed = refl;
      long = q;
      nulls = λ i j. otherwise (valid_at (none_valid d n) i) _ slots.null (null-valid d n i h j);
      parts = tt;
      fits = (refl, (z, (ap Some (sym r.typed), (ap (λ m. m % s) r.long ∙ product-exact n s, (null-bits-at d n (len c / s) q, tt)))));
      children = is-array (field_type f) (n * s) c r;
    }

struct-null : (fs : FieldTrees) (n : ℕ) (d : Fill) (cs : Layouts) → Fills d n → 0 < count_fields fs → AreNullArrays fs n cs
    → IsNullArray (types.struct fs) n (struct (types.struct fs) cs (none_valid d n))
struct-null fs n d cs h z r =
    let l = r.first_long z in
    record {
      typed = refl;
      long = l;
      nulls = λ i j. otherwise (valid_at (none_valid d n) i) _ slots.null (null-valid d n i h j);
      parts = tt;
      fits = (refl, (z, (r.as_many, (r.typed, (subst (EachLen cs) (sym l) r.long, (null-bits-at d n (first_len cs) l, tt))))));
      children = r.arrays;
    }

-- Dictionaries with null keys only.
key-fits : (k : IntegerType) (n : ℕ) (d : Fill) → AreKeys (native_nulls (native_of_key k) (type_of_key k) n d)
key-fits integers.Int8 n d = (refl, (null-bits-at d n (length (replicate n (pos 0 ∷ []))) (length-replicate n (pos 0 ∷ [])), (refl, tt)))
key-fits k n d = (refl, (null-bits-at d n (length (replicate n (pos 0 ∷ []))) (length-replicate n (pos 0 ∷ [])), (refl, tt)))

key-typed : (k : IntegerType) (n : ℕ) (d : Fill) → Some k ≡ key_type_of (native_nulls (native_of_key k) (type_of_key k) n d)
key-typed integers.Int8 n d = refl
key-typed k n d = refl

dictionary-null : (k : IntegerType) (t : TypeTree) (b : Bool) (n : ℕ) (d : Fill) (c : Layout) → Fills d n → IsNullArray t (values_below d) c
    → IsNullArray (types.dictionary k t b) n (dictionary (types.dictionary k t b) (native_nulls (native_of_key k) (type_of_key k) n d) c)
dictionary-null k t b n d c h r =
    let l = length-replicate n (zero_value (native_of_key k)) in
    record {
      typed = refl;
      long = l;
      nulls = λ i j. otherwise (valid_at (none_valid d n) i) _ slots.null (null-valid d n i h j);
      parts = key-fits k n d;
      fits = (
        refl,
        (
          key-typed k n d,
          (
            ap types.logical_type r.typed,
            (λ s. absurd (let j : s.0 < n = let m = s.1 in omega arith in let v = s.2 in let w = null-valid d n s.0 h j in cc), tt),
          ),
        ),
      );
      children = is-array t (values_below d) c r;
    }

-- The last position of an integer in a list.
last-step : (o : Option ℕ) (b : Bool) (m : ℕ) → ((k : ℕ) → o ≡ Some k → k < m) → (k : ℕ) → elim o as (λ _. Option ℕ) [ Some j ↦ Some (suc j) | None ↦ if b then Some 0 else None ] ≡ Some k → k < suc m
last-step None true m h k e = let z : 0 ≡ k = cc in omega arith
last-step None false m h k e = cc
last-step (Some j) b m h k e = let z : suc j ≡ k = cc in let l = h j refl in omega arith

last_position-below : (zs : List ℤ) (z : ℤ) (k : ℕ) → last_position zs z ≡ Some k → k < length zs
last_position-below [] z k e = cc
last_position-below (x ∷ xs) z k e = last-step (last_position xs z) (int_eq x z) (length xs) (last_position-below xs z) k e

last-there : (o : Option ℕ) (b : Bool) → b ≡ true → (k : ℕ) × (elim o as (λ _. Option ℕ) [ Some j ↦ Some (suc j) | None ↦ if b then Some 0 else None ] ≡ Some k)
last-there None true h = (0, refl)
last-there None false h = cc
last-there (Some j) b h = (suc j, refl)

-- The field of a null slot exists, and it is the field that the type id names.
record MeansNull (ids : Option (List ℤ)) (m f : ℕ) : Type 0 where
  named : field_named ids (null_type ids) ≡ Some f
  there : f < m
  selected : null_field ids ≡ Some f

means-null : (ids : Option (List ℤ)) (m : ℕ) → ids_count_differs ids m ≡ false → 0 < m → (f : ℕ) × MeansNull ids m f
means-null None m h z = (0, record { named = refl; there = z; selected = refl })
means-null (Some []) m h z = absurd (let e = same-number 0 m (not-false (nat_eq 0 m) h) in omega arith)
means-null (Some (x ∷ xs)) m h z =
    let e = same-number (length (x ∷ xs)) m (not-false (nat_eq (length (x ∷ xs)) m) h) in
    let l = last-there (last_position xs x) (int_eq x x) ((Decides-int_eq x x).1 refl) in
    let b = last_position-below (x ∷ xs) x l.0 l.1 in
    (l.0, record { named = l.1; there = omega arith; selected = l.1 })

has-field : (m n : ℕ) → (nat_eq m 0 && nat_lt 0 n) ≡ false → 0 < n → 0 < m
has-field zero n h k = absurd (let l = not-above 0 n h in omega arith)
has-field (suc m) n h k = omega arith

-- Type ids and offsets.
id-names : (z : ℤ) → is_id z ≡ true → Names z type_count
id-names (pos n) h = below n type_count h
id-names (negsuc n) h = cc

and-first : (a b : Bool) → (a && b) ≡ true → a ≡ true
and-first true b h = refl
and-first false b h = h

and-second : (a b : Bool) → (a && b) ≡ true → b ≡ true
and-second true b h = h
and-second false b h = cc

ids-name : (zs : List ℤ) → are_ids zs ≡ true → All (λ z. Names z type_count) zs
ids-name [] h = All-nil (λ z. Names z type_count)
ids-name (z ∷ zs) h = All-cons (λ z. Names z type_count) z zs (id-names z (and-first (is_id z) (are_ids zs) h)) (ids-name zs (and-second (is_id z) (are_ids zs) h))

ids-in_range : (ids : Option (List ℤ)) → has_bad_id ids ≡ false → IdsInRange ids
ids-in_range None h = tt
ids-in_range (Some zs) h = ids-name zs (not-false (are_ids zs) h)

ids-count : (ids : Option (List ℤ)) (m : ℕ) → ids_count_differs ids m ≡ false → IdsCount ids m
ids-count None m h = tt
ids-count (Some zs) m h = same-number (length zs) m (not-false (nat_eq (length zs) m) h)

offset-at : (n i : ℕ) → i < n → get_or (map (λ j. pos j) (range_with_len 0 n)) i (pos 0) ≡ pos i
offset-at n i h = get_or-map-range_with_len (λ j. pos j) 0 n i i (pos 0) h (omega arith)

offsets-count : (mode : UnionMode) (n m : ℕ) → m ≡ n → OffsetsCount (null_offsets mode n) m
offsets-count modes.Dense n m e = length-map-range_with_len (λ j. pos j) 0 n ∙ sym e
offsets-count modes.Sparse n m e = tt

offsets-mode : (mode : UnionMode) (n : ℕ) → OffsetsByMode (null_offsets mode n) (is_dense_mode mode)
offsets-mode modes.Dense n = refl
offsets-mode modes.Sparse n = refl

null-place : (mode : UnionMode) (n i : ℕ) → i < n → union_index (null_offsets mode n) 0 i ≡ i
null-place modes.Dense n i h = ap to_index (offset-at n i h)
null-place modes.Sparse n i h = omega arith

each-covers : (cs : Layouts) (n m : ℕ) → EachLen cs n → m ≤ n → EachCovers cs m
each-covers no_layouts n m h k = tt
each-covers (more_layouts c cs) n m h k = let e = h.0 in (omega arith, each-covers cs n m h.1 k)

child-long : (cs : Layouts) (n f : ℕ) → EachLen cs n → f < count_layouts cs → child_len cs (Some f) ≡ n
child-long no_layouts n f h k = absurd (omega arith)
child-long (more_layouts c cs) n zero h k = h.0
child-long (more_layouts c cs) n (suc f) h k = child-long cs n f h.1 (omega arith)

each-means : (ids : Option (List ℤ)) (n m : ℕ) → (0 < n → (f : ℕ) × MeansNull ids m f) → EachMeansField ids (replicate n (null_type ids)) m
each-means ids zero m h = All-nil (λ k. MeansField (field_named ids k) m)
each-means ids (suc n) m h =
    let q = h (omega arith) in
    All-replicate (λ k. MeansField (field_named ids k) m) (suc n) (null_type ids) (subst (λ o. MeansField o m) (sym q.1.named) q.1.there)

slots-there : (ids : Option (List ℤ)) (mode : UnionMode) (n : ℕ) (cs : Layouts) → (0 < n → (f : ℕ) × MeansNull ids (count_layouts cs) f) → EachLen cs n → SlotsThere ids (replicate n (null_type ids)) cs (null_offsets mode n) 0
slots-there ids modes.Sparse n cs h l = let e = length-replicate n (null_type ids) in each-covers cs n (0 + length (replicate n (null_type ids))) l (omega arith)
slots-there ids modes.Dense n cs h l = λ i j.
    let e = length-replicate n (null_type ids) in
    let k : i < n = omega arith in
    let q = h (omega arith) in
    let z = offset-at n i k in
    let t : field_named ids (get_or (replicate n (null_type ids)) i (pos 0)) ≡ Some q.0 = ap (field_named ids) (get_or-replicate n i (null_type ids) (pos 0) k) ∙ q.1.named in
    let m : child_len cs (field_named ids (get_or (replicate n (null_type ids)) i (pos 0))) ≡ n = ap (child_len cs) t ∙ child-long cs n q.0 l q.1.there in
    subst (λ x. Names x (child_len cs (field_named ids (get_or (replicate n (null_type ids)) i (pos 0))))) (sym z) (let r : i < child_len cs (field_named ids (get_or (replicate n (null_type ids)) i (pos 0))) = omega arith in r)

union-null : (fs : FieldTrees) (ids : Option (List ℤ)) (mode : UnionMode) (n : ℕ) (cs : Layouts) → nat_lt most_fields (count_fields fs) ≡ false → ids_count_differs ids (count_fields fs) ≡ false → has_bad_id ids ≡ false
    → (nat_eq (count_fields fs) 0 && nat_lt 0 n) ≡ false → AreNullArrays fs n cs
    → IsNullArray (types.union fs ids mode) n (union (types.union fs ids mode) (replicate n (null_type ids)) cs (null_offsets mode n) 0)
union-null fs ids mode n cs many count range some r =
    let l = length-replicate n (null_type ids) in
    let c = r.as_many in
    let differs : ids_count_differs ids (count_layouts cs) ≡ false = ap (ids_count_differs ids) c ∙ count in
    record {
      typed = refl;
      long = l;
      nulls = λ i j.
          let q = means-null ids (count_fields fs) count (has-field (count_fields fs) n some (omega arith)) in
          ap (λ k. of_field (field_named ids k) (λ f. picked f cs f (union_index (null_offsets mode n) 0 i))) (get_or-replicate n i (null_type ids) (pos 0) j)
          ∙ ap (λ o. of_field o (λ f. picked f cs f (union_index (null_offsets mode n) 0 i))) q.1.named
          ∙ ap (picked q.0 cs q.0) (null-place mode n i j)
          ∙ r.picks q.0 q.0 i q.1.there j
          ∙ ap (λ o. of_field o (λ f. null_pick f fs f)) (sym q.1.selected);
      parts = tt;
      fits = (
        refl,
        (
          c,
          (
            (let m = not-above most_fields (count_fields fs) many in omega arith),
            (
              r.typed,
              (
                offsets-count mode n (length (replicate n (null_type ids))) l,
                (
                  offsets-mode mode n,
                  (
                    ids-count ids (count_layouts cs) differs,
                    (
                      ids-in_range ids range,
                      (
                        each-means ids n (count_layouts cs) (λ z. means-null ids (count_layouts cs) differs (let p = has-field (count_fields fs) n some z in omega arith)),
                        (
                          slots-there ids mode n cs (λ z. means-null ids (count_layouts cs) differs (let p = has-field (count_fields fs) n some z in omega arith)) r.long,
                          tt,
                        ),
                      ),
                    ),
                  ),
                ),
              ),
            ),
          ),
        ),
      );
      children = r.arrays;
    }

-- The array of an extension type differs from that of its storage type only in its data type.
with_type-own : (a : Layout) → with_type a (layout_type a) ≡ a
with_type-own (null t n) = refl
with_type-own a = refl

extended-type : (a : Layout) (t : TypeTree) → layout_type (with_type a t) ≡ t
extended-type (null u n) t = refl
extended-type a t = refl

extended-len : (a : Layout) (x : Letters) (t : TypeTree) (m : Option Letters) → len (with_type a (types.extension x t m)) ≡ len (with_type a t)
extended-len (null u n) x t m = refl
extended-len a x t m = refl

extended-slot : (a : Layout) (x : Letters) (t : TypeTree) (m : Option Letters) (i : ℕ) → slot (with_type a (types.extension x t m)) i ≡ slot (with_type a t) i
extended-slot (null u n) x t m i = refl
extended-slot a x t m i = refl

extended-parts : (a : Layout) (x : Letters) (t : TypeTree) (m : Option Letters) → PartsHold (with_type a t) → PartsHold (with_type a (types.extension x t m))
extended-parts (null u n) x t m h = h
extended-parts a x t m h = h

extended-fits : (a : Layout) (x : Letters) (t : TypeTree) (m : Option Letters) → Fits (with_type a t) → Fits (with_type a (types.extension x t m))
extended-fits (null u n) x t m h = h
extended-fits a x t m h = h

extended-children : (a : Layout) (x : Letters) (t : TypeTree) (m : Option Letters) → ChildrenFit (with_type a t) → ChildrenFit (with_type a (types.extension x t m))
extended-children (null u n) x t m h = h
extended-children a x t m h = h

extension-null : (x : Letters) (t : TypeTree) (m : Option Letters) (n : ℕ) (a : Layout) → IsNullArray t n a → IsNullArray (types.extension x t m) n (with_type a (types.extension x t m))
extension-null x t m n a r =
    let e : with_type a t ≡ a = ap (with_type a) (sym r.typed) ∙ with_type-own a in
    record {
      typed = extended-type a (types.extension x t m);
      long = extended-len a x t m ∙ ap len e ∙ r.long;
      nulls = λ i j. extended-slot a x t m i ∙ ap (λ b. slot b i) e ∙ r.nulls i j;
      parts = extended-parts a x t m (subst PartsHold (sym e) r.parts);
      fits = extended-fits a x t m (subst Fits (sym e) r.fits);
      children = extended-children a x t m (subst ChildrenFit (sym e) r.children);
    }

-- The children of a fixed-size list and of a dictionary have the same fill.
pub fills-product : (d : Fill) (n s : ℕ) → Fills d n → Fills d (n * s)
fills-product Nulls n s h = tt
fills-product Nothing n s h = let e : 0 * s ≡ 0 = omega arith in ap (λ m. m * s) h ∙ e

pub fills-below : (d : Fill) → Fills d (values_below d)
fills-below Nulls = tt
fills-below Nothing = refl

more-null : (f : FieldTree) (fs : FieldTrees) (n : ℕ) (c : Layout) (cs : Layouts) → IsNullArray (field_type f) n c → AreNullArrays fs n cs → AreNullArrays (more_fields f fs) n (more_layouts c cs)
more-null (field x t b es) fs n c cs r rs =
    record {
      typed = (r.typed, rs.typed);
      as_many = ap suc rs.as_many;
      long = (r.long, rs.long);
      first_long = λ z. r.long;
      picks = more-picks x t b es fs n c cs r rs;
      arrays = (is-array t n c r, rs.arrays);
    }
  where
    more-picks : (x : Letters) (t : TypeTree) (b : Bool) (es : Entries) (fs : FieldTrees) (n : ℕ) (c : Layout) (cs : Layouts) → IsNullArray t n c → AreNullArrays fs n cs
        → (f k i : ℕ) → k < suc (count_fields fs) → i < n → picked f (more_layouts c cs) k i ≡ null_pick f (more_fields (field x t b es) fs) k
    more-picks x t b es fs n c cs r rs f zero i j l = let p = r.typed in let q = r.nulls i l in λ w. slots.pick f (p w) (q w)
    more-picks x t b es fs n c cs r rs f (suc k) i j l = rs.picks f k i (omega arith) l

mutual
  pub null-array : (t : TypeTree) (n : ℕ) (d : Fill) → Fills d n → error_of t n d ≡ None → IsNullArray t n (null_array t n d)
  null-array types.null n d p h = record { typed = refl; long = refl; nulls = λ i j. refl; parts = tt; fits = (refl, tt); children = tt }
  null-array types.boolean n d p h =
      let l = length-replicate n false in
      record {
        typed = refl;
        long = l;
        nulls = λ i j. otherwise (valid_at (none_valid d n) i) _ slots.null (null-valid d n i p j);
        parts = tt;
        fits = (null-bits-at d n (length (replicate n false)) l, (refl, tt));
        children = tt;
      }
  null-array types.binary n d p h = binary-null false types.binary n d p refl refl
  null-array types.large_binary n d p h = binary-null true types.large_binary n d p refl refl
  null-array types.utf8 n d p h = text-null false types.utf8 n d p refl refl
  null-array types.large_utf8 n d p h = text-null true types.large_utf8 n d p refl refl
  null-array (types.fixed_size_binary s) n d p h = fixed-null s n d p (positive s (refuse-none _ _ _ h).0)
  null-array (types.list f) n d p h = list-null false (types.list f) (field_type f) n d (null_item f 0 Nothing) p refl refl refl (null-item f 0 Nothing refl (refuse-none _ _ _ h).1)
  null-array (types.large_list f) n d p h = list-null true (types.large_list f) (field_type f) n d (null_item f 0 Nothing) p refl refl refl (null-item f 0 Nothing refl (refuse-none _ _ _ h).1)
  null-array (types.fixed_size_list f s) n d p h =
      let a = refuse-none (nat_eq s 0) _ _ h in
      let b = refuse-none _ _ _ a.1 in
      sized-null f s n d (null_item f (n * s) d) p (positive s a.0) (null-item f (n * s) d (fills-product d n s p) b.1)
  null-array (types.map f b) n d p h =
      let a = refuse-none (not (is_pair (field_type f))) _ _ h in
      let c = refuse-none _ _ _ a.1 in
      map-null f b n d (null_item f 0 Nothing) p (not-false (is_pair (field_type f)) a.0) (null-item f 0 Nothing refl c.1)
  null-array (types.struct fs) n d p h =
      let a = refuse-none (nat_eq (count_fields fs) 0) _ _ h in
      struct-null fs n d (null_children fs n d) p (positive (count_fields fs) a.0) (null-children fs n d p a.1)
  null-array (types.union fs ids mode) n d p h =
      let a = refuse-none (nat_lt most_fields (count_fields fs)) _ _ h in
      let b = refuse-none (ids_count_differs ids (count_fields fs)) _ _ a.1 in
      let c = refuse-none (has_bad_id ids) _ _ b.1 in
      let e = refuse-none (nat_eq (count_fields fs) 0 && nat_lt 0 n) _ _ c.1 in
      let g = refuse-none _ _ _ e.1 in
      union-null fs ids mode n (null_children fs n d) a.0 b.0 c.0 e.0 (null-children fs n d p g.1)
  null-array (types.dictionary k t b) n d p h = dictionary-null k t b n d (null_array t (values_below d) d) p (null-array t (values_below d) d (fills-below d) h)
  null-array (types.extension x t m) n d p h = extension-null x t m n (null_array t n d) (null-array t n d p h)
  null-array t n d p h = native-null _ t n d p refl refl

  null-item : (f : FieldTree) (n : ℕ) (d : Fill) → Fills d n → field_error f n d ≡ None → IsNullArray (field_type f) n (null_item f n d)
  null-item (field x t b es) n d p h = null-array t n d p h

  null-children : (fs : FieldTrees) (n : ℕ) (d : Fill) → Fills d n → fields_error fs n d ≡ None → AreNullArrays fs n (null_children fs n d)
  null-children no_fields n d p h =
      record {
        typed = tt;
        as_many = refl;
        long = tt;
        first_long = λ z. absurd (omega arith);
        picks = λ f i j k. absurd (omega arith);
        arrays = tt;
      }
  null-children (more_fields f fs) n d p h =
      let e = first-none (field_error f n d) (fields_error fs n d) h in
      more-null f fs n (null_item f n d) (null_children fs n d) (null-item f n d p e.0) (null-children fs n d p e.1)

-- If the data type and length have no error, `null_layout` is an array of n null slots.
pub null-layout : (t : TypeTree) (n : ℕ) → type_error t n ≡ None → IsNullArray t n (null_layout t n)
null-layout t n h = null-array t n Nulls tt h

pub empty-layout : (t : TypeTree) → empty_error t ≡ None → IsNullArray t 0 (empty_layout t)
empty-layout t h = null-array t 0 Nothing refl h

run-nulls : (f : ℕ → Slot) (s : Slot) (o n : ℕ) → ((i : ℕ) → i < n → f (o + i) ≡ s) → run f o n ≡ replicate n s
run-nulls f s o zero h = refl
run-nulls f s o (suc n) h =
    let z : o ≡ o + 0 = omega arith in
    let a = ap f z ∙ h 0 (omega arith) in
    let b = run-nulls f s (suc o) n (λ i k. let e : suc o + i ≡ o + suc i = omega arith in ap f e ∙ h (suc i) (omega arith)) in
    λ i. a i ∷ b i

pub null-slots : (t : TypeTree) (n : ℕ) (a : Layout) → IsNullArray t n a → slots_of a ≡ null_slots t n
null-slots t n a r = ap (run (slot a) 0) r.long ∙ run-nulls (slot a) (null_slot t) 0 n (λ i k. let e : 0 + i ≡ i = omega arith in ap (slot a) e ∙ r.nulls i k)
