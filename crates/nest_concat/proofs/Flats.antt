-- Flat arrays with concatenated values and bits.
use Rattle.std.specs.Prelude.{List, map, length, get_or}
use Rattle.std.specs.List.{All, flat_map, sum_by}
use Rattle.std.proofs.Common.{◌≡◌, ℕ, ◌+◌, ◌*◌, ◌/◌, ◌%◌, ◌<◌, ◌≤◌, ℤ, Bool, false, [], ◌∷◌, refl, ap, sym, ◌∙◌, subst, arith, take, drop, ◌++◌}
use Rattle.std.proofs.Math.Nat.{mul-div_cancel, add-mul}
use Rattle.std.proofs.lemmas.List.{drop-map, map-append, take-map}
use Rattle.std.proofs.lemmas.List.Sums.{sum_by-cons}
use Rattle.nest_memory.specs.Sublist.{sublist}
use Rattle.nest_memory.specs.Physical.{physical_type}
use Rattle.nest_memory.specs.TypeTree.{TypeTree, logical_type, size_of}
use Rattle.nest_memory.specs.declared.datatypes.physical_type.PhysicalType.TheVariants as physical
use Rattle.nest_memory.specs.declared.datatypes.physical_type.PrimitiveType.{PrimitiveType}
use Rattle.nest_model.specs.Accessors.{validity_of, bits_of, natives_of, bytes_of}
use Rattle.nest_model.specs.Array.{TopFits}
use Rattle.nest_model.specs.Fits.{Fits, ValidityFits}
use Rattle.nest_model.specs.Layout.{Layout, null, boolean, primitive, fixed_size_binary, layout_type}
use Rattle.nest_model.specs.Meaning.{len, slot, where_valid}
use Rattle.nest_model.specs.Part.{Validity}
use Rattle.nest_model.specs.Runs.{cut-cut, length-cut, product-end, product-exact, product-fits}
use Rattle.nest_model.specs.Slot as slots
use Rattle.nest_array.specs.WindowParts.{WindowParts}
use Rattle.nest_concat.specs.Joined.{AreWithin, IsJoined}
use Rattle.nest_concat.specs.Windows.{blocks_in, count_of, count_slots, concatenated_validity, natives_in, booleans_in}
use Rattle.nest_concat.proofs.Logical.{kind-alike, size-alike}
use Rattle.nest_concat.proofs.Pieces.{AreLong, cut-flat, flat-length}
use Rattle.nest_concat.proofs.Shapes.{null-shape, boolean-shape, primitive-shape, fixed_size_binary-shape}
use Rattle.nest_concat.proofs.Windows.{joined-fits, joined-slots, nowhere, place_of, same-slot, validity-at, values-at, values-count, window}

pub null-joined : (t u : TypeTree) (ws : List WindowParts) (n : ℕ) → AreWithin t ws → physical_type t ≡ physical.Null → u ≡ t → n ≡ count_slots ws
    → Fits (null u n) × IsJoined t ws (null u n)
null-joined t u ws n h p e c = (
  (ap physical_type e ∙ p, tt),
  record {
    slots = joined-slots t (null u n) ws h c (λ k j l m.
        let w = window ws k in
        let f = h k nowhere l in
        sym (ap (λ z. slot z (w.offset + j)) (null-shape w.array f.is_array (kind-alike (layout_type w.array) t _ f.same_type p))));
    same_type = e;
  },
)

-- native values of a window are within those of its array
pub natives-within : (k : PrimitiveType) (w : WindowParts) → TopFits w.array → physical_type (layout_type w.array) ≡ physical.Primitive k → w.offset + w.count ≤ len w.array → w.offset + w.count ≤ length (natives_of w.array)
natives-within k w f p h = omega (arith, h, ap len (primitive-shape k w.array f p))

-- a part of native values is appended, by their numbers
pub natives-more : {T : Type 0} (f : T → List ℤ) (w : WindowParts) (a : Layout) (old new vs xs : List T) (o n : ℕ) → new ≡ old ++ xs → xs ≡ sublist vs o n → map f vs ≡ natives_of a → a ≡ w.array → o ≡ w.offset → n ≡ w.count
    → map f new ≡ map f old ++ natives_in w
natives-more f w a old new vs xs o n e x v h p q =
    let c : map f xs ≡ sublist (natives_of w.array) w.offset w.count =
    ap (map f) x
    ∙ sym (ap (take n) (drop-map f o vs) ∙ take-map f n (drop o vs))
    ∙ ap (λ z. sublist z o n) (v ∙ ap natives_of h)
    ∙ ap (λ z. sublist (natives_of w.array) z n) p
    ∙ ap (sublist (natives_of w.array) w.offset) q in
    ap (map f) e ∙ map-append f old xs ∙ ap (λ z. map f old ++ z) c

-- a fixed number of items for each slot is within all items
pub blocks-within : (w : WindowParts) (n s t : ℕ) → w.offset + w.count ≤ len w.array → len w.array ≡ n / t → s ≡ t → w.offset * s + w.count * s ≤ n
blocks-within w n s t h e z = product-fits w.offset w.count n s (subst (λ y. w.offset + w.count ≤ n / y) (sym z) (omega (arith, h, e)))

-- booleans
boolean-core : (t : TypeTree) (ws : List WindowParts) → AreWithin t ws → physical_type t ≡ physical.Boolean
    → Fits (boolean t (flat_map booleans_in ws) (concatenated_validity ws)) × IsJoined t ws (boolean t (flat_map booleans_in ws) (concatenated_validity ws))
boolean-core t ws h p =
    let bs = flat_map booleans_in ws in
    let v = concatenated_validity ws in
    let shape : (w : WindowParts) → TopFits w.array → logical_type (layout_type w.array) ≡ logical_type t → w.array ≡ boolean (layout_type w.array) (bits_of w.array) (validity_of w.array)
    = λ w f e. boolean-shape w.array f (kind-alike (layout_type w.array) t _ e p) in
    let inside : All (λ w. w.offset + w.count ≤ length (bits_of w.array)) ws = λ i d l.
    let f = h i d l in
    omega (arith, f.within, ap len (shape (get_or ws i d) f.is_array f.same_type)) in
    let n = values-count (λ (w : WindowParts). bits_of w.array) ws inside in (
      (subst (ValidityFits v) (sym n) (joined-fits t ws h), (p, tt)),
      record {
        slots = joined-slots t (boolean t bs v) ws h n (λ k j l m.
            let w = window ws k in
            let f = h k nowhere l in
            same-slot _ _ _ _ (validity-at t ws k j h l m) (ap slots.boolean (values-at (λ (x : WindowParts). bits_of x.array) ws k j false inside l m))
            ∙ sym (ap (λ z. slot z (w.offset + j)) (shape w f.is_array f.same_type)));
        same_type = refl;
      },
    )

pub boolean-joined : (t u : TypeTree) (ws : List WindowParts) (bs : List Bool) (v : Validity) → AreWithin t ws → physical_type t ≡ physical.Boolean → u ≡ t
    → bs ≡ flat_map booleans_in ws → v ≡ concatenated_validity ws → Fits (boolean u bs v) × IsJoined t ws (boolean u bs v)
boolean-joined t u ws bs v h p e f g =
    let y : boolean t (flat_map booleans_in ws) (concatenated_validity ws) ≡ boolean u bs v = cc in
    subst (λ z. Fits z × IsJoined t ws z) y (boolean-core t ws h p)

-- native values
primitive-core : (q : PrimitiveType) (t : TypeTree) (ws : List WindowParts) → AreWithin t ws → physical_type t ≡ physical.Primitive q
    → Fits (primitive q t (flat_map natives_in ws) (concatenated_validity ws)) × IsJoined t ws (primitive q t (flat_map natives_in ws) (concatenated_validity ws))
primitive-core q t ws h p =
    let vs = flat_map natives_in ws in
    let v = concatenated_validity ws in
    let shape : (w : WindowParts) → TopFits w.array → logical_type (layout_type w.array) ≡ logical_type t → w.array ≡ primitive q (layout_type w.array) (natives_of w.array) (validity_of w.array)
    = λ w f e. primitive-shape q w.array f (kind-alike (layout_type w.array) t _ e p) in
    let inside : All (λ w. w.offset + w.count ≤ length (natives_of w.array)) ws = λ i d l.
    let f = h i d l in
    omega (arith, f.within, ap len (shape (get_or ws i d) f.is_array f.same_type)) in
    let n = values-count (λ (w : WindowParts). natives_of w.array) ws inside in (
      (subst (ValidityFits v) (sym n) (joined-fits t ws h), (p, tt)),
      record {
        slots = joined-slots t (primitive q t vs v) ws h n (λ k j l m.
            let w = window ws k in
            let f = h k nowhere l in
            same-slot _ _ _ _ (validity-at t ws k j h l m) (ap slots.number (values-at (λ (x : WindowParts). natives_of x.array) ws k j [] inside l m))
            ∙ sym (ap (λ z. slot z (w.offset + j)) (shape w f.is_array f.same_type)));
        same_type = refl;
      },
    )

pub primitive-joined : (q : PrimitiveType) (t u : TypeTree) (ws : List WindowParts) (vs : List (List ℤ)) (v : Validity) → AreWithin t ws → physical_type t ≡ physical.Primitive q → u ≡ t
    → vs ≡ flat_map natives_in ws → v ≡ concatenated_validity ws → Fits (primitive q u vs v) × IsJoined t ws (primitive q u vs v)
primitive-joined q t u ws vs v h p e f g =
    let y : primitive q t (flat_map natives_in ws) (concatenated_validity ws) ≡ primitive q u vs v = cc in
    subst (λ z. Fits z × IsJoined t ws z) y (primitive-core q t ws h p)

-- fixed-size blocks
abbrev pub block_count : ℕ → WindowParts → ℕ
block_count s w = w.count * s

pub sum-blocks : (s : ℕ) (ws : List WindowParts) → sum_by (block_count s) ws ≡ count_slots ws * s
sum-blocks s [] = omega arith
sum-blocks s (w ∷ ws) =
    let a = sum_by-cons (block_count s) w ws in
    let b = sum-blocks s ws in
    let c = ap (λ n. n * s) (sum_by-cons count_of w ws) ∙ add-mul (count_of w) (count_slots ws) s in
    omega (arith, a, b, c)

-- item by item: blocks of a list for each window
pub block-at : {A : Type 0} (s : ℕ) (xs : WindowParts → List A) (ws : List WindowParts) (k j : ℕ) → All (λ w. w.offset * s + w.count * s ≤ length (xs w)) ws → k < length ws → j < count_of (window ws k)
    → sublist (flat_map (λ w. sublist (xs w) (w.offset * s) (w.count * s)) ws) (place_of ws k j * s) s ≡ sublist (xs (window ws k)) (((window ws k).offset + j) * s) s
block-at {A} s xs ws k j h l m =
    let w = window ws k in
    let f : WindowParts → List A = λ x. sublist (xs x) (x.offset * s) (x.count * s) in
    let long : AreLong f (block_count s) ws = λ i d q. let x = get_or ws i d in length-cut (xs x) (x.offset * s) (x.count * s) (h i d q) in
    let a : place_of ws k j * s ≡ sum_by (block_count s) (take k ws) + j * s = add-mul (sum_by count_of (take k ws)) j s ∙ ap (λ z. z + j * s) (sym (sum-blocks s (take k ws))) in
    let b = product-end j w.count s m in
    ap (λ z. sublist (flat_map f ws) z s) a
    ∙ cut-flat f (block_count s) ws k (j * s) s nowhere long l b
    ∙ cut-cut (xs w) (w.offset * s) (w.count * s) (j * s) s b
    ∙ ap (λ z. sublist (xs w) z s) (sym (add-mul w.offset j s))

pub blocks-count : {A : Type 0} (s : ℕ) (xs : WindowParts → List A) (ws : List WindowParts) → All (λ w. w.offset * s + w.count * s ≤ length (xs w)) ws
    → length (flat_map (λ w. sublist (xs w) (w.offset * s) (w.count * s)) ws) ≡ count_slots ws * s
blocks-count {A} s xs ws h =
    let f : WindowParts → List A = λ x. sublist (xs x) (x.offset * s) (x.count * s) in
    let long : AreLong f (block_count s) ws = λ i d q. let x = get_or ws i d in length-cut (xs x) (x.offset * s) (x.count * s) (h i d q) in
    flat-length f (block_count s) ws long ∙ sum-blocks s ws

-- fixed-size binary
fixed-core : (t : TypeTree) (ws : List WindowParts) → AreWithin t ws → physical_type t ≡ physical.FixedSizeBinary → 0 < size_of t
    → Fits (fixed_size_binary t (flat_map (blocks_in (size_of t)) ws) (concatenated_validity ws)) × IsJoined t ws (fixed_size_binary t (flat_map (blocks_in (size_of t)) ws) (concatenated_validity ws))
fixed-core t ws h p z =
    let s = size_of t in
    let bs = flat_map (blocks_in s) ws in
    let v = concatenated_validity ws in
    let shape : (w : WindowParts) → TopFits w.array → logical_type (layout_type w.array) ≡ logical_type t → w.array ≡ fixed_size_binary (layout_type w.array) (bytes_of w.array) (validity_of w.array)
    = λ w f e. fixed_size_binary-shape w.array f (kind-alike (layout_type w.array) t _ e p) in
    let inside : All (λ w. w.offset * s + w.count * s ≤ length (bytes_of w.array)) ws = λ i d l.
    let f = h i d l in
    let w = get_or ws i d in
    let z = ap (λ n. length (bytes_of w.array) / n) (size-alike (layout_type w.array) t f.same_type) in
    product-fits w.offset w.count (length (bytes_of w.array)) s (omega (arith, f.within, ap len (shape w f.is_array f.same_type), z)) in
    let c = blocks-count s (λ (w : WindowParts). bytes_of w.array) ws inside in
    let n : length bs / s ≡ count_slots ws = ap (λ x. x / s) c ∙ mul-div_cancel (count_slots ws) z in
    let m : length bs % s ≡ 0 = ap (λ x. x % s) c ∙ product-exact (count_slots ws) s in (
      (p, (z, (m, (subst (ValidityFits v) (sym n) (joined-fits t ws h), tt)))),
      record {
        slots = joined-slots t (fixed_size_binary t bs v) ws h n (λ k j l q.
            let w = window ws k in
            let f = h k nowhere l in
            same-slot _ _ _ _ (validity-at t ws k j h l q) (ap slots.bytes (block-at s (λ (x : WindowParts). bytes_of x.array) ws k j inside l q))
            ∙ sym (ap (λ n. where_valid (validity_of w.array) (w.offset + j) (slots.bytes (sublist (bytes_of w.array) ((w.offset + j) * n) n))) (size-alike (layout_type w.array) t f.same_type))
            ∙ sym (ap (λ y. slot y (w.offset + j)) (shape w f.is_array f.same_type)));
        same_type = refl;
      },
    )

pub fixed-joined : (t u : TypeTree) (ws : List WindowParts) (s : ℕ) (bs : List ℕ) (v : Validity) → AreWithin t ws → physical_type t ≡ physical.FixedSizeBinary → 0 < size_of t → u ≡ t → s ≡ size_of t
    → bs ≡ flat_map (blocks_in s) ws → v ≡ concatenated_validity ws → Fits (fixed_size_binary u bs v) × IsJoined t ws (fixed_size_binary u bs v)
fixed-joined t u ws s bs v h p z e i f g =
    let f' = f ∙ ap (λ n. flat_map (blocks_in n) ws) i in
    let y : fixed_size_binary t (flat_map (blocks_in (size_of t)) ws) (concatenated_validity ws) ≡ fixed_size_binary u bs v = cc in
    subst (λ x. Fits x × IsJoined t ws x) y (fixed-core t ws h p z)
