-- The indices in fields that the slots of a union pick, and the parts of fields that contain them.
use Rattle.std.specs.Prelude.{◌⊎◌, Option, Some, None, is_some, option_map, min, max, nat_eq, if◌then◌else◌}
use Rattle.std.specs.List.{flat_map, range_with_len}
use Rattle.std.proofs.Common.{◌≡◌, ℕ, ℤ, zero, suc, ◌+◌, ◌<◌, ◌≤◌, Bool, true, false, List, [], ◌∷◌, ◌++◌, length, inl, inr, refl, ap, sym, ◌∙◌, subst, arith, append-nil}
use Rattle.std.proofs.lemmas.Bool.{eq-eqb}
use Rattle.std.proofs.lemmas.Bool.Decides.{eqb_tells}
use Rattle.std.proofs.lemmas.List.Concat.{flat_map-append}
use Rattle.nest_memory.specs.Physical.{physical_type}
use Rattle.nest_memory.specs.TypeTree.{TypeTree, ids_of, is_dense, logical_type}
use Rattle.nest_memory.specs.declared.datatypes.physical_type.PhysicalType.TheVariants as physical
use Rattle.nest_model.specs.Accessors.{child_at, children_of, start_of, types_of, union_offsets_of}
use Rattle.nest_model.specs.Array.{TopFits}
use Rattle.nest_model.specs.FactLaws.{union-facts}
use Rattle.nest_model.specs.Facts.{IsUnion}
use Rattle.nest_model.specs.Fits.{EachCovers, OffsetsByMode, SlotsThere}
use Rattle.nest_model.specs.Layout.{Layout, Layouts, union, no_layouts, more_layouts, layout_type, count_layouts}
use Rattle.nest_model.specs.Meaning.{len, union_index}
use Rattle.nest_model.specs.Reads.{union-slot}
use Rattle.nest_array.proofs.Picks.{IsUnionOf}
use Rattle.nest_concat.specs.Parts.{behind, field_at, is_field, lowest, part_of, pick_at, picks_in, span_of}
use Rattle.nest_concat.proofs.Logical.{dense-alike, kind-alike}
use Rattle.nest_concat.proofs.Shapes.{union-shape}

-- q is one of these indices
abbrev pub IsIn : ℕ → List ℕ → Type 0
IsIn q [] = ⊥
IsIn q (p ∷ ps) = (p ≡ q) ⊎ IsIn q ps

in-lowest : (q : ℕ) (ps : List ℕ) → IsIn q ps → lowest ps ≤ q
in-lowest q [] h = absurd h
in-lowest q (p ∷ []) (inl e) = omega (arith, e)
in-lowest q (p ∷ []) (inr b) = absurd b
in-lowest q (p ∷ r ∷ ps) (inl e) = omega (arith, e)
in-lowest q (p ∷ r ∷ ps) (inr b) = omega (arith, in-lowest q (r ∷ ps) b)

in-behind : (q : ℕ) (ps : List ℕ) → IsIn q ps → q < behind ps
in-behind q [] h = absurd h
in-behind q (p ∷ ps) (inl e) = omega (arith, e)
in-behind q (p ∷ ps) (inr b) = omega (arith, in-behind q ps b)

in-left : (q : ℕ) (xs ys : List ℕ) → IsIn q xs → IsIn q (xs ++ ys)
in-left q [] ys h = absurd h
in-left q (x ∷ xs) ys (inl e) = inl e
in-left q (x ∷ xs) ys (inr b) = inr (in-left q xs ys b)

in-right : (q : ℕ) (xs ys : List ℕ) → IsIn q ys → IsIn q (xs ++ ys)
in-right q [] ys h = h
in-right q (x ∷ xs) ys h = inr (in-right q xs ys h)

in-range : (g : ℕ → List ℕ) (q o n j : ℕ) → j < n → IsIn q (g (o + j)) → IsIn q (flat_map g (range_with_len o n))
in-range g q o zero j h i = absurd (omega arith)
in-range g q o (suc n) zero h i = let e : o + 0 ≡ o = omega arith in in-left q (g o) (flat_map g (range_with_len (o + 1) n)) (subst (λ z. IsIn q (g z)) e i)
in-range g q o (suc n) (suc j) h i =
    let e : o + suc j ≡ o + 1 + j = omega arith in
    in-right q (g o) (flat_map g (range_with_len (o + 1) n)) (in-range g q (o + 1) n j (omega arith) (subst (λ z. IsIn q (g z)) e i))

pub lowest-behind : (ps : List ℕ) → lowest ps ≤ behind ps
lowest-behind [] = omega arith
lowest-behind (p ∷ []) = omega arith
lowest-behind (p ∷ q ∷ ps) = omega arith

-- one more index
lowest-later : (ps : List ℕ) (p : ℕ) → 0 < length ps → lowest (ps ++ p ∷ []) ≡ min (lowest ps) p
lowest-later [] p h = absurd (omega arith)
lowest-later (q ∷ []) p h = refl
lowest-later (q ∷ r ∷ ps) p h = omega (arith, lowest-later (r ∷ ps) p (omega arith))

behind-append : (xs ys : List ℕ) → behind (xs ++ ys) ≡ max (behind xs) (behind ys)
behind-append [] ys = omega arith
behind-append (x ∷ xs) ys = omega (arith, behind-append xs ys)

pub behind-more : (ps : List ℕ) (p : ℕ) → behind (ps ++ p ∷ []) ≡ max (behind ps) (p + 1)
behind-more ps p = omega (arith, behind-append ps (p ∷ []))

pub lowest-first : (ps : List ℕ) (p : ℕ) → behind ps ≡ 0 → lowest (ps ++ p ∷ []) ≡ p
lowest-first [] p h = refl
lowest-first (q ∷ ps) p h = absurd (omega arith)

pub lowest-more : (ps : List ℕ) (p : ℕ) → (behind ps ≡ 0 → ⊥) → lowest (ps ++ p ∷ []) ≡ min (lowest ps) p
lowest-more [] p h = absurd (h refl)
lowest-more (q ∷ ps) p h = lowest-later (q ∷ ps) p (omega arith)

-- slot i picks field f, or does not
pub pick-yes : (f : ℕ) (a : Layout) (i : ℕ) → field_at a i ≡ Some f → pick_at f a i ≡ union_index (union_offsets_of a) (start_of a) i ∷ []
pick-yes f a i e =
    let p = union_index (union_offsets_of a) (start_of a) i in
    ap (λ o. if is_field f o then p ∷ [] else []) e ∙ ap (λ b. if b then p ∷ [] else []) (eq-eqb f f refl)

pub pick-no : (f g : ℕ) (a : Layout) (i : ℕ) → field_at a i ≡ Some g → (g ≡ f → ⊥) → pick_at f a i ≡ []
pick-no f g a i e h = go (eqb_tells f g)
  where
    go : ((nat_eq f g ≡ true) × (f ≡ g)) ⊎ ((nat_eq f g ≡ false) × (f ≡ g → ⊥)) → pick_at f a i ≡ []
    go (inl t) = absurd (h (sym t.1))
    go (inr t) =
        let p = union_index (union_offsets_of a) (start_of a) i in
        ap (λ o. if is_field f o then p ∷ [] else []) e ∙ ap (λ b. if b then p ∷ [] else []) t.0

range-more : (a n : ℕ) → range_with_len a (n + 1) ≡ range_with_len a n ++ (a + n) ∷ []
range-more a zero = let e : a ≡ a + 0 = omega arith in ap (λ z. z ∷ []) e
range-more a (suc n) =
    let e : suc n + 1 ≡ suc (n + 1) = omega arith in
    let f : a + 1 + n ≡ a + suc n = omega arith in
    ap (range_with_len a) e ∙ ap (λ zs. a ∷ zs) (range-more (a + 1) n ∙ ap (λ z. range_with_len (a + 1) n ++ z ∷ []) f)

picks-more : (f : ℕ) (a : Layout) (o i : ℕ) → picks_in f a o (i + 1) ≡ picks_in f a o i ++ pick_at f a (o + i)
picks-more f a o i =
    ap (flat_map (pick_at f a)) (range-more o i)
    ∙ flat_map-append (pick_at f a) (range_with_len o i) ((o + i) ∷ [])
    ∙ ap (λ z. picks_in f a o i ++ z) (append-nil (pick_at f a (o + i)))

pub picks-yes : (f g q : ℕ) (a : Layout) (o i : ℕ) → field_at a (o + i) ≡ Some g → q ≡ union_index (union_offsets_of a) (start_of a) (o + i) → g ≡ f → picks_in f a o (i + 1) ≡ picks_in f a o i ++ q ∷ []
picks-yes f g q a o i e p h =
    picks-more f a o i ∙ ap (λ z. picks_in f a o i ++ z) (pick-yes f a (o + i) (e ∙ ap Some h) ∙ ap (λ z. z ∷ []) (sym p))

pub picks-no : (f g : ℕ) (a : Layout) (o i : ℕ) → field_at a (o + i) ≡ Some g → (g ≡ f → ⊥) → picks_in f a o (i + 1) ≡ picks_in f a o i
picks-no f g a o i e h = picks-more f a o i ∙ ap (λ z. picks_in f a o i ++ z) (pick-no f g a (o + i) e h) ∙ append-nil (picks_in f a o i)

-- facts about a union
pub union-is : (t : TypeTree) (a : Layout) → TopFits a → logical_type (layout_type a) ≡ logical_type t → physical_type t ≡ physical.Union → IsUnionOf a
union-is t a h e p = union-shape a h (kind-alike (layout_type a) t physical.Union e p)

pub facts-of : (a : Layout) → TopFits a → IsUnionOf a → IsUnion (layout_type a) (types_of a) (children_of a) (union_offsets_of a) (start_of a)
facts-of a h u = union-facts (layout_type a) (types_of a) (children_of a) (union_offsets_of a) (start_of a) (subst TopFits u h)

-- the field that slot i picks
pub record PicksOne (a : Layout) (i f : ℕ) : Type 0 where
  pub means : field_at a i ≡ Some f
  pub field_there : f < count_layouts (children_of a)
  pub slot_there : union_index (union_offsets_of a) (start_of a) i < len (child_at (children_of a) f)

pub picks-one : (a : Layout) (i : ℕ) → TopFits a → IsUnionOf a → i < len a → (f : ℕ) × PicksOne a i f
picks-one a i h u l =
    let s = union-slot (layout_type a) (types_of a) (children_of a) (union_offsets_of a) (start_of a) i (subst TopFits u h) (omega (arith, ap len u, l)) in
    (s.0, record { means = s.1.means; field_there = s.1.field_there; slot_there = s.1.slot_there })

-- no picked index is past its field
pick-bound : (f : ℕ) (a : Layout) (i : ℕ) → TopFits a → IsUnionOf a → i < len a → behind (pick_at f a i) ≤ len (child_at (children_of a) f)
pick-bound f a i h u l =
    let s = picks-one a i h u l in
    let g = s.0 in
    elim (eqb_tells f g) as (λ _. behind (pick_at f a i) ≤ len (child_at (children_of a) f)) [
      | inl t ↦ let e = ap behind (pick-yes f a i (s.1.means ∙ ap Some (sym t.1))) in
          let b = subst (λ z. union_index (union_offsets_of a) (start_of a) i < len (child_at (children_of a) z)) (sym t.1) s.1.slot_there in
          omega (arith, e, b)
      | inr t ↦ omega (arith, ap behind (pick-no f g a i s.1.means (λ z. t.1 (sym z))))
    ]

range-bound : (g : ℕ → List ℕ) (m o n : ℕ) → ((j : ℕ) → j < n → behind (g (o + j)) ≤ m) → behind (flat_map g (range_with_len o n)) ≤ m
range-bound g m o zero h = omega arith
range-bound g m o (suc n) h =
    let a = behind-append (g o) (flat_map g (range_with_len (o + 1) n)) in
    let z : o + 0 ≡ o = omega arith in
    let b = subst (λ i. behind (g i) ≤ m) z (h 0 (omega arith)) in
    let c = range-bound g m (o + 1) n (λ j l. let e : o + suc j ≡ o + 1 + j = omega arith in subst (λ i. behind (g i) ≤ m) e (h (suc j) (omega arith))) in
    omega (arith, a, b, c)

pub picks-bound : (f : ℕ) (a : Layout) (o n : ℕ) → TopFits a → IsUnionOf a → o + n ≤ len a → behind (picks_in f a o n) ≤ len (child_at (children_of a) f)
picks-bound f a o n h u l = range-bound (pick_at f a) (len (child_at (children_of a) f)) o n (λ j k. pick-bound f a (o + j) h u (omega (arith, l, k)))

-- the parts of a sparse union
sparse-is : (a : Layout) → IsUnionOf a → union_offsets_of a ≡ None → a ≡ union (layout_type a) (types_of a) (children_of a) None (start_of a)
sparse-is a u e = u ∙ ap (λ z. union (layout_type a) (types_of a) (children_of a) z (start_of a)) e

some-part : (f : ℕ) (t : TypeTree) (ks : List ℤ) (cs : Layouts) (start o n : ℕ) → 0 < n → part_of f (union t ks cs None start) o n ≡ (start + o, n)
some-part f t ks cs start o zero h = absurd (omega arith)
some-part f t ks cs start o (suc n) h = refl

pub sparse-part : (f : ℕ) (a : Layout) (o n : ℕ) → IsUnionOf a → union_offsets_of a ≡ None → 0 < n → part_of f a o n ≡ (start_of a + o, n)
sparse-part f a o n u e h = ap (λ b. part_of f b o n) (sparse-is a u e) ∙ some-part f (layout_type a) (types_of a) (children_of a) (start_of a) o n h

pub sparse-none : (f : ℕ) (a : Layout) (o : ℕ) → IsUnionOf a → union_offsets_of a ≡ None → part_of f a o 0 ≡ (0, 0)
sparse-none f a o u e = ap (λ b. part_of f b o 0) (sparse-is a u e)

pub sparse-count : (f : ℕ) (a : Layout) (o n : ℕ) → IsUnionOf a → union_offsets_of a ≡ None → (part_of f a o n).1 ≡ n
sparse-count f a o zero u e = ap (λ p. p.1) (sparse-none f a o u e)
sparse-count f a o (suc n) u e = ap (λ p. p.1) (sparse-part f a o (suc n) u e (omega arith))

pub none-offsets : {X : Type 0} (g : X → List ℤ) (o : Option X) (p : Option (List ℤ)) (b : Bool) → b ≡ is_some o → b ≡ false → option_map g o ≡ p → p ≡ None
none-offsets g None p b e f h = sym h
none-offsets g (Some x) p b e f h = cc

-- the parts of a dense union
pub some-offsets : (o : Option (List ℤ)) → (o ≡ None → ⊥) → (os : List ℤ) × (o ≡ Some os)
some-offsets None h = absurd (h refl)
some-offsets (Some os) h = (os, refl)

pub dense-part : (f : ℕ) (a : Layout) (o n : ℕ) → IsUnionOf a → (union_offsets_of a ≡ None → ⊥) → part_of f a o n ≡ span_of (picks_in f a o n)
dense-part f a o n u d =
    let s = some-offsets (union_offsets_of a) d in
    let x : a ≡ union (layout_type a) (types_of a) (children_of a) (Some s.0) (start_of a) = u ∙ ap (λ z. union (layout_type a) (types_of a) (children_of a) z (start_of a)) s.1 in
    ap (λ b. part_of f b o n) x ∙ ap (λ b. span_of (picks_in f b o n)) (sym x)

pub by-mode : (o : Option (List ℤ)) → (o ≡ None) ⊎ (o ≡ None → ⊥)
by-mode None = inl refl
by-mode (Some os) = inr (λ e. cc)

-- each pick is in its part
pub pick-inside : (f : ℕ) (a : Layout) (o n j q : ℕ) → TopFits a → IsUnionOf a → j < n → field_at a (o + j) ≡ Some f → q ≡ union_index (union_offsets_of a) (start_of a) (o + j)
    → ((part_of f a o n).0 ≤ q) × (q < (part_of f a o n).0 + (part_of f a o n).1)
pick-inside f a o n j q h u l e p = go (by-mode (union_offsets_of a))
  where
    go : (union_offsets_of a ≡ None) ⊎ (union_offsets_of a ≡ None → ⊥) → ((part_of f a o n).0 ≤ q) × (q < (part_of f a o n).0 + (part_of f a o n).1)
    go (inl s) =
        let x = sparse-part f a o n u s (omega arith) in
        let y = p ∙ ap (λ z. union_index z (start_of a) (o + j)) s in
        let v = ap (λ z. z.0) x in
        let w = ap (λ z. z.1) x in
        (omega (arith, y, v), omega (arith, y, v, w, l))
    go (inr d) =
        let x = dense-part f a o n u d in
        let i : IsIn q (picks_in f a o n) = in-range (pick_at f a) q o n j l (subst (IsIn q) (sym (pick-yes f a (o + j) e)) (inl (sym p))) in
        let v = ap (λ z. z.0) x in
        let w = ap (λ z. z.1) x in
        let low = in-lowest q (picks_in f a o n) i in
        let high = in-behind q (picks_in f a o n) i in
        (omega (arith, v, low), omega (arith, v, w, low, high))

-- each part is in its field
pub covers-at : (cs : Layouts) (n f : ℕ) → EachCovers cs n → f < count_layouts cs → n ≤ len (child_at cs f)
covers-at no_layouts n f h l = absurd (omega arith)
covers-at (more_layouts c cs) n zero h l = h.0
covers-at (more_layouts c cs) n (suc f) h l = covers-at cs n f h.1 (omega arith)

pub part-inside : (f : ℕ) (a : Layout) (o n : ℕ) → TopFits a → IsUnionOf a → f < count_layouts (children_of a) → o + n ≤ len a → (part_of f a o n).0 + (part_of f a o n).1 ≤ len (child_at (children_of a) f)
part-inside f a o n h u l k = go (by-mode (union_offsets_of a))
  where
    some : (m : ℕ) → o + m ≤ len a → union_offsets_of a ≡ None → (part_of f a o m).0 + (part_of f a o m).1 ≤ len (child_at (children_of a) f)
    some zero b s = let x = sparse-none f a o u s in omega (arith, ap (λ z. z.0) x, ap (λ z. z.1) x)
    some (suc m) b s =
        let x = sparse-part f a o (suc m) u s (omega arith) in
        let there = subst (λ z. SlotsThere (ids_of (layout_type a)) (types_of a) (children_of a) z (start_of a)) s (facts-of a h u).slots_there in
        let c = covers-at (children_of a) (start_of a + length (types_of a)) f there l in
        omega (arith, ap (λ z. z.0) x, ap (λ z. z.1) x, c, ap len u, b)

    go : (union_offsets_of a ≡ None) ⊎ (union_offsets_of a ≡ None → ⊥) → (part_of f a o n).0 + (part_of f a o n).1 ≤ len (child_at (children_of a) f)
    go (inl s) = some n k s
    go (inr d) =
        let x = dense-part f a o n u d in
        omega (arith, ap (λ z. z.0) x, ap (λ z. z.1) x, lowest-behind (picks_in f a o n), picks-bound f a o n h u k)

-- unions of one data type are of one mode
pub mode-none : (os : Option (List ℤ)) (d : Bool) → OffsetsByMode os d → os ≡ None → d ≡ false
mode-none None d h e = h
mode-none (Some os) d h e = cc

pub none-mode : (os : Option (List ℤ)) (d : Bool) → OffsetsByMode os d → d ≡ false → os ≡ None
none-mode None d h e = refl
none-mode (Some os) d h e = cc

pub same-mode : (a b : Layout) → TopFits a → TopFits b → IsUnionOf a → IsUnionOf b → logical_type (layout_type a) ≡ logical_type (layout_type b) → union_offsets_of a ≡ None → union_offsets_of b ≡ None
same-mode a b h k u v e s =
    none-mode (union_offsets_of b) (is_dense (layout_type b)) (facts-of b k v).mode (sym (dense-alike (layout_type a) (layout_type b) e) ∙ mode-none (union_offsets_of a) (is_dense (layout_type a)) (facts-of a h u).mode s)
