-- The number of picks of each field by the first rows of a dense union.
use Rattle.std.specs.Prelude.{alloc_error, List as Seq, if◌then◌else◌, Option, Some, None, unwrap_or, nat_eq}
use Rattle.std.proofs.Common.{◌≡◌, ℕ, ℤ, pos, zero, suc, ◌+◌, ◌<◌, ◌≤◌, ◌⊎◌, inl, inr, Bool, true, false, List, [], ◌∷◌, ◌++◌, take, replicate, set, get_or, length, refl, ap, sym, ◌∙◌, subst, arith, append_assoc, length-append}
use Rattle.std.proofs.lemmas.Bool.{eq-eqb}
use Rattle.std.proofs.lemmas.Bool.Decides.{eqb_tells}
use Rattle.std.proofs.lemmas.List.{take_more, take_all, get_or-set_same, get_or-set_other}
use Rattle.nest_memory.specs.Rising.{largest_offset}
use Rattle.nest_memory.specs.TypeTree.{ids_of, TypeTree}
use Rattle.nest_model.specs.Accessors.{children_of, start_of, types_of, union_offsets_of, child_at}
use Rattle.nest_model.specs.Array.{TopFits}
use Rattle.nest_model.specs.FactLaws.{union-facts}
use Rattle.nest_model.specs.Layout.{Layout, Layouts, union, no_layouts, more_layouts, layout_type, count_layouts}
use Rattle.nest_model.specs.Meaning.{union_index, len}
use Rattle.nest_model.specs.Part.{field_named}
use Rattle.nest_take.specs.Limits.{PassesLimits, PicksPass, is_pick_of, picks_of}
use Rattle.nest_take.specs.Taken.{pick_indices, field_at, offsets_after, offsets_in, IsTaken, EachPicked, RefusesTake}
use Rattle.nest_array.specs.declared.any.AnyArray.{AnyArray}
use Rattle.nest_array.specs.Seen.{layout_of, layouts_of}
use Rattle.nest_memory.specs.declared.error.Error.{Error}
use Rattle.nest_memory.specs.declared.error.Error.TheVariants.{Memory, Overflow}
use Rattle.nest_model.specs.Fits.{Fits}
use Rattle.nest_take.specs.Indices.{AreAt, AreBelow}
use Rattle.nest_take.proofs.Children.{layout-at}
use Rattle.nest_take.proofs.Dense.{dense-taken, picks-more, pick-at, pick-indices-below}

dense-offsets : (o : Option (List ℤ)) → (o ≡ None → ⊥) → (os : List ℤ) × (o ≡ Some os)
dense-offsets None h = absurd (h refl)
dense-offsets (Some os) h = (os, refl)

-- facts about a dense union
pub record IsDense (a : Layout) : Type 0 where
  pub kind : a ≡ union (layout_type a) (types_of a) (children_of a) (union_offsets_of a) (start_of a)
  pub dense : union_offsets_of a ≡ None → ⊥

-- slot i picks field g at index p
pub record Picks (a : Layout) (i g p : ℕ) : Type 0 where
  pub field : field_named (ids_of (layout_type a)) (get_or (types_of a) i (pos 0)) ≡ Some g
  pub place : p ≡ union_index (union_offsets_of a) (start_of a) i

abbrev pub one_more : Bool → List ℕ → ℕ → List ℕ
one_more b ps p = if b then ps ++ p ∷ [] else ps

pub pick-step : (a : Layout) (f g p : ℕ) (is : List ℕ) (k : ℕ) → IsDense a → k < length is → Picks a (get_or is k 0) g p
    → pick_indices a f (take (k + 1) is) ≡ one_more (nat_eq f g) (pick_indices a f (take k is)) p
pick-step a f g p is k d h q =
    let o = dense-offsets (union_offsets_of a) d.dense in
    let t = layout_type a in
    let ks = types_of a in
    let i = get_or is k 0 in
    let u = union t ks (children_of a) (Some o.0) (start_of a) in
    let x : a ≡ u = d.kind ∙ ap (λ z. union t ks (children_of a) z (start_of a)) o.1 in
    let w : union_index (Some o.0) (start_of a) i ≡ p = ap (λ z. union_index z (start_of a) i) (sym o.1) ∙ sym q.place in
    ap (λ z. pick_indices z f (take (k + 1) is)) x
    ∙ ap (picks_of (ids_of t) ks o.0 f) (take_more is k 0 h)
    ∙ picks-more (ids_of t) ks o.0 f (take k is) i
    ∙ ap (λ z. one_more (is_pick_of f z) (picks_of (ids_of t) ks o.0 f (take k is)) (union_index (Some o.0) (start_of a) i)) q.field
    ∙ ap (one_more (nat_eq f g) (picks_of (ids_of t) ks o.0 f (take k is))) w
    ∙ ap (λ z. one_more (nat_eq f g) (pick_indices z f (take k is)) p) (sym x)

pub pick-yes : (a : Layout) (f g p : ℕ) (is : List ℕ) (k : ℕ) → IsDense a → k < length is → Picks a (get_or is k 0) g p → g ≡ f
    → pick_indices a f (take (k + 1) is) ≡ pick_indices a f (take k is) ++ p ∷ []
pick-yes a f g p is k d h q e = pick-step a f g p is k d h q ∙ ap (λ b. one_more b (pick_indices a f (take k is)) p) (eq-eqb f g (sym e))

pub pick-no : (a : Layout) (f g p : ℕ) (is : List ℕ) (k : ℕ) → IsDense a → k < length is → Picks a (get_or is k 0) g p → (g ≡ f → ⊥)
    → pick_indices a f (take (k + 1) is) ≡ pick_indices a f (take k is)
pick-no a f g p is k d h q e = go (eqb_tells f g)
  where
    go : ((nat_eq f g ≡ true) × (f ≡ g)) ⊎ ((nat_eq f g ≡ false) × (f ≡ g → ⊥)) → pick_indices a f (take (k + 1) is) ≡ pick_indices a f (take k is)
    go (inl t) = absurd (e (sym t.1))
    go (inr t) = pick-step a f g p is k d h q ∙ ap (λ b. one_more b (pick_indices a f (take k is)) p) t.0

-- counts of the picks of each field by the first rows, within the limit
pub record AreCounts (a : Layout) (is : List ℕ) (cs : List ℕ) : Type 0 where
  pub wide : length cs ≡ 128
  pub each : (f : ℕ) → get_or cs f 0 ≡ length (pick_indices a f is)

pub record AreFew (cs : List ℕ) : Type 0 where
  pub each : (f : ℕ) → get_or cs f 0 ≤ 2147483648

pub count-step : (a : Layout) (g p : ℕ) (is : List ℕ) (k : ℕ) (cs : List ℕ) → IsDense a → k < length is → Picks a (get_or is k 0) g p → g < 128
    → AreCounts a (take k is) cs → AreCounts a (take (k + 1) is) (set cs g (get_or cs g 0 + 1))
count-step a g p is k cs d h q l c =
    record { wide = let w = c.wide in length-set' cs g (get_or cs g 0 + 1) ∙ w; each = λ f. go f (eqb_tells g f) }
  where
    length-set' : (xs : List ℕ) (i v : ℕ) → length (set xs i v) ≡ length xs
    length-set' [] i v = refl
    length-set' (x ∷ xs) zero v = refl
    length-set' (x ∷ xs) (suc i) v = ap suc (length-set' xs i v)

    go : (f : ℕ) → ((nat_eq g f ≡ true) × (g ≡ f)) ⊎ ((nat_eq g f ≡ false) × (g ≡ f → ⊥)) → get_or (set cs g (get_or cs g 0 + 1)) f 0 ≡ length (pick_indices a f (take (k + 1) is))
    go f (inl t) =
        let m : g < length cs = let w = c.wide in omega arith in
        let x = get_or-set_same cs g (get_or cs g 0 + 1) 0 m in
        let y = ap length (pick-yes a f g p is k d h q t.1) in
        let z = length-append (pick_indices a f (take k is)) (p ∷ []) in
        let w = c.each f in
        let e = ap (λ j. get_or (set cs g (get_or cs g 0 + 1)) j 0) (sym t.1) in
        let v = ap (λ j. get_or cs j 0) t.1 in
        omega arith
    go f (inr t) = get_or-set_other cs g f (get_or cs g 0 + 1) 0 (λ e. t.1 (sym e)) ∙ c.each f ∙ ap length (sym (pick-no a f g p is k d h q t.1))

pub few-step : (cs : List ℕ) (g v : ℕ) → v ≤ 2147483648 → AreFew cs → AreFew (set cs g v)
few-step cs g v h c = record { each = λ f. go cs g f c.each }
  where
    go : (xs : List ℕ) (i f : ℕ) → ((f : ℕ) → get_or xs f 0 ≤ 2147483648) → get_or (set xs i v) f 0 ≤ 2147483648
    go [] i f k = k f
    go (x ∷ xs) zero zero k = h
    go (x ∷ xs) zero (suc f) k = k (suc f)
    go (x ∷ xs) (suc i) zero k = k 0
    go (x ∷ xs) (suc i) (suc f) k = go xs i f (λ j. k (suc j))

pub few-all : (a : Layout) (is : List ℕ) (k : ℕ) (cs : List ℕ) → length is ≤ k → AreCounts a (take k is) cs → AreFew cs → (f : ℕ) → length (pick_indices a f is) ≤ 2147483648
few-all a is k cs h c w f =
    let e = ap (λ z. length (pick_indices a f z)) (take_all k is h) in
    let x = c.each f in
    let y = w.each f in
    omega arith

-- one more row is one more pick
pub pick-later : (a : Layout) (g p : ℕ) (is : List ℕ) (k : ℕ) → IsDense a → k < length is → Picks a (get_or is k 0) g p
    → length (pick_indices a g (take k is)) < length (pick_indices a g is)
pick-later a g p is k d h q =
    let o = dense-offsets (union_offsets_of a) d.dense in
    let t = layout_type a in
    let u = union t (types_of a) (children_of a) (Some o.0) (start_of a) in
    let x : u ≡ a = sym (d.kind ∙ ap (λ z. union t (types_of a) (children_of a) z (start_of a)) o.1) in
    subst (λ z. length (pick_indices z g (take k is)) < length (pick_indices z g is)) x (pick-at (ids_of t) (types_of a) o.0 g is k h q.field).0

-- so one more pick after a full count passes the limit
passes-from : (P : ℕ → List ℕ) (cs : Layouts) (k f : ℕ) → f < count_layouts cs → largest_offset false + 1 < length (P (k + f)) → PicksPass P k cs
passes-from P no_layouts k f h l = absurd (omega arith)
passes-from P (more_layouts c cs) k zero h l = inl (let e : k + 0 ≡ k = omega arith in subst (λ z. largest_offset false + 1 < length (P z)) e l)
passes-from P (more_layouts c cs) k (suc f) h l =
    let e : k + suc f ≡ suc k + f = omega arith in
    inr (inr (passes-from P cs (suc k) f (omega arith) (subst (λ z. largest_offset false + 1 < length (P z)) e l)))

pub full-passes : (a : Layout) (g p : ℕ) (is : List ℕ) (k : ℕ) (cs : List ℕ) → IsDense a → k < length is → Picks a (get_or is k 0) g p → g < count_layouts (children_of a)
    → AreCounts a (take k is) cs → 2147483647 < get_or cs g 0 → PicksPass (λ f. pick_indices a f is) 0 (children_of a)
full-passes a g p is k cs d h q l c m =
    let x = pick-later a g p is k d h q in
    let y = c.each g in
    let z : 2147483647 + 1 < length (pick_indices a g is) = omega arith in
    let e : g ≡ 0 + g = omega arith in
    passes-from (λ f. pick_indices a f is) (children_of a) 0 g l (subst (λ j. 2147483647 + 1 < length (pick_indices a j is)) e z)

-- the offset of one more pick
after-more : (a : Layout) (before is : List ℕ) (i : ℕ) → offsets_after a before (is ++ i ∷ []) ≡ offsets_after a before is ++ pos (length (pick_indices a (unwrap_or (field_at a i) 0) (before ++ is))) ∷ []
after-more a before [] i = ap (λ z. pos (length (pick_indices a (unwrap_or (field_at a i) 0) z)) ∷ []) (sym (whole before))
  where
    whole : (xs : List ℕ) → xs ++ [] ≡ xs
    whole [] = refl
    whole (x ∷ xs) = ap (◌∷◌ x) (whole xs)
after-more a before (j ∷ js) i =
    ap (◌∷◌ (pos (length (pick_indices a (unwrap_or (field_at a j) 0) before))))
    (after-more a (before ++ j ∷ []) js i
    ∙ ap (λ z. offsets_after a (before ++ j ∷ []) js ++ pos (length (pick_indices a (unwrap_or (field_at a i) 0) z)) ∷ []) (append_assoc before (j ∷ []) js))

pub offset-more : (a : Layout) (g p : ℕ) (is : List ℕ) (k : ℕ) → k < length is → Picks a (get_or is k 0) g p
    → offsets_in a (take (k + 1) is) ≡ offsets_in a (take k is) ++ pos (length (pick_indices a g (take k is))) ∷ []
offset-more a g p is k h q =
    ap (offsets_in a) (take_more is k 0 h)
    ∙ after-more a [] (take k is) (get_or is k 0)
    ∙ ap (λ o. offsets_in a (take k is) ++ pos (length (pick_indices a (unwrap_or o 0) (take k is))) ∷ []) q.field

-- the same limits, for the layout of the union
pub dense-passes : (a : Layout) (is : List ℕ) → IsDense a → PicksPass (λ f. pick_indices a f is) 0 (children_of a) → PassesLimits a is
dense-passes a is d h =
    let o = dense-offsets (union_offsets_of a) d.dense in
    let t = layout_type a in
    let u = union t (types_of a) (children_of a) (Some o.0) (start_of a) in
    let x : a ≡ u = d.kind ∙ ap (λ z. union t (types_of a) (children_of a) z (start_of a)) o.1 in
    let y = subst (λ z. PicksPass (λ f. pick_indices z f is) 0 (children_of z)) x h in
    subst (λ z. PassesLimits z is) (sym x) y

-- before the first row
no-picks : (a : Layout) (f : ℕ) → IsDense a → pick_indices a f [] ≡ []
no-picks a f d =
    let o = dense-offsets (union_offsets_of a) d.dense in
    ap (λ z. pick_indices z f []) (d.kind ∙ ap (λ z. union (layout_type a) (types_of a) (children_of a) z (start_of a)) o.1)

zero-at : (n f : ℕ) → get_or {A = ℕ} (replicate n 0) f 0 ≡ 0
zero-at zero f = refl
zero-at (suc n) zero = refl
zero-at (suc n) (suc f) = zero-at n f

zeros : (n : ℕ) → length {A = ℕ} (replicate n 0) ≡ n
zeros zero = refl
zeros (suc n) = ap suc (zeros n)

pub counts-none : (a : Layout) (cs : List ℕ) → IsDense a → cs ≡ replicate 128 0 → AreCounts a [] cs
counts-none a cs d e = record { wide = ap length e ∙ zeros 128; each = λ f. ap (λ z. get_or z f 0) e ∙ zero-at 128 f ∙ sym (ap length (no-picks a f d)) }

pub few-none : (cs : List ℕ) → cs ≡ replicate 128 0 → AreFew cs
few-none cs e = record { each = λ f. let x = ap (λ z. get_or z f 0) e ∙ zero-at 128 f in omega arith }

-- the fields of a union fit the table of counts
pub field-below : (a : Layout) (g : ℕ) → TopFits a → IsDense a → g < count_layouts (children_of a) → g < 128
field-below a g h d l =
    let f = union-facts (layout_type a) (types_of a) (children_of a) (union_offsets_of a) (start_of a) (subst TopFits d.kind h) in
    let m = f.at_most in
    omega arith

-- the result, and its errors
pub dense-made : (a : Layout) (u : TypeTree) (xs ns : List ℤ) (ds : Layouts) (is : List ℕ) → TopFits a → IsDense a → AreBelow is (len a) → u ≡ layout_type a
    → AreAt (types_of a) is xs → ns ≡ offsets_in a is → EachPicked (λ f. pick_indices a f is) 0 (children_of a) ds
    → Fits (union u xs ds (Some ns) 0) × IsTaken a is (union u xs ds (Some ns) 0)
dense-made a u xs ns ds is h d b p q o g =
    let s = dense-offsets (union_offsets_of a) d.dense in
    let t = layout_type a in
    let k : a ≡ union t (types_of a) (children_of a) (Some s.0) (start_of a) = d.kind ∙ ap (λ z. union t (types_of a) (children_of a) z (start_of a)) s.1 in
    dense-taken a u (types_of a) xs s.0 ns (children_of a) ds (start_of a) is h k b p q o g

pub dense-refuses : (a : Layout) (is : List ℕ) (e : Error) → IsDense a → (e ≡ Memory alloc_error) ⊎ ((e ≡ Overflow) × PicksPass (λ f. pick_indices a f is) 0 (children_of a)) → RefusesTake e a is
dense-refuses a is e d (inl m) = inl m
dense-refuses a is e d (inr p) = inr (p.0, dense-passes a is d p.1)

pub field-picks-below : (a : Layout) (xs : Seq AnyArray) (f : ℕ) (x : AnyArray) (is ps : List ℕ) → TopFits a → IsDense a → layouts_of xs ≡ children_of a → x ≡ get_or xs f x → f < length xs
    → AreBelow is (len a) → ps ≡ pick_indices a f is → AreBelow ps (len (layout_of x))
field-picks-below a xs f x is ps h d g s l b q =
    let o = dense-offsets (union_offsets_of a) d.dense in
    let t = layout_type a in
    let u = union t (types_of a) (children_of a) (Some o.0) (start_of a) in
    let k : a ≡ u = d.kind ∙ ap (λ z. union t (types_of a) (children_of a) z (start_of a)) o.1 in
    let r = pick-indices-below t (types_of a) o.0 (children_of a) (start_of a) f is (subst TopFits k h) (subst (λ z. AreBelow is (len z)) k b) in
    let p : pick_indices u f is ≡ ps = ap (λ z. pick_indices z f is) (sym k) ∙ sym q in
    let y : child_at (children_of a) f ≡ layout_of x = ap (λ z. child_at z f) (sym g) ∙ sym (layout-at xs f x l) ∙ sym (ap layout_of s) in
    subst (λ z. AreBelow ps (len z)) y (subst (λ z. AreBelow z (len (child_at (children_of a) f))) p r)
