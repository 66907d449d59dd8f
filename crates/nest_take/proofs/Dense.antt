-- Picks of taken fields, each at its offset.
use Rattle.std.specs.Prelude.{if◌then◌else◌, Option, Some, None, unwrap_or, nat_eq}
use Rattle.std.proofs.Common.{◌≡◌, ℕ, ℤ, pos, zero, suc, ◌+◌, ◌<◌, Bool, true, false, List, [], ◌∷◌, ◌++◌, take, get_or, length, refl, ap, sym, ◌∙◌, subst, arith, append_assoc}
use Rattle.std.proofs.lemmas.Bool.{eqb-true, eq-eqb}
use Rattle.std.proofs.lemmas.List.Elements.{All-from_get_or, All-nil, All-cons}
use Rattle.nest_memory.specs.TypeTree.{TypeTree, FieldTrees, no_fields, more_fields, fields_of, ids_of}
use Rattle.nest_model.specs.Accessors.{child_at}
use Rattle.nest_model.specs.Array.{TopFits}
use Rattle.nest_model.specs.FactLaws.{union-facts}
use Rattle.nest_model.specs.Fits.{Fits, Names, EachType, EachMeansField, MeansField, IdsCount, EachOffsetNames, child_len}
use Rattle.nest_model.specs.Layout.{Layout, Layouts, union, no_layouts, more_layouts, layout_type, count_layouts}
use Rattle.nest_model.specs.Meaning.{len, slot, of_field, picked}
use Rattle.nest_model.specs.Part.{to_index, field_named}
use Rattle.nest_model.specs.Reads.{union-slot, slot-place}
use Rattle.nest_model.specs.Slot as slots
use Rattle.nest_model.specs.Slot.{Slot}
use Rattle.nest_take.specs.Limits.{is_pick_of, picks_of}
use Rattle.nest_take.specs.Indices.{AreAt, AreBelow}
use Rattle.nest_take.specs.Taken.{IsTaken, EachPicked, pick_indices, field_at, offsets_after, offsets_in}
use Rattle.nest_take.proofs.At.{at-length, at-get}
use Rattle.nest_take.proofs.Nested.{taken-len, taken-slot}
use Rattle.nest_take.proofs.Rows.{taken}

means-pick : (f : ℕ) (o : Option ℕ) → o ≡ Some f → is_pick_of f o ≡ true
means-pick f o e = ap (is_pick_of f) e ∙ eq-eqb f f refl

-- one more pick, or none
pub picks-more : (ids : Option (List ℤ)) (ks os : List ℤ) (f : ℕ) (is : List ℕ) (i : ℕ)
    → picks_of ids ks os f (is ++ i ∷ []) ≡ (if is_pick_of f (field_named ids (get_or ks i (pos 0))) then picks_of ids ks os f is ++ to_index (get_or os i (pos 0)) ∷ [] else picks_of ids ks os f is)
picks-more ids ks os f [] i = refl
picks-more ids ks os f (j ∷ js) i =
    under (is_pick_of f (field_named ids (get_or ks j (pos 0)))) (is_pick_of f (field_named ids (get_or ks i (pos 0)))) (to_index (get_or os j (pos 0))) (to_index (get_or os i (pos 0))) _ _ (picks-more ids ks os f js i)
  where
    under : (b d : Bool) (x y : ℕ) (ps qs : List ℕ) → qs ≡ (if d then ps ++ y ∷ [] else ps)
        → (if b then x ∷ qs else qs) ≡ (if d then (if b then x ∷ ps else ps) ++ y ∷ [] else (if b then x ∷ ps else ps))
    under true true x y ps qs h = ap (◌∷◌ x) h
    under true false x y ps qs h = ap (◌∷◌ x) h
    under false true x y ps qs h = h
    under false false x y ps qs h = h

-- the pick of row j follows the earlier picks
pick-there : (b : Bool) (x : ℕ) (xs ys : List ℕ) → length xs < length ys → length (if b then x ∷ xs else xs) < length (if b then x ∷ ys else ys)
pick-there true x xs ys h = omega arith
pick-there false x xs ys h = h

pick-same : (b : Bool) (x : ℕ) (xs ys : List ℕ) (v : ℕ) → get_or ys (length xs) 0 ≡ v → get_or (if b then x ∷ ys else ys) (length (if b then x ∷ xs else xs)) 0 ≡ v
pick-same true x xs ys v h = h
pick-same false x xs ys v h = h

picks-first : (b : Bool) (x : ℕ) (xs : List ℕ) → b ≡ true → (0 < length (if b then x ∷ xs else xs)) × (get_or (if b then x ∷ xs else xs) 0 0 ≡ x)
picks-first true x xs h = (omega arith, refl)
picks-first false x xs h = absurd (let e = h in cc)

pub pick-at : (ids : Option (List ℤ)) (ks os : List ℤ) (f : ℕ) (is : List ℕ) (j : ℕ) → j < length is → field_named ids (get_or ks (get_or is j 0) (pos 0)) ≡ Some f
    → (length (picks_of ids ks os f (take j is)) < length (picks_of ids ks os f is))
    × (get_or (picks_of ids ks os f is) (length (picks_of ids ks os f (take j is))) 0 ≡ to_index (get_or os (get_or is j 0) (pos 0)))
pick-at ids ks os f [] j h e = absurd (omega arith)
pick-at ids ks os f (i ∷ is) zero h e = picks-first (is_pick_of f (field_named ids (get_or ks i (pos 0)))) (to_index (get_or os i (pos 0))) (picks_of ids ks os f is) (means-pick f _ e)
pick-at ids ks os f (i ∷ is) (suc j) h e =
    let b = is_pick_of f (field_named ids (get_or ks i (pos 0))) in
    let x = to_index (get_or os i (pos 0)) in
    let r = pick-at ids ks os f is j (omega arith) e in
    (pick-there b x (picks_of ids ks os f (take j is)) (picks_of ids ks os f is) r.0, pick-same b x (picks_of ids ks os f (take j is)) (picks_of ids ks os f is) _ r.1)

-- the offsets of the picks
offsets-count : (a : Layout) (before is : List ℕ) → length (offsets_after a before is) ≡ length is
offsets-count a before [] = refl
offsets-count a before (i ∷ is) = ap suc (offsets-count a (before ++ i ∷ []) is)

offset-from : (a : Layout) (before is : List ℕ) (j : ℕ) → j < length is
    → get_or (offsets_after a before is) j (pos 0) ≡ pos (length (pick_indices a (unwrap_or (field_at a (get_or is j 0)) 0) (before ++ take j is)))
offset-from a before [] j h = absurd (omega arith)
offset-from a before (i ∷ is) zero h = ap (λ z. pos (length (pick_indices a (unwrap_or (field_at a i) 0) z))) (sym (whole before))
  where
    whole : (xs : List ℕ) → xs ++ [] ≡ xs
    whole [] = refl
    whole (x ∷ xs) = ap (◌∷◌ x) (whole xs)
offset-from a before (i ∷ is) (suc j) h =
    offset-from a (before ++ i ∷ []) is j (omega arith)
    ∙ ap (λ z. pos (length (pick_indices a (unwrap_or (field_at a (get_or is j 0)) 0) z))) (append_assoc before (i ∷ []) (take j is))

pub offsets-length : (a : Layout) (is : List ℕ) → length (offsets_in a is) ≡ length is
offsets-length a is = offsets-count a [] is

pub offset-at : (a : Layout) (is : List ℕ) (j f : ℕ) → j < length is → field_at a (get_or is j 0) ≡ Some f → get_or (offsets_in a is) j (pos 0) ≡ pos (length (pick_indices a f (take j is)))
offset-at a is j f h e = offset-from a [] is j h ∙ ap (λ o. pos (length (pick_indices a (unwrap_or o 0) (take j is)))) e

-- picked indices are in bounds
picks-below : (ids : Option (List ℤ)) (ks os : List ℤ) (f n m : ℕ) (is : List ℕ) → AreBelow is n → ((i : ℕ) → i < n → field_named ids (get_or ks i (pos 0)) ≡ Some f → to_index (get_or os i (pos 0)) < m)
    → AreBelow (picks_of ids ks os f is) m
picks-below ids ks os f n m [] b h = All-nil (λ p. p < m)
picks-below ids ks os f n m (i ∷ is) b h =
    some (field_named ids (get_or ks i (pos 0))) (to_index (get_or os i (pos 0))) (picks_of ids ks os f is) (λ e. h i (b 0 0 (omega arith)) e) (picks-below ids ks os f n m is (λ j d l. b (suc j) d (omega arith)) h)
  where
    add : (d : Bool) (x : ℕ) (xs : List ℕ) → (d ≡ true → x < m) → AreBelow xs m → AreBelow (if d then x ∷ xs else xs) m
    add true x xs k l = All-cons (λ p. p < m) x xs (k refl) l
    add false x xs k l = l

    some : (o : Option ℕ) (x : ℕ) (xs : List ℕ) → (o ≡ Some f → x < m) → AreBelow xs m → AreBelow (if is_pick_of f o then x ∷ xs else xs) m
    some None x xs k l = l
    some (Some g) x xs k l = add (nat_eq f g) x xs (λ e. k (ap Some (sym (eqb-true f g e)))) l

pub pick-indices-below : (t : TypeTree) (ks os : List ℤ) (cs : Layouts) (start f : ℕ) (is : List ℕ) → TopFits (union t ks cs (Some os) start) → AreBelow is (length ks)
    → AreBelow (pick_indices (union t ks cs (Some os) start) f is) (len (child_at cs f))
pick-indices-below t ks os cs start f is h b =
    picks-below (ids_of t) ks os f (length ks) (len (child_at cs f)) is b
    (λ i l e.
    let p = union-slot t ks cs (Some os) start i h l in
    let q = p.1.means in
    let r : p.0 ≡ f = cc in
    subst (λ z. to_index (get_or os i (pos 0)) < len (child_at cs z)) r p.1.slot_there)

-- one of the taken children
child-picked : (P : ℕ → List ℕ) (cs ds : Layouts) (k f : ℕ) → EachPicked P k cs ds → f < count_layouts cs → IsTaken (child_at cs f) (P (k + f)) (child_at ds f)
child-picked P no_layouts ds k f t h = absurd (omega arith)
child-picked P (more_layouts c cs) no_layouts k f t h = absurd t
child-picked P (more_layouts c cs) (more_layouts d ds) k zero t h = let e : k ≡ k + 0 = omega arith in subst (λ z. IsTaken c (P z) d) e t.0
child-picked P (more_layouts c cs) (more_layouts d ds) k (suc f) t h =
    let e : suc k + f ≡ k + suc f = omega arith in
    subst (λ z. IsTaken (child_at cs f) (P z) (child_at ds f)) e (child-picked P cs ds (suc k) f t.1 (omega arith))

picked-count : (P : ℕ → List ℕ) (cs ds : Layouts) (k : ℕ) → EachPicked P k cs ds → count_layouts ds ≡ count_layouts cs
picked-count P no_layouts no_layouts k t = refl
picked-count P no_layouts (more_layouts d ds) k t = absurd t
picked-count P (more_layouts c cs) no_layouts k t = absurd t
picked-count P (more_layouts c cs) (more_layouts d ds) k t = ap suc (picked-count P cs ds (suc k) t.1)

picked-type : (fs : FieldTrees) (P : ℕ → List ℕ) (cs ds : Layouts) (k : ℕ) → EachType fs cs → EachPicked P k cs ds → EachType fs ds
picked-type no_fields P no_layouts no_layouts k h t = tt
picked-type fs P no_layouts (more_layouts d ds) k h t = absurd t
picked-type fs P (more_layouts c cs) no_layouts k h t = absurd t
picked-type no_fields P (more_layouts c cs) (more_layouts d ds) k h t = absurd h
picked-type (more_fields f fs) P no_layouts no_layouts k h t = absurd h
picked-type (more_fields f fs) P (more_layouts c cs) (more_layouts d ds) k h t = (t.0.same_type ∙ h.0, picked-type fs P cs ds (suc k) h.1 t.1)

picked-slot : (f : ℕ) (cs : Layouts) (k i : ℕ) → k < count_layouts cs → picked f cs k i ≡ slots.pick f (layout_type (child_at cs k)) (slot (child_at cs k) i)
picked-slot f no_layouts k i h = absurd (omega arith)
picked-slot f (more_layouts c cs) zero i h = refl
picked-slot f (more_layouts c cs) (suc k) i h = picked-slot f cs k i (omega arith)

child-len : (cs : Layouts) (f : ℕ) → f < count_layouts cs → child_len cs (Some f) ≡ len (child_at cs f)
child-len no_layouts f h = absurd (omega arith)
child-len (more_layouts c cs) zero h = refl
child-len (more_layouts c cs) (suc f) h = child-len cs f (omega arith)

-- row j of the taken picks
record IsPicked (t : TypeTree) (ks xs os : List ℤ) (cs ds : Layouts) (start : ℕ) (is : List ℕ) (j f : ℕ) : Type 0 where
  pub means : field_named (ids_of t) (get_or xs j (pos 0)) ≡ Some f
  pub field_there : f < count_layouts cs
  pub offset : get_or (offsets_in (union t ks cs (Some os) start) is) j (pos 0) ≡ pos (length (pick_indices (union t ks cs (Some os) start) f (take j is)))
  pub there : length (pick_indices (union t ks cs (Some os) start) f (take j is)) < len (child_at ds f)
  pub same : slots.pick f (layout_type (child_at ds f)) (slot (child_at ds f) (length (pick_indices (union t ks cs (Some os) start) f (take j is)))) ≡ slot (union t ks cs (Some os) start) (get_or is j 0)

row-picked : (t : TypeTree) (ks xs os : List ℤ) (cs ds : Layouts) (start : ℕ) (is : List ℕ) → TopFits (union t ks cs (Some os) start) → AreBelow is (length ks)
    → AreAt ks is xs → EachPicked (λ f. pick_indices (union t ks cs (Some os) start) f is) 0 cs ds → (j : ℕ) → j < length is → (f : ℕ) × IsPicked t ks xs os cs ds start is j f
row-picked t ks xs os cs ds start is h b p g j k =
    let a = union t ks cs (Some os) start in
    let i = get_or is j 0 in
    let s = union-slot t ks cs (Some os) start i h (b j 0 k) in
    let f = s.0 in
    let q = pick-at (ids_of t) ks os f is j k s.1.means in
    let m = length (pick_indices a f (take j is)) in
    let c = child-picked (λ z. pick_indices a z is) cs ds 0 f g s.1.field_there in
    let c' : IsTaken (child_at cs f) (pick_indices a f is) (child_at ds f) = let z : 0 + f ≡ f = omega arith in subst (λ y. IsTaken (child_at cs f) (pick_indices a y is) (child_at ds f)) z c in
    let l = taken-len (child_at cs f) (child_at ds f) (pick_indices a f is) c' in
    let e = taken-slot (child_at cs f) (child_at ds f) (pick_indices a f is) m c' (pick-indices-below t ks os cs start f is h b) q.0 in (
      f,
      record {
        means = ap (field_named (ids_of t)) (at-get ks is xs j (pos 0) p k) ∙ s.1.means;
        field_there = s.1.field_there;
        offset = offset-at a is j f k s.1.means;
        there = let y = q.0 in omega arith;
        same = ap (λ z. slots.pick f z (slot (child_at ds f) m)) c'.same_type
            ∙ ap (slots.pick f (layout_type (child_at cs f))) (e ∙ ap (slot (child_at cs f)) q.1 ∙ sym (slot-place (child_at cs f) (to_index (get_or os i (pos 0))) slots.null s.1.slot_there))
            ∙ sym s.1.picks;
      },
    )

dense-core : (t : TypeTree) (ks xs os : List ℤ) (cs ds : Layouts) (start : ℕ) (is : List ℕ) → TopFits (union t ks cs (Some os) start) → AreBelow is (length ks)
    → AreAt ks is xs → EachPicked (λ f. pick_indices (union t ks cs (Some os) start) f is) 0 cs ds
    → Fits (union t xs ds (Some (offsets_in (union t ks cs (Some os) start) is)) 0)
    × IsTaken (union t ks cs (Some os) start) is (union t xs ds (Some (offsets_in (union t ks cs (Some os) start) is)) 0)
dense-core t ks xs os cs ds start is h b p g =
    let a = union t ks cs (Some os) start in
    let ns = offsets_in a is in
    let P = λ (f : ℕ). pick_indices a f is in
    let f = union-facts t ks cs (Some os) start h in
    let n = picked-count P cs ds 0 g in
    let l = at-length ks is xs p in
    let row = row-picked t ks xs os cs ds start is h b p g in
    let m : EachMeansField (ids_of t) xs (count_layouts ds) =
    All-from_get_or (λ z. MeansField (field_named (ids_of t) z) (count_layouts ds)) xs (pos 0)
    (λ j k.
    let q : j < length is = omega arith in
    let r = row j q in
    subst (λ o. MeansField o (count_layouts ds)) (sym r.1.means) (subst (λ z. r.0 < z) (sym n) r.1.field_there))
    in
    let o : EachOffsetNames (ids_of t) xs ns ds =
    λ j k.
    let q : j < length is = omega arith in
    let r = row j q in
    let w : r.0 < count_layouts ds = let z = r.1.field_there in omega arith in
    let y : child_len ds (field_named (ids_of t) (get_or xs j (pos 0))) ≡ len (child_at ds r.0) = ap (child_len ds) r.1.means ∙ child-len ds r.0 w in
    subst (λ z. Names z (child_len ds (field_named (ids_of t) (get_or xs j (pos 0))))) (sym r.1.offset)
    (subst (λ z. length (pick_indices a r.0 (take j is)) < z) (sym y) r.1.there)
    in
    let fits : Fits (union t xs ds (Some ns) 0) =
    (f.typed, (n ∙ f.as_many, (let z = f.at_most in omega arith, (picked-type (fields_of t) P cs ds 0 f.each_type g, (offsets-length a is ∙ sym l, (f.mode, (subst (IdsCount (ids_of t)) (sym n) f.ids, (f.ids_in_range, (m, (o, tt)))))))))) in (
      fits,
      taken a (union t xs ds (Some ns) 0) is b l
          (λ j k.
          let r = row j k in
          let w : r.0 < count_layouts ds = let z = r.1.field_there in omega arith in
          ap (λ z. of_field z (λ q. picked q ds q (to_index (get_or ns j (pos 0))))) r.1.means
          ∙ ap (λ z. picked r.0 ds r.0 (to_index z)) r.1.offset
          ∙ picked-slot r.0 ds r.0 (length (pick_indices a r.0 (take j is))) w
          ∙ r.1.same)
          refl,
    )

pub dense-taken : (a : Layout) (u : TypeTree) (ks xs os ns : List ℤ) (cs ds : Layouts) (start : ℕ) (is : List ℕ) → TopFits a → a ≡ union (layout_type a) ks cs (Some os) start → AreBelow is (len a)
    → u ≡ layout_type a → AreAt ks is xs → ns ≡ offsets_in a is → EachPicked (λ f. pick_indices a f is) 0 cs ds
    → Fits (union u xs ds (Some ns) 0) × IsTaken a is (union u xs ds (Some ns) 0)
dense-taken a u ks xs os ns cs ds start is h e b p q o g =
    let t = layout_type a in
    let d = union t ks cs (Some os) start in
    let x = dense-core t ks xs os cs ds start is (subst TopFits e h) (subst (λ z. AreBelow is (len z)) e b) q (subst (λ z. EachPicked (λ f. pick_indices z f is) 0 cs ds) e g) in
    let n : offsets_in d is ≡ ns = ap (λ z. offsets_in z is) (sym e) ∙ sym o in
    let y : union t xs ds (Some (offsets_in d is)) 0 ≡ union u xs ds (Some ns) 0 = cc in
    subst (λ z. Fits z × IsTaken a is z) y (subst (λ z. Fits (union t xs ds (Some (offsets_in d is)) 0) × IsTaken z is (union t xs ds (Some (offsets_in d is)) 0)) (sym e) x)
