-- Values looked up by taken keys, and picks of taken fields.
use Rattle.std.specs.Prelude.{if◌then◌else◌, Option, Some, None}
use Rattle.std.proofs.Common.{◌≡◌, ℕ, ℤ, pos, negsuc, zero, suc, ◌+◌, ◌<◌, ◌≤◌, Bool, true, false, List, map, get_or, length, refl, ap, sym, ◌∙◌, subst, arith}
use Rattle.std.proofs.lemmas.List.Elements.{All-get_or, All-from_get_or}
use Rattle.std.proofs.lemmas.List.{get_or-map, length-map}
use Rattle.nest_memory.specs.TypeTree.{TypeTree, fields_of, ids_of}
use Rattle.nest_model.specs.Accessors.{validity_of, key_at, raw_keys}
use Rattle.nest_model.specs.Array.{TopFits}
use Rattle.nest_model.specs.FactLaws.{dictionary-facts, union-facts}
use Rattle.nest_model.specs.Fits.{Fits, Names, KeysInRange, EachLen, EachCovers, EachMeansField, MeansField, IdsCount}
use Rattle.nest_model.specs.Layout.{Layout, Layouts, dictionary, union, no_layouts, more_layouts, layout_type, count_layouts}
use Rattle.nest_model.specs.Meaning.{len, slot, of_field, picked, union_index}
use Rattle.nest_model.specs.Part.{valid_at, to_index, field_named}
use Rattle.nest_model.specs.Slot as slots
use Rattle.nest_model.specs.Slot.{Slot}
use Rattle.nest_take.specs.Indices.{AreAt, AreBelow}
use Rattle.nest_take.specs.Taken.{IsTaken, EachReaches, EachTaken}
use Rattle.nest_take.specs.TakenKeys.{AreKeysAt, raw_at}
use Rattle.nest_take.proofs.At.{at-valid, at-length, at-get}
use Rattle.nest_take.proofs.Flats.{mask-same}
use Rattle.nest_take.proofs.Nested.{each-count, each-type, each-len, taken-slot}
use Rattle.nest_take.proofs.Rows.{taken}

names-place : (z : ℤ) (n : ℕ) → Names z n → to_index z < n
names-place (pos k) n h = h
names-place (negsuc k) n h = absurd h

raw-names : (b : Bool) (z : ℤ) (n : ℕ) → 0 < n → (b ≡ true → Names z n) → Names (if b then z else pos 0) n
raw-names true z n h f = f refl
raw-names false z n h f = h

raw-valid : (ks : Layout) (i : ℕ) → valid_at (validity_of ks) i ≡ true → raw_at ks i ≡ key_at ks i
raw-valid ks i h = ap (λ b. if b then key_at ks i else pos 0) h

keyed-core : (t : TypeTree) (ks c new : Layout) (is : List ℕ) → TopFits (dictionary t ks c) → AreBelow is (len ks) → AreKeysAt ks is new
    → Fits (dictionary t new c) × IsTaken (dictionary t ks c) is (dictionary t new c)
keyed-core t ks c new is h b g =
    let f = dictionary-facts t ks c h in
    let va = validity_of ks in
    let range : KeysInRange new (len c) = λ some.
    let i = some.0 in
    let l : i < length is = let a = g.count in let z = some.1 in omega arith in
    let v : valid_at va (get_or is i 0) ≡ true = sym (ap (λ z. valid_at z i) g.validity ∙ at-valid va is i l) ∙ some.2 in
    let p = names-place (key_at ks (get_or is i 0)) (len c) (f.in_range (get_or is i 0) (b i 0 l) v) in
    All-from_get_or (λ z. Names z (len c)) (raw_keys new) (pos 0)
    (λ j k.
    let m : j < length is = let a = g.raw_count in omega arith in
    subst (λ z. Names z (len c)) (sym (g.raw j m)) (raw-names (valid_at va (get_or is j 0)) (key_at ks (get_or is j 0)) (len c) (omega arith) (f.in_range (get_or is j 0) (b j 0 m))))
    in (
      (f.typed, (f.key_typed ∙ sym g.same_width, (f.value_typed, (range, tt)))),
      taken (dictionary t ks c) (dictionary t new c) is b g.count
          (λ j k.
          let i = get_or is j 0 in
          mask-same va (validity_of new) is j (slot c (to_index (key_at new j))) (slot c (to_index (key_at ks i))) g.validity k
          (λ v. ap (λ z. slot c (to_index z)) (g.raw j k ∙ raw-valid ks i v)))
          refl,
    )

pub keyed-taken : (a : Layout) (u : TypeTree) (ks c d new : Layout) (is : List ℕ) → TopFits a → a ≡ dictionary (layout_type a) ks c → AreBelow is (len a)
    → u ≡ layout_type a → d ≡ c → AreKeysAt ks is new → Fits (dictionary u new d) × IsTaken a is (dictionary u new d)
keyed-taken a u ks c d new is h e b p q g =
    let t = layout_type a in
    let x = keyed-core t ks c new is (subst TopFits e h) (subst (λ z. AreBelow is (len z)) e b) g in
    let y : dictionary t new c ≡ dictionary u new d = cc in
    subst (λ z. Fits z × IsTaken a is z) y (subst (λ z. Fits (dictionary t new c) × IsTaken z is (dictionary t new c)) (sym e) x)

-- a sparse union
abbrev pub shifted : ℕ → List ℕ → List ℕ
shifted start is = map (λ i. start + i) is

shifted-below : (start n : ℕ) (is : List ℕ) → AreBelow is n → AreBelow (shifted start is) (start + n)
shifted-below start n is h j d k =
    let l : j < length is = let e = length-map is (λ i. start + i) in omega arith in
    let e = get_or-map (λ i. start + i) is j 0 d l in
    let a = h j 0 l in
    omega arith

covers-reaches : (cs : Layouts) (n : ℕ) (is : List ℕ) → EachCovers cs n → AreBelow is n → EachReaches cs is
covers-reaches no_layouts n is h b = tt
covers-reaches (more_layouts c cs) n is h b = (λ j d k. let a = b j d k in let e = h.0 in omega arith, covers-reaches cs n is h.1 b)

pub sparse-reaches : (cs : Layouts) (start n : ℕ) (is : List ℕ) → EachCovers cs (start + n) → AreBelow is n → EachReaches cs (shifted start is)
sparse-reaches cs start n is h b = covers-reaches cs (start + n) (shifted start is) h (shifted-below start n is b)

len-covers : (ds : Layouts) (n m : ℕ) → EachLen ds n → m ≤ n → EachCovers ds m
len-covers no_layouts n m h k = tt
len-covers (more_layouts d ds) n m h k = (let e = h.0 in omega arith, len-covers ds n m h.1 k)

picked-same : (f : ℕ) (cs ds : Layouts) (ps : List ℕ) (k j : ℕ) → EachReaches cs ps → EachTaken cs ps ds → j < length ps → picked f ds k j ≡ picked f cs k (get_or ps j 0)
picked-same f no_layouts no_layouts ps k j h t l = refl
picked-same f no_layouts (more_layouts d ds) ps k j h t l = absurd t
picked-same f (more_layouts c cs) no_layouts ps k j h t l = absurd t
picked-same f (more_layouts c cs) (more_layouts d ds) ps zero j h t l =
    ap (λ z. slots.pick f z (slot d j)) t.0.same_type ∙ ap (slots.pick f (layout_type c)) (taken-slot c d ps j t.0 h.0 l)
picked-same f (more_layouts c cs) (more_layouts d ds) ps (suc k) j h t l = picked-same f cs ds ps k j h.1 t.1 l

field-same : (o : Option ℕ) (cs ds : Layouts) (start : ℕ) (is : List ℕ) (j : ℕ) → EachReaches cs (shifted start is) → EachTaken cs (shifted start is) ds → j < length is
    → of_field o (λ f. picked f ds f (0 + j)) ≡ of_field o (λ f. picked f cs f (start + get_or is j 0))
field-same None cs ds start is j h t l = refl
field-same (Some f) cs ds start is j h t l =
    let k : j < length (shifted start is) = let e = length-map is (λ i. start + i) in omega arith in
    let z : 0 + j ≡ j = omega arith in
    ap (picked f ds f) z ∙ picked-same f cs ds (shifted start is) f j h t k ∙ ap (picked f cs f) (get_or-map (λ i. start + i) is j 0 0 l)

sparse-core : (t : TypeTree) (ks xs : List ℤ) (cs ds : Layouts) (start : ℕ) (is : List ℕ) → TopFits (union t ks cs None start) → AreBelow is (length ks)
    → AreAt ks is xs → EachTaken cs (shifted start is) ds
    → Fits (union t xs ds None 0) × IsTaken (union t ks cs None start) is (union t xs ds None 0)
sparse-core t ks xs cs ds start is h b p g =
    let f = union-facts t ks cs None start h in
    let ps = shifted start is in
    let r = sparse-reaches cs start (length ks) is f.slots_there b in
    let n = each-count cs ds ps g in
    let l = at-length ks is xs p in
    let m : EachMeansField (ids_of t) xs (count_layouts ds) =
    All-from_get_or (λ z. MeansField (field_named (ids_of t) z) (count_layouts ds)) xs (pos 0)
    (λ j k.
    let q : j < length is = omega arith in
    let w = All-get_or (λ z. MeansField (field_named (ids_of t) z) (count_layouts cs)) ks (get_or is j 0) (pos 0) (b j 0 q) f.each_means in
    subst (λ z. MeansField (field_named (ids_of t) z) (count_layouts ds)) (sym (at-get ks is xs j (pos 0) p q)) (subst (MeansField (field_named (ids_of t) (get_or ks (get_or is j 0) (pos 0)))) (sym n) w))
    in
    let e = length-map is (λ i. start + i) in
    let fits : Fits (union t xs ds None 0) =
    (f.typed, (n ∙ f.as_many, (let a = f.at_most in omega arith, (each-type (fields_of t) cs ds ps f.each_type g, (tt, (f.mode, (subst (IdsCount (ids_of t)) (sym n) f.ids, (f.ids_in_range, (m, (len-covers ds (length ps) (0 + length xs) (each-len cs ds ps g) (omega arith), tt))))))))))
    in (
      fits,
      taken (union t ks cs None start) (union t xs ds None 0) is b l
          (λ j k.
          ap (λ z. of_field (field_named (ids_of t) z) (λ q. picked q ds q (0 + j))) (at-get ks is xs j (pos 0) p k)
          ∙ field-same (field_named (ids_of t) (get_or ks (get_or is j 0) (pos 0))) cs ds start is j r g k)
          refl,
    )

pub sparse-taken : (a : Layout) (u : TypeTree) (ks xs : List ℤ) (cs ds : Layouts) (os : Option (List ℤ)) (start : ℕ) (is ps : List ℕ) → TopFits a → a ≡ union (layout_type a) ks cs os start → os ≡ None → AreBelow is (len a)
    → u ≡ layout_type a → AreAt ks is xs → ps ≡ map (union_index os start) is → EachTaken cs ps ds
    → Fits (union u xs ds None 0) × IsTaken a is (union u xs ds None 0)
sparse-taken a u ks xs cs ds os start is ps h e o b p q r g =
    let t = layout_type a in
    let e' = e ∙ ap (λ z. union t ks cs z start) o in
    let r' = r ∙ ap (λ z. map (union_index z start) is) o in
    let x = sparse-core t ks xs cs ds start is (subst TopFits e' h) (subst (λ z. AreBelow is (len z)) e' b) q (subst (λ z. EachTaken cs z ds) r' g) in
    let y : union t xs ds None 0 ≡ union u xs ds None 0 = cc in
    subst (λ z. Fits z × IsTaken a is z) y (subst (λ z. Fits (union t xs ds None 0) × IsTaken z is (union t xs ds None 0)) (sym e') x)
