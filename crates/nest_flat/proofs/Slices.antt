-- Arrays from slices: the items of an iterator, and builders after they are appended.
use mathlib.Core.Bool.{true≢false}
use Rattle.std.specs.Prelude.{ℤ, Result, Ok, Err, OnOk, IfOk, IfErr, MatchResult, Option, Some, None, is_some, option_map, nat_lt, if◌then◌else◌, ◌⊎◌, alloc_error}
use Rattle.std.specs.Borrow.{Bor}
use Rattle.std.specs.Iterator.{Drains, Yields}
use Rattle.std.specs.Option.{option_copied, unwrap_or}
use Rattle.std.proofs.Common.{◌≡◌, ℕ, zero, suc, ◌+◌, ◌<◌, ◌≤◌, Bool, true, false, List, [], ◌∷◌, ◌++◌, length, map, replicate, refl, ap, sym, ◌∙◌, subst, inl, inr, arith, append_assoc, map-id}
use Rattle.std.proofs.lemmas.Bool.{leb-true}
use Rattle.std.proofs.lemmas.Iterator.{YieldsList}
use Rattle.std.proofs.lemmas.Iterator.Consumers.{YieldsList-at}
use Rattle.std.proofs.lemmas.List.{length-append, append-nil}
use Rattle.std.proofs.iter.Yields.{gives_left, gives_Drains}
use Rattle.nest_memory.specs.Rising.{last_of, last_of-cons}
use Rattle.nest_memory.specs.TypeTree.{TypeTree}
use Rattle.nest_memory.specs.declared.datatypes.physical_type.PrimitiveType.{PrimitiveType}
use Rattle.nest_memory.specs.declared.error.Error.{Error}
use Rattle.nest_memory.specs.declared.error.Error.TheVariants.{Memory, Overflow}
use Rattle.nest_model.specs.Accessors.{offsets_of, validity_of}
use Rattle.nest_model.specs.BuilderItem.{byte_count, bytes_held}
use Rattle.nest_model.specs.BuilderRefusalLaws.{within}
use Rattle.nest_model.specs.Checks.{refuse_if, first_of, largest_length}
use Rattle.nest_model.specs.FlatReads.{boolean-slots, primitive-slots}
use Rattle.nest_model.specs.Layout.{Layout, boolean, primitive}
use Rattle.nest_model.specs.Meaning.{slots_of}
use Rattle.nest_model.specs.Part.{Validity, count_rows}
use Rattle.nest_model.specs.Slot as slots
use Rattle.nest_model.specs.Slot.{Slot}
use Rattle.nest_flat.specs.BytesGrowth.{Spans, item_bytes, item_refusal, pushed_item, pushed_span, spans, with_spans}
use Rattle.nest_flat.specs.FlatParts.{optional}
use Rattle.nest_flat.specs.Growth.{Extended, IsReportedError, native_refusal, pushed_all, pushed_native, pushed_boolean, pushed_validity, refusal_of_all, boolean_refusal, zeros}
use Rattle.nest_flat.specs.Slices.{has_null, option_bits}
use Rattle.nest_flat.proofs.BytesGrown.{SpansKind}
use Rattle.nest_flat.proofs.Refusing.{refusal-next}

none-some : {A : Type 0} {e : A} {P : Type 0} → None ≡ Some e → P
none-some h = absurd (true≢false (ap is_some (sym h)))

-- ---- the items of an iterator

given-all : {A T : Type 0} (steps : T → Option A → T → Type 0) (it : T) (xs all : List A) → YieldsList steps (λ x. x) it all → Drains steps it xs → xs ≡ all
given-all steps it xs all road d = sym (map-id xs) ∙ gives_Drains steps (λ x. x) xs all it road.runs d

pub extended-all : {A T X : Type 0} {B : T → Type 0} {steps : T → Option A → T → Type 0}
    (pushed : Layout → A → Layout) (refusal : Layout → A → Option Error) (slot_of_item : A → Slot) (old new : Layout) (r : Result X Error) (all : List A)
    → OnOk r ((xs : List A) × ((it : T) × B it × Drains steps it xs) × Extended pushed refusal slot_of_item xs old new)
    → ((it : T) → B it → YieldsList steps (λ x. x) it all) → OnOk r (Extended pushed refusal slot_of_item all old new)
extended-all {steps = steps} pushed refusal slot_of_item old new (Ok x) all h road =
    subst (λ xs. Extended pushed refusal slot_of_item xs old new) (given-all steps h.1.0 h.0 all (road h.1.0 h.1.1) h.1.2) h.2
extended-all pushed refusal slot_of_item old new (Err e) all h road = tt

pub extended-at : {A T X : Type 0} {steps : T → Option A → T → Type 0} {s : T}
    (pushed : Layout → A → Layout) (refusal : Layout → A → Option Error) (slot_of_item : A → Slot) (old new : Layout) (r : Result X Error) (all : List A)
    → OnOk r ((xs : List A) × ((it : T) × (it ≡ s) × Drains steps it xs) × Extended pushed refusal slot_of_item xs old new)
    → YieldsList steps (λ x. x) s all → OnOk r (Extended pushed refusal slot_of_item all old new)
extended-at pushed refusal slot_of_item old new r all h road = extended-all pushed refusal slot_of_item old new r all h (λ it e. YieldsList-at e road)

first-later : (r s t : Option Error) (e : Error) → first_of r s ≡ Some e → (s ≡ Some e → t ≡ Some e) → first_of r t ≡ Some e
first-later None s t e h f = f h
first-later (Some d) s t e h f = h

module _ {A : Type 0} (pushed : Layout → A → Layout) (refusal : Layout → A → Option Error) where
  -- an error of the first items is the error of all
  refused-more : (xs ys : List A) (a : Layout) (e : Error) → refusal_of_all pushed refusal a xs ≡ Some e → refusal_of_all pushed refusal a (xs ++ ys) ≡ Some e
  refused-more [] ys a e h = none-some h
  refused-more (x ∷ xs) ys a e h =
      first-later (refusal a x) (refusal_of_all pushed refusal (pushed a x) xs) (refusal_of_all pushed refusal (pushed a x) (xs ++ ys)) e h (refused-more xs ys (pushed a x) e)

  due-all : (front more all : List A) (next : A) (a : Layout) (e : Error) → all ≡ map (λ x. x) (front ++ next ∷ []) ++ more → refusal_of_all pushed refusal a front ≡ None
      → IsReportedError (refusal (pushed_all pushed a front) next) e → (refusal_of_all pushed refusal a all ≡ Some e) ⊎ (e ≡ Memory alloc_error)
  due-all front more all next a e whole n (inl h) =
      let p : all ≡ (front ++ next ∷ []) ++ more = whole ∙ ap (λ xs. xs ++ more) (map-id (front ++ next ∷ [])) in
      inl (ap (refusal_of_all pushed refusal a) p ∙ refused-more (front ++ next ∷ []) more a e (refusal-next pushed refusal front next a (pushed_all pushed a front) n refl ∙ h))
  due-all front more all next a e whole n (inr h) = inr h.0

pub refused-all : {A T X : Type 0} {B : T → Type 0} {steps : T → Option A → T → Type 0} (pushed : Layout → A → Layout) (refusal : Layout → A → Option Error) (a : Layout) (r : Result X Error) (all : List A)
    → IfErr r (λ e. (front : List A) × (next : A) × ((it : T) × (rest : T) × B it × Yields steps it (front ++ next ∷ []) rest) × (refusal_of_all pushed refusal a front ≡ None) × IsReportedError (refusal (pushed_all pushed a front) next) e)
    → ((it : T) → B it → YieldsList steps (λ x. x) it all) → IfErr r (λ e. (refusal_of_all pushed refusal a all ≡ Some e) ⊎ (e ≡ Memory alloc_error))
refused-all pushed refusal a (Ok x) all h road = tt
refused-all {steps = steps} pushed refusal a (Err e) all h road =
    let m = gives_left steps (λ x. x) (h.0 ++ h.1 ∷ []) all h.2.0 h.2.1 (road h.2.0 h.2.2).runs h.2.3 in
    due-all pushed refusal h.0 m.0 all h.1 a e m.1 h.3 h.4

pub refused-at : {A T X : Type 0} {steps : T → Option A → T → Type 0} {s : T} (pushed : Layout → A → Layout) (refusal : Layout → A → Option Error) (a : Layout) (r : Result X Error) (all : List A)
    → IfErr r (λ e. (front : List A) × (next : A) × ((it : T) × (rest : T) × (it ≡ s) × Yields steps it (front ++ next ∷ []) rest) × (refusal_of_all pushed refusal a front ≡ None) × IsReportedError (refusal (pushed_all pushed a front) next) e)
    → YieldsList steps (λ x. x) s all → IfErr r (λ e. (refusal_of_all pushed refusal a all ≡ Some e) ⊎ (e ≡ Memory alloc_error))
refused-at pushed refusal a r all h road = refused-all pushed refusal a r all h (λ it e. YieldsList-at e road)

-- ---- the bits of items

-- the bits after items are appended to n slots
abbrev grown : Validity → ℕ → List Bool → Validity
grown va n [] = va
grown va n (b ∷ bs) = grown (pushed_validity va n b) (n + 1) bs

grown-some : (bits : List Bool) (n : ℕ) (bs : List Bool) → grown (Some bits) n bs ≡ Some (bits ++ bs)
grown-some bits n [] = ap Some (sym (append-nil bits))
grown-some bits n (b ∷ bs) = grown-some (bits ++ b ∷ []) (n + 1) bs ∙ ap Some (append_assoc bits (b ∷ []) bs)

trues-more : (n : ℕ) (bs : List Bool) → replicate (n + 1) true ++ bs ≡ replicate n true ++ true ∷ bs
trues-more zero bs = let e : zero + 1 ≡ suc zero = omega arith in ap (λ k. replicate k true ++ bs) e
trues-more (suc n) bs = let e : suc n + 1 ≡ suc (n + 1) = omega arith in ap (λ k. replicate k true ++ bs) e ∙ ap (λ xs. true ∷ xs) (trues-more n bs)

grown-none : {A : Type 0} (n : ℕ) (xs : List (Option A)) → grown None n (map is_some xs) ≡ (if has_null xs then Some (replicate n true ++ map is_some xs) else None)
grown-none n [] = refl
grown-none n (None ∷ xs) = grown-some (replicate n true ++ false ∷ []) (n + 1) (map is_some xs) ∙ ap Some (append_assoc (replicate n true) (false ∷ []) (map is_some xs))
grown-none n (Some x ∷ xs) = grown-none (n + 1) xs ∙ ap (λ (bs : List Bool). if has_null xs then Some bs else None) (trues-more n (map is_some xs))

none-null : {A : Type 0} (xs : List A) → has_null (map Some xs) ≡ false
none-null [] = refl
none-null (x ∷ xs) = none-null xs

pub values-bits : {A : Type 0} (xs : List A) → option_bits (map Some xs) ≡ None
values-bits xs = ap (λ (b : Bool). if b then Some (map is_some (map Some xs)) else None) (none-null xs)

pub map-values : {A B : Type 0} (f : Option A → B) (xs : List A) → map f (map Some xs) ≡ map (λ x. f (Some x)) xs
map-values f [] = refl
map-values f (x ∷ xs) = ap (λ ys. f (Some x) ∷ ys) (map-values f xs)

-- ---- native values and booleans

some-map : {A B : Type 0} (f : A → B) (x : Option A) → is_some (option_map f x) ≡ is_some x
some-map f None = refl
some-map f (Some x) = refl

module _ {A : Type 0} (k : PrimitiveType) (t : TypeTree) (num : A → List ℤ) where
  abbrev raw : Option A → List ℤ
  raw x = unwrap_or (option_map num x) (zeros k)

  natives-grown : (vs : List (List ℤ)) (va : Validity) (xs : List (Option A))
      → pushed_all (λ a x. pushed_native a (option_map num x)) (primitive k t vs va) xs ≡ primitive k t (vs ++ map raw xs) (grown va (length vs) (map is_some xs))
  natives-grown vs va [] = ap (λ ws. primitive k t ws va) (sym (append-nil vs))
  natives-grown vs va (x ∷ xs) =
      let v = pushed_validity va (length vs) (is_some (option_map num x)) in
      let l : length (vs ++ raw x ∷ []) ≡ length vs + 1 = omega (arith, length-append vs (raw x ∷ [])) in
      natives-grown (vs ++ raw x ∷ []) v xs
      ∙ ap (λ ws. primitive k t ws (grown v (length (vs ++ raw x ∷ [])) (map is_some xs))) (append_assoc vs (raw x ∷ []) (map raw xs))
      ∙ ap (λ n. primitive k t (vs ++ raw x ∷ map raw xs) (grown v n (map is_some xs))) l
      ∙ ap (λ b. primitive k t (vs ++ raw x ∷ map raw xs) (grown (pushed_validity va (length vs) b) (length vs + 1) (map is_some xs))) (some-map num x)

  pub natives-made : (xs : List (Option A))
      → pushed_all (λ a x. pushed_native a (option_map num x)) (primitive k t [] None) xs ≡ primitive k t (map (λ x. unwrap_or (option_map num x) (zeros k)) xs) (option_bits xs)
  natives-made xs = natives-grown [] None xs ∙ ap (primitive k t (map raw xs)) (grown-none 0 xs)

  map-twice : (xs : List A) → map slots.number (map num xs) ≡ map (λ x. slots.number (num x)) xs
  map-twice [] = refl
  map-twice (x ∷ xs) = ap (λ ss. slots.number (num x) ∷ ss) (map-twice xs)

  pub natives-slots : (ys xs : List A) → ys ≡ xs → slots_of (primitive k t (map num ys) None) ≡ map (λ x. slots.number (num x)) xs
  natives-slots ys xs e = primitive-slots k t (map num ys) None ∙ map-twice ys ∙ ap (map (λ x. slots.number (num x))) e

pub natives-unrefused : {A : Type 0} (pushed : Layout → A → Layout) (a : Layout) (xs : List A) → refusal_of_all pushed native_refusal a xs ≡ None
natives-unrefused pushed a [] = refl
natives-unrefused pushed a (x ∷ xs) = natives-unrefused pushed (pushed a x) xs

booleans-grown : (t : TypeTree) (bs : List Bool) (va : Validity) (xs : List (Option Bool))
    → pushed_all pushed_boolean (boolean t bs va) xs ≡ boolean t (bs ++ map (λ x. unwrap_or x false) xs) (grown va (length bs) (map is_some xs))
booleans-grown t bs va [] = ap (λ cs. boolean t cs va) (sym (append-nil bs))
booleans-grown t bs va (x ∷ xs) =
    let v = unwrap_or x false in
    let w = pushed_validity va (length bs) (is_some x) in
    let l : length (bs ++ v ∷ []) ≡ length bs + 1 = omega (arith, length-append bs (v ∷ [])) in
    booleans-grown t (bs ++ v ∷ []) w xs
    ∙ ap (λ cs. boolean t cs (grown w (length (bs ++ v ∷ [])) (map is_some xs))) (append_assoc bs (v ∷ []) (map (λ y. unwrap_or y false) xs))
    ∙ ap (λ n. boolean t (bs ++ v ∷ map (λ y. unwrap_or y false) xs) (grown w n (map is_some xs))) l

pub booleans-made : (t : TypeTree) (xs : List (Option Bool)) → pushed_all pushed_boolean (boolean t [] None) xs ≡ boolean t (map (λ x. unwrap_or x false) xs) (option_bits xs)
booleans-made t xs = booleans-grown t [] None xs ∙ ap (boolean t (map (λ x. unwrap_or x false) xs)) (grown-none 0 xs)

-- appending booleans returns no error up to the largest length
booleans-within : (t : TypeTree) (bs : List Bool) (va : Validity) (xs : List (Option Bool)) → length bs + length xs ≤ largest_length → refusal_of_all pushed_boolean boolean_refusal (boolean t bs va) xs ≡ None
booleans-within t bs va [] h = refl
booleans-within t bs va (x ∷ xs) h =
    let v = unwrap_or x false in
    let w = pushed_validity va (length bs) (is_some x) in
    let l : length (bs ++ v ∷ []) ≡ length bs + 1 = omega (arith, length-append bs (v ∷ [])) in
    ap (λ b. first_of (refuse_if b Overflow None) (refusal_of_all pushed_boolean boolean_refusal (boolean t (bs ++ v ∷ []) w) xs)) (within (length bs + 1) (omega arith))
    ∙ booleans-within t (bs ++ v ∷ []) w xs (omega arith)

pub booleans-unrefused : (t : TypeTree) (a : Layout) (xs : List (Option Bool)) → a ≡ boolean t [] None → length xs ≤ largest_length → refusal_of_all pushed_boolean boolean_refusal a xs ≡ None
booleans-unrefused t a xs e h = ap (λ b. refusal_of_all pushed_boolean boolean_refusal b xs) e ∙ booleans-within t [] None xs (omega arith)

pub booleans-slots : (t : TypeTree) (ys xs : List Bool) → ys ≡ xs → slots_of (boolean t ys None) ≡ map slots.boolean xs
booleans-slots t ys xs e = boolean-slots t ys None ∙ ap (map slots.boolean) e

-- ---- UTF-8 and binary

last-pushed : (os : List ℕ) (x : ℕ) → last_of (os ++ x ∷ []) ≡ x
last-pushed [] x = refl
last-pushed (a ∷ []) x = last_of-cons a x []
last-pushed (a ∷ (b ∷ bs)) x = last_of-cons a b (bs ++ x ∷ []) ∙ last-pushed (b ∷ bs) x

some-same : {A : Type 0} {x y : A} → Some x ≡ Some y → y ≡ x
some-same h = cc

refused-now : (b : Bool) (rest : Option Error) (e : Error) → first_of (refuse_if b Overflow None) rest ≡ Some e → ((b ≡ true) × (e ≡ Overflow)) ⊎ (rest ≡ Some e)
refused-now true rest e h = inl (refl, some-same h)
refused-now false rest e h = inr h

copied-some : {A : Type 0} (xs : List (Option (Bor A))) → map (λ x. is_some (option_copied x)) xs ≡ map is_some xs
copied-some [] = refl
copied-some (None ∷ xs) = ap (λ bs. false ∷ bs) (copied-some xs)
copied-some (Some x ∷ xs) = ap (λ bs. true ∷ bs) (copied-some xs)

module _ (make : Spans → Layout) (wrap : List ℕ → Slot) (kind : SpansKind make wrap) (weigh : (xs : List ℕ) → byte_count (wrap xs) ≡ length xs) (largest : ℕ) where
  abbrev put : Layout → Option (Bor (List ℕ)) → Layout
  put a x = pushed_item a (option_copied x)

  abbrev refuses : Layout → Option (Bor (List ℕ)) → Option Error
  refuses a x = item_refusal largest a (option_copied x)

  abbrev held : List (Option (Bor (List ℕ))) → ℕ
  held xs = bytes_held (map (λ x. optional wrap (option_copied x)) xs)

  pushed-made : (s : Spans) (i : Option (List ℕ)) → pushed_item (make s) i ≡ make (pushed_span i s)
  pushed-made s i = ap (λ r. with_spans (make s) (pushed_span i r)) (kind.shown s) ∙ kind.changed s (pushed_span i s)

  bits-grown : (s : Spans) (xs : List (Option (Bor (List ℕ)))) → 0 < length s.offsets
      → validity_of (pushed_all put (make s) xs) ≡ grown s.validity (count_rows s.offsets) (map (λ x. is_some (option_copied x)) xs)
  bits-grown s [] h = kind.bits s
  bits-grown s (x ∷ xs) h =
      let i = option_copied x in
      let end = last_of s.offsets + length (item_bytes i) in
      let l : length (s.offsets ++ end ∷ []) ≡ length s.offsets + 1 = omega (arith, length-append s.offsets (end ∷ [])) in
      let r : count_rows (s.offsets ++ end ∷ []) ≡ count_rows s.offsets + 1 = omega arith in
      ap (λ a. validity_of (pushed_all put a xs)) (pushed-made s i)
      ∙ bits-grown (pushed_span i s) xs (omega arith)
      ∙ ap (λ n. grown (pushed_validity s.validity (count_rows s.offsets) (is_some i)) n (map (λ y. is_some (option_copied y)) xs)) r

  weigh-item : (i : Option (List ℕ)) → byte_count (optional wrap i) ≡ length (item_bytes i)
  weigh-item None = refl
  weigh-item (Some xs) = weigh xs

  refused-grown : (s : Spans) (xs : List (Option (Bor (List ℕ)))) (e : Error) → refusal_of_all put refuses (make s) xs ≡ Some e → (e ≡ Overflow) × (largest < last_of s.offsets + held xs)
  refused-grown s [] e h = none-some h
  refused-grown s (x ∷ xs) e h =
      let i = option_copied x in
      let end = last_of s.offsets + length (item_bytes i) in
      let shown : last_of (offsets_of (make s)) ≡ last_of s.offsets = ap (λ (r : Spans). last_of r.offsets) (kind.shown s) in
      let sum : held (x ∷ xs) ≡ length (item_bytes i) + held xs = ap (λ n. n + held xs) (weigh-item i) in
      elim (refused-now (nat_lt largest (last_of (offsets_of (make s)) + length (item_bytes i))) (refusal_of_all put refuses (put (make s) x) xs) e h) [
        | inl p ↦
            let past : largest < last_of (offsets_of (make s)) + length (item_bytes i) = leb-true (suc largest) (last_of (offsets_of (make s)) + length (item_bytes i)) p.0 in
            (p.1, omega arith)
        | inr p ↦
            let rest = refused-grown (pushed_span i s) xs e (subst (λ (a : Layout). refusal_of_all put refuses a xs ≡ Some e) (pushed-made s i) p) in
            let later : largest < last_of (s.offsets ++ end ∷ []) + held xs = rest.1 in
            let last = last-pushed s.offsets end in
            (rest.0, omega arith)
      ]

  pub spans-bits : (a : Layout) (xs : List (Option (Bor (List ℕ)))) → a ≡ make (spans (0 ∷ []) [] None) → validity_of (pushed_all (λ b x. pushed_item b (option_copied x)) a xs) ≡ option_bits xs
  spans-bits a xs e =
      let some : 0 < length {A = ℕ} (0 ∷ []) = omega arith in
      let r : count_rows (0 ∷ []) ≡ 0 = omega arith in
      ap (λ b. validity_of (pushed_all put b xs)) e
      ∙ bits-grown (spans (0 ∷ []) [] None) xs some
      ∙ ap (λ n. grown None n (map (λ x. is_some (option_copied x)) xs)) r
      ∙ ap (grown None 0) (copied-some xs)
      ∙ grown-none 0 xs

  pub spans-refused : (a : Layout) (e : Error) (xs : List (Option (Bor (List ℕ)))) (ss : List Slot) → a ≡ make (spans (0 ∷ []) [] None) → map (λ x. optional wrap (option_copied x)) xs ≡ ss
      → (refusal_of_all (λ b x. pushed_item b (option_copied x)) (λ b x. item_refusal largest b (option_copied x)) a xs ≡ Some e) ⊎ (e ≡ Memory alloc_error)
      → ((e ≡ Overflow) × (largest < bytes_held ss)) ⊎ (e ≡ Memory alloc_error)
  spans-refused a e xs ss begins same (inl h) =
      let k = refused-grown (spans (0 ∷ []) [] None) xs e (subst (λ (b : Layout). refusal_of_all put refuses b xs ≡ Some e) begins h) in
      let z : last_of (0 ∷ []) ≡ 0 = refl in
      let more : largest < last_of (0 ∷ []) + held xs = k.1 in
      let q : held xs ≡ bytes_held ss = ap bytes_held same in
      inl (k.0, omega arith)
  spans-refused a e xs ss begins same (inr h) = inr h

-- ---- frozen arrays, and arrays from parts

pub memory-alone : (e : Error) (o : Option Error) → o ≡ None → (o ≡ Some e) ⊎ (e ≡ Memory alloc_error) → e ≡ Memory alloc_error
memory-alone e o n (inl h) = none-some (sym n ∙ h)
memory-alone e o n (inr h) = h

pub if_ok-same : {E : Type 0} (r : Result Layout E) (b : Layout) (Q : Layout → Type 0) → Q b → IfOk r (λ a. a ≡ b) → IfOk r Q
if_ok-same (Ok a) b Q q h = subst Q (sym h) q
if_ok-same (Err e) b Q q h = tt

pub if_ok-slots : {E : Type 0} (F : Type 0) (Q : E → Type 0) (r : Result Layout E) (p : Layout) (ss : List Slot) → MatchResult r (λ a. F × (a ≡ p)) Q → slots_of p ≡ ss → IfOk r (λ a. slots_of a ≡ ss)
if_ok-slots F Q (Ok a) p ss h s = ap slots_of h.1 ∙ s
if_ok-slots F Q (Err e) p ss h s = tt
