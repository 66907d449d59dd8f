-- The table of a union.
use Rattle.std.specs.Prelude.{◌↔◌, ◌⊎◌, Option, Some, None, List, [], ◌∷◌, slice_get, if◌then◌else◌}
use Rattle.std.specs.Ordering.{int_eq}
use Rattle.std.specs.List.{All}
use Rattle.std.proofs.Common.{◌≡◌, ℕ, suc, ◌+◌, ◌<◌, ◌≤◌, ◌++◌, ℤ, pos, negsuc, Bool, true, false, length, get_or, take, set, refl, ap, sym, ◌∙◌, subst, inl, inr, arith, get_or-set_same, get_or-set_other, take-suc}
use Rattle.std.proofs.lemmas.Bool.Decides.{Decides-int_eq}
use Rattle.std.proofs.lemmas.List.{get_or_past, length-take-le}
use Rattle.std.proofs.lemmas.Option.{slice_get-get_or}
use Rattle.nest_model.specs.Fits.{Names, EachCovers, EachNames, EachMeansField, IdsInRange, MeansField, SlotsThere, child_len}
use Rattle.nest_model.specs.Layout.{Layouts, count_layouts}
use Rattle.nest_model.specs.Part.{field_named, last_position}
use Rattle.nest_array.specs.Positions.{IsTable, SlotsMeant, meant, position}

-- the last index of a number in a list with one number prepended
abbrev before : ℤ → ℤ → Option ℕ → Option ℕ
before y z o = elim o as (λ _. Option ℕ) [ Some k ↦ Some (suc k) | None ↦ if int_eq y z then Some 0 else None ]

before-more : (y z : ℤ) (b : Bool) (n : ℕ) (o : Option ℕ) → before y z (if b then Some n else o) ≡ (if b then Some (suc n) else before y z o)
before-more y z true n o = refl
before-more y z false n o = refl

last-more : (xs : List ℤ) (x z : ℤ) → last_position (xs ++ x ∷ []) z ≡ (if int_eq x z then Some (length xs) else last_position xs z)
last-more [] x z = refl
last-more (y ∷ xs) x z = ap (before y z) (last-more xs x z) ∙ before-more y z (int_eq x z) (length xs) (last_position xs z)

-- p is the last index of a number, if there is one
abbrev pub IsLast : List ℤ → ℤ → ℕ → Type 0
IsLast ids z p = (f : ℕ) → last_position ids z ≡ Some f → f ≡ p

one-place : (f p : ℕ) → Some f ≡ Some p → f ≡ p
one-place f p e = cc

last-by : (b : Bool) (ids : List ℤ) (z : ℤ) (n p q : ℕ) → (b ≡ true → n ≡ q) → (b ≡ false → p ≡ q) → IsLast ids z p → (f : ℕ) → (if b then Some n else last_position ids z) ≡ Some f → f ≡ q
last-by true ids z n p q t u h f e = sym (one-place n f e) ∙ t refl
last-by false ids z n p q t u h f e = h f e ∙ u refl

pub last-on : (ids : List ℤ) (k p q : ℕ) (x z d : ℤ) → k < length ids → get_or ids k d ≡ x → (x ≡ z → k ≡ q) → ((x ≡ z → ⊥) → p ≡ q) → IsLast (take k ids) z p → IsLast (take (k + 1) ids) z q
last-on ids k p q x z d l e t u h f g =
    let w : k + 1 ≡ suc k = omega arith in
    let y : take (k + 1) ids ≡ take k ids ++ (x ∷ []) = ap (λ j. take j ids) w ∙ take-suc ids k d l ∙ ap (λ a. take k ids ++ (a ∷ [])) e in
    let s = Decides-int_eq x z in
    let n : length (take k ids) ≡ k = length-take-le k ids (omega arith) in
    last-by (int_eq x z) (take k ids) z (length (take k ids)) p q (λ b. n ∙ t (s.0 b)) (λ b. u (λ a. let v : false ≡ true = sym b ∙ s.1 a in cc)) h f (sym (ap (λ a. last_position a z) y ∙ last-more (take k ids) x z) ∙ g)

-- the number at its last index
holds-on : (x z : ℤ) (ids : List ℤ) (b : Bool) (o : Option ℕ) (f : ℕ) (d : ℤ) → int_eq x z ≡ b → (b ≡ true → x ≡ z) → ((g : ℕ) → o ≡ Some g → (g < length ids) × (get_or ids g d ≡ z)) → before x z o ≡ Some f → (f < length (x ∷ ids)) × (get_or (x ∷ ids) f d ≡ z)
holds-on x z ids b (Some g) f d q t h e = let p : f ≡ suc g = cc in let k = h g refl in subst (λ j. (j < length (x ∷ ids)) × (get_or (x ∷ ids) j d ≡ z)) (sym p) (omega (arith, k.0), k.1)
holds-on x z ids true None f d q t h e =
    let u : Some 0 ≡ Some f = sym (ap (λ c. if c then Some 0 else None) q) ∙ e in
    let p : f ≡ 0 = sym (one-place 0 f u) in
    subst (λ j. (j < length (x ∷ ids)) × (get_or (x ∷ ids) j d ≡ z)) (sym p) (omega arith, t refl)
holds-on x z ids false None f d q t h e = let u : None ≡ Some f = sym (ap (λ c. if c then Some 0 else None) q) ∙ e in cc

pub last-holds : (ids : List ℤ) (z d : ℤ) (f : ℕ) → last_position ids z ≡ Some f → (f < length ids) × (get_or ids f d ≡ z)
last-holds [] z d f e = cc
last-holds (x ∷ ids) z d f e = holds-on x z ids (int_eq x z) (last_position ids z) f d refl (λ b. (Decides-int_eq x z).0 b) (λ g h. last-holds ids z d g h) e

-- ids that are their own indices
pub in-places : (ids : List ℤ) (d : ℤ) → ((j : ℕ) → j < length ids → get_or ids j d ≡ pos j) → (z : ℤ) (f : ℕ) → last_position ids z ≡ Some f → z ≡ pos f
in-places ids d h z f e = let p = last-holds ids z d f e in sym p.1 ∙ h f p.0

-- the table has the last index of each id
abbrev pub HasIds : List ℕ → List ℤ → Type 0
HasIds table ids = (k : ℕ) → k < 128 → get_or table k 127 ≡ position (last_position ids (pos k))

written : (b : Bool) (o : Option ℕ) (n k m v : ℕ) (t : List ℕ) → (b ≡ true → k ≡ m) → (k ≡ m → b ≡ true) → v ≡ n → m < length t → get_or t k 127 ≡ position o
    → get_or (set t m v) k 127 ≡ position (if b then Some n else o)
written true o n k m v t e f p l h = ap (λ j. get_or (set t m v) j 127) (e refl) ∙ get_or-set_same t m v 127 l ∙ p
written false o n k m v t e f p l h = get_or-set_other t m k v 127 (λ q. let x : false ≡ true = f q in cc) ∙ h

pos-one : (j k : ℕ) → pos j ≡ pos k → j ≡ k
pos-one j k e = cc

pub id-written : (table : List ℕ) (ids : List ℤ) (i m : ℕ) (z d : ℤ) → length table ≡ 128 → i < length ids → get_or ids i d ≡ z → z ≡ pos m → m < 128
    → HasIds table (take i ids) → HasIds (set table m i) (take (i + 1) ids)
id-written table ids i m z d l h e f b t k g =
    let w : i + 1 ≡ suc i = omega arith in
    let x : take (i + 1) ids ≡ take i ids ++ (z ∷ []) = ap (λ j. take j ids) w ∙ take-suc ids i d h ∙ ap (λ y. take i ids ++ (y ∷ [])) e in
    let q = last-more (take i ids) z (pos k) in
    let s = Decides-int_eq z (pos k) in
    let n : length (take i ids) ≡ i = length-take-le i ids (omega arith) in
    written (int_eq z (pos k)) (last_position (take i ids) (pos k)) (length (take i ids)) k m i table (λ u. pos-one k m (sym (s.0 u) ∙ f)) (λ u. s.1 (f ∙ ap pos (sym u))) (sym n) (omega (arith, l, b)) (t k g)
    ∙ ap position (sym q) ∙ ap (λ y. position (last_position y (pos k))) (sym x)

-- an id from 0 to 127
pub named-place : (z : ℤ) → Names z 128 → (m : ℕ) × (z ≡ pos m) × (m < 128)
named-place (pos k) h = (k, refl, h)
named-place (negsuc k) h = absurd h

-- a type id selects the field of its table entry
not-named : (z : ℤ) (k : ℕ) → Names z 128 → 128 ≤ k → z ≡ pos k → ⊥
not-named (pos j) k h l e = let q = pos-one j k e in omega arith
not-named (negsuc j) k h l e = absurd h

past : (y z : ℤ) (b : Bool) (o : Option ℕ) → int_eq y z ≡ b → (b ≡ true → ⊥) → o ≡ None → before y z o ≡ None
past y z true o e n h = absurd (n refl)
past y z false o e n h = ap (before y z) h ∙ ap (λ c. if c then Some 0 else None) e

none-past : (ids : List ℤ) (k : ℕ) → EachNames ids 128 → 128 ≤ k → last_position ids (pos k) ≡ None
none-past [] k h l = refl
none-past (z ∷ ids) k h l = past z (pos k) (int_eq z (pos k)) (last_position ids (pos k)) refl (λ t. not-named z k (h 0 z (omega arith)) l ((Decides-int_eq z (pos k)).0 t)) (none-past ids k (λ j d g. h (suc j) d (omega arith)) l)

negative : (z : ℤ) (k : ℕ) → Names z 128 → z ≡ negsuc k → ⊥
negative (pos j) k h e = cc
negative (negsuc j) k h e = absurd h

none-negative : (ids : List ℤ) (k : ℕ) → EachNames ids 128 → last_position ids (negsuc k) ≡ None
none-negative [] k h = refl
none-negative (z ∷ ids) k h = past z (negsuc k) (int_eq z (negsuc k)) (last_position ids (negsuc k)) refl (λ t. negative z k (h 0 z (omega arith)) ((Decides-int_eq z (negsuc k)).0 t)) (none-negative ids k (λ j d g. h (suc j) d (omega arith)))

-- By the table of the ids, a type id selects one of n fields exactly if it does by the ids, and then the same field.
pub record Same (table : List ℕ) (ids : Option (List ℤ)) (n : ℕ) (z : ℤ) : Type 0 where
  pub means : MeansField (meant table z) n ↔ MeansField (field_named ids z) n
  pub one : MeansField (field_named ids z) n → meant table z ≡ field_named ids z

of-position : (o : Option ℕ) (t n : ℕ) → n ≤ 127 → t ≡ position o → MeansField (Some t) n ↔ MeansField o n
of-position None t n l e = (λ h. omega arith, λ h. absurd h)
of-position (Some f) t n l e = (λ h. omega arith, λ h. omega arith)

of-position-one : (o : Option ℕ) (t n : ℕ) → t ≡ position o → MeansField o n → Some t ≡ o
of-position-one None t n e h = absurd h
of-position-one (Some f) t n e h = ap Some e

within-128 : (k : ℕ) → (k < 128) ⊎ (128 ≤ k)
within-128 k = grind arith

same-low : (table : List ℕ) (ids : Option (List ℤ)) (n k : ℕ) → IsTable table ids → n ≤ 127 → k < 128 → Same table ids n (pos k)
same-low table ids n k t l h = record { means = of-position (field_named ids (pos k)) (get_or table k 127) n l (t.1 k h); one = of-position-one (field_named ids (pos k)) (get_or table k 127) n (t.1 k h) }

same-high : (table : List ℕ) (ids : Option (List ℤ)) (n k : ℕ) → IsTable table ids → IdsInRange ids → n ≤ 127 → 128 ≤ k → Same table ids n (pos k)
same-high table None n k t r l h =
    let e = get_or_past table k 127 (omega (arith, t.0)) in
    record { means = (λ m. absurd (omega arith), λ m. absurd (omega arith)); one = λ m. absurd (omega arith) }
same-high table (Some ids) n k t r l h =
    let e = get_or_past table k 127 (omega (arith, t.0)) in
    let p : get_or table k 127 ≡ position (last_position ids (pos k)) = e ∙ sym (ap position (none-past ids k r h)) in
    record { means = of-position (last_position ids (pos k)) (get_or table k 127) n l p; one = of-position-one (last_position ids (pos k)) (get_or table k 127) n p }

means-none : (o : Option ℕ) (n : ℕ) → o ≡ None → MeansField o n → ⊥
means-none None n e h = h
means-none (Some f) n e h = cc

nothing-meant : (table : List ℕ) (ids : Option (List ℤ)) (n k : ℕ) → field_named ids (negsuc k) ≡ None → Same table ids n (negsuc k)
nothing-meant table ids n k e = record { means = (λ m. absurd m, λ m. absurd (means-none (field_named ids (negsuc k)) n e m)); one = λ m. absurd (means-none (field_named ids (negsuc k)) n e m) }

pub table-same : (table : List ℕ) (ids : Option (List ℤ)) (n : ℕ) (z : ℤ) → IsTable table ids → IdsInRange ids → n ≤ 127 → Same table ids n z
table-same table ids n (pos k) t r l = elim (within-128 k) [ inl h ↦ same-low table ids n k t l h | inr h ↦ same-high table ids n k t r l h ]
table-same table None n (negsuc k) t r l = nothing-meant table None n k refl
table-same table (Some ids) n (negsuc k) t r l = nothing-meant table (Some ids) n k (none-negative ids k r)

-- so do the checks that read the table
pub types-mean : (table : List ℕ) (ids : Option (List ℤ)) (n : ℕ) (ks : List ℤ) → IsTable table ids → IdsInRange ids → n ≤ 127
    → All (λ k. MeansField (meant table k) n) ks ↔ EachMeansField ids ks n
types-mean table ids n ks t r l = (
  λ h j d g. (table-same table ids n (get_or ks j d) t r l).means.0 (h j d g),
  λ h j d g. (table-same table ids n (get_or ks j d) t r l).means.1 (h j d g),
)

pub slots-meant : (table : List ℕ) (ids : Option (List ℤ)) (ks : List ℤ) (cs : Layouts) (os : Option (List ℤ)) → IsTable table ids → IdsInRange ids → count_layouts cs ≤ 127
    → EachMeansField ids ks (count_layouts cs) → SlotsMeant table ks cs os ↔ SlotsThere ids ks cs os 0
slots-meant table ids ks cs None t r l m =
    let e : length ks ≡ 0 + length ks = omega arith in
    (λ h. subst (EachCovers cs) e h, λ h. subst (EachCovers cs) (sym e) h)
slots-meant table ids ks cs (Some os) t r l m =
    let one = λ (i : ℕ) (g : i < length ks). (table-same table ids (count_layouts cs) (get_or ks i (pos 0)) t r l).one (m i (pos 0) g) in (
      λ h i g. subst (λ o. Names (get_or os i (pos 0)) (child_len cs o)) (one i g) (h i g),
      λ h i g. subst (λ o. Names (get_or os i (pos 0)) (child_len cs o)) (sym (one i g)) (h i g),
    )

-- the table entry of a type id that selects a field
pub record Found (table : List ℕ) (ids : Option (List ℤ)) (z : ℤ) (k : ℕ) : Type 0 where
  pub kind : z ≡ pos k
  pub within : k < 128
  pub field : field_named ids z ≡ Some (get_or table k 127)

pub found : (table : List ℕ) (ids : Option (List ℤ)) (n : ℕ) (z : ℤ) → IsTable table ids → IdsInRange ids → n ≤ 127 → MeansField (field_named ids z) n → (k : ℕ) × Found table ids z k
found table ids n (pos k) t r l m =
    let s = table-same table ids n (pos k) t r l in
    let b : get_or table k 127 < n = s.means.1 m in
    (k, record { kind = refl; within = elim (within-128 k) [ inl h ↦ h | inr h ↦ (let e = get_or_past table k 127 (omega (arith, t.0)) in absurd (omega arith)) ]; field = sym (s.one m) })
found table ids n (negsuc k) t r l m = absurd ((table-same table ids n (negsuc k) t r l).means.1 m)

some-one : (x y : ℤ) → Some x ≡ Some y → x ≡ y
some-one x y e = cc

-- the type id of a slot, as it is read
pub type-read : (ks : List ℤ) (i : ℕ) (z : ℤ) → i < length ks → slice_get ks i ≡ Some z → get_or ks i (pos 0) ≡ z
type-read ks i z l e = some-one (get_or ks i (pos 0)) z (sym (slice_get-get_or ks i (pos 0) l) ∙ e)
