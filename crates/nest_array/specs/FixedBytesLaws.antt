-- Concatenated fixed-size binary arrays, and their slices.
use Rattle.std.specs.Prelude.{Option, Some, None, is_some, if◌then◌else◌}
use Rattle.std.specs.Borrow.{Bor}
use Rattle.std.specs.Option.{option_copied}
use Rattle.std.proofs.Common.{◌≡◌, ℕ, zero, suc, ◌+◌, ◌-◌, ◌*◌, ◌/◌, ◌%◌, ◌<◌, ◌≤◌, Bool, true, false, List, [], ◌∷◌, ◌++◌, length, take, drop, replicate, get_or, refl, ap, sym, ◌∙◌, subst, inl, inr, arith}
use Rattle.std.proofs.lemmas.List.{length-append, length-replicate, length-drop, get_or-replicate, get_or_append_left, get_or-append-add, drop-append-le, take-append-le, drop-drop, take_all}
use Rattle.std.proofs.lemmas.Bool.Decides.{eqb_tells}
use Rattle.std.proofs.lemmas.Nat.{div-add-mod'}
use Rattle.std.proofs.Math.Seq.{drop-append_seam}
use Rattle.std.proofs.Math.Nat.{add-mul, mul-div_cancel}
use Rattle.nest_memory.specs.Sublist.{sublist}
use Rattle.nest_memory.specs.TypeTree.{TypeTree, size_of}
use Rattle.nest_memory.specs.Physical.{physical_type}
use Rattle.nest_memory.specs.declared.datatypes.physical_type.PhysicalType.TheVariants as physical
use Rattle.nest_model.specs.Part.{Validity, valid_at, sliced_validity}
use Rattle.nest_model.specs.Slot as slots
use Rattle.nest_model.specs.Slot.{Slot}
use Rattle.nest_model.specs.Layout.{Layout, fixed_size_binary, layout_type}
use Rattle.nest_model.specs.Slice.{slice_layout}
use Rattle.nest_model.specs.Meaning.{run, len, slot, slots_of}
use Rattle.nest_model.specs.Reads.{slot-place}
use Rattle.nest_model.specs.FitsLaws.{top-fits-cut}
use Rattle.nest_model.specs.Runs.{run-ext, product-end, product-exact}
use Rattle.nest_model.specs.Fits.{ValidityFits}
use Rattle.nest_model.specs.Array.{TopFits}
use Rattle.nest_model.specs.Facts.{IsFixedSizeBinary}
use Rattle.nest_model.specs.FactLaws.{fixed_size_binary-facts}
use Rattle.nest_flat.specs.FlatParts.{optional}
use Rattle.nest_flat.specs.Growth.{pushed_validity, joined_validity}
use Rattle.nest_array.specs.FixedBytes.{sized_bytes, pushed_bytes, joined_bytes, IsOtherSize}

-- the concatenated validity has one bit per slot
fits-joined : (va vb : Validity) (n m : ℕ) → ValidityFits va n → ValidityFits vb m → ValidityFits (joined_validity va n vb m) (n + m)
fits-joined None None n m h g = tt
fits-joined None (Some more) n m h g = omega (arith, length-append (replicate n true) more, length-replicate n true)
fits-joined (Some bits) None n m h g = omega (arith, length-append bits (replicate m true), length-replicate m true)
fits-joined (Some bits) (Some more) n m h g = omega (arith, length-append bits more)

valid-before : (va vb : Validity) (n m i : ℕ) → ValidityFits va n → i < n → valid_at (joined_validity va n vb m) i ≡ valid_at va i
valid-before None None n m i h k = refl
valid-before None (Some more) n m i h k =
    get_or_append_left (replicate n true) more true i (omega (arith, length-replicate n true)) ∙ get_or-replicate n i true true k
valid-before (Some bits) None n m i h k = get_or_append_left bits (replicate m true) true i (omega arith)
valid-before (Some bits) (Some more) n m i h k = get_or_append_left bits more true i (omega arith)

valid-after : (va vb : Validity) (n m i : ℕ) → ValidityFits va n → i < m → valid_at (joined_validity va n vb m) (n + i) ≡ valid_at vb i
valid-after None None n m i h k = refl
valid-after None (Some more) n m i h k =
    ap (λ p. get_or (replicate n true ++ more) (p + i) true) (sym (length-replicate n true)) ∙ get_or-append-add (replicate n true) more i true
valid-after (Some bits) None n m i h k =
    ap (λ p. get_or (bits ++ replicate m true) (p + i) true) (sym h) ∙ get_or-append-add bits (replicate m true) i true ∙ get_or-replicate m i true true k
valid-after (Some bits) (Some more) n m i h k = ap (λ p. get_or (bits ++ more) (p + i) true) (sym h) ∙ get_or-append-add bits more i true

pushed-joined : (va : Validity) (n : ℕ) (b : Bool) → pushed_validity va n b ≡ joined_validity va n (if b then None else Some (false ∷ [])) 1
pushed-joined None n true = refl
pushed-joined None n false = refl
pushed-joined (Some bits) n true = refl
pushed-joined (Some bits) n false = refl

-- a run is the concatenation of its parts
run-append : (f : ℕ → Slot) (o n m : ℕ) → run f o (n + m) ≡ run f o n ++ run f (o + n) m
run-append f o zero m =
    let z : 0 + m ≡ m = omega arith in
    let e : o ≡ o + 0 = omega arith in
    ap (run f o) z ∙ ap (λ i. run f i m) e
run-append f o (suc n) m =
    let s : suc n + m ≡ suc (n + m) = omega arith in
    let e : suc o + n ≡ o + suc n = omega arith in
    ap (run f o) s ∙ ap (λ ss. f o ∷ ss) (run-append f (suc o) n m ∙ ap (λ i. run f (suc o) n ++ run f i m) e)

at-zero : (i : ℕ) → 0 + i ≡ i
at-zero i = omega arith

slots-joined : (a b c : Layout) (n m : ℕ) → len a ≡ n → len b ≡ m → len c ≡ n + m → ((i : ℕ) → i < n → slot c i ≡ slot a i) → ((i : ℕ) → i < m → slot c (n + i) ≡ slot b i)
    → slots_of c ≡ slots_of a ++ slots_of b
slots-joined a b c n m p q e f g =
    rw (p, q, e)
    (run-append (slot c) 0 n m
    ∙ ap (λ k. run (slot c) 0 n ++ run (slot c) k m) (at-zero n)
    ∙ ap (λ ss. ss ++ run (slot c) n m) (run-ext (slot c) (slot a) 0 0 n (λ i k. ap (slot c) (at-zero i) ∙ f i k ∙ ap (slot a) (sym (at-zero i))))
    ∙ ap (λ ss. run (slot a) 0 n ++ ss) (run-ext (slot c) (slot b) n 0 m (λ i k. g i k ∙ ap (slot b) (sym (at-zero i)))))

-- slices within the first of two concatenated lists of bytes, and within the second
cut-left : (bs cs : List ℕ) (o n : ℕ) → o + n ≤ length bs → sublist (bs ++ cs) o n ≡ sublist bs o n
cut-left bs cs o n h = ap (take n) (drop-append-le o bs cs (omega arith)) ∙ take-append-le n (drop o bs) cs (omega (arith, length-drop o bs))

cut-right : (bs cs : List ℕ) (o n : ℕ) → sublist (bs ++ cs) (length bs + o) n ≡ sublist cs o n
cut-right bs cs o n = ap (take n) (sym (drop-drop o (length bs) (bs ++ cs)) ∙ ap (drop o) (drop-append_seam bs cs))

-- x bytes are x / s slots of s bytes each
pub exact-count : (x s : ℕ) → x % s ≡ 0 → x ≡ x / s * s
exact-count x s h = omega (arith, div-add-mod' x s, h)

pub counted : (x n s : ℕ) → 0 < s → x ≡ n * s → x / s ≡ n
counted x n s p e = ap (λ y. y / s) e ∙ mul-div_cancel n p

module _ (t : TypeTree) (bs cs : List ℕ) (n m : ℕ) (sized : 0 < size_of t) (first : length bs ≡ n * size_of t) (second : length cs ≡ m * size_of t) where
  both-length : length (bs ++ cs) ≡ (n + m) * size_of t
  both-length = length-append bs cs ∙ (let e = add-mul n m (size_of t) in omega (arith, first, second, e))

  both-slots : (va vb : Validity) → ValidityFits va n → slots_of (fixed_size_binary t (bs ++ cs) (joined_validity va n vb m)) ≡ slots_of (fixed_size_binary t bs va) ++ slots_of (fixed_size_binary t cs vb)
  both-slots va vb h =
      slots-joined (fixed_size_binary t bs va) (fixed_size_binary t cs vb) (fixed_size_binary t (bs ++ cs) (joined_validity va n vb m)) n m
      (counted (length bs) n (size_of t) sized first) (counted (length cs) m (size_of t) sized second) (counted (length (bs ++ cs)) (n + m) (size_of t) sized both-length)
      before after
    where
      before : (i : ℕ) → i < n → slot (fixed_size_binary t (bs ++ cs) (joined_validity va n vb m)) i ≡ slot (fixed_size_binary t bs va) i
      before i k =
          let v = valid-before va vb n m i h k in
          let c = cut-left bs cs (i * size_of t) (size_of t) (omega (arith, product-end i n (size_of t) k, first)) in
          rw (v, c) refl

      after : (i : ℕ) → i < m → slot (fixed_size_binary t (bs ++ cs) (joined_validity va n vb m)) (n + i) ≡ slot (fixed_size_binary t cs vb) i
      after i k =
          let v = valid-after va vb n m i h k in
          let o : (n + i) * size_of t ≡ length bs + i * size_of t = omega (arith, add-mul n i (size_of t), first) in
          rw (v, o, cut-right bs cs (i * size_of t) (size_of t)) refl

  both-fits : (va vb : Validity) → physical_type t ≡ physical.FixedSizeBinary → ValidityFits va n → ValidityFits vb m → TopFits (fixed_size_binary t (bs ++ cs) (joined_validity va n vb m))
  both-fits va vb e h g = (
    tt,
    (
      e,
      (
        sized,
        (
          ap (λ x. x % size_of t) both-length ∙ product-exact (n + m) (size_of t),
          (subst (ValidityFits (joined_validity va n vb m)) (sym (counted (length (bs ++ cs)) (n + m) (size_of t) sized both-length)) (fits-joined va vb n m h g), tt),
        ),
      ),
    ),
  )

-- the slots of an array of one item
one-slot : (t : TypeTree) (xs : List ℕ) (b : Bool) → 0 < size_of t → length xs ≡ size_of t
    → slots_of (fixed_size_binary t xs (if b then None else Some (false ∷ []))) ≡ (if b then slots.bytes xs else slots.null) ∷ []
one-slot t xs true p e =
    let z : 0 * size_of t ≡ 0 = omega arith in
    rw (counted (length xs) 1 (size_of t) p (omega (arith, e)), z, take_all (size_of t) xs (omega (arith, e))) refl
one-slot t xs false p e = rw (counted (length xs) 1 (size_of t) p (omega (arith, e))) refl

pub sized-equal : (size : ℕ) (xs : List ℕ) → ¬ IsOtherSize size (Some xs) → length xs ≡ size
sized-equal size xs h = elim (eqb_tells (length xs) size) as (λ _. length xs ≡ size) [ inl e ↦ e.1 | inr e ↦ absurd (h e.1) ]

sized-length : (size : ℕ) (x : Option (List ℕ)) → ¬ IsOtherSize size x → length (sized_bytes size x) ≡ size
sized-length size None h = length-replicate size 0
sized-length size (Some xs) h = sized-equal size xs h

abbrev mask : Option (List ℕ) → Validity
mask x = if is_some x then None else Some (false ∷ [])

mask-fits : (x : Option (List ℕ)) → ValidityFits (mask x) 1
mask-fits None = refl
mask-fits (Some xs) = tt

one-item : (t : TypeTree) (x : Option (List ℕ)) → 0 < size_of t → length (sized_bytes (size_of t) x) ≡ size_of t → slots_of (fixed_size_binary t (sized_bytes (size_of t) x) (mask x)) ≡ optional slots.bytes x ∷ []
one-item t None p e = one-slot t (sized_bytes (size_of t) None) false p e
one-item t (Some xs) p e = one-slot t xs true p e

pushed-parts : (t : TypeTree) (bs : List ℕ) (va : Validity) (x : Option (List ℕ))
    → pushed_bytes (fixed_size_binary t bs va) x ≡ fixed_size_binary t (bs ++ sized_bytes (size_of t) x) (joined_validity va (length bs / size_of t) (mask x) 1)
pushed-parts t bs va x = ap (fixed_size_binary t (bs ++ sized_bytes (size_of t) x)) (pushed-joined va (length bs / size_of t) (is_some x))

module _ (t : TypeTree) (bs : List ℕ) (va : Validity) (a : Layout) (e : fixed_size_binary t bs va ≡ a) (f : TopFits (fixed_size_binary t bs va)) where
  known : IsFixedSizeBinary t bs va
  known = fixed_size_binary-facts t bs va f

  whole : length bs ≡ length bs / size_of t * size_of t
  whole = exact-count (length bs) (size_of t) known.multiple

  once : (x : Option (List ℕ)) → length (sized_bytes (size_of t) x) ≡ size_of t → length (sized_bytes (size_of t) x) ≡ 1 * size_of t
  once x l = omega (arith, l)

  -- the slots after one more item
  pub pushed-slots : (x : Option (List ℕ)) → length (sized_bytes (size_of t) x) ≡ size_of t → slots_of (pushed_bytes a x) ≡ slots_of a ++ optional slots.bytes x ∷ []
  pushed-slots x l =
      rw (← e, pushed-parts t bs va x, ← (one-item t x known.sized l))
      (both-slots t bs (sized_bytes (size_of t) x) (length bs / size_of t) 1 known.sized whole (once x l) va (mask x) known.bits)

  pub pushed-fits : (x : Option (List ℕ)) → length (sized_bytes (size_of t) x) ≡ size_of t → TopFits (pushed_bytes (fixed_size_binary t bs va) x)
  pushed-fits x l =
      subst TopFits (sym (pushed-parts t bs va x))
      (both-fits t bs (sized_bytes (size_of t) x) (length bs / size_of t) 1 known.sized whole (once x l) va (mask x) known.typed known.bits (mask-fits x))

  pub pushed-type : (x : Option (List ℕ)) → layout_type (pushed_bytes a x) ≡ layout_type a
  pushed-type x = rw (← e) refl

  -- the slots after appending another builder
  module _ (cs : List ℕ) (vb : Validity) (u : TypeTree) (b : Layout) (d : fixed_size_binary u cs vb ≡ b) (g : TopFits (fixed_size_binary u cs vb)) (same : t ≡ u) where
    other : IsFixedSizeBinary t cs vb
    other = fixed_size_binary-facts t cs vb (subst (λ w. TopFits (fixed_size_binary w cs vb)) (sym same) g)

    more : length cs ≡ length cs / size_of t * size_of t
    more = exact-count (length cs) (size_of t) other.multiple

    pub joined-slots : slots_of (joined_bytes a b) ≡ slots_of a ++ slots_of b
    joined-slots =
        rw (← e, ← d, ← same)
        (both-slots t bs cs (length bs / size_of t) (length cs / size_of t) known.sized whole more va vb known.bits)

    pub joined-fits : TopFits (joined_bytes (fixed_size_binary t bs va) (fixed_size_binary u cs vb))
    joined-fits =
        rw (← same)
        (both-fits t bs cs (length bs / size_of t) (length cs / size_of t) known.sized whole more va vb known.typed known.bits other.bits)

    pub joined-type : layout_type (joined_bytes a b) ≡ layout_type a
    joined-type = rw (← e, ← d) refl

-- the parts after appending another builder
pub appended-parts : (t u : TypeTree) (bs cs ws ys : List ℕ) (va vb wa : Validity) (a b : Layout) (n m : ℕ) → fixed_size_binary t bs va ≡ a → fixed_size_binary u cs vb ≡ b → ws ≡ bs ++ ys → ys ≡ cs
    → wa ≡ joined_validity va n vb m → n ≡ len a → m ≡ len b → fixed_size_binary t ws wa ≡ joined_bytes (fixed_size_binary t bs va) (fixed_size_binary u cs vb)
appended-parts t u bs cs ws ys va vb wa a b n m e d w y v k l =
    let p : n ≡ length bs / size_of t = k ∙ sym (ap len e) in
    let q : m ≡ length cs / size_of u = l ∙ sym (ap len d) in
    let x : ws ≡ bs ++ cs = w ∙ ap (λ zs. bs ++ zs) y in
    let z : wa ≡ joined_validity va (length bs / size_of t) vb (length cs / size_of u) = v ∙ (λ i. joined_validity va (p i) vb (q i)) in
    λ i. fixed_size_binary t (x i) (z i)

same-types : (t u : TypeTree) (bs cs : List ℕ) (va vb : Validity) (a b : Layout) → fixed_size_binary t bs va ≡ a → fixed_size_binary u cs vb ≡ b → layout_type a ≡ layout_type b → t ≡ u
same-types t u bs cs va vb a b e d h = ap layout_type e ∙ h ∙ sym (ap layout_type d)

pub appended-fits : (t u : TypeTree) (bs cs : List ℕ) (va vb : Validity) (a b : Layout) → fixed_size_binary t bs va ≡ a → fixed_size_binary u cs vb ≡ b → TopFits (fixed_size_binary t bs va) → TopFits (fixed_size_binary u cs vb) → layout_type a ≡ layout_type b
    → TopFits (joined_bytes (fixed_size_binary t bs va) (fixed_size_binary u cs vb))
appended-fits t u bs cs va vb a b e d f g h = joined-fits t bs va a e f cs vb u b d g (same-types t u bs cs va vb a b e d h)

pub appended-slots : (t u : TypeTree) (bs cs : List ℕ) (va vb : Validity) (a b : Layout) → fixed_size_binary t bs va ≡ a → fixed_size_binary u cs vb ≡ b → TopFits (fixed_size_binary t bs va) → TopFits (fixed_size_binary u cs vb) → layout_type a ≡ layout_type b
    → slots_of (joined_bytes (fixed_size_binary t bs va) (fixed_size_binary u cs vb)) ≡ slots_of a ++ slots_of b
appended-slots t u bs cs va vb a b e d f g h =
    ap slots_of (λ i. joined_bytes (e i) (d i)) ∙ joined-slots t bs va a e f cs vb u b d g (same-types t u bs cs va vb a b e d h)

-- the parts after one more item
pub added-parts : (t : TypeTree) (bs ws : List ℕ) (va wa : Validity) (a : Layout) (n s : ℕ) (x : Option (List ℕ)) → fixed_size_binary t bs va ≡ a → s ≡ size_of t → ws ≡ bs ++ sized_bytes s x
    → wa ≡ pushed_validity va n (is_some x) → n ≡ len a → fixed_size_binary t ws wa ≡ pushed_bytes (fixed_size_binary t bs va) x
added-parts t bs ws va wa a n s x e z w v k =
    let p : n ≡ length bs / size_of t = k ∙ sym (ap len e) in
    let y : ws ≡ bs ++ sized_bytes (size_of t) x = w ∙ ap (λ m. bs ++ sized_bytes m x) z in
    let u : wa ≡ pushed_validity va (length bs / size_of t) (is_some x) = v ∙ ap (λ m. pushed_validity va m (is_some x)) p in
    λ i. fixed_size_binary t (y i) (u i)

pub sized-item : (t : TypeTree) (bs : List ℕ) (va : Validity) (a : Layout) (x : Option (List ℕ)) → fixed_size_binary t bs va ≡ a → ¬ IsOtherSize (size_of (layout_type a)) x → length (sized_bytes (size_of t) x) ≡ size_of t
sized-item t bs va a x e h = sized-length (size_of t) x (subst (λ b. ¬ IsOtherSize (size_of (layout_type b)) x) (sym e) h)

pub added-slots : (t : TypeTree) (bs : List ℕ) (va : Validity) (a : Layout) (x : Option (List ℕ)) → fixed_size_binary t bs va ≡ a → TopFits (fixed_size_binary t bs va) → ¬ IsOtherSize (size_of (layout_type a)) x
    → slots_of (pushed_bytes (fixed_size_binary t bs va) x) ≡ slots_of a ++ optional slots.bytes x ∷ []
added-slots t bs va a x e f h = ap (λ b. slots_of (pushed_bytes b x)) e ∙ pushed-slots t bs va a e f x (sized-item t bs va a x e h)

pub added-fits : (t : TypeTree) (bs : List ℕ) (va : Validity) (a : Layout) (x : Option (List ℕ)) → fixed_size_binary t bs va ≡ a → TopFits (fixed_size_binary t bs va) → ¬ IsOtherSize (size_of (layout_type a)) x
    → TopFits (pushed_bytes (fixed_size_binary t bs va) x)
added-fits t bs va a x e f h = pushed-fits t bs va a e f x (sized-item t bs va a x e h)

-- the parts of the first n slots
pub cut-parts : (t : TypeTree) (bs ws : List ℕ) (va wa : Validity) (a : Layout) (n s : ℕ) → fixed_size_binary t bs va ≡ a → s ≡ size_of t → ws ≡ take (n * s) bs → wa ≡ sliced_validity va 0 n → fixed_size_binary t ws wa ≡ slice_layout a 0 n
cut-parts t bs ws va wa a n s e z w v =
    let o : 0 ≡ 0 * size_of t = omega arith in
    (λ i. fixed_size_binary t (w i) (v i)) ∙ (λ i. fixed_size_binary t (sublist bs (o i) (n * z i)) (sliced_validity va 0 n)) ∙ ap (λ b. slice_layout b 0 n) e

pub cut-fits : (t : TypeTree) (bs : List ℕ) (va : Validity) (a : Layout) (n : ℕ) → fixed_size_binary t bs va ≡ a → TopFits (fixed_size_binary t bs va) → n ≤ len a → TopFits (slice_layout a 0 n)
cut-fits t bs va a n e f l = top-fits-cut a 0 n (subst TopFits e f) (omega (arith, l))

-- the number of bytes
pub bytes-counted : (t : TypeTree) (bs : List ℕ) (va : Validity) (a : Layout) → fixed_size_binary t bs va ≡ a → TopFits (fixed_size_binary t bs va) → length bs ≡ len a * size_of (layout_type a)
bytes-counted t bs va a e f = whole t bs va a e f ∙ ap (λ b. len b * size_of (layout_type b)) e

-- the last slot
pub last-slot : (a : Layout) (n : ℕ) (s : Slot) → n ≡ len a → 0 < n → s ≡ slot a (n - 1) → s ≡ get_or (slots_of a) (len a - 1) slots.null
last-slot a n s e p h =
    let q : n - 1 ≡ len a - 1 = ap (λ m. m - 1) e in
    h ∙ ap (slot a) q ∙ sym (slot-place a (len a - 1) slots.null (omega (arith, e, p)))

pub copied-some : (x : Option (Bor (List ℕ))) → is_some (option_copied x) ≡ is_some x
copied-some None = refl
copied-some (Some y) = refl

-- other bytes of the same length fit
pub other-bytes_fit : (t : TypeTree) (bs cs : List ℕ) (va : Validity) → length cs ≡ length bs → TopFits (fixed_size_binary t bs va) → TopFits (fixed_size_binary t cs va)
other-bytes_fit t bs cs va e f =
    let k = fixed_size_binary-facts t bs va f in
    (tt, (k.typed, (k.sized, (ap (λ n. n % size_of t) e ∙ k.multiple, (subst (ValidityFits va) (ap (λ n. n / size_of t) (sym e)) k.bits, tt)))))
