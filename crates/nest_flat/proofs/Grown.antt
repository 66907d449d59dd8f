-- Slots appended to others, and their validity bits.
use Rattle.std.specs.Prelude.{ℤ, Option, Some, None, if◌then◌else◌, is_some, option_map}
use Rattle.std.specs.Option.{unwrap_or}
use Rattle.std.proofs.Common.{◌≡◌, ℕ, zero, suc, ◌+◌, ◌<◌, ◌≤◌, Bool, true, false, List, [], ◌∷◌, ◌++◌, length, take, replicate, get_or, refl, ap, sym, ◌∙◌, arith}
use Rattle.std.proofs.lemmas.List.{length-append, length-replicate, get_or-replicate, get_or_append_left, get_or-append-add}
use Rattle.std.proofs.lemmas.List.{take-append-le}
use Rattle.nest_memory.specs.TypeTree.{TypeTree}
use Rattle.nest_memory.specs.declared.datatypes.physical_type.PrimitiveType.{PrimitiveType}
use Rattle.nest_model.specs.Part.{Validity, valid_at, sliced_validity}
use Rattle.nest_model.specs.Slot as slots
use Rattle.nest_model.specs.Slot.{Slot}
use Rattle.nest_model.specs.Layout.{Layout, boolean, primitive, layout_type}
use Rattle.nest_model.specs.Accessors.{validity_of, with_validity}
use Rattle.nest_model.specs.Meaning.{run, len, slot, slots_of}
use Rattle.nest_model.specs.Runs.{run-ext}
use Rattle.nest_model.specs.Fits.{ValidityFits}
use Rattle.nest_flat.specs.FlatParts.{optional}
use Rattle.nest_flat.specs.Growth.{pushed_validity, joined_validity, first_slots, rolled_back, Grew}

-- the bits of joined slots
pub fits-joined : (va vb : Validity) (n m k : ℕ) → ValidityFits va n → ValidityFits vb m → k ≡ n + m → ValidityFits (joined_validity va n vb m) k
fits-joined None None n m k h g e = tt
fits-joined None (Some more) n m k h g e = omega (arith, length-append (replicate n true) more, length-replicate n true)
fits-joined (Some bits) None n m k h g e = omega (arith, length-append bits (replicate m true), length-replicate m true)
fits-joined (Some bits) (Some more) n m k h g e = omega (arith, length-append bits more)

-- the slots of the first keep their bits, and those of the second follow
pub valid-before : (va vb : Validity) (n m i : ℕ) → ValidityFits va n → i < n → valid_at (joined_validity va n vb m) i ≡ valid_at va i
valid-before None None n m i h k = refl
valid-before None (Some more) n m i h k =
    get_or_append_left (replicate n true) more true i (omega (arith, length-replicate n true)) ∙ get_or-replicate n i true true k
valid-before (Some bits) None n m i h k = get_or_append_left bits (replicate m true) true i (omega arith)
valid-before (Some bits) (Some more) n m i h k = get_or_append_left bits more true i (omega arith)

pub valid-after : (va vb : Validity) (n m i : ℕ) → ValidityFits va n → i < m → valid_at (joined_validity va n vb m) (n + i) ≡ valid_at vb i
valid-after None None n m i h k = refl
valid-after None (Some more) n m i h k =
    ap (λ p. get_or (replicate n true ++ more) (p + i) true) (sym (length-replicate n true)) ∙ get_or-append-add (replicate n true) more i true
valid-after (Some bits) None n m i h k =
    ap (λ p. get_or (bits ++ replicate m true) (p + i) true) (sym h) ∙ get_or-append-add bits (replicate m true) i true ∙ get_or-replicate m i true true k
valid-after (Some bits) (Some more) n m i h k = ap (λ p. get_or (bits ++ more) (p + i) true) (sym h) ∙ get_or-append-add bits more i true

-- joined ranges of slots
pub run-append : (f : ℕ → Slot) (o n m : ℕ) → run f o (n + m) ≡ run f o n ++ run f (o + n) m
run-append f o zero m =
    let z : 0 + m ≡ m = omega arith in
    let e : o ≡ o + 0 = omega arith in
    ap (run f o) z ∙ ap (λ i. run f i m) e
run-append f o (suc n) m =
    let s : suc n + m ≡ suc (n + m) = omega arith in
    let e : suc o + n ≡ o + suc n = omega arith in
    ap (run f o) s ∙ ap (λ ss. f o ∷ ss) (run-append f (suc o) n m ∙ ap (λ i. run f (suc o) n ++ run f i m) e)

-- an array whose slots are those of two arrays in order
pub slots-joined : (a b c : Layout) → len c ≡ len a + len b → ((i : ℕ) → i < len a → slot c i ≡ slot a i) → ((i : ℕ) → i < len b → slot c (len a + i) ≡ slot b i)
    → slots_of c ≡ slots_of a ++ slots_of b
slots-joined a b c e f g =
    let z : 0 + len a ≡ len a = omega arith in
    ap (run (slot c) 0) e
    ∙ run-append (slot c) 0 (len a) (len b)
    ∙ ap (λ p. run (slot c) 0 (len a) ++ run (slot c) p (len b)) z
    ∙ ap (λ ss. ss ++ run (slot c) (len a) (len b)) (run-ext (slot c) (slot a) 0 0 (len a) (λ i k. ap (slot c) (at-zero i) ∙ f i k ∙ ap (slot a) (sym (at-zero i))))
    ∙ ap (λ ss. slots_of a ++ ss) (run-ext (slot c) (slot b) (len a) 0 (len b) (λ i k. g i k ∙ ap (slot b) (sym (at-zero i))))
  where
    at-zero : (i : ℕ) → 0 + i ≡ i
    at-zero i = omega arith

-- pushing a bit joins one bit
pub pushed-joined : (va : Validity) (n : ℕ) (b : Bool) → pushed_validity va n b ≡ joined_validity va n (if b then None else Some (false ∷ [])) 1
pushed-joined None n true = refl
pushed-joined None n false = refl
pushed-joined (Some bits) n true = refl
pushed-joined (Some bits) n false = refl

-- bits taken back
pub validity-back : (va vb : Validity) (n m k : ℕ) → ValidityFits va n → k ≤ n → is_some va ≡ true → sliced_validity (joined_validity va n vb m) 0 k ≡ sliced_validity va 0 k
validity-back None vb n m k h l e = cc
validity-back (Some bits) None n m k h l e = ap Some (take-append-le k bits (replicate m true) (omega arith))
validity-back (Some bits) (Some more) n m k h l e = ap Some (take-append-le k bits more (omega arith))

pub masked-joined : (va vb : Validity) (n m : ℕ) → is_some va ≡ true → is_some (joined_validity va n vb m) ≡ true
masked-joined None vb n m e = cc
masked-joined (Some bits) None n m e = refl
masked-joined (Some bits) (Some more) n m e = refl

-- a flat array from its raw values and its validity
pub record Made {A : Type 0} (make : List A → Validity → Layout) (f : A → Slot) (d : A) : Type 0 where
  pub count : (xs : List A) (va : Validity) → len (make xs va) ≡ length xs
  pub place : (xs : List A) (va : Validity) (i : ℕ) → slot (make xs va) i ≡ (if valid_at va i then f (get_or xs i d) else slots.null)
  pub typed : (xs ys : List A) (va wa : Validity) → layout_type (make xs va) ≡ layout_type (make ys wa)
  pub bits : (xs : List A) (va : Validity) → validity_of (make xs va) ≡ va
  pub short : (xs : List A) (va : Validity) (n : ℕ) → first_slots (make xs va) n ≡ make (take n xs) (sliced_validity va 0 n)
  pub bare : (xs : List A) (va wa : Validity) → with_validity (make xs va) wa ≡ make xs wa

pub made-native : (k : PrimitiveType) (t : TypeTree) → Made (primitive k t) slots.number []
made-native k t = record {
  count = λ xs va. refl;
  place = λ xs va i. refl;
  typed = λ xs ys va wa. refl;
  bits = λ xs va. refl;
  short = λ xs va n. refl;
  bare = λ xs va wa. refl;
}

pub made-truth : (t : TypeTree) → Made (boolean t) slots.boolean false
made-truth t = record {
  count = λ xs va. refl;
  place = λ xs va i. refl;
  typed = λ xs ys va wa. refl;
  bits = λ xs va. refl;
  short = λ xs va n. refl;
  bare = λ xs va wa. refl;
}

module _ {A : Type 0} (make : List A → Validity → Layout) (f : A → Slot) (d : A) (kind : Made make f d) where
  abbrev both : List A → List A → Validity → Validity → Layout
  both xs ys va vb = make (xs ++ ys) (joined_validity va (length xs) vb (length ys))

  both-before : (xs ys : List A) (va vb : Validity) (i : ℕ) → ValidityFits va (length xs) → i < length xs → slot (both xs ys va vb) i ≡ slot (make xs va) i
  both-before xs ys va vb i h k =
      let v = valid-before va vb (length xs) (length ys) i h k in
      let e = get_or_append_left xs ys d i k in
      let p = kind.place (xs ++ ys) (joined_validity va (length xs) vb (length ys)) i in
      let q = kind.place xs va i in
      cc

  both-after : (xs ys : List A) (va vb : Validity) (i : ℕ) → ValidityFits va (length xs) → i < length ys → slot (both xs ys va vb) (length xs + i) ≡ slot (make ys vb) i
  both-after xs ys va vb i h k =
      let v = valid-after va vb (length xs) (length ys) i h k in
      let e = get_or-append-add xs ys i d in
      let p = kind.place (xs ++ ys) (joined_validity va (length xs) vb (length ys)) (length xs + i) in
      let q = kind.place ys vb i in
      cc

  both-slots : (xs ys : List A) (va vb : Validity) → ValidityFits va (length xs) → slots_of (both xs ys va vb) ≡ slots_of (make xs va) ++ slots_of (make ys vb)
  both-slots xs ys va vb h =
      let l = kind.count xs va in
      let m = kind.count ys vb in
      let n = kind.count (xs ++ ys) (joined_validity va (length xs) vb (length ys)) in
      slots-joined (make xs va) (make ys vb) (both xs ys va vb) (omega (arith, length-append xs ys))
      (λ i k. both-before xs ys va vb i h (omega arith))
      (λ i k. ap (λ p. slot (both xs ys va vb) (p + i)) l ∙ both-after xs ys va vb i h (omega arith))

  back-true : (xs ys : List A) (va vb : Validity) (n : ℕ) → ValidityFits va (length xs) → n ≤ length xs → is_some va ≡ true → first_slots (both xs ys va vb) n ≡ first_slots (make xs va) n
  back-true xs ys va vb n h l e =
      kind.short (xs ++ ys) (joined_validity va (length xs) vb (length ys)) n
      ∙ ap (λ zs. make zs (sliced_validity (joined_validity va (length xs) vb (length ys)) 0 n)) (take-append-le n xs ys l)
      ∙ ap (make (take n xs)) (validity-back va vb (length xs) (length ys) n h l e)
      ∙ sym (kind.short xs va n)

  bare-short : (xs : List A) (va : Validity) (n : ℕ) → with_validity (first_slots (make xs va) n) None ≡ make (take n xs) None
  bare-short xs va n = ap (λ a. with_validity a None) (kind.short xs va n) ∙ kind.bare (take n xs) (sliced_validity va 0 n) None

  back-false : (xs ys : List A) (va vb : Validity) (n : ℕ) → n ≤ length xs → with_validity (first_slots (both xs ys va vb) n) None ≡ with_validity (first_slots (make xs va) n) None
  back-false xs ys va vb n l =
      bare-short (xs ++ ys) (joined_validity va (length xs) vb (length ys)) n
      ∙ ap (λ zs. make zs None) (take-append-le n xs ys l)
      ∙ sym (bare-short xs va n)

  back : (xs ys : List A) (va vb : Validity) (n : ℕ) (m : Bool) → ValidityFits va (length xs) → n ≤ length xs → (m ≡ true → is_some va ≡ true)
      → rolled_back (both xs ys va vb) n m ≡ rolled_back (make xs va) n m
  back xs ys va vb n true h l e = back-true xs ys va vb n h l (e refl)
  back xs ys va vb n false h l e = back-false xs ys va vb n l

  -- appended slots
  pub made-grew : (xs ys : List A) (va vb : Validity) → ValidityFits va (length xs) → Grew (slots_of (make ys vb)) (make xs va) (both xs ys va vb)
  made-grew xs ys va vb h =
      let b = kind.bits xs va in
      let c = kind.bits (xs ++ ys) (joined_validity va (length xs) vb (length ys)) in
      let l = kind.count xs va in
      record {
        slots = both-slots xs ys va vb h;
        same_type = kind.typed (xs ++ ys) xs (joined_validity va (length xs) vb (length ys)) va;
        masked = λ e. ap is_some c ∙ masked-joined va vb (length xs) (length ys) (ap is_some (sym b) ∙ e);
        back = λ n m k e. back xs ys va vb n m h (omega arith) (λ f. ap is_some (sym b) ∙ e f);
      }

  -- an appended slot
  one-slot : (x : A) (b : Bool) → slots_of (make (x ∷ []) (if b then None else Some (false ∷ []))) ≡ (if b then f x else slots.null) ∷ []
  one-slot x true = ap (run (slot (make (x ∷ []) None)) 0) (kind.count (x ∷ []) None) ∙ ap (λ s. s ∷ []) (kind.place (x ∷ []) None 0)
  one-slot x false =
      ap (run (slot (make (x ∷ []) (Some (false ∷ [])))) 0) (kind.count (x ∷ []) (Some (false ∷ []))) ∙ ap (λ s. s ∷ []) (kind.place (x ∷ []) (Some (false ∷ [])) 0)

  pub made-pushed : (xs : List A) (x : A) (va : Validity) (b : Bool) → ValidityFits va (length xs)
      → Grew ((if b then f x else slots.null) ∷ []) (make xs va) (make (xs ++ x ∷ []) (pushed_validity va (length xs) b))
  made-pushed xs x va b h =
      rw (pushed-joined va (length xs) b, ← one-slot x b) (made-grew xs (x ∷ []) va (if b then None else Some (false ∷ [])) h)

  -- an appended slot, from the parts of a builder
  pub made-took : (xs ws : List A) (x : A) (va wa : Validity) (b : Bool) (n : ℕ) (a : Layout) (s : Slot) → make xs va ≡ a → ws ≡ xs ++ x ∷ [] → wa ≡ pushed_validity va n b → n ≡ length xs
      → ValidityFits va (length xs) → (if b then f x else slots.null) ≡ s → Grew (s ∷ []) a (make ws wa)
  made-took xs ws x va wa b n a s e p q l h r = rw (← e, p, q, l, ← r) (made-pushed xs x va b h)

  pub made-joined : (xs ws ys : List A) (va wa vb : Validity) (n m : ℕ) (a b : Layout) → make xs va ≡ a → slots_of (make ys vb) ≡ slots_of b → ws ≡ xs ++ ys → wa ≡ joined_validity va n vb m
      → n ≡ length xs → m ≡ length ys → ValidityFits va (length xs) → Grew (slots_of b) a (make ws wa)
  made-joined xs ws ys va wa vb n m a b e i p q l k h = rw (← e, ← i, p, q, l, k) (made-grew xs ys va vb h)

  pub made-taken : (xs ws : List A) (va wa : Validity) (n : ℕ) (m : Bool) (a : Layout) → make xs va ≡ a → ws ≡ take n xs → wa ≡ (if m then sliced_validity va 0 n else None) → make ws wa ≡ rolled_back a n m
  made-taken xs ws va wa n true a e p q = rw (← e, p, q) (sym (kind.short xs va n))
  made-taken xs ws va wa n false a e p q = rw (← e, p, q) (sym (bare-short xs va n))

-- the slot of an item, from its raw value
pub native-item : {T : Type 0} (num : T → List ℤ) (item : Option T) (v : T) (d : List ℤ) (b : Bool) → b ≡ is_some item → num v ≡ unwrap_or (option_map num item) d
    → (if b then slots.number (num v) else slots.null) ≡ optional (λ x. slots.number (num x)) item
native-item num None v d b e h = rw e refl
native-item num (Some x) v d b e h = rw e (ap slots.number h)

pub truth-item : (item : Option Bool) (b : Bool) → b ≡ is_some item → (if b then slots.boolean (unwrap_or item false) else slots.null) ≡ optional slots.boolean item
truth-item None b e = rw e refl
truth-item (Some x) b e = rw e refl
