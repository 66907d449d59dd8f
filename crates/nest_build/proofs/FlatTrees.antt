-- Flat builders as trees of one level.
use Rattle.std.specs.Prelude.{◌⊎◌, ◌≢◌, ◌↔◌, ℤ, Option, Some, None, not, IsTrue, Result, Ok, Err, OnOk, IfErr, alloc_error, option_map, nat_eq, slice_get, map, IsErrOf}
use Rattle.std.proofs.Common.{◌≡◌, ℕ, suc, ◌+◌, ◌<◌, ◌≤◌, Bool, true, false, List, [], ◌∷◌, ◌++◌, length, get_or, refl, sym, ap, subst, ◌∙◌, inl, inr, arith}
use Rattle.std.proofs.lemmas.List.{length-append, length-map, get_or-map}
use Rattle.std.proofs.lemmas.Bool.{le-leb}
use Rattle.std.proofs.lemmas.Bool.Decides.{eqb_tells}
use Rattle.std.proofs.lemmas.Option.{get_or_from_slice_get}
use Rattle.std.specs.Bool.{beq}
use Rattle.nest_memory.specs.TypeTree.{TypeTree}
use Rattle.nest_memory.specs.Physical.{physical_type}
use Rattle.nest_memory.specs.declared.datatypes.physical_type.PhysicalType.TheVariants as physical
use Rattle.nest_memory.specs.declared.datatypes.physical_type.PrimitiveType.{PrimitiveType}
use Rattle.nest_memory.specs.declared.error.Error.{Error}
use Rattle.nest_memory.specs.declared.error.Error.TheVariants.{Memory, InvalidArgumentError, Overflow}
use Rattle.nest_memory.specs.declared.error.ArgumentError.TheVariants.{ItemType}
use Rattle.nest_flat.specs.FlatParts.{optional}
use Rattle.nest_flat.specs.NullSlots.{NullsByValidity, slot-invalid, slot-null}
use Rattle.nest_model.specs.Part.{Validity, valid_at}
use Rattle.nest_model.specs.Slot as slots
use Rattle.nest_model.specs.Slot.{Slot}
use Rattle.nest_model.specs.Layout.{Layout, null, boolean, primitive, binary, utf8, fixed_size_binary, fixed_size_list, list, map as entries, struct, union, dictionary, layout_type}
use Rattle.nest_model.specs.Accessors.{validity_of, natives_of, bits_of}
use Rattle.nest_model.specs.Meaning.{len, slot, slots_of}
use Rattle.nest_model.specs.Reads.{slots-length, slot-place}
use Rattle.nest_model.specs.Fits.{ValidityFits}
use Rattle.nest_model.specs.Array.{TopFits}
use Rattle.nest_model.specs.FactLaws.{binary-facts, text-facts, fixed_size_binary-facts, fixed_size_list-facts, list-facts, map-facts, struct-facts}
use Rattle.nest_model.specs.Checks.{refuse_if, largest_length, is_past, Pass, FailFirst}
use Rattle.nest_model.specs.DecideType.{decide_type}
use Rattle.nest_model.specs.BuilderTree.{flat, builder_len}
use Rattle.nest_model.specs.BuilderItem as items
use Rattle.nest_model.specs.BuilderItem.{PlainValue, Holds, native_number, slot_of_plain, takes}
use Rattle.nest_model.specs.BuilderAppend.{Accepted}
use Rattle.nest_model.specs.BuilderAppendLaws.{flat_accepted, flat_null_accepted}
use Rattle.nest_model.specs.BuilderRefusals.{required_item, requirement_refusal, item_refusal, plain_refusal, value_refusal}
use Rattle.nest_model.specs.BuilderRefusalLaws.{within, same_number}
use Rattle.nest_model.specs.BuilderJoin.{join_checks, join_passes}
use Rattle.nest_model.specs.BuilderReading.{complete, ReadsValue, Consumed, Refused}
use Rattle.nest_build.specs.FlatTree.{flat_tree}
use Rattle.nest_build.specs.Shown.{own_slot, ShowsNulls}

-- lengths and indices
pub flat-within : (a : Layout) (i : ℕ) → i < builder_len (flat_tree a) → i < len a
flat-within a i l = let e = slots-length a in omega (arith, l, e)

pub flat-inside : (a : Layout) (n : ℕ) → n ≤ builder_len (flat_tree a) → n ≤ len a
flat-inside a n l = let e = slots-length a in omega (arith, l, e)

pub flat-count : (a : Layout) (n : ℕ) → n ≡ len a → n ≡ builder_len (flat_tree a)
flat-count a n e = e ∙ sym (slots-length a)

pub flat-place : (a : Layout) (i : ℕ) → i < builder_len (flat_tree a) → own_slot (flat_tree a) i ≡ slot a i
flat-place a i l = slot-place a i slots.null (flat-within a i l)

-- nulls
valid-case : (r : Bool) (s : Slot) → (r ≡ false → s ≡ slots.null) → (s ≡ slots.null → r ≡ false) → IsTrue r ↔ (s ≢ slots.null)
valid-case true s f g = (λ t n. let q : true ≡ false = g n in cc, λ n. refl)
valid-case false s f g = (λ t. cc, λ n. absurd (n (f refl)))

pub flat-valid : (a : Layout) (i : ℕ) (r : Bool) → NullsByValidity a → i < builder_len (flat_tree a) → r ≡ valid_at (validity_of a) i → IsTrue r ↔ (own_slot (flat_tree a) i ≢ slots.null)
flat-valid a i r k l e =
    valid-case r (own_slot (flat_tree a) i)
    (λ f. flat-place a i l ∙ slot-invalid a i (sym e ∙ f))
    (λ n. e ∙ slot-null a i k (sym (flat-place a i l) ∙ n))

pub flat-bits : (a : Layout) → TopFits a → NullsByValidity a → ValidityFits (validity_of a) (len a)
flat-bits (boolean t bs va) f k = f.1.0
flat-bits (primitive p t vs va) f k = f.1.0
flat-bits (binary w t os bs va) f k = let x = binary-facts w t os bs va f in x.bits
flat-bits (utf8 w t os bs va) f k = let x = text-facts w t os bs va f in x.bits
flat-bits (fixed_size_binary t bs va) f k = let x = fixed_size_binary-facts t bs va f in x.bits
flat-bits (fixed_size_list t c va) f k = let x = fixed_size_list-facts t c va f in x.bits
flat-bits (list w t os c va) f k = let x = list-facts w t os c va f in x.bits
flat-bits (entries t os c va) f k = let x = map-facts t os c va f in x.bits
flat-bits (struct t cs va) f k = let x = struct-facts t cs va f in x.bits
flat-bits (null t n) f k = absurd k
flat-bits (union t ks cs os start) f k = absurd k
flat-bits (dictionary t ks c) f k = absurd k

tells-by : (va : Validity) (a : Layout) → va ≡ validity_of a → ValidityFits va (len a) → NullsByValidity a → ShowsNulls va (flat_tree a)
tells-by None a e f k =
    inr (λ i l n. let h : valid_at None i ≡ false = ap (λ v. valid_at v i) e ∙ slot-null a i k (sym (flat-place a i l) ∙ n) in cc)
tells-by (Some bits) a e f k = (
  f ∙ sym (slots-length a),
  λ i l. (
    λ z. flat-place a i l ∙ slot-invalid a i (ap (λ v. valid_at v i) (sym e) ∙ z),
    λ n. ap (λ v. valid_at v i) e ∙ slot-null a i k (sym (flat-place a i l) ∙ n),
  ),
)

pub flat-tells : (a : Layout) (va : Validity) → va ≡ validity_of a → TopFits a → NullsByValidity a → ShowsNulls va (flat_tree a)
flat-tells a va e f k = tells-by va a e (subst (λ v. ValidityFits v (len a)) (sym e) (flat-bits a f k)) k

-- the kind of a value is checked once or twice
twice : (b : Bool) (e : Error) (o : Option Error) → refuse_if (not b) e (refuse_if (not b) e o) ≡ refuse_if (not b) e o
twice true e o = refl
twice false e o = refl

pub plain-value : (v : PlainValue) (t : TypeTree) (xs : List Slot) → plain_refusal v (flat t xs) ≡ value_refusal v (flat t xs)
plain-value v t xs = twice (takes (flat t xs) v) (InvalidArgumentError ItemType) _

pub value-took : {A : Type 0} (value : A → PlainValue) (item : Option A) (x : A) (v : PlainValue) (a b : Layout) → item ≡ Some x → v ≡ value x
    → Accepted (items.plain v) (flat_tree a) (flat_tree b) → plain_refusal v (flat_tree a) ≡ None → Consumed (ReadsValue value) item (flat_tree a) (flat_tree b)
value-took value item x v a b h e k n = rw h (items.plain v, ap (λ w. complete (items.plain w)) e, k, sym (plain-value v (layout_type a) (slots_of a)) ∙ n)

pub null-took : {A : Type 0} (value : A → PlainValue) (item : Option A) (a b : Layout) → item ≡ None
    → Accepted items.null (flat_tree a) (flat_tree b) → item_refusal items.null (flat_tree a) ≡ None → Consumed (ReadsValue value) item (flat_tree a) (flat_tree b)
null-took value item a b h k n = rw h (items.null, refl, k, n)

pub value-refused : {A : Type 0} (value : A → PlainValue) (item : Option A) (x : A) (v : PlainValue) (a : Layout) → item ≡ Some x → v ≡ value x → (e : Error)
    → (e ≡ Memory alloc_error) ⊎ (plain_refusal v (flat_tree a) ≡ Some e) → Refused (ReadsValue value) item (flat_tree a) e
value-refused value item x v a h f e (inl m) = inl m
value-refused value item x v a h f e (inr k) =
    inr (rw h (complete (items.plain v), ap (λ w. complete (items.plain w)) f, sym (plain-value v (layout_type a) (slots_of a)) ∙ k))

-- combines two facts of an Ok result
pub on_ok_both : {T E : Type 0} {A B C : Type 0} (r : Result T E) → (A → B → C) → OnOk r A → OnOk r B → OnOk r C
on_ok_both (Ok x) f a b = f a b
on_ok_both (Err e) f a b = tt

-- maps a fact of an Err result
pub on_err_so : {T E : Type 0} {A B : E → Type 0} (r : Result T E) → ((e : E) → A e → B e) → IfErr r A → IfErr r B
on_err_so (Ok x) f a = tt
on_err_so (Err e) f a = f e a

-- native values
pub native-physical : (p : PrimitiveType) (a : Layout) → TopFits a → a ≡ primitive p (layout_type a) (natives_of a) (validity_of a) → physical_type (layout_type a) ≡ physical.Primitive p
native-physical p a f e = (subst TopFits e f).1.1.0

pub native-nulls : (p : PrimitiveType) (a : Layout) → a ≡ primitive p (layout_type a) (natives_of a) (validity_of a) → NullsByValidity a
native-nulls p a e = subst NullsByValidity (sym e) tt

pub native-accepted : {T : Type 0} (p : PrimitiveType) (num : T → List ℤ) (a b : Layout) (x : Option T)
    → layout_type b ≡ layout_type a → slots_of b ≡ slots_of a ++ optional (λ y. slots.number (num y)) x ∷ []
    → Accepted (required_item (option_map (λ y. items.native p (num y)) x)) (flat_tree a) (flat_tree b)
native-accepted p num a b None t s = rw t (flat_null_accepted (layout_type a) (slots_of a) (slots_of b) s)
native-accepted p num a b (Some y) t s = rw t (flat_accepted (layout_type a) (slots_of a) (slots_of b) (items.native p (num y)) s)

pub native-fits : {T : Type 0} (p : PrimitiveType) (num : T → List ℤ) (a : Layout) (x : Option T) → TopFits a → a ≡ primitive p (layout_type a) (natives_of a) (validity_of a)
    → length (slots_of a) + 1 ≤ largest_length → requirement_refusal (option_map (λ y. items.native p (num y)) x) (flat_tree a) ≡ None
native-fits p num a None f e l = rw (native-physical p a f e, within (length (slots_of a) + 1) l) refl
native-fits p num a (Some y) f e l =
    rw (native-physical p a f e, same_number (native_number p) (native_number p) refl, within (length (slots_of a) + 1) l) refl

pub grown-count : (a b : Layout) (s : Slot) (n : ℕ) → slots_of b ≡ slots_of a ++ s ∷ [] → n ≡ len b → n ≤ largest_length → length (slots_of a) + 1 ≤ largest_length
grown-count a b s n e h l =
    let m = ap length e in
    let k = slots-length b in
    let p = length-append (slots_of a) (s ∷ []) in
    let q : length (s ∷ []) ≡ 1 = refl in
    omega arith

-- booleans
pub truth-physical : (a : Layout) → TopFits a → a ≡ boolean (layout_type a) (bits_of a) (validity_of a) → physical_type (layout_type a) ≡ physical.Boolean
truth-physical a f e = (subst TopFits e f).1.1.0

pub truth-nulls : (a : Layout) → a ≡ boolean (layout_type a) (bits_of a) (validity_of a) → NullsByValidity a
truth-nulls a e = subst NullsByValidity (sym e) tt

pub truth-accepted : (a b : Layout) (x : Option Bool) → layout_type b ≡ layout_type a → slots_of b ≡ slots_of a ++ optional slots.boolean x ∷ []
    → Accepted (required_item (option_map items.boolean x)) (flat_tree a) (flat_tree b)
truth-accepted a b None t s = rw t (flat_null_accepted (layout_type a) (slots_of a) (slots_of b) s)
truth-accepted a b (Some y) t s = rw t (flat_accepted (layout_type a) (slots_of a) (slots_of b) (items.boolean y) s)

pub truth-fits : (a : Layout) (x : Option Bool) → TopFits a → a ≡ boolean (layout_type a) (bits_of a) (validity_of a)
    → length (slots_of a) + 1 ≤ largest_length → requirement_refusal (option_map items.boolean x) (flat_tree a) ≡ None
truth-fits a None f e l = rw (truth-physical a f e, within (length (slots_of a) + 1) l) refl
truth-fits a (Some y) f e l = rw (truth-physical a f e, within (length (slots_of a) + 1) l) refl

past : (n : ℕ) → largest_length < n → is_past n ≡ true
past n l = le-leb (suc largest_length) n (omega (arith, l))

pub truth-past : (a : Layout) (x : Option Bool) → TopFits a → a ≡ boolean (layout_type a) (bits_of a) (validity_of a)
    → largest_length < len a + 1 → requirement_refusal (option_map items.boolean x) (flat_tree a) ≡ Some Overflow
truth-past a None f e l = rw (truth-physical a f e, past (length (slots_of a) + 1) (omega (arith, slots-length a, l))) refl
truth-past a (Some y) f e l = rw (truth-physical a f e, past (length (slots_of a) + 1) (omega (arith, slots-length a, l))) refl

pub truth-refused : (a : Layout) (x : Option Bool) (e : Error) → TopFits a → a ≡ boolean (layout_type a) (bits_of a) (validity_of a)
    → (e ≡ Overflow) ⊎ (e ≡ Memory alloc_error) → (e ≡ Overflow → largest_length < len a + 1)
    → (e ≡ Memory alloc_error) ⊎ ((e ≡ Overflow) × (requirement_refusal (option_map items.boolean x) (flat_tree a) ≡ Some e))
truth-refused a x e f k (inl o) p = inr (o, truth-past a x f k (p o) ∙ ap Some (sym o))
truth-refused a x e f k (inr m) p = inl m

-- whether a slot is a value
never : IsTrue false → ⊥
never t = cc

no-value : (v : PlainValue) → slot_of_plain v ≡ slots.null → ⊥
no-value (items.boolean b) e = cc
no-value (items.native q zs) e = cc
no-value (items.utf8 t) e = cc
no-value (items.bytes b) e = cc

pub null-holds : (a : Layout) (i : ℕ) (v : PlainValue) (r : Bool) → i < len a → r ≡ valid_at (validity_of a) i → r ≡ false → IsTrue r ↔ Holds (flat_tree a) i v
null-holds a i v r l e f =
    let k : valid_at (validity_of a) i ≡ false = sym e ∙ f in
    (λ t. absurd (never (sym f ∙ t)), λ h. absurd (no-value v (sym h.1 ∙ slot-place a i slots.null l ∙ slot-invalid a i k)))

pub value-holds : (a : Layout) (i : ℕ) (v : PlainValue) (s : Slot) (r : Bool) → i < len a → takes (flat_tree a) v ≡ true → slot a i ≡ s → (IsTrue r ↔ (s ≡ slot_of_plain v)) → IsTrue r ↔ Holds (flat_tree a) i v
value-holds a i v s r l t e k =
    (λ h. (t, slot-place a i slots.null l ∙ e ∙ k.0 h), λ h. k.1 (sym e ∙ sym (slot-place a i slots.null l) ∙ h.1))

truth-same : (r t : Bool) → IsTrue (beq r t) ↔ (slots.boolean r ≡ slots.boolean t)
truth-same true true = (λ h. refl, λ e. refl)
truth-same true false = (λ h. absurd (never h), λ e. cc)
truth-same false true = (λ h. absurd (never h), λ e. cc)
truth-same false false = (λ h. refl, λ e. refl)

truth-at : (a : Layout) (i : ℕ) (r : Bool) → a ≡ boolean (layout_type a) (bits_of a) (validity_of a) → valid_at (validity_of a) i ≡ true → slice_get (bits_of a) i ≡ Some r → slot a i ≡ slots.boolean r
truth-at a i r e k g = ap (λ b. slot b i) e ∙ rw (k, get_or_from_slice_get (bits_of a) i r false g) refl

pub truth-holds : (a : Layout) (i : ℕ) (v : PlainValue) (t r : Bool) → TopFits a → a ≡ boolean (layout_type a) (bits_of a) (validity_of a) → i < len a → v ≡ items.boolean t → valid_at (validity_of a) i ≡ true
    → slice_get (bits_of a) i ≡ Some r → IsTrue (beq r t) ↔ Holds (flat_tree a) i v
truth-holds a i v t r f e l q k g =
    subst (λ w. IsTrue (beq r t) ↔ Holds (flat_tree a) i w) (sym q)
    (value-holds a i (items.boolean t) (slots.boolean r) (beq r t) l (rw (truth-physical a f e) refl) (truth-at a i r e k g) (truth-same r t))

number-same : (r : Bool) (ws zs : List ℤ) → (IsTrue r ↔ (ws ≡ zs)) → IsTrue r ↔ (slots.number ws ≡ slots.number zs)
number-same r ws zs k = (λ h. ap slots.number (k.0 h), λ e. k.1 (let q : ws ≡ zs = cc in q))

native-at : (p : PrimitiveType) (a : Layout) (i : ℕ) (ws : List ℤ) → a ≡ primitive p (layout_type a) (natives_of a) (validity_of a) → valid_at (validity_of a) i ≡ true → get_or (natives_of a) i [] ≡ ws → slot a i ≡ slots.number ws
native-at p a i ws e k g = ap (λ b. slot b i) e ∙ rw (k, g) refl

same_kind : (p q : PrimitiveType) → q ≡ p → nat_eq (native_number p) (native_number q) ≡ true
same_kind p q e = elim (eqb_tells (native_number p) (native_number q)) as (λ _. nat_eq (native_number p) (native_number q) ≡ true) [
  | inl h ↦ h.0
  | inr h ↦ absurd (h.1 (ap native_number (sym e)))
]

pub native-holds : (p q : PrimitiveType) (a : Layout) (i : ℕ) (v : PlainValue) (zs ws : List ℤ) (r : Bool) → TopFits a → a ≡ primitive p (layout_type a) (natives_of a) (validity_of a) → i < len a → v ≡ items.native q zs → q ≡ p
    → valid_at (validity_of a) i ≡ true → get_or (natives_of a) i [] ≡ ws → (IsTrue r ↔ (ws ≡ zs)) → IsTrue r ↔ Holds (flat_tree a) i v
native-holds p q a i v zs ws r f e l w t k g n =
    subst (λ u. IsTrue r ↔ Holds (flat_tree a) i u) (sym w)
    (value-holds a i (items.native q zs) (slots.number ws) r l (rw (native-physical p a f e) (same_kind p q t)) (native-at p a i ws e k g) (number-same r ws zs n))

pub native-read : {T : Type 0} (p : PrimitiveType) (num : T → List ℤ) (a : Layout) (xs : List T) (i : ℕ) (x : T) (ws : List ℤ) → a ≡ primitive p (layout_type a) (natives_of a) (validity_of a) → map num xs ≡ natives_of a → i < len a
    → x ≡ get_or xs i x → ws ≡ num x → get_or (natives_of a) i [] ≡ ws
native-read p num a xs i x ws e m l g w =
    let n : length xs ≡ len a = sym (length-map xs num) ∙ ap length m ∙ sym (ap len e) in
    ap (λ ys. get_or ys i []) (sym m) ∙ get_or-map num xs i x [] (omega (arith, l, n)) ∙ ap num (sym g) ∙ sym w

-- the slots of two builders
pub same-type : {T : Type 0} (t u : TypeTree) (r : Result T Error) (x : T) → r ≡ Ok x → ((t ≢ u) → IsErrOf r (InvalidArgumentError ItemType)) → t ≡ u
same-type t u r x e h = elim (decide_type t u) as (λ _. t ≡ u) [ inl k ↦ k | inr k ↦ absurd (let q = sym e ∙ h k in cc) ]

pub joined-count : (a b c : Layout) (n : ℕ) → slots_of c ≡ slots_of a ++ slots_of b → n ≡ len c → n ≤ largest_length → length (slots_of a) + length (slots_of b) ≤ largest_length
joined-count a b c n e h l =
    let m = ap length e in
    let k = slots-length c in
    let p = length-append (slots_of a) (slots_of b) in
    omega arith

pub truth-joins : (a b : Layout) → TopFits a → a ≡ boolean (layout_type a) (bits_of a) (validity_of a) → layout_type a ≡ layout_type b → length (slots_of a) + length (slots_of b) ≤ largest_length
    → Pass (join_checks (flat_tree a) (flat_tree b))
truth-joins a b f e t l = (t, (rw (truth-physical a f e, within (length (slots_of a) + length (slots_of b)) l) refl, tt))

pub native-joins : (p : PrimitiveType) (a b : Layout) → TopFits a → a ≡ primitive p (layout_type a) (natives_of a) (validity_of a) → layout_type a ≡ layout_type b → length (slots_of a) + length (slots_of b) ≤ largest_length
    → Pass (join_checks (flat_tree a) (flat_tree b))
native-joins p a b f e t l = (t, (rw (native-physical p a f e, within (length (slots_of a) + length (slots_of b)) l) refl, tt))

truth-too_many : (a b : Layout) → TopFits a → a ≡ boolean (layout_type a) (bits_of a) (validity_of a) → largest_length < len a + len b → join_passes (flat_tree a) (flat_tree b) ≡ false → ⊥
truth-too_many a b f e l h =
    let p = past (length (slots_of a) + length (slots_of b)) (omega (arith, slots-length a, slots-length b, l)) in
    let q : join_passes (flat_tree a) (flat_tree b) ≡ true = rw (truth-physical a f e, p) refl in
    cc

pub truth-join_refused : (a b : Layout) (e : Error) → TopFits a → a ≡ boolean (layout_type a) (bits_of a) (validity_of a)
    → (e ≡ InvalidArgumentError ItemType) ⊎ ((e ≡ Overflow) ⊎ (e ≡ Memory alloc_error)) → (e ≡ InvalidArgumentError ItemType → layout_type a ≢ layout_type b)
    → (e ≡ Overflow → (layout_type a ≡ layout_type b) × (largest_length < len a + len b)) → (e ≡ Memory alloc_error) ⊎ FailFirst e (join_checks (flat_tree a) (flat_tree b))
truth-join_refused a b e f k (inl i) p q = inr (subst (λ x. FailFirst x (join_checks (flat_tree a) (flat_tree b))) (sym i) (p i))
truth-join_refused a b e f k (inr (inl o)) p q =
    let h = q o in
    inr (subst (λ x. FailFirst x (join_checks (flat_tree a) (flat_tree b))) (sym o) (h.0, truth-too_many a b f k h.1))
truth-join_refused a b e f k (inr (inr m)) p q = inl m
