-- Values of dictionaries and their hashes.
use Rattle.std.specs.Prelude.{◌↔◌, ◌⊎◌, Option, Some, None, IfSome, IfNone, MatchOption, IsTrue, not, slice_get}
use Rattle.std.proofs.Common.{◌≡◌, ◌≢◌, ℕ, zero, suc, ℤ, ◌+◌, ◌<◌, ◌≤◌, Bool, true, false, List, [], ◌∷◌, ◌++◌, length, get_or, take, refl, sym, ap, subst, ◌∙◌, inl, inr, arith}
use Rattle.std.proofs.lemmas.Bool.{cases_lt}
use Rattle.std.proofs.lemmas.List.{length_push, length-take, get_or_append_left, get_or_push, get_or-take}
use Rattle.std.proofs.lemmas.Option.{slice_get-get_or, slice_get_within}
use Rattle.nest_memory.specs.declared.datatypes.physical_type.PrimitiveType.{PrimitiveType}
use Rattle.nest_memory.specs.declared.datatypes.physical_type.PrimitiveType.TheVariants as primitives
use Rattle.nest_model.specs.Slot as slots
use Rattle.nest_model.specs.Slot.{Slot}
use Rattle.nest_model.specs.BuilderAppend.{Accepted, appended}
use Rattle.nest_model.specs.BuilderAppendLaws.{len-accepted}
use Rattle.nest_model.specs.BuilderTruncateLaws.{len-cut, own-cut, own-emptied, AreDifferent-take}
use Rattle.nest_model.specs.BuilderItem as items
use Rattle.nest_model.specs.BuilderItem.{PlainValue, boolean, native, utf8, bytes, native_number, slot_of_plain, takes, Holds, IsValueAt, Lacks}
use Rattle.nest_model.specs.BuilderKeyLaws.{AreDifferent-took, place-lacks}
use Rattle.nest_model.specs.BuilderLevelLaws.{own-length, length-front}
use Rattle.nest_model.specs.BuilderLevels.{own_slots}
use Rattle.nest_model.specs.BuilderTakesLaws.{takes-appended, takes-cut, takes-one_kind}
use Rattle.nest_model.specs.BuilderTree.{BuilderTree, builder_len}
use Rattle.nest_model.specs.BuilderRefusals.{plain_refusal, value_refusal}
use Rattle.nest_model.specs.Decide.{refuse-none, not-false}
use Rattle.nest_memory.specs.declared.error.ArgumentError.TheVariants.{ItemType}
use Rattle.nest_memory.specs.declared.error.Error.TheVariants.{InvalidArgumentError}
use Rattle.nest_model.specs.BuilderComplete.{IsComplete, AreDifferent, truncate_builder, emptied}
use Rattle.nest_build.specs.Hashes.{value_hash}
use Rattle.nest_build.specs.Keyed.{AreHashed, AreFull, AreKeyed}
use Rattle.nest_build.specs.Shown.{own_slot}

-- a native type is determined by its number
kind_at : ℕ → PrimitiveType
kind_at n =
    get_or (primitives.Int8 ∷ primitives.Int16 ∷ primitives.Int32 ∷ primitives.Int64 ∷ primitives.Int128 ∷ primitives.Int256 ∷ primitives.UInt8 ∷ primitives.UInt16 ∷ primitives.UInt32 ∷ primitives.UInt64
    ∷ primitives.Float16 ∷ primitives.Float32 ∷ primitives.Float64 ∷ primitives.DaysMs ∷ primitives.MonthDayNano ∷ []) n primitives.Int8

kind_again : (p : PrimitiveType) → kind_at (native_number p) ≡ p
unfolding kind_at
kind_again primitives.Int8 = refl
kind_again primitives.Int16 = refl
kind_again primitives.Int32 = refl
kind_again primitives.Int64 = refl
kind_again primitives.Int128 = refl
kind_again primitives.Int256 = refl
kind_again primitives.UInt8 = refl
kind_again primitives.UInt16 = refl
kind_again primitives.UInt32 = refl
kind_again primitives.UInt64 = refl
kind_again primitives.Float16 = refl
kind_again primitives.Float32 = refl
kind_again primitives.Float64 = refl
kind_again primitives.DaysMs = refl
kind_again primitives.MonthDayNano = refl

same_kind : (p q : PrimitiveType) → native_number p ≡ native_number q → p ≡ q
same_kind p q e = sym (kind_again p) ∙ (ap kind_at e ∙ kind_again q)

same_native : (p q : PrimitiveType) (zs ws : List ℤ) → p ≡ q → slots.number zs ≡ slots.number ws → native p zs ≡ native q ws
same_native p q zs ws e f = let g : zs ≡ ws = cc in cc

-- two values that one builder accepts and that have equal slots are equal
pub same_value : (c : BuilderTree) (v w : PlainValue) → takes c v ≡ true → takes c w ≡ true → slot_of_plain v ≡ slot_of_plain w → v ≡ w
same_value c (boolean a) (boolean b) s t e = let f : slots.boolean a ≡ slots.boolean b = e in let g : a ≡ b = cc in ap boolean g
same_value c (boolean a) (native p zs) s t e = absurd (let f : slots.boolean a ≡ slots.number zs = e in cc)
same_value c (boolean a) (utf8 b) s t e = absurd (let f : slots.boolean a ≡ slots.utf8 b = e in cc)
same_value c (boolean a) (bytes b) s t e = absurd (let f : slots.boolean a ≡ slots.bytes b = e in cc)
same_value c (native p zs) (boolean b) s t e = absurd (let f : slots.number zs ≡ slots.boolean b = e in cc)
same_value c (native p zs) (native q ws) s t e = same_native p q zs ws (same_kind p q (takes-one_kind c p q zs ws s t)) e
same_value c (native p zs) (utf8 b) s t e = absurd (let f : slots.number zs ≡ slots.utf8 b = e in cc)
same_value c (native p zs) (bytes b) s t e = absurd (let f : slots.number zs ≡ slots.bytes b = e in cc)
same_value c (utf8 a) (boolean b) s t e = absurd (let f : slots.utf8 a ≡ slots.boolean b = e in cc)
same_value c (utf8 a) (native q ws) s t e = absurd (let f : slots.utf8 a ≡ slots.number ws = e in cc)
same_value c (utf8 a) (utf8 b) s t e = let f : slots.utf8 a ≡ slots.utf8 b = e in let g : a ≡ b = cc in ap utf8 g
same_value c (utf8 a) (bytes b) s t e = absurd (let f : slots.utf8 a ≡ slots.bytes b = e in cc)
same_value c (bytes a) (boolean b) s t e = absurd (let f : slots.bytes a ≡ slots.boolean b = e in cc)
same_value c (bytes a) (native q ws) s t e = absurd (let f : slots.bytes a ≡ slots.number ws = e in cc)
same_value c (bytes a) (utf8 b) s t e = absurd (let f : slots.bytes a ≡ slots.utf8 b = e in cc)
same_value c (bytes a) (bytes b) s t e = let f : slots.bytes a ≡ slots.bytes b = e in let g : a ≡ b = cc in ap bytes g

pub value_full : (v : PlainValue) → slot_of_plain v ≢ slots.null
value_full (boolean a) e = absurd (let f : slots.boolean a ≡ slots.null = e in cc)
value_full (native p zs) e = absurd (let f : slots.number zs ≡ slots.null = e in cc)
value_full (utf8 a) e = absurd (let f : slots.utf8 a ≡ slots.null = e in cc)
value_full (bytes a) e = absurd (let f : slots.bytes a ≡ slots.null = e in cc)

pub plain_taken : (v : PlainValue) (t : BuilderTree) → plain_refusal v t ≡ None → takes t v ≡ true
plain_taken v t h = not-false (takes t v) (refuse-none (not (takes t v)) (InvalidArgumentError ItemType) (value_refusal v t) h).0

-- no values
pub keyed_none : (c : BuilderTree) → builder_len c ≡ 0 → AreKeyed [] c
keyed_none c e =
    let n = own-length c in
    (sym e, (λ v k s. absurd (omega (arith, e, s.0))), (λ i j l m f. absurd (omega (arith, e, n, l))), (λ k l. absurd (omega (arith, e, l))))

-- one new value
module _ (hashes : List ℕ) (c d : BuilderTree) (v : PlainValue) (h : AreKeyed hashes c) (t : takes c v ≡ true) (a : Accepted (items.plain v) c d) where
  before : (k : ℕ) → k < builder_len c → own_slot d k ≡ own_slot c k
  before k l = let n = own-length c in ap (λ xs. get_or xs k slots.null) a.last ∙ get_or_append_left (own_slots c) (slot_of_plain v ∷ []) slots.null k (omega (arith, n, l))

  last : (k : ℕ) → builder_len c ≤ k → k < builder_len d → k ≡ builder_len c
  last k m l = let n = len-accepted (items.plain v) c d a in omega (arith, n, m, l)

  at_last : (k : ℕ) → k ≡ builder_len c → own_slot d k ≡ slot_of_plain v
  at_last k e = ap (λ xs. get_or xs k slots.null) a.last ∙ get_or_push (own_slots c) (slot_of_plain v) slots.null k (own-length c ∙ sym e)

  took : (w : PlainValue) → takes d w ≡ true → takes c w ≡ true
  took w e = sym (takes-appended (items.plain v) c w) ∙ (sym (ap (λ x. takes x w) a.exact) ∙ e)

  hashed_more : AreHashed (hashes ++ value_hash v ∷ []) d
  hashed_more w k s = elim (cases_lt k (builder_len c)) [
    | inl l ↦ get_or_append_left hashes (value_hash v ∷ []) 0 k (omega (arith, h.0, l)) ∙ h.1 w k (l, (took w s.1.0, sym (before k l) ∙ s.1.1))
    | inr m ↦
        let e = last k m s.0 in
        get_or_push hashes (value_hash v) 0 k (h.0 ∙ sym e) ∙ ap value_hash (same_value c v w t (took w s.1.0) (sym (at_last k e) ∙ s.1.1))
  ]

  full_more : AreFull d
  full_more k l e = elim (cases_lt k (builder_len c)) [
    | inl m ↦ h.3 k m (sym (before k m) ∙ e)
    | inr m ↦ value_full v (sym (at_last k (last k m l)) ∙ e)
  ]

  pub keyed_push : Lacks c v → AreKeyed (hashes ++ value_hash v ∷ []) d
  keyed_push f =
      let n = length_push hashes (value_hash v) in
      let m = len-accepted (items.plain v) c d a in
      (omega (arith, n, m, h.0), hashed_more, AreDifferent-took c d v (place-lacks c v t f) a.last h.2, full_more)

-- the first values
module _ (hashes : List ℕ) (c d : BuilderTree) (n : ℕ) (w : IsComplete c) (l : n ≤ builder_len c) (h : AreKeyed hashes c) (e : d ≡ truncate_builder c n) where
  len_cut : builder_len d ≡ n
  len_cut = ap builder_len e ∙ len-cut c n l

  at_front : (k : ℕ) → k < n → own_slot d k ≡ own_slot c k
  at_front k m = ap (λ x. own_slot x k) e ∙ (ap (λ xs. get_or xs k slots.null) (own-cut c n w l) ∙ get_or-take n (own_slots c) k slots.null m)

  pub keyed_take : AreKeyed (take n hashes) d
  keyed_take =
      let below : (k : ℕ) → k < builder_len d → k < n = λ k m. omega (arith, m, len_cut) in
      let inside : (k : ℕ) → k < builder_len d → k < builder_len c = λ k m. omega (arith, m, len_cut, l) in (
        length-front n hashes (omega (arith, h.0, l)) ∙ sym len_cut,
        (λ v k s. get_or-take n hashes k 0 (below k s.0) ∙ h.1 v k (inside k s.0, (sym (takes-cut c n v) ∙ (sym (ap (λ x. takes x v) e) ∙ s.1.0), sym (at_front k (below k s.0)) ∙ s.1.1))),
        subst AreDifferent (sym (ap own_slots e ∙ own-cut c n w l)) (AreDifferent-take (own_slots c) n h.2),
        (λ k m f. h.3 k (inside k m) (sym (at_front k (below k m)) ∙ f)),
      )

-- all values removed
pub keyed_emptied : (c d : BuilderTree) → d ≡ emptied c → AreKeyed [] d
keyed_emptied c d e = keyed_none d (sym (own-length d) ∙ ap length (ap own_slots e ∙ own-emptied c))

-- the result of a search
pub found : (hashes : List ℕ) (c : BuilderTree) (v : PlainValue) (k hash : ℕ) → AreKeyed hashes c → slice_get hashes k ≡ Some hash → (IsTrue true ↔ Holds c k v) → IsValueAt c v k
found hashes c v k hash h e f = (let l = slice_get_within hashes k hash e in omega (arith, l, h.0), f.0 refl)

pub not_found : (hashes : List ℕ) (c : BuilderTree) (v : PlainValue) (hash : ℕ) → AreKeyed hashes c → hash ≡ value_hash v → ((k : ℕ) → slice_get hashes k ≡ Some hash → IsTrue false ↔ Holds c k v) → Lacks c v
not_found hashes c v hash h e f = λ k s.
    let l : k < length hashes = omega (arith, s.0, h.0) in
    let there : slice_get hashes k ≡ Some hash = slice_get-get_or hashes k 0 l ∙ ap (λ x. Some x) (h.1 v k s ∙ sym e) in
    let q : false ≡ true = (f k there).1 s.1 in
    cc

-- equal trees
pub keyed_same : (hashes : List ℕ) (c d : BuilderTree) → d ≡ c → AreKeyed hashes c → AreKeyed hashes d
keyed_same hashes c d e h = subst (AreKeyed hashes) (sym e) h

pub found_place : (r : Option ℕ) (hashes : List ℕ) (c : BuilderTree) (v : PlainValue) (hash : ℕ) → AreKeyed hashes c → hash ≡ value_hash v
    → IfSome r (λ k. (slice_get hashes k ≡ Some hash) × (IsTrue true ↔ Holds c k v)) → IfNone r ((k : ℕ) → slice_get hashes k ≡ Some hash → IsTrue false ↔ Holds c k v) → MatchOption r (Lacks c v) (IsValueAt c v)
found_place None hashes c v hash h e f g = not_found hashes c v hash h e g
found_place (Some k) hashes c v hash h e f g = found hashes c v k hash h f.0 f.1
