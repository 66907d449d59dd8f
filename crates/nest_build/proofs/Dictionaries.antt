-- Dictionary builders as trees.
use Rattle.std.specs.Prelude.{IfOk, IsNone, IsOk, MatchOption, ◌↔◌, ◌⊎◌, Option, Some, None, Result, Ok, Err, OnOk, OnErr, IfErr, IsTrue, is_some, map, alloc_error}
use Rattle.std.proofs.Common.{◌≡◌, ◌≢◌, ℕ, zero, suc, ◌+◌, ◌<◌, ◌≤◌, Bool, true, false, List, [], ◌∷◌, ◌++◌, length, get_or, take, refl, sym, ap, subst, ◌∙◌, inl, inr, arith}
use Rattle.std.proofs.lemmas.Bool.{cases_lt, le-leb}
use Rattle.std.proofs.lemmas.List.{length-map, get_or-map}
use Rattle.nest_memory.specs.TypeTree as types
use Rattle.nest_memory.specs.TypeTree.{TypeTree, key_type, value_type}
use Rattle.nest_memory.specs.Physical.{physical_type}
use Rattle.nest_memory.specs.declared.datatypes.IntegerType.{IntegerType}
use Rattle.nest_memory.specs.declared.error.ArgumentError.TheVariants.{ItemType}
use Rattle.nest_memory.specs.declared.error.Error.{Error}
use Rattle.nest_memory.specs.declared.error.Error.TheVariants.{InvalidArgumentError, Memory, Overflow}
use Rattle.nest_model.specs.Part.{Validity}
use Rattle.nest_model.specs.Accessors.{key_type_of}
use Rattle.nest_model.specs.Fits.{Fits, IsLogically, KeysInRange, is_dictionary}
use Rattle.nest_model.specs.Layout as layouts
use Rattle.nest_model.specs.Layout.{Layout, layout_type}
use Rattle.nest_model.specs.Meaning.{len, slots_of}
use Rattle.nest_model.specs.Reads.{slots-length}
use Rattle.nest_model.specs.Slot as slots
use Rattle.nest_model.specs.Slot.{Slot}
use Rattle.nest_model.specs.BuilderAppend.{Accepted}
use Rattle.nest_model.specs.BuilderAcceptLaws.{plain-none}
use Rattle.nest_model.specs.BuilderAppendLaws.{dictionary_null_accepted, len-accepted}
use Rattle.nest_model.specs.BuilderTruncateLaws.{len-cut, own-emptied}
use Rattle.nest_model.specs.BuilderFreeze.{EncodesBits, EncodesKeys}
use Rattle.nest_model.specs.BuilderFreezeLaws.{dictionary-frozen}
use Rattle.nest_model.specs.BuilderItem as items
use Rattle.nest_model.specs.BuilderItem.{PlainValue, slot_of_plain, takes, position_of, Holds, IsValueAt, Lacks}
use Rattle.nest_model.specs.BuilderKeyLaws.{known-stands, stands-known, place-lacks, place-stands, dictionary_key_added, dictionary_accepted, keys_within, keys_within-null}
use Rattle.nest_model.specs.BuilderLevelLaws.{own-length}
use Rattle.nest_model.specs.BuilderLevels.{value_at, own_slots}
use Rattle.nest_model.specs.BuilderRefusalLaws.{below, within}
use Rattle.nest_model.specs.BuilderRefusals.{is_known, value_refusal, plain_refusal, item_refusal}
use Rattle.nest_model.specs.BuilderRow.{values_needed}
use Rattle.nest_model.specs.BuilderRowLaws.{values_needed-above}
use Rattle.nest_model.specs.BuilderTree.{BuilderTree, dictionary, builder_len, builder_type, key_count}
use Rattle.nest_model.specs.BuilderComplete.{IsComplete, AreDifferent, truncate_builder, emptied}
use Rattle.nest_model.specs.Checks.{first_of, is_past, refuse_if, largest_length}
use Rattle.nest_build.specs.Keyed.{AreFull}
use Rattle.nest_build.specs.Shown.{own_slot, ShowsNulls}
use Rattle.nest_build.proofs.Keyed.{value_full, plain_taken}

module _ (i : IntegerType) (t : TypeTree) (keys : List (Option ℕ)) (c : BuilderTree) where
  pub slot_there : (n : ℕ) → n < length keys → own_slot (dictionary i t keys c) n ≡ value_at (own_slots c) (get_or keys n None)
  slot_there n l = get_or-map (value_at (own_slots c)) keys n None slots.null l

  -- which rows are null
  row_null : (o : Option ℕ) → is_some o ≡ false → value_at (own_slots c) o ≡ slots.null
  row_null None e = refl
  row_null (Some k) e = absurd (let q : true ≡ false = e in cc)

  row_full : (o : Option ℕ) → AreFull c → ((k : ℕ) → o ≡ Some k → k < builder_len c) → is_some o ≡ true → value_at (own_slots c) o ≢ slots.null
  row_full None f l e = absurd (let q : false ≡ true = e in cc)
  row_full (Some k) f l e = f k (l k refl)

  pub key_below : values_needed keys ≤ builder_len c → (n : ℕ) → n < length keys → (k : ℕ) → get_or keys n None ≡ Some k → k < builder_len c
  key_below h n l k e = let above = values_needed-above keys n k None l e in omega arith

  pub row_valid : (n : ℕ) (r : Bool) → AreFull c → values_needed keys ≤ builder_len c → n < length keys → r ≡ is_some (get_or keys n None) → IsTrue r ↔ (own_slot (dictionary i t keys c) n ≢ slots.null)
  row_valid n r f h l e = (
    λ u. rw (slot_there n l) (row_full (get_or keys n None) f (key_below h n l) (sym e ∙ u)),
    λ u. by_bit r e u,
  )
    where
      by_bit : (b : Bool) → b ≡ is_some (get_or keys n None) → (own_slot (dictionary i t keys c) n ≢ slots.null) → b ≡ true
      by_bit true g u = refl
      by_bit false g u = absurd (u (slot_there n l ∙ row_null (get_or keys n None) (sym g)))

  some_there : (ks : List (Option ℕ)) (n : ℕ) → n < length ks → get_or (map is_some ks) n true ≡ is_some (get_or ks n None)
  some_there ks n l = get_or-map is_some ks n None true l

  pub encoded_rows : (va : Validity) → AreFull c → values_needed keys ≤ builder_len c → EncodesBits va (map is_some keys) → ShowsNulls va (dictionary i t keys c)
  encoded_rows None f h v = inr (λ n l. (row_valid n true f h l (sym (v n (let m = length-map keys is_some in omega arith)) ∙ some_there keys n l)).0 refl)
  encoded_rows (Some bits) f h v = (
    ap length v ∙ length-map keys is_some,
    λ n l.
        let bit = ap (λ bs. get_or bs n true) v ∙ some_there keys n l in (
          (λ u. slot_there n l ∙ row_null (get_or keys n None) (sym bit ∙ u)),
          (λ u. by_bit n l (get_or bits n true) bit u),
        ),
  )
    where
      by_bit : (n : ℕ) → n < length keys → (b : Bool) → b ≡ is_some (get_or keys n None) → own_slot (dictionary i t keys c) n ≡ slots.null → b ≡ false
      by_bit n l false g u = refl
      by_bit n l true g u = absurd ((row_valid n true f h l g).0 refl u)

  -- the value of a row
  pub row_holds : (n k : ℕ) (v : PlainValue) (r : Bool) → n < length keys → get_or keys n None ≡ Some k → (IsTrue r ↔ Holds c k v) → IsTrue r ↔ Holds (dictionary i t keys c) n v
  row_holds n k v r l e h =
      let there : own_slot (dictionary i t keys c) n ≡ own_slot c k = slot_there n l ∙ ap (value_at (own_slots c)) e in
      (λ u. ((h.0 u).0, there ∙ (h.0 u).1), λ u. h.1 (u.0, sym there ∙ u.1))

  pub row_holds-none : (n : ℕ) (v : PlainValue) → n < length keys → get_or keys n None ≡ None → IsTrue false ↔ Holds (dictionary i t keys c) n v
  row_holds-none n v l e = (
    (λ u. absurd (let q : false ≡ true = u in cc)),
    (λ u. absurd (value_full v (sym u.1 ∙ (slot_there n l ∙ ap (value_at (own_slots c)) e)))),
  )

  -- a null
  pub null_unrefused : length keys + 1 ≤ largest_length → item_refusal items.null (dictionary i t keys c) ≡ None
  null_unrefused l = rw (within (length keys + 1) l) refl

  -- a value
  room : length keys + 1 ≤ largest_length → refuse_if (is_past (length keys + 1)) Overflow None ≡ None
  room l = rw (within (length keys + 1) l) refl

  known_bit : (v : PlainValue) (k : ℕ) → IsValueAt c v k → is_known c v ≡ true
  known_bit v k s = stands-known c v k s

  unknown_bit : (v : PlainValue) → Lacks c v → is_known c v ≡ false
  unknown_bit v f = by_bit (is_known c v) refl
    where
      by_bit : (b : Bool) → is_known c v ≡ b → is_known c v ≡ false
      by_bit true e = absurd (let p = known-stands c v e in f p.0 p.1)
      by_bit false e = e

  pub known_unrefused : (v : PlainValue) (k : ℕ) → IsValueAt c v k → length keys + 1 ≤ largest_length → value_refusal v (dictionary i t keys c) ≡ None
  known_unrefused v k s l = rw (known_bit v k s, within (length keys + 1) l) refl

  pub full_refused : (v : PlainValue) → Lacks c v → key_count i ≤ builder_len c → value_refusal v (dictionary i t keys c) ≡ Some Overflow
  full_refused v f l = rw (unknown_bit v f, le-leb (key_count i) (builder_len c) l) refl

  pub new_refused : (v : PlainValue) (e : Error) → Lacks c v → builder_len c < key_count i → plain_refusal v c ≡ Some e → value_refusal v (dictionary i t keys c) ≡ Some e
  new_refused v e f l h = rw (unknown_bit v f, below (key_count i) (builder_len c) l, h) refl

  pub new_unrefused : (v : PlainValue) → Lacks c v → builder_len c < key_count i → plain_refusal v c ≡ None → length keys + 1 ≤ largest_length → value_refusal v (dictionary i t keys c) ≡ None
  new_unrefused v f l h m = rw (unknown_bit v f, below (key_count i) (builder_len c) l, h, within (length keys + 1) m) refl

  -- the same where the kind is checked first
  pub of_kind : (v : PlainValue) → takes c v ≡ true → plain_refusal v (dictionary i t keys c) ≡ value_refusal v (dictionary i t keys c)
  of_kind v e = rw e refl

  pub of_other_kind : (v : PlainValue) → takes c v ≡ false → plain_refusal v (dictionary i t keys c) ≡ Some (InvalidArgumentError ItemType)
  of_other_kind v e = rw e refl

  -- a value is at one index only: the first
  pub knew : (v : PlainValue) (k : ℕ) (new : List (Option ℕ)) → position_of v (own_slots c) ≡ Some k → new ≡ keys ++ Some k ∷ [] → IsComplete (dictionary i t keys c) → Accepted (items.plain v) (dictionary i t keys c) (dictionary i t new c)
  knew v k new e f w = dictionary_key_added i t keys new c v k e f w

  pub took : (v : PlainValue) (d : BuilderTree) (new : List (Option ℕ)) → takes c v ≡ true → Lacks c v → new ≡ keys ++ Some (builder_len c) ∷ [] → IsComplete (dictionary i t keys c) → Accepted (items.plain v) c d → Accepted (items.plain v) (dictionary i t keys c) (dictionary i t new d)
  took v d new e f g w a = dictionary_accepted i t keys new c d v (place-lacks c v e f) g w a

  -- a value of any kind
  by_kind : (v : PlainValue) (e : Error) (b : Bool) → takes c v ≡ b → Lacks c v → builder_len c < key_count i → plain_refusal v c ≡ Some e → plain_refusal v (dictionary i t keys c) ≡ Some e
  by_kind v e true k f l h = of_kind v k ∙ new_refused v e f l h
  by_kind v e false k f l h = of_other_kind v k ∙ (sym (rw k refl) ∙ h)

  pub kind_refused : (v : PlainValue) (e : Error) → Lacks c v → builder_len c < key_count i → plain_refusal v c ≡ Some e → plain_refusal v (dictionary i t keys c) ≡ Some e
  kind_refused v e f l h = by_kind v e (takes c v) refl f l h

  pub new_cause : (v : PlainValue) (e : Error) → Lacks c v → builder_len c < key_count i → (e ≡ Memory alloc_error) ⊎ (plain_refusal v c ≡ Some e) → (e ≡ Memory alloc_error) ⊎ (value_refusal v (dictionary i t keys c) ≡ Some e)
  new_cause v e f l (inl m) = inl m
  new_cause v e f l (inr h) = inr (new_refused v e f l h)

  pub kind_cause : (v : PlainValue) (e : Error) → Lacks c v → builder_len c < key_count i → (e ≡ Memory alloc_error) ⊎ (plain_refusal v c ≡ Some e) → (e ≡ Memory alloc_error) ⊎ (plain_refusal v (dictionary i t keys c) ≡ Some e)
  kind_cause v e f l (inl m) = inl m
  kind_cause v e f l (inr h) = inr (kind_refused v e f l h)

  -- a new value where no key is left
  pub full_kind : (v : PlainValue) → Lacks c v → key_count i ≤ builder_len c → plain_refusal v c ≡ None → plain_refusal v (dictionary i t keys c) ≡ Some Overflow
  full_kind v f l h = of_kind v (plain_taken v c h) ∙ full_refused v f l

  full_by : (v : PlainValue) (e x : Error) (b : Bool) → takes c v ≡ b → Lacks c v → key_count i ≤ builder_len c → ((e ≡ InvalidArgumentError ItemType) ↔ (takes c v ≡ false)) → ((x ≡ InvalidArgumentError ItemType) ↔ (e ≡ InvalidArgumentError ItemType))
      → (e ≢ InvalidArgumentError ItemType → x ≡ Overflow) → plain_refusal v (dictionary i t keys c) ≡ Some x
  full_by v e x true k f l p q o = of_kind v k ∙ (full_refused v f l ∙ sym (ap (λ y. Some y) (o (λ r. let w : true ≡ false = sym k ∙ p.0 r in cc))))
  full_by v e x false k f l p q o = of_other_kind v k ∙ sym (ap (λ y. Some y) (q.1 (p.1 k)))

  pub full_cause : (v : PlainValue) (e x : Error) → Lacks c v → key_count i ≤ builder_len c → ((e ≡ InvalidArgumentError ItemType) ↔ (takes c v ≡ false)) → ((x ≡ InvalidArgumentError ItemType) ↔ (e ≡ InvalidArgumentError ItemType))
      → (e ≢ InvalidArgumentError ItemType → x ≡ Overflow) → plain_refusal v (dictionary i t keys c) ≡ Some x
  full_cause v e x f l p q o = full_by v e x (takes c v) refl f l p q o

pub both_ways : {A B C : Type 0} → (A ↔ B) → (B ↔ C) → (A ↔ C)
both_ways p q = (λ a. q.0 (p.0 a), λ z. p.1 (q.1 z))

same_err : {T : Type 0} (r : Result T Error) (e x : Error) → r ≡ Err e → (r ≡ Err x) → e ≡ x
same_err {T} r e x p q = let a : ◌≡◌ {A = Result T Error} (Err e) (Err x) = sym p ∙ q in cc

pub at_err : {T : Type 0} (r : Result T Error) (e x : Error) (B : Type 0) → r ≡ Err e → ((r ≡ Err x) ↔ B) → ((e ≡ x) ↔ B)
at_err r e x B p q = (λ h. q.0 (p ∙ ap Err h), λ b. same_err r e x p (q.1 b))

-- the index of a value is the first one
pub place_only : (c : BuilderTree) (v : PlainValue) (k : ℕ) → IsValueAt c v k → AreDifferent (own_slots c) → position_of v (own_slots c) ≡ Some k
place_only c v k s d = place-stands c v k s (λ j m t.
    let n = own-length c in
    let e = d j k (omega (arith, n, t.0)) (omega (arith, n, s.0)) (t.1.1 ∙ sym s.1.1) in
    omega (arith, e, m))

-- keys are less than the number of values
pub covered_push : {T E : Type 0} (r : Result T E) (old new : List (Option ℕ)) (k n : ℕ) → OnOk r (new ≡ old ++ Some k ∷ []) → OnErr r (new ≡ old) → values_needed old ≤ n → k < n → values_needed new ≤ n
covered_push (Ok x) old new k n a b h l = keys_within old new k n a h l
covered_push (Err e) old new k n a b h l = rw b h

pub covered_null : {T E : Type 0} (r : Result T E) (old new : List (Option ℕ)) (n : ℕ) → OnOk r (new ≡ old ++ None ∷ []) → OnErr r (new ≡ old) → values_needed old ≤ n → values_needed new ≤ n
covered_null (Ok x) old new n a b h = keys_within-null old new n a h
covered_null (Err e) old new n a b h = rw b h

pub covered_new : (old new : List (Option ℕ)) (v : PlainValue) (c d : BuilderTree) (n : ℕ) → Accepted (items.plain v) c d → new ≡ old ++ Some n ∷ [] → n ≡ builder_len c → values_needed old ≤ builder_len c → values_needed new ≤ builder_len d
covered_new old new v c d n a e f h = let m = len-accepted (items.plain v) c d a in keys_within old new n (builder_len d) e (omega (arith, m, h)) (omega (arith, m, f))

pub fits_new : (v : PlainValue) (c d : BuilderTree) (n : ℕ) → Accepted (items.plain v) c d → builder_len c < n → builder_len d ≤ n
fits_new v c d n a l = let m = len-accepted (items.plain v) c d a in omega (arith, m, l)

pub slice_len : (c d : BuilderTree) (m : ℕ) → m ≤ builder_len c → d ≡ truncate_builder c m → builder_len d ≡ m
slice_len c d m l e = ap builder_len e ∙ len-cut c m l

pub emptied_len : (c d : BuilderTree) → d ≡ emptied c → builder_len d ≡ 0
emptied_len c d e = sym (own-length d) ∙ ap length (ap own_slots e ∙ own-emptied c)

-- a comparison
pub is_less : (r : Bool) (n k : ℕ) → r ≡ true → (IsTrue r ↔ (n < k)) → n < k
is_less r n k e h = h.0 e

pub not_less : (r : Bool) (n k : ℕ) → r ≡ false → (IsTrue r ↔ (n < k)) → k ≤ n
not_less r n k e h = elim (cases_lt n k) [ inl l ↦ absurd (let q : true ≡ false = sym (h.1 l) ∙ e in cc) | inr m ↦ m ]

pub on_ok_so : {T E : Type 0} {A B : Type 0} (r : Result T E) → (A → B) → OnOk r A → OnOk r B
on_ok_so (Ok x) f a = f a
on_ok_so (Err e) f a = tt

pub plain_none : (v : PlainValue) (t : BuilderTree) → value_refusal v t ≡ None → plain_refusal v t ≡ None
plain_none v t h = plain-none v t h

-- freezing the keys and the values
pub if_both : {T E : Type 0} {A B C : T → Type 0} (r : Result T E) → ((x : T) → A x → B x → C x) → IfOk r A → IfOk r B → IfOk r C
if_both (Ok x) f a b = f x a b
if_both (Err e) f a b = tt

pub frozen_fits : (i : IntegerType) (t u : TypeTree) (keys : List (Option ℕ)) (c : BuilderTree) (ks a : Layout) → t ≡ u → IsTrue (is_dictionary u) → key_type u ≡ Some i → IsComplete (dictionary i u keys c) → slots_of a ≡ own_slots c
    → layout_type a ≡ builder_type c → key_type_of ks ≡ Some i → KeysInRange ks (values_needed keys) → Fits (layouts.dictionary t ks a)
frozen_fits i t u keys c ks a e d k w f g h r =
    let n : len a ≡ values_needed keys = sym (slots-length a) ∙ (ap length f ∙ (own-length c ∙ w.2)) in (
      subst (λ x. IsTrue (is_dictionary x)) (sym e) d,
      (ap key_type e ∙ (k ∙ sym h), (subst (λ x. IsLogically (value_type x) (layout_type a)) (sym e) (subst (λ x. IsLogically (value_type u) x) (sym g) w.1), (subst (λ m. KeysInRange ks m) (sym n) r, tt))),
    )

pub frozen_slots : {A E F : Type 0} (view : A → Layout) (r : Result Layout E) (ks : Result A F) (i : IntegerType) (t u : TypeTree) (keys : List (Option ℕ)) (c : BuilderTree) (v : Layout) → t ≡ u → IsComplete (dictionary i u keys c) → slots_of v ≡ own_slots c
    → IfOk ks (λ k. EncodesKeys (view k) keys) → OnOk r (IsOk ks) → IfOk r (λ a. IfOk ks (λ k. a ≡ layouts.dictionary t (view k) v)) → IfOk r (λ a. slots_of a ≡ own_slots (dictionary i u keys c))
frozen_slots view (Ok a) (Ok k) i t u keys c v e w f s o h = ap slots_of h ∙ dictionary-frozen i t keys c v (view k) (subst (λ x. IsComplete (dictionary i x keys c)) (sym e) w) f s
frozen_slots view (Ok a) (Err x) i t u keys c v e w f s o h = absurd (let q : false ≡ true = o in cc)
frozen_slots view (Err x) ks i t u keys c v e w f s o h = tt

-- a data type with a key type is a dictionary type
pub keyed-type : (t : TypeTree) (k : IntegerType) → key_type t ≡ Some k → is_dictionary t ≡ true
keyed-type (types.dictionary k u b) i h = refl
keyed-type (types.extension n t m) i h = keyed-type t i h
keyed-type t i h = cc

-- an existing value has a key
pub not_lacking : {K : Type 0} (o : Option K) (most n : ℕ) (P : K → Type 0) (c : BuilderTree) (v w : PlainValue) → MatchOption o (most ≤ n) P → IsValueAt c w n → w ≡ v → builder_len c ≤ most → IsNone o ↔ Lacks c v
not_lacking None most n P c v w m s e l = absurd (let k = s.0 in omega (arith, m, k, l))
not_lacking (Some key) most n P c v w m s e l = (λ h. absurd (let p : true ≡ false = h in cc), λ h. absurd (h n (subst (λ u. IsValueAt c u n) e s)))
