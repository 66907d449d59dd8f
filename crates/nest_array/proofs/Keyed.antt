-- Dictionary arrays.
use Rattle.std.specs.Prelude.{◌↔◌, IsTrue, IsSome, not, Option, Some, None, Result, Ok, Err, IfOk, IsOkUnless, MatchResult, alloc_error, if◌then◌else◌}
use Rattle.std.proofs.Common.{◌≡◌, ℕ, ◌+◌, ◌<◌, ℤ, pos, negsuc, Bool, true, false, [], ◌∷◌, refl, ap, sym, ◌∙◌, subst, inr, arith}
use Rattle.nest_memory.specs.Physical.{physical_type}
use Rattle.nest_memory.specs.TypeTree as types
use Rattle.nest_memory.specs.TypeTree.{TypeTree, logical_type, key_type, value_type}
use Rattle.nest_memory.specs.declared.datatypes.IntegerType.{IntegerType}
use Rattle.nest_memory.specs.declared.datatypes.physical_type.PhysicalType.TheVariants as physical
use Rattle.nest_model.specs.Accessors.{validity_of, child_of, keys_of, key_at, key_kind, key_type_of}
use Rattle.nest_model.specs.Array.{AreKeys, TopFits}
use Rattle.nest_model.specs.Fits.{Fits, FirstError, KeysInRange, Names, is_dictionary, IsLogically}
use Rattle.nest_model.specs.Layout.{Layout, primitive, dictionary, layout_type}
use Rattle.nest_model.specs.Meaning.{run, len, slot, where_valid}
use Rattle.nest_model.specs.Nullness.{is_null_at}
use Rattle.nest_model.specs.Part.{to_index, valid_at}
use Rattle.nest_model.specs.Slot as slots
use Rattle.nest_model.specs.Slot.{Slot, node_count, node_counts}
use Rattle.nest_flat.specs.SameRuns.{same-at}
use Rattle.nest_memory.specs.declared.error.Error.{Error}
use Rattle.nest_memory.specs.declared.error.Error.TheVariants.{OutOfSpec, Memory}
use Rattle.nest_memory.specs.declared.error.SpecError.TheVariants as spec
use Rattle.nest_array.specs.Keys.{keyed_by}
use Rattle.nest_array.specs.Refusals.{RefusesOrMemory}
use Rattle.nest_array.specs.Types.{default_dictionary_type}
use Rattle.nest_array.specs.RowSlots.{Alike}

abbrev pub IsDictionaryOf : Layout → Type 0
IsDictionaryOf a = a ≡ dictionary (layout_type a) (keys_of a) (child_of a)

pub names-place : (z : ℤ) (n : ℕ) → Names z n → to_index z < n
names-place (pos k) n h = h
names-place (negsuc k) n h = absurd h

not-false : (b : Bool) → not b ≡ false → b ≡ true
not-false true h = refl
not-false false h = cc

-- a key that is not null is valid
key-valid : (a : Layout) (i : ℕ) → IsDictionaryOf a → is_null_at a i ≡ false → valid_at (validity_of (keys_of a)) i ≡ true
key-valid a i e h = not-false (valid_at (validity_of (keys_of a)) i) (sym (ap (λ b. is_null_at b i) e) ∙ h)

-- and is the index of a value, which is the slot
pub keyed-place : (a : Layout) (i : ℕ) → TopFits a → IsDictionaryOf a → i < len a → is_null_at a i ≡ false → to_index (key_at (keys_of a) i) < len (child_of a)
keyed-place a i h e l v =
    let f = subst TopFits e h in
    let k = ap len e in
    names-place (key_at (keys_of a) i) (len (child_of a)) (f.1.1.1.1 i (omega (arith, k, l)) (key-valid a i e v))

if-true : (b : Bool) (s : Slot) → b ≡ true → (if b then s else slots.null) ≡ s
if-true true s h = refl
if-true false s h = cc

pub keyed-slot : (a : Layout) (i : ℕ) → IsDictionaryOf a → is_null_at a i ≡ false → slot a i ≡ slot (child_of a) (to_index (key_at (keys_of a) i))
keyed-slot a i e v = ap (λ b. slot b i) e ∙ if-true (valid_at (validity_of (keys_of a)) i) _ (key-valid a i e v)

-- data types that are equal apart from outer extensions have the same value type
value-logical : (t : TypeTree) → value_type (logical_type t) ≡ value_type t
value-logical (types.extension n t m) = value-logical t
value-logical t = refl

logically-same : (o : Option TypeTree) (u v : TypeTree) → IsLogically o u → IsLogically o v → logical_type u ≡ logical_type v
logically-same None u v h k = absurd h
logically-same (Some w) u v h k = h ∙ sym k

pub keyed-alike : (a b : Layout) → TopFits a → IsDictionaryOf a → TopFits b → IsDictionaryOf b → Alike a b → Alike (child_of a) (child_of b)
keyed-alike a b h e k f s =
    let x = subst TopFits e h in
    let y = subst TopFits f k in
    let o : value_type (layout_type a) ≡ value_type (layout_type b) = sym (value-logical (layout_type a)) ∙ ap value_type s ∙ value-logical (layout_type b) in
    logically-same (value_type (layout_type b)) (layout_type (child_of a)) (layout_type (child_of b)) (subst (λ w. IsLogically w (layout_type (child_of a))) o x.1.1.1.0) y.1.1.1.0

-- a data type without a key type is not a dictionary type
pub untyped : (t : TypeTree) → key_type t ≡ None → false ≡ is_dictionary t
untyped (types.dictionary k u b) h = cc
untyped (types.extension n t m) h = untyped t h
untyped t h = refl

pub typed : (t : TypeTree) (k : IntegerType) → key_type t ≡ Some k → true ≡ is_dictionary t
typed (types.dictionary k u b) i h = refl
typed (types.extension n t m) i h = typed t i h
typed t i h = cc

-- keyed_by is the key type, if there is one
keyed-one : (o : Option IntegerType) → IsSome o → Some (keyed_by o) ≡ o
keyed-one None h = cc
keyed-one (Some k) h = refl

pub keys-typed : (ks : Layout) → AreKeys ks → Some (keyed_by (key_type_of ks)) ≡ key_type_of ks
keys-typed (primitive k t vs va) h = keyed-one (key_kind k) h.0
keys-typed ks h = absurd h

-- keys and values fit under their default type exactly if the keys are indices of values
pub keys-fit : (ks c : Layout) → AreKeys ks → KeysInRange ks (len c) → Fits (dictionary (default_dictionary_type (keyed_by (key_type_of ks)) (layout_type c)) ks c)
keys-fit ks c h r = (refl, (keys-typed ks h, (refl, (r, tt))))

pub keys-past : (ks c : Layout) → AreKeys ks → (KeysInRange ks (len c) → ⊥) → FirstError (OutOfSpec spec.KeyRange) (dictionary (default_dictionary_type (keyed_by (key_type_of ks)) (layout_type c)) ks c)
keys-past ks c h n = (refl, (keys-typed ks h, (refl, n)))

pub of-made : (r : Result Layout Error) (a b : Layout) → a ≡ b → Fits b → IfOk r (λ x. x ≡ a) → IsOkUnless r (Memory alloc_error) → MatchResult r (λ x. Fits b × (x ≡ b)) (λ e. RefusesOrMemory e b)
of-made (Ok x) a b e f h k = (f, h ∙ e)
of-made (Err y) a b e f h k = inr (k, f)

-- a slot is the value at its raw key, or null
pub keyed-slot_at : (a : Layout) (i n : ℕ) → IsDictionaryOf a → n ≡ to_index (key_at (keys_of a) i) → slot a i ≡ where_valid (validity_of a) i (slot (child_of a) n)
keyed-slot_at a i n e p =
    ap (λ b. slot b i) e
    ∙ ap (λ va. where_valid va i (slot (child_of a) (to_index (key_at (keys_of a) i)))) (sym (ap validity_of e))
    ∙ ap (λ m. where_valid (validity_of a) i (slot (child_of a) m)) (sym p)

-- the physical type of a dictionary type has its key type
physical-keyed : (t : TypeTree) → is_dictionary t ≡ true → physical_type t ≡ physical.Dictionary (keyed_by (key_type t))
physical-keyed (types.dictionary k t b) h = refl
physical-keyed (types.extension n t m) h = physical-keyed t h
physical-keyed t h = cc

pub keyed-physical : (a : Layout) → TopFits a → IsDictionaryOf a → physical_type (layout_type a) ≡ physical.Dictionary (keyed_by (key_type_of (keys_of a)))
keyed-physical a h e =
    let x = subst TopFits e h in
    physical-keyed (layout_type a) x.1.0 ∙ ap (λ k. physical.Dictionary (keyed_by k)) x.1.1.0

-- one slot is a run of one slot
pub one-same : (f g : ℕ → Slot) (i j : ℕ) (r : Bool) (s q : Slot) → s ≡ f i → q ≡ g j → (IsTrue r ↔ (run f i 1 ≡ run g j 1)) → IsTrue r ↔ (s ≡ q)
one-same f g i j r s q a b h =
    let x : i + 0 ≡ i = omega arith in
    let y : j + 0 ≡ j = omega arith in (
      λ t. a ∙ sym (ap f x) ∙ same-at f g i j 1 0 (h.0 t) (omega arith) ∙ ap g y ∙ sym b,
      λ e. h.1 (ap (λ (z : Slot). z ∷ []) (sym a ∙ e ∙ b)),
    )

pub one-comparisons : (f : ℕ → Slot) (i : ℕ) (s : Slot) → s ≡ f i → node_counts (run f i 1) ≡ node_count s
one-comparisons f i s a = let x = ap node_count a in omega arith

-- slots that tests decide to be null, where one is null
pub nulls-same : (x y : Slot) (a b : Bool) → (IsTrue a ↔ (x ≡ slots.null)) → (IsTrue b ↔ (y ≡ slots.null)) → x ≡ slots.null → b ≡ true → IsTrue true ↔ (x ≡ y)
nulls-same x y a b h k e t = (λ u. e ∙ sym (k.0 t), λ u. refl)

pub alike-along : (a b c d : Layout) → a ≡ c → b ≡ d → Alike c d → Alike a b
alike-along a b c d e f h = ap (λ x. logical_type (layout_type x)) e ∙ h ∙ sym (ap (λ x. logical_type (layout_type x)) f)
