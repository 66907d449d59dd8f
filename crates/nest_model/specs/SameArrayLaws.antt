-- Laws of array equality: the test decides it, it is an equivalence, it holds index by index, and slicing preserves it.
-- A null key equals a key of a null value.
use Rattle.std.specs.Prelude.{Bool, true, false, ◌&&◌, length, if◌then◌else◌}
use Rattle.std.specs.Bool.{Decides}
use Rattle.std.specs.Cmp.{first_so, second_so}
use Rattle.std.proofs.Common.{◌≡◌, ℕ, ◌+◌, ◌<◌, ◌≤◌, refl, ap, sym, ◌∙◌, arith}
use Rattle.nest_memory.specs.TypeTree.{TypeTree}
use Rattle.nest_memory.specs.TypeEq.{same_type, same_type-decides}
use Rattle.nest_memory.specs.Sublist.{sublist}
use Rattle.nest_model.specs.Part.{valid_at, to_index}
use Rattle.nest_model.specs.Slot as slots
use Rattle.nest_model.specs.Slot.{Slot}
use Rattle.nest_model.specs.SlotCode.{same_slots, same_slots-decides}
use Rattle.nest_model.specs.Layout.{Layout, dictionary, layout_type}
use Rattle.nest_model.specs.Accessors.{validity_of, key_at}
use Rattle.nest_model.specs.Meaning.{run, len, slot, slots_of}
use Rattle.nest_model.specs.Slice.{slice_layout}
use Rattle.nest_model.specs.Runs.{run-ext}
use Rattle.nest_model.specs.Reads.{slots-length, slot-place}
use Rattle.nest_model.specs.SliceLaws.{type-cut, slots-cut}
use Rattle.nest_model.specs.SameArray.{IsSameArray, same_array}

both-true : (a b : Bool) → a ≡ true → b ≡ true → (a && b) ≡ true
both-true true b p q = q
both-true false b p q = p

pub same_array-decides : (a b : Layout) → Decides (same_array a b) (IsSameArray a b)
same_array-decides a b =
    let s = same_type (layout_type a) (layout_type b) in
    let r = same_slots (slots_of a) (slots_of b) in
    let ts = same_type-decides (layout_type a) (layout_type b) in
    let ss = same_slots-decides (slots_of a) (slots_of b) in
    (λ h. (ts.0 (first_so s r h), ss.0 (second_so s r h)), λ h. both-true s r (ts.1 h.0) (ss.1 h.1))

-- Equality of arrays is an equivalence.
pub same-refl : (a : Layout) → IsSameArray a a
same-refl a = (refl, refl)

pub same-sym : (a b : Layout) → IsSameArray a b → IsSameArray b a
same-sym a b h = (sym h.0, sym h.1)

pub same-trans : (a b c : Layout) → IsSameArray a b → IsSameArray b c → IsSameArray a c
same-trans a b c h k = (h.0 ∙ k.0, h.1 ∙ k.1)

-- Equal arrays have the same length, and the same slot at each index.
pub same-len : (a b : Layout) → IsSameArray a b → len a ≡ len b
same-len a b h = sym (slots-length a) ∙ ap length h.1 ∙ slots-length b

pub same-slot : (a b : Layout) (i : ℕ) → IsSameArray a b → i < len a → slot a i ≡ slot b i
same-slot a b i h k =
    let e = same-len a b h in
    let l : i < len b = omega arith in
    let p = slot-place a i slots.null k in
    let q = slot-place b i slots.null l in
    let r = h.1 in
    cc

-- Arrays of the same length with the same slot at each index have the same slots.
pub slots-from_places : (a b : Layout) → len a ≡ len b → ((i : ℕ) → i < len a → slot a i ≡ slot b i) → slots_of a ≡ slots_of b
slots-from_places a b e h = run-ext (slot a) (slot b) 0 0 (len a) (λ i k. at-zero (slot a) i ∙ h i k ∙ sym (at-zero (slot b) i)) ∙ ap (run (slot b) 0) e
  where
    at-zero : (f : ℕ → Slot) (i : ℕ) → f (0 + i) ≡ f i
    at-zero f i = ap f (let z : 0 + i ≡ i = omega arith in z)

pub same-from_places : (a b : Layout) → layout_type a ≡ layout_type b → len a ≡ len b → ((i : ℕ) → i < len a → slot a i ≡ slot b i) → IsSameArray a b
same-from_places a b t e h = (t, slots-from_places a b e h)

-- Slices of equal arrays at the same offset and length are equal.
pub same-cut : (a b : Layout) (o n : ℕ) → IsSameArray a b → o + n ≤ len a → IsSameArray (slice_layout a o n) (slice_layout b o n)
same-cut a b o n h k =
    let e = same-len a b h in
    let l : o + n ≤ len b = omega arith in
    (type-cut a o n ∙ h.0 ∙ sym (type-cut b o n), slots-cut a o n k ∙ ap (λ ss. sublist ss o n) h.1 ∙ sym (slots-cut b o n l))

-- A null key and a key of a null value represent the same slot.
pub null_key-slot : (t : TypeTree) (ks c : Layout) (i : ℕ) → valid_at (validity_of ks) i ≡ false → slot (dictionary t ks c) i ≡ slots.null
null_key-slot t ks c i h = rw h refl

pub null_value-slot : (t : TypeTree) (ks c : Layout) (i : ℕ) → slot c (to_index (key_at ks i)) ≡ slots.null → slot (dictionary t ks c) i ≡ slots.null
null_value-slot t ks c i h = selected-null (valid_at (validity_of ks) i) (slot c (to_index (key_at ks i))) h
  where
    selected-null : (b : Bool) (s : Slot) → s ≡ slots.null → (if b then s else slots.null) ≡ slots.null
    selected-null true s e = e
    selected-null false s e = refl

-- Dictionaries are equal if each index has a null key in one and a null value in the other.
pub null_keys-null_values : (t : TypeTree) (ks ls c d : Layout) → len ks ≡ len ls → ((i : ℕ) → i < len ks → (valid_at (validity_of ks) i ≡ false) × (slot d (to_index (key_at ls i)) ≡ slots.null)) → IsSameArray (dictionary t ks c) (dictionary t ls d)
null_keys-null_values t ks ls c d e h =
    same-from_places (dictionary t ks c) (dictionary t ls d) refl e
    (λ i k. null_key-slot t ks c i (h i k).0 ∙ sym (null_value-slot t ls d i (h i k).1))
