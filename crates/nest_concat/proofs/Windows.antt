-- The slots of concatenated windows, by index.
use Rattle.std.specs.Prelude.{◌⊎◌, List, [], ◌∷◌, ◌++◌, ◌||◌, is_some, length, get_or, Some, None, if◌then◌else◌}
use Rattle.std.specs.List.{All, flat_map, sum_by}
use Rattle.std.proofs.Common.{◌≡◌, ℕ, zero, suc, ◌+◌, ◌-◌, ◌<◌, ◌≤◌, Bool, true, false, take, inl, inr, refl, ap, sym, ◌∙◌, arith}
use Rattle.std.proofs.lemmas.List.{get_or-replicate, length-replicate}
use Rattle.std.proofs.lemmas.List.Sums.{sum_by-cons}
use Rattle.nest_memory.specs.Sublist.{sublist}
use Rattle.nest_memory.specs.TypeTree as types
use Rattle.nest_memory.specs.TypeTree.{TypeTree}
use Rattle.nest_model.specs.Accessors.{validity_of}
use Rattle.nest_model.specs.Array.{AreKeys, TopFits}
use Rattle.nest_model.specs.Fits.{ValidityFits}
use Rattle.nest_model.specs.Layout.{Layout, null, boolean, primitive, binary, utf8, fixed_size_binary, fixed_size_list, list, map as map_of, struct, union, dictionary}
use Rattle.nest_model.specs.Meaning.{run, len, slot, slots_of}
use Rattle.nest_model.specs.Part.{Validity, valid_at}
use Rattle.nest_model.specs.Runs.{run-ext, cut-run, length-cut, get_or-cut}
use Rattle.nest_model.specs.Slot as slots
use Rattle.nest_model.specs.Slot.{Slot}
use Rattle.nest_array.specs.WindowParts.{WindowParts, window_parts, window_slots}
use Rattle.nest_concat.specs.Joined.{AreWithin, IsWithin}
use Rattle.nest_concat.specs.Windows.{bits_in, count_of, count_slots, have_bits, concatenated_validity, window_bits}
use Rattle.nest_concat.proofs.Pieces.{AreLong, first-one, later-ones, flat-at, flat-length}

-- window k, and the index of its slot j among the slots of all windows
abbrev pub nowhere : WindowParts
nowhere = window_parts (null types.null 0) 0 0

abbrev pub window : List WindowParts → ℕ → WindowParts
window ws k = get_or ws k nowhere

abbrev pub place_of : List WindowParts → ℕ → ℕ → ℕ
place_of ws k j = sum_by count_of (take k ws) + j

abbrev pub slot_in : WindowParts → ℕ → Slot
slot_in w j = slot w.array (w.offset + j)

-- a layout has each slot of each window
abbrev pub SameSlots : Layout → List WindowParts → Type 0
SameSlots b ws = (k j : ℕ) → k < length ws → j < count_of (window ws k) → slot b (place_of ws k j) ≡ slot_in (window ws k) j

run-append : (f : ℕ → Slot) (p m n : ℕ) → run f p (m + n) ≡ run f p m ++ run f (p + m) n
run-append f p zero n =
    let a : zero + n ≡ n = omega arith in
    let b : p ≡ p + zero = omega arith in
    ap (run f p) a ∙ ap (λ q. run f q n) b
run-append f p (suc m) n =
    let a : suc m + n ≡ suc (m + n) = omega arith in
    let b : suc p + m ≡ p + suc m = omega arith in
    ap (run f p) a ∙ ap (λ ss. f p ∷ ss) (run-append f (suc p) m n ∙ ap (λ q. run f (suc p) m ++ run f q n) b)

pub flat-ext : {X A : Type 0} (f g : X → List A) (xs : List X) → All (λ x. f x ≡ g x) xs → flat_map f xs ≡ flat_map g xs
flat-ext f g [] h = refl
flat-ext f g (x ∷ xs) h =
    let a = first-one (λ y. f y ≡ g y) x xs h in
    let b = flat-ext f g xs (later-ones (λ y. f y ≡ g y) x xs h) in
    ap (λ ys. ys ++ flat_map f xs) a ∙ ap (λ ys. g x ++ ys) b

abbrev run_in : WindowParts → List Slot
run_in w = run (slot w.array) w.offset w.count

joined-run : (f : ℕ → Slot) (p : ℕ) (ws : List WindowParts)
    → ((k j : ℕ) → k < length ws → j < count_of (window ws k) → f (p + place_of ws k j) ≡ slot_in (window ws k) j)
    → run f p (count_slots ws) ≡ flat_map run_in ws
joined-run f p [] h = refl
joined-run f p (w ∷ ws) h =
    let n = count_of w in
    let first : run f p n ≡ run_in w = run-ext f (slot w.array) p w.offset n (λ i q.
    let a : p + i ≡ p + place_of (w ∷ ws) 0 i = omega arith in
    ap f a ∙ h 0 i (omega arith) q) in
    let rest : run f (p + n) (count_slots ws) ≡ flat_map run_in ws = joined-run f (p + n) ws (λ k j l q.
    let a : p + n + place_of ws k j ≡ p + place_of (w ∷ ws) (suc k) j = omega (arith, sum_by-cons count_of w (take k ws)) in
    ap f a ∙ h (suc k) j (omega arith) q) in
    ap (run f p) (sum_by-cons count_of w ws) ∙ run-append f p n (count_slots ws) ∙ ap (λ ss. ss ++ run f (p + n) (count_slots ws)) first ∙ ap (λ ss. run_in w ++ ss) rest

window-run : (t : TypeTree) (w : WindowParts) → IsWithin t w → run_in w ≡ window_slots w
window-run t w h =
    let a : w.offset ≡ 0 + w.offset = omega arith in
    ap (λ q. run (slot w.array) q w.count) a ∙ sym (cut-run (slot w.array) 0 (len w.array) w.offset w.count h.within)

pub joined-slots : (t : TypeTree) (b : Layout) (ws : List WindowParts) → AreWithin t ws → len b ≡ count_slots ws → SameSlots b ws → slots_of b ≡ flat_map window_slots ws
joined-slots t b ws h e s =
    ap (run (slot b) 0) e
    ∙ joined-run (slot b) 0 ws (λ k j l m. let z : 0 + place_of ws k j ≡ place_of ws k j = omega arith in ap (slot b) z ∙ s k j l m)
    ∙ flat-ext run_in window_slots ws (λ i d l. window-run t (get_or ws i d) (h i d l))

-- values of windows by index
pub values-long : {A : Type 0} (xs : WindowParts → List A) (ws : List WindowParts) → All (λ w. w.offset + w.count ≤ length (xs w)) ws → AreLong (λ w. sublist (xs w) w.offset w.count) count_of ws
values-long xs ws h = λ i d l. let w = get_or ws i d in length-cut (xs w) w.offset w.count (h i d l)

pub values-at : {A : Type 0} (xs : WindowParts → List A) (ws : List WindowParts) (k j : ℕ) (d : A) → All (λ w. w.offset + w.count ≤ length (xs w)) ws → k < length ws → j < count_of (window ws k)
    → get_or (flat_map (λ w. sublist (xs w) w.offset w.count) ws) (place_of ws k j) d ≡ get_or (xs (window ws k)) ((window ws k).offset + j) d
values-at {A} xs ws k j d h l m =
    let f : WindowParts → List A = λ w. sublist (xs w) w.offset w.count in
    let w = window ws k in
    flat-at f count_of ws k j nowhere d (values-long xs ws h) l m ∙ get_or-cut (xs w) w.offset w.count j d m

pub values-count : {A : Type 0} (xs : WindowParts → List A) (ws : List WindowParts) → All (λ w. w.offset + w.count ≤ length (xs w)) ws → length (flat_map (λ w. sublist (xs w) w.offset w.count) ws) ≡ count_slots ws
values-count {A} xs ws h = let f : WindowParts → List A = λ w. sublist (xs w) w.offset w.count in flat-length f count_of ws (values-long xs ws h)

-- every array's validity has a bit for each of its slots
keys-fit : (ks : Layout) → AreKeys ks → ValidityFits (validity_of ks) (len ks)
keys-fit (primitive k t vs va) h = h.1.0
keys-fit ks h = absurd h

pub validity-fits : (a : Layout) → TopFits a → ValidityFits (validity_of a) (len a)
validity-fits (null t n) h = tt
validity-fits (boolean t bs va) h = h.1.0
validity-fits (primitive k t vs va) h = h.1.0
validity-fits (binary l t os bs va) h = h.1.1.0
validity-fits (utf8 l t os bs va) h = h.1.1.1.0
validity-fits (fixed_size_binary t bs va) h = h.1.1.1.1.0
validity-fits (fixed_size_list t c va) h = h.1.1.1.1.1.0
validity-fits (list l t os c va) h = h.1.1.0
validity-fits (map_of t os c va) h = h.1.1.1.1.1.0
validity-fits (struct t cs va) h = h.1.1.1.1.1.1.0
validity-fits (union t ks cs os start) h = tt
validity-fits (dictionary t ks c) h = keys-fit ks h.0

-- validities of windows
bits-length : (va : Validity) (m o n : ℕ) → ValidityFits va m → o + n ≤ m → length (window_bits va o n) ≡ n
bits-length None m o n h l = length-replicate n true
bits-length (Some bits) m o n h l = length-cut bits o n (omega arith)

pub bits-long : (t : TypeTree) (ws : List WindowParts) → AreWithin t ws → AreLong bits_in count_of ws
bits-long t ws h = λ i d l.
    let w = get_or ws i d in
    let p = h i d l in
    bits-length (validity_of w.array) (len w.array) w.offset w.count (validity-fits w.array p.is_array) p.within

bits-at : (va : Validity) (o n j : ℕ) → j < n → get_or (window_bits va o n) j true ≡ valid_at va (o + j)
bits-at None o n j h = get_or-replicate n j true true h
bits-at (Some bits) o n j h = get_or-cut bits o n j true h

none-valid : (va : Validity) (rest : Bool) (i : ℕ) → (is_some va || rest) ≡ false → (valid_at va i ≡ true) × (rest ≡ false)
none-valid None rest i h = (refl, h)
none-valid (Some bits) rest i h = (cc, cc)

no-bits : (ws : List WindowParts) (k i : ℕ) → have_bits ws ≡ false → k < length ws → valid_at (validity_of (window ws k).array) i ≡ true
no-bits [] k i h l = absurd (omega arith)
no-bits (w ∷ ws) zero i h l = (none-valid (validity_of w.array) (have_bits ws) i h).0
no-bits (w ∷ ws) (suc k) i h l = no-bits ws k i (none-valid (validity_of w.array) (have_bits ws) i h).1 (omega arith)

abbrev selected_validity : Bool → List WindowParts → Validity
selected_validity b ws = if b then Some (flat_map bits_in ws) else None

valid-by : (b : Bool) (t : TypeTree) (ws : List WindowParts) (k j : ℕ) → have_bits ws ≡ b → AreWithin t ws → k < length ws → j < count_of (window ws k)
    → valid_at (selected_validity b ws) (place_of ws k j) ≡ valid_at (validity_of (window ws k).array) ((window ws k).offset + j)
valid-by true t ws k j e h l m =
    let w = window ws k in
    flat-at bits_in count_of ws k j nowhere true (bits-long t ws h) l m ∙ bits-at (validity_of w.array) w.offset w.count j m
valid-by false t ws k j e h l m = sym (no-bits ws k ((window ws k).offset + j) e l)

pub validity-at : (t : TypeTree) (ws : List WindowParts) (k j : ℕ) → AreWithin t ws → k < length ws → j < count_of (window ws k)
    → valid_at (concatenated_validity ws) (place_of ws k j) ≡ valid_at (validity_of (window ws k).array) ((window ws k).offset + j)
validity-at t ws k j h l m = valid-by (have_bits ws) t ws k j refl h l m

selected-fits : (b : Bool) (t : TypeTree) (ws : List WindowParts) → AreWithin t ws → ValidityFits (selected_validity b ws) (count_slots ws)
selected-fits true t ws h = flat-length bits_in count_of ws (bits-long t ws h)
selected-fits false t ws h = tt

pub joined-fits : (t : TypeTree) (ws : List WindowParts) → AreWithin t ws → ValidityFits (concatenated_validity ws) (count_slots ws)
joined-fits t ws h = selected-fits (have_bits ws) t ws h

-- values under validities
pub same-slot : (p q : Bool) (x y : Slot) → p ≡ q → x ≡ y → (if p then x else slots.null) ≡ (if q then y else slots.null)
same-slot p q x y e f = ap (λ b. if b then x else slots.null) e ∙ ap (λ s. if q then s else slots.null) f

-- each index is in some window
below-or-past : (m n : ℕ) → (m < n) ⊎ (n ≤ m)
below-or-past m zero = inr (omega arith)
below-or-past zero (suc n) = inl (omega arith)
below-or-past (suc m) (suc n) = up (below-or-past m n)
  where
    up : (m < n) ⊎ (n ≤ m) → (suc m < suc n) ⊎ (suc n ≤ suc m)
    up (inl a) = inl (omega arith)
    up (inr a) = inr (omega arith)

pub record IsPlace (ws : List WindowParts) (i : ℕ) : Type 0 where
  pub k : ℕ
  pub j : ℕ
  pub window_there : k < length ws
  pub slot_there : j < count_of (window ws k)
  pub is : i ≡ place_of ws k j

earlier-place : (w : WindowParts) (ws : List WindowParts) (i : ℕ) → i < count_of w → IsPlace (w ∷ ws) i
earlier-place w ws i a = let z : i ≡ place_of (w ∷ ws) 0 i = omega arith in record { k = 0; j = i; window_there = omega arith; slot_there = a; is = z }

later-place : (w : WindowParts) (ws : List WindowParts) (i : ℕ) → count_of w ≤ i → IsPlace ws (i - count_of w) → IsPlace (w ∷ ws) i
later-place w ws i a r =
    let d = sum_by-cons count_of w (take r.k ws) in
    let z : i ≡ place_of (w ∷ ws) (suc r.k) r.j = omega (arith, r.is, d) in
    record { k = suc r.k; j = r.j; window_there = omega (arith, r.window_there); slot_there = r.slot_there; is = z }

pub locate : (ws : List WindowParts) (i : ℕ) → i < count_slots ws → IsPlace ws i
locate [] i h = absurd (omega arith)
locate (w ∷ ws) i h =
    elim (below-or-past i (count_of w)) as (λ _. IsPlace (w ∷ ws) i) [
      | inl a ↦ earlier-place w ws i a
      | inr a ↦ later-place w ws i a (locate ws (i - count_of w) (omega (arith, sum_by-cons count_of w ws)))
    ]
