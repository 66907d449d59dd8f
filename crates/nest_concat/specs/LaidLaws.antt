-- The tests of `Laid` decide the limits of `Limits`.
use Rattle.std.specs.Prelude.{◌≡◌, ◌⊎◌, ℕ, zero, suc, ◌+◌, ◌<◌, ◌≤◌, ◌^◌, ℤ, Bool, true, false, ◌&&◌, ◌||◌, not, nat_le, nat_lt, List, [], ◌∷◌, map, Option, Some, None}
use Rattle.std.specs.Bool.{Decides}
use Rattle.std.specs.List.{list_all, list_any, range_with_len, sum_by}
use Rattle.std.proofs.Common.{inl, inr, refl, subst, arith}
use Rattle.std.proofs.lemmas.Bool.{leb-true, le-leb, false≢true, false_from_ne_true}
use Rattle.std.proofs.lemmas.Bool.Decides.{Decides-and, Decides-by_and, Decides-like, Decides-ltb, Decides-not, Decides-or}
use Rattle.nest_memory.specs.Rising.{largest_offset}
use Rattle.nest_memory.specs.TypeTree.{size_of}
use Rattle.nest_model.specs.Accessors.{child_of, key_at, keys_of, validity_of}
use Rattle.nest_model.specs.Checks.{most_picks}
use Rattle.nest_model.specs.Layout.{Layout, Layouts, binary, utf8, fixed_size_list, list, map as map_of, struct, union, dictionary, no_layouts, more_layouts, count_layouts}
use Rattle.nest_model.specs.Part.{to_index, valid_at}
use Rattle.nest_model.specs.SameArray.{IsSameArray, same_array}
use Rattle.nest_model.specs.SameArrayLaws.{same_array-decides}
use Rattle.nest_array.specs.WindowParts.{WindowParts}
use Rattle.nest_concat.specs.Laid.{have_values, key_passes, keys_pass, passes, passes_length, passes_offsets, passes_picks, some_passes}
use Rattle.nest_concat.specs.Limits.{PassesLength, PassesLimits, PassesOffsets, PassesPicks, SomePasses}
use Rattle.nest_concat.specs.Lookups.{HaveValues, KeyPasses, KeysPass, count_values, most_keys, values_in}
use Rattle.nest_concat.specs.Windows.{blocks_of, window_item_count, count_slots, field_window, items_in}

-- a test of n numbers from o on decides whether P holds for one of them
module _ (p : ℕ → Bool) (P : ℕ → Type 0) (each : (k : ℕ) → Decides (p k) (P k)) where
  there : (o n : ℕ) → P o ⊎ ((j : ℕ) × ((j < n) × P (o + 1 + j))) → (j : ℕ) × ((j < suc n) × P (o + j))
  there o n (inl h) = let z : o ≡ o + 0 = omega arith in (0, (omega arith, subst P z h))
  there o n (inr h) =
      let z : o + 1 + h.0 ≡ o + suc h.0 = omega arith in
      let l = h.1.0 in
      (suc h.0, (omega arith, subst P z h.1.1))

  here : (o n j : ℕ) → j < suc n → P (o + j) → P o ⊎ ((j : ℕ) × ((j < n) × P (o + 1 + j)))
  here o n zero l h = let z : o + 0 ≡ o = omega arith in inl (subst P z h)
  here o n (suc j) l h = let z : o + suc j ≡ o + 1 + j = omega arith in inr (j, (omega arith, subst P z h))

  pub any-decides : (o n : ℕ) → Decides (list_any p (range_with_len o n)) ((j : ℕ) × ((j < n) × P (o + j)))
  any-decides o zero = (λ e. absurd (false≢true e), λ h. let l = h.1.0 in absurd (omega arith))
  any-decides o (suc n) =
      let either = Decides-or (p o) (list_any p (range_with_len (o + 1) n)) (each o) (any-decides (o + 1) n) in
      Decides-like (p o || list_any p (range_with_len (o + 1) n)) (there o n) (λ h. here o n h.0 h.1.0 h.1.1) either

-- each test decides its limit
pub length-decides : (ws : List WindowParts) → Decides (passes_length ws) (PassesLength ws)
length-decides ws = (leb-true (2 ^ 64) (count_slots ws), le-leb (2 ^ 64) (count_slots ws))

pub offsets-decides : (large : Bool) (ws : List WindowParts) → Decides (passes_offsets large ws) (PassesOffsets large ws)
offsets-decides large ws = Decides-ltb (largest_offset large) (sum_by window_item_count ws)

abbrev picked : List WindowParts → ℕ → ℕ
picked ws f = count_slots (map (field_window f) ws)

one-field : (n : ℕ) (ws : List WindowParts) → (j : ℕ) × ((j < n) × (most_picks < picked ws (0 + j))) → (f : ℕ) × (f < n) × (most_picks < picked ws f)
one-field n ws h =
    let z : 0 + h.0 ≡ h.0 = omega arith in
    (h.0, h.1.0, subst (λ f. most_picks < picked ws f) z h.1.1)

field-one : (n : ℕ) (ws : List WindowParts) → (f : ℕ) × (f < n) × (most_picks < picked ws f) → (j : ℕ) × ((j < n) × (most_picks < picked ws (0 + j)))
field-one n ws h =
    let z : h.0 ≡ 0 + h.0 = omega arith in
    (h.0, (h.1, subst (λ f. most_picks < picked ws f) z h.2))

pub picks-decides : (os : Option (List ℤ)) (n : ℕ) (ws : List WindowParts) → Decides (passes_picks os n ws) (PassesPicks os n ws)
picks-decides None n ws = (λ e. false≢true e, λ h. absurd h)
picks-decides (Some os) n ws =
    let p : ℕ → Bool = λ f. nat_lt most_picks (picked ws f) in
    Decides-like (list_any p (range_with_len 0 n)) (one-field n ws) (field-one n ws)
    (any-decides p (λ f. most_picks < picked ws f) (λ f. Decides-ltb most_picks (picked ws f)) 0 n)

pub values-decides : (c : Layout) (ws : List WindowParts) → Decides (have_values c ws) (HaveValues c ws)
values-decides c ws =
    let p : WindowParts → Bool = λ w. same_array (child_of w.array) c in
    Decides-by_and p (λ w. IsSameArray (child_of w.array) c) (list_all p) (λ w. same_array-decides (child_of w.array) c) refl (λ _ _. refl) ws

pub key-decides : (n s : ℕ) (w : WindowParts) → Decides (key_passes n s w) (KeyPasses n s w)
key-decides n s w =
    let key : ℕ → ℕ = λ i. s + to_index (key_at (keys_of w.array) i) in
    let valid : ℕ → Bool = λ i. valid_at (validity_of w.array) i in
    any-decides (λ i. valid i && nat_le n (key i)) (λ i. (valid i ≡ true) × (n ≤ key i))
    (λ i. Decides-and (valid i) (nat_le n (key i)) (λ e. e, λ e. e) (leb-true n (key i), le-leb n (key i))) w.offset w.count

pub keys-decide : (n s : ℕ) (ws : List WindowParts) → Decides (keys_pass n s ws) (KeysPass n s ws)
keys-decide n s [] = (λ e. false≢true e, λ h. absurd h)
keys-decide n s (w ∷ ws) = Decides-or (key_passes n s w) (keys_pass n (s + count_values w) ws) (key-decides n s w) (keys-decide n (s + count_values w) ws)

-- the test of all limits decides them
mutual
  pub passes-decides : (a : Layout) (ws : List WindowParts) → Decides (passes a ws) (PassesLimits a ws)
  passes-decides (binary large t os bs va) ws = Decides-or (passes_length ws) (passes_offsets large ws) (length-decides ws) (offsets-decides large ws)
  passes-decides (utf8 large t os bs va) ws = Decides-or (passes_length ws) (passes_offsets large ws) (length-decides ws) (offsets-decides large ws)
  passes-decides (fixed_size_list t c va) ws =
      let cws = map (blocks_of (size_of t)) ws in
      Decides-or (passes_length ws) (passes c cws) (length-decides ws) (passes-decides c cws)
  passes-decides (list large t os c va) ws =
      let cws = map items_in ws in
      let rest = passes_offsets large ws || passes c cws in
      Decides-or (passes_length ws) rest (length-decides ws) (Decides-or (passes_offsets large ws) (passes c cws) (offsets-decides large ws) (passes-decides c cws))
  passes-decides (map_of t os c va) ws =
      let cws = map items_in ws in
      let rest = passes_offsets false ws || passes c cws in
      Decides-or (passes_length ws) rest (length-decides ws) (Decides-or (passes_offsets false ws) (passes c cws) (offsets-decides false ws) (passes-decides c cws))
  passes-decides (struct t cs va) ws = Decides-or (passes_length ws) (some_passes cs 0 ws) (length-decides ws) (some-decides cs 0 ws)
  passes-decides (union t ks cs os start) ws =
      let n = count_layouts cs in
      let rest = passes_picks os n ws || some_passes cs 0 ws in
      Decides-or (passes_length ws) rest (length-decides ws) (Decides-or (passes_picks os n ws) (some_passes cs 0 ws) (picks-decides os n ws) (some-decides cs 0 ws))
  passes-decides (dictionary t ks c) ws =
      let cws = map values_in ws in
      let n = most_keys t in
      let moved = keys_pass n 0 ws || passes c cws in
      let either = Decides-or (keys_pass n 0 ws) (passes c cws) (keys-decide n 0 ws) (passes-decides c cws) in
      let others = Decides-not (have_values c ws) (values-decides c ws) in
      Decides-or (passes_length ws) (not (have_values c ws) && moved) (length-decides ws) (Decides-and (not (have_values c ws)) moved others either)
  passes-decides a ws = length-decides ws

  -- of the children from field f on
  pub some-decides : (cs : Layouts) (f : ℕ) (ws : List WindowParts) → Decides (some_passes cs f ws) (SomePasses cs f ws)
  some-decides no_layouts f ws = (λ e. false≢true e, λ h. absurd h)
  some-decides (more_layouts c cs) f ws =
      let cws = map (field_window f) ws in
      Decides-or (passes c cws) (some_passes cs (suc f) ws) (passes-decides c cws) (some-decides cs (suc f) ws)

pub limits-pass : (a : Layout) (ws : List WindowParts) → PassesLimits a ws → passes a ws ≡ true
limits-pass a ws = (passes-decides a ws).1

pub some-pass : (cs : Layouts) (f : ℕ) (ws : List WindowParts) → SomePasses cs f ws → some_passes cs f ws ≡ true
some-pass cs f ws = (some-decides cs f ws).1

-- where no limit is passed, the test is false
pub none-passes : (a : Layout) (ws : List WindowParts) → (PassesLimits a ws → ⊥) → passes a ws ≡ false
none-passes a ws n = false_from_ne_true (passes a ws) (λ e. n ((passes-decides a ws).0 e))
