-- Loops that set keys to 0 at nulls, and the constructor of dictionary-encoded arrays.
use Rattle.std.proofs.Common.{◌≡◌, ℕ, ◌+◌, ◌<◌, Bool, true, false, not, List, [], ◌∷◌, ◌++◌, length, get_or, map, Ok, Err, Option, Some, None, inl, inr, refl, sym, ap, subst, ◌∙◌, arith}
use Rattle.std.specs.Prelude.{ℤ, pos, negsuc, ◌||◌}
use Rattle.std.specs.List.{range_with_len, list_all}
use Rattle.std.proofs.lemmas.List.{length-map, map-append, get_or_default}
use Rattle.std.proofs.lemmas.List.FromFn.{map-range_with_len_more, get_or-range_with_len, length-range_with_len}
use Rattle.std.proofs.lemmas.List.Sums.{AllPass-from_list_all}
use Rattle.ipc_flatbuf.specs.declared.error.IpcReadError.TheVariants.{MissingDictionary, KeyRange}
use Rattle.nest_memory.specs.declared.error.Error.{Error}
use Rattle.nest_memory.specs.declared.error.Error.TheVariants.{OutOfSpec}
use Rattle.nest_memory.specs.declared.error.SpecError.TheVariants as spec
use Rattle.nest_memory.specs.TypeEq.{same_type-decides}
use Rattle.nest_memory.specs.TypeTree.{TypeTree, logical_type, value_type}
use Rattle.nest_model.specs.Accessors.{validity_of, key_at, raw_keys, as_integer}
use Rattle.nest_model.specs.Array.{AreKeys}
use Rattle.nest_model.specs.Fits.{Fits, IsLogically, Names, KeysInRange}
use Rattle.nest_model.specs.Layout.{Layout, primitive, dictionary, layout_type}
use Rattle.nest_model.specs.Meaning.{len}
use Rattle.nest_model.specs.Part.{Validity, valid_at}
use Rattle.nest_array.specs.Refusals.{RefusesOrMemory}
use Rattle.ipc_arrays.specs.Decoding.{is_index_below, is_key_in_range, are_keys_in_range, dictionary_over}
use Rattle.ipc_arrays.specs.DictionaryKeys.{key_or_zero, zero_at_nulls, is_same_logical_type, AreZeroAtNulls}
use Rattle.ipc_arrays.specs.DictionaryLaws.{logically_so, each_named}
use Rattle.ipc_arrays.proofs.Nested.{names_so}

-- ---- keys of null slots

pub blank_more : {A : Type 0} (f : A → List ℤ) (front new : List A) (x : A) (va : Validity) (values : List (List ℤ)) (i : ℕ) → new ≡ front ++ x ∷ [] → f x ≡ key_or_zero va values i
    → map f front ≡ map (key_or_zero va values) (range_with_len 0 i) → map f new ≡ map (key_or_zero va values) (range_with_len 0 (i + 1))
blank_more f front new x va values i e is so_far =
    ap (map f) e
    ∙ map-append f front (x ∷ [])
    ∙ (λ w. so_far w ++ is w ∷ [])
    ∙ sym (map-range_with_len_more (key_or_zero va values) 0 i i (omega arith))

pub blank_done : {A : Type 0} (f : A → List ℤ) (front : List A) (va : Validity) (values : List (List ℤ)) (i : ℕ) → i ≡ length values → map f front ≡ map (key_or_zero va values) (range_with_len 0 i) → map f front ≡ zero_at_nulls va values
unfolding zero_at_nulls
blank_done f front va values i e so_far = so_far ∙ ap (λ (n : ℕ). map (key_or_zero va values) (range_with_len 0 n)) e

-- ---- keys as indices of values

some_named : (z : ℤ) (n : ℕ) → Names z n → 0 < n
some_named (pos k) n h = omega (arith, h)
some_named (negsuc k) n h = absurd h

logical_so : (o : Option TypeTree) (t : TypeTree) → is_same_logical_type o t ≡ true → IsLogically o t
logical_so None t h = cc
logical_so (Some u) t h = sym ((same_type-decides (logical_type u) (logical_type t)).0 h)

is_false : (b : Bool) → (b ≡ true → ⊥) → b ≡ false
is_false true never = absurd (never refl)
is_false false never = refl

-- if the slot is valid
either_so : (b c : Bool) → (not b || c) ≡ true → b ≡ true → c ≡ true
either_so true c h e = h
either_so false c h e = cc

-- each index is in the range
place_is : (n i : ℕ) → i < n → get_or (range_with_len 0 n) i 0 ≡ i
place_is n i lt = let at = get_or-range_with_len 0 n i 0 lt in omega (arith, at)

each_place : (p : ℕ → Bool) (n i : ℕ) → list_all p (range_with_len 0 n) ≡ true → i < n → p i ≡ true
each_place p n i all lt =
    let long = length-range_with_len 0 n in
    sym (ap p (place_is n i lt)) ∙ AllPass-from_list_all p (range_with_len 0 n) all i 0 (omega (arith, long, lt))

range_names : (ks : Layout) (n : ℕ) → AreKeys ks → KeysInRange ks n → are_keys_in_range ks n ≡ true
range_names (primitive k t vs va) n are range = each_named (primitive k t vs va) n (λ i lt valid. range (i, lt, valid) i (pos 0) (let long = length-map vs as_integer in omega (arith, long, lt)))
range_names ks n are range = absurd are

valid_named : (ks : Layout) (n i : ℕ) → are_keys_in_range ks n ≡ true → i < len ks → valid_at (validity_of ks) i ≡ true → Names (key_at ks i) n
valid_named ks n i named lt valid = names_so (key_at ks i) n (either_so (valid_at (validity_of ks) i) (is_index_below (key_at ks i) n) (each_place (is_key_in_range ks n) (len ks) i named lt) valid)

-- the key of a null slot is 0, which is an index of a value if any key is
key_named : (ks : Layout) (n i : ℕ) (b : Bool) → valid_at (validity_of ks) i ≡ b → AreZeroAtNulls ks → are_keys_in_range ks n ≡ true → 0 < n → i < len ks → Names (key_at ks i) n
key_named ks n i true e blank named some lt = valid_named ks n i named lt e
key_named ks n i false e blank named some lt = subst (λ (z : ℤ). Names z n) (sym (blank i lt e)) some

names_range : (ks : Layout) (n : ℕ) → AreKeys ks → AreZeroAtNulls ks → are_keys_in_range ks n ≡ true → KeysInRange ks n
names_range (primitive k t vs va) n are blank named (j, lt, valid) =
    let ks : Layout = primitive k t vs va in
    let some : 0 < n = some_named (key_at ks j) n (valid_named ks n j named lt valid) in
    λ i d less.
    let long = length-map vs as_integer in
    let within : i < length vs = omega (arith, long, less) in
    subst (λ (z : ℤ). Names z n) (get_or_default (raw_keys ks) i (pos 0) d less) (key_named ks n i (valid_at va i) refl blank named some within)
names_range ks n are blank named some = absurd are

-- ---- results of the constructor

module _ (t : TypeTree) (ks c : Layout) (keys : AreKeys ks) where
  pub over_fits : Fits (dictionary t ks c) → dictionary_over t ks c ≡ Ok (dictionary t ks c)
  over_fits fits =
      let typed : is_same_logical_type (value_type t) (layout_type c) ≡ true = logically_so (value_type t) (layout_type c) fits.1.1.0 in
      let named : are_keys_in_range ks (len c) ≡ true = range_names ks (len c) keys fits.1.1.1.0 in
      rw (typed, named) refl

  unlike : (IsLogically (value_type t) (layout_type c) → ⊥) → dictionary_over t ks c ≡ Err MissingDictionary
  unlike never =
      let other : is_same_logical_type (value_type t) (layout_type c) ≡ false = is_false _ (λ e. never (logical_so (value_type t) (layout_type c) e)) in
      rw other refl

  past : AreZeroAtNulls ks → IsLogically (value_type t) (layout_type c) → (KeysInRange ks (len c) → ⊥) → dictionary_over t ks c ≡ Err KeyRange
  past blank like never =
      let typed : is_same_logical_type (value_type t) (layout_type c) ≡ true = logically_so (value_type t) (layout_type c) like in
      let none : are_keys_in_range ks (len c) ≡ false = is_false _ (λ e. never (names_range ks (len c) keys blank e)) in
      rw (typed, none) refl

  refused_unlike : RefusesOrMemory (OutOfSpec spec.ChildType) (dictionary t ks c) → dictionary_over t ks c ≡ Err MissingDictionary
  refused_unlike (inl first) = unlike first.1.1
  refused_unlike (inr memory) = let never = memory.0 in cc

  refused_past : AreZeroAtNulls ks → RefusesOrMemory (OutOfSpec spec.KeyRange) (dictionary t ks c) → dictionary_over t ks c ≡ Err KeyRange
  refused_past blank (inl first) = past blank first.1.1.0 first.1.1.1
  refused_past blank (inr memory) = let never = memory.0 in cc

  pub over_unlike : (e : Error) → e ≡ OutOfSpec spec.ChildType → RefusesOrMemory e (dictionary t ks c) → dictionary_over t ks c ≡ Err MissingDictionary
  over_unlike e is h = refused_unlike (subst (λ (x : Error). RefusesOrMemory x (dictionary t ks c)) is h)

  pub over_past : AreZeroAtNulls ks → (e : Error) → e ≡ OutOfSpec spec.KeyRange → RefusesOrMemory e (dictionary t ks c) → dictionary_over t ks c ≡ Err KeyRange
  over_past blank e is h = refused_past blank (subst (λ (x : Error). RefusesOrMemory x (dictionary t ks c)) is h)
