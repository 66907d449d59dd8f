-- The rows of dictionary builders as an array of keys.
use Rattle.std.specs.Prelude.{Option, Some, None, Result, Ok, Err, IfOk, map, is_some, if◌then◌else◌}
use Rattle.std.specs.Option.{unwrap_or}
use Rattle.std.proofs.Common.{◌≡◌, ℕ, zero, suc, ℤ, pos, ◌+◌, ◌<◌, ◌≤◌, max, Bool, true, false, List, [], ◌∷◌, ◌++◌, length, get_or, take, replicate, refl, sym, ap, subst, ◌∙◌, arith}
use Rattle.std.proofs.lemmas.List.{map_push, length-append, length-map, take-map}
use Rattle.nest_memory.specs.Sublist.{sublist}
use Rattle.nest_memory.specs.TypeTree.{TypeTree}
use Rattle.nest_memory.specs.declared.datatypes.physical_type.PrimitiveType.{PrimitiveType}
use Rattle.nest_array.specs.Keys.{index_of}
use Rattle.nest_flat.specs.Growth.{pushed_native, zeros}
use Rattle.nest_model.specs.Part.{Validity, valid_at, to_index}
use Rattle.nest_model.specs.Slot as slots
use Rattle.nest_model.specs.Slot.{Slot}
use Rattle.nest_model.specs.Layout.{Layout, primitive, layout_type}
use Rattle.nest_model.specs.Accessors.{as_integer, raw_keys, key_at, natives_of, validity_of}
use Rattle.nest_model.specs.Array.{TopFits}
use Rattle.nest_model.specs.Meaning.{len, slots_of}
use Rattle.nest_model.specs.Slice.{slice_layout}
use Rattle.nest_model.specs.Fits.{ValidityFits, KeysInRange, Names}
use Rattle.nest_model.specs.Reads.{slots-length, slot-place}
use Rattle.nest_model.specs.BuilderFreeze.{EncodesBits, EncodesKey, EncodesKeys}
use Rattle.nest_model.specs.BuilderRow.{values_needed}
use Rattle.nest_model.specs.BuilderRowLaws.{values_needed-above, values_needed-next, values_needed-next_none}
use Rattle.nest_build.specs.Keys.{key_of_slot, encoded_keys, raw_key, AreKept}

pub row_list-length : (a : Layout) → length (encoded_keys a) ≡ len a
row_list-length a = length-map (slots_of a) key_of_slot ∙ slots-length a

-- the row that a slot of the array of keys encodes
mapped : (xs : List Slot) (i : ℕ) → i < length xs → get_or (map key_of_slot xs) i None ≡ key_of_slot (get_or xs i slots.null)
mapped [] i l = absurd (omega arith)
mapped (x ∷ xs) zero l = refl
mapped (x ∷ xs) (suc i) l = mapped xs i (omega arith)

wholes : (vs : List (List ℤ)) (i : ℕ) → as_integer (get_or vs i []) ≡ get_or (map as_integer vs) i (pos 0)
wholes [] zero = refl
wholes [] (suc i) = refl
wholes (v ∷ vs) zero = refl
wholes (v ∷ vs) (suc i) = wholes vs i

abbrev pub key_there : Bool → ℤ → Option ℕ
key_there true z = Some (to_index z)
key_there false z = None

by-bit : (b : Bool) (zs : List ℤ) (z : ℤ) → as_integer zs ≡ z → key_of_slot (if b then slots.number zs else slots.null) ≡ key_there b z
by-bit true zs z e = ap (λ w. Some (to_index w)) e
by-bit false zs z e = refl

row-parts : (k : PrimitiveType) (t : TypeTree) (vs : List (List ℤ)) (va : Validity) (i : ℕ) → i < length vs → get_or (encoded_keys (primitive k t vs va)) i None ≡ key_there (valid_at va i) (key_at (primitive k t vs va) i)
row-parts k t vs va i l =
    let a = primitive k t vs va in
    let m : i < length (slots_of a) = let n = slots-length a in omega arith in
    mapped (slots_of a) i m ∙ (ap key_of_slot (slot-place a i slots.null l) ∙ by-bit (valid_at va i) (get_or vs i []) (key_at a i) (wholes vs i))

pub row : (a : Layout) (k : PrimitiveType) (t : TypeTree) (vs : List (List ℤ)) (va : Validity) (i : ℕ) → a ≡ primitive k t vs va → i < len a → get_or (encoded_keys a) i None ≡ key_there (valid_at (validity_of a) i) (key_at a i)
row a k t vs va i e = rw e (row-parts k t vs va i)

-- the keys are encoded
spells_there : (b : Bool) (z : ℤ) (ks : Layout) (i : ℕ) (o : Option ℕ) → valid_at (validity_of ks) i ≡ b → key_at ks i ≡ z → o ≡ key_there b z → EncodesKey ks i o
spells_there true z ks i o e f g = rw g (e, ap to_index f)
spells_there false z ks i o e f g = rw g e

pub spells : (a : Layout) (k : PrimitiveType) (t : TypeTree) (vs : List (List ℤ)) (va : Validity) → a ≡ primitive k t vs va → EncodesKeys a (encoded_keys a)
spells a k t vs va e = (sym (row_list-length a), λ i l. spells_there (valid_at (validity_of a) i) (key_at a i) a i (get_or (encoded_keys a) i None) refl refl (row a k t vs va i e (let n = row_list-length a in omega arith)))

-- this depends on the keys, not on their data type
pub spells_again : (a b : Layout) (keys : List (Option ℕ)) (k j : PrimitiveType) (t u : TypeTree) (vs : List (List ℤ)) (va : Validity) → a ≡ primitive k t vs va → b ≡ primitive j u vs va → EncodesKeys a keys → EncodesKeys b keys
spells_again a b keys k j t u vs va e f = rw (e, f) (λ h. (h.0, λ i l. again i (get_or keys i None) (h.1 i l)))
  where
    again : (i : ℕ) (o : Option ℕ) → EncodesKey (primitive k t vs va) i o → EncodesKey (primitive j u vs va) i o
    again i None h = h
    again i (Some n) h = h

-- one more row
pub told_push : (a b : Layout) (s : Slot) (o : Option ℕ) → slots_of b ≡ slots_of a ++ s ∷ [] → key_of_slot s ≡ o → encoded_keys b ≡ encoded_keys a ++ o ∷ []
told_push a b s o e f = ap (map key_of_slot) e ∙ (map_push key_of_slot (slots_of a) s ∙ ap (λ x. encoded_keys a ++ x ∷ []) f)

raw-push : (a : Layout) (k : PrimitiveType) (t : TypeTree) (vs : List (List ℤ)) (va : Validity) (x : Option (List ℤ)) → a ≡ primitive k t vs va → raw_keys (pushed_native a x) ≡ raw_keys a ++ as_integer (unwrap_or x (zeros k)) ∷ []
raw-push a k t vs va x e = rw e (map_push as_integer vs (unwrap_or x (zeros k)))

pub kept_push : (a b : Layout) (k : PrimitiveType) (t : TypeTree) (vs : List (List ℤ)) (va : Validity) (x : Option (List ℤ)) (o : Option ℕ) (n m : ℕ) → AreKept a n → a ≡ primitive k t vs va → b ≡ pushed_native a x
    → encoded_keys b ≡ encoded_keys a ++ o ∷ [] → as_integer (unwrap_or x (zeros k)) ≡ raw_key o → m ≡ values_needed (encoded_keys a ++ o ∷ []) → AreKept b m
kept_push a b k t vs va x o n m h e f g w c = record {
  raw = ap raw_keys f ∙ (raw-push a k t vs va x e ∙ (rw (h.raw, w) (sym (map_push raw_key (encoded_keys a) o)) ∙ sym (ap (map raw_key) g)));
  count = c ∙ sym (ap values_needed g);
  bare = λ z. absurd (omega (arith, z, sym (row_list-length b), ap length g, length-append (encoded_keys a) (o ∷ [])));
}

-- without rows there is no validity
pub bare_none : (a : Layout) (keys : List (Option ℕ)) → encoded_keys a ≡ keys → (len a ≡ 0 → validity_of a ≡ None) → keys ≡ [] → validity_of a ≡ None
bare_none a keys e h z = h (sym (row_list-length a) ∙ ap length (e ∙ z))

some_left : {A : Type 0} (xs : List A) (n : ℕ) → 0 < n → 0 < length xs → 0 < length (take n xs)
some_left [] n p l = absurd (omega arith)
some_left (x ∷ xs) zero p l = absurd (omega arith)
some_left (x ∷ xs) (suc n) p l = omega arith

-- some rows are left
pub rows_left : (a b : Layout) (n : ℕ) → encoded_keys b ≡ take n (encoded_keys a) → 0 < n → 0 < len a → 0 < len b
rows_left a b n e p l = omega (arith, row_list-length b, ap length e, some_left (encoded_keys a) n p (let m = row_list-length a in omega arith))

pub whole_zeros : (n : ℕ) → as_integer (replicate n (pos 0)) ≡ pos 0
whole_zeros zero = refl
whole_zeros (suc n) = refl

-- the first rows
pub told_take : (a b : Layout) (n : ℕ) → slots_of b ≡ sublist (slots_of a) 0 n → encoded_keys b ≡ take n (encoded_keys a)
told_take a b n e = ap (map key_of_slot) e ∙ sym (take-map key_of_slot n (slots_of a))

pub raw_take : (a b : Layout) (k : PrimitiveType) (t : TypeTree) (vs : List (List ℤ)) (va : Validity) (n : ℕ) → a ≡ primitive k t vs va → raw_keys a ≡ map raw_key (encoded_keys a) → b ≡ slice_layout a 0 n → encoded_keys b ≡ take n (encoded_keys a) → raw_keys b ≡ map raw_key (encoded_keys b)
raw_take a b k t vs va n e h f g = ap raw_keys f ∙ (cut-raw ∙ (ap (take n) h ∙ (take-map raw_key n (encoded_keys a) ∙ sym (ap (map raw_key) g))))
  where
    cut-raw : raw_keys (slice_layout a 0 n) ≡ take n (raw_keys a)
    cut-raw = rw e (sym (take-map as_integer n vs))

-- the key of a valid row, from its raw value
number_of : (z : ℤ) (o : Option ℕ) → z ≡ raw_key o → o ≡ Some (to_index z) → index_of z ≡ o
number_of z None e f = absurd (let p : None ≡ Some (to_index z) = f in cc)
number_of z (Some k) e f = rw e refl

pub row_null : (a : Layout) (k : PrimitiveType) (t : TypeTree) (vs : List (List ℤ)) (va : Validity) (i : ℕ) → a ≡ primitive k t vs va → i < len a → valid_at (validity_of a) i ≡ false → get_or (encoded_keys a) i None ≡ None
row_null a k t vs va i e l f = row a k t vs va i e l ∙ ap (λ b. key_there b (key_at a i)) f

raw_there : (zs : List ℤ) (ks : List (Option ℕ)) (i : ℕ) → i < length ks → zs ≡ map raw_key ks → get_or zs i (pos 0) ≡ raw_key (get_or ks i None)
raw_there zs [] i l e = absurd (omega arith)
raw_there zs (k ∷ ks) zero l e = rw e refl
raw_there zs (k ∷ ks) (suc i) l e = rw e (raw_there (map raw_key ks) ks i (omega arith) refl)

pub row_index : (a : Layout) (k : PrimitiveType) (t : TypeTree) (vs : List (List ℤ)) (va : Validity) (i : ℕ) (z : ℤ) → a ≡ primitive k t vs va → raw_keys a ≡ map raw_key (encoded_keys a) → i < len a → valid_at (validity_of a) i ≡ true → key_at a i ≡ z → index_of z ≡ get_or (encoded_keys a) i None
row_index a k t vs va i z e h l f g =
    let there = raw_there (raw_keys a) (encoded_keys a) i (let n = row_list-length a in omega arith) h in
    number_of z (get_or (encoded_keys a) i None) (sym g ∙ there) (row a k t vs va i e l ∙ (ap (λ b. key_there b (key_at a i)) f ∙ ap (λ w. Some (to_index w)) g))

-- raw keys are in bounds if some key is valid
names_all : (keys : List (Option ℕ)) (n k : ℕ) (d : ℤ) → 1 ≤ n → values_needed keys ≤ n → k < length (map raw_key keys) → Names (get_or (map raw_key keys) k d) n
names_all [] n k d o h l = absurd (omega arith)
names_all (None ∷ keys) n zero d o h l = omega arith
names_all (Some j ∷ keys) n zero d o h l = omega arith
names_all (None ∷ keys) n (suc k) d o h l = names_all keys n k d o h (omega arith)
names_all (Some j ∷ keys) n (suc k) d o h l = names_all keys n k d o (omega arith) (omega arith)

valid_needs : (a : Layout) (k : PrimitiveType) (t : TypeTree) (vs : List (List ℤ)) (va : Validity) (i : ℕ) → a ≡ primitive k t vs va → i < len a → valid_at (validity_of a) i ≡ true → 1 ≤ values_needed (encoded_keys a)
valid_needs a k t vs va i e l f =
    let above = values_needed-above (encoded_keys a) i (to_index (key_at a i)) None (let n = row_list-length a in omega arith) (row a k t vs va i e l ∙ ap (λ b. key_there b (key_at a i)) f) in
    omega arith

pub in_range : (a : Layout) (k : PrimitiveType) (t : TypeTree) (vs : List (List ℤ)) (va : Validity) → a ≡ primitive k t vs va → raw_keys a ≡ map raw_key (encoded_keys a) → KeysInRange a (values_needed (encoded_keys a))
in_range a k t vs va e h = λ s. rw h (λ j d l. names_all (encoded_keys a) (values_needed (encoded_keys a)) j d (valid_needs a k t vs va s.0 e s.1 s.2) (omega arith) l)

-- validity
bits_there : (va : Validity) (n : ℕ) (keys : List (Option ℕ)) → ValidityFits va n → n ≡ length keys → ((i : ℕ) → i < length keys → valid_at va i ≡ is_some (get_or keys i None)) → EncodesBits va (map is_some keys)
bits_there None n keys v e h = λ i l. is_some_there keys i (let m = length-map keys is_some in omega arith) ∙ sym (h i (let m = length-map keys is_some in omega arith))
  where
    is_some_there : (ks : List (Option ℕ)) (j : ℕ) → j < length ks → get_or (map is_some ks) j true ≡ is_some (get_or ks j None)
    is_some_there [] j l = absurd (omega arith)
    is_some_there (k ∷ ks) zero l = refl
    is_some_there (k ∷ ks) (suc j) l = is_some_there ks j (omega arith)
bits_there (Some bits) n keys v e h = same bits keys (v ∙ e) h
  where
    same : (bs : List Bool) (ks : List (Option ℕ)) → length bs ≡ length ks → ((i : ℕ) → i < length ks → get_or bs i true ≡ is_some (get_or ks i None)) → bs ≡ map is_some ks
    same [] [] e h = refl
    same [] (k ∷ ks) e h = absurd (omega arith)
    same (b ∷ bs) [] e h = absurd (omega arith)
    same (b ∷ bs) (k ∷ ks) e h =
        let first : b ≡ is_some k = h zero (omega arith) in
        let rest : bs ≡ map is_some ks = same bs ks (omega arith) (λ i l. h (suc i) (omega arith)) in
        cc

is_there : (b : Bool) (z : ℤ) → b ≡ is_some (key_there b z)
is_there true z = refl
is_there false z = refl

pub row_valid : (a : Layout) (k : PrimitiveType) (t : TypeTree) (vs : List (List ℤ)) (va : Validity) (i : ℕ) → a ≡ primitive k t vs va → i < len a → valid_at (validity_of a) i ≡ is_some (get_or (encoded_keys a) i None)
row_valid a k t vs va i e l = is_there (valid_at (validity_of a) i) (key_at a i) ∙ sym (ap is_some (row a k t vs va i e l))

pub encoded_bits : (a : Layout) (k : PrimitiveType) (t : TypeTree) (vs : List (List ℤ)) (va : Validity) → a ≡ primitive k t vs va → ValidityFits (validity_of a) (len a) → EncodesBits (validity_of a) (map is_some (encoded_keys a))
encoded_bits a k t vs va e v = bits_there (validity_of a) (len a) (encoded_keys a) v (sym (row_list-length a)) (λ i l. row_valid a k t vs va i e (let n = row_list-length a in omega arith))

pub bits_kept : (a : Layout) (k : PrimitiveType) (t : TypeTree) (vs : List (List ℤ)) (va : Validity) → a ≡ primitive k t vs va → TopFits a → EncodesBits (validity_of a) (map is_some (encoded_keys a))
bits_kept a k t vs va e h = encoded_bits a k t vs va e (fits e h)
  where
    fits : a ≡ primitive k t vs va → TopFits a → ValidityFits (validity_of a) (len a)
    fits e = rw e (λ h. h.1.0)

-- the frozen keys, also with another data type
pub frozen_keys : (a m b : Layout) (keys : List (Option ℕ)) (k : PrimitiveType) (u : TypeTree) → a ≡ primitive k (layout_type a) (natives_of a) (validity_of a) → m ≡ a → b ≡ primitive k u (natives_of m) (validity_of m) → encoded_keys a ≡ keys → EncodesKeys b keys
frozen_keys a m b keys k u e f g h =
    spells_again a b keys k k (layout_type a) u (natives_of a) (validity_of a) e (g ∙ ap (λ x. primitive k u (natives_of x) (validity_of x)) f)
    (subst (λ ks. EncodesKeys a ks) h (spells a k (layout_type a) (natives_of a) (validity_of a) e))

range_again : (a b : Layout) (n : ℕ) (k j : PrimitiveType) (t u : TypeTree) (vs : List (List ℤ)) (va : Validity) → a ≡ primitive k t vs va → b ≡ primitive j u vs va → KeysInRange a n → KeysInRange b n
range_again a b n k j t u vs va e f = rw (e, f) (λ h. h)

pub frozen_range : (a m b : Layout) (keys : List (Option ℕ)) (k : PrimitiveType) (u : TypeTree) → a ≡ primitive k (layout_type a) (natives_of a) (validity_of a) → m ≡ a → b ≡ primitive k u (natives_of m) (validity_of m) → encoded_keys a ≡ keys
    → raw_keys a ≡ map raw_key (encoded_keys a) → KeysInRange b (values_needed keys)
frozen_range a m b keys k u e f g h r =
    range_again a b (values_needed keys) k k (layout_type a) u (natives_of a) (validity_of a) e (g ∙ ap (λ x. primitive k u (natives_of x) (validity_of x)) f)
    (subst (λ ks. KeysInRange a (values_needed ks)) h (in_range a k (layout_type a) (natives_of a) (validity_of a) e r))

pub if_ok_so : {T E : Type 0} {A B : T → Type 0} (r : Result T E) → ((x : T) → A x → B x) → IfOk r A → IfOk r B
if_ok_so (Ok x) f a = f x a
if_ok_so (Err e) f a = tt

-- the raw key at an index, from the native values
pub raw_at : {A : Type 0} (f : A → List ℤ) (xs : List A) (vs : List (List ℤ)) (i : ℕ) (x : A) → map f xs ≡ vs → i < length vs → x ≡ get_or xs i x → get_or (map as_integer vs) i (pos 0) ≡ as_integer (f x)
raw_at f [] vs i x e l g = absurd (let n : length vs ≡ 0 = sym (ap length e) in omega arith)
raw_at f (y ∷ xs) vs zero x e l g = rw (← e) (ap (λ z. as_integer (f z)) (sym g))
raw_at f (y ∷ xs) vs (suc i) x e l g = rw (← e) (raw_at f xs (map f xs) i x refl (let n : length vs ≡ suc (length (map f xs)) = sym (ap length e) in omega arith) g)

pub natives-length : (a : Layout) (k : PrimitiveType) (t : TypeTree) (vs : List (List ℤ)) (va : Validity) → a ≡ primitive k t vs va → len a ≡ length (natives_of a)
natives-length a k t vs va e = rw e refl

-- one more row of the loop
pub needed_more : (ks : List (Option ℕ)) (i k n m : ℕ) → i < length ks → Some k ≡ get_or ks i None → n ≡ values_needed (take i ks) → m ≡ max n (k + 1) → m ≡ values_needed (take (i + 1) ks)
needed_more ks i k n m l e h g = omega (arith, values_needed-next ks i k l (sym e), h, g)

pub needed_same : (ks : List (Option ℕ)) (i n : ℕ) → i < length ks → None ≡ get_or ks i None → n ≡ values_needed (take i ks) → n ≡ values_needed (take (i + 1) ks)
needed_same ks i n l e h = h ∙ sym (values_needed-next_none ks i l (sym e))
