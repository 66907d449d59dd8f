-- Appending moved keys, and keys that do not fit.
use Rattle.std.specs.Prelude.{◌⊎◌, Bool, Some, IfErr, IfOk, MatchResult, List, [], ◌∷◌, ◌++◌, alloc_error, map, length, get_or}
use Rattle.std.specs.List.{sum_by}
use Rattle.std.proofs.Common.{◌≡◌, ℕ, ℤ, Result, Ok, Err, zero, suc, ◌+◌, ◌<◌, ◌≤◌, ◌^◌, true, false, take, drop, inl, inr, refl, ap, sym, ◌∙◌, subst, arith, append-nil, append_assoc}
use Rattle.std.proofs.lemmas.List.{drop_all, drop_more, length-map, map-append}
use Rattle.std.proofs.lemmas.List.Sums.{sum_by-cons}
use Rattle.nest_memory.specs.declared.datatypes.IntegerType.{IntegerType}
use Rattle.nest_memory.specs.declared.datatypes.IntegerType.TheVariants as integers
use Rattle.nest_memory.specs.declared.datatypes.physical_type.PhysicalType.TheVariants as physical
use Rattle.nest_memory.specs.declared.datatypes.physical_type.PrimitiveType.{PrimitiveType}
use Rattle.nest_memory.specs.declared.datatypes.physical_type.PrimitiveType.TheVariants as primitives
use Rattle.nest_memory.specs.Native.{parts_of}
use Rattle.nest_memory.specs.TypeTree.{TypeTree}
use Rattle.nest_memory.specs.Physical.{physical_type}
use Rattle.nest_memory.specs.declared.error.Error.{Error}
use Rattle.nest_memory.specs.declared.error.Error.TheVariants.{Memory, Overflow}
use Rattle.nest_model.specs.Accessors.{validity_of, keys_of, key_kind, key_type_of, natives_of, as_integer as number_of}
use Rattle.nest_model.specs.Array.{TopFits}
use Rattle.nest_model.specs.BuilderTree.{key_count}
use Rattle.nest_model.specs.Decide.{pass-no_error}
use Rattle.nest_model.specs.Fits.{Fits, FirstError, ValidityFits, checks}
use Rattle.nest_model.specs.Layout.{Layout, primitive, dictionary, layout_type}
use Rattle.nest_model.specs.Part.{Validity, valid_at}
use Rattle.nest_array.specs.WindowParts.{WindowParts}
use Rattle.nest_concat.specs.Joined.{AreWithin, RefusesKeys}
use Rattle.nest_concat.specs.Laid.{laid_keys}
use Rattle.nest_concat.specs.Limits.{PassesLength}
use Rattle.nest_concat.specs.Lookups.{AreJoinedKeys, IsKeyPast, KeyFits, KeyPasses, KeysFit, KeysPass, SomePast, count_values, joined_keys, keys_in, moved_key, moved_keys, moved_run, values_in}
use Rattle.nest_concat.specs.Windows.{count_of, count_slots, concatenated_validity}
use Rattle.nest_concat.proofs.Children.{each-more}
use Rattle.nest_concat.proofs.Grown.{sum-within}
use Rattle.nest_concat.proofs.Keyed.{keys-long, moved-count}
use Rattle.nest_concat.proofs.Pieces.{flat-length}
use Rattle.nest_concat.proofs.Windows.{joined-fits}
use Rattle.nest_concat.proofs.Shapes.{dictionary-shape}

-- a key type has at most 2^64 keys
pub keys-at-most : (k : IntegerType) → key_count k ≤ 2 ^ 64
keys-at-most integers.Int8 = omega arith
keys-at-most integers.Int16 = omega arith
keys-at-most integers.Int32 = omega arith
keys-at-most integers.Int64 = omega arith
keys-at-most integers.UInt8 = omega arith
keys-at-most integers.UInt16 = omega arith
keys-at-most integers.UInt32 = omega arith
keys-at-most integers.UInt64 = omega arith

run-more : (s : ℕ) (ks : Layout) (o n : ℕ) → moved_run s ks o (n + 1) ≡ moved_run s ks o n ++ moved_key s ks (o + n) ∷ []
run-more s ks o zero = let z : o ≡ o + 0 = omega arith in ap (λ i. moved_key s ks i ∷ []) z
run-more s ks o (suc n) =
    let z : suc n + 1 ≡ suc (n + 1) = omega arith in
    let y : o + 1 + n ≡ o + suc n = omega arith in
    ap (moved_run s ks o) z ∙ ap (λ zs. moved_key s ks o ∷ zs) (run-more s ks (o + 1) n ∙ ap (λ i. moved_run s ks (o + 1) n ++ moved_key s ks i ∷ []) y)

-- the raw keys of native values
abbrev pub numbers_in : {T : Type 0} → (T → List ℤ) → List T → List ℤ
numbers_in f xs = map number_of (map f xs)

numbers-append : {T : Type 0} (f : T → List ℤ) (xs ys : List T) → numbers_in f (xs ++ ys) ≡ numbers_in f xs ++ numbers_in f ys
numbers-append f xs ys = ap (map number_of) (map-append f xs ys) ∙ map-append number_of (map f xs) (map f ys)

-- one more key
pub keys-more : {T : Type 0} (f : T → List ℤ) (s : ℕ) (ks : Layout) (o n : ℕ) (first old new : List T) (x : T) → new ≡ old ++ x ∷ [] → numbers_in f old ≡ numbers_in f first ++ moved_run s ks o n
    → number_of (f x) ≡ moved_key s ks (o + n) → numbers_in f new ≡ numbers_in f first ++ moved_run s ks o (n + 1)
keys-more f s ks o n first old new x e g h =
    ap (numbers_in f) e
    ∙ numbers-append f old (x ∷ [])
    ∙ ap (λ zs. zs ++ number_of (f x) ∷ []) g
    ∙ append_assoc (numbers_in f first) (moved_run s ks o n) (number_of (f x) ∷ [])
    ∙ ap (λ z. numbers_in f first ++ (moved_run s ks o n ++ z ∷ [])) h
    ∙ ap (λ zs. numbers_in f first ++ zs) (sym (run-more s ks o n))

pub some-past : (n s : ℕ) (ks : Layout) (o m j : ℕ) → j < m → IsKeyPast n s ks (o + j) → SomePast n s ks o m
some-past n s ks o m j h p = (j, (h, p))

-- the same for the window
pub past-window : (k : IntegerType) (n s : ℕ) (w : WindowParts) (ks : Layout) (o m : ℕ) → TopFits w.array → physical_type (layout_type w.array) ≡ physical.Dictionary k → ks ≡ keys_of w.array → o ≡ w.offset → m ≡ w.count
    → SomePast n s ks o m → (0 < s) × KeyPasses n s w
past-window k n s w ks o m f p e g h past =
    let v = ap validity_of (dictionary-shape k w.array f p) in
    let here = subst (λ z. SomePast n s (keys_of w.array) w.offset z) h (subst (λ z. SomePast n s (keys_of w.array) z m) g (subst (λ z. SomePast n s z o m) e past)) in
    let j = here.0 in
    let r = here.1.1 in
    (r.0, (j, (here.1.0, (ap (λ va. valid_at va (w.offset + j)) v ∙ r.1.0, r.1.1))))

-- keys of the remaining windows
pub keys-left : (ws : List WindowParts) (s i : ℕ) (w : WindowParts) → i < length ws → w ≡ get_or ws i w → moved_keys s (drop i ws) ≡ keys_in s w ++ moved_keys (s + count_values w) (drop (i + 1) ws)
keys-left ws s i w h e = ap (moved_keys s) (drop_more ws i w h) ∙ ap (λ x. keys_in s x ++ moved_keys (s + count_values x) (drop (i + 1) ws)) (sym e)

pub gathered-more : {T : Type 0} (f : T → List ℤ) (ws : List WindowParts) (s i t : ℕ) (w : WindowParts) (old new : List T) → i < length ws → w ≡ get_or ws i w → t ≡ s + count_values w
    → numbers_in f new ≡ numbers_in f old ++ keys_in s w → numbers_in f old ++ moved_keys s (drop i ws) ≡ moved_keys 0 ws → numbers_in f new ++ moved_keys t (drop (i + 1) ws) ≡ moved_keys 0 ws
gathered-more f ws s i t w old new h e z n g =
    ap (λ zs. zs ++ moved_keys t (drop (i + 1) ws)) n
    ∙ append_assoc (numbers_in f old) (keys_in s w) (moved_keys t (drop (i + 1) ws))
    ∙ ap (λ y. numbers_in f old ++ (keys_in s w ++ moved_keys y (drop (i + 1) ws))) z
    ∙ ap (λ zs. numbers_in f old ++ zs) (sym (keys-left ws s i w h e))
    ∙ g

pub gathered-all : {T : Type 0} (f : T → List ℤ) (ws : List WindowParts) (s i : ℕ) (xs : List T) → length ws ≤ i → numbers_in f xs ++ moved_keys s (drop i ws) ≡ moved_keys 0 ws → numbers_in f xs ≡ moved_keys 0 ws
gathered-all f ws s i xs h g = sym (append-nil (numbers_in f xs)) ∙ ap (λ vs. numbers_in f xs ++ moved_keys s vs) (sym (drop_all i ws h)) ∙ g

-- a key of the remaining windows that does not fit
pub pass-left : (n : ℕ) (ws : List WindowParts) (s i : ℕ) (w : WindowParts) → i < length ws → w ≡ get_or ws i w → KeyPasses n s w ⊎ KeysPass n (s + count_values w) (drop (i + 1) ws) → KeysPass n s (drop i ws)
pass-left n ws s i w h e p = subst (KeysPass n s) (sym (drop_more ws i w h)) (subst (λ x. KeyPasses n s x ⊎ KeysPass n (s + count_values x) (drop (i + 1) ws)) e p)

-- values past the largest length
pub sum-values : (ws : List WindowParts) → count_slots (map values_in ws) ≡ sum_by count_values ws
sum-values [] = refl
sum-values (w ∷ ws) = omega (arith, sum_by-cons count_of (values_in w) (map values_in ws), sum_by-cons count_values w ws, sum-values ws)

pub values-past : (ws : List WindowParts) (i s : ℕ) (w : WindowParts) → i < length ws → w ≡ get_or ws i w → s ≡ sum_by count_values (take i ws) → 2 ^ 64 ≤ s + count_values w → PassesLength (map values_in ws)
values-past ws i s w h e z p = omega (arith, sum-within count_values ws i w h e, z, p, sum-values ws)

-- nothing precedes the first values
pub none-before : (e : Error) (P : Type 0) → (e ≡ Memory alloc_error) ⊎ ((e ≡ Overflow) × ((0 < 0) × P)) → e ≡ Memory alloc_error
none-before e P (inl h) = h
none-before e P (inr h) = absurd (omega (arith, h.1.0))

-- the array of the keys
joined-count : (moved : Bool) (ws : List WindowParts) → length (joined_keys moved ws) ≡ count_slots ws
joined-count true ws = moved-count 0 ws
joined-count false ws = flat-length (keys_in 0) count_of ws (keys-long 0 ws)

values-count : (moved : Bool) (ws : List WindowParts) (vs : List (List ℤ)) → map number_of vs ≡ joined_keys moved ws → length vs ≡ count_slots ws
values-count moved ws vs h = sym (length-map vs number_of) ∙ ap length h ∙ joined-count moved ws

keys-fit : (moved : Bool) (q : PrimitiveType) (t u : TypeTree) (ws : List WindowParts) (vs : List (List ℤ)) (va : Validity) → AreWithin u ws → physical_type t ≡ physical.Primitive q → map number_of vs ≡ joined_keys moved ws
    → va ≡ concatenated_validity ws → Fits (primitive q t vs va)
keys-fit moved q t u ws vs va h p e v =
    let n = values-count moved ws vs e in
    (subst (λ z. ValidityFits z (length vs)) (sym v) (subst (ValidityFits (concatenated_validity ws)) (sym n) (joined-fits u ws h)), (p, tt))

pub keys-made : (r : Result Layout Error) (moved : Bool) (q : PrimitiveType) (t : TypeTree) (ks : Layout) (ws : List WindowParts) (vs : List (List ℤ)) (va : Validity)
    → MatchResult r (λ a. Fits (primitive q t vs va) × (a ≡ primitive q t vs va)) (λ e. FirstError e (primitive q t vs va)) → key_kind q ≡ key_type_of ks → map number_of vs ≡ joined_keys moved ws → va ≡ concatenated_validity ws
    → IfOk r (λ k. AreJoinedKeys moved ks ws k)
keys-made (Ok a) moved q t ks ws vs va m k e v =
    let made : AreJoinedKeys moved ks ws (primitive q t vs va) = record { same_width = k; count = values-count moved ws vs e; validity = v; raw = e } in
    subst (AreJoinedKeys moved ks ws) (sym m.1) made
keys-made (Err x) moved q t ks ws vs va m k e v = tt

keys-none : (r : Result Layout Error) (p : Layout) (P : Error → Type 0) → MatchResult r (λ a. Fits p × (a ≡ p)) (λ e. FirstError e p) → Fits p → IfErr r P
keys-none (Ok a) p P m f = tt
keys-none (Err e) p P m f = absurd (pass-no_error (checks p) e f m)

-- the type of native values and that of keys
pub primitive-keys : (q : PrimitiveType) (a : Layout) → TopFits a → a ≡ primitive q (layout_type a) (natives_of a) (validity_of a) → (physical_type (layout_type a) ≡ physical.Primitive q) × (key_kind q ≡ key_type_of a)
primitive-keys q a f e = ((subst TopFits e f).1.1.0, sym (ap key_type_of e))

pub keys-unmade : (r : Result Layout Error) (moved : Bool) (q : PrimitiveType) (t u : TypeTree) (ws : List WindowParts) (vs : List (List ℤ)) (va : Validity) (P : Error → Type 0)
    → MatchResult r (λ a. Fits (primitive q t vs va) × (a ≡ primitive q t vs va)) (λ e. FirstError e (primitive q t vs va)) → AreWithin u ws → physical_type t ≡ physical.Primitive q → map number_of vs ≡ joined_keys moved ws
    → va ≡ concatenated_validity ws → IfErr r P
keys-unmade r moved q t u ws vs va P m h p e v = keys-none r (primitive q t vs va) P m (keys-fit moved q t u ws vs va h p e v)

-- a key of a window that does not fit its type
pub pushed-refuse : (e : Error) (n : ℕ) (ws : List WindowParts) (s i : ℕ) (w : WindowParts) → i < length ws → w ≡ get_or ws i w → (KeysPass n s (drop i ws) → KeysPass n 0 ws)
    → (e ≡ Memory alloc_error) ⊎ ((e ≡ Overflow) × ((0 < s) × KeyPasses n s w)) → RefusesKeys true e n ws
pushed-refuse e n ws s i w h k f (inl m) = inl m
pushed-refuse e n ws s i w h k f (inr (o, (b, p))) = inr (o, (refl, inl (f (pass-left n ws s i w h k (inl p)))))

-- one more key that fits, and no key of the window that does not
pub fit-key-more : (n s : ℕ) (ks : Layout) (o m : ℕ) → KeysFit n s ks o m → KeyFits n s ks (o + m) → KeysFit n s ks o (m + 1)
fit-key-more n s ks o m f k = each-more (λ j. KeyFits n s ks (o + j)) m f k

keys-validity : (a : Layout) (k : IntegerType) → key_type_of (keys_of a) ≡ Some k → validity_of a ≡ validity_of (keys_of a)
keys-validity (dictionary t ks c) k h = refl
keys-validity a k h = cc

pub fit-window : (k : IntegerType) (n s : ℕ) (w : WindowParts) (ks : Layout) (o m : ℕ) → key_type_of ks ≡ Some k → ks ≡ keys_of w.array → o ≡ w.offset → m ≡ w.count → KeysFit n s ks o m → KeyPasses n s w → ⊥
fit-window k n s w ks o m p e g h fit past =
    let v = keys-validity w.array k (ap key_type_of (sym e) ∙ p) in
    let here = subst (KeysFit n s (keys_of w.array) w.offset) h (subst (λ z. KeysFit n s (keys_of w.array) z m) g (subst (λ z. KeysFit n s z o m) e fit)) in
    let j = past.0 in
    let r = past.1 in
    let l = here j r.0 (sym (ap (λ va. valid_at va (w.offset + j)) v) ∙ r.1.0) in
    let q = r.1.1 in
    omega (arith, l, q)

-- a key that does not fit is in a remaining window
pub pass-behind : (n : ℕ) (ws : List WindowParts) (s i t : ℕ) (w : WindowParts) → i < length ws → w ≡ get_or ws i w → t ≡ s + count_values w → (KeyPasses n s w → ⊥) → (KeysPass n 0 ws → KeysPass n s (drop i ws)) → KeysPass n 0 ws
    → KeysPass n t (drop (i + 1) ws)
pass-behind n ws s i t w h e z f g p = go (subst (λ x. KeyPasses n s x ⊎ KeysPass n (s + count_values x) (drop (i + 1) ws)) (sym e) (subst (KeysPass n s) (drop_more ws i w h) (g p)))
  where
    go : KeyPasses n s w ⊎ KeysPass n (s + count_values w) (drop (i + 1) ws) → KeysPass n t (drop (i + 1) ws)
    go (inl x) = absurd (f x)
    go (inr y) = subst (λ b. KeysPass n b (drop (i + 1) ws)) (sym z) y

pub pass-none : (n : ℕ) (ws : List WindowParts) (s i : ℕ) → length ws ≤ i → (KeysPass n 0 ws → KeysPass n s (drop i ws)) → KeysPass n 0 ws → ⊥
pass-none n ws s i h g p = subst (λ vs. KeysPass n s vs) (drop_all i ws h) (g p)

-- a key is one number
pub one-part : (q : PrimitiveType) (k : IntegerType) → key_kind q ≡ Some k → parts_of q ≡ 1
one-part primitives.Int256 k h = cc
one-part primitives.DaysMs k h = cc
one-part primitives.MonthDayNano k h = cc
one-part q k h = refl

single : (zs : List ℤ) → length zs ≡ 1 → zs ≡ number_of zs ∷ []
single [] h = absurd (omega (arith, h))
single (z ∷ []) h = refl
single (z ∷ y ∷ zs) h = absurd (omega (arith, h))

pub singles : {T : Type 0} (f : T → List ℤ) → ((x : T) → length (f x) ≡ 1) → (xs : List T) → map f xs ≡ map (λ z. z ∷ []) (numbers_in f xs)
singles f h [] = refl
singles f h (x ∷ xs) = ap (λ y. y ∷ map f xs) (single (f x) (h x)) ∙ ap (λ ys. (number_of (f x) ∷ []) ∷ ys) (singles f h xs)

pub keys-laid : (r : Result Layout Error) (moved : Bool) (q : PrimitiveType) (t : TypeTree) (ks : Layout) (ws : List WindowParts) (vs : List (List ℤ)) (va : Validity)
    → MatchResult r (λ a. Fits (primitive q t vs va) × (a ≡ primitive q t vs va)) (λ e. FirstError e (primitive q t vs va)) → ks ≡ primitive q (layout_type ks) (natives_of ks) (validity_of ks) → t ≡ layout_type ks
    → vs ≡ map (λ z. z ∷ []) (joined_keys moved ws) → va ≡ concatenated_validity ws → IfOk r (λ k. k ≡ laid_keys moved ks ws)
keys-laid (Ok a) moved q t ks ws vs va m k e f v =
    let x : primitive q t vs va ≡ primitive q (layout_type ks) (map (λ z. z ∷ []) (joined_keys moved ws)) (concatenated_validity ws) = cc in
    m.1 ∙ subst (λ z. primitive q t vs va ≡ laid_keys moved z ws) (sym k) x
keys-laid (Err x) moved q t ks ws vs va m k e f v = tt
