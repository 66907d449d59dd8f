-- Laws: an index is null if and only if its slot is `Null`, or in a dictionary, if and only if its key is null.
-- The null count is the number of null indices.
use Rattle.std.specs.Prelude.{true, false, not, Some, None, List, [], ◌∷◌, length, get_or, take, if◌then◌else◌}
use Rattle.std.specs.List.{count_by, range_with_len}
use Rattle.std.proofs.Common.{◌≡◌, ℕ, zero, suc, ◌+◌, ◌<◌, ◌≤◌, Bool, refl, ap, sym, ◌∙◌, arith}
use Rattle.std.proofs.Math.Seq.{drop-cons}
use Rattle.std.proofs.lemmas.List.Sums.{sum_by-cons}
use Rattle.nest_memory.specs.Sublist.{sublist}
use Rattle.nest_model.specs.Part.{valid_at}
use Rattle.nest_model.specs.Slot as slots
use Rattle.nest_model.specs.Slot.{Slot}
use Rattle.nest_model.specs.Layout.{Layout, null, boolean, primitive, binary, utf8, fixed_size_binary, fixed_size_list, list, map, struct, union, dictionary}
use Rattle.nest_model.specs.Accessors.{validity_of}
use Rattle.nest_model.specs.Meaning.{len, slot}
use Rattle.nest_model.specs.Array.{TopFits}
use Rattle.nest_model.specs.Reads.{union-slot}
use Rattle.nest_model.specs.Nullness.{is_null_at, null_count, has_keys}

unless-valid : (b : Bool) (s : Slot) → not b ≡ true → (if b then s else slots.null) ≡ slots.null
unless-valid true s h = cc
unless-valid false s h = refl

-- The slot at a null index is `Null`.
pub null_at-slot : (a : Layout) (i : ℕ) → is_null_at a i ≡ true → slot a i ≡ slots.null
null_at-slot (null t n) i h = refl
null_at-slot (union t ks cs os start) i h = cc
null_at-slot (dictionary t ks c) i h = unless-valid (valid_at (validity_of ks) i) _ h
null_at-slot a i h = unless-valid (valid_at (validity_of a) i) _ h

value-there : (b : Bool) (s : Slot) → (s ≡ slots.null → ⊥) → (if b then s else slots.null) ≡ slots.null → not b ≡ true
value-there true s n h = absurd (n h)
value-there false s n h = refl

-- Without keys, an index whose slot is `Null` is null.
pub slot-null_at : (a : Layout) (i : ℕ) → TopFits a → i < len a → has_keys a ≡ false → slot a i ≡ slots.null → is_null_at a i ≡ true
slot-null_at (null t n) i f l k h = refl
slot-null_at (boolean t bs va) i f l k h = value-there (valid_at va i) _ (λ e. cc) h
slot-null_at (primitive p t vs va) i f l k h = value-there (valid_at va i) _ (λ e. cc) h
slot-null_at (binary w t os bs va) i f l k h = value-there (valid_at va i) _ (λ e. cc) h
slot-null_at (utf8 w t os bs va) i f l k h = value-there (valid_at va i) _ (λ e. cc) h
slot-null_at (fixed_size_binary t bs va) i f l k h = value-there (valid_at va i) _ (λ e. cc) h
slot-null_at (fixed_size_list t c va) i f l k h = value-there (valid_at va i) _ (λ e. cc) h
slot-null_at (list w t os c va) i f l k h = value-there (valid_at va i) _ (λ e. cc) h
slot-null_at (map t os c va) i f l k h = value-there (valid_at va i) _ (λ e. cc) h
slot-null_at (struct t cs va) i f l k h = value-there (valid_at va i) _ (λ e. cc) h
slot-null_at (union t ks cs os start) i f l k h = let p = union-slot t ks cs os start i f l in let e = p.1.picks in cc
slot-null_at (dictionary t ks c) i f l k h = cc

-- Counts.
counted : {A : Type 0} (p : A → Bool) (x : A) (xs : List A) → count_by p (x ∷ xs) ≡ (if p x then 1 else 0) + count_by p xs
counted p x xs = sum_by-cons (λ y. if p y then 1 else 0) x xs

count-range : (bits : List Bool) (o n : ℕ) → o + n ≤ length bits → count_by (λ i. not (get_or bits i true)) (range_with_len o n) ≡ count_by not (sublist bits o n)
count-range bits o zero h = refl
count-range bits o (suc n) h =
    let d = drop-cons bits o true (omega arith) in
    let e = count-range bits (o + 1) n (omega arith) in
    let k : suc o ≡ o + 1 = omega arith in
    let f : sublist bits o (suc n) ≡ get_or bits o true ∷ sublist bits (o + 1) n = ap (take (suc n)) d ∙ ap (λ q. get_or bits o true ∷ sublist bits q n) k in
    counted (λ i. not (get_or bits i true)) o (range_with_len (o + 1) n)
    ∙ ap (λ m. (if not (get_or bits o true) then 1 else 0) + m) e
    ∙ sym (counted not (get_or bits o true) (sublist bits (o + 1) n))
    ∙ ap (count_by not) (sym f)

cut-all : (bits : List Bool) → sublist bits 0 (length bits) ≡ bits
cut-all [] = refl
cut-all (b ∷ bits) = ap (◌∷◌ b) (cut-all bits)

null_at-bits : (a : Layout) (bits : List Bool) (i : ℕ) → validity_of a ≡ Some bits → is_null_at a i ≡ not (get_or bits i true)
null_at-bits (null t n) bits i h = cc
null_at-bits a bits i h = ap (λ v. not (valid_at v i)) h

-- With a validity, the null count is the number of unset bits.
pub null_count-bits : (a : Layout) (bits : List Bool) → validity_of a ≡ Some bits → length bits ≡ len a → null_count a ≡ count_by not bits
null_count-bits a bits h l =
    (λ w. count_by (λ i. null_at-bits a bits i h w) (range_with_len 0 (len a)))
    ∙ ap (λ n. count_by (λ i. not (get_or bits i true)) (range_with_len 0 n)) (sym l)
    ∙ count-range bits 0 (length bits) (omega arith)
    ∙ ap (count_by not) (cut-all bits)

none-counted : (o n : ℕ) → count_by (λ i. false) (range_with_len o n) ≡ 0
none-counted o zero = refl
none-counted o (suc n) = counted (λ i. false) o (range_with_len (o + 1) n) ∙ (let e = none-counted (o + 1) n in omega arith)

all-counted : (o n : ℕ) → count_by (λ i. true) (range_with_len o n) ≡ n
all-counted o zero = refl
all-counted o (suc n) = counted (λ i. true) o (range_with_len (o + 1) n) ∙ (let e = all-counted (o + 1) n in omega arith)

-- Without a validity, the null count is 0, except that of a null array, which is its length.
pub null_count-null : (a : Layout) → is_null_at a 0 ≡ true → validity_of a ≡ None → null_count a ≡ len a
null_count-null (null t n) k h = all-counted 0 n
null_count-null a k h = absurd (let e = ap (λ v. not (valid_at v 0)) h in cc)

pub null_count-none : (a : Layout) → is_null_at a 0 ≡ false → validity_of a ≡ None → null_count a ≡ 0
null_count-none (null t n) k h = cc
null_count-none a k h = (λ w. count_by (λ i. not (valid_at (h w) i)) (range_with_len 0 (len a))) ∙ none-counted 0 (len a)
