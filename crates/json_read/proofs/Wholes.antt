-- What the kit reads of digits is what a whole number is.
use Rattle.std.proofs.Common.{◌≡◌, ◌≢◌, ℕ, zero, suc, ◌-◌, ◌^◌, ◌<◌, ◌≤◌, ℤ, pos, negsuc, neg_ℤ, List, [], ◌∷◌, drop, get_or, Bool, true, false, cond, not, ◌&&◌, ltb, Option, Some, None, is_some, unwrap_or, refl, sym, ap, subst, ◌∙◌, arith, rules, lt-ltb, le-ltb, lit<}
use Rattle.std.specs.Prelude.{int_lt, ◌==◌}
use Rattle.std.specs.Char.{is_ascii_digit}
use Rattle.std.specs.Int.Signed.{mag}
use Rattle.std.specs.List.{list_all}
use Rattle.std.specs.Str.Parse.{IsNumeral, digits_value, signed_digits_value, without_leading_plus, without_leading_sign}
use Rattle.std.proofs.Math.Pow.{pow_mono}
use Rattle.std.proofs.lemmas.Bool.Decides.{nat_tests}
use Rattle.std.proofs.lemmas.Int.{to_z-of_z}
use Rattle.std.proofs.lemmas.Nat.{pow_pos}
use Rattle.std.proofs.lemmas.Str.Parse.{digit_from_value, numerals_by_value, IsDigitsTest, IsNumeralModel}
use borrow.Author.Tests.{ltb-true, ne_eqb}
use mir.Syntax.{Width, w64}
use mir.Val.{SFits, hbits, to_z, of_z}
use Rattle.json.specs.Json as json
use Rattle.json.specs.Json.{Json, number}
use Rattle.json_read.specs.FlatValues.{Range, signed, unsigned, is_in, error_unless, integer_error, number_error, number_in}
use Rattle.json_read.specs.NativeNumbers.{spec_range_error}
use Rattle.json_read.specs.Integers.{are_decimal_digits, integer_of}
use Rattle.json_read.specs.declared.value_error.ValueError.{ValueError}
use Rattle.json_read.specs.declared.value_error.ValueError.TheVariants.{NotAnInteger, OutOfRange}

tells : IsDigitsTest (λ ds. list_all is_ascii_digit ds ≡ true)
tells = search rules

own : IsNumeralModel (λ ds. list_all is_ascii_digit ds ≡ true) (digits_value 10)
own = numerals_by_value _ tells

pub are-digits : (ds : List ℕ) → IsNumeral 10 ds → are_decimal_digits ds ≡ true
are-digits [] h = absurd (omega (arith, h.0))
are-digits (c ∷ cs) h = own.from (c ∷ cs) h.1

digits-are : (ds : List ℕ) → are_decimal_digits ds ≡ true → IsNumeral 10 ds
digits-are [] e = absurd (cc)
digits-are (c ∷ cs) e = (omega arith, own.to (c ∷ cs) e)

-- a text without a plus
whole-signed : (s : List ℕ) → get_or s 0 0 ≢ 43 → integer_of s ≡ cond (are_decimal_digits (without_leading_sign s)) (Some (signed_digits_value 10 s)) None
whole-signed [] h = refl
whole-signed (c ∷ cs) h =
    let no_plus : (c == 43) ≡ false = grind (arith, nat_tests) in
    let P : Bool → Type 0 = λ v. cond v (cond (are_decimal_digits cs) (Some (neg_ℤ (pos (digits_value 10 cs)))) None) (cond (are_decimal_digits (c ∷ cs)) (Some (pos (digits_value 10 (c ∷ cs)))) None)
    ≡ cond (are_decimal_digits (cond v cs (drop (cond (c == 43) 1 0) (c ∷ cs)))) (Some (cond v (neg_ℤ (pos (digits_value 10 (cond v cs (drop (cond (c == 43) 1 0) (c ∷ cs)))))) (pos (digits_value 10 (cond v cs (drop (cond (c == 43) 1 0) (c ∷ cs))))))) None in
    elim (c == 45) as P [ true ↦ refl | false ↦ rw no_plus refl ]

-- ---- ranges

within : (h : ℕ) (z : ℤ) → mag z < suc h → not (int_lt z (negsuc h)) && int_lt z (pos (suc h)) ≡ true
within h (pos n) f = lt-ltb n (suc h) f
within h (negsuc m) f = rw (le-ltb h m (omega arith)) refl

inside : (h : ℕ) (z : ℤ) → not (int_lt z (negsuc h)) && int_lt z (pos (suc h)) ≡ true → mag z < suc h
inside h (pos n) e = ltb-true n (suc h) e
inside h (negsuc m) e = grind (arith, nat_tests)

limit : (bits : ℕ) → (h : ℕ) × (2 ^ bits ≡ suc h)
limit bits = let p : 0 < 2 ^ bits = pow_pos bits in (2 ^ bits - 1, omega arith)

in-limit : (h k : ℕ) (z : ℤ) → k ≡ suc h → not (int_lt z (neg_ℤ (pos k))) && int_lt z (pos k) ≡ not (int_lt z (negsuc h)) && int_lt z (pos (suc h))
in-limit h k z e = rw e refl

pub in-signed : (bits : ℕ) (z : ℤ) → mag z < 2 ^ (bits - 1) → is_in (signed bits) z ≡ true
in-signed bits z f = let l = limit (bits - 1) in in-limit l.0 (2 ^ (bits - 1)) z l.1 ∙ within l.0 z (omega (arith, l.1))

pub signed-in : (bits : ℕ) (z : ℤ) → is_in (signed bits) z ≡ true → mag z < 2 ^ (bits - 1)
signed-in bits z e = let l = limit (bits - 1) in let f = inside l.0 z (sym (in-limit l.0 (2 ^ (bits - 1)) z l.1) ∙ e) in omega (arith, l.1)

natural : (n k : ℕ) → not (int_lt (pos n) (pos 0)) && int_lt (pos n) (pos k) ≡ ltb n k
natural n k = rw (le-ltb n 0 (omega arith)) refl

in-unsigned : (bits n : ℕ) → n < 2 ^ bits → is_in (unsigned bits) (pos n) ≡ true
in-unsigned bits n f = natural n (2 ^ bits) ∙ lt-ltb n (2 ^ bits) f

pub unsigned-in : (bits n : ℕ) → is_in (unsigned bits) (pos n) ≡ true → n < 2 ^ bits
unsigned-in bits n e = ltb-true n (2 ^ bits) (sym (natural n (2 ^ bits)) ∙ e)

-- a range has what a smaller one has
pub wider-signed : (b c : ℕ) (z : ℤ) → b ≤ c → is_in (signed b) z ≡ true → is_in (signed c) z ≡ true
wider-signed b c z h e = let k : b - 1 ≤ c - 1 = omega arith in in-signed c z (omega (arith, signed-in b z e, pow_mono k))

pub wider-unsigned : (b c : ℕ) (z : ℤ) → b ≤ c → is_in (unsigned b) z ≡ true → is_in (unsigned c) z ≡ true
wider-unsigned b c (pos n) h e = in-unsigned c n (omega (arith, unsigned-in b n e, pow_mono h))
wider-unsigned b c (negsuc m) h e = absurd (cc)

-- ---- what a text is

whole-valid : (r : Range) (s : List ℕ) (z : ℤ) → integer_of s ≡ Some z → is_in r z ≡ true → (number_error r (number s) ≡ None) × (number_in (number s) ≡ z)
whole-valid r s z e i = (ap (integer_error r) e ∙ rw i refl, ap (λ o. unwrap_or o (pos 0)) e)

whole-range_error : (r : Range) (s : List ℕ) → ((z : ℤ) → integer_of s ≡ Some z → is_in r z ≡ false) → number_error r (number s) ≡ Some (spec_range_error s)
whole-range_error r s h =
    let P : Option ℤ → Type 0 = λ o. integer_of s ≡ o → integer_error r o ≡ Some (cond (is_some o) OutOfRange NotAnInteger) in
    (elim (integer_of s) as P [ None ↦ λ e. refl | Some z ↦ λ e. rw (h z e) refl ]) refl

-- a test that holds, or else does not
outside : (b : Bool) → (b ≡ true → ⊥) → b ≡ false
outside true h = absurd (h refl)
outside false h = refl

some-of : {A : Type 0} (b : Bool) (x y : A) → cond b (Some x) None ≡ Some y → (b ≡ true) × (x ≡ y)
some-of true x y e = (refl, cc)
some-of false x y e = absurd (cc)

-- what the kit reads of a text without a plus
pub signed-ok : (w : Width) (bits : ℕ) (j : Json) (s : List ℕ) (x : ℤ) → bits - 1 ≡ hbits w → (j ≡ number s) × (get_or s 0 0 ≢ 43) → (IsNumeral 10 (without_leading_sign s) × SFits w (signed_digits_value 10 s)) × (x ≡ signed_digits_value 10 s)
    → (number_error (signed bits) j ≡ None) × (number_in j ≡ to_z w (of_z w x))
signed-ok w bits j s x b t p =
    let whole : integer_of s ≡ Some (signed_digits_value 10 s) = whole-signed s t.1 ∙ rw (are-digits (without_leading_sign s) p.0.0) refl in
    let small : mag (signed_digits_value 10 s) < 2 ^ (bits - 1) = rw b p.0.1.sfits in
    let valid = whole-valid (signed bits) s (signed_digits_value 10 s) whole (in-signed bits (signed_digits_value 10 s) small) in
    let fits : SFits w x = rw p.1 p.0.1 in
    (ap (number_error (signed bits)) t.0 ∙ valid.0, ap number_in t.0 ∙ valid.1 ∙ sym p.1 ∙ sym (to_z-of_z w x fits))

-- which of them are 0
zero-bits : (x : ℤ) → mag x < 2 ^ hbits w64 → of_z w64 x ≡ 0 → x ≡ pos 0
zero-bits (pos n) f e = ap pos e
zero-bits (negsuc n) f e = absurd (omega (arith, f, e))

pub zero-read : (s : List ℕ) (x : ℤ) → get_or s 0 0 ≢ 43 → (IsNumeral 10 (without_leading_sign s) × SFits w64 (signed_digits_value 10 s)) × (x ≡ signed_digits_value 10 s) → of_z w64 x ≡ 0 → integer_of s ≡ Some (pos 0)
zero-read s x h p e =
    let fits : mag x < 2 ^ hbits w64 = rw p.1 p.0.1.sfits in
    whole-signed s h ∙ rw (are-digits (without_leading_sign s) p.0.0) (ap Some (sym p.1 ∙ zero-bits x fits e))

pub never-zero : (s : List ℕ) → get_or s 0 0 ≢ 43 → ¬ (IsNumeral 10 (without_leading_sign s) × SFits w64 (signed_digits_value 10 s)) → integer_of s ≢ Some (pos 0)
never-zero s h p e =
    let q = some-of (are_decimal_digits (without_leading_sign s)) (signed_digits_value 10 s) (pos 0) (sym (whole-signed s h) ∙ e) in
    let none : mag (pos 0) < 2 ^ hbits w64 = lit< tt in
    p (digits-are (without_leading_sign s) q.0, record { sfits = rw q.1 none })

pub signed-err : (w : Width) (bits : ℕ) (j : Json) (s : List ℕ) → bits - 1 ≡ hbits w → (j ≡ number s) × (get_or s 0 0 ≢ 43) → ¬ (IsNumeral 10 (without_leading_sign s) × SFits w (signed_digits_value 10 s))
    → number_error (signed bits) j ≡ Some (spec_range_error s)
signed-err w bits j s b t p =
    ap (number_error (signed bits)) t.0 ∙ whole-range_error (signed bits) s (λ z e. outside (is_in (signed bits) z) (λ i.
    let q = some-of (are_decimal_digits (without_leading_sign s)) (signed_digits_value 10 s) z (sym (whole-signed s t.1) ∙ e) in
    let small : mag z < 2 ^ hbits w = subst (λ (k : ℕ). mag z < 2 ^ k) b (signed-in bits z i) in
    p (digits-are (without_leading_sign s) q.0, record { sfits = rw q.1 small })))

-- the same of one without a sign
whole-unsigned : (s : List ℕ) → get_or s 0 0 ≢ 43 → IsNumeral 10 (without_leading_plus s) → integer_of s ≡ Some (pos (digits_value 10 (without_leading_plus s)))
whole-unsigned [] h n = absurd (omega (arith, n.0))
whole-unsigned (c ∷ cs) h n =
    let no_plus : (c == 43) ≡ false = grind (arith, nat_tests) in
    let ds : IsNumeral 10 (c ∷ cs) = subst (λ (v : Bool). IsNumeral 10 (drop (cond v 1 0) (c ∷ cs))) no_plus n in
    let digit = digit_from_value c ds.1.0 in
    let no_minus : (c == 45) ≡ false = ne_eqb c 45 (λ e. omega (arith, digit.0, e)) in
    rw (no_minus, no_plus, are-digits (c ∷ cs) ds) refl

no-minus : (d n : ℕ) → neg_ℤ (pos d) ≡ pos n → pos n ≡ pos 0
no-minus zero n e = sym e
no-minus (suc d) n e = absurd (cc)

unsigned-of : (s : List ℕ) (n : ℕ) → get_or s 0 0 ≢ 43 → integer_of s ≡ Some (pos n) → pos n ≢ pos 0 → IsNumeral 10 (without_leading_plus s) × (digits_value 10 (without_leading_plus s) ≡ n)
unsigned-of [] n h e nz = absurd (cc)
unsigned-of (c ∷ cs) n h e nz =
    let no_plus : (c == 43) ≡ false = grind (arith, nat_tests) in
    let value = digits_value 10 (c ∷ cs) in
    let P : Bool → Type 0 = λ v. cond v (cond (are_decimal_digits cs) (Some (neg_ℤ (pos (digits_value 10 cs)))) None) (cond (are_decimal_digits (c ∷ cs)) (Some (pos value)) None) ≡ Some (pos n) → IsNumeral 10 (c ∷ cs) × (value ≡ n) in
    let with_row : IsNumeral 10 (c ∷ cs) × (value ≡ n) = (elim (c == 45) as P [
      | true ↦ λ k. absurd (nz (no-minus (digits_value 10 cs) n (some-of (are_decimal_digits cs) (neg_ℤ (pos (digits_value 10 cs))) (pos n) k).1))
      | false ↦ λ k. let q = some-of (are_decimal_digits (c ∷ cs)) (pos value) (pos n) k in (digits-are (c ∷ cs) q.0, cc)
    ]) e in
    subst (λ (v : Bool). IsNumeral 10 (drop (cond v 1 0) (c ∷ cs)) × (digits_value 10 (drop (cond v 1 0) (c ∷ cs)) ≡ n)) (sym no_plus) with_row

outside-unsigned : (bits : ℕ) (s : List ℕ) (z : ℤ) → get_or s 0 0 ≢ 43 → ¬ (IsNumeral 10 (without_leading_plus s) × (digits_value 10 (without_leading_plus s) < 2 ^ bits)) → integer_of s ≢ Some (pos 0) → integer_of s ≡ Some z → is_in (unsigned bits) z ≡ true → ⊥
outside-unsigned bits s (negsuc m) h p nz e i = absurd (cc)
outside-unsigned bits s (pos n) h p nz e i =
    let with_row = unsigned-of s n h e (λ k. nz (e ∙ ap Some k)) in
    p (with_row.0, omega (arith, with_row.1, unsigned-in bits n i))

pub unsigned-ok : (bits : ℕ) (j : Json) (s : List ℕ) (n : ℕ) → (j ≡ number s) × (get_or s 0 0 ≢ 43) → (IsNumeral 10 (without_leading_plus s) × (digits_value 10 (without_leading_plus s) < 2 ^ bits)) × (n ≡ digits_value 10 (without_leading_plus s))
    → (number_error (unsigned bits) j ≡ None) × (number_in j ≡ pos n)
unsigned-ok bits j s n t p =
    let whole = whole-unsigned s t.1 p.0.0 in
    let valid = whole-valid (unsigned bits) s (pos (digits_value 10 (without_leading_plus s))) whole (in-unsigned bits (digits_value 10 (without_leading_plus s)) p.0.1) in
    (ap (number_error (unsigned bits)) t.0 ∙ valid.0, ap number_in t.0 ∙ valid.1 ∙ ap pos (sym p.1))

-- a minus before zeros
pub zero-ok : (bits : ℕ) (j : Json) (s : List ℕ) → j ≡ number s → integer_of s ≡ Some (pos 0) → (number_error (unsigned bits) j ≡ None) × (number_in j ≡ pos 0)
zero-ok bits j s t whole =
    let valid = whole-valid (unsigned bits) s (pos 0) whole (in-unsigned bits 0 (pow_pos bits)) in
    (ap (number_error (unsigned bits)) t ∙ valid.0, ap number_in t ∙ valid.1)

pub unsigned-err : (bits : ℕ) (j : Json) (s : List ℕ) → (j ≡ number s) × (get_or s 0 0 ≢ 43) → ¬ (IsNumeral 10 (without_leading_plus s) × (digits_value 10 (without_leading_plus s) < 2 ^ bits)) → integer_of s ≢ Some (pos 0)
    → number_error (unsigned bits) j ≡ Some (spec_range_error s)
unsigned-err bits j s t p nz = ap (number_error (unsigned bits)) t.0 ∙ whole-range_error (unsigned bits) s (λ z e. outside (is_in (unsigned bits) z) (outside-unsigned bits s z t.1 p nz e))

-- ---- narrower numbers

whole-of-valid : (r q : Range) (j : Json) (z : ℤ) → number_error r j ≡ None → number_in j ≡ z → number_error q j ≡ error_unless (is_in q z) OutOfRange
whole-of-valid r q (json.number s) z f e =
    let P : Option ℤ → Type 0 = λ o. integer_error r o ≡ None → unwrap_or o (pos 0) ≡ z → integer_error q o ≡ error_unless (is_in q z) OutOfRange in
    (elim (integer_of s) as P [ None ↦ λ a b. absurd (cc) | Some y ↦ λ a b. ap (λ x. error_unless (is_in q x) OutOfRange) b ]) f e
whole-of-valid r q json.null z f e = absurd (cc)
whole-of-valid r q (json.boolean b) z f e = absurd (cc)
whole-of-valid r q (json.string s) z f e = absurd (cc)
whole-of-valid r q (json.array js) z f e = absurd (cc)
whole-of-valid r q (json.object ms) z f e = absurd (cc)

pub narrow-ok : (r q : Range) (j : Json) (z : ℤ) → (number_error r j ≡ None) × (number_in j ≡ z) → is_in q z ≡ true → number_error q j ≡ None
narrow-ok r q j z h i = whole-of-valid r q j z h.0 h.1 ∙ rw i refl

pub narrow-out : (r q : Range) (j : Json) (z : ℤ) → (number_error r j ≡ None) × (number_in j ≡ z) → is_in q z ≡ false → number_error q j ≡ Some OutOfRange
narrow-out r q j z h i = whole-of-valid r q j z h.0 h.1 ∙ rw i refl

refused : (b : Bool) (e : ValueError) → error_unless b OutOfRange ≡ Some e → Some OutOfRange ≡ Some e
refused true e h = absurd (cc)
refused false e h = h

whole-err : (r q : Range) (o : Option ℤ) (e : ValueError) → ((z : ℤ) → is_in q z ≡ true → is_in r z ≡ true) → integer_error r o ≡ Some e → integer_error q o ≡ Some e
whole-err r q None e w h = h
whole-err r q (Some z) e w h =
    let P : Bool → Type 0 = λ v. is_in q z ≡ v → error_unless v OutOfRange ≡ Some e in
    (elim (is_in q z) as P [
      | true ↦ λ i. let never : None ≡ Some e = sym (ap (λ v. error_unless v OutOfRange) (w z i)) ∙ h in absurd (cc)
      | false ↦ λ i. refused (is_in r z) e h
    ]) refl

narrow-err : (r q : Range) (j : Json) (e : ValueError) → ((z : ℤ) → is_in q z ≡ true → is_in r z ≡ true) → number_error r j ≡ Some e → number_error q j ≡ Some e
narrow-err r q (json.number s) e w h = whole-err r q (integer_of s) e w h
narrow-err r q json.null e w h = h
narrow-err r q (json.boolean b) e w h = h
narrow-err r q (json.string s) e w h = h
narrow-err r q (json.array js) e w h = h
narrow-err r q (json.object ms) e w h = h

pub signed-narrow-err : (b c : ℕ) (j : Json) (e : ValueError) → b ≤ c → number_error (signed c) j ≡ Some e → number_error (signed b) j ≡ Some e
signed-narrow-err b c j e h f = narrow-err (signed c) (signed b) j e (λ z. wider-signed b c z h) f

pub unsigned-narrow-err : (b c : ℕ) (j : Json) (e : ValueError) → b ≤ c → number_error (unsigned c) j ≡ Some e → number_error (unsigned b) j ≡ Some e
unsigned-narrow-err b c j e h f = narrow-err (unsigned c) (unsigned b) j e (λ z. wider-unsigned b c z h) f
