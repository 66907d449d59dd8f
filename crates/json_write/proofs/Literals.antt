-- Numbers, strings and bytes are determined by their text, whatever follows it.
use Rattle.std.proofs.Common.{◌≡◌, ℕ, suc, ◌+◌, ◌/◌, ◌%◌, ◌^◌, ◌<◌, ℤ, pos, negsuc, List, [], ◌∷◌, ◌++◌, map, length, flat_map, Option, Some, None, inl, inr, refl, sym, ap, ap₂, ◌∙◌, subst, arith, append_assoc, lt-ltb, le-ltb as ge-ltb}
use Rattle.std.specs.Char.{digit_char}
use Rattle.std.specs.Fmt.{decimal, signed_decimal}
use Rattle.std.specs.Int.Signed.{mag}
use Rattle.std.specs.List.{join_with_byte}
use Rattle.std.specs.Str.Parse.{AllDigits, digits_value}
use Rattle.std.proofs.lemmas.Bool.{cases_lt}
use Rattle.std.proofs.lemmas.Fmt.{decimal_is_IsNumeral_wide}
use Rattle.std.proofs.lemmas.Str.Parse.{digit_from_value}
use Rattle.json_write.proofs.FloatJson.{float-first, float-told}
use Rattle.json_write.proofs.OneText.{one-text}
use Rattle.json_write.proofs.Stops.{Stops, first, quoted-told, tail}
use Rattle.json_write.specs.Formats.{text_of_numbers}
use Rattle.json_write.specs.JsonText.{hex_byte, hex_quoted, json_of_number, json_of_numbers, json_of_value, string_or}
use Rattle.json_write.specs.TypedSlots.{IsNotNan, NumbersFitIn128Bits}
use Rattle.json_write.specs.declared.format.ValueFormat.{ValueFormat}
use Rattle.json_write.specs.declared.format.ValueFormat.TheVariants.{Float}
use Rattle.nest_memory.specs.declared.datatypes.floats.Precision.{Precision}

-- ---- bytes

digit-told : (d c : ℕ) → digit_char d ≡ digit_char c → d ≡ c
digit-told d c e = elim (cases_lt d 10) [
  | inl small ↦ elim (cases_lt c 10) [
    | inl little ↦ let x : 48 + d ≡ 48 + c = sym (rw (lt-ltb d 10 small) refl) ∙ e ∙ rw (lt-ltb c 10 little) refl in omega arith
    | inr large ↦ let x : 48 + d ≡ 87 + c = sym (rw (lt-ltb d 10 small) refl) ∙ e ∙ rw (ge-ltb c 10 large) refl in omega arith
  ]
  | inr big ↦ elim (cases_lt c 10) [
    | inl little ↦ let x : 87 + d ≡ 48 + c = sym (rw (ge-ltb d 10 big) refl) ∙ e ∙ rw (lt-ltb c 10 little) refl in omega arith
    | inr large ↦ let x : 87 + d ≡ 87 + c = sym (rw (ge-ltb d 10 big) refl) ∙ e ∙ rw (ge-ltb c 10 large) refl in omega arith
  ]
]

byte-told : (b c : ℕ) → digit_char (b / 16) ≡ digit_char (c / 16) → digit_char (b % 16) ≡ digit_char (c % 16) → b ≡ c
byte-told b c h l =
    let high = digit-told (b / 16) (c / 16) h in
    let low = digit-told (b % 16) (c % 16) l in
    omega arith

hex-told : (bs cs : List ℕ) → flat_map hex_byte bs ≡ flat_map hex_byte cs → bs ≡ cs
hex-told [] [] e = refl
hex-told [] (c ∷ cs) e = absurd (omega (arith, ap length e))
hex-told (b ∷ bs) [] e = absurd (omega (arith, ap length e))
hex-told (b ∷ bs) (c ∷ cs) e = ap₂ (λ x (xs : List ℕ). x ∷ xs) (byte-told b c (ap first e) (ap (λ x. first (tail x)) e)) (hex-told bs cs (ap (λ x. tail (tail x)) e))

pub bytes-told : (bs cs r q : List ℕ) → hex_quoted bs ++ r ≡ hex_quoted cs ++ q → (bs ≡ cs) × (r ≡ q)
bytes-told bs cs r q e = let h = quoted-told (flat_map hex_byte bs) (flat_map hex_byte cs) r q e in (hex-told bs cs h.0, h.1)

-- ---- numbers

digits-told : (ds es r q : List ℕ) → AllDigits 10 ds → AllDigits 10 es → Stops r → Stops q → ds ++ r ≡ es ++ q → (ds ≡ es) × (r ≡ q)
digits-told [] [] r q a b h l e = (refl, e)
digits-told [] (c ∷ es) r q a b h l e = let s : Stops (c ∷ (es ++ q)) = subst Stops e h in absurd (omega (arith, s, digit_from_value c b.0))
digits-told (d ∷ ds) [] r q a b h l e = let s : Stops (d ∷ (ds ++ r)) = subst Stops (sym e) l in absurd (omega (arith, s, digit_from_value d a.0))
digits-told (d ∷ ds) (c ∷ es) r q a b h l e =
    let more = digits-told ds es r q a.1 b.1 h l (ap tail e) in
    (ap₂ (λ x (xs : List ℕ). x ∷ xs) (ap first e) more.0, more.1)

decimal-told : (m n : ℕ) (r q : List ℕ) → m < 10 ^ 64 → n < 10 ^ 64 → Stops r → Stops q → decimal m ++ r ≡ decimal n ++ q → (m ≡ n) × (r ≡ q)
decimal-told m n r q a b h l e =
    let x = decimal_is_IsNumeral_wide m a in
    let y = decimal_is_IsNumeral_wide n b in
    let same = digits-told (decimal m) (decimal n) r q x.0.1 y.0.1 h l e in
    (sym x.1 ∙ ap (digits_value 10) same.0 ∙ y.1, same.1)

-- digits begin with a digit
digits-first : (ds r : List ℕ) → 0 < length ds → AllDigits 10 ds → (47 < first (ds ++ r)) × (first (ds ++ r) < 58)
digits-first [] r some d = absurd (omega arith)
digits-first (c ∷ ds) r some d = let k = digit_from_value c d.0 in (omega (arith, k), omega (arith, k))

decimal-first : (n : ℕ) (r : List ℕ) → n < 10 ^ 64 → (47 < first (decimal n ++ r)) × (first (decimal n ++ r) < 58)
decimal-first n r h = let x = decimal_is_IsNumeral_wide n h in digits-first (decimal n) r x.0.0 x.0.1

signed-first : (z : ℤ) (r : List ℕ) → mag z < 2 ^ 128 → first (signed_decimal z ++ r) < 58
signed-first (pos n) r h = (decimal-first n r (omega arith)).1
signed-first (negsuc n) r h = omega arith

signed-told : (z y : ℤ) (r q : List ℕ) → mag z < 2 ^ 128 → mag y < 2 ^ 128 → Stops r → Stops q → signed_decimal z ++ r ≡ signed_decimal y ++ q → (z ≡ y) × (r ≡ q)
signed-told (pos m) (pos n) r q a b h l e = let same = decimal-told m n r q (omega arith) (omega arith) h l e in (ap pos same.0, same.1)
signed-told (pos m) (negsuc n) r q a b h l e = absurd (omega (arith, decimal-first m r (omega arith), ap first e))
signed-told (negsuc m) (pos n) r q a b h l e = absurd (omega (arith, decimal-first n q (omega arith), ap first e))
signed-told (negsuc m) (negsuc n) r q a b h l e =
    let same = decimal-told (suc m) (suc n) r q (omega arith) (omega arith) h l (ap tail e) in
    let one : m ≡ n = omega (arith, same.0) in
    (ap negsuc one, same.1)

abbrev numbers_text : List ℤ → List ℕ
numbers_text zs = join_with_byte 44 (map signed_decimal zs)

joined-told : (z y : ℤ) (zs ys : List ℤ) (r q : List ℕ) → NumbersFitIn128Bits (z ∷ zs) → NumbersFitIn128Bits (y ∷ ys) → numbers_text (z ∷ zs) ++ 93 ∷ r ≡ numbers_text (y ∷ ys) ++ 93 ∷ q
    → ((z ∷ zs) ≡ (y ∷ ys)) × (r ≡ q)
joined-told z y [] [] r q a b e =
    let same = signed-told z y (93 ∷ r) (93 ∷ q) a.0 b.0 (inr (inl refl)) (inr (inl refl)) e in
    (ap (λ x. x ∷ []) same.0, ap tail same.1)
joined-told z y [] (k ∷ ys) r q a b e =
    let rest = numbers_text (k ∷ ys) in
    let same = signed-told z y (93 ∷ r) (44 ∷ (rest ++ 93 ∷ q)) a.0 b.0 (inr (inl refl)) (inl refl) (e ∙ append_assoc (signed_decimal y) (44 ∷ rest) (93 ∷ q)) in
    absurd (omega (arith, ap first same.1))
joined-told z y (k ∷ zs) [] r q a b e =
    let rest = numbers_text (k ∷ zs) in
    let same = signed-told z y (44 ∷ (rest ++ 93 ∷ r)) (93 ∷ q) a.0 b.0 (inl refl) (inr (inl refl)) (sym (append_assoc (signed_decimal z) (44 ∷ rest) (93 ∷ r)) ∙ e) in
    absurd (omega (arith, ap first same.1))
joined-told z y (k ∷ zs) (j ∷ ys) r q a b e =
    let left = numbers_text (k ∷ zs) in
    let right = numbers_text (j ∷ ys) in
    let same = signed-told z y (44 ∷ (left ++ 93 ∷ r)) (44 ∷ (right ++ 93 ∷ q)) a.0 b.0 (inl refl) (inl refl)
    (sym (append_assoc (signed_decimal z) (44 ∷ left) (93 ∷ r)) ∙ e ∙ append_assoc (signed_decimal y) (44 ∷ right) (93 ∷ q)) in
    let more = joined-told k j zs ys r q a.1 b.1 (ap tail same.1) in
    (ap₂ (λ x (xs : List ℤ). x ∷ xs) same.0 more.0, more.1)

-- the first byte after the bracket of an array of two numbers or more
joined-first : (z y : ℤ) (zs : List ℤ) (r : List ℕ) → mag z < 2 ^ 128 → first ((numbers_text (z ∷ y ∷ zs) ++ 93 ∷ []) ++ r) < 58
joined-first z y zs r h =
    let rest = 44 ∷ numbers_text (y ∷ zs) in
    let opened : (numbers_text (z ∷ y ∷ zs) ++ 93 ∷ []) ++ r ≡ signed_decimal z ++ (rest ++ 93 ∷ r) =
    append_assoc (numbers_text (z ∷ y ∷ zs)) (93 ∷ []) r ∙ append_assoc (signed_decimal z) rest (93 ∷ r) in
    omega (arith, signed-first z (rest ++ 93 ∷ r) h, ap first opened)

pub number-first : (zs : List ℤ) (r : List ℕ) → NumbersFitIn128Bits zs → first (json_of_number zs ++ r) < 92
number-first [] r h = omega arith
number-first (z ∷ []) r h = omega (arith, signed-first z r h.0)
number-first (z ∷ y ∷ zs) r h = omega arith

pub number-told : (zs ys : List ℤ) (r q : List ℕ) → NumbersFitIn128Bits zs → NumbersFitIn128Bits ys → Stops r → Stops q → json_of_number zs ++ r ≡ json_of_number ys ++ q → (zs ≡ ys) × (r ≡ q)
number-told [] [] r q a b h l e = (refl, ap (λ x. tail (tail x)) e)
number-told [] (y ∷ []) r q a b h l e = absurd (omega (arith, signed-first y q b.0, ap first e))
number-told [] (y ∷ k ∷ ys) r q a b h l e = absurd (omega (arith, joined-first y k ys q b.0, ap (λ x. first (tail x)) e))
number-told (z ∷ []) [] r q a b h l e = absurd (omega (arith, signed-first z r a.0, ap first e))
number-told (z ∷ []) (y ∷ []) r q a b h l e = let same = signed-told z y r q a.0 b.0 h l e in (ap (λ x. x ∷ []) same.0, same.1)
number-told (z ∷ []) (y ∷ k ∷ ys) r q a b h l e = absurd (omega (arith, signed-first z r a.0, ap first e))
number-told (z ∷ k ∷ zs) [] r q a b h l e = absurd (omega (arith, joined-first z k zs r a.0, ap (λ x. first (tail x)) e))
number-told (z ∷ k ∷ zs) (y ∷ []) r q a b h l e = absurd (omega (arith, signed-first y q b.0, ap first e))
number-told (z ∷ k ∷ zs) (y ∷ j ∷ ys) r q a b h l e =
    joined-told z y (k ∷ zs) (j ∷ ys) r q a b
    (sym (append_assoc (numbers_text (z ∷ k ∷ zs)) (93 ∷ []) r) ∙ ap tail e ∙ append_assoc (numbers_text (y ∷ j ∷ ys)) (93 ∷ []) q)

-- ---- values

signed-above : (z : ℤ) (r : List ℕ) → mag z < 2 ^ 128 → 44 < first (signed_decimal z ++ r)
signed-above (pos n) r h = omega (arith, (decimal-first n r (omega arith)).0)
signed-above (negsuc n) r h = omega arith

-- no number begins with a quote
number-above : (zs : List ℤ) (r : List ℕ) → NumbersFitIn128Bits zs → 44 < first (json_of_number zs ++ r)
number-above [] r h = omega arith
number-above (z ∷ []) r h = signed-above z r h.0
number-above (z ∷ y ∷ zs) r h = omega arith

text-first : (text : Option (List ℕ)) (zs : List ℤ) (r : List ℕ) → NumbersFitIn128Bits zs → first (string_or text (json_of_number zs) ++ r) < 92
text-first None zs r h = number-first zs r h
text-first (Some bs) zs r h = omega arith

float-value-first : (p : Precision) (zs : List ℤ) (r : List ℕ) → NumbersFitIn128Bits zs → first (json_of_numbers (Float p) zs ++ r) < 92
float-value-first p [] r h = omega arith
float-value-first p (z ∷ []) r h = omega (arith, float-first p z r)
float-value-first p (z ∷ y ∷ zs) r h = omega arith

pub value-first : (v : ValueFormat) (zs : List ℤ) (r : List ℕ) → NumbersFitIn128Bits zs → first (json_of_value v zs ++ r) < 92
value-first (Float p) zs r h = float-value-first p zs r h
value-first v zs r h = text-first (text_of_numbers v zs) zs r h

text-told : (s t : Option (List ℕ)) (zs ys : List ℤ) (r q : List ℕ) → NumbersFitIn128Bits zs → NumbersFitIn128Bits ys → Stops r → Stops q
    → ((a : List ℕ) → s ≡ Some a → t ≡ Some a → zs ≡ ys) → string_or s (json_of_number zs) ++ r ≡ string_or t (json_of_number ys) ++ q → (zs ≡ ys) × (r ≡ q)
text-told None None zs ys r q a b h l law e = number-told zs ys r q a b h l e
text-told (Some s) (Some t) zs ys r q a b h l law e = let same = quoted-told s t r q e in (law s refl (ap Some (sym same.0)), same.1)
text-told None (Some t) zs ys r q a b h l law e = absurd (omega (arith, number-above zs r a, ap first e))
text-told (Some s) None zs ys r q a b h l law e = absurd (omega (arith, number-above ys q b, ap first e))

float-value-told : (p : Precision) (zs ys : List ℤ) (r q : List ℕ) → NumbersFitIn128Bits zs → NumbersFitIn128Bits ys → IsNotNan (Float p) zs → IsNotNan (Float p) ys → Stops r → Stops q
    → json_of_numbers (Float p) zs ++ r ≡ json_of_numbers (Float p) ys ++ q → (zs ≡ ys) × (r ≡ q)
float-value-told p (z ∷ []) (y ∷ []) r q a b m n h l e = let same = float-told p z y r q m n h l e in (ap (λ x. x ∷ []) same.0, same.1)
float-value-told p [] (y ∷ []) r q a b m n h l e = absurd (omega (arith, float-first p y q, ap first e))
float-value-told p (z ∷ []) [] r q a b m n h l e = absurd (omega (arith, float-first p z r, ap first e))
float-value-told p (z ∷ []) (y ∷ k ∷ ys) r q a b m n h l e = absurd (omega (arith, float-first p z r, ap first e))
float-value-told p (z ∷ k ∷ zs) (y ∷ []) r q a b m n h l e = absurd (omega (arith, float-first p y q, ap first e))
float-value-told p [] [] r q a b m n h l e = number-told [] [] r q a b h l e
float-value-told p [] (y ∷ k ∷ ys) r q a b m n h l e = number-told [] (y ∷ k ∷ ys) r q a b h l e
float-value-told p (z ∷ k ∷ zs) [] r q a b m n h l e = number-told (z ∷ k ∷ zs) [] r q a b h l e
float-value-told p (z ∷ k ∷ zs) (y ∷ j ∷ ys) r q a b m n h l e = number-told (z ∷ k ∷ zs) (y ∷ j ∷ ys) r q a b h l e

pub value-told : (v : ValueFormat) (zs ys : List ℤ) (r q : List ℕ) → NumbersFitIn128Bits zs → NumbersFitIn128Bits ys → IsNotNan v zs → IsNotNan v ys → Stops r → Stops q
    → json_of_value v zs ++ r ≡ json_of_value v ys ++ q → (zs ≡ ys) × (r ≡ q)
value-told (Float p) zs ys r q a b m n h l e = float-value-told p zs ys r q a b m n h l e
value-told v zs ys r q a b m n h l e = text-told (text_of_numbers v zs) (text_of_numbers v ys) zs ys r q a b h l (one-text v zs ys) e
