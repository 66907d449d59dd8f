-- Escapes of a byte and of a run of bytes.
use Rattle.std.proofs.Common.{◌≡◌, ℕ, suc, ◌+◌, ◌-◌, ◌<◌, ◌≤◌, ◌/◌, ◌%◌, true, false, List, [], ◌∷◌, ◌++◌, length, get_or, take, take_all, drop, length-drop, get_or-drop, codes, flat_map, inl, inr, refl, sym, ap, ap₂, ◌∙◌, arith, append_assoc, append-nil, le-ltb as ge-ltb, lt-ltb}
use Rattle.std.specs.Char.{digit_char}
use Rattle.std.proofs.lemmas.Bool.{cases_lt, ne_eqb, false≢true}
use Rattle.std.proofs.lemmas.Bool.Decides.{nat_tests}
use Rattle.std.proofs.lemmas.List.{drop_more, drop_all, take_more}
use Rattle.std.proofs.lemmas.List.Concat.{flat_map-append}
use Rattle.json.specs.Print.{escape_byte, escape}
use Rattle.json.proofs.Printed.Strings.{escape_byte_plain}
use Rattle.json_write.specs.JsonText.{must_escape, hex_byte}

-- a byte without an escape
pub plain-byte : (x : ℕ) → must_escape x ≡ false → escape_byte x ≡ x ∷ []
plain-byte x h = escape_byte_plain x (λ e. false≢true (sym h ∙ ap must_escape e)) (λ e. false≢true (sym h ∙ ap must_escape e)) (elim (cases_lt x 32) [
  | inl small ↦ absurd (false≢true (sym h ∙ rw (lt-ltb x 32 small) refl))
  | inr big ↦ big
])

-- only ASCII bytes have escapes
pub escapes-ascii : (x : ℕ) → must_escape x ≡ true → x < 128
escapes-ascii x h = grind (arith, nat_tests)

-- a control character without a short escape
control : (x : ℕ) → must_escape x ≡ true → (x ≡ 34 → ⊥) → (x ≡ 92 → ⊥) → x < 32
control x h q b = elim (cases_lt x 32) [
  | inl small ↦ small
  | inr big ↦ absurd (false≢true (sym (rw (ge-ltb x 32 big, ne_eqb x 34 q, ne_eqb x 92 b) refl) ∙ h))
]

pub escape-control : (c : ℕ) → must_escape c ≡ true → (c ≡ 34 → ⊥) → (c ≡ 92 → ⊥) → (c ≡ 8 → ⊥) → (c ≡ 12 → ⊥) → (c ≡ 10 → ⊥) → (c ≡ 13 → ⊥) → (c ≡ 9 → ⊥) → codes "\\u00" ++ hex_byte c ≡ escape_byte c
unfolding escape_byte
escape-control c h q s b f n r t =
    rw (ne_eqb c 34 q, ne_eqb c 92 s, ne_eqb c 8 b, ne_eqb c 12 f, ne_eqb c 10 n, ne_eqb c 13 r, ne_eqb c 9 t, lt-ltb c 32 (control c h q s)) refl

add-back : (a b : ℕ) → a ≤ b → a + (b - a) ≡ b
add-back a b h = omega arith

-- a byte without an escape extends the run
pub keep-byte : (s done whole : List ℕ) (start i : ℕ) → start ≤ i → i < length s → must_escape (get_or s i 0) ≡ false
    → done ++ (take (i - start) (drop start s) ++ escape (drop i s)) ≡ whole → done ++ (take (i + 1 - start) (drop start s) ++ escape (drop (i + 1) s)) ≡ whole
keep-byte s done whole start i low within plain text =
    let at : get_or (drop start s) (i - start) 0 ≡ get_or s i 0 = rw (get_or-drop start s (i - start) 0, add-back start i low) in
    let more = take_more (drop start s) (i - start) 0 (omega (arith, length-drop start s)) in
    let next : i + 1 - start ≡ i - start + 1 = omega arith in
    let read : done ++ (take (i - start) (drop start s) ++ (get_or s i 0 ∷ escape (drop (i + 1) s))) ≡ whole =
    ap (λ e. done ++ (take (i - start) (drop start s) ++ (e ++ escape (drop (i + 1) s)))) (sym (plain-byte (get_or s i 0) plain))
    ∙ ap (λ e. done ++ (take (i - start) (drop start s) ++ escape e)) (sym (drop_more s i 0 within))
    ∙ text in
    ap (λ n. done ++ (take n (drop start s) ++ escape (drop (i + 1) s))) next
    ∙ ap (λ x. done ++ (x ++ escape (drop (i + 1) s))) (more ∙ ap (λ x. take (i - start) (drop start s) ++ x ∷ []) at)
    ∙ ap (λ x. done ++ x) (append_assoc (take (i - start) (drop start s)) (get_or s i 0 ∷ []) (escape (drop (i + 1) s)))
    ∙ read

-- a byte with an escape ends the run
pub end-run : (s done whole : List ℕ) (start i : ℕ) → i < length s → done ++ (take (i - start) (drop start s) ++ escape (drop i s)) ≡ whole
    → ((done ++ take (i - start) (drop start s)) ++ escape_byte (get_or s i 0)) ++ (take (i + 1 - (i + 1)) (drop (i + 1) s) ++ escape (drop (i + 1) s)) ≡ whole
end-run s done whole start i within text =
    let zero : i + 1 - (i + 1) ≡ 0 = omega arith in
    let run = take (i - start) (drop start s) in
    ap (λ n. ((done ++ run) ++ escape_byte (get_or s i 0)) ++ (take n (drop (i + 1) s) ++ escape (drop (i + 1) s))) zero
    ∙ append_assoc (done ++ run) (escape_byte (get_or s i 0)) (escape (drop (i + 1) s))
    ∙ append_assoc done run (escape_byte (get_or s i 0) ++ escape (drop (i + 1) s))
    ∙ ap (λ e. done ++ (run ++ escape e)) (sym (drop_more s i 0 within))
    ∙ text

-- the last run
pub last-run : (s done whole : List ℕ) (start i : ℕ) → start ≤ i → i ≡ length s → done ++ (take (i - start) (drop start s) ++ escape (drop i s)) ≡ whole → done ++ drop start s ≡ whole
last-run s done whole start i low end text =
    let all : take (i - start) (drop start s) ≡ drop start s = take_all _ _ (omega (arith, length-drop start s)) in
    let none : drop i s ≡ [] = drop_all i s (omega arith) in
    sym (ap (λ x. done ++ x) (ap (λ x. x ++ escape (drop i s)) all ∙ ap (λ x. drop start s ++ escape x) none ∙ append-nil (drop start s))) ∙ text

-- one more byte
pub more-text : (f : ℕ → List ℕ) (xs : List ℕ) (k x : ℕ) → k < length xs → x ≡ get_or xs k 0 → flat_map f (take k xs) ++ f x ≡ flat_map f (take (k + 1) xs)
more-text f xs k x h e =
    ap (λ y. flat_map f (take k xs) ++ y) (ap f e ∙ sym (append-nil (f (get_or xs k 0))))
    ∙ sym (flat_map-append f (take k xs) (get_or xs k 0 ∷ []))
    ∙ ap (flat_map f) (sym (take_more xs k 0 h))

-- three numbers, as two and one
pub three-text : (a b c : List ℕ) → (91 ∷ (a ++ 44 ∷ b)) ++ (44 ∷ (c ++ 93 ∷ [])) ≡ 91 ∷ ((a ++ 44 ∷ (b ++ 44 ∷ c)) ++ 93 ∷ [])
three-text a b c =
    ap (λ x. 91 ∷ x) (append_assoc a (44 ∷ b) (44 ∷ (c ++ 93 ∷ []))
    ∙ ap (λ x. a ++ 44 ∷ x) (sym (append_assoc b (44 ∷ c) (93 ∷ [])))
    ∙ sym (append_assoc a (44 ∷ (b ++ 44 ∷ c)) (93 ∷ [])))

-- hexadecimal digits need no escape
digit-plain : (d : ℕ) → d < 16 → escape_byte (digit_char d) ≡ digit_char d ∷ []
digit-plain d h = elim (cases_lt d 10) [
  | inl small ↦ rw (lt-ltb d 10 small) (escape_byte_plain (48 + d) (λ e. omega arith) (λ e. omega arith) (omega arith))
  | inr big ↦ rw (ge-ltb d 10 big) (escape_byte_plain (87 + d) (λ e. omega arith) (λ e. omega arith) (omega arith))
]

pub escape-hex : (bs : List ℕ) → ((i : ℕ) → get_or bs i 0 < 256) → flat_map hex_byte bs ≡ escape (flat_map hex_byte bs)
escape-hex [] h = refl
escape-hex (b ∷ bs) h =
    let small : b < 256 = h 0 in
    ap (λ x. digit_char (b / 16) ∷ digit_char (b % 16) ∷ x) (escape-hex bs (λ i. h (suc i)))
    ∙ sym (ap₂ (λ (x y : List ℕ). x ++ (y ++ escape (flat_map hex_byte bs))) (digit-plain (b / 16) (omega arith)) (digit-plain (b % 16) (omega arith)))
