-- The text of fields, one more at a time.
use Rattle.std.specs.Prelude.{List as Seq, Option, ℤ, nat_lt}
use Rattle.std.specs.Fmt.{signed_decimal}
use Rattle.std.proofs.Common.{◌≡◌, ℕ, zero, suc, ◌+◌, ◌<◌, ◌≤◌, Bool, false, true, List, [], ◌∷◌, ◌++◌, length, get_or, drop, codes, refl, sym, ap, ◌∙◌, arith, append_assoc, append-nil}
use Rattle.std.proofs.lemmas.List.{drop_all}
use Rattle.nest_memory.specs.TypeOf.{field_of, field_list_of}
use Rattle.nest_memory.specs.declared.datatypes.field.Field.{Field}
use Rattle.nest_memory.specs.TypeText.{id_at, separator_text, text_of_field, text_of_fields, text_of_part, text_of_parts, text_of_picks}

drop-at : (fs : Seq Field) (k : ℕ) (d : Field) → k < length fs → drop k fs ≡ get_or fs k d ∷ drop (k + 1) fs
drop-at [] k d h = absurd (omega arith)
drop-at (f ∷ fs) zero d h = refl
drop-at (f ∷ fs) (suc k) d h =
    let z : suc (k + 1) ≡ suc k + 1 = omega arith in
    drop-at fs k d (omega arith) ∙ ap (λ n. get_or fs k d ∷ drop n (f ∷ fs)) z

pub fields-step : (fs : Seq Field) (k : ℕ) (x : Field) (after : Bool) (done sep whole : List ℕ) → k < length fs → x ≡ get_or fs k x → sep ≡ separator_text after
    → done ++ text_of_fields after (field_list_of (drop k fs)) ≡ whole → ((done ++ sep) ++ text_of_field (field_of x)) ++ text_of_fields true (field_list_of (drop (k + 1) fs)) ≡ whole
fields-step fs k x after done sep whole h e s w =
    let rest = text_of_fields true (field_list_of (drop (k + 1) fs)) in
    append_assoc (done ++ sep) (text_of_field (field_of x)) rest
    ∙ append_assoc done sep (text_of_field (field_of x) ++ rest)
    ∙ ap (λ y. done ++ (y ++ (text_of_field (field_of x) ++ rest))) s
    ∙ ap (λ f. done ++ (separator_text after ++ (text_of_field (field_of f) ++ rest))) e
    ∙ sym (ap (λ gs. done ++ text_of_fields after (field_list_of gs)) (drop-at fs k x h))
    ∙ w

pub fields-end : (fs : Seq Field) (k : ℕ) (after : Bool) (head done : List ℕ) → length fs ≤ k → done ++ text_of_fields after (field_list_of (drop k fs)) ≡ text_of_fields false (field_list_of fs)
    → (head ++ done) ++ codes ">" ≡ head ++ (text_of_fields false (field_list_of fs) ++ codes ">")
fields-end fs k after head done h w =
    let all = sym (append-nil done) ∙ sym (ap (λ gs. done ++ text_of_fields after (field_list_of gs)) (drop_all k fs h)) ∙ w in
    append_assoc head done (codes ">") ∙ ap (λ x. head ++ (x ++ codes ">")) all

-- the same for the fields of a union
pub picks-step : (ids : Option (List ℤ)) (fs : Seq Field) (k : ℕ) (x : Field) (done sep whole : List ℕ) → k < length fs → x ≡ get_or fs k x → sep ≡ separator_text (nat_lt 0 k)
    → done ++ text_of_picks ids k (field_list_of (drop k fs)) ≡ whole
    → ((((done ++ sep) ++ text_of_field (field_of x)) ++ codes "=") ++ signed_decimal (id_at ids k)) ++ text_of_picks ids (k + 1) (field_list_of (drop (k + 1) fs)) ≡ whole
picks-step ids fs k x done sep whole h e s w =
    let rest = text_of_picks ids (k + 1) (field_list_of (drop (k + 1) fs)) in
    let id = signed_decimal (id_at ids k) in
    append_assoc (((done ++ sep) ++ text_of_field (field_of x)) ++ codes "=") id rest
    ∙ append_assoc ((done ++ sep) ++ text_of_field (field_of x)) (codes "=") (id ++ rest)
    ∙ append_assoc (done ++ sep) (text_of_field (field_of x)) (codes "=" ++ (id ++ rest))
    ∙ append_assoc done sep (text_of_field (field_of x) ++ (codes "=" ++ (id ++ rest)))
    ∙ ap (λ y. done ++ (y ++ (text_of_field (field_of x) ++ (codes "=" ++ (id ++ rest))))) s
    ∙ ap (λ f. done ++ (separator_text (nat_lt 0 k) ++ (text_of_field (field_of f) ++ (codes "=" ++ (id ++ rest))))) e
    ∙ sym (ap (λ gs. done ++ text_of_picks ids k (field_list_of gs)) (drop-at fs k x h))
    ∙ w

pub picks-end : (ids : Option (List ℤ)) (fs : Seq Field) (k : ℕ) (head done : List ℕ) → length fs ≤ k → done ++ text_of_picks ids k (field_list_of (drop k fs)) ≡ text_of_picks ids 0 (field_list_of fs)
    → (head ++ done) ++ codes ">" ≡ head ++ (text_of_picks ids 0 (field_list_of fs) ++ codes ">")
picks-end ids fs k head done h w =
    let all = sym (append-nil done) ∙ sym (ap (λ gs. done ++ text_of_picks ids k (field_list_of gs)) (drop_all k fs h)) ∙ w in
    append_assoc head done (codes ">") ∙ ap (λ x. head ++ (x ++ codes ">")) all

-- the key and the value of a map, as two fields
pub parts-two : (fs : Seq Field) (x y : Field) → length fs ≡ 2 → x ≡ get_or fs 0 x → y ≡ get_or fs 1 y
    → (text_of_part (codes "key") (field_of x) ++ codes ", ") ++ text_of_part (codes "value") (field_of y) ≡ text_of_parts (field_list_of fs)
parts-two [] x y h e g = absurd (omega arith)
parts-two (a ∷ []) x y h e g = absurd (omega arith)
parts-two (a ∷ b ∷ []) x y h e g =
    append_assoc (text_of_part (codes "key") (field_of x)) (codes ", ") (text_of_part (codes "value") (field_of y))
    ∙ ap (λ z. text_of_part (codes "key") (field_of z) ++ (codes ", " ++ text_of_part (codes "value") (field_of y))) e
    ∙ ap (λ z. text_of_part (codes "key") (field_of a) ++ (codes ", " ++ text_of_part (codes "value") (field_of z))) g
parts-two (a ∷ b ∷ c ∷ fs) x y h e g = absurd (omega arith)

pub parts-other : (fs : Seq Field) → (length fs ≡ 2 → ⊥) → [] ≡ text_of_parts (field_list_of fs)
parts-other [] h = refl
parts-other (a ∷ []) h = refl
parts-other (a ∷ b ∷ []) h = absurd (h refl)
parts-other (a ∷ b ∷ c ∷ fs) h = refl
