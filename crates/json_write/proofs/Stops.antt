-- What follows a value in JSON text, and strings whatever follows them.
use Rattle.std.specs.Prelude.{◌⊎◌}
use Rattle.std.proofs.Common.{◌≡◌, ℕ, List, [], ◌∷◌, ◌++◌, Option, Some, None, sym, ap, ◌∙◌, append_assoc}
use Rattle.std.proofs.lemmas.List.{append_cancel_left}
use Rattle.json.specs.Print.{escape, quoted}
use Rattle.json.specs.Text.{content, plain}
use Rattle.json.proofs.Printed.Strings.{content-escape}

abbrev pub first : List ℕ → ℕ
first [] = 0
first (b ∷ bs) = b

abbrev pub tail : List ℕ → List ℕ
tail [] = []
tail (b ∷ bs) = bs

abbrev pub some_or : {A : Type 0} → A → Option A → A
some_or a None = a
some_or a (Some b) = b

-- nothing, a comma or a closing bracket
abbrev pub Stops : List ℕ → Type 0
Stops [] = Unit {0}
Stops (b ∷ bs) = (b ≡ 44) ⊎ ((b ≡ 93) ⊎ (b ≡ 125))

pub quoted-told : (s z r q : List ℕ) → quoted s ++ r ≡ quoted z ++ q → (s ≡ z) × (r ≡ q)
quoted-told s z r q e =
    let opened : escape s ++ 34 ∷ r ≡ escape z ++ 34 ∷ q = sym (append_assoc (escape s) (34 ∷ []) r) ∙ ap tail e ∙ append_assoc (escape z) (34 ∷ []) q in
    let same : s ≡ z = ap (some_or []) (sym (content-escape s r) ∙ ap (content plain) opened ∙ content-escape z q) in
    (same, ap tail (append_cancel_left (escape s) (34 ∷ r) (34 ∷ q) (opened ∙ ap (λ x. escape x ++ 34 ∷ q) (sym same))))
