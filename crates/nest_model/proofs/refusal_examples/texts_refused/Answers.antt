use Rattle.std.specs.Str.{IsUtf8}
use Rattle.std.proofs.Common.{◌≡◌, rules, ℕ, ◌<◌, ◌≤◌, List, [], ◌∷◌, refl, subst, arith}
use Rattle.std.proofs.lemmas.Str.{IsUtf8-encode, IsCharBoundary-start}
use lib.Utf8.{encode}
use Rattle.nest_memory.specs.Sublist.{sublist}
use Rattle.nest_model.specs.Part.{begin, extent}
use Rattle.nest_model.proofs.refusal_examples.texts_refused.Goals as goal

-- Slot 1 would begin with a UTF-8 continuation byte.
pub returns-clause-inside_a_character : goal.returns-clause-inside_a_character
returns-clause-inside_a_character c =
    let a : 4 ≤ 4 = omega arith in
    let b : 1 < 2 = omega arith in
    let d : 0 < 2 = omega arith in
    let e : 128 ≤ 169 = omega arith in
    (a, λ h. let f : 192 ≤ 169 = (IsCharBoundary-start (169 ∷ 98 ∷ []) (h 1 b)).1 d e in absurd (omega arith))

accent : IsUtf8 (195 ∷ 169 ∷ [])
unfolding encode
accent = IsUtf8-encode 233 (search rules)

pub returns-clause-taken : goal.returns-clause-taken
returns-clause-taken c =
    let a : 3 ≤ 4 = omega arith in
    let bytes : List ℕ = 97 ∷ 195 ∷ 169 ∷ 98 ∷ [] in
    let offsets : List ℕ = 1 ∷ 3 ∷ [] in (
      a,
      (
        λ i k.
            let e : 0 ≡ i = omega arith in
            subst (λ j. IsUtf8 (sublist bytes (begin offsets j) (extent offsets j))) e accent,
        (tt, (refl, tt)),
      ),
    )
