-- Theorems about `take`.
use Rattle.std.specs.Prelude.{List, [], ◌∷◌, map, length, get_or}
use Rattle.std.specs.List.{range_with_len}
use Rattle.std.proofs.Common.{◌≡◌, ℕ, suc, refl, ap, sym, ◌∙◌, arith}
use Rattle.std.proofs.lemmas.List.{get_or-map}
use Rattle.nest_model.specs.Selected.{selected}
use Rattle.nest_model.specs.SelectedLaws.{selected-all}
use Rattle.nest_model.specs.Layout.{Layout}
use Rattle.nest_model.specs.Meaning.{len, slots_of}
use Rattle.nest_model.specs.Reads.{slots-length}
use Rattle.nest_model.specs.SameArray.{IsSameArray}
use Rattle.nest_model.specs.Slot as slots
use Rattle.nest_model.specs.Slot.{Slot}
use Rattle.nest_take.specs.Indices.{AreBelow}
use Rattle.nest_take.specs.Taken.{IsTaken}

-- taking all indices in order returns the same array
pub taken-all : (a b : Layout) → IsTaken a (range_with_len 0 (len a)) b → IsSameArray b a
taken-all a b t =
    (t.same_type, t.slots ∙ ap (λ n. selected (slots_of a) (range_with_len 0 n)) (sym (slots-length a)) ∙ selected-all (slots_of a))

-- the indices that js select from is
abbrev pub indices_at : List ℕ → List ℕ → List ℕ
indices_at is js = map (λ j. get_or is j 0) js

pub selected-selected : (ss : List Slot) (is js : List ℕ) → AreBelow js (length is) → selected (selected ss is) js ≡ selected ss (indices_at is js)
selected-selected ss is [] h = refl
selected-selected ss is (j ∷ js) h =
    let a = get_or-map (λ i. get_or ss i slots.null) is j 0 slots.null (h 0 0 (omega arith)) in
    let b = selected-selected ss is js (λ k d l. h (suc k) d (omega arith)) in
    cc

-- two successive takes are one take
pub taken-twice : (a b c : Layout) (is js : List ℕ) → AreBelow js (length is) → IsTaken a is b → IsTaken b js c → IsTaken a (indices_at is js) c
taken-twice a b c is js h t u =
    record { slots = u.slots ∙ ap (λ ss. selected ss js) t.slots ∙ selected-selected (slots_of a) is js h; same_type = u.same_type ∙ t.same_type }
