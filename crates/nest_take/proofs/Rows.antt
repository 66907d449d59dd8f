-- An array has the selected slots where each of its slots is the one at its index.
use Rattle.std.specs.Prelude.{List, [], ◌∷◌, length, get_or}
use Rattle.std.proofs.Common.{◌≡◌, ℕ, suc, ◌+◌, ◌<◌, refl, ap, sym, ◌∙◌, arith}
use Rattle.std.proofs.lemmas.List.{get_or-map}
use Rattle.std.proofs.lemmas.List.Elements.{All-get_or}
use Rattle.nest_model.specs.Selected.{selected}
use Rattle.nest_model.specs.SelectedLaws.{length-selected}
use Rattle.nest_model.specs.Layout.{Layout, layout_type}
use Rattle.nest_model.specs.Meaning.{run, len, slot, slots_of}
use Rattle.nest_model.specs.Reads.{slot-place}
use Rattle.nest_model.specs.Slot as slots
use Rattle.nest_model.specs.Slot.{Slot}
use Rattle.nest_take.specs.Indices.{AreBelow}
use Rattle.nest_take.specs.Taken.{IsTaken}

run-list : (f : ℕ → Slot) (ss : List Slot) (o : ℕ) → ((i : ℕ) → i < length ss → f (o + i) ≡ get_or ss i slots.null) → run f o (length ss) ≡ ss
run-list f [] o h = refl
run-list f (s ∷ ss) o h =
    let z : o ≡ o + 0 = omega arith in
    let a = ap f z ∙ h 0 (omega arith) in
    let b = run-list f ss (suc o) (λ i k. let e : suc o + i ≡ o + suc i = omega arith in ap f e ∙ h (suc i) (omega arith)) in
    λ w. a w ∷ b w

pub selected-slots : (a b : Layout) (is : List ℕ) → AreBelow is (len a) → len b ≡ length is
    → ((j : ℕ) → j < length is → slot b j ≡ slot a (get_or is j 0)) → slots_of b ≡ selected (slots_of a) is
selected-slots a b is h n e =
    let l = length-selected (slots_of a) is in
    ap (run (slot b) 0) (n ∙ sym l)
    ∙ run-list (slot b) (selected (slots_of a) is) 0
    (λ i k.
    let j : i < length is = omega arith in
    let z : 0 + i ≡ i = omega arith in
    ap (slot b) z
    ∙ e i j
    ∙ sym (slot-place a (get_or is i 0) slots.null (All-get_or (λ p. p < len a) is i 0 j h))
    ∙ sym (get_or-map (λ p. get_or (slots_of a) p slots.null) is i 0 slots.null j))

pub taken : (a b : Layout) (is : List ℕ) → AreBelow is (len a) → len b ≡ length is
    → ((j : ℕ) → j < length is → slot b j ≡ slot a (get_or is j 0)) → layout_type b ≡ layout_type a → IsTaken a is b
taken a b is h n e t = record { slots = selected-slots a b is h n e; same_type = t }
