-- Equality of ranges of slots, slot by slot.
use Rattle.std.specs.Prelude.{Bool, true, false, ◌↔◌, IsTrue, IsSome, Some, None}
use Rattle.std.proofs.Common.{◌≡◌, ℕ, ◌+◌, ◌<◌, ◌≤◌, refl, ap, sym, ◌∙◌, get_or, arith}
use Rattle.nest_model.specs.Part.{Validity, valid_at}
use Rattle.nest_model.specs.Accessors.{validity_of}
use Rattle.nest_model.specs.Layout.{Layout}
use Rattle.nest_model.specs.Slot as slots
use Rattle.nest_model.specs.Slot.{Slot}
use Rattle.nest_model.specs.Meaning.{run, slot}
use Rattle.nest_model.specs.Runs.{get_or-run, run-ext}
use Rattle.nest_flat.specs.BareSlots.{bare, slot-bare}

-- equal ranges are equal at each index
pub same-at : (f g : ℕ → Slot) (o p n k : ℕ) → run f o n ≡ run g p n → k < n → f (o + k) ≡ g (p + k)
same-at f g o p n k e h =
    sym (get_or-run f o n k slots.null h) ∙ ap (λ ss. get_or ss k slots.null) e ∙ get_or-run g p n k slots.null h

-- ranges differ if one comparison of slots is false, and are equal if every comparison is true
pub runs-differ : (f g : ℕ → Slot) (o p n k : ℕ) (r : Bool) → (IsTrue r ↔ (f (o + k) ≡ g (p + k))) → r ≡ false → k < n → IsTrue false ↔ (run f o n ≡ run g p n)
runs-differ f g o p n k r e d h = (λ t. cc, λ s. sym d ∙ e.1 (same-at f g o p n k s h))

pub runs-same : (f g : ℕ → Slot) (o p n k : ℕ) → ((i : ℕ) → i < k → f (o + i) ≡ g (p + i)) → n ≤ k → IsTrue true ↔ (run f o n ≡ run g p n)
runs-same f g o p n k e h = (λ t. run-ext f g o p n (λ i l. e i (omega arith)), λ s. refl)

-- a validity that tests as absent is `None`
pub no-validity : (va : Validity) (r : Bool) → (IsTrue r ↔ IsSome va) → r ≡ false → va ≡ None
no-validity None r e f = refl
no-validity (Some bits) r e f = let t = e.1 refl in cc

-- the slots of an array whose validity tests as absent are its raw values
pub run-bare : (a : Layout) (o n : ℕ) (r : Bool) → (IsTrue r ↔ IsSome (validity_of a)) → r ≡ false → run (slot (bare a)) o n ≡ run (slot a) o n
run-bare a o n r e f =
    run-ext (slot (bare a)) (slot a) o o n
    (λ i h. slot-bare a (o + i) (ap (λ va. valid_at va (o + i)) (no-validity (validity_of a) r e f)))
