-- Equality of arrays from the results of the comparisons that `==` makes.
use Rattle.std.specs.Prelude.{Bool, true, false, ◌↔◌, IsTrue}
use Rattle.std.proofs.Common.{◌≡◌, ℕ, sym, ◌∙◌}
use Rattle.nest_memory.specs.TypeTree.{TypeTree}
use Rattle.nest_model.specs.Layout.{Layout, layout_type}
use Rattle.nest_model.specs.Meaning.{len, slots_of}
use Rattle.nest_model.specs.SameArray.{IsSameArray}
use Rattle.nest_model.specs.SameArrayLaws.{same-len}

pub types-differ : (a b : Layout) (t u : TypeTree) (r : Bool) → t ≡ layout_type a → u ≡ layout_type b → (IsTrue r ↔ (t ≡ u)) → r ≡ false → IsTrue false ↔ IsSameArray a b
types-differ a b t u r p q e f = (λ h. cc, λ h. sym f ∙ e.1 (p ∙ h.0 ∙ sym q))

pub lengths-differ : (a b : Layout) (m n : ℕ) → m ≡ len a → n ≡ len b → (m ≡ n → ⊥) → IsTrue false ↔ IsSameArray a b
lengths-differ a b m n p q f = (λ h. cc, λ h. absurd (f (p ∙ same-len a b h ∙ sym q)))

pub slots-decide : (a b : Layout) (t u : TypeTree) (r s : Bool) → t ≡ layout_type a → u ≡ layout_type b → (IsTrue r ↔ (t ≡ u)) → r ≡ true → (IsTrue s ↔ (slots_of a ≡ slots_of b)) → IsTrue s ↔ IsSameArray a b
slots-decide a b t u r s p q e f d = (λ h. (sym p ∙ e.0 f ∙ q, d.0 h), λ h. d.1 h.1)
