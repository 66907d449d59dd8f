use Rattle.std.proofs.Common.{◌≡◌, true, refl, sym, subst, inl, inr}
use Rattle.nest_memory.specs.Physical.{physical_type}
use Rattle.nest_model.specs.BuilderItem as items
use Rattle.nest_model.specs.BuilderItem.{holds_kind}
use Rattle.nest_model.specs.BuilderKindLaws.{holds-truth, holds-native, own-native, holds-text, holds-bytes}
use Rattle.nest_model.proofs.builders.flat_kinds_taken.Goals as goal

pub returns-clause-booleans : goal.returns-clause-booleans
returns-clause-booleans c t xs b = (holds-truth (physical_type t) b, λ e. subst (λ k. holds_kind k (items.boolean b) ≡ true) (sym e) refl)

pub returns-clause-natives : goal.returns-clause-natives
returns-clause-natives c t xs p zs = (holds-native (physical_type t) p zs, λ e. subst (λ k. holds_kind k (items.native p zs) ≡ true) (sym e) (own-native p zs))

pub returns-clause-texts : goal.returns-clause-texts
returns-clause-texts c t xs bs = (
  holds-text (physical_type t) bs,
  λ h. elim h as (λ _. holds_kind (physical_type t) (items.utf8 bs) ≡ true) [
    | inl e ↦ subst (λ k. holds_kind k (items.utf8 bs) ≡ true) (sym e) refl
    | inr e ↦ subst (λ k. holds_kind k (items.utf8 bs) ≡ true) (sym e) refl
  ],
)

pub returns-clause-bytes : goal.returns-clause-bytes
returns-clause-bytes c t xs bs = (
  holds-bytes (physical_type t) bs,
  λ h. elim h as (λ _. holds_kind (physical_type t) (items.bytes bs) ≡ true) [
    | inl e ↦ subst (λ k. holds_kind k (items.bytes bs) ≡ true) (sym e) refl
    | inr g ↦ elim g as (λ _. holds_kind (physical_type t) (items.bytes bs) ≡ true) [
      | inl e ↦ subst (λ k. holds_kind k (items.bytes bs) ≡ true) (sym e) refl
      | inr e ↦ subst (λ k. holds_kind k (items.bytes bs) ≡ true) (sym e) refl
    ]
  ],
)
