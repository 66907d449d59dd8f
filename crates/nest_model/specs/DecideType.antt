-- Equality of data types is decidable, by encoding them as trees.
use Rattle.std.specs.Prelude.{◌≡◌}
use Rattle.std.specs.Coded.{Coded}
use Rattle.std.proofs.Common.{refl, ap, inl, inr}
use base.Stored.{Gv, gnil, gnum, gcons, num}
use Rattle.nest_memory.specs.TypeTree.{TypeTree}
use Rattle.nest_memory.specs.TypeCode.{coded_type, head, tail}
use Rattle.nest_model.specs.Decide.{Decided, decide_number}

-- Equality of encoded trees is decidable.
pub decide_code : (x y : Gv) → Decided (x ≡ y)
decide_code gnil gnil = inl refl
decide_code gnil (gnum n) = inr (λ e. cc)
decide_code gnil (gcons c d) = inr (λ e. cc)
decide_code (gnum m) gnil = inr (λ e. cc)
decide_code (gnum m) (gnum n) = elim (decide_number m n) as (λ _. Decided (gnum m ≡ gnum n)) [ inl e ↦ inl (ap gnum e) | inr k ↦ inr (λ e. k (ap num e)) ]
decide_code (gnum m) (gcons c d) = inr (λ e. cc)
decide_code (gcons a b) gnil = inr (λ e. cc)
decide_code (gcons a b) (gnum n) = inr (λ e. cc)
decide_code (gcons a b) (gcons c d) = elim (decide_code a c) as (λ _. Decided (gcons a b ≡ gcons c d)) [
  | inl e ↦ elim (decide_code b d) as (λ _. Decided (gcons a b ≡ gcons c d)) [
    | inl f ↦ inl (λ i. gcons (e i) (f i))
    | inr k ↦ inr (λ f. k (ap tail f))
  ]
  | inr k ↦ inr (λ e. k (ap head e))
]

pub decide_by : {A : Type 0} (c : Coded A) (x y : A) → Decided (x ≡ y)
decide_by c x y = elim (decide_code (c.code x) (c.code y)) as (λ _. Decided (x ≡ y)) [ inl e ↦ inl (c.inj x y e) | inr k ↦ inr (λ e. k (ap c.code e)) ]

pub decide_type : (x y : TypeTree) → Decided (x ≡ y)
decide_type x y = decide_by coded_type x y
