-- Native values as slots: ranges of an array without validity, and their equality.
use Rattle.std.specs.Prelude.{Bool, ◌↔◌, IsTrue, None, map}
use Rattle.std.specs.Bool.{Decides}
use Rattle.std.proofs.Common.{◌≡◌, ℕ, ◌+◌, ◌-◌, ◌≤◌, ℤ, List, [], ◌∷◌, length, take, drop, refl, ap, sym, ◌∙◌, arith}
use Rattle.std.proofs.lemmas.List.{length-map}
use Rattle.nest_memory.specs.Sublist.{sublist}
use Rattle.nest_memory.specs.TypeTree.{TypeTree}
use Rattle.nest_memory.specs.declared.datatypes.physical_type.PrimitiveType.{PrimitiveType}
use Rattle.nest_model.specs.Part.{Validity}
use Rattle.nest_model.specs.Accessors.{natives_of}
use Rattle.nest_model.specs.Layout.{Layout, primitive}
use Rattle.nest_model.specs.Slot as slots
use Rattle.nest_model.specs.Slot.{Slot}
use Rattle.nest_model.specs.Meaning.{len, run, slot}
use Rattle.nest_model.specs.Reads.{items-cut}
use Rattle.nest_model.specs.FlatReads.{primitive-slots}
use Rattle.nest_flat.specs.BareSlots.{bare}
use Rattle.nest_flat.proofs.Cutting.{map-cut}

map-map : {A B C : Type 0} (f : B → C) (g : A → B) (xs : List A) → map f (map g xs) ≡ map (λ x. f (g x)) xs
map-map f g [] = refl
map-map f g (x ∷ xs) = ap (λ ys. f (g x) ∷ ys) (map-map f g xs)

map-one : {A B : Type 0} (f : A → B) → ((a b : A) → f a ≡ f b → a ≡ b) → (xs ys : List A) → map f xs ≡ map f ys → xs ≡ ys
map-one f h [] [] e = refl
map-one f h [] (y ∷ ys) e = cc
map-one f h (x ∷ xs) [] e = cc
map-one f h (x ∷ xs) (y ∷ ys) e =
    let first : f x ≡ f y = cc in
    let rest : map f xs ≡ map f ys = cc in
    let p = h x y first in
    let q = map-one f h xs ys rest in
    λ i. p i ∷ q i

module _ {A : Type 0} (numbers : A → List ℤ) where
  -- the slots of raw values
  pub values-run : (k : PrimitiveType) (t : TypeTree) (xs : List A) (o n : ℕ) → o + n ≤ length xs
      → run (slot (primitive k t (map numbers xs) None)) o n ≡ map (λ x. slots.number (numbers x)) (sublist xs o n)
  values-run k t xs o n h =
      let a = primitive k t (map numbers xs) None in
      items-cut a o n (omega (arith, h, length-map xs numbers))
      ∙ ap (λ ss. sublist ss o n) (primitive-slots k t (map numbers xs) None ∙ map-map slots.number numbers xs)
      ∙ sym (map-cut (λ x. slots.number (numbers x)) xs o n)

  -- the slots of an array with its validity, from a slice of its values
  pub values-shown : (k : PrimitiveType) (t : TypeTree) (va : Validity) (a : Layout) (xs ys : List A) (o n : ℕ) → primitive k t (map numbers xs) va ≡ a → ys ≡ xs → o + n ≤ len a
      → run (slot (bare a)) o n ≡ map (λ x. slots.number (numbers x)) (take (o + n - o) (drop o ys))
  values-shown k t va a xs ys o n e f h =
      let m : n ≡ o + n - o = omega arith in
      ap (λ b. run (slot (bare b)) o n) (sym e)
      ∙ values-run k t xs o n (omega (arith, h, ap len e, length-map xs numbers))
      ∙ (λ i. map (λ x. slots.number (numbers x)) (take (m i) (drop o (sym f i))))

  -- the numbers of the values in a slice
  pub raw-shown : (k : PrimitiveType) (t : TypeTree) (va : Validity) (a : Layout) (xs ys : List A) (o n : ℕ) → primitive k t (map numbers xs) va ≡ a → ys ≡ xs
      → map numbers (take (o + n - o) (drop o ys)) ≡ sublist (natives_of a) o n
  raw-shown k t va a xs ys o n e f =
      let m : o + n - o ≡ n = omega arith in
      (λ i. map numbers (take (m i) (drop o (f i)))) ∙ map-cut numbers xs o n ∙ ap (λ b. sublist (natives_of b) o n) e

  number-one : (zs ys : List ℤ) → slots.number zs ≡ slots.number ys → zs ≡ ys
  number-one zs ys e = cc

  pub slot-one : ((a b : A) → numbers a ≡ numbers b → a ≡ b) → (a b : A) → slots.number (numbers a) ≡ slots.number (numbers b) → a ≡ b
  slot-one one a b e = one a b (number-one (numbers a) (numbers b) e)

  -- values with equal numbers are equal
  pub numbers-decide : ((a b : A) → numbers a ≡ numbers b → a ≡ b) → (E : A → A → Bool) → ((a b : A) → Decides (E a b) (numbers a ≡ numbers b)) → (a b : A) → Decides (E a b) (a ≡ b)
  numbers-decide one E d a b = (λ h. one a b ((d a b).0 h), λ e. (d a b).1 (ap numbers e))

-- a comparison of two lists also decides equality of their images under an injective map
pub mapped-same : {A B : Type 0} (f : A → B) → ((a b : A) → f a ≡ f b → a ≡ b) → (ss rs : List B) (xs ys : List A) (r : Bool)
    → ss ≡ map f xs → rs ≡ map f ys → Decides r (xs ≡ ys) → IsTrue r ↔ (ss ≡ rs)
mapped-same f one ss rs xs ys r p q d =
    (λ h. p ∙ ap (map f) (d.0 h) ∙ sym q, λ e. d.1 (map-one f one xs ys (sym p ∙ e ∙ q)))
