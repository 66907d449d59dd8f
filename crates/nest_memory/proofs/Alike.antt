-- Lists compared item by item, through a function of the items.
use Rattle.std.proofs.Common.{◌≡◌, ℕ, zero, suc, ◌<◌, Bool, true, false, List, [], ◌∷◌, map, length, get_or, refl, ap, sym, ◌∙◌, arith}
use Rattle.std.specs.Bool.{Decides}
use Rattle.std.specs.Cmp.{first_so, second_so}
use Rattle.std.specs.Cmp.Lexicographic.{pointwise}
use Rattle.std.specs.Prelude.{◌&&◌}
use Rattle.nest_memory.specs.TypeTree.{FieldTree}
use Rattle.nest_memory.specs.TypeOf.{field_of, field_list_of, field_trees}
use Rattle.nest_memory.specs.declared.datatypes.field.Field.{Field}

module _ {A B : Type 0} (E : A → A → Bool) (f : A → B) (d : (x y : A) → Decides (E x y) (f x ≡ f y)) where
  found : (xs ys : List A) → pointwise E xs ys ≡ true → map f xs ≡ map f ys
  found [] [] h = refl
  found [] (y ∷ ys) h = cc
  found (x ∷ xs) [] h = cc
  found (x ∷ xs) (y ∷ ys) h =
      let a = (d x y).0 (first_so (E x y) (pointwise E xs ys) h) in
      let b = found xs ys (second_so (E x y) (pointwise E xs ys) h) in
      λ i. a i ∷ b i

  back : (xs ys : List A) → map f xs ≡ map f ys → pointwise E xs ys ≡ true
  back [] [] h = refl
  back [] (y ∷ ys) h = cc
  back (x ∷ xs) [] h = cc
  back (x ∷ xs) (y ∷ ys) h =
      let p : f x ≡ f y = cc in
      let q : map f xs ≡ map f ys = cc in
      let a = (d x y).1 p in
      let b = back xs ys q in
      λ i. a i && b i

  pub map-decides : (xs ys : List A) (r : Bool) → r ≡ pointwise E xs ys → Decides r (map f xs ≡ map f ys)
  map-decides xs ys r e = (λ h. found xs ys (sym e ∙ h), λ h. e ∙ back xs ys h)

module _ {A B : Type 0} (f : A → B) where
  pub map-at : (xs ys : List A) → map f xs ≡ map f ys → (i : ℕ) (d e : A) → i < length xs → f (get_or xs i d) ≡ f (get_or ys i e)
  map-at [] ys h i d e lt = absurd (omega arith)
  map-at (x ∷ xs) [] h i d e lt = cc
  map-at (x ∷ xs) (y ∷ ys) h zero d e lt = cc
  map-at (x ∷ xs) (y ∷ ys) h (suc i) d e lt = let q : map f xs ≡ map f ys = cc in map-at xs ys q i d e (omega arith)

  pub map-length : (xs ys : List A) → map f xs ≡ map f ys → length xs ≡ length ys
  map-length [] [] h = refl
  map-length [] (y ∷ ys) h = cc
  map-length (x ∷ xs) [] h = cc
  map-length (x ∷ xs) (y ∷ ys) h = let q : map f xs ≡ map f ys = cc in ap suc (map-length xs ys q)

pub field_trees-one : (xs ys : List FieldTree) → field_trees xs ≡ field_trees ys → xs ≡ ys
field_trees-one [] [] h = refl
field_trees-one [] (y ∷ ys) h = cc
field_trees-one (x ∷ xs) [] h = cc
field_trees-one (x ∷ xs) (y ∷ ys) h =
    let p : x ≡ y = cc in
    let q : field_trees xs ≡ field_trees ys = cc in
    let r = field_trees-one xs ys q in
    λ i. p i ∷ r i

pub fields-length : (xs ys : List Field) → field_list_of xs ≡ field_list_of ys → length xs ≡ length ys
fields-length xs ys h = map-length field_of xs ys (field_trees-one _ _ h)

pub fields-at : (xs ys : List Field) → field_list_of xs ≡ field_list_of ys → (i : ℕ) (d e : Field) → i < length xs → field_of (get_or xs i d) ≡ field_of (get_or ys i e)
fields-at xs ys h = map-at field_of xs ys (field_trees-one _ _ h)
