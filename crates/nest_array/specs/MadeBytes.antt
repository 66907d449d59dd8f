-- Fixed-size binary arrays built from items, one after another.
use Rattle.std.specs.Prelude.{◌⊎◌, Option, Some, None, is_some, not, ◌||◌, alloc_error}
use Rattle.std.specs.Borrow.{Bor}
use Rattle.std.specs.List.{All}
use Rattle.std.specs.Option.{option_copied}
use Rattle.std.proofs.Common.{◌≡◌, ℕ, suc, ◌+◌, ◌<◌, List, [], ◌∷◌, ◌++◌, length, map, take, get_or, refl, ap, sym, subst, ◌∙◌, inl, inr, arith}
use Rattle.std.proofs.Math.Seq.{take-suc}
use Rattle.std.proofs.lemmas.List.Elements.{All-nil, All-cons, All-head, All-tail, All-push}
use Rattle.nest_memory.specs.TypeTree.{size_of}
use Rattle.nest_memory.specs.declared.error.Error.{Error}
use Rattle.nest_memory.specs.declared.error.Error.TheVariants.{Memory, InvalidArgumentError}
use Rattle.nest_memory.specs.declared.error.ArgumentError.TheVariants.{ItemSize}
use Rattle.nest_model.specs.Layout.{Layout, layout_type}
use Rattle.nest_model.specs.Meaning.{slots_of}
use Rattle.nest_model.specs.Slot as slots
use Rattle.nest_flat.specs.FlatParts.{optional}
use Rattle.nest_flat.specs.Growth.{is_masked}
use Rattle.nest_flat.specs.Slices.{has_null}
use Rattle.nest_array.specs.FixedBytes.{IsMadeOf, IsOtherSize}

-- one more item
pub taken-more : {A : Type 0} (xs : List A) (i : ℕ) (x : A) → i < length xs → x ≡ get_or xs i x → take (i + 1) xs ≡ take i xs ++ x ∷ []
taken-more xs i x h e =
    let k : i + 1 ≡ suc i = omega arith in
    ap (λ n. take n xs) k ∙ take-suc xs i x h ∙ ap (λ y. take i xs ++ y ∷ []) (sym e)

pub map-push : {A B : Type 0} (f : A → B) (xs : List A) (x : A) → map f (xs ++ x ∷ []) ≡ map f xs ++ f x ∷ []
map-push f [] x = refl
map-push f (y ∷ xs) x = ap (λ zs. f y ∷ zs) (map-push f xs x)

pub has_null-push : {A : Type 0} (xs : List (Option A)) (x : Option A) → has_null (xs ++ x ∷ []) ≡ (has_null xs || not (is_some x))
has_null-push [] None = refl
has_null-push [] (Some y) = refl
has_null-push (None ∷ xs) x = refl
has_null-push (Some y ∷ xs) x = has_null-push xs x

pub made-push : (size : ℕ) (xs : List (Option (List ℕ))) (x : Option (List ℕ)) (a b : Layout) → IsMadeOf size xs a → slots_of b ≡ slots_of a ++ optional slots.bytes x ∷ []
    → is_masked b ≡ (is_masked a || not (is_some x)) → layout_type b ≡ layout_type a → ¬ IsOtherSize size x → IsMadeOf size (xs ++ x ∷ []) b
made-push size xs x a b k s m t n = record {
  typed = t ∙ k.typed;
  spelled = s ∙ ap (λ ss. ss ++ optional slots.bytes x ∷ []) k.spelled ∙ sym (map-push (optional slots.bytes) xs x);
  masked = m ∙ ap (λ c. c || not (is_some x)) k.masked ∙ sym (has_null-push xs x);
  sized = All-push (λ y. ¬ IsOtherSize size y) xs x k.sized n;
}

pub made-more : (size : ℕ) (xs : List (Option (Bor (List ℕ)))) (x : Option (Bor (List ℕ))) (a b : Layout) → IsMadeOf size (map option_copied xs) a → slots_of b ≡ slots_of a ++ optional slots.bytes (option_copied x) ∷ []
    → is_masked b ≡ (is_masked a || not (is_some (option_copied x))) → layout_type b ≡ layout_type a → ¬ IsOtherSize size (option_copied x) → IsMadeOf size (map option_copied (xs ++ x ∷ [])) b
made-more size xs x a b k s m t n =
    subst (λ ys. IsMadeOf size ys b) (sym (map-push option_copied xs x)) (made-push size (map option_copied xs) (option_copied x) a b k s m t n)

-- the data type of the array so far has the same size
pub made-size : (a b : Layout) (xs : List (Option (List ℕ))) → IsMadeOf (size_of (layout_type a)) xs b → size_of (layout_type b) ≡ size_of (layout_type a)
made-size a b xs k = ap size_of k.typed

-- the items so far have the size
pub taken-sized : (size : ℕ) (xs : List (Option (Bor (List ℕ)))) (a : Layout) → IsMadeOf size (map option_copied xs) a → All (λ x. ¬ IsOtherSize size (option_copied x)) xs
taken-sized size xs a k = all-mapped xs k.sized
  where
    all-mapped : (ys : List (Option (Bor (List ℕ)))) → All (λ x. ¬ IsOtherSize size x) (map option_copied ys) → All (λ x. ¬ IsOtherSize size (option_copied x)) ys
    all-mapped [] h = All-nil (λ x. ¬ IsOtherSize size (option_copied x))
    all-mapped (y ∷ ys) h =
        All-cons (λ x. ¬ IsOtherSize size (option_copied x)) y ys (All-head (λ x. ¬ IsOtherSize size x) (option_copied y) (map option_copied ys) h)
        (all-mapped ys (All-tail (λ x. ¬ IsOtherSize size x) (option_copied y) (map option_copied ys) h))

pub refused-sized : (e : Error) (P : Type 0) → (e ≡ InvalidArgumentError ItemSize) ⊎ (e ≡ Memory alloc_error) → (e ≡ InvalidArgumentError ItemSize → P) → (e ≡ Memory alloc_error) ⊎ ((e ≡ InvalidArgumentError ItemSize) × P)
refused-sized e P (inl s) f = inr (s, f s)
refused-sized e P (inr m) f = inl m
