-- Values at indices: one by one, and through a function.
use Rattle.std.specs.Prelude.{Some, None, List, [], ◌∷◌, ◌++◌, map, slice_get, length, get_or, option_map}
use Rattle.std.proofs.Common.{◌≡◌, ℕ, ◌+◌, ◌<◌, true, take, drop, refl, ap, sym, ◌∙◌, arith}
use Rattle.std.proofs.lemmas.List.{get_or-map, length-map, map-append, map_more}
use Rattle.std.proofs.lemmas.Simd.{map-map}
use Rattle.std.proofs.lemmas.Option.{get_or_from_slice_get, slice_get-map}
use Rattle.nest_model.specs.Part.{Validity, valid_at}
use Rattle.nest_model.specs.Fits.{ValidityFits}
use Rattle.nest_take.specs.Indices.{AreAt, AreBelow, ReachesBits, taken_validity}

-- one more value
pub at-more : {A : Type 0} (xs : List A) (is : List ℕ) (ys : List A) (k : ℕ) (y : A) → k < length is → AreAt xs (take k is) ys
    → slice_get xs (get_or is k 0) ≡ Some y → AreAt xs (take (k + 1) is) (ys ++ y ∷ [])
at-more xs is ys k y h e f =
    map-append Some ys (y ∷ []) ∙ ap (λ zs. zs ++ Some y ∷ []) e ∙ ap (λ z. map (slice_get xs) (take k is) ++ z ∷ []) (sym f) ∙ sym (map_more (slice_get xs) is k 0 h)

pub at-length : {A : Type 0} (xs : List A) (is : List ℕ) (ys : List A) → AreAt xs is ys → length ys ≡ length is
at-length xs is ys e = sym (length-map ys Some) ∙ ap length e ∙ length-map is (slice_get xs)

-- each value, where there is one
pub at-get : {A : Type 0} (xs : List A) (is : List ℕ) (ys : List A) (j : ℕ) (d : A) → AreAt xs is ys → j < length is → get_or ys j d ≡ get_or xs (get_or is j 0) d
at-get xs is ys j d e h =
    let l : j < length ys = omega (arith, at-length xs is ys e) in
    let a = get_or-map Some ys j d None l in
    let b = get_or-map (slice_get xs) is j 0 None h in
    let c = ap (λ zs. get_or zs j None) e in
    sym (get_or_from_slice_get xs (get_or is j 0) (get_or ys j d) d (sym b ∙ sym c ∙ a))

-- all of them
pub at-equal : {A : Type 0} (d : A) (xs : List A) (is : List ℕ) (ys : List A) → AreAt xs is ys → ys ≡ map (λ i. get_or xs i d) is
at-equal d xs [] [] e = refl
at-equal d xs [] (y ∷ ys) e = absurd (let l = at-length xs [] (y ∷ ys) e in omega arith)
at-equal d xs (i ∷ is) [] e = absurd (let l = at-length xs (i ∷ is) [] e in omega arith)
at-equal d xs (i ∷ is) (y ∷ ys) e =
    let a = at-get xs (i ∷ is) (y ∷ ys) 0 d e (omega arith) in
    let b = at-equal d xs is ys (ap (drop 1) e) in
    cc

-- through a function
pub at-map : {A B : Type 0} (f : A → B) (xs : List A) (is : List ℕ) (ys : List A) → AreAt xs is ys → AreAt (map f xs) is (map f ys)
at-map f xs is ys e =
    map-map Some f ys ∙ sym (map-map (option_map f) Some ys) ∙ ap (map (option_map f)) e ∙ map-map (option_map f) (slice_get xs) is
    ∙ map-ext (λ i. option_map f (slice_get xs i)) (slice_get (map f xs)) (λ i. sym (slice_get-map f xs i)) is
  where
    map-ext : {X Y : Type 0} (g h : X → Y) → ((x : X) → g x ≡ h x) → (zs : List X) → map g zs ≡ map h zs
    map-ext g h k [] = refl
    map-ext g h k (z ∷ zs) = let a = k z in let b = map-ext g h k zs in cc

-- the bits of a validity at indices are those of the rows there
pub at-valid : (va : Validity) (is : List ℕ) (j : ℕ) → j < length is → valid_at (taken_validity va is) j ≡ valid_at va (get_or is j 0)
at-valid None is j h = refl
at-valid (Some bits) is j h = get_or-map (λ i. get_or bits i true) is j 0 true h

pub taken-fits : (va : Validity) (is : List ℕ) → ValidityFits (taken_validity va is) (length is)
taken-fits None is = tt
taken-fits (Some bits) is = length-map is (λ i. get_or bits i true)

-- indices of slots have bits
pub reaches : (va : Validity) (n : ℕ) (is : List ℕ) → ValidityFits va n → AreBelow is n → ReachesBits va is
reaches None n is h b = tt
reaches (Some bits) n is h b = λ j d l. let a = b j d l in omega arith
