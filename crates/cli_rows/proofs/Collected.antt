-- Results for the items of a list.
use Rattle.std.proofs.Common.{◌≡◌, List, [], ◌∷◌, ◌++◌, map, refl, sym, ap, ◌∙◌, length, arith}
use Rattle.std.specs.List.{flat_map}
use Rattle.std.proofs.lemmas.List.{flat_map_more, map-append}

pub gathered-more : {X Y Z W : Type 0} (f : X → Z) (g : W → Z) (h : Y → W) (old new : List X) (x : X) (front : List Y) (y : Y) → new ≡ old ++ x ∷ [] → f x ≡ g (h y)
    → map f old ≡ map g (map h front) → map f new ≡ map g (map h (front ++ y ∷ []))
gathered-more f g h old new x front y pushed same so_far =
    ap (map f) pushed
    ∙ map-append f old (x ∷ [])
    ∙ ap (λ zs. zs ++ f x ∷ []) so_far
    ∙ ap (λ z. map g (map h front) ++ z ∷ []) same
    ∙ sym (ap (map g) (map-append h front (y ∷ [])) ∙ map-append g (map h front) (h y ∷ []))

pub rows-more : {X Y A : Type 0} (f : Y → List A) (h : X → Y) (front : List X) (x : X) (old new : List A) → new ≡ old ++ f (h x) → old ≡ flat_map f (map h front) → new ≡ flat_map f (map h (front ++ x ∷ []))
rows-more f h front x old new more so_far =
    more
    ∙ ap (λ l. l ++ f (h x)) so_far
    ∙ flat_map_more f [] (map h front) (h x)
    ∙ ap (flat_map f) (sym (map-append h front (x ∷ [])))

pub nothing-left : {X : Type 0} (l : List X) → length l ≡ 0 → l ≡ []
nothing-left [] h = refl
nothing-left (x ∷ xs) h = absurd (omega arith)
