-- Bytes that are read and not yet parsed.
use Rattle.std.proofs.Common.{◌≡◌, ◌≤◌, ◌+◌, ◌-◌, ℕ, List, ◌++◌, length, drop, take, Option, Some, None, refl, ap, sym, ◌∙◌, arith, append_assoc}
use Rattle.std.specs.Option.{option_map}
use Rattle.std.specs.Io.KnownBytes.{Consumes, Keeps}
use Rattle.std.proofs.lemmas.List.{length-drop, take_all}
use Rattle.std.proofs.lemmas.List.Edits.{take-paste}
use Rattle.std.specs.List.{copy_within}

pub keeps-same : (a : Option (List ℕ)) → Keeps a a
keeps-same None = tt
keeps-same (Some xs) = refl

pub keeps-both : (a b c : Option (List ℕ)) → Keeps a b → Keeps b c → Keeps a c
keeps-both None b c h k = tt
keeps-both (Some xs) None c h k = absurd h
keeps-both (Some xs) (Some ys) None h k = absurd k
keeps-both (Some xs) (Some ys) (Some zs) h k = k ∙ h

pub read-keeps : (text bs : List ℕ) (old new : Option (List ℕ)) → Consumes old new bs → Keeps (option_map (λ rest. text ++ rest) old) (option_map (λ rest. (text ++ bs) ++ rest) new)
read-keeps text bs None new h = tt
read-keeps text bs (Some xs) None h = absurd h
read-keeps text bs (Some xs) (Some ys) h = append_assoc text bs ys ∙ ap (λ zs. text ++ zs) (sym h)

pub moved : (xs ys zs : List ℕ) (n l : ℕ) → n ≤ length xs → l ≡ length xs → ys ≡ copy_within xs n l 0 → zs ≡ take (l - n) ys → drop n xs ≡ zs
moved xs ys zs n l h e f g =
    let rest : l - n ≡ length (drop n xs) = omega (arith, length-drop n xs, e) in
    let at : 0 + (l - n) ≡ l - n = omega arith in
    sym (take_all (l - n) (drop n xs) (omega (arith, rest)))
    ∙ sym (take-paste xs 0 (drop n xs) (l - n) (omega arith) (omega (arith, rest)))
    ∙ ap (λ k. take k (copy_within xs n l 0)) at
    ∙ ap (take (l - n)) (sym f) ∙ sym g
