-- Lists that are equal up to an index.
use Rattle.std.proofs.Common.{◌≡◌, ℕ, ◌+◌, List, ◌++◌, take, sym, ap, ◌∙◌}
use Rattle.std.proofs.Math.Seq.{take-add}
use Rattle.nest_memory.specs.Sublist.{sublist}

pub more-equal : {A : Type 0} (k n : ℕ) (xs ys : List A) → take k xs ≡ take k ys → sublist xs k n ≡ sublist ys k n → take (k + n) xs ≡ take (k + n) ys
more-equal k n xs ys before now =
    take-add k n xs ∙ ap (λ l. l ++ sublist xs k n) before ∙ ap (λ l. take k ys ++ l) now ∙ sym (take-add k n ys)
