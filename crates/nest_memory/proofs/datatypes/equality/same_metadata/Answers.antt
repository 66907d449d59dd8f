use Rattle.std.proofs.Common.{◌≡◌, List, ℕ, string_bytes}
use Rattle.std.specs.Bool.{Decides}
use Rattle.std.specs.Cmp.{first_so, second_so}
use Rattle.std.specs.Cmp.Lexicographic.{pointwise, bytes_decides}
use Rattle.std.specs.Prelude.{◌&&◌, nat_eq}
use Rattle.nest_memory.proofs.Alike.{map-decides}
use Rattle.nest_memory.proofs.datatypes.equality.same_metadata.Goals as goal

-- pairs of strings are equal if both strings are
both : (a b s t : List ℕ) → Decides (pointwise nat_eq a b && pointwise nat_eq s t) (◌≡◌ {A = List ℕ × List ℕ} (a, s) (b, t))
both a b s t = (
  λ h i. ((bytes_decides a b).0 (first_so (pointwise nat_eq a b) (pointwise nat_eq s t) h) i, (bytes_decides s t).0 (second_so (pointwise nat_eq a b) (pointwise nat_eq s t) h) i),
  λ h. let p = (bytes_decides a b).1 (λ i. (h i).0) in let q = (bytes_decides s t).1 (λ i. (h i).1) in λ i. p i && q i,
)

pub returns : goal.returns
returns c = map-decides _ _ (λ x y. both (string_bytes x.0) (string_bytes y.0) (string_bytes x.1) (string_bytes y.1)) _ _ _ c.eq.ensures
