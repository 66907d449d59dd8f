-- Finding names in a set of strings.
use Rattle.std.proofs.Common.{◌≡◌, ℕ, Bool, List, [], ◌∷◌, map, refl, ap}
use Rattle.std.specs.Prelude.{◌||◌}
use Rattle.std.specs.Borrow.{Bor}
use Rattle.std.specs.List.{list_any}
use Rattle.std.specs.Ordering.{nat_cmp, eq_by_cmp}
use Rattle.std.specs.Cmp.Lexicographic.{slice_cmp}
use Rattle.ipc_schema.specs.Projections.{names_contain, str_cmp}

pub texts_named : (texts : List (Bor (List ℕ))) (name : Bor (List ℕ)) → list_any (eq_by_cmp str_cmp name) texts ≡ names_contain (map (λ n. n.now) texts) name.now
texts_named [] name = refl
texts_named (t ∷ texts) name = ap (λ (b : Bool). eq_by_cmp (slice_cmp nat_cmp) name.now t.now || b) (texts_named texts name)
