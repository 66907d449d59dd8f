-- Selections after rows.
use Rattle.std.proofs.Common.{◌≡◌, ℕ, ◌+◌, ◌-◌, List, refl, ap, ◌∙◌, arith}
use Rattle.nest_memory.specs.TypeTree.{FieldTree}
use Rattle.cli_args.specs.Requests.{SelectionTree, all, slice, indices, where_true}
use Rattle.cli_rows.specs.ColumnNames.{spec_selection_error}
use Rattle.cli_rows.specs.RowOrder.{remaining_selection}

pub remaining-none : (c : SelectionTree) → remaining_selection c 0 ≡ c
remaining-none all = refl
remaining-none (slice o n) =
    let e : o - 0 ≡ o = omega arith in
    let f : n - (0 - o) ≡ n = omega arith in
    ap (λ x. slice x (n - (0 - o))) e ∙ ap (slice o) f
remaining-none (where_true c) = refl
remaining-none (indices places) = refl

pub remaining-twice : (c : SelectionTree) (a b : ℕ) → remaining_selection (remaining_selection c a) b ≡ remaining_selection c (a + b)
remaining-twice all a b = refl
remaining-twice (slice o n) a b =
    let e : (o - a) - b ≡ o - (a + b) = omega arith in
    let f : (n - (a - o)) - (b - (o - a)) ≡ n - (a + b - o) = omega arith in
    ap (λ x. slice x ((n - (a - o)) - (b - (o - a)))) e ∙ ap (slice (o - (a + b))) f
remaining-twice (where_true c) a b = refl
remaining-twice (indices places) a b = refl

pub remaining-error : (c : SelectionTree) (k : ℕ) (fs : List FieldTree) → spec_selection_error (remaining_selection c k) fs ≡ spec_selection_error c fs
remaining-error all k fs = refl
remaining-error (slice o n) k fs = refl
remaining-error (where_true c) k fs = refl
remaining-error (indices places) k fs = refl
