-- Two tables have one first difference.
use Rattle.std.proofs.Common.{◌≡◌, ℕ, List, Option, Some, None, refl, ap}
use Rattle.cli_rows.specs.Difference.{IsDifference}
use Rattle.cli_rows.specs.Rows.{RowSlot}
use Rattle.cli_rows.specs.Compared.{IsTableDifference, table_rows}
use Rattle.cli_rows.specs.Tables.{TableTree}
use Rattle.cli_rows.specs.declared.difference.Difference.{Difference}
use Rattle.cli_rows.specs.declared.difference.Difference.TheVariants as differences

module _ (one : (xs ys : List RowSlot) (d e : Option ℕ) → IsDifference xs ys d → IsDifference xs ys e → d ≡ e) (s t : TableTree) where
  rows : (d e : Option ℕ) → IsDifference (table_rows s) (table_rows t) d → IsDifference (table_rows s) (table_rows t) e → d ≡ e
  rows d e p q = one (table_rows s) (table_rows t) d e p q

  pub one-difference : (d e : Option Difference) → IsTableDifference s t d → IsTableDifference s t e → d ≡ e
  one-difference None None p q = refl
  one-difference None (Some differences.Schema) p q = absurd (q p.0)
  one-difference None (Some (differences.Row k)) p q = let same = rows None (Some k) p.1 q.1 in absurd cc
  one-difference (Some differences.Schema) None p q = absurd (p q.0)
  one-difference (Some differences.Schema) (Some differences.Schema) p q = refl
  one-difference (Some differences.Schema) (Some (differences.Row k)) p q = absurd (p q.0)
  one-difference (Some (differences.Row k)) None p q = let same = rows (Some k) None p.1 q.1 in absurd cc
  one-difference (Some (differences.Row k)) (Some differences.Schema) p q = absurd (q p.0)
  one-difference (Some (differences.Row k)) (Some (differences.Row j)) p q = let same = rows (Some k) (Some j) p.1 q.1 in let at : k ≡ j = cc in ap (λ n. Some (differences.Row n)) at
