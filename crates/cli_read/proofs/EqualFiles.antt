-- Files of equal bytes, of which one is read.
use Rattle.std.proofs.Common.{◌≡◌, ℕ, List, [], ◌∷◌, length, Err, inl, Option, Some, None, Result, refl, sym, subst}
use Rattle.std.specs.Option.{option_map}
use Rattle.std.specs.Io.KnownBytes.{Keeps}
use Rattle.ipc_schema.specs.Projections.{ProjectionModel}
use Rattle.ipc_schema.specs.Schemas.{SchemaModel}
use Rattle.cli_read.specs.Decoded.{Decoded}
use Rattle.cli_rows.specs.Rows.{RowSlot}
use Rattle.cli_rows.specs.declared.difference.Difference.{Difference}
use Rattle.cli_rows.specs.declared.error.CliError.{CliError}
use Rattle.cli_rows.specs.declared.error.CliError.TheVariants.{Input}
use Rattle.cli_read.specs.EqualBytes.{HaveEqualBytes}
use Rattle.cli_read.specs.Remaining.{FailsToOpen, IsOpened, Remaining, with_schema}
use Rattle.cli_read.specs.Comparisons.{ComparesColumns, ComparesInputs}
use Rattle.cli_read.specs.declared.comparison.inputs.CompareError.{CompareError}
use Rattle.cli_read.specs.declared.comparison.inputs.CompareError.TheVariants.{First}
use Rattle.cli_read.proofs.BufferSteps.{why-error}

abbrev pub Answer : Type 0
Answer = Result (Option Difference) CompareError

pub of-kept : (picks : ProjectionModel) (f g : List ℕ → Decoded) (a b c d : Option (List ℕ)) (result : Answer) → Keeps a c → Keeps b d → ComparesColumns picks (option_map f c) (option_map g d) result → ComparesColumns picks (option_map f a) (option_map g b) result
of-kept picks f g None b c d result h k x = tt
of-kept picks f g (Some xs) None c d result h k x = tt
of-kept picks f g (Some xs) (Some ys) None d result h k x = absurd h
of-kept picks f g (Some xs) (Some ys) (Some zs) None result h k x = absurd k
of-kept picks f g (Some xs) (Some ys) (Some zs) (Some ws) result h k x =
    subst (λ (vs : List ℕ). ComparesColumns picks (Some (f xs)) (Some (g vs)) result) k (subst (λ (vs : List ℕ). ComparesColumns picks (Some (f vs)) (Some (g ws)) result) h x)

pub of-alike : (picks : ProjectionModel) (f : List ℕ → Decoded) (a b c : Option (List ℕ)) (result : Answer) → HaveEqualBytes a b → Keeps a c → ComparesColumns picks (option_map f c) (option_map f c) result → ComparesColumns picks (option_map f a) (option_map f b) result
of-alike picks f None b c result e h x = tt
of-alike picks f (Some xs) None c result e h x = tt
of-alike picks f (Some xs) (Some ys) None result e h x = absurd h
of-alike picks f (Some xs) (Some ys) (Some zs) result e h x =
    subst (λ (vs : List ℕ). ComparesColumns picks (Some (f xs)) (Some (f vs)) result) e (subst (λ (vs : List ℕ). ComparesColumns picks (Some (f vs)) (Some (f vs)) result) h x)

pub first-unopened : (x y : Option Decoded) (error : CliError) → FailsToOpen error x → ComparesInputs x y (Err (First (record { batch = None; error = error })))
first-unopened None y error h = tt
first-unopened (Some x) None error h = tt
first-unopened (Some x) (Some y) error h = why-error error (x.first 0) h

pub as-opened : (x : Option Decoded) (s : SchemaModel) (l : Option Remaining) (result : Answer) → IsOpened x s l → ComparesInputs (option_map (with_schema s) l) (option_map (with_schema s) l) result → ComparesInputs x x result
as-opened None s l result o a = tt
as-opened (Some x) s None result o a = absurd o
as-opened (Some x) s (Some l) result o a = subst (λ (z : Decoded). ComparesInputs (Some z) (Some z) result) (sym o) a

pub none-left : (xs : List RowSlot) → length xs ≡ 0 → xs ≡ []
none-left [] e = refl
none-left (x ∷ xs) e = cc

pub device-failed : (x y : Option Decoded) (k : ℕ) → ComparesInputs x y (Err (First (record { batch = Some k; error = Input })))
device-failed None y k = tt
device-failed (Some x) None k = tt
device-failed (Some x) (Some y) k = (tt, inl tt)
