-- Projected names, where an input is opened.
use Rattle.std.proofs.Common.{◌≡◌, ◌⊎◌, inl, inr, ℕ, List, [], Option, Some, None, Result, Ok, Err, refl, sym, subst}
use Rattle.std.specs.Prelude.{⊤}
use Rattle.std.specs.Option.{option_map}
use Rattle.std.proofs.KnownBytes.{Keeps-refl}
use Rattle.ipc_flatbuf.specs.declared.error.IpcReadError as formats
use Rattle.ipc_schema.specs.Projections.{ProjectionModel}
use Rattle.ipc_schema.specs.Schemas.{SchemaModel}
use Rattle.ipc.specs.Streams.{RecordBatchTree}
use Rattle.cli_args.specs.Requests.{RequestTree}
use Rattle.cli_rows.specs.ColumnNames.{unknown_projected_name}
use Rattle.cli_rows.specs.Output.{HasTable}
use Rattle.cli_rows.specs.Tables.{TableTree}
use Rattle.cli_rows.specs.declared.difference.Difference.{Difference}
use Rattle.cli_rows.specs.declared.error.BatchError.{BatchError}
use Rattle.cli_rows.specs.declared.error.CliError.{CliError}
use Rattle.cli_rows.specs.declared.error.CliError.TheVariants.{UnknownName}
use Rattle.cli_read.specs.Comparisons.{ComparesColumns, ComparesInputs}
use Rattle.cli_read.specs.Decoded.{Decoded, table_with}
use Rattle.cli_read.specs.Printed.{Prints, PrintsColumns}
use Rattle.cli_read.specs.ProjectedNames.{FailsToOpenColumns, FollowsNames, HasNames, HasUnknown, StopsForName}
use Rattle.cli_read.specs.Remaining.{FailsToOpen, IsOpened, Remaining, StartsEmpty, with_schema}
use Rattle.cli_read.specs.Takes.{FailsToTake, FailsToTakeColumns, Takes}
use Rattle.cli_read.specs.declared.comparison.inputs.CompareError.{CompareError}
use Rattle.cli_read.specs.declared.comparison.inputs.CompareError.TheVariants.{First, Second, TooManyRows}
use Rattle.cli_read.proofs.BufferSteps.{second-unopened}
use Rattle.cli_read.proofs.EqualFiles.{first-unopened}
use Rattle.cli_read.proofs.PrintSteps as printing
use Rattle.cli_read.proofs.TakeSteps as taking

-- ---- opening

unknown-at : (picks : ProjectionModel) (x : Decoded) (s : SchemaModel) (l : Remaining) (name : Option ℕ) → x ≡ with_schema s l → l.first 0 ≡ Ok [] → unknown_projected_name picks s.fields ≡ name → HasUnknown picks name x
unknown-at picks x s l name is fresh u =
    subst (λ (z : Decoded). HasUnknown picks name z) (sym is)
    (subst (λ (r : Result (List RecordBatchTree) formats.IpcReadError). HasTable (table_with s r) (λ t. unknown_projected_name picks t.schema.fields ≡ name)) (sym fresh) u)

pub names-known : (picks : ProjectionModel) (x : Option Decoded) (s : SchemaModel) (l : Option Remaining) → IsOpened x s l → StartsEmpty l → unknown_projected_name picks s.fields ≡ None → HasNames picks x
names-known picks None s l o fresh u = tt
names-known picks (Some x) s None o fresh u = absurd o
names-known picks (Some x) s (Some l) o fresh u = unknown-at picks x s l None o fresh u

pub name-unknown : (picks : ProjectionModel) (x : Option Decoded) (s : SchemaModel) (l : Option Remaining) (name : ℕ) → IsOpened x s l → StartsEmpty l → unknown_projected_name picks s.fields ≡ Some name → FailsToOpenColumns picks (UnknownName name) x
name-unknown picks None s l name o fresh u = tt
name-unknown picks (Some x) s None name o fresh u = absurd o
name-unknown picks (Some x) s (Some l) name o fresh u = inr (name, refl, unknown-at picks x s l (Some name) o fresh u)

pub unread : (picks : ProjectionModel) (error : CliError) (x : Option Decoded) → FailsToOpen error x → FailsToOpenColumns picks error x
unread picks error None h = tt
unread picks error (Some x) h = inl h

pub names-follow : (picks : ProjectionModel) (x : Option Decoded) (e : BatchError) → HasNames picks x → FollowsNames picks x e
names-follow picks None e h = tt
names-follow picks (Some x) e h = inl h

-- ---- printing

pub prints-columns : (picks : ProjectionModel) (q : RequestTree) (x : Option Decoded) (result : Result ⊤ BatchError) (old new : Option (List ℕ)) → Prints q x result old new → HasNames picks x → PrintsColumns picks q x result old new
prints-columns picks q None result old new p h = tt
prints-columns picks q (Some x) (Ok done) old new p h = (p, h)
prints-columns picks q (Some x) (Err e) old new p h = inl (p, inl h)

pub unprinted : (picks : ProjectionModel) (q : RequestTree) (x : Option Decoded) (old : Option (List ℕ)) (error : CliError) → FailsToOpenColumns picks error x → PrintsColumns picks q x (Err (record { batch = None; error = error })) old old
unprinted picks q None old error h = tt
unprinted picks q (Some x) old error (inl h) = inl (printing.unopened q (Some x) old error h, inr (refl, h))
unprinted picks q (Some x) old error (inr h) = inr ((refl, h), Keeps-refl old)

-- ---- taking

pub takes-opened : (wanted : List ℕ) (x : Option Decoded) (s : SchemaModel) (l : Option Remaining) (t : TableTree) → IsOpened x s l → Takes wanted (option_map (with_schema s) l) t → Takes wanted x t
takes-opened wanted None s l t o h = tt
takes-opened wanted (Some x) s None t o h = absurd o
takes-opened wanted (Some x) s (Some l) t o h = subst (λ (z : Decoded). Takes wanted (Some z) t) (sym o) h

pub take-fails-opened : (wanted : List ℕ) (x : Option Decoded) (s : SchemaModel) (l : Option Remaining) (e : BatchError) → IsOpened x s l → FailsToTake wanted (option_map (with_schema s) l) e → FailsToTake wanted x e
take-fails-opened wanted None s l e o h = tt
take-fails-opened wanted (Some x) s None e o h = absurd o
take-fails-opened wanted (Some x) s (Some l) e o h = subst (λ (z : Decoded). FailsToTake wanted (Some z) e) (sym o) h

pub untaken : (picks : ProjectionModel) (wanted : List ℕ) (x : Option Decoded) (error : CliError) → FailsToOpenColumns picks error x → FailsToTakeColumns picks wanted x (record { batch = None; error = error })
untaken picks wanted None error h = inl (tt, tt)
untaken picks wanted (Some x) error (inl h) = inl (taking.unopened wanted (Some x) error h, inr (refl, h))
untaken picks wanted (Some x) error (inr h) = inr (refl, h)

-- ---- comparing

abbrev pub Answer : Type 0
Answer = Result (Option Difference) CompareError

pub both-opened : (x y : Option Decoded) (s t : SchemaModel) (l m : Option Remaining) (result : Answer) → IsOpened x s l → IsOpened y t m → ComparesInputs (option_map (with_schema s) l) (option_map (with_schema t) m) result → ComparesInputs x y result
both-opened None y s t l m result o p h = tt
both-opened (Some x) None s t l m result o p h = tt
both-opened (Some x) (Some y) s t None m result o p h = absurd o
both-opened (Some x) (Some y) s t (Some l) None result o p h = absurd p
both-opened (Some x) (Some y) s t (Some l) (Some m) result o p h =
    subst (λ (z : Decoded). ComparesInputs (Some z) (Some y) result) (sym o) (subst (λ (z : Decoded). ComparesInputs (Some (with_schema s l)) (Some z) result) (sym p) h)

pub compares-columns : (picks : ProjectionModel) (x y : Option Decoded) (result : Answer) → ComparesInputs x y result → HasNames picks x → HasNames picks y → ComparesColumns picks x y result
compares-columns picks None y result h has other = tt
compares-columns picks (Some x) None result h has other = tt
compares-columns picks (Some x) (Some y) (Ok difference) h has other = (h, has, other)
compares-columns picks (Some x) (Some y) (Err (First stop)) h has other = inl (h, inl (has, other))
compares-columns picks (Some x) (Some y) (Err (Second stop)) h has other = inl (h, (has, inl other))
compares-columns picks (Some x) (Some y) (Err TooManyRows) h has other = inl (h, (has, other))

pub first-uncompared : (picks : ProjectionModel) (x y : Option Decoded) (error : CliError) → FailsToOpenColumns picks error x → ComparesColumns picks x y (Err (First (record { batch = None; error = error })))
first-uncompared picks None y error h = tt
first-uncompared picks (Some x) None error h = tt
first-uncompared picks (Some x) (Some y) error (inl h) = inl (first-unopened (Some x) (Some y) error h, inr (refl, h))
first-uncompared picks (Some x) (Some y) error (inr h) = inr (refl, h)

pub second-uncompared : (picks : ProjectionModel) (x y : Option Decoded) (s : SchemaModel) (l : Option Remaining) (error : CliError) → IsOpened x s l → StartsEmpty l → HasNames picks x → FailsToOpenColumns picks error y
    → ComparesColumns picks x y (Err (Second (record { batch = None; error = error })))
second-uncompared picks None y s l error o fresh has h = tt
second-uncompared picks (Some x) None s l error o fresh has h = tt
second-uncompared picks (Some x) (Some y) s l error o fresh has (inl h) = inl (second-unopened (Some x) (Some y) s l error o fresh h, (has, inr (refl, h)))
second-uncompared picks (Some x) (Some y) s l error o fresh has (inr h) = inr (has, (refl, h))
