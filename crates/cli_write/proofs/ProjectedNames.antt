-- Projected names, where an input is copied or appended.
use Rattle.std.proofs.Common.{◌≡◌, ◌⊎◌, inl, inr, ℕ, List, Option, Some, None, Result, Ok, Err, refl}
use Rattle.ipc_schema.specs.Projections.{ProjectionModel}
use Rattle.cli_args.specs.Requests.{SelectionTree}
use Rattle.cli_args.specs.declared.format.Format as forms
use Rattle.cli_rows.specs.declared.error.BatchError.{BatchError}
use Rattle.cli_rows.specs.declared.error.CliError.{CliError}
use Rattle.cli_read.specs.Decoded.{Decoded}
use Rattle.cli_read.specs.ProjectedNames.{FailsToOpenColumns, HasNames}
use Rattle.cli_write.specs.Concat.{FailsToAppendColumns, FollowsAppendedNames}
use Rattle.cli_write.specs.Copies.{Copies, CopiesColumns}
use Rattle.cli_write.specs.declared.concat.AppendError.{AppendError}
use Rattle.cli_write.specs.declared.concat.AppendError.TheVariants as whys
use Rattle.cli_write.specs.declared.writer.BatchWriter.{BatchWriter}
use Rattle.cli_write.proofs.ConcatSteps.{unopened-more}
use Rattle.cli_write.proofs.CopySteps as copying

module _ {W : Type 0} (contents : W → Option (List ℕ)) where
  pub copies-columns : (picks : ProjectionModel) (form : forms.Format) (c : SelectionTree) (x : Option Decoded) (start : W) (result : Result W BatchError) → Copies contents form c x start result → HasNames picks x → CopiesColumns contents picks form c x start result
  copies-columns picks form c None start result h has = tt
  copies-columns picks form c (Some x) start (Ok end) h has = (h, has)
  copies-columns picks form c (Some x) start (Err stop) h has = inl (h, inl has)

  pub uncopied : (picks : ProjectionModel) (form : forms.Format) (c : SelectionTree) (x : Option Decoded) (start : W) (error : CliError) → FailsToOpenColumns picks error x → CopiesColumns contents picks form c x start (Err (record { batch = None; error = error }))
  uncopied picks form c None start error h = tt
  uncopied picks form c (Some x) start error (inl h) = inl (copying.unopened contents form c (Some x) start error h, inr (refl, h))
  uncopied picks form c (Some x) start error (inr h) = inr (refl, h)

  pub unappended : (picks : ProjectionModel) (x : Option Decoded) (old : BatchWriter W) (error : CliError) → FailsToOpenColumns picks error x → FailsToAppendColumns contents picks x old (whys.Batch (record { batch = None; error = error }))
  unappended picks None old error h = inl ((λ form start s went p. tt), tt)
  unappended picks (Some x) old error (inl h) = inl ((λ form start s went p. unopened-more form s went (Some x) error h), inr (refl, h))
  unappended picks (Some x) old error (inr h) = inr (refl, h)

pub append-follows : (picks : ProjectionModel) (x : Option Decoded) (e : AppendError) → HasNames picks x → FollowsAppendedNames picks x e
append-follows picks x whys.Schema h = h
append-follows picks None (whys.Batch stop) h = tt
append-follows picks (Some x) (whys.Batch stop) h = inl h
