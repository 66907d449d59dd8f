-- States of copying record batches.
use Rattle.std.specs.Prelude.{◌≡◌, ◌⊎◌, ◌+◌, ℕ, List, [], ◌∷◌, ◌++◌, length, Option, Some, None, Result, Ok, Err}
use Rattle.nest_memory.specs.TypeTree.{FieldTree}
use Rattle.ipc_schema.specs.Schemas.{SchemaModel}
use Rattle.ipc.specs.Streams.{RecordBatchTree}
use Rattle.cli_rows.specs.ColumnNames.{spec_selection_error}
use Rattle.cli_read.specs.Decoded.{table_with}
use Rattle.cli_rows.specs.declared.error.BatchError.{BatchError}
use Rattle.cli_read.specs.Remaining.{Remaining}
use Rattle.cli_read.specs.RowBuffers.{IsAfter, table_of_batches}
use Rattle.cli_rows.specs.Output.{HasTable}
use Rattle.cli_rows.specs.SelectedTables.{batch_rows}
use Rattle.cli_rows.specs.declared.error.CliError.{CliError}
use Rattle.cli_args.specs.Requests.{SelectionTree}
use Rattle.cli_args.specs.declared.format.Format as forms
use Rattle.cli_write.specs.RemainingSelections.{AreSelectedBatches, IsBatchSelectionError}
use Rattle.cli_rows.specs.RowOrder.{IsInRowOrder, remaining_selection}
use Rattle.cli_write.specs.Copies.{HasSelectedRows, IsCopyError}
use Rattle.cli_write.specs.Writers.{FailsBatches, HasWritten}
use Rattle.cli_write.specs.declared.writer.BatchWriter.{BatchWriter}

module _ {W : Type 0} (contents : W → Option (List ℕ)) where
  -- the selected rows of a record batch were written after the others
  abbrev pub WritesSelection : SelectionTree → List FieldTree → RecordBatchTree → BatchWriter W → BatchWriter W → Type 0
  WritesSelection c fs b old new = (form : forms.Format) (start : W) (s : SchemaModel) (went : List RecordBatchTree) → HasWritten contents form start s went old → (more : List RecordBatchTree) × AreSelectedBatches c fs (b ∷ []) more × HasWritten contents form start s (went ++ more) new

  -- or they are not selected, or not written
  abbrev pub FailsToWriteSelection : CliError → SelectionTree → List FieldTree → RecordBatchTree → BatchWriter W → Type 0
  FailsToWriteSelection error c fs b old =
      IsBatchSelectionError error c fs (b ∷ []) ⊎ ((form : forms.Format) (start : W) (s : SchemaModel) (went : List RecordBatchTree) → HasWritten contents form start s went old → (more : List RecordBatchTree) × AreSelectedBatches c fs (b ∷ []) more × FailsBatches error form s (went ++ more))

  -- so many record batches were read, their selected rows were written after others, and this is selected of the remaining ones
  pub record IsCopyState (form : forms.Format) (c : SelectionTree) (s : SchemaModel) (t : Remaining) (start : W) (front : List RecordBatchTree) (k : ℕ) (now : SelectionTree) (u : Remaining) (writer : BatchWriter W) : Type 0 where
    pub came : List RecordBatchTree
    pub went : List RecordBatchTree
    pub at : IsAfter t k came u
    pub are : AreSelectedBatches c s.fields came went
    pub rest : now ≡ remaining_selection c (length (batch_rows s.fields came))
    pub in_order : IsInRowOrder c
    pub has_column : spec_selection_error c s.fields ≡ None
    pub put : HasWritten contents form start s (front ++ went) writer

  abbrev pub CopyState : forms.Format → SelectionTree → SchemaModel → Option Remaining → W → List RecordBatchTree → ℕ → SelectionTree → Option Remaining → BatchWriter W → Type 0
  CopyState form c s None start front k now u writer = Unit {0}
  CopyState form c s (Some t) start front k now None writer = ⊥
  CopyState form c s (Some t) start front k now (Some u) writer = IsCopyState form c s t start front k now u writer

  -- they are all, or have all selected rows
  pub record IsCopyEnd (form : forms.Format) (c : SelectionTree) (s : SchemaModel) (t : Remaining) (start : W) (front : List RecordBatchTree) (k : ℕ) (writer : BatchWriter W) : Type 0 where
    pub came : List RecordBatchTree
    pub went : List RecordBatchTree
    pub at : t.first k ≡ Ok came
    pub are_all : (t.first k ≡ t.whole) ⊎ HasSelectedRows c (table_of_batches s came)
    pub are : AreSelectedBatches c s.fields came went
    pub has_column : spec_selection_error c s.fields ≡ None
    pub put : HasWritten contents form start s (front ++ went) writer

  abbrev pub CopyEnd : forms.Format → SelectionTree → SchemaModel → Option Remaining → W → List RecordBatchTree → ℕ → BatchWriter W → Type 0
  CopyEnd form c s None start front k writer = Unit {0}
  CopyEnd form c s (Some t) start front k writer = IsCopyEnd form c s t start front k writer

-- it continues, or this was the last step
abbrev pub IsCopyStep : Option ℕ → Type 0 → Type 0 → Type 0
IsCopyStep (Some rows) Next End = Next
IsCopyStep None Next End = End

-- the record batch after so many, which are not sufficient, was not copied
abbrev pub FailsNextBatch : CliError → forms.Format → SelectionTree → SchemaModel → List RecordBatchTree → Option Remaining → ℕ → Type 0
FailsNextBatch error form c s front None k = Unit {0}
FailsNextBatch error form c s front (Some t) k = IsCopyError error c form front (table_with s (t.first (k + 1))) × HasTable (table_with s (t.first k)) (λ h. HasSelectedRows c h → ⊥)

abbrev pub FailsAfterBatches : Option ℕ → CliError → forms.Format → SelectionTree → SchemaModel → List RecordBatchTree → Option Remaining → Type 0
FailsAfterBatches None error form c s front t = ⊥
FailsAfterBatches (Some k) error form c s front t = FailsNextBatch error form c s front t k

abbrev pub IsCopyStateError : BatchError → forms.Format → SelectionTree → SchemaModel → List RecordBatchTree → Option Remaining → Type 0
IsCopyStateError stop form c s front t = FailsAfterBatches stop.batch stop.error form c s front t
