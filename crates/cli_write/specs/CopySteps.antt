-- Steps of copying record batches.
use Rattle.std.specs.Prelude.{◌≡◌, ◌+◌, ℕ, List, [], Option, Result}
use Rattle.std.specs.Option.{option_map}
use Rattle.ipc.specs.Streams.{RecordBatchTree}
use Rattle.ipc_schema.specs.Schemas.{SchemaModel}
use Rattle.cli_args.specs.Requests.{SelectionTree}
use Rattle.cli_args.specs.RequestTrees.{selection_tree}
use Rattle.cli_args.specs.declared.format.Format as formats
use Rattle.cli_args.specs.declared.request.Selection.{Selection}
use Rattle.cli_rows.specs.declared.error.BatchError.{BatchError}
use Rattle.cli_rows.specs.declared.error.CliError.{CliError}
use Rattle.cli_read.specs.Readers.{reader_schema, remaining_batches}
use Rattle.cli_read.specs.Remaining.{Remaining, with_schema}
use Rattle.cli_read.specs.declared.reader.BatchReader.{BatchReader}
use Rattle.cli_write.specs.Copies.{Copies}
use Rattle.cli_write.specs.CopyStates.{CopyEnd, CopyState, FailsNextBatch, IsCopyStateError, IsCopyStep}
use Rattle.cli_write.specs.declared.writer.BatchWriter.{BatchWriter}

module _ {W R : Type 0} (contents : W → Option (List ℕ)) (remaining : R → Option (List ℕ)) (place : R → Option ℕ) (bytes : R → Option (List ℕ)) where
  -- from a state of copying the next one, or the end
  abbrev pub CopiesNext : BatchReader R → Selection → BatchWriter W → BatchReader R → Selection → BatchWriter W → Option ℕ → Type 0
  CopiesNext reader left writer new_reader new_left new_writer step =
      (form : formats.Format) (c : SelectionTree) (s : SchemaModel) (t : Option Remaining) (start : W) (front : List RecordBatchTree) (k : ℕ) → reader_schema reader ≡ s
      → CopyState contents form c s t start front k (selection_tree left) (remaining_batches remaining place bytes reader) writer
      → IsCopyStep step (CopyState contents form c s t start front (k + 1) (selection_tree new_left) (remaining_batches remaining place bytes new_reader) new_writer) (CopyEnd contents form c s t start front k new_writer)

  -- from a state of copying the error of the next record batch
  abbrev pub FailsToCopyNext : BatchReader R → Selection → BatchWriter W → CliError → Type 0
  FailsToCopyNext reader left writer e =
      (form : formats.Format) (c : SelectionTree) (s : SchemaModel) (t : Option Remaining) (start : W) (front : List RecordBatchTree) (k : ℕ) → reader_schema reader ≡ s
      → CopyState contents form c s t start front k (selection_tree left) (remaining_batches remaining place bytes reader) writer → FailsNextBatch e form c s front t k

  -- from the first state of copying the end, after so many record batches
  abbrev pub CopiesAll : BatchReader R → Selection → BatchWriter W → BatchWriter W → ℕ → Type 0
  CopiesAll reader left writer new_writer k =
      (form : formats.Format) (c : SelectionTree) (s : SchemaModel) (t : Option Remaining) (start : W) (front : List RecordBatchTree) → reader_schema reader ≡ s
      → CopyState contents form c s t start front 0 (selection_tree left) (remaining_batches remaining place bytes reader) writer → CopyEnd contents form c s t start front k new_writer

  -- from the first state of copying the error of a record batch
  abbrev pub FailsToCopyAll : BatchReader R → Selection → BatchWriter W → BatchError → Type 0
  FailsToCopyAll reader left writer e =
      (form : formats.Format) (c : SelectionTree) (s : SchemaModel) (t : Option Remaining) (start : W) (front : List RecordBatchTree) → reader_schema reader ≡ s
      → CopyState contents form c s t start front 0 (selection_tree left) (remaining_batches remaining place bytes reader) writer → IsCopyStateError e form c s front t

  -- from the first state of copying the complete output, or an error
  abbrev pub Ends : BatchReader R → Selection → BatchWriter W → Result W BatchError → Type 0
  Ends reader left writer result =
      (form : formats.Format) (t : Option Remaining) (start : W)
      → CopyState contents form (selection_tree left) (reader_schema reader) t start [] 0 (selection_tree left) (remaining_batches remaining place bytes reader) writer
      → Copies contents form (selection_tree left) (option_map (with_schema (reader_schema reader)) t) start result
