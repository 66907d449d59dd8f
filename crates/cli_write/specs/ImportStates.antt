-- States of importing lines.
use Rattle.std.specs.Prelude.{◌≡◌, ◌≤◌, ◌+◌, ◌++◌, ℕ, Bool, true, List, [], drop, length, Option, Some, None, Ok, Err}
use Rattle.ipc.specs.Streams.{RecordBatchTree}
use Rattle.ipc_schema.specs.Schemas.{SchemaModel}
use Rattle.cli_rows.specs.Records.{record_type}
use Rattle.cli_write.specs.Writers.{HasWritten}
use Rattle.cli_write.specs.declared.writer.BatchWriter.{BatchWriter}
use Rattle.cli_write.specs.Imports.{IsImportError, records_of}
use Rattle.cli_write.specs.declared.import.error.ImportError.{ImportError}
use Rattle.cli_write.specs.declared.import.error.ImportError.TheVariants as causes
use Rattle.json_read.specs.JsonLines.{line_rows}
use Rattle.json_read.specs.LineRows.{failure_of}
use Rattle.json_read.specs.LineSplit.{lines_of}
use Rattle.json_read.specs.UnsupportedTypes.{unsupported_type}
use Rattle.json_read.specs.declared.error.JsonReadError.{JsonReadError}
use Rattle.json_read.specs.declared.error.JsonReadError.TheVariants as text_faults
use Rattle.cli_rows.specs.SelectedTables.{batch_rows}
use Rattle.cli_rows.specs.declared.error.CliError.{CliError}
use Rattle.cli_rows.specs.declared.error.CliError.TheVariants as looks
use Rattle.nest_memory.specs.TypeTree.{FieldTree}
use Rattle.nest_model.specs.Slot.{Slot}
use Rattle.cli_args.specs.declared.format.Format.{Format}

-- ---- the lines of one text

-- why its lines are not parsed
abbrev pub IsLinesError : ImportError → List FieldTree → List (List ℕ) → Type 0
IsLinesError (causes.Type e) fs lines = unsupported_type (record_type fs) ≡ Some e
IsLinesError (causes.Line line e) fs lines = line_rows (record_type fs) lines ≡ Err (line, failure_of e)
IsLinesError (causes.Write why) fs lines = ⊥
IsLinesError causes.Overflow fs lines = Unit {0}
IsLinesError causes.Input fs lines = ⊥
IsLinesError causes.Output fs lines = ⊥
IsLinesError causes.Memory fs lines = Unit {0}

-- the first lines of a text were parsed as one record batch, or as none
pub record ReadsBatch (fs : List FieldTree) (text : List ℕ) (used count : ℕ) (old new : List RecordBatchTree) : Type 0 where
  pub first : List (List ℕ)
  pub rows : List Slot
  pub within : used ≤ length text
  pub lines : lines_of text ≡ first ++ lines_of (drop used text)
  pub counted : length first ≡ count
  pub read : line_rows (record_type fs) first ≡ Ok rows
  pub held : batch_rows fs new ≡ batch_rows fs old ++ records_of (record_type fs) rows

-- the error of a text, and that of lines after others
abbrev pub json_import_error : JsonReadError → ImportError
json_import_error (text_faults.Type e) = causes.Type e
json_import_error (text_faults.Line line e) = causes.Line line e
json_import_error text_faults.Overflow = causes.Overflow
json_import_error text_faults.Memory = causes.Memory

abbrev pub spec_after_lines : ℕ → ImportError → ImportError
spec_after_lines n (causes.Line line e) = causes.Line (n + line) e
spec_after_lines n (causes.Type e) = causes.Type e
spec_after_lines n (causes.Write why) = causes.Write why
spec_after_lines n causes.Overflow = causes.Overflow
spec_after_lines n causes.Input = causes.Input
spec_after_lines n causes.Output = causes.Output
spec_after_lines n causes.Memory = causes.Memory

-- ---- the beginning of a text

-- what may follow it: nothing at the end of the input
abbrev pub MayFollow : Bool → List ℕ → Type 0
MayFollow over rest = over ≡ true → rest ≡ []

-- whatever follows, these are the rows of the first lines, which have so many bytes
pub record ReadsPrefix (fs : List FieldTree) (text : List ℕ) (over : Bool) (used count : ℕ) (batches : List RecordBatchTree) : Type 0 where
  pub first : List (List ℕ)
  pub rows : List Slot
  pub within : used ≤ length text
  pub lines : (rest : List ℕ) → MayFollow over rest → lines_of (text ++ rest) ≡ first ++ lines_of (drop used text ++ rest)
  pub counted : length first ≡ count
  pub read : line_rows (record_type fs) first ≡ Ok rows
  pub held : batch_rows fs batches ≡ records_of (record_type fs) rows

-- whatever follows, this is why its lines are not parsed
abbrev pub IsFinalError : ImportError → List FieldTree → List ℕ → Bool → Type 0
IsFinalError e fs text over = (rest : List ℕ) → MayFollow over rest → IsLinesError e fs (lines_of (text ++ rest))

-- ---- written lines

-- the error of an import whose output is not written
abbrev pub import_error : CliError → ImportError
import_error (looks.Write why) = causes.Write why
import_error looks.Memory = causes.Memory
import_error looks.Input = causes.Output
import_error (looks.Read error) = causes.Output
import_error looks.MismatchedColumns = causes.Output
import_error looks.IndexOutOfRange = causes.Output
import_error (looks.Condition error) = causes.Output
import_error (looks.UnknownName i) = causes.Output
import_error looks.Output = causes.Output

-- a schema of these fields without metadata
abbrev pub plain_schema : List FieldTree → SchemaModel
plain_schema fs = record { fields = fs; metadata = [] }

module _ {W : Type 0} (contents : W → Option (List ℕ)) where
  -- the rows of the first lines of a text were written, and these bytes of it remain
  pub record IsImportState (fs : List FieldTree) (form : Format) (text : List ℕ) (start : W) (count : ℕ) (left : List ℕ) (writer : BatchWriter W) : Type 0 where
    pub front : List (List ℕ)
    pub rows : List Slot
    pub went : List RecordBatchTree
    pub lines : lines_of text ≡ front ++ lines_of left
    pub counted : length front ≡ count
    pub read : line_rows (record_type fs) front ≡ Ok rows
    pub held : batch_rows fs went ≡ records_of (record_type fs) rows
    pub put : HasWritten contents form start (plain_schema fs) went writer

  abbrev pub ImportState : List FieldTree → Format → Option (List ℕ) → W → ℕ → Option (List ℕ) → BatchWriter W → Type 0
  ImportState fs form None start count left writer = Unit {0}
  ImportState fs form (Some text) start count None writer = ⊥
  ImportState fs form (Some text) start count (Some left) writer = IsImportState fs form text start count left writer

-- why a text is not written, if it is known
abbrev pub FailsImport : ImportError → List FieldTree → Format → Option (List ℕ) → Type 0
FailsImport e fs form None = Unit {0}
FailsImport e fs form (Some text) = IsImportError e fs form (lines_of text)
