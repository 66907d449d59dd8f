-- Lines of JSON as tables.
use Rattle.std.specs.Prelude.{◌≡◌, ◌++◌, ℕ, List, [], map, Option, Some, None, Result, Ok, Err}
use Rattle.std.specs.Io.KnownBytes.{Appends}
use Rattle.cli_rows.specs.Records.{record_type}
use Rattle.cli_rows.specs.Rows.{RowSlot}
use Rattle.cli_write.specs.Copies.{IsWriteRefusal}
use Rattle.cli_write.specs.declared.import.error.ImportError.{ImportError}
use Rattle.cli_write.specs.declared.import.error.ImportError.TheVariants as causes
use Rattle.json_read.specs.JsonLines.{line_rows}
use Rattle.json_read.specs.LineRows.{failure_of}
use Rattle.json_read.specs.LineSplit.{lines_of}
use Rattle.json_read.specs.UnsupportedTypes.{unsupported_type}
use Rattle.cli_rows.specs.Compared.{table_rows}
use Rattle.cli_rows.specs.Encodings.{IsEncodingOf}
use Rattle.cli_rows.specs.Tables.{TableTree}
use Rattle.nest_memory.specs.TypeTree.{FieldTree, TypeTree}
use Rattle.nest_model.specs.Slot.{Slot}
use Rattle.cli_args.specs.declared.format.Format.{Format}

-- slots as rows of a type
abbrev pub records_of : TypeTree → List Slot → List RowSlot
records_of t ss = map (λ s. (t, s)) ss

-- a table of these fields without metadata, whose rows are the lines
pub record HasRows (fs : List FieldTree) (lines : List (List ℕ)) (h : TableTree) : Type 0 where
  pub rows : List Slot
  pub fields : h.schema.fields ≡ fs
  pub plain : h.schema.metadata ≡ []
  pub read : line_rows (record_type fs) lines ≡ Ok rows
  pub held : table_rows h ≡ records_of (record_type fs) rows

-- bytes were written that decode to such a table
abbrev pub WritesLines : List FieldTree → Format → List (List ℕ) → Option (List ℕ) → Option (List ℕ) → Type 0
WritesLines fs form lines old new = (h : TableTree) × (bytes : List ℕ) × HasRows fs lines h × IsEncodingOf form h bytes × Appends old new bytes

-- Records of the fields are not read from JSON; or a line is invalid, and it is the first; or the first lines cannot be written. Or reading
-- or writing failed, a limit was exceeded, or an allocation failed.
abbrev pub IsImportError : ImportError → List FieldTree → Format → List (List ℕ) → Type 0
IsImportError (causes.Type e) fs form lines = unsupported_type (record_type fs) ≡ Some e
IsImportError (causes.Line line e) fs form lines = line_rows (record_type fs) lines ≡ Err (line, failure_of e)
IsImportError (causes.Write why) fs form lines = (first : List (List ℕ)) × (others : List (List ℕ)) × (h : TableTree) × (lines ≡ first ++ others) × HasRows fs first h × IsWriteRefusal form h why
IsImportError causes.Overflow fs form lines = Unit {0}
IsImportError causes.Input fs form lines = Unit {0}
IsImportError causes.Output fs form lines = Unit {0}
IsImportError causes.Memory fs form lines = Unit {0}

-- from the bytes of a reader to those of a writer, if they are known
abbrev pub Imports : {W : Type 0} → (W → Option (List ℕ)) → List FieldTree → Format → Option (List ℕ) → W → Result W ImportError → Type 0
Imports contents fs form None start result = Unit {0}
Imports contents fs form (Some text) start (Ok end) = WritesLines fs form (lines_of text) (contents start) (contents end)
Imports contents fs form (Some text) start (Err e) = IsImportError e fs form (lines_of text)
